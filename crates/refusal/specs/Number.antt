-- The numbers of the planner's refusals (docs/SPEC.md, section 1), by the names of src/lib.rt.
use Rattle.std.specs.Prelude.{ℕ, List, [], ◌∷◌, map}
use Rattle.refusal.specs.declared.Refusal.{Refusal}
use Rattle.refusal.specs.declared.Refusal.TheVariants as refusals

-- the text
-- a line of the text breaks its form
abbrev pub line_malformed : Refusal
line_malformed = refusals.LineMalformed

-- a record is missing, repeated or out of order
abbrev pub record_order : Refusal
record_order = refusals.RecordOrder

-- the text has more than 65,536 bytes; looked at before 1 and 2
abbrev pub text_too_long : Refusal
text_too_long = refusals.TextTooLong

-- ranges
-- a range's start is not below its end, or one of them is no page multiple
abbrev pub range_invalid : Refusal
range_invalid = refusals.RangeInvalid

-- the map, the imported ranges or the RAM list do not ascend or are not disjoint; touching is
-- allowed
abbrev pub ranges_not_ascending : Refusal
ranges_not_ascending = refusals.RangesNotAscending

-- selection
-- the map has more than 1,024 entries, there are more than 256 imported ranges, or boot mode has
-- no map
abbrev pub map_count_of : Refusal
map_count_of = refusals.MapCount

-- boot mode: the map has more than 64 nodes, or a node's number is not below their count
abbrev pub node_numbers : Refusal
node_numbers = refusals.NodeNumbers

-- boot mode: a RAM size is given and is below the file's length
abbrev pub ram_size_below_file : Refusal
ram_size_below_file = refusals.RamSizeBelowFile

-- a node's share, or the end of an isolated guest's range, is above 2^64 - 4,096
abbrev pub share_too_large : Refusal
share_too_large = refusals.ShareTooLarge

-- boot mode: a piece of the file lies in no map entry
abbrev pub file_not_in_map : Refusal
file_not_in_map = refusals.FileNotInMap

-- boot mode: an imported range overlaps the file and does not lie inside it
abbrev pub import_crosses_file : Refusal
import_crosses_file = refusals.ImportCrossesFile

-- boot mode: a piece of an imported range lies in no map entry, and is not the one page from
-- fffff000 of a Tdx guest
abbrev pub import_not_in_map : Refusal
import_not_in_map = refusals.ImportNotInMap

-- boot mode: a node's free bytes are fewer than it needs
abbrev pub node_too_small : Refusal
node_too_small = refusals.NodeTooSmall

-- a 65th piece would be chosen, or a 1,025th free piece found
abbrev pub too_many_pieces : Refusal
too_many_pieces = refusals.TooManyPieces

-- the builder
-- the RAM list has more than 64 entries
abbrev pub ram_count_of : Refusal
ram_count_of = refusals.RamCount

-- the table to build into is not empty
abbrev pub table_not_empty : Refusal
table_not_empty = refusals.TableNotEmpty

-- there are more than 20 reserved ranges
abbrev pub reserved_count : Refusal
reserved_count = refusals.ReservedCount

-- two reserved ranges overlap
abbrev pub reserved_overlap : Refusal
reserved_overlap = refusals.ReservedOverlap

-- a byte of a reserved range lies outside the used range
abbrev pub reserved_outside_used : Refusal
reserved_outside_used = refusals.ReservedOutsideUsed

-- there are more than 64 pool ranges, one overlaps another or the used range, or they and the used
-- pieces are more than 84
abbrev pub pool_ranges : Refusal
pool_ranges = refusals.PoolRanges

-- a byte of the used range or of a pool range lies outside the RAM
abbrev pub used_outside_ram : Refusal
used_outside_ram = refusals.UsedOutsideRam

-- a request
-- the length is 0
abbrev pub length_zero : Refusal
length_zero = refusals.LengthZero

-- the length is above 2^64 - 4,096
abbrev pub length_too_large : Refusal
length_too_large = refusals.LengthTooLarge

-- the alignment is no power of two
abbrev pub alignment_invalid : Refusal
alignment_invalid = refusals.AlignmentInvalid

-- no entry fits
abbrev pub no_fit : Refusal
no_fit = refusals.NoFit

-- splitting the chosen entry would give more than 256 entries
abbrev pub table_full : Refusal
table_full = refusals.TableFull

-- the private pool
-- 2^52 pages or more are asked for
abbrev pub pool_too_large : Refusal
pool_too_large = refusals.PoolTooLarge

-- the pool is split, and the table has no node or more nodes than there are pages
abbrev pub pool_split : Refusal
pool_split = refusals.PoolSplit

-- the pool is split, and a node has no entry that fits its piece
abbrev pub pool_node_no_fit : Refusal
pool_node_no_fit = refusals.PoolNodeNoFit

-- the number of a refusal
abbrev pub number_of : Refusal → ℕ
number_of refusals.LineMalformed = 1
number_of refusals.RecordOrder = 2
number_of refusals.TextTooLong = 3
number_of refusals.RangeInvalid = 4
number_of refusals.RangesNotAscending = 5
number_of refusals.MapCount = 6
number_of refusals.NodeNumbers = 7
number_of refusals.RamSizeBelowFile = 8
number_of refusals.ShareTooLarge = 9
number_of refusals.FileNotInMap = 10
number_of refusals.ImportCrossesFile = 11
number_of refusals.ImportNotInMap = 12
number_of refusals.NodeTooSmall = 13
number_of refusals.TooManyPieces = 14
number_of refusals.RamCount = 15
number_of refusals.TableNotEmpty = 16
number_of refusals.ReservedCount = 17
number_of refusals.ReservedOverlap = 18
number_of refusals.ReservedOutsideUsed = 19
number_of refusals.PoolRanges = 20
number_of refusals.UsedOutsideRam = 21
number_of refusals.LengthZero = 22
number_of refusals.LengthTooLarge = 23
number_of refusals.AlignmentInvalid = 24
number_of refusals.NoFit = 25
number_of refusals.TableFull = 26
number_of refusals.PoolTooLarge = 27
number_of refusals.PoolSplit = 28
number_of refusals.PoolNodeNoFit = 29

-- the numbers of all of them, in order
abbrev pub all : List ℕ
all =
    map number_of (
    line_malformed ∷
    record_order ∷
    text_too_long ∷
    range_invalid ∷
    ranges_not_ascending ∷
    map_count_of ∷
    node_numbers ∷
    ram_size_below_file ∷
    share_too_large ∷
    file_not_in_map ∷
    import_crosses_file ∷
    import_not_in_map ∷
    node_too_small ∷
    too_many_pieces ∷
    ram_count_of ∷
    table_not_empty ∷
    reserved_count ∷
    reserved_overlap ∷
    reserved_outside_used ∷
    pool_ranges ∷
    used_outside_ram ∷
    length_zero ∷
    length_too_large ∷
    alignment_invalid ∷
    no_fit ∷
    table_full ∷
    pool_too_large ∷
    pool_split ∷
    pool_node_no_fit ∷
    [])

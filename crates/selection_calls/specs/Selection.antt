-- Selection by numbers and words, and its answer in words (docs/SPEC.md, section 19).
use Rattle.std.specs.Prelude.{ℕ, ◌*◌, ◌%◌, ◌^◌, Bool, true, false, cond, not, ◌&&◌, List, [], ◌∷◌, ◌++◌, eqb, leb, ltb, length, drop, Option, None, Ok, Err}
use Rattle.refusal.specs.Number.{range_invalid, ranges_not_ascending}
use Rattle.refusal.specs.Rows.{refused_if, downward}
use Rattle.memory_range.specs.declared.range.MemoryRange.{MemoryRange}
use Rattle.memory_range.specs.declared.range.TaggedRange.{TaggedRange}
use Rattle.memory_range.specs.Range.{range}
use Rattle.memory_range.specs.Valid.{valid_range}
use Rattle.host_params.specs.declared.IsolationType.{IsolationType}
use Rattle.host_params.specs.declared.IsolationType.TheVariants as isolation
use Rattle.host_params.specs.declared.MemoryAllocationMode.{MemoryAllocationMode}
use Rattle.host_params.specs.declared.MemoryAllocationMode.TheVariants.{Host, Vtl2}
use Rattle.host_params.specs.declared.MemoryEntry.{MemoryEntry}
use Rattle.host_map.specs.declared.rows.RangeCheck.{RangeCheck}
use Rattle.host_map.specs.Map.{type_of, map_ranges}
use Rattle.host_map.specs.Rows.{check_start, checked_all}
use Rattle.boot_ram.specs.Verdict.{max_chosen}
use Rattle.vtl2_ram.specs.Choice.{Choice, refused, chosen}
use Rattle.vtl2_ram.specs.Select.{choice}
use Rattle.plan_input.specs.Room.{map_room, import_room}
use Rattle.table_words.specs.Code.{Call}
use Rattle.table_words.specs.declared.code.CallError.TheVariants.{Refused, NoRoom, BadNumber}
use Rattle.table_words.specs.List.{ranges_in}
use Rattle.refusal.specs.declared.Refusal.{Refusal}

-- who chooses: 0 is the host, 1 the boot shim
abbrev pub mode_of : ℕ → MemoryAllocationMode
mode_of n = cond (eqb n 1) Vtl2 Host

-- 0 is none
abbrev pub isolation_of : ℕ → IsolationType
isolation_of n =
    cond (eqb n 1) isolation.Vbs
    (cond (eqb n 2) isolation.Snp (cond (eqb n 3) isolation.Tdx (cond (eqb n 4) isolation.Cca isolation.None)))

-- an entry's type: 1 is memory that the host keeps for VTL2, 0 any other
abbrev pub is_protectable_word : ℕ → Bool
is_protectable_word t = eqb t 1

abbrev pub entry_of : ℕ → ℕ → ℕ → ℕ → MemoryEntry
entry_of s e n t = record { range = range s e; vnode = n; mem_type = type_of (is_protectable_word t) }

-- the map, four words for each entry: its start, its end, its node and its type
abbrev pub word_entries : List ℕ → List MemoryEntry
word_entries [] = []
word_entries (s ∷ []) = []
word_entries (s ∷ e ∷ []) = []
word_entries (s ∷ e ∷ n ∷ []) = []
word_entries (s ∷ e ∷ n ∷ t ∷ ws) = entry_of s e n t ∷ word_entries ws

-- a node has 32 bits
abbrev pub entry_stands : ℕ → ℕ → Bool
entry_stands n t = ltb n (2 ^ 32) && leb t 1

-- whether words stand for a map: every node and every type stands for one, and no word is left over
abbrev pub map_stands : List ℕ → Bool
map_stands [] = true
map_stands (s ∷ []) = false
map_stands (s ∷ e ∷ []) = false
map_stands (s ∷ e ∷ n ∷ []) = false
map_stands (s ∷ e ∷ n ∷ t ∷ ws) = entry_stands n t && map_stands ws

-- whether the numbers and the lengths all stand for something
abbrev pub numbers_stand : ℕ → ℕ → List ℕ → List ℕ → Bool
numbers_stand mode isolation map imports = leb mode 1 && leb isolation 4 && map_stands map && eqb (length imports % 2) 0

-- RAM, three words for each entry: its start, its end and its node
abbrev pub ram_words : List TaggedRange → List ℕ
ram_words [] = []
ram_words (x ∷ xs) = x.range.start ∷ x.range.end ∷ x.tag ∷ ram_words xs

-- the words of the most entries that are chosen
abbrev pub ram_size_of : ℕ
ram_size_of = max_chosen * 3

-- a choice as a call's answer
abbrev pub chosen_as : Choice → Call (List TaggedRange)
chosen_as (refused r) = Err (Refused r)
chosen_as (chosen xs) = Ok xs

-- what a selection that is asked for in numbers comes to: that there is no room, that a number stands for nothing, or what
-- selection comes to
unfoldable pub asked : ℕ → ℕ → Option ℕ → MemoryRange → List ℕ → List ℕ → List ℕ → Call (List TaggedRange)
asked mode isolation size file map imports ram =
    cond (ltb (length ram) ram_size_of) (Err NoRoom)
    (cond (not (numbers_stand mode isolation map imports)) (Err BadNumber)
    (chosen_as (choice (mode_of mode) (isolation_of isolation) size file (word_entries map) (ranges_in imports))))

-- how many entries there are
abbrev pub count_of : Call (List TaggedRange) → Call ℕ
count_of (Err e) = Err e
count_of (Ok xs) = Ok (length xs)

-- the lent RAM afterwards: as found, or the entries' words at its start and behind them as found
abbrev pub ram_after : Call (List TaggedRange) → List ℕ → List ℕ
ram_after (Err e) ram = ram
ram_after (Ok xs) ram = ram_words xs ++ drop (length (ram_words xs)) ram

-- how many entries there are, or what was there before
abbrev pub count_or : Call (List TaggedRange) → ℕ → ℕ
count_or (Err e) before = before
count_or (Ok xs) before = length xs

-- rows 4 and 5, by what was seen of the map and of the imported ranges
abbrev pub rows_of : MemoryRange → RangeCheck → RangeCheck → Option Refusal
rows_of file map imports =
    downward
    (refused_if (not (valid_range file && map.valid && imports.valid)) range_invalid
    ∷ refused_if (not (map.ascending && imports.ascending)) ranges_not_ascending
    ∷ [])

-- the same of both lists as words, where one is longer than its room; otherwise selection looks at these rows itself
abbrev pub rows_long : MemoryRange → List ℕ → List ℕ → Option Refusal
rows_long file map imports =
    cond (leb (length map) (map_room * 4) && leb (length imports) (import_room * 2)) None
    (rows_of file (checked_all check_start (map_ranges (word_entries map))) (checked_all check_start (ranges_in imports)))

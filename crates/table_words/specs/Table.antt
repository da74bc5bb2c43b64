-- The table as words: its count of entries, its flag, and four words for each entry (docs/SPEC.md, section 31).
use Rattle.std.specs.Prelude.{ℕ, ◌^◌, Bool, true, cond, ◌&&◌, List, [], ◌∷◌, ◌++◌, map, eqb, leb, ltb, length, drop, get_or, Option, Some, None}
use Rattle.std.proofs.lemmas.List.Edits.{sets}
use Rattle.memory_range.specs.Range.{range}
use Rattle.address_space.specs.declared.table.AddressRange.{AddressRange}
use Rattle.address_space.specs.declared.table.AddressSpaceManager.{AddressSpaceManager}
use Rattle.address_space.specs.Table.{entries_of, pool_of, entry, empty_table, max_address_ranges, table_with}
use Rattle.table_words.specs.Rows.{rows}
use Rattle.table_words.specs.Usage.{usage_word, usage_of_word}

-- what words stand for: entries and the flag
pub record Table : Type 0 where
  pub entries : List AddressRange
  pub flag : Bool

abbrev pub table : List AddressRange → Bool → Table
table es flag = record { entries = es; flag = flag }

-- what a table of the planner stands for
abbrev pub table_in : AddressSpaceManager → Table
table_in m = table (entries_of m) (pool_of m)

abbrev pub table_length : ℕ
table_length = 1026

-- an entry's words: start, end, node, usage
abbrev pub entry_words : AddressRange → List ℕ
entry_words e = e.range.start ∷ e.range.end ∷ e.vnode ∷ usage_word e.usage ∷ []

-- whether words stand for an entry, and which
abbrev pub entry_good : List ℕ → Bool
entry_good r = ltb (get_or r 2 0) (2 ^ 32) && leb (get_or r 3 0) 10

abbrev pub entry_of : List ℕ → AddressRange
entry_of r = entry (range (get_or r 0 0) (get_or r 1 0)) (get_or r 2 0) (usage_of_word (get_or r 3 0))

-- the entry, where the words stand for one
abbrev pub entry_read : List ℕ → Option AddressRange
entry_read r = cond (entry_good r) (Some (entry_of r)) None

abbrev pub all_good : List (List ℕ) → Bool
all_good [] = true
all_good (r ∷ rs) = entry_good r && all_good rs

-- the table of an entry's words each, if each stands for one
abbrev pub entries_as : List (List ℕ) → Bool → Option Table
entries_as rs flag = cond (all_good rs) (Some (table (map entry_of rs) flag)) None

-- whether the length, the count and the flag are those of a table
abbrev pub head_good : List ℕ → Bool
head_good ws = eqb (length ws) table_length && (leb (get_or ws 0 0) max_address_ranges && leb (get_or ws 1 0) 1)

-- the table that words stand for, if they do: what lies behind its entries does not matter
unfoldable pub table_of : List ℕ → Option Table
table_of ws = cond (head_good ws) (entries_as (rows 4 (get_or ws 0 0) (drop 2 ws)) (eqb (get_or ws 1 0) 1)) None

-- the words of a table, and of its entries
abbrev pub flag_word : Bool → ℕ
flag_word flag = cond flag 1 0

abbrev pub entries_words : List AddressRange → List ℕ
entries_words [] = []
entries_words (e ∷ es) = entry_words e ++ entries_words es

abbrev pub table_words_of : List AddressRange → Bool → List ℕ
table_words_of es flag = length es ∷ flag_word flag ∷ entries_words es

-- words with a table put in: those behind it are kept, and all are where their number is not a table's
abbrev pub written : List ℕ → List AddressRange → Bool → List ℕ
written ws es flag = cond (eqb (length ws) table_length) (sets ws 0 (table_words_of es flag)) ws

-- the table of the planner that words stand for, if they do
abbrev pub read_as : Option Table → Option AddressSpaceManager
read_as None = None
read_as (Some t) = Some (table_with empty_table t.entries t.flag)

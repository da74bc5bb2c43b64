-- A table of words built from lists of words (docs/SPEC.md, section 31; the rule is section 24).
use Rattle.std.specs.Prelude.{ℕ, List, Option, Some, None, Err}
use Rattle.memory_range.specs.declared.range.MemoryRange.{MemoryRange}
use Rattle.memory_range.specs.Range.{range}
use Rattle.table_words.specs.declared.code.CallError.TheVariants.{BadTable}
use Rattle.table_words.specs.Code.{Call, lent_after}
use Rattle.table_words.specs.Table.{Table, table_of, written}
use Rattle.table_calls.specs.Build.{words_build}

-- what a build is given: the used range and the persisted state, and words for the RAM list, the optional ranges, the config ranges
-- and the pool ranges
pub record Given : Type 0 where
  pub used : MemoryRange
  pub state : MemoryRange
  pub ram : List ℕ
  pub reserved : List ℕ
  pub configs : List ℕ
  pub pools : List ℕ

-- the used range and the state by start and end
abbrev pub given : ℕ → ℕ → ℕ → ℕ → List ℕ → List ℕ → List ℕ → List ℕ → Given
given us ue ss se ram reserved configs pools =
    record { used = range us ue; state = range ss se; ram = ram; reserved = reserved; configs = configs; pools = pools }

-- a bad table, then lists that stand for nothing, then the build
abbrev pub build_on : Given → Option Table → Call Table
build_on g None = Err BadTable
build_on g (Some t) = words_build g.used g.state t g.ram g.reserved g.configs g.pools

unfoldable pub build_call : Given → List ℕ → Call Table
build_call g words = build_on g (table_of words)

-- the table afterwards
abbrev pub build_table : List ℕ → Call Table → List ℕ
build_table found = lent_after found (λ t. written found t.entries t.flag)

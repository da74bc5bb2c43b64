-- Wrong answers of builds and requests as words, each refuted (docs/PROVED.md).
use Rattle.std.proofs.Common.{ap, sym, true≢false}
use Rattle.std.specs.Prelude.{Bool, true, false, [], ◌∷◌, ◌≢◌, replicate, Ok, Err}
use Rattle.refusal.specs.Number.{pool_ranges}
use Rattle.memory_range.specs.Range.{range, overlap_ranges}
use Rattle.range_lists.specs.Walk.{walk_from}
use Rattle.address_space.specs.Split.{free_entry}
use Rattle.address_space.specs.Usage.{usage_of}
use Rattle.memory.specs.Build.{build, filled, table_of}
use Rattle.memory.specs.Builder.{singles_valid}
use Rattle.memory.specs.Rows.{rows_refusal}
use Rattle.memory.specs.Used.{used_of, used_refusal}
use Rattle.table_words.specs.declared.code.CallError.TheVariants.{Refused}
use Rattle.table_words.specs.Code.{Call}
use Rattle.table_words.specs.Table.{table}
use Rattle.table_calls.specs.Build.{words_build}
use Rattle.table_calls.specs.Request.{none_word, Handed, words_outcome}

-- what the answers are told apart by
abbrev is_done : {A : Type 0} → Call A → Bool
is_done (Err e) = false
is_done (Ok a) = true

-- configuration and pool ranges exchanged: a config range, taken for a pool range, would overlap the used range
pub configs_as-pools :
    words_build (range 0x200000 0x204000) (range 0x200000 0x202000) (table [] false) (0x200000 ∷ 0x210000 ∷ 0 ∷ []) (replicate 8 0) (0x202000 ∷ 0x203000 ∷ []) []
    ≢ Err (Refused pool_ranges)
unfolding build rows_refusal singles_valid used_refusal used_of filled table_of usage_of walk_from overlap_ranges
configs_as-pools e = true≢false (ap is_done e)

-- a request that stands for nothing answered as another: there is no type 3, and a page is free
pub no_type-answered : (h : Handed)
    → words_outcome (none_word ∷ 0x1000 ∷ 3 ∷ 0 ∷ none_word ∷ []) (free_entry 0 (range 0x1000 0x2000) ∷ []) ≢ Ok h
no_type-answered h e = true≢false (sym (ap is_done e))

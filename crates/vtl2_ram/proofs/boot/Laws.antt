-- Laws of the parts, by the answers of the functions that do them.
use Rattle.std.proofs.Common.{ℕ, ◌≡◌, sym, ap, ◌∙◌, true, false, List, ◌++◌, length, drop, Ok, Err}
use Rattle.std.proofs.Math.Seq.{take-append_seam}
use Rattle.std.specs.List.{refill}
use Rattle.memory_range.specs.declared.range.MemoryRange.{MemoryRange}
use Rattle.memory_range.specs.declared.range.TaggedRange.{TaggedRange}
use Rattle.range_lists.specs.Sort.{sort_by_start}
use Rattle.host_params.specs.declared.IsolationType.{IsolationType}
use Rattle.refusal.specs.declared.Refusal.{Refusal}
use Rattle.refusal.specs.Answer.{rows_as}
use Rattle.refusal.specs.Number.{import_crosses_file}
use Rattle.refusal.specs.Laws.Answer.{rows_refused, rows_none}
use Rattle.boot_ram.specs.File.{file_walk}
use Rattle.boot_ram.specs.Import.{imports_clear, import_walk}
use Rattle.boot_ram.specs.Verdict.{Judged}
use Rattle.boot_take.specs.Take.{taking}
use Rattle.vtl2_ram.specs.Boot.{after_imports, beside_file, boot_parts}
use Rattle.vtl2_ram.specs.Choice.{Choice, refused, chosen}
use Rattle.vtl2_ram.specs.Laws.Boot.{parts-file, parts-beside, beside_crossing, beside_refused, beside-chosen, after_refused, after-taken}

module _ (isolation : IsolationType) (file : MemoryRange) (map : List TaggedRange) (imports : List MemoryRange) (share : ℕ) (nodes : List ℕ) where
  abbrev parts : Choice
  parts = boot_parts isolation file map imports share nodes

  pub file_refused : {r : Refusal} → Err r ≡ rows_as (file_walk file map).refusal → parts ≡ refused r
  file_refused e = parts-file isolation file imports share nodes map (rows_refused _ (sym e))

  -- the pieces of the file, and what it leaves of the map
  module _ {pieces found : List TaggedRange}
      (w : (Ok tt ≡ rows_as (file_walk file map).refusal) × (pieces ≡ (file_walk file map).chosen) × (found ≡ (file_walk file map).free)) where
    beside : parts ≡ beside_file isolation file imports share nodes found pieces
    beside = rw (w.1, w.2) (parts-beside isolation file imports share nodes map (rows_none _ (sym w.0)))

    pub crossing : imports_clear file imports ≡ false → parts ≡ refused import_crosses_file
    crossing c = beside ∙ beside_crossing isolation file imports share nodes found pieces c

    module _ (clear : imports_clear file imports ≡ true) where
      pub imports_refused : {r : Refusal} → Err r ≡ rows_as (import_walk isolation file imports found).refusal → parts ≡ refused r
      imports_refused e =
          let after = after_refused isolation file imports share nodes found pieces (rows_refused _ (sym e)) in
          beside ∙ beside_refused isolation file imports share nodes found pieces clear (ap (λ (j : Judged). j.refusal) after)

      -- what the imported ranges leave
      module _ {free : List TaggedRange} (i : (Ok tt ≡ rows_as (import_walk isolation file imports found).refusal)
          × (free ≡ (import_walk isolation file imports found).free)) where
        after : after_imports isolation file imports found share pieces nodes
            ≡ taking share pieces (import_walk isolation file imports found).free nodes
        after = after-taken isolation file imports share nodes found pieces (rows_none _ (sym i.0))

        pub taking_refused : {r : Refusal} → Err r ≡ rows_as (taking share pieces free nodes).refusal → parts ≡ refused r
        taking_refused e =
            beside ∙ beside_refused isolation file imports share nodes found pieces clear
            (ap (λ (j : Judged). j.refusal) after ∙ rw (← i.1) (rows_refused _ (sym e)))

        pub parts-chosen : {all : List TaggedRange} → Ok tt ≡ rows_as (taking share pieces free nodes).refusal → all ≡ pieces ++ (taking share pieces free nodes).chosen
            → parts ≡ chosen (sort_by_start all)
        parts-chosen e a =
            beside ∙ beside-chosen isolation file imports share nodes found pieces clear
            (ap (λ (j : Judged). j.refusal) after ∙ rw (← i.1) (rows_none _ (sym e)))
            ∙ rw (after, ← i.1, a)

-- a list that is written whole is what was written
pub refilled : (xs ys : List TaggedRange) → length ys ≡ length xs → refill (length xs) xs ys ≡ ys
refilled xs ys e = rw (← e) (take-append_seam ys (drop (length ys) xs))

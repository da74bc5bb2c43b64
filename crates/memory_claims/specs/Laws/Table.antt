-- The table of a RAM list and of what is used of it, both in order and at pages, is sound, if it has not too many entries.
use Rattle.std.specs.Prelude.{ℕ, ◌≤◌, ◌≡◌, refl, List, eqb, length, Option, Some, None}
use Rattle.std.proofs.Common.{ap, sym, ◌∙◌}
use Rattle.memory_range.specs.declared.range.TaggedRange.{TaggedRange}
use Rattle.memory_range.specs.Bytes.{holders, Ordered}
use Rattle.memory_range.specs.List.{ranges_in}
use Rattle.memory_range.specs.Laws.Bytes.{counted, ordered-once}
use Rattle.memory_range.specs.Laws.Count.{bytes_same}
use Rattle.range_lists.specs.Laws.Picked.{counted_if}
use Rattle.boot_ram.specs.Held.{holders_on, on_node}
use Rattle.address_space.specs.Table.{max_address_ranges, ranges_at}
use Rattle.memory.specs.Build.{table_of}
use Rattle.memory_claims.specs.Claim.{noded_ranges, tag_at, Sound}
use Rattle.memory_claims.specs.Laws.Notes.{counted_on, note-holders, note-holders-on}
use Rattle.memory_claims.specs.Laws.Pages.{AllAtPages, table-at-pages, pages-valid}
use Rattle.memory_claims.specs.Laws.Ram.{table_in-ram}
use Rattle.memory_claims.specs.Laws.Said.{tag-on, tag-holders}
use Rattle.memory_claims.specs.Laws.Walked.{note_of, table-ordered, table_says}

-- what is said of a byte's node is what the RAM says
note-counted : (u v : Option ℕ) → counted (note_of u v) ≡ counted u
note-counted None v = refl
note-counted (Some n) v = refl

note-counted-on : (n : ℕ) (u v : Option ℕ) → counted_on n (note_of u v) ≡ counted_if (λ t. eqb t n) u
note-counted-on n None v = refl
note-counted-on n (Some m) v = refl

-- the table of a RAM list and what is used of it, both in order and at pages: each byte keeps its node, and all but the count follows
module _ (ram used : List TaggedRange) (or : Ordered 0 (ranges_in ram)) (ou : Ordered 0 (ranges_in used)) where
  ram-once : (a : ℕ) → holders (ranges_in ram) a ≤ 1
  ram-once = ordered-once 0 (ranges_in ram) or

  in_order : Ordered 0 (ranges_at (table_of ram used))
  in_order = table-ordered ram used or ou

  table_covers : (a : ℕ) → holders (ranges_at (table_of ram used)) a ≡ holders (ranges_in ram) a
  table_covers a =
      note-holders 0 (table_of ram used) a in_order ∙ ap counted (table_says ram used or ou a)
      ∙ note-counted (tag_at ram a) (tag_at used a) ∙ sym (tag-holders ram a (ram-once a))

  table-on-node : (n a : ℕ) → holders_on n (noded_ranges (table_of ram used)) a ≡ holders_on n ram a
  table-on-node n a =
      note-holders-on 0 n (table_of ram used) a in_order ∙ ap (counted_on n) (table_says ram used or ou a)
      ∙ note-counted-on n (tag_at ram a) (tag_at used a) ∙ sym (tag-on n ram a (ram-once a))

  pub table_sound : AllAtPages ram → AllAtPages used → length (table_of ram used) ≤ max_address_ranges → Sound ram (table_of ram used)
  table_sound pr pu few = record {
    ordered = in_order;
    valid = pages-valid 0 (ranges_at (table_of ram used)) in_order (table-at-pages ram used pr pu);
    covers = table_covers;
    on-node = table-on-node;
    in-ram = table_in-ram ram used or ou;
    totals = λ n. bytes_same (ranges_in (on_node n (noded_ranges (table_of ram used)))) (ranges_in (on_node n ram)) (table-on-node n);
    count = few;
  }

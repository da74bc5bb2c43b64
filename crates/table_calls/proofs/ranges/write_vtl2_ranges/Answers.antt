-- `ranges::write_vtl2_ranges` meets its contract: a turn stores the next range's words.
use Rattle.std.proofs.Common.{List, refl, ap, ◌∙◌, arith, add-one, get_or, take, drop-cons, drop_of_length-le}
use Rattle.memory_range.specs.Range.{range}
use Rattle.host_params.specs.declared.MemoryVtlType.TheVariants.{Ram}
use Rattle.address_space.specs.declared.list.Vtl2Range.{Vtl2Range}
use Rattle.address_space.specs.List.{numbered_range, numbered_ranges}
use Rattle.table_words.specs.Laws.Stores.{stores_more, stores-end}
use Rattle.table_calls.specs.Ranges.{range_words, ranges_words}
use Rattle.table_calls.proofs.ranges.write_vtl2_ranges.Goals as goal

-- what the places of the array hold at first
abbrev no_range : Vtl2Range
no_range = record { range = range 0 0; vtl_type = Ram }

pub loop-i-init : goal.loop-i-init
loop-i-init c = record { all = refl }

pub loop-i-preserved : goal.loop-i-preserved
loop-i-preserved c =
    let list = c.all_vtl2_ranges-list.result in
    let found = take list.count list.ranges in
    let l = c.loop-i in
    let s = rw (drop-cons found l.i no_range (omega arith)) at l.invariant in
    let put = rw (c.from.ensures, c.type_number.ensures) at c.put_words.ensures in
    rw add-one (stores_more (range_words (numbered_range (get_or found l.i no_range))) _ put (omega arith) s)

pub returns : goal.returns
returns c =
    let list = c.all_vtl2_ranges-list.result in
    let e = c.all_vtl2_ranges-list.ensures in
    let none = drop_of_length-le (take list.count list.ranges) {i = c.loop-i.i} (omega arith) in
    (e.1, stores-end (ap (λ (xs : List Vtl2Range). ranges_words (numbered_ranges xs)) none) c.loop-i.invariant ∙ rw e.0)

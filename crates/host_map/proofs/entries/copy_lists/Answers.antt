-- A turn puts the next entry of the lists, and past the count the map has none.
use Rattle.std.proofs.Common.{◌≡◌, ◌<◌, [], length, drop, arith, drop_of_length-le}
use Rattle.host_map.specs.Map.{map_of}
use Rattle.host_map.specs.Laws.Map.{length-map, next-listed}
use Rattle.host_map.proofs.entries.copy_lists.Goals as goal

pub loop-i-preserved : goal.loop-i-preserved
loop-i-preserved c =
    let a = c.args in
    let l = c.loop-i in
    let p = c.put.ensures in
    let all = length-map a.starts.now a.ends.now a.nodes.now a.protectable.now in
    let below : l.i < length (map_of a.starts.now a.ends.now a.nodes.now a.protectable.now) =
    omega (arith, all, c.min.ensures, c.min-ranges.ensures, c.min-count.ensures, c.loop-i-test.true) in
    let next = next-listed a.starts.now a.ends.now a.nodes.now a.protectable.now l.i below in
    record {
      count = omega (arith, p.count, l.invariant.count);
      stored = rw (p.entries, c.type_of.ensures, l.invariant.count) (rw next at l.invariant.stored);
      checked = rw p.check (rw next at l.invariant.checked);
    }

pub returns : goal.returns
returns c =
    let a = c.args in
    let l = c.loop-i in
    let map = map_of a.starts.now a.ends.now a.nodes.now a.protectable.now in
    let all = length-map a.starts.now a.ends.now a.nodes.now a.protectable.now in
    let size : l.i ≡ length map =
    omega (arith, all, c.min.ensures, c.min-ranges.ensures, c.min-count.ensures, c.loop-i-test.false, l.auto.i-end) in
    let none : drop l.i map ≡ [] = drop_of_length-le map {i = l.i} (omega arith) in
    let count : l.held.count ≡ length map = omega arith in
    let stored = rw none at l.invariant.stored in
    let checked = rw none at l.invariant.checked in
    rw (← stored, ← checked, ← count)

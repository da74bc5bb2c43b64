-- `lookup::find_rows` meets its contract. The loop's invariant is `Passed`, and each way that a turn or the loop ends
-- cites one law of it.
use Prim.Native.Nat.{◌≤◌, ◌<◌}
use mathlib.Core.Path.{◌≡◌, refl}
use mathlib.Core.List.{[]}
use native.Mathlib.Omega.{arith}
use lib.ListN.{length, get_or, drop_of_length-le}
use Rattle.dma_hint.specs.Laws.Lookup.{count_at, Matches}
use Rattle.dma_hint.proofs.lookup.Laws.{found_nearest, found_exact, larger-left, next-same, next_new}
use Rattle.dma_hint.proofs.lookup.find_rows.Goals.{then-row_count-vp_count+else-row_count-vp_count-2+else-from-mem_size_mb, else-row_count-vp_count}
use Rattle.dma_hint.proofs.lookup.find_rows.Goals.{then-row_count-nearest, else-row_count-nearest}
use Rattle.dma_hint.proofs.lookup.find_rows.Goals as goal

pub loop-i-init : goal.loop-i-init
loop-i-init c =
    record {
      begins = omega arith;
      ends = omega arith;
      low = omega arith;
      some = λ h. absurd (omega arith);
      misses = λ k h. absurd (omega arith);
      same = refl;
      more = λ n h. refl;
      rest = c.requires;
    }

pub returns-then-row_count-vp_count-2 : goal.returns-then-row_count-vp_count-2
returns-then-row_count-vp_count-2 c =
    let p = c.loop-i.invariant in
    record {
      what_is_found = found_nearest p (larger-left p (omega arith) (omega arith));
      places_within = (p.begins, p.ends);
    }

pub returns-then-from-mem_size_mb : goal.returns-then-from-mem_size_mb
returns-then-from-mem_size_mb c =
    let p = c.loop-i.invariant in
    record {
      what_is_found = found_exact p (omega arith) (omega arith, omega arith);
      places_within = tt;
    }

pub loop-i-preserved : goal.loop-i-preserved
loop-i-preserved c =
    let l = c.loop-i in
    let a = c.args in
    let within : l.i < length a.rows.now = omega arith in
    let e = c.from-row_count.ensures in
    let came = c.if-row_count-vp_count.branch in
    let low : count_at a.rows.now l.i ≤ a.vp_count =
    elim came [
      | then-row_count-vp_count+else-row_count-vp_count-2+else-from-mem_size_mb w ↦ omega arith
      | else-row_count-vp_count w ↦ omega arith
    ]
    in
    let miss : Matches a.vp_count a.mem_size_mb (get_or a.rows.now l.i []) → ⊥ =
    λ m. elim came [
      | then-row_count-vp_count+else-row_count-vp_count-2+else-from-mem_size_mb w ↦ omega arith
      | else-row_count-vp_count w ↦ omega arith
    ]
    in
    elim c.if-row_count-nearest.branch [
      | then-row_count-nearest w ↦
          rw (w.nearest-is, w.first-is, e) (next_new l.invariant within low miss (omega arith))
      | else-row_count-nearest w ↦
          rw (w.nearest-is, w.first-is) (next-same l.invariant within low miss (omega arith))
    ]

pub returns : goal.returns
returns c =
    let p = c.loop-i.invariant in
    let none = drop_of_length-le c.args.rows.now {i = c.loop-i.i} (omega arith) in
    let all : length c.args.rows.now ≡ c.loop-i.i = omega arith in
    record {
      what_is_found = rw all (found_nearest p (rw none tt));
      places_within = (omega arith, omega arith);
    }

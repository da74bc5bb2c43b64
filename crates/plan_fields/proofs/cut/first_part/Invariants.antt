-- `cut::first_part` meets its contract. The loop's invariant: the first part is the bytes passed and the
-- first part of those left.
use Prim.Native.Nat.{◌≤◌, ◌-◌}
use mathlib.Core.Path.{◌≡◌}
use mathlib.Core.List.{◌++◌}
use lib.ListN.{length, take, drop}
use Rattle.plan_fields.specs.Cut.{first_part}
use Rattle.plan_fields.proofs.cut.first_part.Given as goal

abbrev pub invariant-loop-end : goal.invariant-loop-end
invariant-loop-end l =
    (l.end ≤ length l.bytes) × (first_part l.separator l.bytes ≡ take l.end l.bytes ++ first_part l.separator (drop l.end l.bytes))

abbrev pub decreases-loop-end : goal.decreases-loop-end
decreases-loop-end l = length l.bytes - l.end

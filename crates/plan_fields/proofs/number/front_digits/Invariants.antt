-- `number::front_digits` meets its contract. The loop's invariant: the bytes passed spell the value, which is
-- below the power of 16 that their count gives.
use Rattle.std.specs.Prelude.{Some}
use Prim.Native.Nat.{◌<◌, ◌^◌}
use mathlib.Core.Path.{◌≡◌}
use lib.ListN.{take}
use Rattle.plan_fields.specs.Number.{spelled_from}
use Rattle.plan_fields.proofs.number.front_digits.Given as goal

abbrev pub invariant-loop-size : goal.invariant-loop-size
invariant-loop-size l =
    (l.value < 16 ^ l.size) × (spelled_from 0 (take l.size l.bytes) ≡ Some l.value)

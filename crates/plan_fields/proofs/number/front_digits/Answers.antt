-- `number::front_digits` meets its contract. The loop's invariant: the bytes passed spell the value, which is
-- below the power of 16 that their count gives.
use Prim.Native.Nat.{ℕ}
use mathlib.Core.Path.{◌≡◌, ap, sym, ◌∙◌}
use native.Mathlib.Omega.{arith}
use native.Mathlib.Numerals.{add-one}
use lib.ListN.{take, get_or}
use Rattle.std.specs.Prelude.{Some}
use Rattle.std.proofs.lemmas.List.{get_or-take, length-take}
use Rattle.plan_fields.specs.Number.{digit_of}
use Rattle.plan_fields.specs.Laws.Number.{digit-bound, digit-behind}
use Rattle.plan_fields.proofs.number.Laws.{room, one_digit}
use Rattle.plan_fields.proofs.number.front_digits.Goals as goal

pub overflow_mul-value : goal.overflow_mul-value
overflow_mul-value c =
    let below = length-take c.min-most.result c.args.bytes.now in
    omega (arith, room c.loop-size.value c.loop-size.size c.loop-size.invariant.0 (omega arith))

-- the byte at the index is a digit
pub overflow_add-value : goal.overflow_add-value
overflow_add-value c =
    let below = length-take c.min-most.result c.args.bytes.now in
    let byte : ℕ = get_or (take c.min-most.result c.args.bytes.now) c.loop-size.size 0 in
    let digit : digit_of byte ≡ Some c.in-Some.digit = sym c.digit_value.ensures ∙ c.in-Some.is in
    omega (arith, room c.loop-size.value c.loop-size.size c.loop-size.invariant.0 (omega arith), digit-bound byte _ digit)

pub loop-size-preserved : goal.loop-size-preserved
loop-size-preserved c =
    let b = c.args.bytes.now in
    let byte : ℕ = get_or b c.loop-size.size 0 in
    let below = length-take c.min-most.result b in
    let same = get_or-take c.min-most.result b c.loop-size.size 0 (omega arith) in
    let digit : digit_of byte ≡ Some c.in-Some.digit = ap digit_of (sym same) ∙ sym c.digit_value.ensures ∙ c.in-Some.is in (
      rw (add-one c.loop-size.size) (digit-behind c.loop-size.value c.loop-size.size _ c.loop-size.invariant.0 (digit-bound byte _ digit)),
      one_digit b c.loop-size.size c.loop-size.value _ (omega arith) c.loop-size.invariant.1 digit,
    )

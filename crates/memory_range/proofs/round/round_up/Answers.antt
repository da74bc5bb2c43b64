-- `round_up` meets its contract: the length and its padding make the rounded length, which is the answer
-- where 64 bits hold it.
use Rattle.std.proofs.Common.{ℕ, ◌+◌, ◌-◌, ◌^◌, ◌≤◌, ◌<◌, ◌≡◌, sym, ap, ◌∙◌, arith, Option, Some, None}
use Rattle.std.specs.Option.{SomeIff}
use Rattle.memory_range.specs.Round.{round_up, rounded_up}
use Rattle.memory_range.specs.Laws.Round.{up-zero, up_above, rounded_to, rounded-over, rounded-none}
use Rattle.memory_range.proofs.round.round_up.Goals.{else-multiple-eq0-via-then-multiple-eq0+else-length-ne0, else-multiple-eq0-via-else-multiple-eq0}
use Rattle.memory_range.proofs.round.round_up.Goals as goal

rounded_sum : (m n p : ℕ) (sum : Option ℕ) → n ≤ round_up m n → p ≡ round_up m n - n → SomeIff sum (n + p < 2 ^ 64) (n + p) → sum ≡ rounded_up m n
rounded_sum m n p None above e h = sym (rounded-over m n (omega arith))
rounded_sum m n p (Some k) above e h = ap Some (omega arith) ∙ sym (rounded_to m n above (omega arith))

pub returns-then-length-ne0 : goal.returns-then-length-ne0
returns-then-length-ne0 c =
    let n = c.args.length in
    rw (c.if-multiple-eq0.true, rounded-none 0 n (omega (arith, up-zero n)))

pub returns : goal.returns
returns c =
    let m = c.args.multiple in
    let n = c.args.length in
    let above : n ≤ round_up m n =
    elim c.else-multiple-eq0.branch [
      | else-multiple-eq0-via-then-multiple-eq0+else-length-ne0 w ↦ omega arith
      | else-multiple-eq0-via-else-multiple-eq0 w ↦ up_above m n (omega arith)
    ]
    in
    rounded_sum m n _ _ above c.padding.ensures c.checked_add.ensures

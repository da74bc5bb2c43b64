-- `put::put_word` meets its contract: the two tests show that there is no room, and else there is.
use Rattle.std.proofs.Common.{sym, ap, ◌∙◌, arith, ◌≤◌, length}
use Rattle.std.specs.Prelude.{Some}
use Rattle.plan_output.specs.Laws.Put.{put-in, put_out}
use Rattle.plan_output.proofs.put.put_word.Goals as goal

pub returns-in_err-checked_sub : goal.returns-in_err-checked_sub
returns-in_err-checked_sub c =
    let a = c.args in
    let outside : a.at ≤ length a.buffer.now → ⊥ = c.in_err-checked_sub.ensures in
    let e = put_out a.at a.word.now a.buffer.now (omega arith) in
    record {
      value = c.from_residual.ensures ∙ sym e.1;
      buffer_after = sym e.0;
    }

pub returns-then-branch-word : goal.returns-then-branch-word
returns-then-branch-word c =
    let a = c.args in
    let e = put_out a.at a.word.now a.buffer.now (omega (arith, c.in_ok-checked_sub.ensures)) in
    record {
      value = sym e.1;
      buffer_after = sym e.0;
    }

pub returns : goal.returns
returns c =
    let a = c.args in
    let e = put-in a.at a.word.now a.buffer.now (omega (arith, c.in_ok-checked_sub.ensures)) in
    rw (e.0, e.1)
    record {
      value = ap Some c.put_bytes.ensures.value;
      buffer_after = c.put_bytes.ensures.buffer_after;
    }

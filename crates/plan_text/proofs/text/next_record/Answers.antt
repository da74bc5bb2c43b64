-- `text::next_record` meets its contract: the line is the first part of what is left of the text, and each return is
-- one of the step's cases.
use Prim.Native.Nat.{ℕ, ◌+◌, ◌-◌, ◌<◌, min}
use mathlib.Core.Path.{◌≡◌, ap, sym, ◌∙◌}
use mathlib.Core.List.{List}
use native.Mathlib.Omega.{arith}
use lib.ListN.{length, take, drop}
use Rattle.std.specs.Prelude.{Option, Some, None, Err}
use Rattle.std.proofs.lemmas.Result.{err_from_is_err_and}
use Rattle.refusal.specs.Number.{line_malformed}
use Rattle.plan_fields.specs.Cut.{newline, first_part}
use Rattle.plan_record.specs.declared.record.Record.{Record}
use Rattle.plan_record.specs.Record.{line_of as record_of}
use Rattle.plan_text.specs.Text.{line_step, record_step}
use Rattle.plan_text.specs.Laws.Text.{step-at-end, step-at_line}
use Rattle.plan_text.proofs.text.Laws.{line-found, line_inside, line-malformed}
use Rattle.plan_text.proofs.text.next_record.Goals as goal

-- what is looked at starts at the place and has the room
cut : (bs : List ℕ) (at room : ℕ) (line : List ℕ) → line ≡ first_part newline (take (at + room - at) (drop at bs))
    → line ≡ first_part newline (take room (drop at bs))
cut bs at room line e =
    let same : at + room - at ≡ room = omega arith in
    e ∙ ap (λ (n : ℕ). first_part newline (take n (drop at bs))) same

-- the step, by what the line was read as
read : (bs : List ℕ) (at room : ℕ) (line : List ℕ) → at < length bs → room ≡ min (length bs - at) 64
    → line ≡ first_part newline (take (at + room - at) (drop at bs)) → (at + length line ≡ at + room → ⊥)
    → (r o : Option Record) → r ≡ record_of line → r ≡ o → line_step o (at + length line + 1) ≡ record_step bs at
read bs at room line inside most e n r o k m =
    let found : length line ≡ room → ⊥ = λ q. n (omega arith) in
    ap (λ (o : Option Record). line_step o (at + length line + 1)) (sym m ∙ k)
    ∙ ap (λ (bs : List ℕ). line_step (record_of bs) (at + length bs + 1)) (line-found bs at room line inside most (cut bs at room line e) found)
    ∙ sym (step-at_line bs at (line_inside bs at room line inside most (cut bs at room line e) found))

pub returns-then-text-at : goal.returns-then-text-at
returns-then-text-at c = sym (step-at-end c.args.text.now c.args.at c.if-text-at.true)

pub returns-then-end-stop : goal.returns-then-end-stop
returns-then-end-stop c =
    let line = c.first_part-line in
    sym (line-malformed c.args.text.now c.args.at c.min.result line.result.now (omega arith) c.min.ensures (cut c.args.text.now c.args.at c.min.result line.result.now line.ensures) (omega arith))

pub returns-in_err-record : goal.returns-in_err-record
returns-in_err-record c =
    let p = err_from_is_err_and c.from_residual.result c.from_residual.ensures.1 in
    let none : c.read_line.result ≡ None = grind arith in
    let e : c.in_err-record.field-0.0 ≡ line_malformed = grind arith in
    p.1 ∙ ap Err (p.2 ∙ e) ∙ read _ _ _ _ (omega arith) c.min.ensures c.first_part-line.ensures c.if-end-stop.false _ _ c.read_line.ensures none

pub returns : goal.returns
returns c =
    let some : c.read_line.result ≡ Some c.in_ok-record.record = grind arith in
    read _ _ _ _ (omega arith) c.min.ensures c.first_part-line.ensures c.if-end-stop.false _ _ c.read_line.ensures some

-- `line::write_no` meets its contract: the word's field makes the line's start, and the digits' field its end.
use Rattle.std.proofs.Common.{◌≡◌, refl, ap, ◌∙◌, arith, rules, [], ◌∷◌, length, take}
use Rattle.plan_fields.specs.Cut.{tab, newline}
use Rattle.plan_output.specs.Number.{decimal_of}
use Rattle.plan_output.specs.Laws.Number.{decimal_digits, decimal-length}
use Rattle.plan_output.specs.Laws.Line.{line_size, no_fields}
use Rattle.plan_output.proofs.line.Laws.{Stands, field_put}
use Rattle.plan_output.proofs.line.write_no.Goals as goal

pub returns : goal.returns
returns c =
    let b = c.args.buffer.now in
    let size : length b ≡ line_size = search rules in
    -- the digits written are the refusal's
    let h = c.decimal-count in
    let spelled : take h.result h.new.out ≡ decimal_of c.args.refusal
    = h.ensures.digits ∙ decimal_digits c.from.result h.result (omega arith) h.ensures.len ∙ ap decimal_of c.from.ensures in
    -- the line after the first put
    let p = c.put_field-at in
    let first : Stands (110 ∷ 111 ∷ tab ∷ []) b p.result p.new.buffer
    = field_put [] (110 ∷ 111 ∷ []) b b _ tab 0 _ (refl, refl) (omega arith) p.ensures.value p.ensures.buffer_after in
    let e = rw spelled at c.put_field.ensures in
    let whole =
    field_put (110 ∷ 111 ∷ tab ∷ []) (decimal_of c.args.refusal) b _ _ newline _ _ first
    (omega (arith, decimal-length c.args.refusal)) e.value e.buffer_after
    in
    rw no_fields
    record {
      value = whole.0;
      buffer_after = whole.1;
    }

-- The text as a whole (docs/SPEC.md, section 15).
use Rattle.std.specs.Prelude.{ℕ, ◌+◌, cond, List, [], ◌∷◌, eqb, leb, ltb, length, drop, Option, Some, None, Result, Ok, Err}
use Rattle.refusal.specs.declared.Refusal.{Refusal}
use Rattle.refusal.specs.Number.{line_malformed, record_order, text_too_long}
use Rattle.plan_fields.specs.Cut.{newline, split_on, first_part}
use Rattle.plan_fields.specs.Word.{after}
use Rattle.plan_record.specs.declared.record.Record.{Record}
use Rattle.plan_record.specs.Record.{line_of}
use Rattle.plan_text.specs.Order.{in_order_of}
use Rattle.plan_text.specs.OrderStep.{TextCheck, ordered}

-- what stands behind the last newline is no line, and has to be empty
abbrev pub last_part : List ℕ → Option (List Record)
last_part [] = Some []
last_part (b ∷ bs) = None

-- the records of the parts between newlines; none, where a line breaks its form
abbrev pub parts_records : List (List ℕ) → Option (List Record)
parts_records [] = None
parts_records (p ∷ []) = last_part p
parts_records (p ∷ q ∷ ps) = after (line_of p) (λ r. after (parts_records (q ∷ ps)) (λ rs. Some (r ∷ rs)))

-- the records of a text, in the order of its lines
abbrev pub records_of : List ℕ → Option (List Record)
records_of text = parts_records (split_on newline text)

-- the records from a place of the text on, at which a line starts
abbrev pub records_from : ℕ → List ℕ → Option (List Record)
records_from at text = records_of (drop at text)

-- row 1 where a line breaks its form, else row 2 on the records
abbrev pub order_check : Option (List Record) → TextCheck
order_check None = Err line_malformed
order_check (Some rs) = cond (in_order_of rs) (Ok tt) (Err record_order)

-- the same on the records that are left, at the order that those before them left
abbrev pub check_from : ℕ → Option (List Record) → TextCheck
check_from k None = Err line_malformed
check_from k (Some rs) = cond (ordered k rs) (Ok tt) (Err record_order)

-- the most bytes that a text may have
abbrev pub text_size : ℕ
text_size = 65_536

-- rows 3, 1 and 2, in this order
unfoldable pub text_check : List ℕ → TextCheck
text_check text = cond (ltb text_size (length text)) (Err text_too_long) (order_check (records_of text))

-- a step: the record and the place behind its line, or that there is none; or that the line breaks its form
abbrev pub RecordStep : Type 0
RecordStep = Result (Option (Record × ℕ)) Refusal

-- the step that a line makes: its record and the place behind the line, or that it breaks its form
abbrev pub line_step : Option Record → ℕ → RecordStep
line_step None next = Err line_malformed
line_step (Some r) next = Ok (Some (r, next))

-- the line that starts at a place of the text
abbrev pub line_at : List ℕ → ℕ → List ℕ
line_at text at = first_part newline (drop at text)

-- the step at a place of the text: that it ends there; or the line that starts there, which breaks its form where no
-- newline is behind it
unfoldable pub record_step : List ℕ → ℕ → RecordStep
record_step text at =
    cond (leb (length text) at) (Ok None)
    (cond (eqb (at + length (line_at text at)) (length text)) (Err line_malformed)
    (line_step (line_of (line_at text at)) (at + length (line_at text at) + 1)))

-- the records that a step's answer stands for: the one it yields and those from its place on
abbrev pub record_stepped : List ℕ → RecordStep → Option (List Record)
record_stepped text (Ok (Some s)) = after (records_from s.1 text) (λ rs. Some (s.0 ∷ rs))
record_stepped text (Err e) = None
record_stepped text (Ok None) = Some []

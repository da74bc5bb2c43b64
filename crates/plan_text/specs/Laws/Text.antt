-- Laws of the text: what its check's answers mean, and what a step's answer says of the records.
use Rattle.std.specs.Prelude.{ℕ, ◌+◌, ◌≤◌, ◌<◌, ◌≡◌, refl, Bool, true, false, cond, List, [], ◌∷◌, eqb, leb, ltb, drop, Option, Some, None, Ok, Err}
use Rattle.std.proofs.Common.{ap, sym, ◌∙◌, arith, add_assoc, length-drop, drop_of_length-le, drop-drop}
use Rattle.std.proofs.Math.Decide.{dec_lt}
use borrow.Author.Tests.{lt-ltb, le-ltb, ltb-false, le-leb, lt-leb, eq-eqb, ne_eqb}
use Rattle.std.proofs.Math.ListN.{length}
use Rattle.refusal.specs.declared.Refusal.{Refusal}
use Rattle.refusal.specs.Number.{line_malformed, record_order, text_too_long}
use Rattle.plan_fields.specs.Cut.{newline, split_on}
use Rattle.plan_fields.specs.Word.{after}
use Rattle.plan_fields.specs.Laws.Cut.{first-length, split-first, split-none, split-some}
use Rattle.plan_record.specs.declared.record.Record.{Record}
use Rattle.plan_text.specs.Order.{place_of, in_order_of}
use Rattle.plan_text.specs.OrderStep.{TextCheck, order_after}
use Rattle.plan_record.specs.Record.{line_of}
use Rattle.plan_text.specs.Text.{RecordStep, last_part, parts_records, records_of, records_from, order_check, check_from, text_size, text_check, line_step, line_at, record_step, record_stepped}
use Rattle.plan_text.specs.Laws.Order.{ordered_in_order}

pub too_long : (text : List ℕ) → text_size < length text → text_check text ≡ Err text_too_long
unfolding text_check
too_long text h = rw (lt-ltb text_size (length text) h)

-- a text that is not too long is judged by its records
pub short_enough : (text : List ℕ) → length text ≤ text_size → text_check text ≡ order_check (records_of text)
unfolding text_check
short_enough text h = rw (le-ltb text_size (length text) h)

pub malformed : (text : List ℕ) → length text ≤ text_size → records_of text ≡ None → text_check text ≡ Err line_malformed
malformed text h e = short_enough text h ∙ ap order_check e

pub out_of_order : (text : List ℕ) (rs : List Record) → length text ≤ text_size → records_of text ≡ Some rs → in_order_of rs ≡ false
    → text_check text ≡ Err record_order
out_of_order text rs h e o = short_enough text h ∙ ap order_check e ∙ rw o

-- an accepted text is one with records in order
pub accepts : (text : List ℕ) (rs : List Record) → length text ≤ text_size → records_of text ≡ Some rs → in_order_of rs ≡ true
    → text_check text ≡ Ok tt
accepts text rs h e o = short_enough text h ∙ ap order_check e ∙ rw o

refused : {n : Refusal} → ◌≡◌ {A = TextCheck} (Err n) (Ok tt) → ⊥
refused e = let z : ◌≡◌ {A = ℕ} 0 1 = cc in omega arith

ordered-true : (t : Bool) → ◌≡◌ {A = TextCheck} (cond t (Ok tt) (Err record_order)) (Ok tt) → t ≡ true
ordered-true true e = refl
ordered-true false e = absurd (refused e)

pub accepted : (text : List ℕ) → text_check text ≡ Ok tt → (rs : List Record) × (records_of text ≡ Some rs) × (in_order_of rs ≡ true)
unfolding text_check
accepted text a = go (ltb text_size (length text)) (records_of text) refl a
  where
    go : (t : Bool) (o : Option (List Record)) → records_of text ≡ o → cond t (Err text_too_long) (order_check o) ≡ Ok tt
        → (rs : List Record) × (records_of text ≡ Some rs) × (in_order_of rs ≡ true)
    go true o e h = absurd (refused h)
    go false None e h = absurd (refused h)
    go false (Some rs) e h = (rs, e, ordered-true (in_order_of rs) h)

pub accepted_size : (text : List ℕ) → text_check text ≡ Ok tt → length text ≤ text_size
unfolding text_check
accepted_size text a = go (ltb text_size (length text)) refl a
  where
    go : (t : Bool) → ltb text_size (length text) ≡ t → cond t (Err text_too_long) (order_check (records_of text)) ≡ Ok tt
        → length text ≤ text_size
    go true e h = absurd (refused h)
    go false e h = ltb-false text_size (length text) e

-- a record in front of those of the parts behind it
abbrev pub infront : Option Record → Option (List Record) → Option (List Record)
infront l rest = after l (λ r. after rest (λ rs. Some (r ∷ rs)))

pub parts-cons : (p : List ℕ) (ps : List (List ℕ)) → 1 ≤ length ps → parts_records (p ∷ ps) ≡ infront (line_of p) (parts_records ps)
parts-cons p [] h = absurd (omega arith)
parts-cons p (q ∷ ps) h = refl

last_none : (bs : List ℕ) → 1 ≤ length bs → last_part bs ≡ None
last_none [] h = absurd (omega arith)
last_none (b ∷ bs) h = refl

module _ (text : List ℕ) (at : ℕ) where
  -- a line is within the text
  line_within : at ≤ length text → at + length (line_at text at) ≤ length text
  line_within h = omega (arith, first-length newline (drop at text), length-drop at text)

  -- the records from a place on: none behind the text; bytes that no newline ends are no line; a line, and the records
  -- behind its newline
  records-end : length text ≤ at → records_from at text ≡ Some []
  records-end h = rw (drop_of_length-le text h)

  records_last : at < length text → at + length (line_at text at) ≡ length text → records_from at text ≡ None
  records_last h e =
      ap parts_records (split-none newline (drop at text) (omega (arith, length-drop at text)))
      ∙ last_none (drop at text) (omega (arith, length-drop at text))

  records_line : at + length (line_at text at) < length text
      → records_from at text ≡ infront (line_of (line_at text at)) (records_from (at + length (line_at text at) + 1) text)
  records_line h =
      let rest = drop (length (line_at text at) + 1) (drop at text) in
      let e : rest ≡ drop (at + length (line_at text at) + 1) text = rw (drop-drop, ← add_assoc) in
      ap parts_records (split-first newline (drop at text) (omega (arith, length-drop at text)))
      ∙ parts-cons (line_at text at) (split_on newline rest) (split-some newline rest)
      ∙ ap (λ (r : List ℕ). infront (line_of (line_at text at)) (records_of r)) e

  -- the step in the same three cases
  pub step-at-end : length text ≤ at → record_step text at ≡ Ok None
  unfolding record_step
  step-at-end h = rw (le-leb (length text) at h)

  pub step-at_last : at < length text → at + length (line_at text at) ≡ length text → record_step text at ≡ Err line_malformed
  unfolding record_step
  step-at_last h e = rw (lt-leb (length text) at h, eq-eqb (at + length (line_at text at)) (length text) e)

  pub step-at_line : at + length (line_at text at) < length text
      → record_step text at ≡ line_step (line_of (line_at text at)) (at + length (line_at text at) + 1)
  unfolding record_step
  step-at_line h =
      rw (lt-leb (length text) at (omega arith), ne_eqb (at + length (line_at text at)) (length text) (λ e. omega arith))

  line-records : (o : Option Record) (next : ℕ) → infront o (records_from next text) ≡ record_stepped text (line_step o next)
  line-records None next = refl
  line-records (Some r) next = refl

  -- the records from a place on are those that its step stands for
  pub step-records : records_from at text ≡ record_stepped text (record_step text at)
  step-records = elim (dec_lt at (length text)) [
    | no h ↦ records-end (omega arith) ∙ sym (ap (record_stepped text) (step-at-end (omega arith)))
    | yes h ↦ elim (dec_lt (at + length (line_at text at)) (length text)) [
      | yes k ↦ records_line k ∙ line-records (line_of (line_at text at)) (at + length (line_at text at) + 1)
          ∙ sym (ap (record_stepped text) (step-at_line k))
      | no k ↦ let e : at + length (line_at text at) ≡ length text = omega (arith, line_within (omega arith)) in
          records_last h e ∙ sym (ap (record_stepped text) (step-at_last h e))
    ]
  ]

-- the check of the records that are left: at the start that of all records
check-start : (o : Option (List Record)) → order_check o ≡ check_from 0 o
check-start None = refl
check-start (Some rs) = rw (← ordered_in_order)

-- a text that is not too long is judged from its start on
pub short_from : (text : List ℕ) → length text ≤ text_size → text_check text ≡ check_from 0 (records_from 0 text)
short_from text h = short_enough text h ∙ check-start (records_of text)

-- behind a record it is the check at the order that the record leaves
check-next : (k : ℕ) (r : Record) (rest : Option (List Record)) → check_from k (infront (Some r) rest) ≡ check_from (order_after k (place_of r)) rest
check-next k r None = refl
check-next k r (Some rs) = refl

-- the check from a place on by the step there
module _ (text : List ℕ) (at k : ℕ) where
  pub check_by : {a s : RecordStep} → a ≡ record_step text at → a ≡ s → check_from k (records_from at text) ≡ check_from k (record_stepped text s)
  check_by e f = ap (check_from k) (step-records text at ∙ ap (record_stepped text) (sym e ∙ f))

  -- a step that yields a record goes on to the same answer
  pub check-on : {a : RecordStep} {r : Record} {next j : ℕ} → a ≡ record_step text at → a ≡ Ok (Some (r, next)) → j ≡ order_after k (place_of r)
      → check_from j (records_from next text) ≡ check_from k (records_from at text)
  check-on {r = r} {next} e f g =
      ap (λ (j : ℕ). check_from j (records_from next text)) g ∙ sym (check-next k r (records_from next text)) ∙ sym (check_by e f)

-- what a step's answer says of the records, where no line breaks its form
module _ {rs : List Record} (text : List ℕ) where
  pub step_record : (r : Record) (next : ℕ) → Some rs ≡ record_stepped text (Ok (Some (r, next)))
      → (rest : List Record) × (rs ≡ r ∷ rest) × (records_from next text ≡ Some rest)
  step_record r next e = go (records_from next text) refl e
    where
      go : (o : Option (List Record)) → records_from next text ≡ o → Some rs ≡ after o (λ rest. Some (r ∷ rest))
          → (rest : List Record) × (rs ≡ r ∷ rest) × (records_from next text ≡ Some rest)
      go None q h = absurd (let z : ◌≡◌ {A = ℕ} 0 1 = cc in omega arith)
      go (Some rest) q h = (rest, cc, q)

  pub step_end : Some rs ≡ record_stepped text (Ok None) → rs ≡ []
  step_end e = cc

  pub step_malformed : (r : Refusal) → Some rs ≡ record_stepped text (Err r) → ⊥
  step_malformed r e = let z : ◌≡◌ {A = ℕ} 0 1 = cc in omega arith

-- the place behind a record, or 0
abbrev pub place_behind : RecordStep → ℕ
place_behind (Ok None) = 0
place_behind (Ok (Some s)) = s.1
place_behind (Err r) = 0

-- a step is refused only where the line breaks its form
pub step-refused : (text : List ℕ) (at : ℕ) (r : Refusal) → record_step text at ≡ Err r → r ≡ line_malformed
unfolding record_step
step-refused text at r e = go (leb (length text) at) (eqb (at + length (line_at text at)) (length text)) (line_of (line_at text at)) e
  where
    go : (s t : Bool) (o : Option Record)
        → ◌≡◌ {A = RecordStep} (cond s (Ok None) (cond t (Err line_malformed) (line_step o (at + length (line_at text at) + 1)))) (Err r)
        → r ≡ line_malformed
    go true t o f = absurd (let z : ◌≡◌ {A = ℕ} 0 1 = cc in omega arith)
    go false true o f = cc
    go false false None f = cc
    go false false (Some q) f = absurd (let z : ◌≡◌ {A = ℕ} 0 1 = cc in omega arith)

-- a step that yields a record goes on, and stays within the text
pub step-on : (text : List ℕ) (at : ℕ) (r : Record) (next : ℕ) → record_step text at ≡ Ok (Some (r, next)) → (at < next) × (next ≤ length text)
step-on text at r next e = elim (dec_lt at (length text)) [
  | no h ↦ absurd (let f = step-at-end text at (omega arith) in let z : ◌≡◌ {A = ℕ} 0 1 = cc in omega arith)
  | yes h ↦ elim (dec_lt (at + length (line_at text at)) (length text)) [
    | yes k ↦ on (line_of (line_at text at)) k (sym (step-at_line text at k) ∙ e)
    | no k ↦ absurd (let f = step-at_last text at h (omega (arith, line_within text at (omega arith))) in let z : ◌≡◌ {A = ℕ} 0 1 = cc in omega arith)
  ]
]
  where
    on : (o : Option Record) → at + length (line_at text at) < length text
        → line_step o (at + length (line_at text at) + 1) ≡ Ok (Some (r, next)) → (at < next) × (next ≤ length text)
    on None k f = absurd (let z : ◌≡◌ {A = ℕ} 0 1 = cc in omega arith)
    on (Some q) k f = let g : at + length (line_at text at) + 1 ≡ next = ap place_behind f in (omega arith, omega arith)

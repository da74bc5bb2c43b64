-- Laws of the records from a place of a text on: they are those that the step there stands for, those of a text that no
-- line breaks are its records, and there are no more of them than bytes.
use Rattle.std.specs.Prelude.{ℕ, ◌+◌, ◌-◌, ◌≤◌, ◌<◌, ◌≡◌, refl, Bool, true, false, eqb, Option, Some, None, Ok, Err}
use Rattle.std.proofs.Math.Path.{ap}
use Rattle.std.proofs.Common.{sym, ◌∙◌, arith, add_assoc, drop_of_length-le, drop-drop}
use mathlib.Core.List.{List, [], ◌∷◌}
use Rattle.std.proofs.Math.Decide.{dec_lt}
use Rattle.std.proofs.Math.ListN.{length, drop, length-drop}
use Rattle.plan_fields.specs.Cut.{newline, split_on}
use Rattle.plan_fields.specs.Word.{after}
use Rattle.plan_fields.specs.Laws.Cut.{first_count, first-length, split-first, split-none, split-some}
use Rattle.plan_record.specs.declared.record.Record.{Record}
use Rattle.plan_record.specs.Record.{line_of}
use Rattle.plan_text.specs.Text.{RecordStep, parts_records, records_from, line_at, line_step, record_step}
use Rattle.plan_text.specs.Laws.Text.{step-at-end, step-at_last, step-at_line}
use Rattle.plan_input.specs.Record.{in_front, records_in, records_at}

in-cons : (p : List ℕ) (ps : List (List ℕ)) → 1 ≤ length ps → records_in (p ∷ ps) ≡ in_front (line_of p) (records_in ps)
in-cons p [] h = absurd (omega arith)
in-cons p (q ∷ ps) h = refl

-- the records that a step's answer stands for: the one it yields and those from its place on
abbrev pub records_stepped : List ℕ → RecordStep → List Record
records_stepped text (Ok (Some s)) = s.0 ∷ records_at text s.1
records_stepped text (Ok None) = []
records_stepped text (Err e) = []

line-records : (text : List ℕ) (o : Option Record) (next : ℕ) → in_front o (records_at text next) ≡ records_stepped text (line_step o next)
line-records text None next = refl
line-records text (Some r) next = refl

module _ (text : List ℕ) (at : ℕ) where
  -- none behind the text; bytes that no newline ends are no line; a line, and the records behind its newline
  records-end : length text ≤ at → records_at text at ≡ []
  unfolding records_at
  records-end h = rw (drop_of_length-le text h)

  records_last : length text ≤ at + length (line_at text at) → records_at text at ≡ []
  unfolding records_at
  records_last h = ap records_in (split-none newline (drop at text) (omega (arith, length-drop at text)))

  records_line : at + length (line_at text at) < length text
      → records_at text at ≡ in_front (line_of (line_at text at)) (records_at text (at + length (line_at text at) + 1))
  unfolding records_at
  records_line h =
      let rest = drop (length (line_at text at) + 1) (drop at text) in
      let e : rest ≡ drop (at + length (line_at text at) + 1) text = rw (drop-drop, ← add_assoc) in
      ap records_in (split-first newline (drop at text) (omega (arith, length-drop at text)))
      ∙ in-cons (line_at text at) (split_on newline rest) (split-some newline rest)
      ∙ ap (λ (r : List ℕ). in_front (line_of (line_at text at)) (records_in (split_on newline r))) e

  pub records_step : records_at text at ≡ records_stepped text (record_step text at)
  records_step = elim (dec_lt at (length text)) [
    | no h ↦ records-end (omega arith) ∙ sym (ap (records_stepped text) (step-at-end text at (omega arith)))
    | yes h ↦ elim (dec_lt (at + length (line_at text at)) (length text)) [
      | yes k ↦ records_line k ∙ line-records text (line_of (line_at text at)) (at + length (line_at text at) + 1)
          ∙ sym (ap (records_stepped text) (step-at_line text at k))
      | no k ↦ let e : at + length (line_at text at) ≡ length text = omega (arith, first-length newline (drop at text), length-drop at text) in
          records_last (omega arith) ∙ sym (ap (records_stepped text) (step-at_last text at h e))
    ]
  ]

  -- the same, by an answer that is the step's
  pub records_by : {a s : RecordStep} → a ≡ record_step text at → a ≡ s → records_at text at ≡ records_stepped text s
  records_by e f = records_step ∙ ap (records_stepped text) (sym e ∙ f)

-- where no line breaks its form, the records are those of the text
parts-accepted : (ps : List (List ℕ)) {rs : List Record} → parts_records ps ≡ Some rs → records_in ps ≡ rs
parts-accepted [] e = absurd (let z : ◌≡◌ {A = ℕ} 0 1 = cc in omega arith)
parts-accepted ([] ∷ []) e = cc
parts-accepted ((b ∷ p) ∷ []) e = absurd (let z : ◌≡◌ {A = ℕ} 0 1 = cc in omega arith)
parts-accepted (p ∷ q ∷ ps) {rs} e = go (line_of p) (parts_records (q ∷ ps)) (λ rest. parts-accepted (q ∷ ps) {rs = rest}) e
  where
    go : (l : Option Record) (o : Option (List Record)) → ((rest : List Record) → o ≡ Some rest → records_in (q ∷ ps) ≡ rest)
        → after l (λ r. after o (λ rest. Some (r ∷ rest))) ≡ Some rs → in_front l (records_in (q ∷ ps)) ≡ rs
    go None o f g = absurd (let z : ◌≡◌ {A = ℕ} 0 1 = cc in omega arith)
    go (Some r) None f g = absurd (let z : ◌≡◌ {A = ℕ} 0 1 = cc in omega arith)
    go (Some r) (Some rest) f g = ap (λ (l : List Record). r ∷ l) (f rest refl) ∙ cc

pub records-accepted : (text : List ℕ) (at : ℕ) {rs : List Record} → records_from at text ≡ Some rs → records_at text at ≡ rs
unfolding records_at
records-accepted text at e = parts-accepted (split_on newline (drop at text)) e

-- a line for each newline at most
split_few : (c : ℕ) (bs : List ℕ) → length (split_on c bs) ≤ length bs + 1
split_few c [] = omega arith
split_few c (b ∷ bs) = go (eqb b c) refl (split_few c bs)
  where
    go : (t : Bool) → eqb b c ≡ t → length (split_on c bs) ≤ length bs + 1 → length (split_on c (b ∷ bs)) ≤ length (b ∷ bs) + 1
    go true e i = rw e (omega arith)
    go false e i = rw e (omega (arith, first_count b (split_on c bs) (split-some c bs)))

in_few : (ps : List (List ℕ)) → length (records_in ps) ≤ length ps - 1
in_few [] = omega arith
in_few (p ∷ []) = omega arith
in_few (p ∷ q ∷ ps) = go (line_of p) (in_few (q ∷ ps))
  where
    go : (l : Option Record) → length (records_in (q ∷ ps)) ≤ length (q ∷ ps) - 1 → length (in_front l (records_in (q ∷ ps))) ≤ length (p ∷ q ∷ ps) - 1
    go None i = omega arith
    go (Some r) i = omega arith

pub records_few : (text : List ℕ) (at : ℕ) → length (records_at text at) ≤ length text
unfolding records_at
records_few text at =
    let ps = split_on newline (drop at text) in
    omega (arith, in_few ps, split_few newline (drop at text), length-drop at text)

-- A text is read as records exactly where it is the text that spells them.
use Rattle.std.specs.Prelude.{ℕ, ◌≤◌, ◌≡◌, refl, true, List, [], ◌∷◌, ◌++◌, map, length, get_or, Some, Ok}
use Rattle.std.proofs.Common.{ap, sym, ◌∙◌}
use Rattle.memory_range.specs.Bytes.{All}
use Rattle.plan_fields.specs.Cut.{newline, split_on, join_with}
use Rattle.plan_fields.specs.Laws.Cut.{split-some, join_split, split_append}
use Rattle.plan_fields.specs.Laws.Word.{after-some}
use Rattle.plan_record.specs.declared.record.Record.{Record}
use Rattle.plan_record.specs.declared.record.Record.TheVariants.{Shape, File, Mem, Import, Used, State, Config, Keep, Side, Tables, Log, Gpool, Pool, Get}
use Rattle.plan_record.specs.Record.{field, forms, word_in, line_of}
use Rattle.line_claims.specs.Spelling.{fields_for, line_for, Sized}
use Rattle.line_claims.proofs.Laws.Plain.{line-without}
use Rattle.line_claims.proofs.Laws.Record.{line_read, line_spelled}
use Rattle.plan_text.specs.Order.{place_of, in_order_of}
use Rattle.plan_text.specs.Spelling.{text_for}
use Rattle.plan_text.specs.Text.{last_part, parts_records, records_of, text_size, text_check}
use Rattle.plan_text.specs.Laws.Text.{parts-cons, accepts, accepted, accepted_size}
use Rattle.std.proofs.lemmas.Option.{none-some, same_Some}

-- the text of records is read as the records
pub text-read : (rs : List Record) → All Sized rs → records_of (text_for rs) ≡ Some rs
text-read [] h = refl
text-read (r ∷ rs) h =
    ap parts_records (split_append newline (line_for r) (text_for rs) (line-without r h.0))
    ∙ parts-cons (line_for r) (split_on newline (text_for rs)) (split-some newline (text_for rs))
    ∙ rw (line_read r h.0, text-read rs h.1)

-- and a text that is read as records is theirs
last_spelled : (p : List ℕ) (rs : List Record) → last_part p ≡ Some rs → (p ≡ text_for rs) × All Sized rs
last_spelled [] rs e = rw (← same_Some [] rs e) (refl, tt)
last_spelled (b ∷ bs) rs e = absurd (none-some rs e)

parts_spelled : (ps : List (List ℕ)) (rs : List Record) → parts_records ps ≡ Some rs → (join_with newline ps ≡ text_for rs) × All Sized rs
parts_spelled [] rs e = absurd (none-some rs e)
parts_spelled (p ∷ []) rs e = last_spelled p rs e
parts_spelled (p ∷ q ∷ ps) rs e =
    let a = after-some (line_of p) _ e in
    let b = after-some (parts_records (q ∷ ps)) _ a.2 in
    let line = line_spelled p a.0 a.1 in
    let rest = parts_spelled (q ∷ ps) b.0 b.1 in
    rw (← same_Some _ rs b.2)
    (ap (λ (l : List ℕ). p ++ newline ∷ l) rest.0 ∙ ap (λ (l : List ℕ). l ++ newline ∷ text_for b.0) line.0, (line.1, rest.1))

pub text_spelled : (text : List ℕ) (rs : List Record) → records_of text ≡ Some rs → (text ≡ text_for rs) × All Sized rs
text_spelled text rs e =
    let s = parts_spelled (split_on newline text) rs e in
    (sym (join_split newline text) ∙ s.0, s.1)

-- of records in order: what is accepted is their text, and their text, if it is not too long, is accepted
pub accepted_spelled : (text : List ℕ) → text_check text ≡ Ok tt
    → (rs : List Record) × (text ≡ text_for rs) × All Sized rs × (in_order_of rs ≡ true) × (length text ≤ text_size)
accepted_spelled text h =
    let a = accepted text h in
    let s = text_spelled text a.0 a.1 in
    (a.0, s.0, s.1, a.2, accepted_size text h)

pub spelled-accepted : (rs : List Record) → All Sized rs → in_order_of rs ≡ true → length (text_for rs) ≤ text_size → text_check (text_for rs) ≡ Ok tt
spelled-accepted rs s o h = accepts (text_for rs) rs h (text-read rs s) o

-- no two lists of records have one text
pub one_text : (rs qs : List Record) → All Sized rs → All Sized qs → text_for rs ≡ text_for qs → rs ≡ qs
one_text rs qs h k e = same_Some rs qs (sym (text-read rs h) ∙ ap records_of e ∙ text-read qs k)

-- the place of a record is that of its word among the fourteen
abbrev pub word_at : ℕ → List ℕ
word_at k = get_or (map word_in forms) k []

pub placed-word : (r : Record) → field 0 (fields_for r) ≡ word_at (place_of r)
placed-word (Shape x) = refl
placed-word (File x) = refl
placed-word (Mem x) = refl
placed-word (Import x) = refl
placed-word (Used x) = refl
placed-word (State x) = refl
placed-word (Config x) = refl
placed-word (Keep x) = refl
placed-word (Side x) = refl
placed-word (Tables x) = refl
placed-word (Log x) = refl
placed-word (Gpool x) = refl
placed-word (Pool x) = refl
placed-word (Get x) = refl

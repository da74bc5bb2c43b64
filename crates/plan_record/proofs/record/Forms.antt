-- A word's form, by what the code learnt of the word: which one it is, or that it is none of those with fields of their own.
use Rattle.std.specs.Prelude.{Option, Some}
use Prim.Native.Nat.{ℕ}
use mathlib.Core.Path.{◌≡◌, refl, sym, ◌∙◌}
use mathlib.Core.Bool.{Bool, true, false, cond}
use mathlib.Core.List.{List, [], ◌∷◌}
use Rattle.plan_fields.specs.Laws.Word.{same_eq}
use Rattle.plan_fields.specs.Word.{ascii, same_bytes, after}
use Rattle.plan_record.specs.declared.record.Record.{Record}
use Rattle.plan_record.specs.Record.{range_of, Form, own, range, forms, record_by, record_for, range_by}
use Rattle.plan_record.proofs.record.Laws.{after_none}

-- the word is `word`
pub is_word : (w word : List ℕ) (fs : List (List ℕ)) (r : Bool) (x : Option Record)
    → r ≡ same_bytes w word → r ≡ true → x ≡ record_for word fs → x ≡ record_for w fs
is_word w word fs r x e h p = rw (same_eq w word (sym e ∙ h)) p

-- the word is none of those with fields of their own
abbrev NotOwn : List ℕ → List Form → Type 0
NotOwn w [] = Unit {0}
NotOwn w (own word times make ∷ rest) = (same_bytes w (ascii word) ≡ false) × NotOwn w rest
NotOwn w (range word times make ∷ rest) = NotOwn w rest

by-range : (l : List Form) (w : List ℕ) (fs : List (List ℕ)) → NotOwn w l → after (range_of fs) (λ r. range_by l w r) ≡ record_by l w fs
by-range [] w fs h = after_none (range_of fs)
by-range (own word times make ∷ rest) w fs h = rw h.0 (by-range rest w fs h.1)
by-range (range word times make ∷ rest) w fs h = go (same_bytes w (ascii word)) (by-range rest w fs h)
  where
    go : (t : Bool) → after (range_of fs) (λ r. range_by rest w r) ≡ record_by rest w fs
        → after (range_of fs) (λ r. cond t (Some (make r)) (range_by rest w r))
        ≡ cond t (after (range_of fs) (λ r. Some (make r))) (record_by rest w fs)
    go true i = refl
    go false i = i

pub not_own : (w : List ℕ) (fs : List (List ℕ)) (a b c d : Bool) (x : Option Record)
    → a ≡ same_bytes w (ascii "shape") → a ≡ false → b ≡ same_bytes w (ascii "mem") → b ≡ false
    → c ≡ same_bytes w (ascii "pool") → c ≡ false → d ≡ same_bytes w (ascii "get") → d ≡ false
    → x ≡ after (range_of fs) (λ r. range_by forms w r) → x ≡ record_for w fs
not_own w fs a b c d x e e0 f f0 g g0 h h0 p =
    p ∙ by-range forms w fs (sym e ∙ e0, (sym f ∙ f0, (sym g ∙ g0, (sym h ∙ h0, tt))))

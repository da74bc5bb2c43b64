-- What a step of the text says that yields no record: that none is left; and a turn of the loop that reads a list, by the first of
-- the records left.
use Prim.Native.Nat.{ℕ, ◌≤◌}
use mathlib.Core.Path.{◌≡◌, refl, ap, sym, ◌∙◌}
use mathlib.Core.Bool.{Bool, true, false, cond}
use mathlib.Core.List.{List, [], ◌∷◌, map}
use native.Mathlib.Omega.{arith}
use lib.ListN.{length}
use Rattle.std.specs.Prelude.{Option, Some, None, Ok, Err}
use Rattle.std.specs.Result.{result_ok}
use Rattle.std.proofs.lemmas.Option.{none-some, same_Some}
use Rattle.plan_record.specs.declared.record.Record.{Record}
use Rattle.plan_text.specs.Text.{RecordStep, record_step}
use Rattle.plan_input.specs.Record.{records_at}
use Rattle.plan_input.specs.Laws.Record.{records_by}
use Rattle.plan_input.specs.Word.{of_word, word_first, words_first}

module _ (text : List ℕ) (at : ℕ) where
  -- a line that breaks its form
  pub step_broken : (s : RecordStep) → s ≡ record_step text at → result_ok s ≡ None → records_at text at ≡ []
  step_broken (Ok x) e h = absurd (none-some x (sym h))
  step_broken (Err r) e h = records_by text at e refl

  -- the end of the text
  pub step_ended : (s : RecordStep) (x : Option (Record × ℕ)) → s ≡ record_step text at → result_ok s ≡ Some x → x ≡ None → records_at text at ≡ []
  step_ended (Ok x) y e h k = records_by text at e (ap Ok (same_Some x y h ∙ k))
  step_ended (Err r) y e h k = absurd (none-some y h)

-- a step that is there
pub step_here : (s : RecordStep) (x : Option (Record × ℕ)) (y : Record × ℕ) → result_ok s ≡ Some x → x ≡ Some y → s ≡ Ok (Some y)
step_here (Ok x) z y h k = ap Ok (same_Some x z h ∙ k)
step_here (Err r) z y h k = absurd (none-some z h)

module _ {A : Type 0} (f : Record → A) (k : ℕ) where
  -- an item for each record at most, and one at least where the first is of the list
  pub words_few : (rs : List Record) → length (map f (words_first k rs)) ≤ length rs
  words_few [] = omega arith
  words_few (r ∷ rs) = go (of_word k r) (words_few rs)
    where
      go : (t : Bool) → length (map f (words_first k rs)) ≤ length rs → length (map f (cond t (r ∷ words_first k rs) [])) ≤ length (r ∷ rs)
      go true i = omega arith
      go false i = omega arith

  pub words_some : (rs : List Record) (r : Record) → word_first k rs ≡ Some r → 1 ≤ length (map f (words_first k rs))
  words_some [] r e = absurd (none-some r e)
  words_some (q ∷ rs) r e = go (of_word k q) refl
    where
      go : (t : Bool) → of_word k q ≡ t → 1 ≤ length (map f (words_first k (q ∷ rs)))
      go true t = rw t (omega arith)
      go false t = absurd (none-some r (rw t at e))

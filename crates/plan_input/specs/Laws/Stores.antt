-- Values that are stored one by one, from an array's first place on: what is left to store. Those past its end change nothing.
use Rattle.std.specs.Prelude.{ℕ, ◌+◌, ◌≡◌, refl, List, [], ◌∷◌, length, set}
use Rattle.std.proofs.Common.{sym, ap, ◌∙◌, add-one}
use Rattle.std.proofs.lemmas.List.Edits.{sets}
use Rattle.std.proofs.Math.Seq.{length-sets}

-- to store vs from place k on into the list as it is now is to store vs₀ from the first place on into the list as it was
pub record Stores {A : Type 0} (l₀ vs₀ : List A) (k : ℕ) (l vs : List A) : Type 0 where
  pub all : sets l k vs ≡ sets l₀ 0 vs₀

-- none is stored yet
pub stores-start : {A : Type 0} {l₀ vs : List A} {l : List A} → l ≡ l₀ → Stores l₀ vs 0 l vs
stores-start e = rw e record { all = refl }

module _ {A : Type 0} {l₀ vs₀ : List A} {k : ℕ} {l : List A} where
  -- the next one is stored
  pub stores-next : {l' vs : List A} {v : A} → l' ≡ set l k v → Stores l₀ vs₀ k l (v ∷ vs) → Stores l₀ vs₀ (k + 1) l' vs
  stores-next e s = rw e record { all = rw (add-one k) s.all }

  -- none is left
  pub stores-none : Stores l₀ vs₀ k l [] → l ≡ sets l₀ 0 vs₀
  stores-none s = s.all

  pub stores-length : {vs : List A} → Stores l₀ vs₀ k l vs → length l ≡ length l₀
  stores-length {vs = vs} s = sym (length-sets l k vs) ∙ ap length s.all ∙ length-sets l₀ 0 vs₀

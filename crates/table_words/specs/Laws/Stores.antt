-- Laws of stores one after the other, as loops make them: what is left to store, and the list that all of them lead to.
use Rattle.std.specs.Prelude.{ℕ, suc, ◌+◌, ◌≤◌, ◌≡◌, refl, List, [], ◌∷◌, ◌++◌, length, set}
use Rattle.std.proofs.Common.{sym, ap, ◌∙◌, add-zero, arith}
use Rattle.std.proofs.lemmas.List.Edits.{sets}
use Rattle.std.proofs.Math.Seq.{length-sets, set_out}

module _ {A : Type 0} where
  pub sets_append : (l : List A) (k : ℕ) (us vs : List A) → sets l k (us ++ vs) ≡ sets (sets l k us) (k + length us) vs
  sets_append l k [] vs = rw (add-zero k)
  sets_append l k (u ∷ us) vs =
      let e : suc k + length us ≡ k + suc (length us) = omega arith in
      sets_append (set l k u) (suc k) us vs ∙ rw e

  -- nothing is stored past the end
  pub sets_out : (l : List A) (k : ℕ) (vs : List A) → length l ≤ k → sets l k vs ≡ l
  sets_out l k [] h = refl
  sets_out l k (v ∷ vs) h = rw (set_out l k v h) (sets_out l (suc k) vs (omega arith))

  -- no more is stored than there is
  pub sets_none : (l : List A) (k : ℕ) (vs : List A) → length vs ≡ 0 → sets l k vs ≡ l
  sets_none l k [] h = refl
  sets_none l k (v ∷ vs) h = absurd (omega arith)

  -- to store vs from place k on leads to that list
  pub record Stores (end : List A) (k : ℕ) (l vs : List A) : Type 0 where
    pub all : sets l k vs ≡ end

  module _ {end : List A} {k : ℕ} {l : List A} where
    -- some are stored
    pub stores_more : (us vs : List A) {l' : List A} {k' : ℕ} → l' ≡ sets l k us → k' ≡ k + length us → Stores end k l (us ++ vs)
        → Stores end k' l' vs
    stores_more us vs e f s = rw (e, f) record { all = sym (sets_append l k us vs) ∙ s.all }

    -- none is left
    pub stores-end : {vs : List A} → vs ≡ [] → Stores end k l vs → l ≡ end
    stores-end e s = rw e at s.all

    pub stores-length : {vs : List A} → Stores end k l vs → length l ≡ length end
    stores-length {vs} s = sym (length-sets l k vs) ∙ ap length s.all

-- Locals and operands of a function that is walked by hand.
use Rattle.std.specs.Prelude.{ℕ, zero, suc, ◌+◌, ◌≡◌, List, [], ◌∷◌}
use Rattle.std.proofs.Common.{sym, ◌∙◌, ap, subst}
use Rattle.std.proofs.Math.Option.{some}
use seplogic.Ra.Ura.{Ura}
use base.Fraction.{full_share}
use mir.Syntax.{Width, Sym, Ty, Tys, Local, local, ty_bool, ty_struct, int_big, copy, place, field}
use mir.Val.{Val, Vals, Fits, vint, vstruct}
use mir.Fields.{get_v}
use base.Logic.{via, guard_i}
use base.Fml.{fat}
use prog.Memory.{field_at}
use prog.Wp.{Env, spot_of}
use types.Logic.{Logic}
use types.Kit.{Item, ‵, nth}
use types.Run.{Opd, Walks, stop, fld, from, load}
use types.Part.{Part, whole, sub, look_in}

-- the MIR type of a local, as the function has it
abbrev pub type_at : List Local → ℕ → Ty
type_at [] k = ty_bool
type_at (local τ h ∷ ls) zero = τ
type_at (local τ h ∷ ls) (suc k) = type_at ls k

-- a constant above what is written out bit by bit: that it fits is shown
module _ {M : Type 1} {𝓤 : Ura M} {𝓛 : Logic 𝓤} {J : Type 0} {Γ : List (Item 𝓤)} {En : Env 𝓤 𝓛.H} where
  pub big_lit : J → {w : Width} {n : ℕ} → Fits w n → Opd J 𝓛 Γ En (int_big w n) (vint w n)
  big_lit t {w} {n} z = record { go = λ Kt h. via 𝓤 (Kt (vint w n)) h (guard_i 𝓤 (Fits w n) (Kt (vint w n)) z) }

-- What is read of a local that holds a struct. Types and values are any, and equations say which: written out they are long, and a
-- walk only carries them along.
module _ {M : Type 1} {𝓤 : Ura M} {𝓛 : Logic 𝓤} {J : Type 0} where
  open 𝓛 use {H}

  -- all of it, as a part of what is held
  pub cell-at : J → {i : Item 𝓤} (σ : Ty) (l : ℕ) (u : Val) → i ≡ ‵ (fat full_share σ l 0 u) → Part J 𝓛 i full_share σ l 0 u (λ w. ‵ (fat full_share σ l 0 w))
  cell-at t σ l u e = subst (λ (j : Item 𝓤). Part J 𝓛 j full_share σ l 0 u (λ w. ‵ (fat full_share σ l 0 w))) (sym e) (whole t)

  -- field k of it, as an operand: the local is i, and stands at place n of what is held
  pub field_of : {Γ : List (Item 𝓤)} {En : Env 𝓤 H} → J → (σ τ : Ty) (ν : Sym) (τs : Tys) (u : Val) (vs : Vals) (n i l k d : ℕ) → σ ≡ ty_struct ν τs → u ≡ vstruct vs → field_at zero τs k ≡ some (τ, d)
      → spot_of 𝓤 H En i ≡ (σ, l, 0) → nth 𝓛 n Γ ≡ ‵ (fat full_share σ l 0 u) → Opd J 𝓛 Γ En (copy (place i (field k ∷ []))) (get_v vs k)
  field_of {Γ} {En} t σ τ ν τs u vs n i l k d σ-is u-is at-k at_i at_n =
      load t (from t (subst (λ (sp : Ty × ℕ × ℕ). Walks J 𝓛 Γ En sp (field k ∷ []) (τ, l, 0 + d)) (sym (at_i ∙ ap (λ (ρ : Ty). (ρ, l, 0)) σ-is)) (fld t at-k (stop t))))
      (look_in t n (sub t k at-k (cell-at t (ty_struct ν τs) l (vstruct vs) (at_n ∙ (λ j. ‵ (fat full_share (σ-is j) l 0 (u-is j)))))))

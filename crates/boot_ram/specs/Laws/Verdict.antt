-- Laws of what becomes of pieces, one for each way that a turn can end: what they come to behind the pieces that are held.
use Rattle.std.specs.Prelude.{ℕ, ◌+◌, ◌≤◌, ◌<◌, ◌≡◌, List, [], ◌∷◌, ◌++◌, length, set, Option, Some, None}
use Rattle.std.proofs.Common.{refl, sym, ap, ◌∙◌, arith, append_assoc, length-append, length-set, lt-ltb, le-ltb}
use Rattle.std.proofs.lemmas.List.{append-nil}
use Rattle.std.proofs.lemmas.Option.{none-some}
use Rattle.std.proofs.Math.Decide.{dec_lt}
use Rattle.memory_range.specs.declared.range.TaggedRange.{TaggedRange}
use Rattle.memory_range.specs.List.{starts_of, ends_of, tags_of}
use Rattle.boot_ram.specs.Verdict.{Verdict, free, choose, refuse, pass, max_free, max_chosen, Judged, ends, with_free, with_chosen, judged, behind, written, WrittenTo}
use Rattle.refusal.specs.declared.Refusal.{Refusal}
use Rattle.refusal.specs.Number.{too_many_pieces}

-- a free piece is counted where there is room for it, and else refused; likewise a chosen one
module _ (f c : ℕ) {x : TaggedRange} {us vs : List Verdict} where
  pub judged-free : us ≡ free x ∷ vs → f < max_free → judged f c us ≡ with_free x (judged (f + 1) c vs)
  judged-free e h = rw (e, lt-ltb f max_free h)

  pub judged-free_full : us ≡ free x ∷ vs → max_free ≤ f → judged f c us ≡ ends (Some too_many_pieces)
  judged-free_full e h = rw (e, le-ltb f max_free h)

  pub judged_choose : us ≡ choose x ∷ vs → c < max_chosen → judged f c us ≡ with_chosen x (judged f (c + 1) vs)
  judged_choose e h = rw (e, lt-ltb c max_chosen h)

  pub judged_choose_full : us ≡ choose x ∷ vs → max_chosen ≤ c → judged f c us ≡ ends (Some too_many_pieces)
  judged_choose_full e h = rw (e, le-ltb c max_chosen h)

-- the verdicts in turn, behind free and chosen pieces that are held already
abbrev pub so_far : List TaggedRange → List TaggedRange → List Verdict → Judged
so_far fs cs vs = behind fs cs (judged (length fs) (length cs) vs)

-- a refusal, if any, behind such pieces
abbrev pub held_with : Option Refusal → List TaggedRange → List TaggedRange → Judged
held_with o fs cs = record { refusal = o; free = fs; chosen = cs }

-- a free piece is held where there is room for it, and else refused; likewise a chosen one
module _ (fs cs : List TaggedRange) {x : TaggedRange} {us vs : List Verdict} where
  pub held-free : us ≡ free x ∷ vs → length fs < max_free → so_far fs cs us ≡ so_far (fs ++ x ∷ []) cs vs
  held-free e h = rw (e, lt-ltb (length fs) max_free h, length-append, append_assoc)

  pub held-free_full : us ≡ free x ∷ vs → max_free ≤ length fs → so_far fs cs us ≡ held_with (Some too_many_pieces) fs cs
  held-free_full e h = rw (e, le-ltb (length fs) max_free h, append-nil, append-nil)

  pub held_choose : us ≡ choose x ∷ vs → length cs < max_chosen → so_far fs cs us ≡ so_far fs (cs ++ x ∷ []) vs
  held_choose e h = rw (e, lt-ltb (length cs) max_chosen h, length-append, append_assoc)

  pub held_choose_full : us ≡ choose x ∷ vs → max_chosen ≤ length cs → so_far fs cs us ≡ held_with (Some too_many_pieces) fs cs
  held_choose_full e h = rw (e, le-ltb (length cs) max_chosen h, append-nil, append-nil)

module _ (fs cs : List TaggedRange) {us : List Verdict} where
  pub held_refuse : {r : Refusal} {vs : List Verdict} → us ≡ refuse r ∷ vs → so_far fs cs us ≡ held_with (Some r) fs cs
  held_refuse e = rw (e, append-nil, append-nil)

  pub held_pass : {vs : List Verdict} → us ≡ pass ∷ vs → so_far fs cs us ≡ so_far fs cs vs
  held_pass e = rw e

  -- no verdict is left
  pub held-none : us ≡ [] → so_far fs cs us ≡ held_with None fs cs
  held-none e = rw (e, append-nil, append-nil)

-- verdicts with others behind them: where none refuses, what comes behind is told from what they hold, and else nothing does
pub held_append : (fs cs : List TaggedRange) (vs ws : List Verdict) {gs ds : List TaggedRange} → so_far fs cs vs ≡ held_with None gs ds
    → so_far fs cs (vs ++ ws) ≡ so_far gs ds ws
held_append fs cs [] ws e =
    let same = held-none fs cs {us = []} refl in
    let f : fs ≡ _ = ap (λ (j : Judged). j.free) (sym same ∙ e) in
    let c : cs ≡ _ = ap (λ (j : Judged). j.chosen) (sym same ∙ e) in
    rw (f, c)
held_append fs cs (free x ∷ vs) ws e =
    elim (dec_lt (length fs) max_free) [
      | yes h ↦
          held-free fs cs {x = x} {vs = vs ++ ws} refl h ∙ held_append (fs ++ x ∷ []) cs vs ws (sym (held-free fs cs {x = x} {vs = vs} refl h) ∙ e)
      | no h ↦ absurd (none-some too_many_pieces (sym (ap (λ (j : Judged). j.refusal) (sym (held-free_full fs cs {x = x} {vs = vs} refl (omega arith)) ∙ e))))
    ]
held_append fs cs (choose x ∷ vs) ws e =
    elim (dec_lt (length cs) max_chosen) [
      | yes h ↦
          held_choose fs cs {x = x} {vs = vs ++ ws} refl h ∙ held_append fs (cs ++ x ∷ []) vs ws (sym (held_choose fs cs {x = x} {vs = vs} refl h) ∙ e)
      | no h ↦ absurd (none-some too_many_pieces (sym (ap (λ (j : Judged). j.refusal) (sym (held_choose_full fs cs {x = x} {vs = vs} refl (omega arith)) ∙ e))))
    ]
held_append fs cs (refuse r ∷ vs) ws e = absurd (none-some r (sym (ap (λ (j : Judged). j.refusal) e)))
held_append fs cs (pass ∷ vs) ws e = held_append fs cs vs ws e

pub held_refused : (fs cs : List TaggedRange) (vs ws : List Verdict) {r : Refusal} {gs ds : List TaggedRange}
    → so_far fs cs vs ≡ held_with (Some r) gs ds → so_far fs cs (vs ++ ws) ≡ held_with (Some r) gs ds
held_refused fs cs [] ws e = absurd (none-some _ (ap (λ (j : Judged). j.refusal) e))
held_refused fs cs (free x ∷ vs) ws e =
    elim (dec_lt (length fs) max_free) [
      | yes h ↦
          held-free fs cs {x = x} {vs = vs ++ ws} refl h ∙ held_refused (fs ++ x ∷ []) cs vs ws (sym (held-free fs cs {x = x} {vs = vs} refl h) ∙ e)
      | no h ↦ held-free_full fs cs {x = x} {vs = vs ++ ws} refl (omega arith) ∙ sym (held-free_full fs cs {x = x} {vs = vs} refl (omega arith)) ∙ e
    ]
held_refused fs cs (choose x ∷ vs) ws e =
    elim (dec_lt (length cs) max_chosen) [
      | yes h ↦
          held_choose fs cs {x = x} {vs = vs ++ ws} refl h ∙ held_refused fs (cs ++ x ∷ []) vs ws (sym (held_choose fs cs {x = x} {vs = vs} refl h) ∙ e)
      | no h ↦ held_choose_full fs cs {x = x} {vs = vs ++ ws} refl (omega arith) ∙ sym (held_choose_full fs cs {x = x} {vs = vs} refl (omega arith)) ∙ e
    ]
held_refused fs cs (refuse r ∷ vs) ws e = e
held_refused fs cs (pass ∷ vs) ws e = held_refused fs cs vs ws e

-- lists of numbers beside each other, as callers may hold them: to write xs from place k on into them as they are now is
-- to write xs₀ from place k₀ on into them as they were
pub record Writes (k₀ : ℕ) (xs₀ : List TaggedRange) (ss₀ es₀ ts₀ : List ℕ) (k : ℕ) (xs : List TaggedRange) (ss es ts : List ℕ) : Type 0 where
  pub count : k₀ + length xs₀ ≡ k + length xs
  pub starts : written k₀ (starts_of xs₀) ss₀ ≡ written k (starts_of xs) ss
  pub ends : written k₀ (ends_of xs₀) es₀ ≡ written k (ends_of xs) es
  pub tags : written k₀ (tags_of xs₀) ts₀ ≡ written k (tags_of xs) ts
  pub lengths : (length ss ≡ length ss₀) × (length es ≡ length es₀) × (length ts ≡ length ts₀)

pub writes-all : (k₀ : ℕ) (xs₀ : List TaggedRange) (ss₀ es₀ ts₀ : List ℕ) → Writes k₀ xs₀ ss₀ es₀ ts₀ k₀ xs₀ ss₀ es₀ ts₀
writes-all k₀ xs₀ ss₀ es₀ ts₀ = record { count = refl; starts = refl; ends = refl; tags = refl; lengths = (refl, refl, refl) }

module _ {k₀ k : ℕ} {xs₀ : List TaggedRange} {ss₀ es₀ ts₀ ss es ts : List ℕ} where
  -- the next one is written
  pub writes-next : {x : TaggedRange} {xs : List TaggedRange} {t : ℕ} {ss' es' ts' : List ℕ}
      → ss' ≡ set ss k x.range.start → es' ≡ set es k x.range.end → ts' ≡ set ts k t → x.tag ≡ t
      → Writes k₀ xs₀ ss₀ es₀ ts₀ k (x ∷ xs) ss es ts → Writes k₀ xs₀ ss₀ es₀ ts₀ (k + 1) xs ss' es' ts'
  writes-next p q r n w = rw (p, q, r, ← n) record {
    count = omega (arith, w.count);
    starts = w.starts;
    ends = w.ends;
    tags = w.tags;
    lengths = simp length-set w.lengths;
  }

  -- none is left
  pub writes-none : Writes k₀ xs₀ ss₀ es₀ ts₀ k [] ss es ts → WrittenTo k₀ xs₀ ss₀ es₀ ts₀ ss es ts
  writes-none w = (sym w.starts, sym w.ends, sym w.tags)

-- Laws of choosing pieces into lists of numbers beside each other, as callers may hold them: one for each verdict that
-- can come first, and what the lists keep; and of one node's verdicts with others behind them. The answer and the
-- lists are one value.
use Prim.Native.Nat.{ℕ, suc, ◌+◌, ◌-◌, ◌≤◌, ◌<◌}
use Rattle.std.specs.Prelude.{◌≡◌, List, [], ◌∷◌, ◌++◌, take, set, Result, Ok, Err}
use Rattle.std.proofs.Math.Path.{refl}
use native.Mathlib.Omega.{arith}
use Rattle.std.proofs.Common.{eq-eqb, ne_eqb, lt-ltb, le-ltb}
use Rattle.std.proofs.Math.Decide.{dec_lt, ℕ_discrete}
use Rattle.std.proofs.Math.ListN.{length}
use Rattle.std.proofs.lemmas.List.{take-set-le}
use Rattle.memory_range.specs.declared.range.TaggedRange.{TaggedRange}
use Rattle.memory_range.specs.List.{starts_of, ends_of, tags_of}
use Rattle.memory_range.specs.Range.{length_of}
use Rattle.refusal.specs.declared.Refusal.{Refusal}
use Rattle.boot_ram.specs.Verdict.{Verdict, choose, refuse, Judged, judged, max_chosen, chosen_counted, written, WrittenTo}
use Rattle.refusal.specs.Number.{too_many_pieces, node_too_small}
use Rattle.boot_take.specs.Take.{taken_of, take_from}

-- an answer, and the starts, ends and nodes of the chosen pieces
pub record Outcome : Type 0 where
  pub answer : Result ℕ Refusal
  pub starts : List ℕ
  pub ends : List ℕ
  pub tags : List ℕ

abbrev pub outcome : Result ℕ Refusal → List ℕ → List ℕ → List ℕ → Outcome
outcome a ss es ts = record { answer = a; starts = ss; ends = es; tags = ts }

-- verdicts in turn, where c pieces are chosen already
unfoldable pub choosing : ℕ → List Verdict → List ℕ → List ℕ → List ℕ → Outcome
choosing c vs ss es ts =
    outcome
    (chosen_counted c (judged 0 c vs))
    (written c (starts_of (judged 0 c vs).chosen) ss)
    (written c (ends_of (judged 0 c vs).chosen) es)
    (written c (tags_of (judged 0 c vs).chosen) ts)

-- and other verdicts behind them, unless they are refused
abbrev pub then_of : Result ℕ Refusal → Outcome → List Verdict → Outcome
then_of (Ok c) o vs = choosing c vs o.starts o.ends o.tags
then_of (Err r) o vs = o

abbrev pub and_then : Outcome → List Verdict → Outcome
and_then o vs = then_of o.answer o vs

module _ (c : ℕ) (ss es ts : List ℕ) where
  pub choosing-none : choosing c [] ss es ts ≡ outcome (Ok c) ss es ts
  unfolding choosing
  choosing-none = let e : c + 0 ≡ c = omega arith in rw e

  pub choosing_refused : (n : Refusal) (vs : List Verdict) → choosing c (refuse n ∷ vs) ss es ts ≡ outcome (Err n) ss es ts
  unfolding choosing
  choosing_refused n vs = refl

  pub choosing_full : (x : TaggedRange) (vs : List Verdict) → max_chosen ≤ c
      → choosing c (choose x ∷ vs) ss es ts ≡ outcome (Err too_many_pieces) ss es ts
  unfolding choosing
  choosing_full x vs h = rw (le-ltb c max_chosen h)

  pub choosing-next : (x : TaggedRange) (vs : List Verdict) → c < max_chosen
      → choosing c (choose x ∷ vs) ss es ts
      ≡ choosing (c + 1) vs (set ss c x.range.start) (set es c x.range.end) (set ts c x.tag)
  unfolding choosing
  choosing-next x vs h =
      let n = length (judged 0 (c + 1) vs).chosen in
      let e : c + 1 + n ≡ c + suc n = omega arith in
      rw (lt-ltb c max_chosen h, e)

-- the outcome in its parts, as a contract says them
abbrev pub Chosen : ℕ → Judged → List ℕ → List ℕ → List ℕ → Outcome → Type 0
Chosen c j ss es ts o = (o.answer ≡ chosen_counted c j) × WrittenTo c j.chosen ss es ts o.starts o.ends o.tags

module _ (c : ℕ) (vs : List Verdict) (ss es ts : List ℕ) (a : Result ℕ Refusal) (ss' es' ts' : List ℕ) where
  pub choosing-parts : choosing c vs ss es ts ≡ outcome a ss' es' ts' → Chosen c (judged 0 c vs) ss es ts (outcome a ss' es' ts')
  unfolding choosing
  choosing-parts e = (cc, (cc, cc, cc))

  pub parts-choosing : Chosen c (judged 0 c vs) ss es ts (outcome a ss' es' ts') → choosing c vs ss es ts ≡ outcome a ss' es' ts'
  unfolding choosing
  parts-choosing h = rw (h.0, h.1.0, h.1.1, h.1.2)

-- writing from place k on leaves what stands before it
pub before-written : (h k : ℕ) (xs l : List ℕ) → h ≤ k → take h (written k xs l) ≡ take h l
before-written h k [] l g = refl
before-written h k (x ∷ xs) l g = rw (before-written h (k + 1) xs (set l k x) (omega arith)) (take-set-le h l k x g)

-- one node's verdicts with others behind them: the node takes, and then come the others, unless it is refused
pub take-then : (n need : ℕ) (fs : List TaggedRange) (vs : List Verdict) (c : ℕ) (ss es ts : List ℕ)
    → choosing c (take_from n need fs ++ vs) ss es ts ≡ and_then (choosing c (take_from n need fs) ss es ts) vs
take-then n need [] vs c ss es ts =
    elim (ℕ_discrete need 0) [
      | yes h ↦ rw (eq-eqb need 0 h, choosing-none)
      | no h ↦ rw (ne_eqb need 0 h, choosing_refused c ss es ts node_too_small vs, choosing_refused c ss es ts node_too_small [])
    ]
take-then n need (f ∷ fs) vs c ss es ts =
    let r = taken_of need f.range in
    let x : TaggedRange = record { range = r; tag = n } in
    let m = need - length_of r in
    elim (ℕ_discrete need 0) [
      | yes h ↦ rw (eq-eqb need 0 h, choosing-none)
      | no h ↦
          rw (ne_eqb need 0 h)
          (elim (dec_lt c max_chosen) [
            | yes g ↦
                rw (choosing-next c ss es ts x (take_from n m fs ++ vs) g, choosing-next c ss es ts x (take_from n m fs) g)
                (take-then n m fs vs (c + 1) (set ss c r.start) (set es c r.end) (set ts c n))
            | no g ↦
                let l : max_chosen ≤ c = omega arith in
                rw (choosing_full c ss es ts x (take_from n m fs ++ vs) l, choosing_full c ss es ts x (take_from n m fs) l)
          ])
    ]

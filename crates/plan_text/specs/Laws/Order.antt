-- Laws of the order of records: judged one by one, records are in order exactly where their places ascend
-- and each word stands as often as it may. Both are followed place by place; that the two agree on one
-- place is a test computed at each of the 14 orders and 14 places.
use Rattle.std.specs.Prelude.{ℕ, zero, suc, ◌+◌, ◌≤◌, ◌<◌, ◌≡◌, refl, Bool, true, false, cond, ◌&&◌, List, [], ◌∷◌, eqb, leb, length, drop}
use Rattle.std.proofs.Common.{ap, sym, ◌∙◌, arith, zero-add, length-drop, drop-drop, le-leb, leb-true, eq-eqb, ne_eqb, eqb-true}
use Rattle.std.proofs.lemmas.Bool.{false≢true, lt-leb}
use Rattle.std.specs.Bool.{beq}
use Rattle.std.proofs.Math.Bool.{and-false, and_assoc}
use Rattle.std.proofs.Math.Decide.{dec_lt}
use Rattle.plan_record.specs.declared.record.Record.{Record}
use Rattle.plan_record.specs.declared.record.Record.TheVariants.{Shape, File, Mem, Import, Used, State, Config, Keep, Side, Tables, Log, Gpool, Pool, Get}
use Rattle.plan_record.specs.Record.{Occurs, one, optional, many}
use Rattle.plan_text.specs.Order.{place_of, places_of, occurs, allowed, times_in, times_allowed, places_ascend, in_order_of}
use Rattle.plan_text.specs.OrderStep.{broken, order_after, complete, ordered}

-- there are fourteen words
pub order-bound : (r : Record) → place_of r < 14
order-bound (Shape x) = omega arith
order-bound (File x) = omega arith
order-bound (Mem x) = omega arith
order-bound (Import x) = omega arith
order-bound (Used x) = omega arith
order-bound (State x) = omega arith
order-bound (Config x) = omega arith
order-bound (Keep x) = omega arith
order-bound (Side x) = omega arith
order-bound (Tables x) = omega arith
order-bound (Log x) = omega arith
order-bound (Gpool x) = omega arith
order-bound (Pool x) = omega arith
order-bound (Get x) = omega arith

-- a place below the order breaks it
pub after-passed : (k p : ℕ) → p < k → order_after k p ≡ broken
unfolding order_after
after-passed k p h = rw (lt-leb k p h)

-- a place below all is not in the list
pub none_below : (j k : ℕ) (ps : List ℕ) → places_ascend k ps ≡ true → j < k → times_in j ps ≡ 0
none_below j k [] a h = refl
none_below j k (p ∷ ps) a h = go (leb k p) refl a (none_below j p ps)
  where
    go : (t : Bool) → leb k p ≡ t → (t && places_ascend p ps) ≡ true → (places_ascend p ps ≡ true → j < p → times_in j ps ≡ 0) → times_in j (p ∷ ps) ≡ 0
    go true e b rest =
        let l = leb-true k p e in
        rw (ne_eqb p j (omega arith)) (omega (arith, rest b (omega arith)))
    go false e b rest = absurd (false≢true b)

-- a place below all the words is not counted
pub times-passed : (k : ℕ) (os : List Occurs) (p : ℕ) (ps : List ℕ) → p < k → times_allowed k os (p ∷ ps) ≡ times_allowed k os ps
times-passed k [] p ps h = refl
times-passed k (o ∷ os) p ps h =
    rw (ne_eqb p k (omega arith), times-passed (k + 1) os p ps (omega arith), zero-add)

-- places that ascend from p, p not among them, ascend from the next
pub ascend-next : (p : ℕ) (ps : List ℕ) → (places_ascend p ps && eqb (times_in p ps) 0) ≡ places_ascend (p + 1) ps
ascend-next p [] = refl
ascend-next p (q ∷ qs) =
    elim (dec_lt q p) [ yes h ↦ below h | no h ↦ elim (dec_lt p q) [ yes l ↦ above l (places_ascend q qs) refl | no l ↦ at (omega arith) ] ]
  where
    below : q < p → (places_ascend p (q ∷ qs) && eqb (times_in p (q ∷ qs)) 0) ≡ places_ascend (p + 1) (q ∷ qs)
    below h = rw (lt-leb p q h, lt-leb (p + 1) q (omega arith))

    at : q ≡ p → (places_ascend p (q ∷ qs) && eqb (times_in p (q ∷ qs)) 0) ≡ places_ascend (p + 1) (q ∷ qs)
    at e =
        rw (le-leb p q (omega arith), eq-eqb q p e, lt-leb (p + 1) q (omega arith), ne_eqb (1 + times_in p qs) 0 (λ z. omega arith), and-false)

    above : p < q → (t : Bool) → places_ascend q qs ≡ t
        → (places_ascend p (q ∷ qs) && eqb (times_in p (q ∷ qs)) 0) ≡ places_ascend (p + 1) (q ∷ qs)
    above h true e = rw (le-leb p q (omega arith), le-leb (p + 1) q (omega arith), ne_eqb q p (omega arith), none_below p q qs e h, e)
    above h false e = rw (le-leb p q (omega arith), le-leb (p + 1) q (omega arith), e)

-- what must hold of the places behind those that left the order k; os are the words from k on
abbrev pub in_order_from : ℕ → List Occurs → List ℕ → Bool
in_order_from k os ps = places_ascend k ps && times_allowed k os ps

-- the same by the order alone: nothing holds once it is broken
abbrev pub from_order : ℕ → List ℕ → Bool
from_order k ps = cond (leb k 13) (in_order_from k (drop k occurs) ps) false

-- the order behind the place p of a word that so occurs
abbrev after : Occurs → ℕ → ℕ
after one p = p + 1
after optional p = p + 1
after many p = p

-- the order behind the place p, by the words from k on: each before p is passed over, if it may be missing
abbrev jump : ℕ → List Occurs → ℕ → ℕ
jump k [] p = broken
jump k (o ∷ os) p = cond (eqb k p) (after o p) (cond (allowed o 0) (jump (k + 1) os p) broken)

-- a word below the first place stands nowhere
skip : (k : ℕ) (o : Occurs) (os : List Occurs) (p : ℕ) (ps : List ℕ) → k < p → in_order_from k (o ∷ os) (p ∷ ps) ≡ (allowed o 0 && in_order_from (k + 1) os (p ∷ ps))
skip k o os p ps h = rw (le-leb k p (omega arith), le-leb (k + 1) p (omega arith), ne_eqb p k (omega arith)) (go (places_ascend p ps) refl)
  where
    go : (t : Bool) → places_ascend p ps ≡ t
        → (t && (allowed o (0 + times_in k ps) && times_allowed (k + 1) os (p ∷ ps))) ≡ (allowed o 0 && (t && times_allowed (k + 1) os (p ∷ ps)))
    go true e = rw (none_below k p ps e h)
    go false e = sym (and-false (allowed o 0))

-- a word that does not repeat and stands here must not stand again
once-one : (n : ℕ) → allowed one (1 + n) ≡ eqb n 0
once-one n =
    elim (dec_lt 0 n) [
      | yes h ↦ rw (ne_eqb (1 + n) 1 (omega arith), ne_eqb n 0 (omega arith))
      | no h ↦ rw (eq-eqb (1 + n) 1 (omega arith), eq-eqb n 0 (omega arith))
    ]

once-optional : (n : ℕ) → allowed optional (1 + n) ≡ eqb n 0
once-optional n =
    elim (dec_lt 0 n) [
      | yes h ↦ rw (lt-leb (1 + n) 1 (omega arith), ne_eqb n 0 (omega arith))
      | no h ↦ rw (le-leb (1 + n) 1 (omega arith), eq-eqb n 0 (omega arith))
    ]

words-next : (k : ℕ) (o : Occurs) (os : List Occurs) → drop k occurs ≡ o ∷ os → drop (k + 1) occurs ≡ os
words-next k o os e = sym (drop-drop 1 k occurs) ∙ ap (drop 1) e

-- the last word may repeat, so no place leaves an order past it
after-bound : (p : ℕ) (o : Occurs) (os : List Occurs) → drop p occurs ≡ o ∷ os → p < 14 → after o p ≤ 13
after-bound p o os e h = elim (dec_lt p 13) [ yes l ↦ omega (arith, after_le o) | no l ↦ rw (last (omega arith)) (omega arith) ]
  where
    after_le : (o : Occurs) → after o p ≤ p + 1
    after_le one = omega arith
    after_le optional = omega arith
    after_le many = omega arith

    last : p ≡ 13 → o ≡ many
    last q = let w : drop 13 occurs ≡ o ∷ os = (rw q at e) in cc

-- the first place is that of the first word
at_place : (o : Occurs) (os : List Occurs) (p : ℕ) (ps : List ℕ) → drop p occurs ≡ o ∷ os → p < 14
    → in_order_from p (o ∷ os) (p ∷ ps) ≡ from_order (after o p) ps
at_place o os p ps e h =
    rw (le-leb p p (omega arith), eq-eqb p p refl, times-passed (p + 1) os p ps (omega arith)) (go o e (words-next p o os e) (after-bound p o os e h))
  where
    next : (t : Bool) → t ≡ eqb (times_in p ps) 0 → drop (p + 1) occurs ≡ os → p + 1 ≤ 13
        → (places_ascend p ps && (t && times_allowed (p + 1) os ps)) ≡ from_order (p + 1) ps
    next t q d l = rw (le-leb (p + 1) 13 l, d, q, ← ascend-next p ps, and_assoc)

    go : (o : Occurs) → drop p occurs ≡ o ∷ os → drop (p + 1) occurs ≡ os → after o p ≤ 13
        → (places_ascend p ps && (allowed o (1 + times_in p ps) && times_allowed (p + 1) os ps)) ≡ from_order (after o p) ps
    go one e d l = next (allowed one (1 + times_in p ps)) (once-one (times_in p ps)) d l
    go optional e d l = next (allowed optional (1 + times_in p ps)) (once-optional (times_in p ps)) d l
    go many e d l = rw (le-leb p 13 l, e)

-- a place is judged right by the words from k to it
jump-right : (k : ℕ) (os : List Occurs) (p : ℕ) (ps : List ℕ) → drop k occurs ≡ os → k ≤ p → p < 14 → in_order_from k os (p ∷ ps) ≡ from_order (jump k os p) ps
jump-right k [] p ps e l h = absurd (omega (arith, length-drop k occurs, ap length e))
jump-right k (o ∷ os) p ps e l h = go (dec_lt k p) (λ a. jump-right (k + 1) os p ps (words-next k o os e) (omega arith) h)
  where
    over : (o : Occurs) (x : Bool) (j : ℕ) → x ≡ from_order j ps → (allowed o 0 && x) ≡ from_order (cond (allowed o 0) j broken) ps
    over one x j q = refl
    over optional x j q = q
    over many x j q = q

    go : Dec (k < p) → (k < p → in_order_from (k + 1) os (p ∷ ps) ≡ from_order (jump (k + 1) os p) ps) → in_order_from k (o ∷ os) (p ∷ ps) ≡ from_order (jump k (o ∷ os) p) ps
    go (yes a) rest = rw (ne_eqb k p (omega arith)) (skip k o os p ps a ∙ over o (in_order_from (k + 1) os (p ∷ ps)) (jump (k + 1) os p) (rest a))
    go (no a) rest =
        let q : k ≡ p = omega arith in
        rw (eq-eqb k p q) (ap (λ (x : ℕ). in_order_from x (o ∷ os) (p ∷ ps)) q ∙ at_place o os p ps (ap (λ (x : ℕ). drop x occurs) (sym q) ∙ e) h)

-- a test of each number below n
abbrev pub all_below : ℕ → (ℕ → Bool) → Bool
all_below zero f = true
all_below (suc n) f = f n && all_below n f

pub below_all : (n : ℕ) (f : ℕ → Bool) → all_below n f ≡ true → (k : ℕ) → k < n → f k ≡ true
below_all zero f t k h = absurd (omega arith)
below_all (suc n) f t k h = go (f n) refl t (below_all n f)
  where
    go : (b : Bool) → f n ≡ b → (b && all_below n f) ≡ true → (all_below n f ≡ true → (k : ℕ) → k < n → f k ≡ true) → f k ≡ true
    go true e u rest = elim (dec_lt k n) [ yes l ↦ rest u k l | no l ↦ ap f (omega arith) ∙ e ]
    go false e u rest = absurd (false≢true u)

-- the two ways to judge one place agree, at each order and place
jump-after : (k p : ℕ) → k < 14 → p < 14 → jump k (drop k occurs) p ≡ order_after k p
unfolding order_after
jump-after k p h l =
    let f : ℕ → ℕ → Bool = λ k p. eqb (jump k (drop k occurs) p) (order_after k p) in
    eqb-true _ _ (below_all 14 (f k) (below_all 14 (λ k. all_below 14 (f k)) refl k h) p l)

beq-true : (a b : Bool) → beq a b ≡ true → a ≡ b
beq-true true true e = refl
beq-true true false e = sym e
beq-true false true e = e
beq-true false false e = refl

-- with no place left, no word is missing exactly where all that must stand are behind
at-end : (k : ℕ) → eqb k complete ≡ from_order k []
at-end k =
    elim (dec_lt k 14) [
      | yes h ↦ beq-true _ _ (below_all 14 (λ k. beq (eqb k complete) (from_order k [])) refl k h)
      | no h ↦ rw (ne_eqb k complete (omega arith), lt-leb k 13 (omega arith))
    ]

-- one place, judged
step : (k p : ℕ) (ps : List ℕ) → p < 14 → from_order (order_after k p) ps ≡ from_order k (p ∷ ps)
step k p ps h = elim (dec_lt p k) [ yes l ↦ past l (leb k 13) | no l ↦ on (omega arith) ]
  where
    past : p < k → (t : Bool) → from_order (order_after k p) ps ≡ cond t (in_order_from k (drop k occurs) (p ∷ ps)) false
    past l true = rw (after-passed k p l, lt-leb k p l)
    past l false = rw (after-passed k p l)

    on : k ≤ p → from_order (order_after k p) ps ≡ from_order k (p ∷ ps)
    on l = rw (le-leb k 13 (omega arith), ← jump-after k p (omega arith) h) (sym (jump-right k (drop k occurs) p ps refl l h))

-- from any order on, judging one by one is the definition
pub ordered_from : (k : ℕ) (rs : List Record) → ordered k rs ≡ from_order k (places_of rs)
ordered_from k [] = at-end k
ordered_from k (r ∷ rs) = ordered_from (order_after k (place_of r)) rs ∙ step k (place_of r) (places_of rs) (order-bound r)

pub ordered_in_order : (rs : List Record) → ordered 0 rs ≡ in_order_of rs
unfolding in_order_of
ordered_in_order rs = ordered_from 0 rs

-- Steps to the laws of the walk: what a list of pieces says of each byte, and that the pieces of a sweep
-- say of a byte which items are open behind the boundaries at or below it. That is shown by induction
-- along the merged boundaries, one piece at a time.
use Rattle.std.specs.Prelude.{ℕ, suc, ◌+◌, ◌*◌, ◌≤◌, ◌<◌, ◌≡◌, refl, Bool, true, false, cond, List, [], ◌∷◌, ◌++◌, map, ltb, length, Option, Some, None}
use Rattle.std.proofs.Common.{sym, ◌∙◌, arith, ltb-true, ltb-false, lt-ltb, le-ltb, le-leb}
use Rattle.std.proofs.Math.Bool.{and-false}
use Rattle.std.proofs.lemmas.Bool.{lt-leb}
use Rattle.memory_range.specs.declared.range.MemoryRange.{MemoryRange}
use Rattle.range_lists.specs.declared.walk.RangeWalkResult.{RangeWalkResult}
use Rattle.range_lists.specs.declared.walk.WalkPiece.{WalkPiece}
use Rattle.memory_range.specs.Range.{range, holds}
use Rattle.memory_range.specs.Bytes.{holders, Ordered, All}
use Rattle.range_lists.specs.Walk.{Boundary, left, right, open_item, held_by, piece_of, sweep}
use Rattle.memory_range.specs.Laws.Range.{held}
use Rattle.memory_range.specs.Laws.Bytes.{ordered-before, counted, holders-cons}
use Rattle.range_lists.specs.Laws.Boundaries.{address, passed, passed-at, passed-before, Merged, done, next_left_of, next_right_of, merged-none, open-past}

abbrev pub piece_ranges : List WalkPiece → List MemoryRange
piece_ranges = map (λ p. p.range)

-- what the first piece that holds the byte at a says
abbrev pub result_at : List WalkPiece → ℕ → Option RangeWalkResult
result_at [] a = None
result_at (p ∷ ps) a = cond (holds p.range a) (Some p.result) (result_at ps a)

-- pieces in order from a say nothing of a byte below a
pub result-none : (a : ℕ) (ps : List WalkPiece) (x : ℕ) → Ordered a (piece_ranges ps) → x < a → result_at ps x ≡ None
result-none a [] x o h = refl
result-none a (p ∷ ps) x o h = rw (lt-leb p.range.start x (omega arith)) (result-none p.range.end ps x o.1.1 (omega arith))

-- one of the pieces holds a byte exactly where they say something of it
pub holders-pieces : (a : ℕ) (ps : List WalkPiece) (x : ℕ) → Ordered a (piece_ranges ps) → holders (piece_ranges ps) x ≡ counted (result_at ps x)
holders-pieces a [] x o = refl
holders-pieces a (p ∷ ps) x o = holders-cons a p.range (piece_ranges ps) x p.result (result_at ps x) o (holders-pieces p.range.end ps x o.1.1)

-- each of the pieces says of its bytes what they say together
pub pieces_say : (f : ℕ → Option RangeWalkResult) (a : ℕ) (ps : List WalkPiece) → Ordered a (piece_ranges ps)
    → ((x : ℕ) → a ≤ x → result_at ps x ≡ f x) → All (λ p. (x : ℕ) → holds p.range x ≡ true → f x ≡ Some p.result) ps
pieces_say f a [] o says = tt
pieces_say f a (p ∷ ps) o says = (here, pieces_say f p.range.end ps o.1.1 later)
  where
    here : (x : ℕ) → holds p.range x ≡ true → f x ≡ Some p.result
    here x h = sym (says x (omega (arith, (held p.range x).0 h))) ∙ rw h

    later : (x : ℕ) → p.range.end ≤ x → result_at ps x ≡ f x
    later x h = rw (le-ltb x p.range.end h, and-false) at (says x (omega arith))

-- what a piece says that lies behind i boundaries of a list of n items and j of one of m
abbrev pub open_result : ℕ → ℕ → ℕ → ℕ → Option RangeWalkResult
open_result n m i j = held_by (open_item n i) (open_item m j)

open-same : (n m i j p q : ℕ) → i ≡ p → j ≡ q → open_result n m i j ≡ open_result n m p q
open-same n m i j p q ei ej = rw (ei, ej)

-- what a sweep puts in front of the pieces ps from b on: nothing where no item is open between a and b or
-- no byte lies there, and else one piece
data Next (a b : ℕ) (r : Option RangeWalkResult) (ps : List WalkPiece) : List WalkPiece → Type 0 where
  skip : (a < b → r ≡ None) → Next a b r ps ps
  yield : (h : RangeWalkResult) → r ≡ Some h → a < b → Next a b r ps (record { range = range a b; result = h } ∷ ps)

next : (a b : ℕ) (r : Option RangeWalkResult) (ps : List WalkPiece) → Next a b r ps (piece_of a b r ++ ps)
next a b None ps = skip (λ l. refl)
next a b (Some h) ps = go (ltb a b) refl
  where
    go : (t : Bool) → ltb a b ≡ t → Next a b (Some h) ps (cond t (record { range = range a b; result = h } ∷ []) [] ++ ps)
    go true p = yield h refl (ltb-true a b p)
    go false p = skip (λ l. absurd (omega (arith, ltb-false a b p)))

module _ (a b : ℕ) (r : Option RangeWalkResult) (ps : List WalkPiece) (h : a ≤ b) (o : Ordered b (piece_ranges ps)) where
  piece-ordered : {qs : List WalkPiece} → Next a b r ps qs → Ordered a (piece_ranges qs)
  piece-ordered (skip e) = ordered-before a b (piece_ranges ps) h o
  piece-ordered (yield k e l) = (omega arith, (l, o))

  piece-at : {qs : List WalkPiece} (x : ℕ) → a ≤ x → x < b → Next a b r ps qs → result_at qs x ≡ r
  piece-at x l g (skip e) = result-none b ps x o g ∙ sym (e (omega arith))
  piece-at x l g (yield k e s) = rw (le-leb a x l, lt-ltb x b g) (sym e)

  piece-past : {qs : List WalkPiece} (x : ℕ) → b ≤ x → Next a b r ps qs → result_at qs x ≡ result_at ps x
  piece-past x g (skip e) = refl
  piece-past x g (yield k e s) = rw (le-ltb x b g, and-false)

  -- so the whole says f of a byte from a on, if f is r below b and what ps say from b on
  piece_then : (f : Option RangeWalkResult) (x : ℕ) → a ≤ x → (x < b → r ≡ f) → (b ≤ x → result_at ps x ≡ f)
      → result_at (piece_of a b r ++ ps) x ≡ f
  piece_then f x l before after = go (ltb x b) refl
    where
      go : (t : Bool) → ltb x b ≡ t → result_at (piece_of a b r ++ ps) x ≡ f
      go true p = let g = ltb-true x b p in piece-at x l g (next a b r ps) ∙ before g
      go false p = let g = ltb-false x b p in piece-past x g (next a b r ps) ∙ after g

-- the sweep along boundaries that ascend from a: its pieces are in order, and they say of the byte x which
-- items are open behind the p and q boundaries at or below x
pub sweep-ordered : {a : ℕ} {bs cs : List ℕ} {ms : List Boundary} (n m i j : ℕ) → Merged a bs cs ms → Ordered a (piece_ranges (sweep n m a i j ms))
sweep-ordered n m i j done = tt
sweep-ordered n m i j (next_left_of {a} {b} {ms} l t) =
    piece-ordered a b _ _ l (sweep-ordered n m (i + 1) j t) (next a b (open_result n m i j) (sweep n m b (i + 1) j ms))
sweep-ordered n m i j (next_right_of {a} {c} {ms} l t) =
    piece-ordered a c _ _ l (sweep-ordered n m i (j + 1) t) (next a c (open_result n m i j) (sweep n m c i (j + 1) ms))

pub sweep-at : {a : ℕ} {bs cs : List ℕ} {ms : List Boundary} (n m i j p q x : ℕ) → Merged a bs cs ms → a ≤ x
    → p ≡ i + passed bs x → q ≡ j + passed cs x → 2 * n ≤ i + length bs → 2 * m ≤ j + length cs
    → result_at (sweep n m a i j ms) x ≡ open_result n m p q
sweep-at n m i j p q x done h ep eq ln lm = rw (open-past n p (omega arith), open-past m q (omega arith))
sweep-at n m i j p q x (next_left_of {a} {b} {bs} {ms} l t) h ep eq ln lm =
    piece_then a b (open_result n m i j) (sweep n m b (i + 1) j ms) l (sweep-ordered n m (i + 1) j t) _ x h
    (λ (g : x < b). let none_passed = merged-none x t g in open-same n m i j p q (omega (arith, passed-before b bs x g)) (omega arith))
    (λ (g : b ≤ x). sweep-at n m (i + 1) j p q x t g (omega (arith, passed-at b bs x g)) eq (omega arith) lm)
sweep-at n m i j p q x (next_right_of {a} {c} {cs} {ms} l t) h ep eq ln lm =
    piece_then a c (open_result n m i j) (sweep n m c i (j + 1) ms) l (sweep-ordered n m i (j + 1) t) _ x h
    (λ (g : x < c). let none_passed = merged-none x t g in open-same n m i j p q (omega arith) (omega (arith, passed-before c cs x g)))
    (λ (g : c ≤ x). sweep-at n m i (j + 1) p q x t g ep (omega (arith, passed-at c cs x g)) ln (omega arith))

-- along any boundaries: each piece names items that are open somewhere, and there are no more pieces than
-- boundaries
abbrev pub FromOpen : ℕ → ℕ → WalkPiece → Type 0
FromOpen n m p = (i : ℕ) × (j : ℕ) × (open_result n m i j ≡ Some p.result)

piece_open : (n m a b i j : ℕ) (ps : List WalkPiece) {qs : List WalkPiece} → Next a b (open_result n m i j) ps qs
    → All (FromOpen n m) ps → All (FromOpen n m) qs
piece_open n m a b i j ps (skip e) rest = rest
piece_open n m a b i j ps (yield h e l) rest = ((i, j, e), rest)

pub sweep_open : (n m a i j : ℕ) (ms : List Boundary) → All (FromOpen n m) (sweep n m a i j ms)
sweep_open n m a i j [] = tt
sweep_open n m a i j (left b ∷ ms) = piece_open n m a b i j _ (next a b _ (sweep n m b (i + 1) j ms)) (sweep_open n m b (i + 1) j ms)
sweep_open n m a i j (right b ∷ ms) = piece_open n m a b i j _ (next a b _ (sweep n m b i (j + 1) ms)) (sweep_open n m b i (j + 1) ms)

piece-count : {a b : ℕ} {r : Option RangeWalkResult} {ps qs : List WalkPiece} → Next a b r ps qs → length qs ≤ suc (length ps)
piece-count (skip e) = omega arith
piece-count (yield h e l) = omega arith

pub sweep-count : (n m a i j : ℕ) (ms : List Boundary) → length (sweep n m a i j ms) ≤ length ms
sweep-count n m a i j [] = omega arith
sweep-count n m a i j (left b ∷ ms) =
    omega (arith, piece-count (next a b (open_result n m i j) (sweep n m b (i + 1) j ms)), sweep-count n m b (i + 1) j ms)
sweep-count n m a i j (right b ∷ ms) =
    omega (arith, piece-count (next a b (open_result n m i j) (sweep n m b i (j + 1) ms)), sweep-count n m b i (j + 1) ms)

-- along any boundaries of which P holds, P holds of both ends of each piece, if it holds of the address a
-- or no item is open there
module _ (P : ℕ → Type 0) where
  abbrev pub Ends : WalkPiece → Type 0
  Ends p = P p.range.start × P p.range.end

  piece-ends : {a b : ℕ} {r : Option RangeWalkResult} {ps qs : List WalkPiece} → Next a b r ps qs
      → ((h : RangeWalkResult) → r ≡ Some h → P a) → P b → All Ends ps → All Ends qs
  piece-ends (skip e) s t rest = rest
  piece-ends (yield h e l) s t rest = ((s h e, t), rest)

  pub sweep-ends : (n m a i j : ℕ) (ms : List Boundary) → ((h : RangeWalkResult) → open_result n m i j ≡ Some h → P a)
      → All (λ b. P (address b)) ms → All Ends (sweep n m a i j ms)
  sweep-ends n m a i j [] s t = tt
  sweep-ends n m a i j (left b ∷ ms) s t =
      piece-ends (next a b (open_result n m i j) (sweep n m b (i + 1) j ms)) s t.0 (sweep-ends n m b (i + 1) j ms (λ h e. t.0) t.1)
  sweep-ends n m a i j (right b ∷ ms) s t =
      piece-ends (next a b (open_result n m i j) (sweep n m b i (j + 1) ms)) s t.0 (sweep-ends n m b i (j + 1) ms (λ h e. t.0) t.1)

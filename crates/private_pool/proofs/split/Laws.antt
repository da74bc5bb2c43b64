-- Laws for the placement of the pieces of a split: what they come to from any one of them on, and what the table and the
-- array of ranges are between two of them.
use Rattle.std.specs.Prelude.{Ok}
use Prim.Native.Nat.{ℕ, zero, suc, ◌+◌, ◌-◌, ◌*◌, ◌/◌, ◌%◌, ◌≤◌, ◌<◌}
use mathlib.Core.Bool.{Bool, true, false, cond}
use mathlib.Core.Path.{◌≡◌, refl, ap, sym, ◌∙◌}
use mathlib.Core.List.{List, [], ◌∷◌, ◌++◌}
use native.Mathlib.Nat.{suc-mul, div-add-mod}
use native.Mathlib.Decide.{dec_lt}
use native.Mathlib.Numerals.{add-one}
use native.Mathlib.Omega.{arith}
use borrow.Author.Tests.{eq-eqb, ne_eqb}
use lib.Dec.{eqb}
use lib.ListN.{length, take, drop, get_or, set, length-drop, length-set, drop_of_length-le, take-append-drop}
use lib.Seq.{length-take-le, drop-append-add, drop-drop, drop-cons, take-suc-set, drop-set-lt}
use Rattle.refusal.specs.declared.Refusal.{Refusal}
use Rattle.address_space.specs.declared.request.AllocatedRange.{AllocatedRange}
use Rattle.address_space.specs.declared.table.AddressRange.{AddressRange}
use Rattle.address_space.specs.declared.table.AddressSpaceManager.{AddressSpaceManager}
use Rattle.address_space.specs.Request as request
use Rattle.address_space.specs.Table.{entries_of, table_with}
use Rattle.private_pool.specs.declared.pool.PrivatePool.{PrivatePool}
use Rattle.private_pool.specs.Piece.{PoolPiece, piece, pieces_from, split_pieces}
use Rattle.private_pool.specs.Pool.{Placement, refused, placed, piece_on, in_front, piece_refusal, place_pieces, no_ranges, pool_as}
use Rattle.private_pool.specs.Laws.Handed.{handed_longer}
use Rattle.private_pool.proofs.nodes.Laws.{same-behind}

-- ranges in front of those that are placed after them
abbrev pub prefixed : List AllocatedRange → Placement → Placement
prefixed [] o = o
prefixed (x ∷ xs) o = in_front x (prefixed xs o)

prefixed_more : (xs : List AllocatedRange) (x : AllocatedRange) (o : Placement) → prefixed (xs ++ x ∷ []) o ≡ prefixed xs (in_front x o)
prefixed_more [] x o = refl
prefixed_more (y ∷ xs) x o = ap (in_front y) (prefixed_more xs x o)

prefixed_refused : (xs : List AllocatedRange) (n : Refusal) → prefixed xs (refused n) ≡ refused n
prefixed_refused [] n = refl
prefixed_refused (x ∷ xs) n = ap (in_front x) (prefixed_refused xs n)

prefixed-placed : (xs : List AllocatedRange) (es : List AddressRange) → prefixed xs (placed [] es) ≡ placed xs es
prefixed-placed [] es = refl
prefixed-placed (x ∷ xs) es = ap (in_front x) (prefixed-placed xs es)

-- the pieces over nodes of which each gives a share, and the last one the remainder besides
module _ (share remainder : ℕ) where
  abbrev left_for : List ℕ → ℕ
  left_for ns = length ns * share + remainder

  abbrev pub pieces_over : List ℕ → List PoolPiece
  pieces_over [] = []
  pieces_over (n ∷ ns) = pieces_from share (left_for (n ∷ ns)) n ns

  abbrev pub pages_at : ℕ → ℕ → ℕ
  pages_at at count = cond (eqb (at + 1) count) (share + remainder) share

  over_step : (n : ℕ) (ns : List ℕ) → pieces_over (n ∷ ns) ≡ piece n (pages_at 0 (length (n ∷ ns))) ∷ pieces_over ns
  over_step n [] =
      let z : left_for (n ∷ []) ≡ share + remainder = rw suc-mul (omega arith) in
      rw z
  over_step n (k ∷ ns) =
      let z : left_for (n ∷ k ∷ ns) - share ≡ left_for (k ∷ ns) = rw (suc-mul (suc (length ns)) share) (omega arith) in
      rw (z, ne_eqb (0 + 1) (length (n ∷ k ∷ ns)) (omega arith))

  -- the test for the last one, counted from the front or from here
  last_one : (at count : ℕ) → at < count → pages_at 0 (count - at) ≡ pages_at at count
  last_one at count h =
      elim (dec_lt (at + 1) count) [
        | yes l ↦ rw (ne_eqb (0 + 1) (count - at) (omega arith), ne_eqb (at + 1) count (omega arith))
        | no l ↦ rw (eq-eqb (0 + 1) (count - at) (omega arith), eq-eqb (at + 1) count (omega arith))
      ]

  -- the next piece, and those behind it
  over-at : (ns : List ℕ) (i : ℕ) → i < length ns
      → pieces_over (drop i ns) ≡ piece (get_or ns i 0) (pages_at i (length ns)) ∷ pieces_over (drop (i + 1) ns)
  over-at ns i h =
      let n : length (get_or ns i 0 ∷ drop (suc i) ns) ≡ length ns - i = ap length (sym (drop-cons ns i 0 h)) ∙ length-drop i ns in
      ap pieces_over (drop-cons ns i 0 h)
      ∙ over_step (get_or ns i 0) (drop (suc i) ns)
      ∙ rw (n, last_one i (length ns) h, ← add-one i)

-- the pieces of a split are such
split-over : (pages : ℕ) (ns : List ℕ) → split_pieces pages ns ≡ pieces_over (pages / length ns) (pages % length ns) ns
split-over pages [] = refl
split-over pages (n ∷ ns) = rw (div-add-mod pages (length (n ∷ ns)))

pub split-pieces : (pages count : ℕ) (ns : List ℕ) → length ns ≡ count → split_pieces pages ns ≡ pieces_over (pages / count) (pages % count) ns
split-pieces pages count ns e = rw (← e) (split-over pages ns)

-- no piece has more pages than the pool
pub share_within : (pages count : ℕ) → 0 < count → pages / count + pages % count ≤ pages
share_within pages zero h = absurd (omega arith)
share_within pages (suc k) h = omega (arith, div-add-mod pages (suc k), suc-mul k (pages / suc k))

pub pages_bounded : (share remainder at count : ℕ) {bound : ℕ} → share + remainder < bound → pages_at share remainder at count < bound
pages_bounded share remainder at count {bound} h = go (eqb (at + 1) count)
  where
    go : (b : Bool) → cond b (share + remainder) share < bound
    go true = h
    go false = omega arith

-- Between two pieces, with i of them placed: what all come to is what the rest come to, behind the ranges of those; the
-- array holds these in its first places, and the rest of it is as it was; behind its entries the table is as it was, and
-- from the first piece on it is that of the placement so far.
pub record Placing (m : AddressSpaceManager) (share remainder : ℕ) (ns : List ℕ) (first ranges : List AllocatedRange)
    (current : AddressSpaceManager) (i : ℕ) : Type 0 where
  pub size : length ranges ≡ length first
  pub spare : drop i ranges ≡ drop i first
  pub whole : place_pieces (pieces_over share remainder ns) (entries_of m)
      ≡ prefixed (take i ranges) (place_pieces (pieces_over share remainder (drop i ns)) (entries_of current))
  pub behind : (n : ℕ) → length (entries_of current) ≤ n → drop n current.address_space ≡ drop n m.address_space
  pub table : 0 < i → current ≡ table_with m (entries_of current) true

pub placing-none : (m : AddressSpaceManager) (share remainder : ℕ) (ns : List ℕ) (first : List AllocatedRange)
    → Placing m share remainder ns first first m 0
placing-none m share remainder ns first =
    record { size = refl; spare = refl; whole = refl; behind = λ n h. refl; table = λ h. absurd (omega arith) }

module _ {m : AddressSpaceManager} {share remainder : ℕ} {ns : List ℕ} {first ranges : List AllocatedRange} {current : AddressSpaceManager}
    {i : ℕ} (c : Placing m share remainder ns first ranges current i) where
  module _ (count : ℕ) (counted : length ns ≡ count) (below : i < count) where
    -- the piece that is next, and what it comes to with those behind it
    abbrev next : PoolPiece
    next = piece (get_or ns i 0) (pages_at share remainder i count)

    at_next : place_pieces (pieces_over share remainder ns) (entries_of m)
        ≡ prefixed (take i ranges) (place_pieces (next ∷ pieces_over share remainder (drop (i + 1) ns)) (entries_of current))
    at_next = c.whole ∙ rw (← counted, over-at share remainder ns i (omega arith))

    pub placing_refused : {n : Refusal} → piece_on next (entries_of current) ≡ request.refused n
        → place_pieces (pieces_over share remainder ns) (entries_of m) ≡ refused (piece_refusal n)
    placing_refused {n} e = at_next ∙ rw e (prefixed_refused (take i ranges) (piece_refusal n))

    pub placing_more : {x : AllocatedRange} {after : AddressSpaceManager} → i < length first
        → piece_on next (entries_of current) ≡ request.handed x (entries_of after)
        → after ≡ table_with current (entries_of after) true
        → Placing m share remainder ns first (set ranges i x) after (i + 1)
    placing_more {x} {after} h e t =
        let es = entries_of after in
        let longer : length (entries_of current) ≤ length es = handed_longer _ _ _ _ _ (entries_of current) x es e in
        let room : i < length ranges = omega (arith, c.size) in
        let low : i < i + 1 = omega arith in
        let kept : (n : ℕ) → length es ≤ n → drop n after.address_space ≡ drop n m.address_space =
        λ n k.
        let s : length es + (n - length es) ≡ n = omega arith in
        let l = current.address_space in
        let seam : drop n (es ++ drop (length es) l) ≡ drop n l =
        rw (← s) (drop-append-add es (drop (length es) l) (n - length es) ∙ drop-drop (n - length es) (length es) l)
        in
        ap (λ (w : AddressSpaceManager). drop n w.address_space) t ∙ seam ∙ c.behind n (omega arith)
        in
        record {
          size = length-set ranges i x ∙ c.size;
          spare = drop-set-lt (i + 1) ranges i x low ∙ same-behind i (i + 1) ranges first c.spare (omega arith);
          whole = at_next ∙ rw (e, add-one, take-suc-set ranges i x room) (sym (prefixed_more (take i ranges) x _));
          behind = kept;
          table = λ g. t ∙ rw (c.behind (length es) longer);
        }

  -- after the last one
  pub placing-all : (count : ℕ) → length ns ≡ count → i ≡ count → 0 < count → count ≤ length first → first ≡ no_ranges
      → ◌≡◌ {A = PrivatePool} (record { answer = Ok count; ranges = ranges; manager = current })
      (pool_as m (place_pieces (pieces_over share remainder ns) (entries_of m)))
  placing-all count e at h w none =
      let n : length (take i ranges) ≡ count = length-take-le i ranges (omega (arith, c.size)) ∙ at in
      let all : ranges ≡ take i ranges ++ drop count no_ranges = rw (← none, ← at, ← c.spare) (sym (take-append-drop i ranges)) in
      let o : place_pieces (pieces_over share remainder ns) (entries_of m) ≡ placed (take i ranges) (entries_of current) =
      c.whole ∙ rw (drop_of_length-le ns {i = i} (omega arith)) (prefixed-placed (take i ranges) (entries_of current))
      in
      rw (o, n, ← all, ← c.table (omega arith))

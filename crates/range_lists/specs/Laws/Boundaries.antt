-- Steps to the laws of the walk: boundaries counted. Item i of a list in order holds a byte exactly where
-- 2i + 1 of the list's boundaries are at or below the byte; and merging two ascending lists of boundaries
-- gives one that ascends and has the same boundaries.
use Rattle.std.specs.Prelude.{ℕ, suc, ◌+◌, ◌*◌, ◌/◌, ◌%◌, ◌≤◌, ◌<◌, ◌≡◌, refl, Bool, true, false, cond, List, [], ◌∷◌, leb, length, Some, None}
use Rattle.std.proofs.Common.{ap, sym, ◌∙◌, arith, leb-true, leb-false, lt-ltb, le-ltb, le-leb, eq-eqb, ne_eqb}
use Rattle.std.proofs.Math.Bool.{and-false}
use Rattle.std.proofs.lemmas.Bool.{lt-leb}
use Rattle.memory_range.specs.declared.range.MemoryRange.{MemoryRange}
use Rattle.memory_range.specs.Bytes.{item_found_from, Ordered, All}
use Rattle.range_lists.specs.Walk.{boundaries, Boundary, left, right, merge_head, all_right_of, merge_boundaries, open_item}
use Rattle.memory_range.specs.Laws.Bytes.{Place, below, inside, above, place}

-- how many of the boundaries are at or below the address a
abbrev pub passed : List ℕ → ℕ → ℕ
passed [] a = 0
passed (b ∷ bs) a = cond (leb b a) 1 0 + passed bs a

-- each boundary is at or above the one before it, the first at or above a
abbrev pub Ascending : ℕ → List ℕ → Type 0
Ascending a [] = Unit {0}
Ascending a (b ∷ bs) = (a ≤ b) × Ascending b bs

pub passed-before : (b : ℕ) (bs : List ℕ) (x : ℕ) → x < b → passed (b ∷ bs) x ≡ passed bs x
passed-before b bs x h = rw (lt-leb b x h) (omega arith)

pub passed-at : (b : ℕ) (bs : List ℕ) (x : ℕ) → b ≤ x → passed (b ∷ bs) x ≡ suc (passed bs x)
passed-at b bs x h = rw (le-leb b x h) (omega arith)

-- bs are the left boundaries of ms and cs its right ones, and ms ascends from a
pub data Merged : ℕ → List ℕ → List ℕ → List Boundary → Type 0 where
  done : {a : ℕ} → Merged a [] [] []
  next_left_of : {a b : ℕ} {bs cs : List ℕ} {ms : List Boundary} → a ≤ b → Merged b bs cs ms → Merged a (b ∷ bs) cs (left b ∷ ms)
  next_right_of : {a c : ℕ} {bs cs : List ℕ} {ms : List Boundary} → a ≤ c → Merged c bs cs ms → Merged a bs (c ∷ cs) (right c ∷ ms)

all_right : (a : ℕ) (cs : List ℕ) → Ascending a cs → Merged a [] cs (all_right_of cs)
all_right a [] o = done
all_right a (c ∷ cs) o = next_right_of o.0 (all_right c cs o.1)

merge-head : (a b : ℕ) (bs cs : List ℕ) → a ≤ b → Ascending a cs
    → ((ds : List ℕ) → Ascending b ds → Merged b bs ds (merge_boundaries bs ds))
    → Merged a (b ∷ bs) cs (merge_head b (merge_boundaries bs) cs)
merge-head a b bs [] h o rest = next_left_of h (rest [] tt)
merge-head a b bs (c ∷ cs) h o rest = go (leb b c) refl (λ (p : c ≤ b). merge-head c b bs cs p o.1 rest)
  where
    go : (t : Bool) → leb b c ≡ t → (c ≤ b → Merged c (b ∷ bs) cs (merge_head b (merge_boundaries bs) cs))
        → Merged a (b ∷ bs) (c ∷ cs) (cond t (left b ∷ merge_boundaries bs (c ∷ cs)) (right c ∷ merge_head b (merge_boundaries bs) cs))
    go true p later = next_left_of h (rest (c ∷ cs) (leb-true _ _ p, o.1))
    go false p later = next_right_of o.0 (later (omega (arith, leb-false b c p)))

merged : (a : ℕ) (bs cs : List ℕ) → Ascending a bs → Ascending a cs → Merged a bs cs (merge_boundaries bs cs)
merged a [] cs o q = all_right a cs q
merged a (b ∷ bs) cs o q = merge-head a b bs cs o.0 q (λ ds. merged b bs ds o.1)

-- no boundary is passed before the first
pub merged-none : {a : ℕ} {bs cs : List ℕ} {ms : List Boundary} (x : ℕ) → Merged a bs cs ms → x < a → (passed bs x ≡ 0) × (passed cs x ≡ 0)
merged-none x done h = (refl, refl)
merged-none x (next_left_of {b} {bs} l m) h = omega (arith, merged-none x m (omega arith), passed-before b bs x (omega arith))
merged-none x (next_right_of {c} {cs} l m) h = omega (arith, merged-none x m (omega arith), passed-before c cs x (omega arith))

passed_none : (a : ℕ) (bs : List ℕ) (x : ℕ) → Ascending a bs → x < a → passed bs x ≡ 0
passed_none a bs x o h = (merged-none x (merged a bs [] o tt) h).0

-- the merged list has the boundaries of both, and no more
right-count : (cs : List ℕ) → length (all_right_of cs) ≡ length cs
right-count [] = refl
right-count (c ∷ cs) = ap suc (right-count cs)

head-count : (b : ℕ) (bs cs : List ℕ) → ((ds : List ℕ) → length (merge_boundaries bs ds) ≡ length bs + length ds)
    → length (merge_head b (merge_boundaries bs) cs) ≡ suc (length bs + length cs)
head-count b bs [] rest = ap suc (rest [])
head-count b bs (c ∷ cs) rest = go (leb b c) (head-count b bs cs rest)
  where
    go : (t : Bool) → length (merge_head b (merge_boundaries bs) cs) ≡ suc (length bs + length cs)
        → length (cond t (left b ∷ merge_boundaries bs (c ∷ cs)) (right c ∷ merge_head b (merge_boundaries bs) cs)) ≡ suc (length bs + length (c ∷ cs))
    go true e = ap suc (rest (c ∷ cs))
    go false e = omega arith

pub merge-count : (bs cs : List ℕ) → length (merge_boundaries bs cs) ≡ length bs + length cs
merge-count [] cs = omega (arith, right-count cs)
merge-count (b ∷ bs) cs = omega (arith, head-count b bs cs (merge-count bs))

abbrev pub address : Boundary → ℕ
address (left b) = b
address (right c) = c

-- what holds of the boundaries of both holds of the merged list's, in whatever order they are
module _ (P : ℕ → Type 0) where
  right-all : (cs : List ℕ) → All P cs → All (λ m. P (address m)) (all_right_of cs)
  right-all [] h = tt
  right-all (c ∷ cs) h = (h.0, right-all cs h.1)

  head-all : (b : ℕ) (bs cs : List ℕ) → P b → All P cs → ((ds : List ℕ) → All P ds → All (λ m. P (address m)) (merge_boundaries bs ds))
      → All (λ m. P (address m)) (merge_head b (merge_boundaries bs) cs)
  head-all b bs [] p h rest = (p, rest [] tt)
  head-all b bs (c ∷ cs) p h rest = go (leb b c) (head-all b bs cs p h.1 rest)
    where
      go : (t : Bool) → All (λ m. P (address m)) (merge_head b (merge_boundaries bs) cs)
          → All (λ m. P (address m)) (cond t (left b ∷ merge_boundaries bs (c ∷ cs)) (right c ∷ merge_head b (merge_boundaries bs) cs))
      go true later = (p, rest (c ∷ cs) h)
      go false later = (h.0, later)

  pub merge-all : (bs cs : List ℕ) → All P bs → All P cs → All (λ m. P (address m)) (merge_boundaries bs cs)
  merge-all [] cs h k = right-all cs k
  merge-all (b ∷ bs) cs h k = head-all b bs cs h.0 k (λ ds. merge-all bs ds h.1)

-- the boundaries of a list: two for each item, ascending if the list is in order
pub boundaries-length : (l : List MemoryRange) → length (boundaries l) ≡ 2 * length l
boundaries-length [] = refl
boundaries-length (r ∷ rs) = omega (arith, boundaries-length rs)

boundaries-ascend : (a : ℕ) (l : List MemoryRange) → Ordered a l → Ascending a (boundaries l)
boundaries-ascend a [] o = tt
boundaries-ascend a (r ∷ rs) o = (o.0, (omega arith, boundaries-ascend r.end rs o.1.1))

pub merged_lists : (ls rs : List MemoryRange) → Ordered 0 ls → Ordered 0 rs
    → Merged 0 (boundaries ls) (boundaries rs) (merge_boundaries (boundaries ls) (boundaries rs))
merged_lists ls rs ol or = merged 0 (boundaries ls) (boundaries rs) (boundaries-ascend 0 ls ol) (boundaries-ascend 0 rs or)

-- which item is open: none after an even number of boundaries or after all, item i after 2i + 1
open_even : (n k : ℕ) → k % 2 ≡ 0 → open_item n k ≡ None
open_even n k h = rw (ne_eqb (k % 2) 1 (omega arith))

open_odd : (n i k : ℕ) → i < n → k ≡ 2 * i + 1 → open_item n k ≡ Some i
open_odd n i k h e = rw (eq-eqb (k % 2) 1 (omega arith), lt-ltb (k / 2) n (omega arith)) (ap Some (omega arith))

pub open-past : (n k : ℕ) → 2 * n ≤ k → open_item n k ≡ None
open-past n k h = rw (le-ltb (k / 2) n (omega arith), and-false)

-- the item that holds a byte is the one open behind the boundaries at or below the byte
pub item_open : (k n p a : ℕ) (l : List MemoryRange) (x : ℕ) → Ordered a l → n ≡ k + length l → p ≡ 2 * k + passed (boundaries l) x
    → item_found_from k l x ≡ open_item n p
item_open k n p a [] x o e q = sym (open-past n p (omega arith))
item_open k n p a (r ∷ rs) x o e q = go (place r x) (λ (p : ℕ). item_open (k + 1) n p r.end rs x o.1.1 (omega arith))
  where
    rest : List ℕ
    rest = boundaries rs

    none_passed : x < r.end → passed rest x ≡ 0
    none_passed = passed_none r.end rest x (boundaries-ascend r.end rs o.1.1)

    go : Place r x → ((p : ℕ) → p ≡ 2 * (k + 1) + passed rest x → item_found_from (k + 1) rs x ≡ open_item n p)
        → item_found_from k (r ∷ rs) x ≡ open_item n p
    go (below h f) later =
        let none_before : p ≡ 2 * k = omega (arith, passed-before r.start (r.end ∷ rest) x h, passed-before r.end rest x (omega arith), none_passed (omega arith)) in
        rw f (later (p + 2) (omega (arith, none_passed (omega arith))) ∙ open_even n (p + 2) (omega arith) ∙ sym (open_even n p (omega arith)))
    go (inside l h f) later =
        rw f (sym (open_odd n k p (omega arith) (omega (arith, passed-at r.start (r.end ∷ rest) x l, passed-before r.end rest x h, none_passed h))))
    go (above h f) later = rw f (later p (omega (arith, passed-at r.start (r.end ∷ rest) x (omega arith), passed-at r.end rest x h)))

-- Valid ranges that ascend are in order: each has a byte, and no byte lies in two of them. A list that
-- does not ascend has two neighbours out of order.
use Rattle.std.specs.Prelude.{ℕ, suc, ◌%◌, ◌<◌, ◌≡◌, refl, Bool, true, false, ◌&&◌, List, [], ◌∷◌, leb, ltb, eqb, length, get_or}
use Rattle.std.proofs.Common.{true≢false, arith, ltb-true, lt-ltb, leb-true, leb-false, le-leb, eqb-true, eq-eqb}
use Rattle.std.proofs.Math.Bool.{and-eq-true_iff}
use Rattle.memory_range.specs.declared.range.MemoryRange.{MemoryRange}
use Rattle.memory_range.specs.Range.{range}
use Rattle.memory_range.specs.Bytes.{Ordered}
use Rattle.memory_range.specs.Valid.{page_size, valid_range, all_valid_of, ascend_from, ascend}

-- a valid range has a byte, and starts and ends at a page; and such a range is valid
pub valid-parts : (r : MemoryRange) → valid_range r ≡ true → (r.start < r.end) × (r.start % page_size ≡ 0) × (r.end % page_size ≡ 0)
valid-parts r v =
    let w = (and-eq-true_iff (ltb r.start r.end) (eqb (r.start % page_size) 0 && eqb (r.end % page_size) 0)).0 v in
    let x = (and-eq-true_iff (eqb (r.start % page_size) 0) (eqb (r.end % page_size) 0)).0 w.1 in
    (ltb-true _ _ w.0, eqb-true _ _ x.0, eqb-true _ _ x.1)

pub valid-range : (r : MemoryRange) → r.start < r.end → r.start % page_size ≡ 0 → r.end % page_size ≡ 0 → valid_range r ≡ true
valid-range r l p q = rw (lt-ltb r.start r.end l, eq-eqb (r.start % page_size) 0 p, eq-eqb (r.end % page_size) 0 q)

pub valid-ordered : (a : ℕ) (rs : List MemoryRange) → all_valid_of rs ≡ true → ascend_from a rs ≡ true → Ordered a rs
valid-ordered a [] v o = tt
valid-ordered a (r ∷ rs) v o =
    let v' = (and-eq-true_iff (valid_range r) (all_valid_of rs)).0 v in
    let o' = (and-eq-true_iff (leb a r.start) (ascend_from r.end rs)).0 o in
    (leb-true _ _ o'.0, (ltb-true _ _ ((and-eq-true_iff _ _).0 v'.0).0, valid-ordered r.end rs v'.1 o'.1))

pub ordered-ascend : (a : ℕ) (rs : List MemoryRange) → Ordered a rs → ascend_from a rs ≡ true
ordered-ascend a [] o = refl
ordered-ascend a (r ∷ rs) o = rw (le-leb a r.start o.0) (ordered-ascend r.end rs o.1.1)

-- some range starts below the end of the one before it
abbrev pub Descends : List MemoryRange → Type 0
Descends rs = (k : ℕ) × (suc k < length rs) × ((get_or rs (suc k) (range 0 0)).start < (get_or rs k (range 0 0)).end)

descends-behind : (r : MemoryRange) (rs : List MemoryRange) → ascend_from r.end rs ≡ false → Descends (r ∷ rs)
descends-behind r [] h = absurd (true≢false h)
descends-behind r (s ∷ rs) h = go (leb r.end s.start) refl (descends-behind s rs)
  where
    go : (t : Bool) → leb r.end s.start ≡ t → (ascend_from s.end rs ≡ false → Descends (s ∷ rs))
        → Descends (r ∷ s ∷ rs)
    go true e i = let d = i (rw e at h) in (suc d.0, omega arith, d.2)
    go false e i = (0, omega arith, leb-false _ _ e)

pub not-ascend : (rs : List MemoryRange) → ascend rs ≡ false → Descends rs
not-ascend [] h = absurd (true≢false h)
not-ascend (r ∷ rs) h = descends-behind r rs (rw (le-leb 0 r.start (omega arith)) at h)

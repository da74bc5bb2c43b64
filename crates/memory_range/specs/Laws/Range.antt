-- Laws of one range and of two: what containing, overlapping and splitting mean for each byte.
use Rattle.std.specs.Prelude.{ℕ, ◌+◌, ◌-◌, ◌≤◌, ◌<◌, min, max, ◌≡◌, ◌↔◌, ◌⊎◌, true, cond, leb, ltb}
use Rattle.std.proofs.Common.{inl, inr, ⊎_elim, arith, zero-add, ltb-true, leb-true, lt-ltb, le-ltb, le-leb}
use Rattle.std.proofs.Math.Bool.{and-eq-true_iff, or-true}
use Rattle.std.proofs.Math.Decide.{dec_le}
use Rattle.std.proofs.lemmas.Bool.{lt-leb}
use Rattle.memory_range.specs.declared.range.MemoryRange.{MemoryRange}
use Rattle.memory_range.specs.Range.{range, length_of, holds, contains_range, overlap_ranges, split_range_at}

-- a byte of a range, by the two orders
pub held : (r : MemoryRange) (a : ℕ) → (holds r a ≡ true) ↔ ((r.start ≤ a) × (a < r.end))
held r a = (
  λ h. let t = (and-eq-true_iff (leb r.start a) (ltb a r.end)).0 h in (leb-true _ _ t.0, ltb-true _ _ t.1),
  λ h. rw (le-leb r.start a h.0, lt-ltb a r.end h.1),
)

-- containing, by the orders of the ends: both ways
pub contains-none : (r s : MemoryRange) → s.end ≤ s.start → contains_range r s ≡ true
unfolding contains_range
contains-none r s h = rw (le-leb s.end s.start h)

pub contains-between : (r s : MemoryRange) → r.start ≤ s.start → s.end ≤ r.end → contains_range r s ≡ true
unfolding contains_range
contains-between r s h k = rw (le-leb r.start s.start h, le-leb s.end r.end k, or-true)

pub contained : (r s : MemoryRange) → contains_range r s ≡ true
    → (s.end ≤ s.start) ⊎ ((s.start < s.end) × (r.start ≤ s.start) × (s.end ≤ r.end))
unfolding contains_range
contained r s h = go (dec_le s.end s.start)
  where
    go : Dec (s.end ≤ s.start) → (s.end ≤ s.start) ⊎ ((s.start < s.end) × (r.start ≤ s.start) × (s.end ≤ r.end))
    go (yes e) = inl e
    go (no n) =
        let l : s.start < s.end = omega arith in
        let t = (and-eq-true_iff (leb r.start s.start) (leb s.end r.end)).0 (rw (lt-leb s.end s.start l) at h) in
        inr (l, leb-true _ _ t.0, leb-true _ _ t.1)

-- r contains s exactly where every byte of s is a byte of r
pub contains_bytes : (r s : MemoryRange) → (contains_range r s ≡ true) ↔ ((a : ℕ) → holds s a ≡ true → holds r a ≡ true)
contains_bytes r s = (there, back (dec_le s.end s.start))
  where
    there : contains_range r s ≡ true → (a : ℕ) → holds s a ≡ true → holds r a ≡ true
    there h a p = let q = (held s a).0 p in (held r a).1 (⊎_elim (λ w. omega arith) (λ w. omega arith) (contained r s h))

    back : Dec (s.end ≤ s.start) → ((a : ℕ) → holds s a ≡ true → holds r a ≡ true) → contains_range r s ≡ true
    back (yes e) f = contains-none r s e
    back (no n) f =
        let low = (held r s.start).0 (f s.start ((held s s.start).1 (omega arith))) in
        let high = (held r (s.end - 1)).0 (f (s.end - 1) ((held s (s.end - 1)).1 (omega arith))) in
        contains-between r s low.0 (omega arith)

-- two ranges overlap exactly where some byte lies in both
pub overlap_byte : (r s : MemoryRange) → (overlap_ranges r s ≡ true) ↔ ((a : ℕ) × (holds r a ≡ true) × (holds s a ≡ true))
unfolding overlap_ranges
overlap_byte r s =
    let a = max r.start s.start in
    let e = min r.end s.end in (
      λ h. let l : a < e = ltb-true a e h in (a, (held r a).1 (omega arith), (held s a).1 (omega arith)),
      λ t. let p = (held r t.0).0 t.1 in let q = (held s t.0).0 t.2 in lt-ltb a e (omega arith),
    )

-- a range is cut at m, within it or at its start: the parts hold a byte as often as the whole
pub cut-once : (s m e a : ℕ) → s ≤ m → m ≤ max s e
    → cond (holds (range s m) a) 1 0 + cond (holds (range m e) a) 1 0 ≡ cond (holds (range s e) a) 1 0
cut-once s m e a p q = go (dec_le m a) (dec_le s a)
  where
    go : Dec (m ≤ a) → Dec (s ≤ a) → cond (holds (range s m) a) 1 0 + cond (holds (range m e) a) 1 0 ≡ cond (holds (range s e) a) 1 0
    go (yes h) d = rw (le-leb s a (omega arith), le-ltb a m h, le-leb m a h, zero-add)
    go (no h) (yes k) = rw (le-leb s a k, lt-ltb a m (omega arith), lt-leb m a (omega arith), lt-ltb a e (omega arith))
    go (no h) (no k) = rw (lt-leb s a (omega arith), lt-leb m a (omega arith))

-- each byte of a range that is split lies in exactly one part, and no other byte in any
pub split-once : (r : MemoryRange) (n a : ℕ)
    → cond (holds (split_range_at r n).left a) 1 0 + cond (holds (split_range_at r n).right a) 1 0 ≡ cond (holds r a) 1 0
split-once r n a =
    let m = (split_range_at r n).right.start in
    cut-once r.start m r.end a (omega arith) (omega arith)

pub split-left-length : (r : MemoryRange) (n : ℕ) → length_of (split_range_at r n).left ≡ min n (length_of r)
split-left-length r n = omega arith

pub split_lengths : (r : MemoryRange) (n : ℕ) → length_of (split_range_at r n).left + length_of (split_range_at r n).right ≡ length_of r
split_lengths r n = omega arith

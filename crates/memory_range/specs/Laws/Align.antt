-- Laws of the aligned part of a range, for every multiple, 0 among them: it lies inside the range, its
-- ends are multiples, and it contains each other such range.
use Rattle.std.specs.Prelude.{ℕ, suc, zero, ◌≤◌, ◌<◌, ◌≡◌, true}
use Rattle.std.proofs.Common.{sym, ⊎_elim, arith, zero-mul, lt-ltb, le-ltb}
use Rattle.std.proofs.Math.Decide.{dec_lt}
use Rattle.memory_range.specs.declared.range.MemoryRange.{MemoryRange}
use Rattle.memory_range.specs.Range.{range, contains_range}
use Rattle.memory_range.specs.Round.{round_down, round_up}
use Rattle.memory_range.specs.Align.{aligned_part}
use Rattle.memory_range.specs.Laws.Range.{contained, contains-none, contains-between}
use Rattle.memory_range.specs.Laws.Round.{Multiple, multiple-zero, up_multiple, up_above, up_least, down_multiple, down-zero, down_below, down-largest}

-- the aligned part, by the order of the rounded ends
module _ (m : ℕ) (r : MemoryRange) where
  pub aligned-some : round_up m r.start < round_down m r.end → aligned_part m r ≡ range (round_up m r.start) (round_down m r.end)
  unfolding aligned_part
  aligned-some h = rw (lt-ltb _ _ h)

  pub aligned-none : round_down m r.end ≤ round_up m r.start → aligned_part m r ≡ range 0 0
  unfolding aligned_part
  aligned-none h = rw (le-ltb _ _ h)

  either : (P : MemoryRange → Type 0) → (round_up m r.start < round_down m r.end → P (range (round_up m r.start) (round_down m r.end)))
      → P (range 0 0) → P (aligned_part m r)
  either P some none = go (dec_lt (round_up m r.start) (round_down m r.end))
    where
      go : Dec (round_up m r.start < round_down m r.end) → P (aligned_part m r)
      go (yes h) = rw (aligned-some h) (some h)
      go (no h) = rw (aligned-none (omega arith)) none

-- the multiple is not 0 where the rounded ends leave room
not-zero : (m s e : ℕ) → round_up m s < round_down m e → 0 < m
not-zero zero s e h = absurd (omega (arith, down-zero e))
not-zero (suc m) s e h = omega arith

pub aligned_inside : (m : ℕ) (r : MemoryRange) → contains_range r (aligned_part m r) ≡ true
aligned_inside m r =
    either m r (λ (x : MemoryRange). contains_range r x ≡ true)
    (λ h. let pos = not-zero m r.start r.end h in contains-between r _ (up_above m r.start pos) (down_below m r.end pos))
    (contains-none r (range 0 0) (omega arith))

pub aligned-ends : (m : ℕ) (r : MemoryRange) → Multiple m (aligned_part m r).start × Multiple m (aligned_part m r).end
aligned-ends m r =
    let none : Multiple m 0 = (0, sym (zero-mul m)) in
    either m r (λ (x : MemoryRange). Multiple m x.start × Multiple m x.end)
    (λ h. (up_multiple m r.start, down_multiple m r.end))
    (none, none)

-- a range with a byte has ends that differ, so the multiple is not 0 and the rounded ends leave room
pub aligned-largest : (m : ℕ) (r s : MemoryRange) → Multiple m s.start → Multiple m s.end → contains_range r s ≡ true
    → contains_range (aligned_part m r) s ≡ true
aligned-largest zero r s p q h = contains-none (aligned_part zero r) s (omega (arith, multiple-zero s.end q))
aligned-largest (suc m) r s p q h =
    ⊎_elim (λ n. contains-none (aligned_part (suc m) r) s n)
    (λ b.
    let low = up_least (suc m) r.start (omega arith) s.start p b.1 in
    let high = down-largest (suc m) r.end (omega arith) s.end q b.2 in
    rw (aligned-some (suc m) r (omega arith)) (contains-between _ s low high))
    (contained r s h)

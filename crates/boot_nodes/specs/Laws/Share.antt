-- Laws of a node's share: 64 bits hold it exactly where it is at most 2^64 - 4096, for any count, 0 among
-- them. For the last multiple of 32,768 below 2^64 is 2^64 - 32,768.
use Rattle.std.specs.Prelude.{ℕ, ◌-◌, ◌/◌, ◌^◌, ◌≤◌, ◌<◌, ◌≡◌, refl, true, false, ltb, Some, None}
use Rattle.std.proofs.Math.Decide.{dec_lt}
use Rattle.std.proofs.Common.{arith, lt-ltb, le-ltb}
use Rattle.memory_range.specs.Laws.Round.{Multiple, up_multiple, up_above, multiple_le, rounded_to, rounded-over}
use Rattle.boot_nodes.specs.Share.{share_step, share_of, share_per_node}

below : Multiple share_step (2 ^ 64 - share_step)
below = (2 ^ 49 - 1, refl)

module _ (size n : ℕ) where
  -- the answer, by whether the share is below 2^64
  share_to : share_of size n < 2 ^ 64 → share_per_node size n ≡ Some (share_of size n)
  share_to h = rounded_to share_step (size / n) (up_above share_step (size / n) (omega arith)) h

  share-over : 2 ^ 64 ≤ share_of size n → share_per_node size n ≡ None
  share-over h = rounded-over share_step (size / n) h

  -- an answer is the share, and is at most 2^64 - 4096; without one, the share is above that
  pub share_within : {s : ℕ} → share_per_node size n ≡ Some s
      → (s ≡ share_of size n) × (s ≤ 2 ^ 64 - 4096) × (ltb (2 ^ 64 - 4096) (share_of size n) ≡ false)
  share_within {s} e = go (dec_lt (share_of size n) (2 ^ 64))
    where
      go : Dec (share_of size n < 2 ^ 64) → (s ≡ share_of size n) × (s ≤ 2 ^ 64 - 4096) × (ltb (2 ^ 64 - 4096) (share_of size n) ≡ false)
      go (yes h) =
          let same : s ≡ share_of size n = cc (share_to h) in
          let low = multiple_le share_step (share_of size n) (2 ^ 64 - share_step) (up_multiple share_step (size / n)) below (omega arith) in
          (same, omega arith, le-ltb (2 ^ 64 - 4096) (share_of size n) (omega arith))
      go (no h) = let z : ◌≡◌ {A = ℕ} 0 1 = cc (share-over (omega arith)) in absurd (omega arith)

  pub share-beyond : share_per_node size n ≡ None → ltb (2 ^ 64 - 4096) (share_of size n) ≡ true
  share-beyond e = go (dec_lt (share_of size n) (2 ^ 64))
    where
      go : Dec (share_of size n < 2 ^ 64) → ltb (2 ^ 64 - 4096) (share_of size n) ≡ true
      go (yes h) = let z : ◌≡◌ {A = ℕ} 0 1 = cc (share_to h) in absurd (omega arith)
      go (no h) = lt-ltb (2 ^ 64 - 4096) (share_of size n) (omega arith)

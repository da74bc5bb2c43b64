-- Lengths counted byte by byte: the bytes of a list are the sum, over the addresses, of how many of its
-- items hold each. So lists that hold each byte equally often have as many bytes.
use Rattle.std.specs.Prelude.{ℕ, suc, zero, ◌+◌, ◌-◌, ◌≤◌, min, max, ◌≡◌, refl, cond, List, [], ◌∷◌}
use Rattle.std.proofs.Common.{arith}
use Rattle.memory_range.specs.declared.range.MemoryRange.{MemoryRange}
use Rattle.memory_range.specs.Range.{holds}
use Rattle.memory_range.specs.Bytes.{holders, byte_count, All}
use Rattle.memory_range.specs.Laws.Bytes.{Place, below, inside, above, place}

-- the sum of f over the addresses below n
abbrev pub tally : (ℕ → ℕ) → ℕ → ℕ
tally f zero = 0
tally f (suc n) = f n + tally f n

pub tally_add : (f g : ℕ → ℕ) (n : ℕ) → tally (λ a. f a + g a) n ≡ tally f n + tally g n
tally_add f g zero = refl
tally_add f g (suc n) = omega (arith, tally_add f g n)

pub tally-at_most : (f g : ℕ → ℕ) → ((a : ℕ) → f a ≤ g a) → (n : ℕ) → tally f n ≤ tally g n
tally-at_most f g h zero = omega arith
tally-at_most f g h (suc n) = omega (arith, h n, tally-at_most f g h n)

tally-range : (r : MemoryRange) (n : ℕ) → tally (λ a. cond (holds r a) 1 0) n ≡ min n r.end - r.start
tally-range r zero = omega arith
tally-range r (suc n) = go (place r n) (tally-range r n)
  where
    go : Place r n → tally (λ a. cond (holds r a) 1 0) n ≡ min n r.end - r.start
        → tally (λ a. cond (holds r a) 1 0) (suc n) ≡ min (suc n) r.end - r.start
    go (below h f) e = rw f (omega arith)
    go (inside l h f) e = rw f (omega arith)
    go (above h f) e = rw f (omega arith)

pub bytes-tally : (n : ℕ) (ls : List MemoryRange) → All (λ r. r.end ≤ n) ls → byte_count ls ≡ tally (λ a. holders ls a) n
bytes-tally n [] h = none n
  where
    none : (n : ℕ) → 0 ≡ tally (λ a. 0) n
    none zero = refl
    none (suc n) = omega (arith, none n)
bytes-tally n (r ∷ rs) h =
    omega (arith, bytes-tally n rs h.1, tally-range r n, tally_add (λ a. cond (holds r a) 1 0) (λ a. holders rs a) n)

-- the highest end
abbrev top_of : List MemoryRange → ℕ
top_of [] = 0
top_of (r ∷ rs) = max r.end (top_of rs)

below_top : (n : ℕ) (ls : List MemoryRange) → top_of ls ≤ n → All (λ r. r.end ≤ n) ls
below_top n [] h = tt
below_top n (r ∷ rs) h = (omega arith, below_top n rs (omega arith))

-- a list that holds no byte more often than another has no more bytes
pub bytes-at_most : (ls ks : List MemoryRange) → ((a : ℕ) → holders ls a ≤ holders ks a) → byte_count ls ≤ byte_count ks
bytes-at_most ls ks h =
    let n = max (top_of ls) (top_of ks) in
    omega (
      arith,
      bytes-tally n ls (below_top n ls (omega arith)),
      bytes-tally n ks (below_top n ks (omega arith)),
      tally-at_most (λ a. holders ls a) (λ a. holders ks a) h n,
    )

pub bytes_same : (ls ks : List MemoryRange) → ((a : ℕ) → holders ls a ≡ holders ks a) → byte_count ls ≡ byte_count ks
bytes_same ls ks h =
    omega (arith, bytes-at_most ls ks (λ a. omega (arith, h a)), bytes-at_most ks ls (λ a. omega (arith, h a)))

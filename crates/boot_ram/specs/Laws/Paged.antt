-- Entries that start and end at pages are those that row 4 lets through.
use Rattle.std.specs.Prelude.{◌≡◌, refl, true, List, [], ◌∷◌}
use Rattle.std.proofs.Math.Bool.{and-eq-true_iff}
use Rattle.memory_range.specs.declared.range.MemoryRange.{MemoryRange}
use Rattle.memory_range.specs.declared.range.TaggedRange.{TaggedRange}
use Rattle.memory_range.specs.Bytes.{All}
use Rattle.memory_range.specs.List.{ranges_in}
use Rattle.memory_range.specs.Valid.{valid_range, all_valid_of}
use Rattle.memory_range.specs.Laws.Valid.{valid-parts, valid-range}
use Rattle.boot_ram.specs.Held.{PagedRange, Paged}

pub all_paged : (rs : List MemoryRange) → all_valid_of rs ≡ true → All PagedRange rs
all_paged [] v = tt
all_paged (r ∷ rs) v = let both = (and-eq-true_iff (valid_range r) (all_valid_of rs)).0 v in (valid-parts r both.0, all_paged rs both.1)

pub paged-all : (rs : List MemoryRange) → All PagedRange rs → all_valid_of rs ≡ true
paged-all [] p = refl
paged-all (r ∷ rs) p = let q = p.0 in rw (valid-range r q.0 q.1 q.2) (paged-all rs p.1)

pub entries_paged : (xs : List TaggedRange) → all_valid_of (ranges_in xs) ≡ true → Paged xs
entries_paged [] v = tt
entries_paged (x ∷ xs) v =
    let both = (and-eq-true_iff (valid_range x.range) (all_valid_of (ranges_in xs))).0 v in
    (valid-parts x.range both.0, entries_paged xs both.1)

pub entries-valid : (xs : List TaggedRange) → Paged xs → all_valid_of (ranges_in xs) ≡ true
entries-valid [] p = refl
entries-valid (x ∷ xs) p = let q = p.0 in rw (valid-range x.range q.0 q.1 q.2) (entries-valid xs p.1)

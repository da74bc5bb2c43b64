-- Laws of lists of numbers beside each other, as callers may hold them: entries that are stored in three, from the first
-- place on, with 0 behind them, are found again, more can be stored behind them, and sorting the places that they fill
-- stores them sorted.
use Rattle.std.specs.Prelude.{ℕ, ◌+◌, ◌≤◌, ◌≡◌, List, ◌++◌, take, drop, replicate}
use Rattle.std.proofs.Common.{ap, sym, ◌∙◌, append-nil, arith, length-take, drop_of_length-le}
use Rattle.std.proofs.Math.ListN.{length}
use Rattle.std.proofs.lemmas.List.{length-replicate}
use Rattle.memory_range.specs.declared.range.TaggedRange.{TaggedRange}
use Rattle.memory_range.specs.List.{starts_of, ends_of, tags_of, first_tagged}
use Rattle.range_lists.specs.Sort.{sort_by_start, starts_sorted, ends_sorted, tags_sorted}
use Rattle.range_lists.specs.Laws.Sort.{sort-length}
use Rattle.boot_ram.specs.Verdict.{written}
use Rattle.boot_ram.specs.Laws.Written.{length-written, written-first, drop-written, written_append, first-written}
use Rattle.memory_range.specs.Laws.List.{length_starts, length-ends, length_tags}
use Rattle.boot_ram.specs.Laws.Written.{starts_append, ends_append, tags_append}

-- an array of so many places, with 0 in each
abbrev pub blank : ℕ → List ℕ
blank room = replicate room 0

length-blank : (room : ℕ) → length (blank room) ≡ room
length-blank room = length-replicate room 0

-- arrays of so many places hold the entries
pub record Stored (room : ℕ) (xs : List TaggedRange) (ss es ts : List ℕ) : Type 0 where
  pub starts : ss ≡ written 0 (starts_of xs) (blank room)
  pub ends : es ≡ written 0 (ends_of xs) (blank room)
  pub tags : ts ≡ written 0 (tags_of xs) (blank room)

-- the first n places of arrays are there, and hold the entries
abbrev pub Found : ℕ → List TaggedRange → List ℕ → List ℕ → List ℕ → Type 0
Found n xs ss es ts = (n ≤ length ss) × (n ≤ length es) × (n ≤ length ts) × (first_tagged n ss es ts ≡ xs)

length_stored : (room : ℕ) (xs l : List ℕ) → l ≡ written 0 xs (blank room) → length l ≡ room
length_stored room xs l e = ap length e ∙ length-written 0 xs (blank room) ∙ length-blank room

-- a field of the entries in its array
module _ (field : List TaggedRange → List ℕ) (len : (xs : List TaggedRange) → length (field xs) ≡ length xs)
    (app : (xs ys : List TaggedRange) → field (xs ++ ys) ≡ field xs ++ field ys) where
  field_more : (xs ys : List TaggedRange) (l : List ℕ) → written (length xs) (field ys) (written 0 (field xs) l) ≡ written 0 (field (xs ++ ys)) l
  field_more xs ys l =
      let e : length xs ≡ 0 + length (field xs) = omega (arith, len xs) in
      rw (app xs ys, e) (written_append 0 (field xs) (field ys) l)

  field_sorted : (xs : List TaggedRange) (l : List ℕ) → length xs ≤ length l
      → (field (sort_by_start xs) ++ drop (length xs) (take (length xs) (written 0 (field xs) l))) ++ drop (length xs) (written 0 (field xs) l)
      ≡ written 0 (field (sort_by_start xs)) l
  field_sorted xs l h =
      let none = drop_of_length-le (take (length xs) (written 0 (field xs) l)) {i = length xs} (simp length-take (omega arith)) in
      let same : length (field (sort_by_start xs)) ≡ length (field xs) = len (sort_by_start xs) ∙ sort-length xs ∙ sym (len xs) in
      rw (none, append-nil, ← len xs)
      (rw (drop-written (field xs) l (omega (arith, len xs)), ← same) (sym (written-first (field (sort_by_start xs)) l (omega (arith, len xs)))))

module _ {room : ℕ} {xs : List TaggedRange} {ss es ts : List ℕ} (s : Stored room xs ss es ts) where
  pub stored_lengths : (length ss ≡ room) × (length es ≡ room) × (length ts ≡ room)
  stored_lengths = (
    length_stored room (starts_of xs) ss s.starts,
    length_stored room (ends_of xs) es s.ends,
    length_stored room (tags_of xs) ts s.tags,
  )

  pub stored-first : length xs ≤ room → first_tagged (length xs) ss es ts ≡ xs
  stored-first h =
      let z = blank room in
      let fits : length xs ≤ length z = omega (arith, length-blank room) in
      rw (s.starts, s.ends, s.tags) (first-written xs z z z fits fits fits)

  -- so many places, as many as there are entries
  pub stored-found : length xs ≤ room → {n : ℕ} → length xs ≡ n → Found n xs ss es ts
  stored-found h {n} e =
      let l = stored_lengths in
      (omega arith, omega arith, omega arith, rw e at (stored-first h))

  pub stored_more : (ys : List TaggedRange) {ss' es' ts' : List ℕ} → ss' ≡ written (length xs) (starts_of ys) ss
      → es' ≡ written (length xs) (ends_of ys) es → ts' ≡ written (length xs) (tags_of ys) ts → Stored room (xs ++ ys) ss' es' ts'
  stored_more ys hs he ht =
      record {
        starts = hs ∙ rw s.starts (field_more starts_of length_starts starts_append xs ys (blank room));
        ends = he ∙ rw s.ends (field_more ends_of length-ends ends_append xs ys (blank room));
        tags = ht ∙ rw s.tags (field_more tags_of length_tags tags_append xs ys (blank room));
      }

  -- the first places as the sort leaves them, and those behind them
  pub stored_sorted : length xs ≤ room → {n : ℕ} → length xs ≡ n → {ss' es' ts' : List ℕ}
      → ss' ≡ starts_sorted (take n ss) (take n es) (take n ts) → es' ≡ ends_sorted (take n ss) (take n es) (take n ts)
      → ts' ≡ tags_sorted (take n ss) (take n es) (take n ts)
      → Stored room (sort_by_start xs) (ss' ++ drop n ss) (es' ++ drop n es) (ts' ++ drop n ts)
  unfolding starts_sorted ends_sorted tags_sorted
  stored_sorted h e hs he ht =
      let z = blank room in
      let fits : length xs ≤ length z = omega (arith, length-blank room) in
      record {
        starts = rw (hs, ← e, stored-first h, s.starts) (field_sorted starts_of length_starts starts_append xs z fits);
        ends = rw (he, ← e, stored-first h, s.ends) (field_sorted ends_of length-ends ends_append xs z fits);
        tags = rw (ht, ← e, stored-first h, s.tags) (field_sorted tags_of length_tags tags_append xs z fits);
      }

-- Laws of lists of numbers beside each other, as callers may hold them: what a list holds after numbers are written into
-- it one after the other; and entries whose fields are written into three lists are found again in the first places.
use Rattle.std.specs.Prelude.{ℕ, suc, ◌+◌, ◌≤◌, ◌≡◌, refl, List, [], ◌∷◌, ◌++◌, length, take, drop, set}
use Rattle.std.proofs.Common.{◌∙◌, add-one, arith, length-set}
use Rattle.std.proofs.lemmas.List.{map-append}
use Rattle.std.proofs.lemmas.List.Edits.{sets, sets-eq}
use Rattle.std.proofs.Math.Seq.{take-append_seam, drop-append_seam}
use Rattle.memory_range.specs.declared.range.TaggedRange.{TaggedRange}
use Rattle.memory_range.specs.List.{starts_of, ends_of, tags_of, first_tagged}
use Rattle.memory_range.specs.Laws.List.{length_starts, length-ends, length_tags, fields-tagged}
use Rattle.boot_ram.specs.Verdict.{written}

pub length-written : (k : ℕ) (xs l : List ℕ) → length (written k xs l) ≡ length l
length-written k [] l = refl
length-written k (x ∷ xs) l = length-written (k + 1) xs (set l k x) ∙ length-set l k x

written_sets : (k : ℕ) (xs l : List ℕ) → written k xs l ≡ sets l k xs
written_sets k [] l = refl
written_sets k (x ∷ xs) l = rw add-one (written_sets (suc k) xs (set l k x))

-- what stood before and behind the places written is as found
pub written-parts : (k : ℕ) (xs l : List ℕ) → k + length xs ≤ length l → written k xs l ≡ take k l ++ xs ++ drop (k + length xs) l
written-parts k xs l h = written_sets k xs l ∙ sets-eq xs l k h

-- from the first place on
pub written-first : (xs l : List ℕ) → length xs ≤ length l → written 0 xs l ≡ xs ++ drop (length xs) l
written-first xs l h =
    let e : 0 + length xs ≡ length xs = omega arith in
    rw e at (written-parts 0 xs l (omega arith))

pub take-written : (xs l : List ℕ) → length xs ≤ length l → take (length xs) (written 0 xs l) ≡ xs
take-written xs l h = rw (written-first xs l h) (take-append_seam xs (drop (length xs) l))

pub drop-written : (xs l : List ℕ) → length xs ≤ length l → drop (length xs) (written 0 xs l) ≡ drop (length xs) l
drop-written xs l h = rw (written-first xs l h) (drop-append_seam xs (drop (length xs) l))

-- one list, and then another behind it
pub written_append : (k : ℕ) (xs ys l : List ℕ) → written (k + length xs) ys (written k xs l) ≡ written k (xs ++ ys) l
written_append k [] ys l = let e : k + 0 ≡ k = omega arith in rw e
written_append k (x ∷ xs) ys l =
    let e : k + suc (length xs) ≡ k + 1 + length xs = omega arith in
    rw e (written_append (k + 1) xs ys (set l k x))

-- each field of entries: one list's before another's
pub starts_append : (xs ys : List TaggedRange) → starts_of (xs ++ ys) ≡ starts_of xs ++ starts_of ys
starts_append = map-append _

pub ends_append : (xs ys : List TaggedRange) → ends_of (xs ++ ys) ≡ ends_of xs ++ ends_of ys
ends_append = map-append _

pub tags_append : (xs ys : List TaggedRange) → tags_of (xs ++ ys) ≡ tags_of xs ++ tags_of ys
tags_append = map-append _

-- entries that are written into three arrays stand in the first places
pub first-written : (xs : List TaggedRange) (ss es ts : List ℕ) → length xs ≤ length ss → length xs ≤ length es → length xs ≤ length ts
    → first_tagged (length xs) (written 0 (starts_of xs) ss) (written 0 (ends_of xs) es) (written 0 (tags_of xs) ts) ≡ xs
first-written xs ss es ts hs he ht =
    let s : take (length xs) (written 0 (starts_of xs) ss) ≡ starts_of xs =
    rw (← length_starts xs) (take-written (starts_of xs) ss (omega (arith, length_starts xs))) in
    let e : take (length xs) (written 0 (ends_of xs) es) ≡ ends_of xs =
    rw (← length-ends xs) (take-written (ends_of xs) es (omega (arith, length-ends xs))) in
    let t : take (length xs) (written 0 (tags_of xs) ts) ≡ tags_of xs =
    rw (← length_tags xs) (take-written (tags_of xs) ts (omega (arith, length_tags xs))) in
    rw (s, e, t) (fields-tagged xs)

-- What arrays hold of lists that may be longer than they are; and that selection and the build answer the same from it: each array
-- has one place more than its row allows, so a list that is too long is refused either way.
use Rattle.std.specs.Prelude.{ℕ, suc, zero, ◌<◌, min, ◌≡◌, refl, Bool, true, false, List, [], ◌∷◌, leb, length, take, set, Option, Some, None}
use Rattle.std.proofs.Common.{sym, ◌∙◌, true≢false, arith, length-take, take_all}
use Rattle.std.proofs.Math.Bool.{and-eq-true_iff, and-false}
use Rattle.std.proofs.Math.Decide.{dec_le}
use borrow.Author.Tests.{lt-leb, lt-ltb}
use Rattle.std.proofs.lemmas.List.Edits.{sets}
use Rattle.std.proofs.Math.Seq.{take-nil}
use Rattle.refusal.specs.declared.Refusal.{Refusal}
use Rattle.refusal.specs.Rows.{unless}
use Rattle.refusal.specs.Number.{map_count_of}
use Rattle.memory_range.specs.declared.range.MemoryRange.{MemoryRange}
use Rattle.memory_range.specs.declared.range.TaggedRange.{TaggedRange}
use Rattle.memory_range.specs.List.{ranges_of, ranges_in}
use Rattle.memory_range.specs.Valid.{valid_range, all_valid_of, ascend_from, ascend}
use Rattle.host_params.specs.declared.IsolationType.{IsolationType}
use Rattle.host_params.specs.declared.MemoryAllocationMode.{MemoryAllocationMode}
use Rattle.host_params.specs.declared.MemoryEntry.{MemoryEntry}
use Rattle.host_map.specs.Map.{map_of, map_ranges, is_protectable, map_starts_of, map_ends_of, map_nodes_of, map_protectable_of}
use Rattle.vtl2_ram.specs.Rows.{counts_good}
use Rattle.vtl2_ram.specs.Choice.{refused}
use Rattle.vtl2_ram.specs.Select.{choice}
use Rattle.vtl2_ram.specs.Laws.Map.{map-again, length-map-ranges}
use Rattle.vtl2_ram.specs.Laws.Rows.{rows-count}
use Rattle.memory.specs.declared.builder.AddressSpaceManagerBuilder.{AddressSpaceManagerBuilder}
use Rattle.memory.specs.Build.{Build, refused as build_refused, build, filled}
use Rattle.memory.specs.Builder.{reserved_count}
use Rattle.memory.specs.Rows.{rows_refusal}
use Rattle.memory.specs.Used.{used_of, used_refusal}
use Rattle.memory.specs.Laws.Build.{pools_many}
use Rattle.memory.specs.Laws.Overlap.{used_refused-none}
use Rattle.memory.specs.Laws.Rows.{rows-passed}
use Rattle.plan_input.specs.Range.{starts_in, ends_in}
use Rattle.plan_input.specs.Room.{map_room, import_room, config_room, pool_room}

module _ {A : Type 0} where
  -- nothing is stored in an empty array, and what is stored behind the first place leaves that as it is
  sets-none : (i : ℕ) (vs : List A) → sets [] i vs ≡ []
  sets-none i [] = refl
  sets-none i (v ∷ vs) = sets-none (suc i) vs

  sets_behind : (x : A) (l : List A) (i : ℕ) (vs : List A) → sets (x ∷ l) (suc i) vs ≡ x ∷ sets l i vs
  sets_behind x l i [] = refl
  sets_behind x l i (v ∷ vs) = sets_behind x (set l i v) (suc i) vs

-- a field of the values of a list, stored from an array's first place on: it holds those that it has room for
module _ {A B : Type 0} (field : List A → List B) (f : A → B) (empty : field [] ≡ [])
    (more : (x : A) (xs : List A) → field (x ∷ xs) ≡ f x ∷ field xs) where
  stored : (l : List B) (xs : List A) (n : ℕ) → min n (length l) ≡ min (length xs) (length l)
      → take n (sets l 0 (field xs)) ≡ field (take (length l) xs)
  stored [] xs n e = rw (sets-none 0 (field xs), take-nil n, empty)
  stored (y ∷ l) [] zero e = sym empty
  stored (y ∷ l) [] (suc n) e = absurd (omega arith)
  stored (y ∷ l) (x ∷ xs) zero e = absurd (omega arith)
  stored (y ∷ l) (x ∷ xs) (suc n) e = rw (more x xs, sets_behind (f x) l 0 (field xs), stored l xs n (omega arith), more x (take (length l) xs))

  stored_in : {room : ℕ} (l : List B) (xs : List A) (n : ℕ) → length l ≡ room → min n room ≡ min (length xs) room
      → take n (sets l 0 (field xs)) ≡ field (take room xs)
  stored_in l xs n h e = rw h at (stored l xs n (omega arith))

-- so values that are stored are found again, as many as there is room for
module _ {A : Type 0} where
  pub stored-list : (room : ℕ) (xs l : List A) (n : ℕ) → length l ≡ room → n ≡ min (length xs) room → take n (sets l 0 xs) ≡ take room xs
  stored-list room xs l n h c = stored_in (λ (l : List A). l) (λ (x : A). x) refl (λ x xs. refl) {room = room} l xs n h (omega arith)

-- lists of numbers beside each other, as callers may hold them: the starts and ends of ranges make them again
ranges-again : (rs : List MemoryRange) → ranges_of (starts_in rs) (ends_in rs) ≡ rs
ranges-again [] = refl
ranges-again (r ∷ rs) = rw (ranges-again rs)

-- so ranges that are stored in two arrays are found again, as many as there is room for
pub stored-ranges : (room : ℕ) (rs : List MemoryRange) (ss es : List ℕ) (n : ℕ) → length ss ≡ room → length es ≡ room
    → n ≡ min (length rs) room → ranges_of (take n (sets ss 0 (starts_in rs))) (take n (sets es 0 (ends_in rs))) ≡ take room rs
stored-ranges room rs ss es n s e c =
    let m : min n room ≡ min (length rs) room = omega arith in
    rw (
      stored_in starts_in (λ r. r.start) refl (λ x xs. refl) ss rs n s m,
      stored_in ends_in (λ r. r.end) refl (λ x xs. refl) es rs n e m,
    )
    (ranges-again (take room rs))

-- and so is a map that is stored in four
pub stored-map : (room : ℕ) (m : List MemoryEntry) (ss es ns : List ℕ) (ls : List Bool) (n : ℕ) → length ss ≡ room → length es ≡ room
    → length ns ≡ room → length ls ≡ room → n ≡ min (length m) room
    → map_of (take n (sets ss 0 (map_starts_of m))) (take n (sets es 0 (map_ends_of m))) (take n (sets ns 0 (map_nodes_of m))) (take n (sets ls 0 (map_protectable_of m)))
    ≡ take room m
stored-map room m ss es ns ls n s e t l c =
    let k : min n room ≡ min (length m) room = omega arith in
    rw (
      stored_in map_starts_of (λ x. x.range.start) refl (λ x xs. refl) ss m n s k,
      stored_in map_ends_of (λ x. x.range.end) refl (λ x xs. refl) es m n e k,
      stored_in map_nodes_of (λ x. x.vnode) refl (λ x xs. refl) ns m n t k,
      stored_in map_protectable_of (λ x. is_protectable x.mem_type) refl (λ x xs. refl) ls m n l k,
    )
    (map-again (take room m))

-- the first of a list of ranges are valid, and ascend, where all do
valid-take : (n : ℕ) (rs : List MemoryRange) → all_valid_of rs ≡ true → all_valid_of (take n rs) ≡ true
valid-take zero rs v = refl
valid-take (suc n) [] v = refl
valid-take (suc n) (r ∷ rs) v =
    let w = (and-eq-true_iff (valid_range r) (all_valid_of rs)).0 v in rw w.0 (valid-take n rs w.1)

ascend-take : (n a : ℕ) (rs : List MemoryRange) → ascend_from a rs ≡ true → ascend_from a (take n rs) ≡ true
ascend-take zero a rs v = refl
ascend-take (suc n) a [] v = refl
ascend-take (suc n) a (r ∷ rs) v =
    let w = (and-eq-true_iff (leb a r.start) (ascend_from r.end rs)).0 v in rw w.0 (ascend-take n r.end rs w.1)

-- the ranges of the first entries of the map
map-take : (n : ℕ) (m : List MemoryEntry) → map_ranges (take n m) ≡ take n (map_ranges m)
map-take zero m = refl
map-take (suc n) [] = refl
map-take (suc n) (e ∷ es) = rw (map-take n es)

-- a list that there is room for is taken whole; any other is longer than the room, which what is taken fills
data Fits {A : Type 0} (n : ℕ) (xs : List A) : Type 0 where
  whole : take n xs ≡ xs → Fits n xs
  full : length (take n xs) ≡ n → n < length xs → Fits n xs

fits : {A : Type 0} (n : ℕ) (xs : List A) → Fits n xs
fits n xs = elim (dec_le (length xs) n) [
  | yes h ↦ whole (take_all n xs h)
  | no h ↦ full (rw (length-take n xs) (omega arith)) (omega arith)
]

-- selection: a map or a list of imported ranges that is too long is refused by row 6, whatever stands in it
abbrev Good : List MemoryRange → Type 0
Good rs = (all_valid_of rs ≡ true) × (ascend rs ≡ true)

good-take : (n : ℕ) (rs : List MemoryRange) → Good rs → Good (take n rs)
good-take n rs g = (valid-take n rs g.0, ascend-take n 0 rs g.1)

module _ (mode : MemoryAllocationMode) (isolation : IsolationType) (size : (Option ℕ)) (file : MemoryRange) (f : valid_range file ≡ true) where
  row_six : (m : List MemoryEntry) (is : List MemoryRange) → Good (map_ranges m) → Good is → counts_good mode (length m) (length is) ≡ false
      → choice mode isolation size file m is ≡ refused map_count_of
  unfolding choice
  row_six m is g h c = rw (rows-count mode file (map_ranges m) is (rw (f, g.0, h.0)) (rw (g.1, h.1)) (rw (length-map-ranges m) c))

  map-room : (m : List MemoryEntry) (is : List MemoryRange) → Good (map_ranges m) → Good is
      → choice mode isolation size file (take map_room m) is ≡ choice mode isolation size file m is
  map-room m is g h = elim (fits map_room m) [
    | whole e ↦ rw e
    | full t l ↦
        row_six (take map_room m) is (rw (map-take map_room m) (good-take map_room (map_ranges m) g)) h (rw t)
        ∙ sym (row_six m is g h (rw (lt-leb (length m) 1024 (omega arith))))
  ]

  import-room : (m : List MemoryEntry) (is : List MemoryRange) → Good (map_ranges m) → Good is
      → choice mode isolation size file m (take import_room is) ≡ choice mode isolation size file m is
  import-room m is g h = elim (fits import_room is) [
    | whole e ↦ rw e
    | full t l ↦
        row_six m (take import_room is) g (good-take import_room is h) (rw t (and-false (leb (length m) 1024)))
        ∙ sym (row_six m is g h (rw (lt-leb (length is) 256 (omega arith)) (and-false (leb (length m) 1024))))
  ]

-- so selection answers from what is stored as from the lists themselves
pub choice_room : (mode : MemoryAllocationMode) (isolation : IsolationType) (size : (Option ℕ)) (file : MemoryRange)
    (m : List MemoryEntry) (imports : List MemoryRange) → valid_range file ≡ true → all_valid_of (map_ranges m) ≡ true → all_valid_of imports ≡ true
    → ascend (map_ranges m) ≡ true → ascend imports ≡ true
    → choice mode isolation size file (take map_room m) (take import_room imports) ≡ choice mode isolation size file m imports
choice_room mode isolation size file m is f v w a b =
    map-room mode isolation size file f m (take import_room is) (v, a) (good-take import_room is (w, b)) ∙ import-room mode isolation size file f m is (v, a) (w, b)

-- the build: where rows refuse, what comes behind them makes no difference
either : (o : Option Refusal) (x y : Build) → (o ≡ None → ⊥) → unless build_refused o x ≡ unless build_refused o y
either None x y h = absurd (h refl)
either (Some n) x y h = refl

module _ (b : AddressSpaceManagerBuilder) (ram : List TaggedRange) where
  -- too many config ranges are refused alike, by row 17 at the latest
  rows_alike : (cs ds ps : List MemoryRange) → all_valid_of cs ≡ true → all_valid_of ds ≡ true → 20 < length cs → 20 < length ds
      → rows_refusal b 0 (ranges_in ram) cs ps ≡ rows_refusal b 0 (ranges_in ram) ds ps
  unfolding rows_refusal
  rows_alike cs ds ps v w l k = rw (v, w, lt-ltb 20 (reserved_count b cs) (omega arith), lt-ltb 20 (reserved_count b ds) (omega arith))

  config-room : (cs ps : List MemoryRange) → all_valid_of cs ≡ true → build b 0 ram (take config_room cs) ps ≡ build b 0 ram cs ps
  unfolding build
  config-room cs ps v = elim (fits config_room cs) [
    | whole e ↦ rw e
    | full t l ↦
        rw (rows_alike (take config_room cs) cs ps (valid-take config_room cs v) v (omega arith) (omega arith))
        (either (rows_refusal b 0 (ranges_in ram) cs ps) _ _ (λ e. omega (arith, (rows-passed b 0 (ranges_in ram) cs ps e).7)))
  ]

  -- too many pool ranges are refused alike, by row 20 at the latest
  used_alike : (cs ps qs : List MemoryRange) → 64 < length ps → 64 < length qs → used_refusal b cs ps ≡ used_refusal b cs qs
  unfolding used_refusal
  used_alike cs ps qs l k = rw (lt-ltb 64 (length ps) l, lt-ltb 64 (length qs) k)

  used_refused : (cs ps : List MemoryRange) → 64 < length ps → used_refusal b cs ps ≡ None → ⊥
  used_refused cs ps l e = true≢false (sym (pools_many b.bootshim_used _ ps l) ∙ (used_refused-none b cs ps e).2)

  pool-room : (cs ps : List MemoryRange) → all_valid_of ps ≡ true → build b 0 ram cs (take pool_room ps) ≡ build b 0 ram cs ps
  unfolding build rows_refusal
  pool-room cs ps v = elim (fits pool_room ps) [
    | whole e ↦ rw e
    | full t l ↦
        rw (
          v,
          valid-take pool_room ps v,
          used_alike cs (take pool_room ps) ps (omega arith) (omega arith),
          either (used_refusal b cs ps) (filled ram (used_of b cs (take pool_room ps))) (filled ram (used_of b cs ps)) (used_refused cs ps (omega arith)),
        )
  ]

  -- so the build answers from what is stored as from the lists themselves
  pub build_room : (cs ps : List MemoryRange) → all_valid_of cs ≡ true → all_valid_of ps ≡ true
      → build b 0 ram (take config_room cs) (take pool_room ps) ≡ build b 0 ram cs ps
  build_room cs ps v w = config-room cs (take pool_room ps) v ∙ pool-room cs ps w

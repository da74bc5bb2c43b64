-- What an accepted order says of the lists of a text's records: which have one value or at most one, and that the records
-- are these lists one after the other. And any such lists, one after the other, are in order.
use Rattle.std.specs.Prelude.{ℕ, zero, suc, ◌+◌, ◌≤◌, ◌<◌, ◌≡◌, refl, Bool, true, false, ◌&&◌, List, [], ◌∷◌, ◌++◌, map, eqb, leb, length, get_or, replicate}
use Rattle.std.proofs.Common.{sym, ap, ap₂, ◌∙◌, append-nil, arith, leb-true, le-leb, eqb-true, eq-eqb, ne_eqb, length-append}
use Rattle.std.proofs.Math.Bool.{and-eq-true_iff}
use Rattle.std.proofs.lemmas.Bool.{false≢true}
use Rattle.std.proofs.lemmas.List.{map-append, length-map}
use Rattle.memory_range.specs.declared.range.MemoryRange.{MemoryRange}
use Rattle.host_params.specs.declared.MemoryEntry.{MemoryEntry}
use Rattle.plan_record.specs.declared.record.Get as get
use Rattle.plan_record.specs.declared.record.Pool as pool
use Rattle.plan_record.specs.declared.record.Shape as shape
use Rattle.plan_record.specs.declared.record.Record.{Record}
use Rattle.plan_record.specs.declared.record.Record.TheVariants.{Shape, File, Mem, Import, Used, State, Config, Keep, Side, Tables, Log, Gpool, Pool, Get}
use Rattle.plan_record.specs.Record.{Occurs, many}
use Rattle.plan_text.specs.Order.{place_of, places_of, occurs, allowed, times_in, times_allowed, places_ascend, in_order_of}
use Rattle.plan_text.specs.Plan.{Held, held_by, shape_held, range_held, entry_held, pool_held, get_held, values_at}
use Rattle.plan_text.specs.Plan.{shapes, files, mems, imports, useds, states, configs, keeps, sides, tables, logs, gpools, pools, gets}

-- both parts of a test that is true
both : (a b : Bool) → (a && b) ≡ true → (a ≡ true) × (b ≡ true)
both a b h = (and-eq-true_iff a b).0 h

-- a list of values is as long as its place is often in the text, where each record of that place holds one value
pub values_times : {A : Type 0} (held : Held → List A) (k : ℕ)
    → ((r : Record) → place_of r ≡ k → length (held (held_by r)) ≡ 1)
    → (rs : List Record) → length (values_at held k rs) ≡ times_in k (places_of rs)
values_times held k one [] = refl
values_times held k one (r ∷ rs) = go (eqb (place_of r) k) refl (values_times held k one rs)
  where
    go : (t : Bool) → eqb (place_of r) k ≡ t → length (values_at held k rs) ≡ times_in k (places_of rs)
        → length (values_at held k (r ∷ rs)) ≡ times_in k (places_of (r ∷ rs))
    go true e i = rw (e, length-append, i, one r (eqb-true _ _ e))
    go false e i = rw e (omega arith)

-- of each word, in their order, how its records are made again of what they hold
abbrev makers : List (Held → List Record)
makers =
    (λ h. map Shape (shape_held h)) ∷
    (λ h. map File (range_held h)) ∷
    (λ h. map Mem (entry_held h)) ∷
    (λ h. map Import (range_held h)) ∷
    (λ h. map Used (range_held h)) ∷
    (λ h. map State (range_held h)) ∷
    (λ h. map Config (range_held h)) ∷
    (λ h. map Keep (range_held h)) ∷
    (λ h. map Side (range_held h)) ∷
    (λ h. map Tables (range_held h)) ∷
    (λ h. map Log (range_held h)) ∷
    (λ h. map Gpool (range_held h)) ∷
    (λ h. map Pool (pool_held h)) ∷
    (λ h. map Get (get_held h)) ∷ []

-- the maker of a place's records; past the last place it makes none
abbrev maker : ℕ → Held → List Record
maker k = get_or makers k (λ h. [])

-- a record is made again of what it holds
made : (r : Record) → maker (place_of r) (held_by r) ≡ r ∷ []
made (Shape x) = refl
made (File x) = refl
made (Mem x) = refl
made (Import x) = refl
made (Used x) = refl
made (State x) = refl
made (Config x) = refl
made (Keep x) = refl
made (Side x) = refl
made (Tables x) = refl
made (Log x) = refl
made (Gpool x) = refl
made (Pool x) = refl
made (Get x) = refl

-- a list that ascends from a place has no values of a place below it
none_below : {A : Type 0} (held : Held → List A) (k p : ℕ) → k < p → (rs : List Record) → places_ascend p (places_of rs) ≡ true
    → values_at held k rs ≡ []
none_below held k p h [] a = refl
none_below held k p h (r ∷ rs) a =
    let parts = both (leb p (place_of r)) (places_ascend (place_of r) (places_of rs)) a in
    let above : k < place_of r = omega (arith, leb-true p (place_of r) parts.0) in
    rw (ne_eqb (place_of r) k (omega arith)) (none_below held k (place_of r) above rs parts.1)

-- what the makers, the first of them at place k, make of the records, one list after the other
abbrev sequence_from : ℕ → List (Held → List Record) → List Record → List Record
sequence_from k [] rs = []
sequence_from k (m ∷ ms) rs = values_at m k rs ++ sequence_from (k + 1) ms rs

-- a record of a place below k adds nothing
passed : (ms : List (Held → List Record)) (k : ℕ) (r : Record) (rs : List Record) → place_of r < k
    → sequence_from k ms (r ∷ rs) ≡ sequence_from k ms rs
passed [] k r rs h = refl
passed (m ∷ ms) k r rs h = rw (ne_eqb (place_of r) k (omega arith), passed ms (k + 1) r rs (omega arith))

-- a record before an ascending list comes first in the sequence
first : (d : ℕ) (ms : List (Held → List Record)) (k : ℕ) (r : Record) (rs : List Record) → place_of r ≡ k + d
    → get_or ms d (λ h. []) (held_by r) ≡ r ∷ [] → places_ascend (place_of r) (places_of rs) ≡ true
    → sequence_from k ms (r ∷ rs) ≡ r ∷ sequence_from k ms rs
first d [] k r rs e m≡ a = let z : ◌≡◌ {A = ℕ} 0 1 = ap length m≡ in absurd (omega arith)
first zero (m ∷ ms) k r rs e m≡ a = rw (eq-eqb (place_of r) k (omega arith), m≡, passed ms (k + 1) r rs (omega arith))
first (suc d) (m ∷ ms) k r rs e m≡ a =
    rw (ne_eqb (place_of r) k (omega arith), none_below m k (place_of r) (omega arith) rs a) (first d ms (k + 1) r rs (omega arith) m≡ a)

-- records whose places ascend are in sequence
ascending : (k : ℕ) (rs : List Record) → places_ascend k (places_of rs) ≡ true → rs ≡ sequence_from 0 makers rs
ascending k [] a = refl
ascending k (r ∷ rs) a =
    let behind = (both (leb k (place_of r)) (places_ascend (place_of r) (places_of rs)) a).1 in
    ap (λ l. r ∷ l) (ascending (place_of r) rs behind) ∙ sym (first (place_of r) makers 0 r rs (omega arith) (made r) behind)

-- of each word, how often it stands is allowed
allowed_at : (d : ℕ) (os : List Occurs) (k p : ℕ) (ps : List ℕ) → p ≡ k + d → times_allowed k os ps ≡ true
    → allowed (get_or os d many) (times_in p ps) ≡ true
allowed_at d [] k p ps e t = refl
allowed_at zero (o ∷ os) k p ps e t =
    let same : p ≡ k = omega arith in rw same (both (allowed o (times_in k ps)) (times_allowed (k + 1) os ps) t).0
allowed_at (suc d) (o ∷ os) k p ps e t =
    allowed_at d os (k + 1) p ps (omega arith) (both (allowed o (times_in k ps)) (times_allowed (k + 1) os ps) t).1

-- a record of a place holds one value of the place's kind
one_value : {A : Type 0} (make : A → Record) (held : Held → List A) (k : ℕ) → ((h : Held) → maker k h ≡ map make (held h))
    → (r : Record) → place_of r ≡ k → length (held (held_by r)) ≡ 1
one_value make held k same r e =
    sym (length-map (held (held_by r)) make) ∙ ap length (sym (same (held_by r)) ∙ ap (λ (p : ℕ). maker p (held_by r)) (sym e) ∙ made r)

-- so the length of a place's list is allowed
count : {A : Type 0} (make : A → Record) (held : Held → List A) (k : ℕ) → ((h : Held) → maker k h ≡ map make (held h))
    → (rs : List Record) → in_order_of rs ≡ true → allowed (get_or occurs k many) (length (values_at held k rs)) ≡ true
unfolding in_order_of
count make held k same rs h =
    rw (values_times held k (one_value make held k same) rs)
    (allowed_at k occurs 0 k (places_of rs) (omega arith) (both (places_ascend 0 (places_of rs)) (times_allowed 0 occurs (places_of rs)) h).1)

-- the lists of an accepted text that have one value, and those that have at most one
pub record OneEach (rs : List Record) : Type 0 where
  pub shape-once : length (shapes rs) ≡ 1
  pub file-once : length (files rs) ≡ 1
  pub used-once : length (useds rs) ≡ 1
  pub state-once : length (states rs) ≡ 1
  pub keep_most : length (keeps rs) ≤ 1
  pub side_most : length (sides rs) ≤ 1
  pub tables_most : length (tables rs) ≤ 1
  pub log_most : length (logs rs) ≤ 1
  pub pool-once : length (pools rs) ≡ 1

-- in an accepted text no word that must stand is missing, and none that may not repeat is repeated
pub one_each : (rs : List Record) → in_order_of rs ≡ true → OneEach rs
one_each rs h = record {
  shape-once = eqb-true _ _ (count Shape shape_held 0 (λ x. refl) rs h);
  file-once = eqb-true _ _ (count File range_held 1 (λ x. refl) rs h);
  used-once = eqb-true _ _ (count Used range_held 4 (λ x. refl) rs h);
  state-once = eqb-true _ _ (count State range_held 5 (λ x. refl) rs h);
  keep_most = leb-true _ _ (count Keep range_held 7 (λ x. refl) rs h);
  side_most = leb-true _ _ (count Side range_held 8 (λ x. refl) rs h);
  tables_most = leb-true _ _ (count Tables range_held 9 (λ x. refl) rs h);
  log_most = leb-true _ _ (count Log range_held 10 (λ x. refl) rs h);
  pool-once = eqb-true _ _ (count Pool pool_held 12 (λ x. refl) rs h);
}

-- the records in the order of the fourteen words
abbrev pub in_sequence : List Record → List Record
in_sequence rs =
    map Shape (shapes rs) ++ (map File (files rs) ++ (map Mem (mems rs) ++ (map Import (imports rs)
    ++ (map Used (useds rs) ++ (map State (states rs) ++ (map Config (configs rs) ++ (map Keep (keeps rs)
    ++ (map Side (sides rs) ++ (map Tables (tables rs) ++ (map Log (logs rs) ++ (map Gpool (gpools rs)
    ++ (map Pool (pools rs) ++ map Get (gets rs)))))))))))))

-- to make the records of a place is to make them of its values
values-map : {A : Type 0} (make : A → Record) (held : Held → List A) (k : ℕ) (rs : List Record)
    → values_at (λ h. map make (held h)) k rs ≡ map make (values_at held k rs)
values-map make held k [] = refl
values-map make held k (r ∷ rs) = go (eqb (place_of r) k) refl (values-map make held k rs)
  where
    go : (t : Bool) → eqb (place_of r) k ≡ t → values_at (λ h. map make (held h)) k rs ≡ map make (values_at held k rs)
        → values_at (λ h. map make (held h)) k (r ∷ rs) ≡ map make (values_at held k (r ∷ rs))
    go true e i = rw (e, i, map-append)
    go false e i = rw (e, i)

-- the same with more behind
next : {A : Type 0} (make : A → Record) (held : Held → List A) (k : ℕ) (rs : List Record) {xs ys : List Record} → xs ≡ ys
    → values_at (λ h. map make (held h)) k rs ++ xs ≡ map make (values_at held k rs) ++ ys
next make held k rs e = ap₂ (λ (xs ys : List Record). xs ++ ys) (values-map make held k rs) e

-- the records of an accepted text are the fourteen lists one after the other
pub in-sequence : (rs : List Record) → in_order_of rs ≡ true → rs ≡ in_sequence rs
unfolding in_order_of
in-sequence rs h =
    ascending 0 rs (both (places_ascend 0 (places_of rs)) (times_allowed 0 occurs (places_of rs)) h).0
    ∙ next Shape shape_held 0 rs (next File range_held 1 rs (next Mem entry_held 2 rs (next Import range_held 3 rs
    (next Used range_held 4 rs (next State range_held 5 rs (next Config range_held 6 rs (next Keep range_held 7 rs
    (next Side range_held 8 rs (next Tables range_held 9 rs (next Log range_held 10 rs (next Gpool range_held 11 rs
    (next Pool pool_held 12 rs (append-nil _ ∙ values-map Get get_held 13 rs)))))))))))))

-- the places of records in sequence, by the count of each word's from place k on
abbrev blocks : ℕ → List ℕ → List ℕ
blocks k [] = []
blocks k (n ∷ ns) = replicate n k ++ blocks (k + 1) ns

-- whether each count is allowed
abbrev all_allowed : List Occurs → List ℕ → Bool
all_allowed [] ns = true
all_allowed (o ∷ os) [] = false
all_allowed (o ∷ os) (n ∷ ns) = allowed o n && all_allowed os ns

-- blocks ascend, from any place that is not above the first of them
block-ascends : (n j k : ℕ) (ps : List ℕ) → j ≤ k → ((i : ℕ) → i ≤ k → places_ascend i ps ≡ true)
    → places_ascend j (replicate n k ++ ps) ≡ true
block-ascends zero j k ps h behind = behind j h
block-ascends (suc n) j k ps h behind = rw (le-leb j k h) (block-ascends n k k ps (omega arith) behind)

blocks-ascend : (ns : List ℕ) (j k : ℕ) → j ≤ k → places_ascend j (blocks k ns) ≡ true
blocks-ascend [] j k h = refl
blocks-ascend (n ∷ ns) j k h = block-ascends n j k (blocks (k + 1) ns) h (λ i g. blocks-ascend ns i (k + 1) (omega arith))

-- each place is as often in the blocks as its count says
times-same : (n k : ℕ) (ps : List ℕ) → times_in k (replicate n k ++ ps) ≡ n + times_in k ps
times-same zero k ps = omega arith
times-same (suc n) k ps = rw (eq-eqb k k refl) (omega (arith, times-same n k ps))

times_other : (n j k : ℕ) (ps : List ℕ) → (k ≡ j → ⊥) → times_in j (replicate n k ++ ps) ≡ times_in j ps
times_other zero j k ps h = refl
times_other (suc n) j k ps h = rw (ne_eqb k j h) (omega (arith, times_other n j k ps h))

times_below : (ns : List ℕ) (j k : ℕ) → j < k → times_in j (blocks k ns) ≡ 0
times_below [] j k h = refl
times_below (n ∷ ns) j k h = times_other n j k (blocks (k + 1) ns) (λ e. omega arith) ∙ times_below ns j (k + 1) (omega arith)

allowed_other : (os : List Occurs) (n j k : ℕ) (ps : List ℕ) → k < j → times_allowed j os (replicate n k ++ ps) ≡ times_allowed j os ps
allowed_other [] n j k ps h = refl
allowed_other (o ∷ os) n j k ps h = rw (times_other n j k ps (λ e. omega arith), allowed_other os n (j + 1) k ps (omega arith))

-- so where each count is allowed, each place is as often there as it may be
blocks-allowed : (os : List Occurs) (ns : List ℕ) (k : ℕ) → all_allowed os ns ≡ true → times_allowed k os (blocks k ns) ≡ true
blocks-allowed [] ns k h = refl
blocks-allowed (o ∷ os) [] k h = absurd (false≢true h)
blocks-allowed (o ∷ os) (n ∷ ns) k h =
    let parts = both (allowed o n) (all_allowed os ns) h in
    let times : times_in k (replicate n k ++ blocks (k + 1) ns) ≡ n =
    omega (arith, times-same n k (blocks (k + 1) ns), times_below ns k (k + 1) (omega arith)) in
    rw (times, allowed_other os n (k + 1) k (blocks (k + 1) ns) (omega arith), parts.0) (blocks-allowed os ns (k + 1) parts.1)

-- the places of records of one word, before others
places : {A : Type 0} (make : A → Record) (k : ℕ) → ((x : A) → place_of (make x) ≡ k) → (xs : List A) (rs : List Record)
    → places_of (map make xs ++ rs) ≡ replicate (length xs) k ++ places_of rs
places make k at [] rs = refl
places make k at (x ∷ xs) rs = ap₂ (λ (p : ℕ) (ps : List ℕ). p ∷ ps) (at x) (places make k at xs rs)

-- any lists, of one value where a word stands once and of at most one where it is optional, are in order one after the other
pub sequence_in_order : (s : shape.Shape) (f : MemoryRange) (ms : List MemoryEntry) (is : List MemoryRange) (u st : MemoryRange)
    (cs ks ss ts ls gs : List MemoryRange) (p : pool.Pool) (qs : List get.Get)
    → length ks ≤ 1 → length ss ≤ 1 → length ts ≤ 1 → length ls ≤ 1
    → in_order_of (Shape s ∷ File f ∷ (map Mem ms ++ (map Import is ++ (Used u ∷ State st ∷ (map Config cs ++ (map Keep ks
    ++ (map Side ss ++ (map Tables ts ++ (map Log ls ++ (map Gpool gs ++ (Pool p ∷ map Get qs)))))))))))
    ≡ true
unfolding in_order_of
sequence_in_order s f ms is u st cs ks ss ts ls gs p qs k1 s1 t1 l1 =
    let counts : List ℕ = 1 ∷ 1 ∷ length ms ∷ length is ∷ 1 ∷ 1 ∷ length cs ∷ length ks ∷ length ss ∷ length ts ∷ length ls
    ∷ length gs ∷ 1 ∷ length qs ∷ [] in
    let few : all_allowed occurs counts ≡ true =
    rw (le-leb (length ks) 1 k1, le-leb (length ss) 1 s1, le-leb (length ts) 1 t1, le-leb (length ls) 1 l1) in
    rw (
      places Mem 2 (λ x. refl) ms,
      places Import 3 (λ x. refl) is,
      places Config 6 (λ x. refl) cs,
      places Keep 7 (λ x. refl) ks,
      places Side 8 (λ x. refl) ss,
      places Tables 9 (λ x. refl) ts,
      places Log 10 (λ x. refl) ls,
      places Gpool 11 (λ x. refl) gs,
      ← append-nil (map Get qs),
      places Get 13 (λ x. refl) qs [],
    )
    ((and-eq-true_iff (places_ascend 0 (blocks 0 counts)) (times_allowed 0 occurs (blocks 0 counts))).1
    (blocks-ascend counts 0 0 (omega arith), blocks-allowed occurs counts 0 few))

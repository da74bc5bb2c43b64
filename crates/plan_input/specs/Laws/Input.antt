-- The records of an accepted text, read one after the other, give what the text gives by its words.
use Rattle.std.specs.Prelude.{ℕ, ◌+◌, ◌≤◌, ◌≡◌, Bool, true, false, ◌&&◌, leb, length, Option, Some, None}
use Rattle.std.proofs.Math.Path.{refl}
use Rattle.std.proofs.Common.{sym, ap, subst, ◌∙◌, arith, leb-true, le-leb, eq-eqb, ne_eqb}
use Rattle.std.proofs.Math.Bool.{and_assoc, and-true, and-false}
use mathlib.Core.List.{List, [], ◌∷◌, ◌++◌, map}
use Rattle.memory_range.specs.declared.range.MemoryRange.{MemoryRange}
use Rattle.memory_range.specs.Range.{range}
use Rattle.memory_range.specs.Valid.{valid_range, all_valid_of}
use Rattle.host_params.specs.declared.MemoryEntry.{MemoryEntry}
use Rattle.host_map.specs.Map.{map_ranges}
use Rattle.memory.specs.Builder.{option_valid, singles_valid}
use Rattle.plan_record.specs.declared.record.Get as get
use Rattle.plan_record.specs.declared.record.Record.{Record}
use Rattle.plan_record.specs.declared.record.Record.TheVariants.{Shape, File, Mem, Import, Used, State, Config, Keep, Side, Tables, Log, Gpool, Pool, Get}
use Rattle.plan_text.specs.Order.{place_of, in_order_of}
use Rattle.plan_text.specs.Plan.{held_by, range as range_held_by}
use Rattle.plan_text.specs.Plan as plan
use Rattle.plan_text.specs.Laws.Plan.{in-sequence, one_each}
use Rattle.plan_input.specs.Record.{behind_one}
use Rattle.plan_input.specs.Word.{of_word, behind_word, behind_words}
use Rattle.plan_input.specs.Range.{range_option, range_first, ranges_first}
use Rattle.plan_input.specs.Entry.{entries_first}
use Rattle.plan_input.specs.Once.{first_or, no_shape, no_pool}
use Rattle.plan_input.specs.Selection.{SelectionIn, selection_in}
use Rattle.plan_input.specs.Build.{BuildIn, build_in}
use Rattle.plan_input.specs.Input.{Input, input_of, input_read, gets_first, text_ranges}

-- an optional range as a record of its word
abbrev optional : (MemoryRange → Record) → Option MemoryRange → List Record
optional make (Some r) = make r ∷ []
optional make None = []

-- the records that give an input: from the used range on, and all of them
abbrev used_on : Input → List Record
used_on i =
    Used i.builder.bootshim_used ∷ State i.builder.persisted_state_region ∷ (map Config i.configs
    ++ (optional Keep i.builder.reserved_range ++ (optional Side i.builder.sidecar_image
    ++ (optional Tables i.builder.page_tables ++ (optional Log i.builder.log_buffer
    ++ (map Gpool i.gpools ++ (Pool i.pool ∷ map Get i.gets)))))))

abbrev records_for : Input → List Record
records_for i = Shape i.shape ∷ File i.file ∷ (map Mem i.map ++ (map Import i.imports ++ used_on i))

-- a list of one value, and a list of at most one
once : {A : Type 0} (d : A) (xs : List A) → length xs ≡ 1 → xs ≡ first_or d xs ∷ []
once d [] h = absurd (omega arith)
once d (x ∷ []) h = refl
once d (x ∷ y ∷ xs) h = absurd (omega arith)

at_most : (make : MemoryRange → Record) (xs : List MemoryRange) → length xs ≤ 1 → map make xs ≡ optional make (range_option xs)
at_most make [] h = refl
at_most make (x ∷ []) h = refl
at_most make (x ∷ y ∷ xs) h = absurd (omega arith)

-- an accepted text has the records of its input
records-for : (rs : List Record) → in_order_of rs ≡ true → rs ≡ records_for (input_of rs)
unfolding input_of
records-for rs h =
    let o = one_each rs h in
    in-sequence rs h
    ∙ rw (
      once no_shape (plan.shapes rs) o.shape-once,
      once (range 0 0) (plan.files rs) o.file-once,
      once (range 0 0) (plan.useds rs) o.used-once,
      once (range 0 0) (plan.states rs) o.state-once,
      at_most Keep (plan.keeps rs) o.keep_most,
      at_most Side (plan.sides rs) o.side_most,
      at_most Tables (plan.tables rs) o.tables_most,
      at_most Log (plan.logs rs) o.log_most,
      once no_pool (plan.pools rs) o.pool-once,
    )

-- the first record's place is k or above, if there is one
abbrev range_starts_from : ℕ → List Record → Bool
range_starts_from k [] = true
range_starts_from k (r ∷ rs) = leb k (place_of r)

record From (k : ℕ) (rs : List Record) : Type 0 where
  from : range_starts_from k rs ≡ true

-- above place k nothing is read for its word
past : (k : ℕ) (rs : List Record) → From (k + 1) rs
    → From k rs × (range_first k rs ≡ None) × (behind_word k rs ≡ rs) × (ranges_first k rs ≡ []) × (behind_words k rs ≡ rs)
past k [] h = (record { from = refl }, refl, refl, refl, refl)
past k (r ∷ rs) h =
    let above = leb-true (k + 1) (place_of r) h.from in
    let e : of_word k r ≡ false = ne_eqb (place_of r) k (λ e. omega arith) in
    (record { from = le-leb k (place_of r) (omega arith) }, rw e, rw e, rw e, rw e)

-- the records of a word at place k before others: where they start, what is read of them and left behind them, and row 4; for a
-- word that repeats, and for an optional one
record Run (k : ℕ) (xs : List MemoryRange) (rest all : List Record) : Type 0 where
  from : From k all
  first : ranges_first k all ≡ xs
  behind : behind_words k all ≡ rest
  valid : all_valid_of (text_ranges all) ≡ (all_valid_of xs && all_valid_of (text_ranges rest))

record Single (k : ℕ) (o : Option MemoryRange) (rest all : List Record) : Type 0 where
  from : From k all
  first : range_first k all ≡ o
  behind : behind_word k all ≡ rest
  valid : all_valid_of (text_ranges all) ≡ (option_valid o && all_valid_of (text_ranges rest))

-- a word of ranges, before records of higher places
module _ (make : MemoryRange → Record) (k : ℕ) (word : (x : MemoryRange) → (place_of (make x) ≡ k) × (held_by (make x) ≡ range_held_by x)) where
  here : (x : MemoryRange) → of_word k (make x) ≡ true
  here x = eq-eqb (place_of (make x)) k (word x).0

  starts : (x : MemoryRange) (rs : List Record) → From k (make x ∷ rs)
  starts x rs = record { from = rw (word x).0 (le-leb k k (omega arith)) }

  run : {rest : List Record} → From (k + 1) rest → (xs : List MemoryRange) → Run k xs rest (map make xs ++ rest)
  run {rest} h [] = let p = past k rest h in record { from = p.0; first = p.3; behind = p.4; valid = refl }
  run {rest} h (x ∷ xs) =
      let r = run h xs in
      record {
        from = starts x (map make xs ++ rest);
        first = rw (here x, (word x).1, r.first);
        behind = rw (here x) r.behind;
        valid = rw ((word x).1, r.valid) (sym (and_assoc (valid_range x) (all_valid_of xs) (all_valid_of (text_ranges rest))));
      }

  single : {rest : List Record} → From (k + 1) rest → (o : Option MemoryRange) → Single k o rest (optional make o ++ rest)
  single {rest} h None = let p = past k rest h in record { from = p.0; first = p.1; behind = p.2; valid = refl }
  single {rest} h (Some x) = record { from = starts x rest; first = rw (here x, (word x).1); behind = rw (here x); valid = rw (word x).1 }

-- the records of the map before those of the imported ranges and the used range
module _ (is : List MemoryRange) (u : MemoryRange) (rs : List Record) where
  map_first : (ms : List MemoryEntry) → entries_first (map Mem ms ++ (map Import is ++ (Used u ∷ rs))) ≡ ms
  map_first [] = elim is as (λ (l : List MemoryRange). entries_first (map Import l ++ (Used u ∷ rs)) ≡ []) [ [] ↦ refl | i ∷ is' ↦ refl ]
  map_first (m ∷ ms) = rw (map_first ms)

  map-behind : (ms : List MemoryEntry) → behind_words 2 (map Mem ms ++ (map Import is ++ (Used u ∷ rs))) ≡ map Import is ++ (Used u ∷ rs)
  map-behind [] = elim is as (λ (l : List MemoryRange). behind_words 2 (map Import l ++ (Used u ∷ rs)) ≡ map Import l ++ (Used u ∷ rs)) [ [] ↦ refl | i ∷ is' ↦ refl ]
  map-behind (m ∷ ms) = map-behind ms

map-valid : (rs : List Record) (ms : List MemoryEntry)
    → all_valid_of (text_ranges (map Mem ms ++ rs)) ≡ (all_valid_of (map_ranges ms) && all_valid_of (text_ranges rs))
map-valid rs [] = refl
map-valid rs (m ∷ ms) = rw (map-valid rs ms) (sym (and_assoc (valid_range m.range) (all_valid_of (map_ranges ms)) (all_valid_of (text_ranges rs))))

-- requests are read to the last, and hold no range
gets-first : (gs : List get.Get) → gets_first (map Get gs) ≡ gs
gets-first [] = refl
gets-first (g ∷ gs) = rw (gets-first gs)

gets-ranges : (gs : List get.Get) → text_ranges (map Get gs) ≡ []
gets-ranges [] = refl
gets-ranges (g ∷ gs) = gets-ranges gs

-- row 4 of what is read for selection and for the build
abbrev pub valid_read : List Record → Bool
valid_read rs =
    let s = selection_in rs in
    let b = build_in s.rest in
    (valid_range s.file && (all_valid_of (map_ranges s.map) && all_valid_of s.imports))
    && (singles_valid b.builder && (all_valid_of b.configs && all_valid_of b.pools))

-- row 4 of the single ranges apart from that of the lists between them
singles_apart : (u s c k d t l g : Bool)
    → (u && (s && (c && (k && (d && (t && (l && g))))))) ≡ ((u && (s && (k && (d && (t && l))))) && (c && g))
singles_apart u s true k d t l g = simp and_assoc
singles_apart u s false k d t l g = simp and-false

-- what is read of an input's records, and row 4: first for selection, then for the build
module _ (i : Input) where
  abbrev selected : SelectionIn
  selected = record { shape = i.shape; file = i.file; map = i.map; imports = i.imports; rest = used_on i }

  abbrev built : BuildIn
  built = record { builder = i.builder; configs = i.configs; pools = i.gpools; rest = Pool i.pool ∷ map Get i.gets }

  selection_for : (selection_in (records_for i) ≡ selected)
      × (all_valid_of (text_ranges (records_for i))
      ≡ ((valid_range i.file && (all_valid_of (map_ranges i.map) && all_valid_of i.imports)) && all_valid_of (text_ranges (used_on i))))
  unfolding selection_in
  selection_for =
      let imports = run Import 3 (λ x. (refl, refl)) {rest = used_on i} (record { from = refl }) i.imports in
      let used = i.builder.bootshim_used in
      let rest = behind_one (used_on i) in (
        rw (map_first i.imports used rest i.map, map-behind i.imports used rest i.map, imports.first, imports.behind),
        rw (map-valid (map Import i.imports ++ used_on i) i.map, imports.valid) (simp and_assoc),
      )

  build_for : (build_in (used_on i) ≡ built)
      × (all_valid_of (text_ranges (used_on i)) ≡ (singles_valid i.builder && (all_valid_of i.configs && all_valid_of i.gpools)))
  unfolding build_in singles_valid
  build_for =
      let b = i.builder in
      let gpools = run Gpool 11 (λ x. (refl, refl)) {rest = Pool i.pool ∷ map Get i.gets} (record { from = refl }) i.gpools in
      let log = single Log 10 (λ x. (refl, refl)) gpools.from b.log_buffer in
      let tables = single Tables 9 (λ x. (refl, refl)) log.from b.page_tables in
      let side = single Side 8 (λ x. (refl, refl)) tables.from b.sidecar_image in
      let keep = single Keep 7 (λ x. (refl, refl)) side.from b.reserved_range in
      let configs = run Config 6 (λ x. (refl, refl)) keep.from i.configs in (
        rw (
          configs.first,
          configs.behind,
          keep.first,
          keep.behind,
          side.first,
          side.behind,
          tables.first,
          tables.behind,
          log.first,
          log.behind,
          gpools.first,
          gpools.behind,
        ),
        rw (configs.valid, keep.valid, side.valid, tables.valid, log.valid, gpools.valid, gets-ranges i.gets, and-true, singles_apart),
      )

  input_for : input_read (records_for i) ≡ i
  unfolding input_read
  input_for = rw (selection_for.0, build_for.0, gets-first i.gets)

  valid_for : all_valid_of (text_ranges (records_for i)) ≡ valid_read (records_for i)
  valid_for = rw (selection_for.0, build_for.0) (selection_for.1 ∙ rw build_for.1)

-- read one record after the other, an accepted text gives its input
pub input-read : (rs : List Record) → in_order_of rs ≡ true → input_read rs ≡ input_of rs
input-read rs h = ap input_read (records-for rs h) ∙ input_for (input_of rs)

-- and row 4 of all its ranges is row 4 of what is read
pub valid-read : (rs : List Record) → in_order_of rs ≡ true → all_valid_of (text_ranges rs) ≡ valid_read rs
valid-read rs h = subst (λ l. all_valid_of (text_ranges l) ≡ valid_read l) (sym (records-for rs h)) (valid_for (input_of rs))

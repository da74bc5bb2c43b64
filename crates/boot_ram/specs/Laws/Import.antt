-- What the import walk means where it is accepted: the free pieces hold the bytes of the free entries that no
-- imported range holds, each on its node; and the imported ranges lie in the file, in the free entries or, under
-- Tdx, in the page below 4 GiB. Where it is refused, they do not, or the pieces are too many.
use Rattle.std.specs.Prelude.{ℕ, zero, suc, ◌-◌, ◌^◌, ◌≤◌, ◌<◌, ◌≡◌, ◌⊎◌, Bool, true, false, cond, ◌&&◌, ◌||◌, not, List, [], ◌∷◌, eqb, get_or, Option, Some, None}
use Rattle.std.proofs.Math.Path.{refl}
use Rattle.std.proofs.Common.{ap, sym, ◌∙◌, true≢false, arith, eqb-true, eq-eqb}
use Rattle.std.proofs.Math.Logic.{inl, inr, ⊎_elim}
use Rattle.std.proofs.Math.Bool.{or-true, and-eq-true_iff}
use Rattle.memory_range.specs.declared.range.MemoryRange.{MemoryRange}
use Rattle.memory_range.specs.declared.range.TaggedRange.{TaggedRange}
use Rattle.range_lists.specs.declared.walk.RangeWalkResult.{RangeWalkResult}
use Rattle.range_lists.specs.declared.walk.RangeWalkResult.TheVariants.{Left, Right, Both}
use Rattle.range_lists.specs.declared.walk.WalkPiece.{WalkPiece}
use Rattle.memory_range.specs.Bytes.{holders, item_at, Ordered, All}
use Rattle.memory_range.specs.List.{ranges_in}
use Rattle.memory_range.specs.Range.{range, holds, contains_range, overlap_ranges}
use Rattle.memory_range.specs.Valid.{page_size}
use Rattle.range_lists.specs.Walk.{boundaries, held_by, walk}
use Rattle.memory_range.specs.Laws.Bytes.{counted, holders_items, item-holds, all_map, all_both}
use Rattle.range_lists.specs.Laws.Pieces.{result_at}
use Rattle.memory_range.specs.Laws.Range.{held, contains-none, contains_bytes, overlap_byte}
use Rattle.range_lists.specs.Laws.Walk.{left_item, right_item, Says, walk_at, walk_ends}
use Rattle.host_params.specs.declared.IsolationType.{IsolationType}
use Rattle.boot_ram.specs.File.{on_node_of}
use Rattle.boot_ram.specs.Held.{AtPage, PagedRange, holders_on, free_in, Fits, Paged}
use Rattle.boot_ram.specs.Import.{imports_clear, is_tdx, is_excused, MayBeImported, is_skipped, import_verdict, import_verdicts, import_walk}
use Rattle.boot_ram.specs.Verdict.{Verdict, pass, refuse}
use Rattle.refusal.specs.declared.Refusal.{Refusal}
use Rattle.refusal.specs.Number.{import_not_in_map, too_many_pieces}
use Rattle.boot_ram.specs.Laws.Judged.{verdicts-all, NotRefused, RefusesAs, judged-accepted, accepted-none_refused, accepted-fits, judged-told}
use Rattle.boot_ram.specs.Laws.Walks.{ranges_for, is_node, ranges-on}
use Rattle.boot_ram.specs.Laws.Walks.{right_only, kept_with, kept, right_bytes, kept-ordered, kept_paged, paged-boundaries, walk_each}
use Rattle.std.proofs.lemmas.Option.{none-some}

module _ (i : IsolationType) (file : MemoryRange) (imports : List MemoryRange) (m : List TaggedRange) where
  free-kept : (ps : List WalkPiece) → free_in (import_verdicts i file imports m ps) ≡ kept m right_only ps
  free-kept [] = refl
  free-kept (p ∷ ps) = go p.result (free-kept ps)
    where
      not_free : (t : Bool) (vs : List Verdict) → free_in (cond t pass (refuse import_not_in_map) ∷ vs) ≡ free_in vs
      not_free true vs = refl
      not_free false vs = refl

      go : (h : RangeWalkResult) → free_in (import_verdicts i file imports m ps) ≡ kept m right_only ps
          → free_in (import_verdict i file imports m p.range h ∷ import_verdicts i file imports m ps)
          ≡ kept_with m p.range (right_only h) (kept m right_only ps)
      go (Left k) e = not_free (is_skipped i file (get_or imports k (range 0 0)) p.range) (import_verdicts i file imports m ps) ∙ e
      go (Right j) e = ap (on_node_of m j p.range ∷◌) e
      go (Both k j) e = e

  -- a piece of the imported range k that holds the byte a is passed over
  abbrev Skipped : ℕ → ℕ → Type 0
  Skipped a k = (r : MemoryRange) × (holds r a ≡ true) × (is_skipped i file (get_or imports k (range 0 0)) r ≡ true)

  -- where no piece is refused, one that lies in an imported range alone is passed over
  alone_skipped : (ps : List WalkPiece) (a k : ℕ) → All NotRefused (import_verdicts i file imports m ps) → result_at ps a ≡ Some (Left k) → Skipped a k
  alone_skipped [] a k n e = absurd (none-some (Left k) e)
  alone_skipped (p ∷ ps) a k n e = go (holds p.range a) refl p.result n.0 e (alone_skipped ps a k n.1)
    where
      not_refused : (t : Bool) → NotRefused (cond t pass (refuse import_not_in_map)) → t ≡ true
      not_refused true q = refl
      not_refused false q = absurd q

      go : (t : Bool) → holds p.range a ≡ t → (h : RangeWalkResult) → NotRefused (import_verdict i file imports m p.range h)
          → cond t (Some h) (result_at ps a) ≡ Some (Left k) → (result_at ps a ≡ Some (Left k) → Skipped a k) → Skipped a k
      go false s h q f rest = rest f
      go true s (Left j) q f rest = let same : j ≡ k = cc in (p.range, s, not_refused _ (rw same at q))
      go true s (Right j) q f rest = let z : ◌≡◌ {A = ℕ} 0 1 = cc in absurd (omega arith)
      go true s (Both l j) q f rest = let z : ◌≡◌ {A = ℕ} 0 1 = cc in absurd (omega arith)

  -- a byte of an imported range in a piece that is passed over lies in the file or in the excused page
  skipped_byte : (s r : MemoryRange) (a : ℕ) → holds s a ≡ true → holds r a ≡ true → is_skipped i file s r ≡ true
      → MayBeImported i file [] a
  skipped_byte s r a hs hr e = go (contains_range file s) refl e
    where
      go : (t : Bool) → contains_range file s ≡ t → (t || is_excused i r) ≡ true → MayBeImported i file [] a
      go true c f = inl ((contains_bytes file s).0 c a hs)
      go false c f =
          let t = (and-eq-true_iff (is_tdx i) (eqb r.start (2 ^ 32 - page_size) && eqb r.end (2 ^ 32))).0 f in
          let u = (and-eq-true_iff (eqb r.start (2 ^ 32 - page_size)) (eqb r.end (2 ^ 32))).0 t.1 in
          let start = eqb-true r.start (2 ^ 32 - page_size) u.0 in
          let end = eqb-true r.end (2 ^ 32) u.1 in
          let b = (held r a).0 hr in
          inr (inr (t.0, omega arith, omega arith))

-- a range starts and ends at pages
abbrev pub AtPages : MemoryRange → Type 0
AtPages r = AtPage r.start × AtPage r.end

paged-ends : (rs : List MemoryRange) → All AtPages rs → All AtPage (boundaries rs)
paged-ends [] h = tt
paged-ends (r ∷ rs) h = (h.0.0, (h.0.1, paged-ends rs h.1))

-- an imported range that is clear of the file, and not inside it, has no byte of it
clear_at : (file : MemoryRange) (rs : List MemoryRange) → imports_clear file rs ≡ true → (k : ℕ)
    → let s = get_or rs k (range 0 0) in (not (overlap_ranges file s) || contains_range file s) ≡ true
clear_at file [] c k = rw (contains-none file (range 0 0) (omega arith), or-true)
clear_at file (r ∷ rs) c zero = ((and-eq-true_iff (not (overlap_ranges file r) || contains_range file r) (imports_clear file rs)).0 c).0
clear_at file (r ∷ rs) c (suc k) =
    clear_at file rs ((and-eq-true_iff (not (overlap_ranges file r) || contains_range file r) (imports_clear file rs)).0 c).1 k

-- one page is the page of its bytes
page_excused : (i : IsolationType) (r : MemoryRange) → PagedRange r → is_tdx i ≡ true → 2 ^ 32 - page_size ≤ r.start → r.end ≤ 2 ^ 32
    → is_excused i r ≡ true
page_excused i r p t low high = rw (t, eq-eqb r.start (2 ^ 32 - page_size) (omega arith), eq-eqb r.end (2 ^ 32) (omega arith))

module _ (i : IsolationType) (file : MemoryRange) (imports : List MemoryRange) (m : List TaggedRange) (oi : Ordered 0 imports) (om : Ordered 0 (ranges_in m))
    (clear : imports_clear file imports ≡ true) (allowed : (a : ℕ) → 0 < holders imports a → MayBeImported i file (ranges_in m) a) where
  -- a piece of imported ranges of which each byte may be imported is not refused
  piece-kept : (p : WalkPiece) → PagedRange p.range → Says imports (ranges_in m) p → NotRefused (import_verdict i file imports m p.range p.result)
  piece-kept p page says = go p.result says
    where
      r : MemoryRange
      r = p.range

      go : (h : RangeWalkResult)
          → ((a : ℕ) → holds r a ≡ true → (left_item h ≡ item_at imports a) × (right_item h ≡ item_at (ranges_in m) a))
          → NotRefused (import_verdict i file imports m r h)
      go (Right j) q = tt
      go (Both k j) q = tt
      go (Left k) q = rw (by (contains_range file s) refl) tt
        where
          s : MemoryRange
          s = get_or imports k (range 0 0)

          excused : contains_range file s ≡ false → (a : ℕ) → holds r a ≡ true → (is_tdx i ≡ true) × (2 ^ 32 - page_size ≤ a) × (a < 2 ^ 32)
          excused c a h =
              let u = q a h in
              let one = holders_items 0 0 imports a oi ∙ ap counted (sym u.0) in
              let unheld = holders_items 0 0 (ranges_in m) a om ∙ ap counted (sym u.1) in
              let outside : (holds file a ≡ true → ⊥) =
              λ f. let o = (overlap_byte file s).1 (a, f, item-holds imports a k (range 0 0) (sym u.0)) in
              true≢false (sym (rw (o, c) at (clear_at file imports clear k))) in
              ⊎_elim (λ f. absurd (outside f)) (λ x. ⊎_elim (λ f. absurd (omega arith)) (λ f. f) x) (allowed a (omega arith))

          by : (t : Bool) → contains_range file s ≡ t → (t || is_excused i r) ≡ true
          by true c = refl
          by false c =
              let low = excused c r.start ((held r r.start).1 (omega arith, page.0)) in
              let high = excused c (r.end - 1) ((held r (r.end - 1)).1 (omega arith, omega arith)) in
              page_excused i r page low.0 low.1 (omega arith)

-- a walk is refused as not in the map only at a piece in an imported range alone
module _ (i : IsolationType) (file : MemoryRange) (imports : List MemoryRange) (m : List TaggedRange) where
  refuses_as : (r : MemoryRange) (h : RangeWalkResult) → RefusesAs import_not_in_map (import_verdict i file imports m r h)
  refuses_as r (Left k) = go (is_skipped i file (get_or imports k (range 0 0)) r)
    where
      go : (t : Bool) → RefusesAs import_not_in_map (cond t pass (refuse import_not_in_map))
      go true = tt
      go false = refl
  refuses_as r (Right j) = tt
  refuses_as r (Both k j) = tt

  -- why an import walk is refused, where the imported ranges are clear of the file
  pub import-told : Ordered 0 imports → Ordered 0 (ranges_in m) → All AtPages imports → Paged m
      → imports_clear file imports ≡ true → {n : Refusal} → (import_walk i file imports m).refusal ≡ Some n
      → ((n ≡ import_not_in_map) × (((a : ℕ) → 0 < holders imports a → MayBeImported i file (ranges_in m) a) → ⊥))
      ⊎ ((n ≡ too_many_pieces) × (Fits 0 0 (import_verdicts i file imports m (walk imports (ranges_in m))) → ⊥))
  unfolding import_walk
  import-told oi om pi pm clear e =
      let ps = walk imports (ranges_in m) in
      let each = walk_each imports (ranges_in m) oi om in
      let pages = walk_ends AtPage imports (ranges_in m) (paged-ends imports pi) (paged-boundaries m pm) in
      let numbers = all_map (λ p s. refuses_as p.range p.result) ps each in
      ⊎_elim
      (λ t. inl (
        t.0,
        λ allowed. t.1 (verdicts-all NotRefused _ ps
            (all_map (λ p s. piece-kept i file imports m oi om clear allowed p (s.0.0, s.1.0, s.1.1) s.0.1) ps (all_both _ _ ps each pages))),
      ))
      inr
      (judged-told import_not_in_map 0 0 (import_verdicts i file imports m ps) (verdicts-all (RefusesAs import_not_in_map) _ ps numbers) e)

module _ (i : IsolationType) (file : MemoryRange) (imports : List MemoryRange) (m : List TaggedRange)
    (accepted : (import_walk i file imports m).refusal ≡ None) (oi : Ordered 0 imports) (om : Ordered 0 (ranges_in m)) where
  free_is : (import_walk i file imports m).free ≡ kept m right_only (walk imports (ranges_in m))
  unfolding import_walk
  free_is =
      (judged-accepted 0 0 (import_verdicts i file imports m (walk imports (ranges_in m))) accepted).0
      ∙ free-kept i file imports m (walk imports (ranges_in m))

  -- the free pieces hold the bytes that no imported range holds
  free_for : (t : ℕ → Bool) (a : ℕ)
      → holders (ranges_for t (import_walk i file imports m).free) a ≡ cond (eqb (holders imports a) 0) (holders (ranges_for t m) a) 0
  free_for t a = rw free_is (right_bytes imports m oi om t a)

  pub import-free : (n a : ℕ) → holders_on n (import_walk i file imports m).free a ≡ cond (eqb (holders imports a) 0) (holders_on n m a) 0
  import-free n a = rw (ranges-on n (import_walk i file imports m).free, ranges-on n m) (free_for (is_node n) a)

  -- they are no more than can be held
  pub import-fits : Fits 0 0 (import_verdicts i file imports m (walk imports (ranges_in m)))
  unfolding import_walk
  import-fits = accepted-fits 0 0 (import_verdicts i file imports m (walk imports (ranges_in m))) (omega arith) (omega arith) accepted

  -- they are nonempty, ascending and disjoint
  pub import-free-ordered : Ordered 0 (ranges_in (import_walk i file imports m).free)
  import-free-ordered = rw free_is (kept-ordered imports m oi om right_only)

  -- and start and end at pages
  pub import_paged : All AtPages imports → Paged m → Paged (import_walk i file imports m).free
  import_paged pi pm = rw free_is (kept_paged imports m oi om right_only (paged-ends imports pi) pm)

  -- each imported byte lies in the file, in a free piece, or, under Tdx, in the page below 4 GiB
  pub import_in-map : (a : ℕ) → 0 < holders imports a → MayBeImported i file (ranges_in m) a
  unfolding import_walk
  import_in-map a h =
      go (item_at imports a) refl (holders_items 0 0 imports a oi) (item_at (ranges_in m) a) (holders_items 0 0 (ranges_in m) a om)
      (walk_at imports (ranges_in m) oi om a)
    where
      go : (u : Option ℕ) → item_at imports a ≡ u → holders imports a ≡ counted u → (v : Option ℕ) → holders (ranges_in m) a ≡ counted v
          → result_at (walk imports (ranges_in m)) a ≡ held_by u v → MayBeImported i file (ranges_in m) a
      go None p c v d e = absurd (omega arith)
      go (Some k) p c (Some j) d e = inr (inl (omega arith))
      go (Some k) p c None d e =
          let none_refused = accepted-none_refused 0 0 (import_verdicts i file imports m (walk imports (ranges_in m))) accepted in
          let s = alone_skipped i file imports m (walk imports (ranges_in m)) a k none_refused e in
          ⊎_elim inl (λ q. inr (⊎_elim (λ z. absurd (omega arith)) inr q))
          (skipped_byte i file imports m (get_or imports k (range 0 0)) s.0 a (item-holds imports a k (range 0 0) p) s.1 s.2)

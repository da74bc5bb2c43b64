-- What the file walk means where it is accepted: the chosen pieces hold the file's bytes, the free ones hold
-- the other bytes of the map, each on its node; and the file lies in the map. Where it is refused, the file does not,
-- or the pieces are too many.
use Rattle.std.specs.Prelude.{ℕ, ◌<◌, ◌≡◌, refl, ◌⊎◌, Bool, true, false, cond, List, [], ◌∷◌, eqb, Option, Some, None}
use Rattle.std.proofs.Common.{ap, sym, ◌∙◌}
use Rattle.std.proofs.Math.Logic.{inl, inr, ⊎_elim}
use native.Mathlib.Omega.{arith}
use Rattle.memory_range.specs.List.{ranges_in}
use Rattle.memory_range.specs.declared.range.MemoryRange.{MemoryRange}
use Rattle.memory_range.specs.declared.range.TaggedRange.{TaggedRange}
use Rattle.range_lists.specs.declared.walk.RangeWalkResult.{RangeWalkResult}
use Rattle.range_lists.specs.declared.walk.RangeWalkResult.TheVariants.{Left, Right, Both}
use Rattle.range_lists.specs.declared.walk.WalkPiece.{WalkPiece}
use Rattle.memory_range.specs.Bytes.{holders, item_at, Ordered, All}
use Rattle.memory_range.specs.Range.{holds}
use Rattle.range_lists.specs.Walk.{held_by, walk}
use Rattle.memory_range.specs.Laws.Bytes.{counted, holders_items, all_map}
use Rattle.memory_range.specs.Laws.Range.{held}
use Rattle.range_lists.specs.Laws.Pieces.{result_at}
use Rattle.range_lists.specs.Laws.Walk.{left_item, right_item, Says, walk_at}
use Rattle.boot_ram.specs.File.{on_node_of, file_verdict, file_verdicts, file_walk}
use Rattle.boot_ram.specs.Held.{AtPage, holders_on, free_in, chosen_in, Fits, Paged}
use Rattle.boot_ram.specs.Laws.Judged.{verdicts-all, NotRefused, RefusesAs, judged-accepted, accepted-none_refused, accepted-fits, judged-told}
use Rattle.boot_ram.specs.Laws.Walks.{ranges_for, is_node, ranges-on}
use Rattle.boot_ram.specs.Laws.Walks.{both_item, right_only, kept_with, kept, both_bytes, right_bytes, kept-ordered, kept_paged, walk_each}
use Rattle.refusal.specs.declared.Refusal.{Refusal}
use Rattle.refusal.specs.Number.{file_not_in_map, too_many_pieces}

free-kept : (m : List TaggedRange) (ps : List WalkPiece) → free_in (file_verdicts m ps) ≡ kept m right_only ps
free-kept m [] = refl
free-kept m (p ∷ ps) = go p.result (free-kept m ps)
  where
    go : (h : RangeWalkResult) → free_in (file_verdicts m ps) ≡ kept m right_only ps
        → free_in (file_verdict m p.range h ∷ file_verdicts m ps) ≡ kept_with m p.range (right_only h) (kept m right_only ps)
    go (Left i) e = e
    go (Right j) e = ap (on_node_of m j p.range ∷◌) e
    go (Both i j) e = e

chosen-kept : (m : List TaggedRange) (ps : List WalkPiece) → chosen_in (file_verdicts m ps) ≡ kept m both_item ps
chosen-kept m [] = refl
chosen-kept m (p ∷ ps) = go p.result (chosen-kept m ps)
  where
    go : (h : RangeWalkResult) → chosen_in (file_verdicts m ps) ≡ kept m both_item ps
        → chosen_in (file_verdict m p.range h ∷ file_verdicts m ps) ≡ kept_with m p.range (both_item h) (kept m both_item ps)
    go (Left i) e = e
    go (Right j) e = e
    go (Both i j) e = ap (on_node_of m j p.range ∷◌) e

-- where no piece is refused, none lies in the file alone
none_alone : (m : List TaggedRange) (ps : List WalkPiece) (a i : ℕ) → All NotRefused (file_verdicts m ps) → result_at ps a ≡ Some (Left i) → ⊥
none_alone m [] a i n e = let z : ◌≡◌ {A = ℕ} 0 1 = cc in omega arith
none_alone m (p ∷ ps) a i n e = go p.result n.0 (holds p.range a) e (none_alone m ps a i n.1)
  where
    go : (h : RangeWalkResult) → NotRefused (file_verdict m p.range h) → (t : Bool) → cond t (Some h) (result_at ps a) ≡ Some (Left i)
        → (result_at ps a ≡ Some (Left i) → ⊥) → ⊥
    go (Left k) q t f rest = q
    go (Right k) q true f rest = let z : ◌≡◌ {A = ℕ} 0 1 = cc in omega arith
    go (Right k) q false f rest = rest f
    go (Both k j) q true f rest = let z : ◌≡◌ {A = ℕ} 0 1 = cc in omega arith
    go (Both k j) q false f rest = rest f

-- a list of one range holds a byte or does not
one_holds : (r : MemoryRange) (a x y : ℕ) → cond (eqb (holders (r ∷ []) a) 0) x y ≡ cond (holds r a) y x
one_holds r a x y = go (holds r a) refl
  where
    go : (t : Bool) → holds r a ≡ t → cond (eqb (holders (r ∷ []) a) 0) x y ≡ cond t y x
    go true e = rw e
    go false e = rw e

-- a walk is refused as not in the map only at a piece in the file alone
refuses_as : (m : List TaggedRange) (r : MemoryRange) (h : RangeWalkResult) → RefusesAs file_not_in_map (file_verdict m r h)
refuses_as m r (Left i) = refl
refuses_as m r (Right j) = tt
refuses_as m r (Both i j) = tt

-- a list of one range holds a byte where the range does
held_by-one : (r : MemoryRange) (a : ℕ) → holders (r ∷ []) a ≡ 1 → holds r a ≡ true
held_by-one r a e = go (holds r a) refl
  where
    go : (t : Bool) → holds r a ≡ t → t ≡ true
    go true h = refl
    go false h = absurd (omega (arith, rw h at e))

abbrev file_pieces_in : MemoryRange → List TaggedRange → List WalkPiece
file_pieces_in file m = walk (file ∷ []) (ranges_in m)

module _ (file : MemoryRange) (m : List TaggedRange) (full : file.start < file.end) (om : Ordered 0 (ranges_in m)) where
  -- a piece of a file that lies in the map is not refused
  piece-kept : ((a : ℕ) → holds file a ≡ true → 0 < holders (ranges_in m) a)
      → (p : WalkPiece) → (p.range.start < p.range.end) × Says (file ∷ []) (ranges_in m) p → NotRefused (file_verdict m p.range p.result)
  piece-kept inside p s = go p.result (s.1 a ((held p.range a).1 (omega arith, s.0)))
    where
      a : ℕ
      a = p.range.start

      go : (h : RangeWalkResult) → (left_item h ≡ item_at (file ∷ []) a) × (right_item h ≡ item_at (ranges_in m) a) → NotRefused (file_verdict m p.range h)
      go (Right j) q = tt
      go (Both i j) q = tt
      go (Left i) q =
          let one = holders_items 0 0 (file ∷ []) a (omega arith, (full, tt)) ∙ ap counted (sym q.0) in
          let outside = holders_items 0 0 (ranges_in m) a om ∙ ap counted (sym q.1) in
          absurd (omega (arith, outside, inside a (held_by-one file a one)))

  -- why a file walk is refused
  pub file-told : {n : Refusal} → (file_walk file m).refusal ≡ Some n
      → ((n ≡ file_not_in_map) × (((a : ℕ) → holds file a ≡ true → 0 < holders (ranges_in m) a) → ⊥))
      ⊎ ((n ≡ too_many_pieces) × (Fits 0 0 (file_verdicts m (file_pieces_in file m)) → ⊥))
  unfolding file_walk
  file-told e =
      let ps = file_pieces_in file m in
      let each = walk_each (file ∷ []) (ranges_in m) (omega arith, (full, tt)) om in
      let numbers = all_map (λ p s. refuses_as m p.range p.result) ps each in
      ⊎_elim
      (λ t. inl (t.0, λ inside. t.1 (verdicts-all NotRefused _ ps (all_map (piece-kept inside) ps each))))
      inr
      (judged-told file_not_in_map 0 0 (file_verdicts m ps) (verdicts-all (RefusesAs file_not_in_map) _ ps numbers) e)

module _ (file : MemoryRange) (m : List TaggedRange) (accepted : (file_walk file m).refusal ≡ None) (full : file.start < file.end)
    (om : Ordered 0 (ranges_in m)) where
  one : Ordered 0 (file ∷ [])
  one = (omega arith, (full, tt))

  chosen_is : (file_walk file m).chosen ≡ kept m both_item (file_pieces_in file m)
  unfolding file_walk
  chosen_is = (judged-accepted 0 0 (file_verdicts m (file_pieces_in file m)) accepted).1 ∙ chosen-kept m (file_pieces_in file m)

  free_is : (file_walk file m).free ≡ kept m right_only (file_pieces_in file m)
  unfolding file_walk
  free_is = (judged-accepted 0 0 (file_verdicts m (file_pieces_in file m)) accepted).0 ∙ free-kept m (file_pieces_in file m)

  -- the chosen pieces hold the bytes of the map that are the file's
  chosen_for : (t : ℕ → Bool) (a : ℕ) → holders (ranges_for t (file_walk file m).chosen) a ≡ cond (holds file a) (holders (ranges_for t m) a) 0
  chosen_for t a = rw chosen_is (both_bytes (file ∷ []) m one om t a ∙ one_holds file a 0 (holders (ranges_for t m) a))

  pub file-chosen : (n a : ℕ) → holders_on n (file_walk file m).chosen a ≡ cond (holds file a) (holders_on n m a) 0
  file-chosen n a = rw (ranges-on n (file_walk file m).chosen, ranges-on n m) (chosen_for (is_node n) a)

  -- the free pieces hold those that are not
  free_for : (t : ℕ → Bool) (a : ℕ) → holders (ranges_for t (file_walk file m).free) a ≡ cond (holds file a) 0 (holders (ranges_for t m) a)
  free_for t a = rw free_is (right_bytes (file ∷ []) m one om t a ∙ one_holds file a (holders (ranges_for t m) a) 0)

  pub file-free : (n a : ℕ) → holders_on n (file_walk file m).free a ≡ cond (holds file a) 0 (holders_on n m a)
  file-free n a = rw (ranges-on n (file_walk file m).free, ranges-on n m) (free_for (is_node n) a)

  -- each byte of the file lies in one entry of the map
  pub file_in-map : (a : ℕ) → holds file a ≡ true → holders (ranges_in m) a ≡ 1
  unfolding file_walk
  file_in-map a h = go (item_at (ranges_in m) a) (holders_items 0 0 (ranges_in m) a om) (rw h at (walk_at (file ∷ []) (ranges_in m) one om a))
    where
      go : (v : Option ℕ) → holders (ranges_in m) a ≡ counted v → result_at (file_pieces_in file m) a ≡ held_by (Some 0) v
          → holders (ranges_in m) a ≡ 1
      go None c e = absurd (none_alone m (file_pieces_in file m) a 0 (accepted-none_refused 0 0 (file_verdicts m (file_pieces_in file m)) accepted) e)
      go (Some j) c e = c

  -- the pieces are no more than can be held
  pub file-fits : Fits 0 0 (file_verdicts m (file_pieces_in file m))
  unfolding file_walk
  file-fits = accepted-fits 0 0 (file_verdicts m (file_pieces_in file m)) (omega arith) (omega arith) accepted

  -- the pieces are nonempty, ascending and disjoint
  pub file-chosen-ordered : Ordered 0 (ranges_in (file_walk file m).chosen)
  file-chosen-ordered = rw chosen_is (kept-ordered (file ∷ []) m one om both_item)

  pub file-free-ordered : Ordered 0 (ranges_in (file_walk file m).free)
  file-free-ordered = rw free_is (kept-ordered (file ∷ []) m one om right_only)

  -- and start and end at pages
  pub file_paged : Paged m → AtPage file.start → AtPage file.end → Paged (file_walk file m).chosen × Paged (file_walk file m).free
  file_paged pm s e = (
    rw chosen_is (kept_paged (file ∷ []) m one om both_item (s, (e, tt)) pm),
    rw free_is (kept_paged (file ∷ []) m one om right_only (s, (e, tt)) pm),
  )

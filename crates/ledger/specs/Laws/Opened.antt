-- The free entries of the table that a build gives are the RAM list from which the used range and the pool ranges are cut.
use Rattle.std.specs.Prelude.{ℕ, zero, suc, ◌+◌, ◌-◌, ◌≤◌, ◌<◌, ◌≡◌, refl, Bool, true, false, cond, List, [], ◌∷◌, ◌⊎◌, ltb, eqb, Option, Some, None}
use Rattle.std.proofs.Common.{ap, sym, ◌∙◌, inl, inr, ⊎_elim, lt-ltb}
use Rattle.std.proofs.Math.Decide.{dec_lt}
use Rattle.std.proofs.lemmas.Option.{none-some}
use native.Mathlib.Omega.{arith}
use Rattle.memory_range.specs.declared.range.MemoryRange.{MemoryRange}
use Rattle.memory_range.specs.declared.range.TaggedRange.{TaggedRange}
use Rattle.memory_range.specs.Bytes.{holders, Ordered, All}
use Rattle.memory_range.specs.List.{ranges_in}
use Rattle.memory_range.specs.Laws.Bytes.{ordered_below, ordered-once, counted, all_map, all_both}
use Rattle.memory_range.specs.Laws.Range.{held, contained}
use Rattle.memory_range.specs.Laws.Valid.{valid-parts}
use Rattle.range_lists.specs.Walk.{boundaries, walk}
use Rattle.range_lists.specs.Laws.Walk.{walk_ends}
use Rattle.address_space.specs.declared.table.AddressRange.{AddressRange}
use Rattle.address_space.specs.declared.usage.AddressUsage.{AddressUsage}
use Rattle.address_space.specs.Table.{ranges_at}
use Rattle.address_space.specs.Usage.{is_free, usage_of}
use Rattle.memory.specs.declared.builder.AddressSpaceManagerBuilder.{AddressSpaceManagerBuilder}
use Rattle.memory.specs.Build.{built, table_of, build}
use Rattle.memory.specs.Used.{used_of}
use Rattle.memory.specs.Laws.Overlap.{HasByte, valid_have, singles_each, used-ordered}
use Rattle.memory.specs.Laws.Rows.{rows-passed}
use Rattle.memory_claims.specs.Claim.{tag_at, InRam}
use Rattle.memory_claims.specs.Laws.Build.{build-passed, build-ordered}
use Rattle.memory_claims.specs.Laws.Notes.{not_above}
use Rattle.memory_claims.specs.Laws.Ram.{table_in-ram}
use Rattle.memory_claims.specs.Laws.Said.{tag-holders}
use Rattle.memory_claims.specs.Laws.Walked.{entries-all, note_of, table-ordered, table_says}
use Rattle.ledger.specs.Ledger.{cut_each}
use Rattle.ledger.specs.Claim.{free_of}
use Rattle.ledger.specs.Laws.Cut.{each_tag, each-ordered, each_joints, each_whole}
use Rattle.ledger.specs.Laws.Free.{free_all, free-ordered, free_node, free_tag}
use Rattle.ledger.specs.Laws.Same.{Said, all_said, Joints, NoneInside, Whole, touching, same-list}

-- the seams: where a range of the RAM starts
abbrev Starts : List TaggedRange → ℕ → Type 0
Starts [] a = ⊥
Starts (x ∷ xs) a = (a ≡ x.range.start) ⊎ Starts xs a

starts_from : (b : ℕ) (xs : List TaggedRange) (a : ℕ) → Ordered b (ranges_in xs) → Starts xs a → b ≤ a
starts_from b [] a o s = absurd s
starts_from b (x ∷ xs) a o (inl e) = omega arith
starts_from b (x ∷ xs) a o (inr s) = omega (arith, starts_from x.range.end xs a o.1.1 s)

each_starts : (xs : List TaggedRange) → All (λ x. Starts xs x.range.start) xs
each_starts [] = tt
each_starts (x ∷ xs) = (inl refl, all_map (λ z s. inr s) xs (each_starts xs))

-- none lies inside a range of the RAM
none_inside : (Seam : ℕ → Type 0) (b : ℕ) (xs : List TaggedRange) → Ordered b (ranges_in xs) → ((a : ℕ) → Seam a → (a ≤ b) ⊎ Starts xs a) → Whole Seam xs
none_inside Seam b [] o f = tt
none_inside Seam b (x ∷ xs) o f = (
  λ a l h s. go a l h (f a s),
  none_inside Seam x.range.end xs o.1.1 (λ a s. ahead a (f a s)),
)
  where
    go : (a : ℕ) → x.range.start < a → a < x.range.end → (a ≤ b) ⊎ Starts (x ∷ xs) a → ⊥
    go a l h (inl k) = omega arith
    go a l h (inr (inl k)) = omega arith
    go a l h (inr (inr s)) = omega (arith, starts_from x.range.end xs a o.1.1 s)

    ahead : (a : ℕ) → (a ≤ b) ⊎ Starts (x ∷ xs) a → (a ≤ x.range.end) ⊎ Starts xs a
    ahead a (inl k) = inl (omega arith)
    ahead a (inr (inl k)) = inl (omega arith)
    ahead a (inr (inr s)) = inr s

-- so none inside an entry that lies in one of them
in_one : (Seam : ℕ → Type 0) (xs : List TaggedRange) (e : AddressRange) → Whole Seam xs → InRam xs e
    → (a : ℕ) → e.range.start < a → a < e.range.end → Seam a → ⊥
in_one Seam [] e w h a l k s = h
in_one Seam (x ∷ xs) e w (inl h) a l k s =
    ⊎_elim (λ q. omega arith) (λ q. w.0 a (omega arith) (omega arith) s) (contained x.range e.range h.1)
in_one Seam (x ∷ xs) e w (inr h) a l k s = in_one Seam xs e w.1 h a l k s

-- what is used is not free
either-used : (t : Bool) (u v : AddressUsage) → is_free u ≡ false → is_free v ≡ false → is_free (cond t u v) ≡ false
either-used true u v p q = p
either-used false u v p q = q

usage-not-free : (n : ℕ) → is_free (usage_of n) ≡ false
unfolding usage_of
usage-not-free n =
    either-used (eqb n 1) _ _ refl
    (either-used (eqb n 2) _ _ refl
    (either-used (eqb n 3) _ _ refl
    (either-used (eqb n 4) _ _ refl
    (either-used (eqb n 5) _ _ refl
    (either-used (eqb n 6) _ _ refl
    (either-used (eqb n 7) _ _ refl
    (either-used (eqb n 8) _ _ refl
    (either-used (eqb n 9) _ _ refl refl))))))))

free_noted : (u v : Option ℕ) → free_node (note_of u v) ≡ cond (ltb 0 (counted v)) None u
free_noted None None = refl
free_noted None (Some t) = refl
free_noted (Some n) None = refl
free_noted (Some n) (Some t) = rw (usage-not-free t)

-- a boundary of the RAM at a byte of the RAM is a start: a range that ends there is followed by one that starts there
first_starts : (c : ℕ) (xs : List TaggedRange) → Ordered c (ranges_in xs) → 0 < holders (ranges_in xs) c → Starts xs c
first_starts c [] o h = absurd (omega arith)
first_starts c (x ∷ xs) o h = go (dec_lt c x.range.start)
  where
    go : Dec (c < x.range.start) → Starts (x ∷ xs) c
    go (yes l) = absurd (omega (arith, ordered_below x.range.start (ranges_in (x ∷ xs)) c (omega arith, o.1) l))
    go (no l) = inl (omega arith)

ram_edges : (b : ℕ) (xs : List TaggedRange) → Ordered b (ranges_in xs)
    → All (λ a. (b ≤ a) × (0 < holders (ranges_in xs) a → Starts xs a)) (boundaries (ranges_in xs))
ram_edges b [] o = tt
ram_edges b (x ∷ xs) o = (
  (o.0, λ h. inl refl),
  (
    (omega arith, λ h. inr (first_starts x.range.end xs o.1.1 (passed x.range.end (omega arith) h))),
    all_map (λ a q. (omega arith, λ h. inr (q.1 (passed a q.0 h)))) (boundaries (ranges_in xs)) (ram_edges x.range.end xs o.1.1),
  ),
)
  where
    passed : (a : ℕ) → x.range.end ≤ a → 0 < holders (ranges_in (x ∷ xs)) a → 0 < holders (ranges_in xs) a
    passed a h l = let m = rw (not_above x.range a h) at l in omega arith

-- what holds of each byte of ranges in order, and of the address behind each, holds of their boundaries
held_edges : (P : ℕ → Type 0) (b : ℕ) (rs : List MemoryRange) → Ordered b rs → ((a : ℕ) → 0 < holders rs a → P a × P (a + 1)) → All P (boundaries rs)
held_edges P b [] o f = tt
held_edges P b (r ∷ rs) o f =
    let s = r.start in
    let l = r.end - 1 in
    let ends : l + 1 ≡ r.end = omega arith in
    let low = (f s (rw ((held r s).1 (omega arith, o.1.0)) (omega arith))).0 in
    let high = (f l (rw ((held r l).1 (omega arith, omega arith)) (omega arith))).1 in
    (low, (rw ends at high, held_edges P r.end rs o.1.1 (λ a h. f a (omega arith))))

all-at : (P : MemoryRange → Type 0) (es : List AddressRange) → All P (ranges_at es) → All (λ e. P e.range) es
all-at P [] h = tt
all-at P (e ∷ es) h = (h.0, all-at P es h.1)

kept : (k : ℕ) (u : Option ℕ) (n : ℕ) → cond (ltb 0 k) None u ≡ Some n → (u ≡ Some n) × (k ≡ 0)
kept zero u n e = (e, refl)
kept (suc k) u n e = absurd (none-some n (rw (lt-ltb 0 (suc k) (omega arith)) at e))

-- the table of a RAM list and of what is used of it, both in order
module _ (ram used : List TaggedRange) (or : Ordered 0 (ranges_in ram)) (ou : Ordered 0 (ranges_in used)) where
  abbrev free : List TaggedRange
  free = free_of (table_of ram used)

  in_order : Ordered 0 (ranges_in free)
  in_order = free-ordered 0 (table_of ram used) (table-ordered ram used or ou)

  -- of a byte its node is said exactly where it is not used
  table-free : (a : ℕ) → tag_at free a ≡ cond (ltb 0 (holders (ranges_in used) a)) None (tag_at ram a)
  table-free a =
      free_tag 0 (table_of ram used) a (table-ordered ram used or ou) ∙ ap free_node (table_says ram used or ou a)
      ∙ free_noted (tag_at ram a) (tag_at used a)
      ∙ ap (λ (k : ℕ). cond (ltb 0 k) None (tag_at ram a)) (sym (tag-holders used a (ordered-once 0 (ranges_in used) ou a)))

  -- a byte of the RAM that is not used
  abbrev Open : ℕ → Type 0
  Open a = (0 < holders (ranges_in ram) a) × (holders (ranges_in used) a ≡ 0)

  said_open : (a n : ℕ) → tag_at free a ≡ Some n → Open a
  said_open a n e =
      let k = kept (holders (ranges_in used) a) (tag_at ram a) n (sym (table-free a) ∙ e) in
      (rw (tag-holders ram a (ordered-once 0 (ranges_in ram) or a), k.0) (omega arith), k.1)

  -- where an entry starts between two of them, a range of the RAM does: it is no boundary of what is used
  abbrev Seamed : ℕ → Type 0
  Seamed a = (c : ℕ) → c + 1 ≡ a → Open c → Open a → Starts ram a

  table_seamed : All (λ r. Seamed r.start) (ranges_at (table_of ram used))
  unfolding table_of
  table_seamed =
      let pieces = walk (ranges_in ram) (ranges_in used) in
      let ram-seamed : All Seamed (boundaries (ranges_in ram)) =
      all_map (λ a q c e x y. q.1 y.0) (boundaries (ranges_in ram)) (ram_edges 0 ram or) in
      let used-seamed : All Seamed (boundaries (ranges_in used)) =
      held_edges Seamed 0 (ranges_in used) ou
      (λ a h. (
        λ c e x y. absurd (omega arith),
        λ c e x y. let same : c ≡ a = omega arith in let none-held = rw same at x.1 in absurd (omega arith),
      )) in
      entries-all ram used (λ r. Seamed r.start) pieces
      (all_map (λ p q. q.0) pieces (walk_ends Seamed (ranges_in ram) (ranges_in used) ram-seamed used-seamed))

  free_joints : Joints (Starts ram) free
  free_joints =
      touching (Starts ram) (λ x. Seamed x.range.start × Said free x)
      (λ x y p q e.
      let c = x.range.end - 1 in
      let low = said_open c x.tag (p.1.1 c (omega arith) (omega arith)) in
      let high = said_open y.range.start y.tag (q.1.1 y.range.start (omega arith) q.1.0) in
      rw e (q.0 c (omega arith) low high))
      free
      (all_both (λ x. Seamed x.range.start) (Said free) free
      (free_all (λ x. Seamed x.range.start) (table_of ram used) (all-at (λ r. Seamed r.start) (table_of ram used) table_seamed))
      (all_said 0 free in_order))

  ram_whole : Whole (Starts ram) ram
  ram_whole = none_inside (Starts ram) 0 ram or (λ a s. inr s)

  free_whole : Whole (Starts ram) free
  free_whole =
      free_all (NoneInside (Starts ram)) (table_of ram used)
      (all_map (λ e h. in_one (Starts ram) ram e ram_whole h) (table_of ram used) (table_in-ram ram used or ou))

  ram_joints : Joints (Starts ram) ram
  ram_joints = touching (Starts ram) (λ x. Starts ram x.range.start) (λ x y p q e. rw e q) ram (each_starts ram)

  -- ranges that hold the bytes that are used
  free-cut : (rs : List MemoryRange) → All HasByte rs → ((a : ℕ) → holders (ranges_in used) a ≡ holders rs a) → free ≡ cut_each rs ram
  free-cut rs have same =
      same-list (Starts ram) 0 free (cut_each rs ram) in_order (each-ordered 0 rs ram have or)
      free_joints (each_joints (Starts ram) 0 rs ram have or ram_joints)
      free_whole (each_whole (Starts ram) rs ram have ram_whole)
      (λ a. table-free a ∙ rw (same a) (sym (each_tag rs ram a)))

pub opened-free : (b : AddressSpaceManagerBuilder) (entries : ℕ) (ram : List TaggedRange) (configs pools : List MemoryRange) (es : List AddressRange)
    → build b entries ram configs pools ≡ built es → free_of es ≡ cut_each (b.bootshim_used ∷ pools) ram
opened-free b entries ram configs pools es e =
    let passed = build-passed b entries ram configs pools es e in
    let ok = rows-passed b entries (ranges_in ram) configs pools passed.0 in
    let order = used-ordered b configs pools ok.0 ok.2 ok.3 passed.1 in
    let first = (valid-parts b.bootshim_used (singles_each b ok.0).0).0 in
    rw (← passed.2)
    (free-cut ram (used_of b configs pools) (build-ordered b entries ram configs pools es e) order.0 (b.bootshim_used ∷ pools)
    (first, valid_have pools ok.3) order.1)

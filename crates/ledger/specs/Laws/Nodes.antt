-- The nodes of a table are those of its RAM, and of a table that is built at most 64.
use Rattle.std.specs.Prelude.{ℕ, ◌+◌, ◌≤◌, ◌≡◌, refl, Bool, true, false, cond, ◌||◌, List, [], ◌∷◌, ltb, eqb, length}
use Rattle.std.proofs.Common.{ap, sym, ◌∙◌, true≢false, arith, eqb-true, lt-ltb, eq-eqb, ne_eqb}
use Rattle.std.proofs.Math.Decide.{dec_lt}
use Rattle.std.proofs.lemmas.Bool.{eqb-false}
use Rattle.memory_range.specs.declared.range.MemoryRange.{MemoryRange}
use Rattle.memory_range.specs.declared.range.TaggedRange.{TaggedRange}
use Rattle.memory_range.specs.Bytes.{Ordered}
use Rattle.memory_range.specs.List.{ranges_in, tags_of}
use Rattle.memory_range.specs.Laws.List.{length_tags}
use Rattle.range_lists.specs.Laws.Node.{AscendsFrom, has, not-before}
use Rattle.range_lists.specs.Laws.Entries.{length-ranges_in}
use Rattle.boot_nodes.specs.Node.{distinct}
use Rattle.boot_nodes.specs.Laws.Node.{distinct-ascends, distinct_members, collect-length}
use Rattle.boot_ram.specs.Held.{on_node, bytes_of}
use Rattle.address_space.specs.declared.table.AddressRange.{AddressRange}
use Rattle.address_space.specs.Table.{ranges_at}
use Rattle.memory.specs.declared.builder.AddressSpaceManagerBuilder.{AddressSpaceManagerBuilder}
use Rattle.memory.specs.Build.{built, build}
use Rattle.memory.specs.Rows.{max_ram}
use Rattle.memory.specs.Laws.Rows.{rows-passed}
use Rattle.memory_claims.specs.Claim.{noded_ranges, Sound}
use Rattle.memory_claims.specs.Laws.Build.{build-passed, build-ordered, build_claimed}
use Rattle.private_pool.specs.Piece.{vnodes_of, table_nodes}

-- no number of an ascending list is below what it ascends from, and the first is in it
at_least : (a n : ℕ) (ns : List ℕ) → AscendsFrom a ns → has n ns ≡ true → a ≤ n
at_least a n ns up h =
    elim (dec_lt n a) [
      | yes g ↦ absurd (true≢false (sym h ∙ not-before a n ns up g))
      | no g ↦ omega arith
    ]

has_first : (x : ℕ) (xs : List ℕ) → has x (x ∷ xs) ≡ true
has_first x xs = rw (eq-eqb x x refl)

-- two ascending lists with the same numbers start with the same one, as each one's first is in the other
heads-same : (x y : ℕ) (xs ys : List ℕ) → AscendsFrom (x + 1) xs → AscendsFrom (y + 1) ys
    → ((m : ℕ) → has m (x ∷ xs) ≡ has m (y ∷ ys)) → x ≡ y
heads-same x y xs ys up vp same =
    omega (
      arith,
      at_least y x (y ∷ ys) (omega arith, vp) (sym (same x) ∙ has_first x xs),
      at_least x y (x ∷ xs) (omega arith, up) (same y ∙ has_first y ys),
    )

-- and go on with the same ones
tails-same : (x y : ℕ) (xs ys : List ℕ) → x ≡ y → AscendsFrom (x + 1) xs → AscendsFrom (y + 1) ys
    → ((m : ℕ) → has m (x ∷ xs) ≡ has m (y ∷ ys)) → (m : ℕ) → has m xs ≡ has m ys
tails-same x y xs ys e up vp same m =
    elim (dec_lt m (x + 1)) [
      | yes g ↦ not-before (x + 1) m xs up g ∙ sym (not-before (y + 1) m ys vp (omega arith))
      | no g ↦ rw (ne_eqb m x (omega arith), ne_eqb m y (omega arith)) at (same m)
    ]

-- so they are equal
ascending-same : (a : ℕ) (xs ys : List ℕ) → AscendsFrom a xs → AscendsFrom a ys → ((m : ℕ) → has m xs ≡ has m ys) → xs ≡ ys
ascending-same a [] [] up vp same = refl
ascending-same a [] (y ∷ ys) up vp same = absurd (true≢false (sym (has_first y ys) ∙ sym (same y)))
ascending-same a (x ∷ xs) [] up vp same = absurd (true≢false (sym (has_first x xs) ∙ same x))
ascending-same a (x ∷ xs) (y ∷ ys) up vp same =
    let e = heads-same x y xs ys up.1 vp.1 same in
    let es = ascending-same (x + 1) xs ys up.1 (rw (← e) at vp.1) (tails-same x y xs ys e up.1 vp.1 same) in
    cc

-- ranges in order have a byte of a node exactly where one of them is of that node
bytes_on : (a n : ℕ) (xs : List TaggedRange) → Ordered a (ranges_in xs) → ltb 0 (bytes_of (on_node n xs)) ≡ has n (tags_of xs)
bytes_on a n [] o = refl
bytes_on a n (x ∷ xs) o = go (eqb x.tag n) refl (bytes_on x.range.end n xs o.1.1)
  where
    go : (b : Bool) → eqb x.tag n ≡ b → ltb 0 (bytes_of (on_node n xs)) ≡ has n (tags_of xs)
        → ltb 0 (bytes_of (cond b (x ∷ on_node n xs) (on_node n xs))) ≡ (eqb n x.tag || has n (tags_of xs))
    go true t h = rw (eq-eqb n x.tag (sym (eqb-true x.tag n t))) (lt-ltb 0 (bytes_of (x ∷ on_node n xs)) (omega arith))
    go false t h = rw (ne_eqb n x.tag (λ q. eqb-false x.tag n t (sym q))) h

-- the table's entries as tagged ranges
noded_tags : (es : List AddressRange) → tags_of (noded_ranges es) ≡ vnodes_of es
noded_tags [] = refl
noded_tags (e ∷ es) = ap (e.vnode ∷◌) (noded_tags es)

noded-ranges : (es : List AddressRange) → ranges_in (noded_ranges es) ≡ ranges_at es
noded-ranges [] = refl
noded-ranges (e ∷ es) = ap (e.range ∷◌) (noded-ranges es)

-- a sound table has the nodes of its RAM
vnodes-same : (ram : List TaggedRange) (es : List AddressRange) → Ordered 0 (ranges_in ram) → Sound ram es
    → (n : ℕ) → has n (vnodes_of es) ≡ has n (tags_of ram)
vnodes-same ram es o s n =
    rw (← noded_tags es, ← bytes_on 0 n (noded_ranges es) (rw noded-ranges s.ordered), s.totals n) (bytes_on 0 n ram o)

pub nodes-same : (ram : List TaggedRange) (es : List AddressRange) → Ordered 0 (ranges_in ram) → Sound ram es
    → table_nodes es ≡ distinct (tags_of ram)
nodes-same ram es o s =
    ascending-same 0 (table_nodes es) (distinct (tags_of ram)) (distinct-ascends (vnodes_of es)) (distinct-ascends (tags_of ram))
    (λ m. distinct_members m (vnodes_of es) ∙ vnodes-same ram es o s m ∙ sym (distinct_members m (tags_of ram)))

-- there are no more of them than RAM entries
pub nodes_few : (ram : List TaggedRange) → length (distinct (tags_of ram)) ≤ length ram
nodes_few ram = omega (arith, collect-length [] (tags_of ram), length_tags ram)

-- so a table that is built has at most 64 nodes, as its RAM has at most 64 entries
pub built-nodes : (b : AddressSpaceManagerBuilder) (entries : ℕ) (ram : List TaggedRange) (configs pools : List MemoryRange) (es : List AddressRange)
    → build b entries ram configs pools ≡ built es → length (table_nodes es) ≤ max_ram
built-nodes b entries ram configs pools es e =
    let ok = rows-passed b entries (ranges_in ram) configs pools (build-passed b entries ram configs pools es e).0 in
    let ordered = build-ordered b entries ram configs pools es e in
    rw (nodes-same ram es ordered (build_claimed b entries ram configs pools es e).sound) (omega (arith, nodes_few ram, length-ranges_in ram))

-- Laws for the collection of a table's nodes into an array: there is always room for the next one.
use Rattle.std.specs.Prelude.{Some, None}
use Prim.Native.Nat.{ℕ, ◌+◌, ◌-◌, ◌≤◌, ◌<◌}
use mathlib.Core.Path.{◌≡◌, refl, sym, ◌∙◌}
use mathlib.Core.List.{List, [], ◌∷◌, ◌++◌}
use native.Mathlib.Numerals.{add-one}
use native.Mathlib.Omega.{arith}
use borrow.Author.Tests.{le-leb}
use lib.ListN.{length, take, drop, get_or, length-append, length-drop, drop_of_length-le, take-append-drop}
use lib.Seq.{length-take-le, take-append_seam, drop-append_seam, drop-drop, drop-cons}
use Rattle.range_lists.specs.Node.{with_node, node_count, nodes_after}
use Rattle.boot_nodes.specs.Node.{collect}
use Rattle.boot_nodes.specs.Laws.Node.{collect_grows, insert-length}
use Rattle.address_space.specs.declared.table.AddressRange.{AddressRange}
use Rattle.address_space.specs.Table.{no_entry}
use Rattle.private_pool.specs.Piece.{vnodes_of, table_nodes}
use Rattle.private_pool.specs.Pool.{max_pool_ranges}

-- where the array has room, the numbers are counted, and stand in its first places
module _ (n : ℕ) (l : List ℕ) (k : ℕ) (room : length (with_node n l k) ≤ length l) where
  counted : node_count n l k ≡ Some (length (with_node n l k))
  unfolding node_count
  counted = rw (le-leb (length (with_node n l k)) (length l) room)

  stored : nodes_after n l k ≡ with_node n l k ++ drop (length (with_node n l k)) l
  unfolding nodes_after
  stored = rw (le-leb (length (with_node n l k)) (length l) room)

-- two lists that are the same from a place on are so from each later one on
pub same-behind : {A : Type 0} (k n : ℕ) (l l' : List A) → drop k l ≡ drop k l' → k ≤ n → drop n l ≡ drop n l'
same-behind k n l l' e h =
    let s : k + (n - k) ≡ n = omega arith in
    rw (← s, ← drop-drop (n - k) k l, ← drop-drop (n - k) k l', e)

-- the nodes of the first i entries stand in the array's first places, and the rest is as it was at first
pub record Nodes (es : List AddressRange) (first nodes : List ℕ) (count i : ℕ) : Type 0 where
  pub size : length nodes ≡ max_pool_ranges
  pub few : count ≤ i
  pub spare : drop count nodes ≡ drop count first
  pub whole : table_nodes es ≡ collect (take count nodes) (vnodes_of (drop i es))

module _ {es : List AddressRange} {first nodes : List ℕ} {count i : ℕ} (c : Nodes es first nodes count i) where
  abbrev node : ℕ
  node = (get_or es i no_entry).vnode

  module _ (below : i < length es) (most : length es ≤ max_pool_ranges) where
    held : length (take count nodes) ≡ count
    held = length-take-le count nodes (omega (arith, c.size, c.few))

    room : length (with_node node nodes count) ≤ length nodes
    room = omega (arith, held, c.size, c.few, insert-length node (take count nodes))

    pub never_full : node_count node nodes count ≡ None → ⊥
    never_full e =
        let t = counted node nodes count room in
        let z : ◌≡◌ {A = ℕ} 0 1 = cc in
        omega arith

    pub nodes-more : {more : ℕ} {after : List ℕ} → node_count node nodes count ≡ Some more → after ≡ nodes_after node nodes count
        → Nodes es first after more (i + 1)
    nodes-more {more} {after} e w =
        let ns = with_node node nodes count in
        let k : length ns ≡ more = let t = counted node nodes count room in cc in
        let s : after ≡ ns ++ drop (length ns) nodes = w ∙ stored node nodes count room in
        let grows : length (take count nodes) ≤ length ns = collect_grows (take count nodes) (node ∷ []) in
        rw (s, ← k) record {
          size = simp (length-append, length-drop) (omega (arith, room, c.size));
          few = omega (arith, held, c.few, insert-length node (take count nodes));
          spare = drop-append_seam ns (drop (length ns) nodes) ∙ same-behind count (length ns) nodes first c.spare (omega (arith, held, grows));
          whole = c.whole ∙ rw (add-one, drop-cons es i no_entry below, take-append_seam ns (drop (length ns) nodes));
        }

  -- after the last entry
  module _ (end : length es ≤ i) (within : i ≤ max_pool_ranges) where
    all : table_nodes es ≡ take count nodes
    all = c.whole ∙ rw (drop_of_length-le es {i = i} end)

    pub nodes-count : count ≡ length (table_nodes es)
    nodes-count = rw all (sym (length-take-le count nodes (omega (arith, c.size, c.few))))

    pub nodes-all : nodes ≡ table_nodes es ++ drop (length (table_nodes es)) first
    nodes-all = rw (← nodes-count, all, ← c.spare) (sym (take-append-drop count nodes))

-- before the first entry
pub nodes-none : (es : List AddressRange) (first : List ℕ) → length first ≡ max_pool_ranges → Nodes es first first 0 0
nodes-none es first h = record { size = h; few = omega arith; spare = refl; whole = refl }

-- an array that holds so many numbers in its first places, and the rest as it was at first
module _ (ns first : List ℕ) {nodes : List ℕ} {count : ℕ} (counted : count ≡ length ns) (e : nodes ≡ ns ++ drop (length ns) first) where
  pub nodes-taken : take count nodes ≡ ns
  nodes-taken = rw (e, counted) (take-append_seam ns (drop (length ns) first))

  pub nodes_size : count ≤ length first → length nodes ≡ length first
  nodes_size h = rw e (simp (length-append, length-drop) (omega arith))

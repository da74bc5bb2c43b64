-- A plan has few lines, so that the output has room for them: at most 64 of the RAM and 64 of the pool, as many of requests as a text has
-- room for, and at most 256 of the table.
use Rattle.std.specs.Prelude.{ℕ, suc, ◌+◌, ◌≤◌, min, ◌≡◌, refl, Bool, cond, List, [], ◌∷◌, ◌++◌, ltb, leb, Option, Some, None}
use Rattle.std.proofs.Math.Path.{ap}
use Rattle.std.proofs.Common.{◌∙◌, arith, ltb-false, length-append}
use Rattle.std.proofs.Math.Bool.{true, false}
use Rattle.std.proofs.Math.ListN.{length}
use Rattle.refusal.specs.declared.Refusal.{Refusal}
use Rattle.refusal.specs.Rows.{unless}
use Rattle.refusal.specs.Number.{table_full, pool_too_large, pool_split}
use Rattle.memory_range.specs.declared.range.TaggedRange.{TaggedRange}
use Rattle.range_lists.specs.Laws.Merge.{merge-count}
use Rattle.host_params.specs.declared.AllocationPolicy.{AllocationPolicy}
use Rattle.host_params.specs.declared.AllocationType.{AllocationType}
use Rattle.boot_ram.specs.Held.{bytes_of}
use Rattle.vtl2_ram.specs.Laws.Select.{chosen_in_order}
use Rattle.address_space.specs.declared.request.AllocatedRange.{AllocatedRange}
use Rattle.address_space.specs.declared.table.AddressRange.{AddressRange}
use Rattle.address_space.specs.Fit.{aligned_to, fits_in}
use Rattle.address_space.specs.List.{typed_ranges, vtl2_ranges}
use Rattle.address_space.specs.Request.{Outcome, refused, handed, rows_refusal, placed_as, placed_from, allocated, requested}
use Rattle.address_space.specs.Request as request
use Rattle.address_space.specs.Search.{Search, nothing, found, searched, below_in, above_in}
use Rattle.address_space.specs.Split.{allotted, split_entry}
use Rattle.address_space.specs.Table.{max_address_ranges}
use Rattle.address_space.specs.Usage.{usage_for}
use Rattle.memory.specs.Rows.{max_ram}
use Rattle.memory_claims.specs.Laws.Build.{build_claimed}
use Rattle.ledger.specs.Laws.Nodes.{built-nodes}
use Rattle.plan_record.specs.declared.record.Get.{Get}
use Rattle.plan_text.specs.Text.{text_size}
use Rattle.plan_input.specs.Input.{Input}
use Rattle.private_pool.specs.Piece.{table_nodes, PoolPiece, piece, split_pieces}
use Rattle.private_pool.specs.Pool.{Placement, placed, piece_on, in_front, after_piece, place_pieces, split_bad, split_placed, whole_tried, whole_or, pages_bound, is_no_fit, pool_placed}
use Rattle.private_pool.specs.Pool as placement
use Rattle.private_pool.specs.Laws.Piece.{nodes_of, pieces-nodes}
use Rattle.plan.specs.declared.line.OutputLine.{OutputLine}
use Rattle.plan.specs.Get.{outcome_on, left_by, get_lines, after_gets}
use Rattle.plan.specs.Planner.{lines, plan_lines, plan_of, most_lines}
use Rattle.plan.specs.Pool.{pages_wanted, placed_for}
use Rattle.plan.specs.Write.{ram_lines, pool_lines, typed_lines, map_lines}
use Rattle.plan.specs.Laws.Get.{gets_few}
use Rattle.plan.specs.Laws.Made.{gets-given, plan-made}

-- lists as lines are as long as they are
pub ram-lines : (xs : List TaggedRange) → length (ram_lines xs) ≡ length xs
ram-lines [] = refl
ram-lines (x ∷ xs) = omega (arith, ram-lines xs)

pub pool-lines : (xs : List AllocatedRange) → length (pool_lines xs) ≡ length xs
pool-lines [] = refl
pool-lines (x ∷ xs) = omega (arith, pool-lines xs)

get-count : (gs : List Get) (es : List AddressRange) → length (get_lines gs es) ≡ length gs
get-count [] es = refl
get-count (g ∷ gs) es = ap suc (get-count gs _)

typed-count : (xs : List TaggedRange) → length (typed_lines xs) ≡ length xs
typed-count [] = refl
typed-count (x ∷ xs) = omega (arith, typed-count xs)

entry-count : (es : List AddressRange) → length (typed_ranges es) ≡ length es
entry-count [] = refl
entry-count (e ∷ es) = omega (arith, entry-count es)

-- a table has no more joined ranges than entries, and no more lines
pub joined_few : (es : List AddressRange) → length (vtl2_ranges es) ≤ length es
joined_few es = omega (arith, merge-count (typed_ranges es), entry-count es)

map_few : (es : List AddressRange) → length (map_lines es) ≤ length es
map_few es = omega (arith, typed-count (vtl2_ranges es), joined_few es)

-- entries that a request leaves are no more than a table holds, where those that it met are not
abbrev Few : Outcome → Type 0
Few (request.refused n) = Unit {0}
Few (handed x es) = length es ≤ max_address_ranges

placed_few : (x : AllocatedRange) (es : List AddressRange) → Few (placed_as x es)
placed_few x es = go (ltb max_address_ranges (length es)) refl
  where
    go : (t : Bool) → ltb max_address_ranges (length es) ≡ t → Few (cond t (request.refused table_full) (handed x es))
    go true e = tt
    go false e = ltb-false max_address_ranges (length es) e

module _ (asked : Option ℕ) (len : ℕ) (type : AllocationType) (policy : AllocationPolicy) (alignment : Option ℕ) (es : List AddressRange) where
  search_few : (s : Search AddressRange) → Few (placed_from len type policy alignment s)
  search_few nothing = tt
  search_few (found before e after) =
      let used = allotted policy len (aligned_to alignment e.range) in
      placed_few (record { range = used; vnode = e.vnode })
      (below_in policy before after ++ split_entry used (usage_for type) e ++ above_in policy before after)

  allocated_few : Few (allocated asked len type policy alignment es)
  unfolding allocated
  allocated_few = search_few (searched policy (fits_in asked len alignment) es)

unless_few : (u : Option Refusal) (o : Outcome) → Few o → Few (unless refused u o)
unless_few (Some n) o h = tt
unless_few None o h = h

get_few : (g : Get) (es : List AddressRange) → Few (outcome_on g es)
unfolding requested
get_few g es =
    unless_few (rows_refusal g.len g.alignment) _
    (allocated_few g.required_vnode _ g.allocation_type g.allocation_policy g.alignment es)

left_few : (es : List AddressRange) (o : Outcome) → length es ≤ max_address_ranges → Few o → length (left_by es o) ≤ max_address_ranges
left_few es (request.refused n) h f = h
left_few es (handed x es') h f = f

gets-left_few : (gs : List Get) (es : List AddressRange) → length es ≤ max_address_ranges → length (after_gets gs es) ≤ max_address_ranges
gets-left_few [] es h = h
gets-left_few (g ∷ gs) es h = gets-left_few gs (left_by es (outcome_on g es)) (left_few es (outcome_on g es) h (get_few g es))

-- a placement has at most k ranges, and leaves no more entries than a table holds
abbrev FewPlaced : ℕ → Placement → Type 0
FewPlaced k (placement.refused n) = Unit {0}
FewPlaced k (placed xs es) = (length xs ≤ k) × (length es ≤ max_address_ranges)

more_few : (n k : ℕ) (p : Placement) → n ≤ k → FewPlaced n p → FewPlaced k p
more_few n k (placement.refused m) l h = tt
more_few n k (placed xs es) l h = (omega arith, h.1)

in_front_few : (k : ℕ) (x : AllocatedRange) (p : Placement) → FewPlaced k p → FewPlaced (suc k) (in_front x p)
in_front_few k x (placement.refused n) h = tt
in_front_few k x (placed xs es) h = (omega arith, h.1)

piece_few : (p : PoolPiece) (es : List AddressRange) → Few (piece_on p es)
piece_few p es = allocated_few _ _ _ _ _ es

-- pieces are a range each
pieces_few : (ps : List PoolPiece) (es : List AddressRange) → length es ≤ max_address_ranges → FewPlaced (length ps) (place_pieces ps es)
pieces_few [] es h = (omega arith, h)
pieces_few (p ∷ ps) es h = go (piece_on p es) (piece_few p es) (pieces_few ps)
  where
    go : (o : Outcome) → Few o → ((es' : List AddressRange) → length es' ≤ max_address_ranges → FewPlaced (length ps) (place_pieces ps es'))
        → FewPlaced (suc (length ps)) (after_piece (place_pieces ps) o)
    go (request.refused n) f i = tt
    go (handed x es') f i = in_front_few (length ps) x (place_pieces ps es') (i es' f)

-- a split has one for each node of the table
nodes-count : (ps : List PoolPiece) → length (nodes_of ps) ≡ length ps
nodes-count [] = refl
nodes-count (p ∷ ps) = omega (arith, nodes-count ps)

module _ (k : ℕ) (es : List AddressRange) (few : length es ≤ max_address_ranges) (nodes : length (table_nodes es) ≤ k) where
  split_few : (pages : ℕ) → FewPlaced k (split_placed pages es)
  unfolding split_placed
  split_few pages = go (split_bad pages (table_nodes es))
    where
      go : (t : Bool) → FewPlaced k (cond t (placement.refused pool_split) (place_pieces (split_pieces pages (table_nodes es)) es))
      go true = tt
      go false =
          let ps = split_pieces pages (table_nodes es) in
          let count : length ps ≤ k = omega (arith, nodes-count ps, ap length (pieces-nodes pages (table_nodes es))) in
          more_few (length ps) k (place_pieces ps es) count (pieces_few ps es few)

  -- a whole pool has one
  whole_few : (o : Outcome) (p : Placement) → 1 ≤ k → Few o → FewPlaced k p → FewPlaced k (whole_or o p)
  whole_few (handed x es') p one f h = (one, f)
  whole_few (request.refused n) p one f h = go (is_no_fit n)
    where
      go : (t : Bool) → FewPlaced k (cond t p (placement.refused n))
      go true = h
      go false = tt

  pool_few : (pages : ℕ) (split : Bool) → 1 ≤ k → FewPlaced k (pool_placed pages split es)
  unfolding pool_placed
  pool_few pages split one = go (leb pages_bound pages) (whole_tried pages split)
    where
      go : (s t : Bool) → FewPlaced k
          (cond s (placement.refused pool_too_large) (cond t (whole_or (piece_on (piece 0 pages) es) (split_placed pages es)) (split_placed pages es)))
      go true t = tt
      go false true = whole_few (piece_on (piece 0 pages) es) (split_placed pages es) one (piece_few (piece 0 pages) es) (split_few pages)
      go false false = split_few pages

  -- and where there is no pool, none
  placed_for_few : (wanted : Option ℕ) (split : Bool) → 1 ≤ k → FewPlaced k (placed_for wanted split es)
  placed_for_few None split one = (omega arith, few)
  placed_for_few (Some pages) split one = pool_few pages split one

-- the lines of a plan by its parts
plan-count : (ram : List TaggedRange) (pool : List AllocatedRange) (gs : List Get) (es : List AddressRange) → length es ≤ max_address_ranges
    → length (plan_lines ram pool gs es) ≤ length ram + length pool + length gs + max_address_ranges
unfolding plan_lines
plan-count ram pool gs es h =
    simp length-append
    (omega (
      arith,
      ram-lines ram,
      pool-lines pool,
      get-count gs es,
      map_few (after_gets gs es),
      gets-left_few gs es h,
    ))

-- every plan has at most so many lines as go by the length of its text
pub lines_few : (text : List ℕ) (ls : List OutputLine) → plan_of text ≡ lines ls → length ls ≤ most_lines (min (length text) text_size)
lines_few text ls h =
    let m = plan-made text ls h in
    let i = m.input in
    let s = i.shape in
    let chosen = (chosen_in_order s.isolation s.memory_size i.file i.map i.imports m.ram s.mode m.selected).count in
    let built = (build_claimed i.builder 0 m.ram i.configs i.gpools m.table m.builds).count in
    let nodes = built-nodes i.builder 0 m.ram i.configs i.gpools m.table m.builds in
    let pool =
    rw m.places at
    (placed_for_few max_ram m.table (omega arith) nodes (pages_wanted s.isolation i.pool (bytes_of m.ram)) i.pool.split (omega arith)) in
    let asked = ap (λ (j : Input). j.gets) m.given ∙ gets-given m.records in
    omega (
      arith,
      ap length m.as-lines,
      plan-count m.ram m.pool i.gets m.left pool.1,
      ap length asked,
      gets_few text m.records m.read,
      m.size,
    )

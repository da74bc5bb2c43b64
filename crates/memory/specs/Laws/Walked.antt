-- Laws of the two walks of a build: what stands in the list and in the table at each step.
use Rattle.std.specs.Prelude.{ℕ, suc, ◌+◌, ◌≤◌, ◌<◌, ◌≡◌, refl, Bool, false, set, Option, Ok, Err}
use Rattle.std.proofs.Common.{ap, sym, ◌∙◌, true≢false, add-one, arith, length-append, length-set, take-append-drop, length-take-le, drop-drop, drop-set-lt, take-suc-set}
use Rattle.std.proofs.Math.Bool.{true}
use mathlib.Core.List.{List, [], ◌∷◌, ◌++◌, append_assoc, append-nil}
use Rattle.std.proofs.Math.ListN.{length, take, drop, get_or, get_or-map}
use Rattle.refusal.specs.Number.{reserved_outside_used, used_outside_ram}
use Rattle.refusal.specs.Rows.{refused_if}
use Rattle.refusal.specs.declared.Refusal.{Refusal}
use Rattle.memory_range.specs.declared.range.MemoryRange.{MemoryRange}
use Rattle.memory_range.specs.declared.range.TaggedRange.{TaggedRange}
use Rattle.range_lists.specs.declared.walk.RangeWalkResult.{RangeWalkResult}
use Rattle.range_lists.specs.declared.walk.RangeWalkResult.TheVariants.{Left, Right, Both}
use Rattle.range_lists.specs.declared.walk.WalkCursor.{WalkCursor}
use Rattle.range_lists.specs.declared.walk.WalkPiece.{WalkPiece}
use Rattle.range_lists.specs.Walk.{walk_from, walk_stepped}
use Rattle.range_lists.specs.Laws.Entries.{ranges-tagged}
use Rattle.memory_range.specs.List.{ranges_in, ranges_of, tagged, tagged_of, tags_of}
use Rattle.address_space.specs.declared.table.AddressRange.{AddressRange}
use Rattle.address_space.specs.declared.table.AddressSpaceManager.{AddressSpaceManager}
use Rattle.address_space.specs.Table.{max_address_ranges, pool_of}
use Rattle.memory.specs.Build.{table_entry, table_entries, table_of, filled, finished_with, init_as, refused_with}
use Rattle.memory.specs.Rows.{max_ram, max_reserved}
use Rattle.memory.specs.Used.{max_used, is_right, any_right, any_outside, used_piece, used_pieces, pieces_of, ListedIn}
use Rattle.memory.specs.Laws.Count.{pieces-count, table-count}
use Rattle.memory.specs.Laws.Listed.{listed-not, listed_as}

-- lists of numbers beside each other, as callers may hold them: as many starts and ends as there are tagged ranges are
-- their ranges
pub first-ranges : (ss es ts : List ℕ) {n : ℕ} → n ≡ length (tagged_of ss es ts) → ranges_of (take n ss) (take n es) ≡ ranges_in (tagged_of ss es ts)
first-ranges ss es ts e = rw e (ranges-tagged ss es ts)

-- a step of a walk is one of the walk of equal lists
pub step_as : {ls rs ls' rs' : List MemoryRange} (at : WalkCursor) (step : Option (WalkPiece × WalkCursor)) → ls ≡ ls' → rs ≡ rs'
    → walk_from ls rs at ≡ walk_stepped ls rs step → walk_from ls' rs' at ≡ walk_stepped ls' rs' step
step_as at step e f h = rw (e, f) at h

-- row 19 of reserved ranges
abbrev pub walk_refusal : MemoryRange → List TaggedRange → Option Refusal
walk_refusal used reserved = refused_if (any_outside (used ∷ []) (ranges_in reserved)) reserved_outside_used

-- the tag at an index
pub tag-at : (xs : List TaggedRange) (i : ℕ) → get_or (tags_of xs) i 0 ≡ (get_or xs i (tagged 0 0 0)).tag
tag-at xs i = get_or-map (λ x. x.tag) xs i (tagged 0 0 0)

-- a piece of the used range is one range
one-used : (reserved : List TaggedRange) (r : MemoryRange) (x : RangeWalkResult) → is_right x ≡ false → length (used_piece reserved r x) ≡ 1
one-used reserved r (Left i) n = refl
one-used reserved r (Right j) n = absurd (true≢false n)
one-used reserved r (Both i j) n = refl

-- the used pieces so far: those in the list, and the pieces ps of the walk are left
pub record UsedSoFar (used : MemoryRange) (reserved : List TaggedRange) (ps : List WalkPiece) (list : List TaggedRange) : Type 0 where
  pub outside : any_outside (used ∷ []) (ranges_in reserved) ≡ any_right ps
  pub pieces : pieces_of used reserved ≡ list ++ used_pieces reserved ps

module _ {used : MemoryRange} {reserved list : List TaggedRange} where
  so_far-length : {ps : List WalkPiece} → UsedSoFar used reserved ps list
      → length (pieces_of used reserved) ≡ length list + length (used_pieces reserved ps)
  so_far-length {ps} w = ap length w.pieces ∙ length-append list (used_pieces reserved ps)

  module _ {p : WalkPiece} {ps : List WalkPiece} (w : UsedSoFar used reserved (p ∷ ps) list) where
    -- there is room for a piece of the used range
    pub used_below : is_right p.result ≡ false → length reserved ≤ max_reserved → length list < max_used
    used_below n few =
        let more : length (used_piece reserved p.range p.result ++ used_pieces reserved ps) ≡ 1 + length (used_pieces reserved ps) =
        length-append (used_piece reserved p.range p.result) (used_pieces reserved ps) ∙ ap (λ (k : ℕ). k + length (used_pieces reserved ps)) (one-used reserved p.range p.result n)
        in
        omega (arith, so_far-length w, pieces-count used reserved)

    -- it is put behind those that are there
    pub used-next : {u : ℕ} → is_right p.result ≡ false → used_piece reserved p.range p.result ≡ record { range = p.range; tag = u } ∷ []
        → UsedSoFar used reserved ps (list ++ record { range = p.range; tag = u } ∷ [])
    used-next n one = record { outside = rw n at w.outside; pieces = w.pieces ∙ rw one (simp append_assoc) }

    -- a piece outside the used range is refused
    pub used_refused : is_right p.result ≡ true → ListedIn (walk_refusal used reserved) (pieces_of used reserved) (Err reserved_outside_used) list
    used_refused n =
        let out : any_outside (used ∷ []) (ranges_in reserved) ≡ true = rw n at w.outside in
        listed-not (rw out)

  -- no piece is left
  pub used_done : UsedSoFar used reserved [] list → ListedIn (walk_refusal used reserved) (pieces_of used reserved) (Ok tt) list
  used_done w =
      let all : pieces_of used reserved ≡ list = rw append-nil at w.pieces in
      listed_as (rw w.outside) (sym all)

-- the table so far: so many entries are in its array, and the pieces ps of the walk are left
pub record FilledSoFar (manager : AddressSpaceManager) (ram used : List TaggedRange) (ps : List WalkPiece) (count : ℕ)
    (table : AddressSpaceManager) : Type 0 where
  pub room : length table.address_space ≡ max_address_ranges
  pub within : count ≤ max_address_ranges
  pub outside : any_outside (ranges_in ram) (ranges_in used) ≡ any_right ps
  pub entries : table_of ram used ≡ take count table.address_space ++ table_entries ram used ps
  pub behind : drop count table.address_space ≡ drop count manager.address_space
  pub flag : pool_of table ≡ pool_of manager

module _ {manager : AddressSpaceManager} {ram used : List TaggedRange} {count : ℕ} {table : AddressSpaceManager} where
  filled-length : {ps : List WalkPiece} → FilledSoFar manager ram used ps count table
      → length (table_of ram used) ≡ count + length (table_entries ram used ps)
  filled-length {ps} w =
      let l = table.address_space in
      let n = length-take-le count l (omega arith) in
      ap length w.entries ∙ length-append (take count l) (table_entries ram used ps) ∙ ap (λ (k : ℕ). k + length (table_entries ram used ps)) n

  module _ {p : WalkPiece} {ps : List WalkPiece} (w : FilledSoFar manager ram used (p ∷ ps) count table) where
    module _ {e : AddressRange} (l : length ram ≤ max_ram) (k : length used ≤ max_used) (one : table_entry ram used p.range p.result ≡ e ∷ []) where
      -- there is room for one more
      pub filled_below : count < max_address_ranges
      filled_below =
          let more : length (table_entry ram used p.range p.result ++ table_entries ram used ps) ≡ suc (length (table_entries ram used ps)) = rw one in
          omega (arith, filled-length w, table-count ram used)

      -- an entry is put behind those that are there
      pub filled_next : {n : ℕ} → is_right p.result ≡ false
          → FilledSoFar manager ram used ps (count + 1) (record { address_space = set table.address_space count e; count = n; vtl2_pool = pool_of table })
      filled_next h =
          let y = table.address_space in
          record {
            room = length-set y count e ∙ w.room;
            within = omega (arith, filled_below);
            outside = rw h at w.outside;
            entries = w.entries ∙ rw (one, add-one, take-suc-set y count e (omega (arith, filled_below, w.room))) (simp append_assoc);
            behind = rw (drop-set-lt (count + 1) y count e (omega arith), ← drop-drop 1 count y, w.behind) (drop-drop 1 count manager.address_space);
            flag = w.flag;
          }

    -- a piece outside the RAM is refused
    pub filled_refused : (pool : Bool) → is_right p.result ≡ true → refused_with manager used_outside_ram ≡ init_as manager pool (filled ram used)
    unfolding filled
    filled_refused pool n =
        let out : any_outside (ranges_in ram) (ranges_in used) ≡ true = rw n at w.outside in
        rw out

  -- no piece is left
  pub filled_done : (pool : Bool) → FilledSoFar manager ram used [] count table
      → finished_with table count pool ≡ init_as manager pool (filled ram used)
  unfolding filled
  filled_done pool w =
      let all : table_of ram used ≡ take count table.address_space = rw append-nil at w.entries in
      let n : length (table_of ram used) ≡ count = omega (arith, filled-length w) in
      let l : table.address_space ≡ table_of ram used ++ drop count manager.address_space =
      rw (all, ← w.behind) (sym (take-append-drop count table.address_space)) in
      rw (w.outside, n, ← l, w.flag)

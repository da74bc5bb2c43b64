-- What is made from the pieces of a walk says of each byte: the table, and the pieces of the used range.
use Rattle.std.specs.Prelude.{ℕ, ◌<◌, ◌≡◌, refl, Bool, true, false, cond, List, [], ◌∷◌, ◌++◌, Option, Some, None, option_map}
use Rattle.std.proofs.Math.Path.{ap}
use Rattle.std.proofs.Common.{ap₂, sym, ◌∙◌, arith}
use Rattle.memory_range.specs.declared.range.MemoryRange.{MemoryRange}
use Rattle.memory_range.specs.declared.range.TaggedRange.{TaggedRange}
use Rattle.range_lists.specs.declared.walk.RangeWalkResult.{RangeWalkResult}
use Rattle.range_lists.specs.declared.walk.RangeWalkResult.TheVariants.{Left, Right, Both}
use Rattle.range_lists.specs.declared.walk.WalkPiece.{WalkPiece}
use Rattle.memory_range.specs.Bytes.{item_at, Ordered, All}
use Rattle.memory_range.specs.List.{ranges_in}
use Rattle.memory_range.specs.Range.{holds}
use Rattle.range_lists.specs.Walk.{held_by, walk}
use Rattle.memory_range.specs.Laws.Bytes.{ordered-before}
use Rattle.range_lists.specs.Laws.Pieces.{piece_ranges, result_at, result-none}
use Rattle.memory_range.specs.Laws.Range.{held}
use Rattle.range_lists.specs.Laws.Walk.{walk-ordered, walk_at}
use Rattle.address_space.specs.declared.usage.AddressUsage.TheVariants.{Free}
use Rattle.address_space.specs.Table.{ranges_at}
use Rattle.address_space.specs.Usage.{used_number, usage_of}
use Rattle.memory.specs.Build.{table_entry, table_entries, table_of}
use Rattle.memory.specs.Used.{used_piece, used_pieces, pieces_of}
use Rattle.memory_claims.specs.Claim.{Note, note, note_at, tag_at, said_by}
use Rattle.memory_claims.specs.Laws.Said.{tag_of, tag_item}

-- a piece of the table, from what the walk says of it: a piece of the RAM is in the table, any other is not
module _ (ram used : List TaggedRange) where
  abbrev note_by : Option RangeWalkResult → Option Note
  note_by None = None
  note_by (Some (Left i)) = Some (note (tag_of ram i) Free)
  note_by (Some (Right j)) = None
  note_by (Some (Both i j)) = Some (note (tag_of ram i) (usage_of (tag_of used j)))

  entries_say : (a : ℕ) (ps : List WalkPiece) (x : ℕ) → Ordered a (piece_ranges ps) → note_at (table_entries ram used ps) x ≡ note_by (result_at ps x)
  entries_say a [] x o = refl
  entries_say a (p ∷ ps) x o = go p.result (holds p.range x) refl (entries_say p.range.end ps x o.1.1)
    where
      go : (h : RangeWalkResult) (t : Bool) → holds p.range x ≡ t → note_at (table_entries ram used ps) x ≡ note_by (result_at ps x)
          → note_at (table_entry ram used p.range h ++ table_entries ram used ps) x ≡ note_by (cond t (Some h) (result_at ps x))
      go (Left i) true q e = rw q
      go (Left i) false q e = rw q e
      go (Right j) true q e = e ∙ ap note_by (result-none p.range.end ps x o.1.1 ((held p.range x).0 q).1)
      go (Right j) false q e = e
      go (Both i j) true q e = rw q
      go (Both i j) false q e = rw q e

  entries-ordered : (a : ℕ) (ps : List WalkPiece) → Ordered a (piece_ranges ps) → Ordered a (ranges_at (table_entries ram used ps))
  entries-ordered a [] o = tt
  entries-ordered a (p ∷ ps) o = go p.result (entries-ordered p.range.end ps o.1.1)
    where
      go : (h : RangeWalkResult) → Ordered p.range.end (ranges_at (table_entries ram used ps))
          → Ordered a (ranges_at (table_entry ram used p.range h ++ table_entries ram used ps))
      go (Left i) q = (o.0, (o.1.0, q))
      go (Right j) q = ordered-before a p.range.end (ranges_at (table_entries ram used ps)) (omega arith) q
      go (Both i j) q = (o.0, (o.1.0, q))

  -- what holds of the pieces holds of the entries
  pub entries-all : (P : MemoryRange → Type 0) (ps : List WalkPiece) → All (λ p. P p.range) ps → All P (ranges_at (table_entries ram used ps))
  entries-all P [] h = tt
  entries-all P (p ∷ ps) h = go p.result (entries-all P ps h.1)
    where
      go : (r : RangeWalkResult) → All P (ranges_at (table_entries ram used ps)) → All P (ranges_at (table_entry ram used p.range r ++ table_entries ram used ps))
      go (Left i) rest = (h.0, rest)
      go (Right j) rest = rest
      go (Both i j) rest = (h.0, rest)

  module _ (or : Ordered 0 (ranges_in ram)) (ou : Ordered 0 (ranges_in used)) where
    pub table-ordered : Ordered 0 (ranges_at (table_of ram used))
    unfolding table_of
    table-ordered = entries-ordered 0 (walk (ranges_in ram) (ranges_in used)) (walk-ordered (ranges_in ram) (ranges_in used) or ou)

    table_noted : (a : ℕ) → note_at (table_of ram used) a ≡ note_by (held_by (item_at (ranges_in ram) a) (item_at (ranges_in used) a))
    unfolding table_of
    table_noted a =
        entries_say 0 (walk (ranges_in ram) (ranges_in used)) a (walk-ordered (ranges_in ram) (ranges_in used) or ou)
        ∙ ap note_by (walk_at (ranges_in ram) (ranges_in used) or ou a)

-- what the table says of a byte, from the tags of the RAM range and the used range that hold it
abbrev pub note_of : Option ℕ → Option ℕ → Option Note
note_of None v = None
note_of (Some n) v = Some (note n (said_by v false))

named-note : (ram used : List TaggedRange) (u v : Option ℕ)
    → note_by ram used (held_by u v) ≡ note_of (option_map (tag_of ram) u) (option_map (tag_of used) v)
named-note ram used None None = refl
named-note ram used None (Some j) = refl
named-note ram used (Some i) None = refl
named-note ram used (Some i) (Some j) = refl

pub table_says : (ram used : List TaggedRange) → Ordered 0 (ranges_in ram) → Ordered 0 (ranges_in used) → (a : ℕ)
    → note_at (table_of ram used) a ≡ note_of (tag_at ram a) (tag_at used a)
table_says ram used or ou a =
    table_noted ram used or ou a ∙ named-note ram used (item_at (ranges_in ram) a) (item_at (ranges_in used) a)
    ∙ sym (ap₂ note_of (tag_item ram a) (tag_item used a))

-- the tag of a byte of the used range, from whether the range holds it and the tag of the reserved range that does
abbrev pub piece_tag : Bool → Option ℕ → Option ℕ
piece_tag false v = None
piece_tag true None = Some used_number
piece_tag true (Some t) = Some t

-- the pieces of the used range, likewise
module _ (reserved : List TaggedRange) where
  abbrev piece_by : Option RangeWalkResult → Option ℕ
  piece_by None = None
  piece_by (Some (Left i)) = Some used_number
  piece_by (Some (Right j)) = None
  piece_by (Some (Both i j)) = Some (tag_of reserved j)

  pieces_say : (a : ℕ) (ps : List WalkPiece) (x : ℕ) → Ordered a (piece_ranges ps) → tag_at (used_pieces reserved ps) x ≡ piece_by (result_at ps x)
  pieces_say a [] x o = refl
  pieces_say a (p ∷ ps) x o = go p.result (holds p.range x) refl (pieces_say p.range.end ps x o.1.1)
    where
      go : (h : RangeWalkResult) (t : Bool) → holds p.range x ≡ t → tag_at (used_pieces reserved ps) x ≡ piece_by (result_at ps x)
          → tag_at (used_piece reserved p.range h ++ used_pieces reserved ps) x ≡ piece_by (cond t (Some h) (result_at ps x))
      go (Left i) true q e = rw q
      go (Left i) false q e = rw q e
      go (Right j) true q e = e ∙ ap piece_by (result-none p.range.end ps x o.1.1 ((held p.range x).0 q).1)
      go (Right j) false q e = e
      go (Both i j) true q e = rw q
      go (Both i j) false q e = rw q e

  pub pieces-all : (P : MemoryRange → Type 0) (ps : List WalkPiece) → All (λ p. P p.range) ps → All (λ x. P x.range) (used_pieces reserved ps)
  pieces-all P [] h = tt
  pieces-all P (p ∷ ps) h = go p.result (pieces-all P ps h.1)
    where
      go : (r : RangeWalkResult) → All (λ x. P x.range) (used_pieces reserved ps)
          → All (λ x. P x.range) (used_piece reserved p.range r ++ used_pieces reserved ps)
      go (Left i) rest = (h.0, rest)
      go (Right j) rest = rest
      go (Both i j) rest = (h.0, rest)

  named-piece : (t : Bool) (v : Option ℕ) → piece_by (held_by (cond t (Some 0) None) v) ≡ piece_tag t (option_map (tag_of reserved) v)
  named-piece true None = refl
  named-piece true (Some j) = refl
  named-piece false None = refl
  named-piece false (Some j) = refl

  -- a byte of the used range is reserved as the reserved range that holds it, and else used
  pub pieces_tag : (used : MemoryRange) → used.start < used.end → Ordered 0 (ranges_in reserved) → (a : ℕ)
      → tag_at (pieces_of used reserved) a ≡ piece_tag (holds used a) (tag_at reserved a)
  pieces_tag used full o a =
      let one : Ordered 0 (used ∷ []) = (omega arith, (full, tt)) in
      pieces_say 0 (walk (used ∷ []) (ranges_in reserved)) a (walk-ordered (used ∷ []) (ranges_in reserved) one o)
      ∙ ap piece_by (walk_at (used ∷ []) (ranges_in reserved) one o a) ∙ named-piece (holds used a) (item_at (ranges_in reserved) a)
      ∙ ap (piece_tag (holds used a)) (sym (tag_item reserved a))

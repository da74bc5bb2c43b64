-- Laws of the host's map: the protectable entries of a map in order are in order, and its ranges are those of its entries. Those of a map
-- in four lists are passed on.
use Rattle.std.specs.Prelude.{ℕ, suc, ◌≡◌, refl, Bool, true, false, List, [], ◌∷◌, map, length}
use Rattle.std.proofs.Common.{ap, arith}
use Rattle.std.proofs.Math.Bool.{and-eq-true_iff}
use Rattle.memory_range.specs.Bytes.{Ordered}
use Rattle.memory_range.specs.List.{ranges_in, tagged_of, tags_of}
use Rattle.memory_range.specs.Valid.{valid_range, all_valid_of}
use Rattle.memory_range.specs.Laws.Bytes.{ordered-before}
use Rattle.host_params.specs.declared.MemoryEntry.{MemoryEntry}
use Rattle.host_map.specs.Map.{map_ranges, is_protectable, protectable_in}
pub use Rattle.host_map.specs.Laws.Map.{length-map, entry_of, entry-again, map-again, past-entries, next-listed, next-entry, next-protectable, next-passed}
pub use Rattle.host_map.specs.Laws.Map.{map-entries, map-ranges, first_within, map_first, first_lengths}

pub protectable-ordered : (a : ℕ) (map : List MemoryEntry) → Ordered a (map_ranges map) → Ordered a (ranges_in (protectable_in map))
protectable-ordered a [] o = tt
protectable-ordered a (e ∷ es) o = go (is_protectable e.mem_type) refl (protectable-ordered e.range.end es o.1.1)
  where
    go : (t : Bool) → is_protectable e.mem_type ≡ t → Ordered e.range.end (ranges_in (protectable_in es))
        → Ordered a (ranges_in (protectable_in (e ∷ es)))
    go true p rest = rw p (o.0, (o.1.0, rest))
    go false p rest = rw p (ordered-before a e.range.end (ranges_in (protectable_in es)) (omega arith) rest)

pub protectable-valid : (map : List MemoryEntry) → all_valid_of (map_ranges map) ≡ true → all_valid_of (ranges_in (protectable_in map)) ≡ true
protectable-valid [] v = refl
protectable-valid (e ∷ es) v =
    let v' = (and-eq-true_iff (valid_range e.range) (all_valid_of (map_ranges es))).0 v in
    go (is_protectable e.mem_type) refl v'.0 (protectable-valid es v'.1)
  where
    go : (t : Bool) → is_protectable e.mem_type ≡ t → valid_range e.range ≡ true → all_valid_of (ranges_in (protectable_in es)) ≡ true
        → all_valid_of (ranges_in (protectable_in (e ∷ es))) ≡ true
    go true p h rest = rw (p, h) rest
    go false p h rest = rw p rest

-- a map has as many ranges as entries
pub length-map-ranges : (map : List MemoryEntry) → length (map_ranges map) ≡ length map
length-map-ranges [] = refl
length-map-ranges (e ∷ es) = ap suc (length-map-ranges es)

-- the ranges of its entries
pub entry-ranges : (m : List MemoryEntry) → map (λ e. e.range) m ≡ map_ranges m
entry-ranges [] = refl
entry-ranges (e ∷ es) = ap (e.range ∷◌) (entry-ranges es)

-- the tags of lists of one length are the third
pub all_tags : (ss es ns : List ℕ) → length es ≡ length ss → length ns ≡ length ss → tags_of (tagged_of ss es ns) ≡ ns
all_tags [] es [] he hn = refl
all_tags [] es (n ∷ ns) he hn = absurd (omega arith)
all_tags (s ∷ ss) [] ns he hn = absurd (omega arith)
all_tags (s ∷ ss) (e ∷ es) [] he hn = absurd (omega arith)
all_tags (s ∷ ss) (e ∷ es) (n ∷ ns) he hn = rw (all_tags ss es ns (omega arith) (omega arith))

-- Laws of the host's map in four lists: how many entries there are, which stands at an index, and what is left
-- behind an index; that of lists of one length the entries have the ranges and the nodes of the lists, and that of
-- others the map is that of their first places.
use Rattle.std.specs.Prelude.{ℕ, suc, zero, ◌+◌, ◌≤◌, ◌<◌, min, ◌≡◌, refl, Bool, true, false, List, [], ◌∷◌, length, take, drop, get_or}
use Rattle.std.proofs.Common.{ap, ◌∙◌, arith, add-one, length-take, drop_of_length-le, drop-cons}
use Rattle.memory_range.specs.List.{ranges_in, ranges_of, tagged, tagged_of}
use Rattle.memory_range.specs.Range.{range}
use Rattle.memory_range.specs.Laws.List.{ranges_alike}
use Rattle.host_params.specs.declared.MemoryEntry.{MemoryEntry}
use Rattle.host_params.specs.declared.MemoryMapEntryType.{MemoryMapEntryType}
use Rattle.host_params.specs.declared.MemoryMapEntryType.TheVariants.{Vtl2Protectable, Memory}
use Rattle.host_map.specs.Map.{type_of, map_of, SameLengths, map_ranges, entries_in, is_protectable, protectable_in}
use Rattle.host_map.specs.Map.{map_starts_of, map_ends_of, map_nodes_of, map_protectable_of}

pub length-map : (ss es ns : List ℕ) (ls : List Bool)
    → length (map_of ss es ns ls) ≡ min (min (length ss) (min (length es) (length ns))) (length ls)
length-map [] es ns ls = omega arith
length-map (s ∷ ss) [] ns ls = omega arith
length-map (s ∷ ss) (e ∷ es) [] ls = omega arith
length-map (s ∷ ss) (e ∷ es) (n ∷ ns) [] = omega arith
length-map (s ∷ ss) (e ∷ es) (n ∷ ns) (l ∷ ls) = omega (arith, length-map ss es ns ls)

-- an entry by its start, end and node, and whether it is protectable
abbrev pub entry_of : ℕ → ℕ → ℕ → Bool → MemoryEntry
entry_of s e n l = record { range = range s e; vnode = n; mem_type = type_of l }

type-again : (t : MemoryMapEntryType) → type_of (is_protectable t) ≡ t
type-again Vtl2Protectable = refl
type-again Memory = refl

pub entry-again : (e : MemoryEntry) → entry_of e.range.start e.range.end e.vnode (is_protectable e.mem_type) ≡ e
entry-again e = rw (type-again e.mem_type)

-- the fields of a map make it again
pub map-again : (m : List MemoryEntry) → map_of (map_starts_of m) (map_ends_of m) (map_nodes_of m) (map_protectable_of m) ≡ m
map-again [] = refl
map-again (e ∷ es) = rw (entry-again e, map-again es)

get_d_map : (ss es ns : List ℕ) (ls : List Bool) (i : ℕ) → i < length (map_of ss es ns ls)
    → get_or (map_of ss es ns ls) i (entry_of 0 0 0 false) ≡ entry_of (get_or ss i 0) (get_or es i 0) (get_or ns i 0) (get_or ls i false)
get_d_map [] es ns ls i h = absurd (omega arith)
get_d_map (s ∷ ss) [] ns ls i h = absurd (omega arith)
get_d_map (s ∷ ss) (e ∷ es) [] ls i h = absurd (omega arith)
get_d_map (s ∷ ss) (e ∷ es) (n ∷ ns) [] i h = absurd (omega arith)
get_d_map (s ∷ ss) (e ∷ es) (n ∷ ns) (l ∷ ls) zero h = refl
get_d_map (s ∷ ss) (e ∷ es) (n ∷ ns) (l ∷ ls) (suc i) h = get_d_map ss es ns ls i (omega arith)

-- what is left at an index of a map is the entry there and what is left behind it
pub next-listed : (ss es ns : List ℕ) (ls : List Bool) (i : ℕ) → i < length (map_of ss es ns ls)
    → drop i (map_of ss es ns ls) ≡ entry_of (get_or ss i 0) (get_or es i 0) (get_or ns i 0) (get_or ls i false) ∷ drop (i + 1) (map_of ss es ns ls)
next-listed ss es ns ls i below = rw (add-one, ← get_d_map ss es ns ls i below) (drop-cons (map_of ss es ns ls) i (entry_of 0 0 0 false) below)

module _ (ss es ns : List ℕ) (ls : List Bool) (i : ℕ) (same : SameLengths ss es ns ls) where
  -- behind the last entry nothing is left
  pub past-entries : length ss ≤ i → drop i (map_of ss es ns ls) ≡ []
  past-entries h = drop_of_length-le (map_of ss es ns ls) {i = i} (omega (arith, length-map ss es ns ls))

  -- what is left at an index is the entry there and what is left behind it
  pub next-entry : i < length ss
      → drop i (map_of ss es ns ls) ≡ entry_of (get_or ss i 0) (get_or es i 0) (get_or ns i 0) (get_or ls i false) ∷ drop (i + 1) (map_of ss es ns ls)
  next-entry h =
      let below : i < length (map_of ss es ns ls) = omega (arith, length-map ss es ns ls) in
      rw (add-one, ← get_d_map ss es ns ls i below) (drop-cons (map_of ss es ns ls) i (entry_of 0 0 0 false) below)

  -- of the protectable entries: the one there is the first of them if it is protectable, and is none of them if not
  pub next-protectable : i < length ss → get_or ls i false ≡ true
      → protectable_in (drop i (map_of ss es ns ls))
      ≡ tagged (get_or ss i 0) (get_or es i 0) (get_or ns i 0) ∷ protectable_in (drop (i + 1) (map_of ss es ns ls))
  next-protectable h l = rw (next-entry h, l)

  pub next-passed : i < length ss → get_or ls i false ≡ false
      → protectable_in (drop i (map_of ss es ns ls)) ≡ protectable_in (drop (i + 1) (map_of ss es ns ls))
  next-passed h l = rw (next-entry h, l)

pub map-entries : (ss es ns : List ℕ) (ls : List Bool) → SameLengths ss es ns ls → entries_in (map_of ss es ns ls) ≡ tagged_of ss es ns
map-entries [] es ns ls h = refl
map-entries (s ∷ ss) [] ns ls h = refl
map-entries (s ∷ ss) (e ∷ es) [] ls h = refl
map-entries (s ∷ ss) (e ∷ es) (n ∷ ns) [] h = absurd (omega arith)
map-entries (s ∷ ss) (e ∷ es) (n ∷ ns) (l ∷ ls) h = rw (map-entries ss es ns ls (omega arith, omega arith, omega arith))

pub map-ranges : (ss es ns : List ℕ) (ls : List Bool) → SameLengths ss es ns ls → map_ranges (map_of ss es ns ls) ≡ ranges_of ss es
map-ranges ss es ns ls h = ap ranges_in (map-entries ss es ns ls h) ∙ ranges_alike ss es ns (omega arith)

-- no list is shorter than the map
map_within : (ss es ns : List ℕ) (ls : List Bool)
    → let k = length (map_of ss es ns ls) in (k ≤ length ss) × (k ≤ length es) × (k ≤ length ns) × (k ≤ length ls)
map_within ss es ns ls = omega (arith, length-map ss es ns ls)

-- so the first places of the lists, as many as the map has entries, are of one length, and give the same map
map-first-all : (ss es ns : List ℕ) (ls : List Bool)
    → let k = length (map_of ss es ns ls) in map_of (take k ss) (take k es) (take k ns) (take k ls) ≡ map_of ss es ns ls
map-first-all [] es ns ls = refl
map-first-all (s ∷ ss) [] ns ls = refl
map-first-all (s ∷ ss) (e ∷ es) [] ls = refl
map-first-all (s ∷ ss) (e ∷ es) (n ∷ ns) [] = refl
map-first-all (s ∷ ss) (e ∷ es) (n ∷ ns) (l ∷ ls) = rw (map-first-all ss es ns ls)

module _ (ss es ns : List ℕ) (ls : List Bool) {k : ℕ} (h : k ≡ length (map_of ss es ns ls)) where
  pub first_within : (k ≤ length ss) × (k ≤ length es) × (k ≤ length ns) × (k ≤ length ls)
  first_within = rw h (map_within ss es ns ls)

  pub map_first : map_of (take k ss) (take k es) (take k ns) (take k ls) ≡ map_of ss es ns ls
  map_first = rw h (map-first-all ss es ns ls)

  pub first_lengths : SameLengths (take k ss) (take k es) (take k ns) (take k ls)
  first_lengths =
      let w = first_within in
      simp length-take (omega arith, omega arith, omega arith)

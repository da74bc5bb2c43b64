-- Laws of lists of numbers beside each other, as callers may hold them: what arrays hold that ranges or a map are stored
-- in field by field, and the places of them that are lent.
use Rattle.std.specs.Prelude.{ℕ, ◌≤◌, min, ◌≡◌, Bool, false, List, length, take, replicate}
use Rattle.std.proofs.Common.{ap, ◌∙◌, arith}
use Rattle.std.proofs.Math.Seq.{length-sets}
use Rattle.std.proofs.lemmas.List.{length-replicate}
use Rattle.std.proofs.lemmas.List.Edits.{sets}
use Rattle.memory_range.specs.declared.range.MemoryRange.{MemoryRange}
use Rattle.memory_range.specs.List.{ranges_of}
use Rattle.host_params.specs.declared.MemoryEntry.{MemoryEntry}
use Rattle.host_map.specs.Map.{map_of, map_starts_of, map_ends_of, map_nodes_of, map_protectable_of}
use Rattle.plan_input.specs.Range.{starts_in, ends_in}
use Rattle.plan_input.specs.Room.{map_room}
use Rattle.plan_input.specs.Laws.Room.{stored-ranges, stored-map}

-- ranges that are stored in arrays of so many places, and the places that are lent
pub record Lent (room : ℕ) (rs : List MemoryRange) (n : ℕ) (ss es : List ℕ) : Type 0 where
  pub starts : n ≤ length ss
  pub ends : n ≤ length es
  pub ranges : ranges_of (take n ss) (take n es) ≡ take room rs

-- places that hold 0 at first
abbrev zeros : ℕ → List ℕ
zeros room = replicate room 0

pub ranges-lent : (room : ℕ) (rs : List MemoryRange) {n count : ℕ} {ss es : List ℕ} → ss ≡ sets (zeros room) 0 (starts_in rs)
    → es ≡ sets (zeros room) 0 (ends_in rs) → count ≡ length rs → n ≡ min count room → Lent room rs n ss es
ranges-lent room rs {n} {count} {ss} {es} s e c h =
    let few : n ≤ room = omega (arith, h) in
    let z : length (zeros room) ≡ room = length-replicate {A = ℕ} room 0 in
    let hs : length ss ≡ room = ap length s ∙ length-sets (zeros room) 0 (starts_in rs) ∙ z in
    let he : length es ≡ room = ap length e ∙ length-sets (zeros room) 0 (ends_in rs) ∙ z in
    record {
      starts = omega arith;
      ends = omega arith;
      ranges = rw (s, e) (stored-ranges room rs (zeros room) (zeros room) n z z (h ∙ ap (λ (k : ℕ). min k room) c));
    }

-- the same of a map in four arrays
pub record MapLent (m : List MemoryEntry) (n : ℕ) (ss es ns : List ℕ) (ls : List Bool) : Type 0 where
  pub starts : n ≤ length ss
  pub ends : n ≤ length es
  pub nodes : n ≤ length ns
  pub protectable : n ≤ length ls
  pub map : map_of (take n ss) (take n es) (take n ns) (take n ls) ≡ take map_room m

pub map-lent : (m : List MemoryEntry) {n count : ℕ} {ss es ns : List ℕ} {ls : List Bool} → ss ≡ sets (zeros map_room) 0 (map_starts_of m)
    → es ≡ sets (zeros map_room) 0 (map_ends_of m) → ns ≡ sets (zeros map_room) 0 (map_nodes_of m)
    → ls ≡ sets (replicate map_room false) 0 (map_protectable_of m) → count ≡ length m → n ≡ min count map_room → MapLent m n ss es ns ls
map-lent m {n} {count} {ss} {es} {ns} {ls} s e t l c h =
    let few : n ≤ map_room = omega (arith, h) in
    let z : length (zeros map_room) ≡ map_room = length-replicate {A = ℕ} map_room 0 in
    let y : length (replicate map_room false) ≡ map_room = length-replicate {A = Bool} map_room false in
    let hs : length ss ≡ map_room = ap length s ∙ length-sets (zeros map_room) 0 (map_starts_of m) ∙ z in
    let he : length es ≡ map_room = ap length e ∙ length-sets (zeros map_room) 0 (map_ends_of m) ∙ z in
    let hn : length ns ≡ map_room = ap length t ∙ length-sets (zeros map_room) 0 (map_nodes_of m) ∙ z in
    let hl : length ls ≡ map_room = ap length l ∙ length-sets (replicate map_room false) 0 (map_protectable_of m) ∙ y in
    record {
      starts = omega arith;
      ends = omega arith;
      nodes = omega arith;
      protectable = omega arith;
      map =
          rw (s, e, t, l)
          (stored-map map_room m (zeros map_room) (zeros map_room) (zeros map_room) (replicate map_room false) n z z z y
          (h ∙ ap (λ (k : ℕ). min k map_room) c));
    }

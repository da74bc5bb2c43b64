-- What is claimed of the chosen RAM (docs/SPEC.md, section 20): demand 3's sentence on selection, and what
-- the layers above rest on.
use Rattle.std.specs.Prelude.{ℕ, ◌+◌, ◌≤◌, ◌<◌, min, max, ◌≡◌, true, false, cond, List, [], ◌∷◌, eqb, length, Option}
use Rattle.memory_range.specs.declared.range.MemoryRange.{MemoryRange}
use Rattle.memory_range.specs.declared.range.TaggedRange.{TaggedRange}
use Rattle.memory_range.specs.Bytes.{holders}
use Rattle.memory_range.specs.List.{ranges_in, tags_of}
use Rattle.memory_range.specs.Range.{range, length_of, holds}
use Rattle.memory_range.specs.Valid.{all_valid_of, ascend}
use Rattle.range_lists.specs.Laws.Node.{has}
use Rattle.host_params.specs.declared.MemoryEntry.{MemoryEntry}
use Rattle.boot_ram.specs.Held.{holders_on, on_node, bytes_of}
use Rattle.boot_nodes.specs.Node.{nodes_in}
use Rattle.boot_nodes.specs.Share.{share_step, share_of}
use Rattle.boot_ram.specs.Verdict.{max_chosen}
use Rattle.vtl2_ram.specs.Boot.{size_wanted}

-- the share of each node of a map
abbrev pub share_in : Option ℕ → MemoryRange → List MemoryEntry → ℕ
share_in size file map = share_of (size_wanted size file) (length (nodes_in map))

-- what two ranges have in common: from the later start to the earlier end
abbrev pub common : MemoryRange → MemoryRange → MemoryRange
common r s = range (max r.start s.start) (min r.end s.end)

-- the file's bytes on a node: those in the node's map entries
abbrev pub file_bytes_on : MemoryRange → List TaggedRange → ℕ → ℕ
file_bytes_on file [] n = 0
file_bytes_on file (x ∷ xs) n = cond (eqb x.tag n) (length_of (common file x.range)) 0 + file_bytes_on file xs n

-- what a node must have at least: its share, or the file's bytes on it if these are more
abbrev pub due_on : ℕ → MemoryRange → List TaggedRange → ℕ → ℕ
due_on share file map n = max share (file_bytes_on file map n)

-- entries in order, of page multiples, and no more than can be held
pub record InOrder (ram : List TaggedRange) : Type 0 where
  -- each has a byte, and starts and ends at a page
  pub valid : all_valid_of (ranges_in ram) ≡ true
  -- they ascend and are disjoint
  pub ascending : ascend (ranges_in ram) ≡ true
  -- they are at most 64
  pub count : length ram ≤ max_chosen

-- of boot mode, by the share, the file, the map's entries and the imported ranges
pub record BootClaim (share : ℕ) (file : MemoryRange) (map : List TaggedRange) (imports : List MemoryRange) (ram : List TaggedRange) : Type 0 where
  -- each node of the map has its due and fewer than 32,768 bytes above it
  pub due : (n : ℕ) → has n (tags_of map) ≡ true
      → (due_on share file map n ≤ bytes_of (on_node n ram)) × (bytes_of (on_node n ram) < due_on share file map n + share_step)
  -- every chosen byte lies in the map, in an entry of its node
  pub in_map : (n a : ℕ) → holders_on n ram a ≤ holders_on n map a
  -- every byte of the file is chosen, once
  pub file-chosen : (a : ℕ) → holds file a ≡ true → holders (ranges_in ram) a ≡ 1
  -- no imported byte outside the file is chosen
  pub imports-left : (a : ℕ) → 0 < holders imports a → holds file a ≡ false → holders (ranges_in ram) a ≡ 0

-- What is claimed of every table (docs/SPEC.md, section 25). `Sound` is what a build establishes and every request keeps.
use Rattle.std.specs.Prelude.{ℕ, ◌^◌, ◌≤◌, ◌<◌, ◌≡◌, Bool, true, false, cond, List, [], ◌∷◌, ◌++◌, map, ◌⊎◌, length, Option, Some, None}
use Rattle.memory_range.specs.declared.range.MemoryRange.{MemoryRange}
use Rattle.memory_range.specs.declared.range.TaggedRange.{TaggedRange}
use Rattle.memory_range.specs.Bytes.{holders, Ordered, All}
use Rattle.memory_range.specs.List.{ranges_in}
use Rattle.memory_range.specs.Range.{length_of, holds, contains_range}
use Rattle.memory_range.specs.Valid.{all_valid_of, valid_range}
use Rattle.memory_range.specs.Laws.Round.{Multiple}
use Rattle.host_params.specs.declared.AllocationPolicy.{AllocationPolicy}
use Rattle.host_params.specs.declared.AllocationPolicy.TheVariants.{LowMemory, HighMemory}
use Rattle.host_params.specs.declared.AllocationType.{AllocationType}
use Rattle.boot_ram.specs.Held.{on_node, bytes_of}
use Rattle.address_space.specs.declared.request.AllocatedRange.{AllocatedRange}
use Rattle.address_space.specs.declared.table.AddressRange.{AddressRange}
use Rattle.address_space.specs.declared.usage.AddressUsage.{AddressUsage}
use Rattle.address_space.specs.declared.usage.AddressUsage.TheVariants.{Free, Used}
use Rattle.address_space.specs.declared.usage.ReservedMemoryType.TheVariants.{Vtl2GpaPool}
use Rattle.address_space.specs.Fit.{on_asked_node}
use Rattle.address_space.specs.Table.{max_address_ranges, ranges_at}
use Rattle.address_space.specs.Usage.{usage_of, usage_for}
use Rattle.memory.specs.declared.builder.AddressSpaceManagerBuilder.{AddressSpaceManagerBuilder}
use Rattle.memory.specs.Builder.{all_as, reserved_of}

-- an entry's range with its node
abbrev pub noded_range : AddressRange → TaggedRange
noded_range e = record { range = e.range; tag = e.vnode }

abbrev pub noded_ranges : List AddressRange → List TaggedRange
noded_ranges = map noded_range

-- what a table says of a byte: its node, and what it is used for
pub record Note : Type 0 where
  pub node : ℕ
  pub usage : AddressUsage

abbrev pub note : ℕ → AddressUsage → Note
note n u = record { node = n; usage = u }

-- what the entry that holds the byte at a says of it
abbrev pub note_at : List AddressRange → ℕ → Option Note
note_at [] a = None
note_at (e ∷ es) a = cond (holds e.range a) (Some (note e.vnode e.usage)) (note_at es a)

-- the tag of the range that holds the byte at a: in a RAM list its node
abbrev pub tag_at : List TaggedRange → ℕ → Option ℕ
tag_at [] a = None
tag_at (x ∷ xs) a = cond (holds x.range a) (Some x.tag) (tag_at xs a)

-- an entry lies in one RAM entry, of its node
abbrev pub InRam : List TaggedRange → AddressRange → Type 0
InRam [] e = ⊥
InRam (x ∷ xs) e = ((x.tag ≡ e.vnode) × (contains_range x.range e.range ≡ true)) ⊎ InRam xs e

-- the table of a RAM list
pub record Sound (ram : List TaggedRange) (es : List AddressRange) : Type 0 where
  -- each entry has a byte; they ascend and are disjoint
  pub ordered : Ordered 0 (ranges_at es)
  -- each starts and ends at a page
  pub valid : all_valid_of (ranges_at es) ≡ true
  -- every byte of the RAM lies in exactly one entry, and no other byte in any
  pub covers : (a : ℕ) → holders (ranges_at es) a ≡ holders (ranges_in ram) a
  -- a byte lies in an entry of its node
  pub on-node : (n a : ℕ) → holders (ranges_in (on_node n (noded_ranges es))) a ≡ holders (ranges_in (on_node n ram)) a
  -- each entry lies in one RAM entry, of its node
  pub in-ram : All (InRam ram) es
  -- each node's entries have as many bytes as its RAM
  pub totals : (n : ℕ) → bytes_of (on_node n (noded_ranges es)) ≡ bytes_of (on_node n ram)
  -- they are at most 256
  pub count : length es ≤ max_address_ranges

-- a range is aligned at the end that the policy names: a low one at its start, a high one at its end
abbrev pub AlignedAt : AllocationPolicy → Option ℕ → MemoryRange → Type 0
AlignedAt LowMemory (Some m) r = Multiple m r.start
AlignedAt HighMemory (Some m) r = Multiple m r.end
AlignedAt LowMemory None r = Unit {0}
AlignedAt HighMemory None r = Unit {0}

-- 64 bits hold the alignment, as they do every number of the code. Only the lowest 64 bits of a number are counted, so that a larger one
-- may pass as a power of two and be none
abbrev pub Of64Bits : Option ℕ → Type 0
Of64Bits (Some m) = m < 2 ^ 64
Of64Bits None = Unit {0}

-- of a range of len bytes that was handed out from entries es, which left es'
pub record Handed (asked : Option ℕ) (len : ℕ) (type : AllocationType) (policy : AllocationPolicy) (alignment : Option ℕ)
    (es : List AddressRange) (x : AllocatedRange) (es' : List AddressRange) : Type 0 where
  -- it has that length, and starts and ends at a page
  pub length : length_of x.range ≡ len
  pub valid : valid_range x.range ≡ true
  -- it is on the asked node, and aligned as asked
  pub node : on_asked_node asked x.vnode ≡ true
  pub aligned : AlignedAt policy alignment x.range
  -- each of its bytes was free, on its node, and is now used as the request says
  pub was_free : (a : ℕ) → holds x.range a ≡ true → note_at es a ≡ Some (note x.vnode Free)
  pub now-used : (a : ℕ) → holds x.range a ≡ true → note_at es' a ≡ Some (note x.vnode (usage_for type))
  -- every other byte keeps its node and its usage
  pub others : (a : ℕ) → holds x.range a ≡ false → note_at es' a ≡ note_at es a

-- what the ranges given to a build say of a byte: what the reserved or pool range that holds it is for, else used, else free
abbrev pub said_by : Option ℕ → Bool → AddressUsage
said_by (Some t) used = usage_of t
said_by None used = cond used Used Free

abbrev pub usage_said : AddressSpaceManagerBuilder → List MemoryRange → List MemoryRange → ℕ → AddressUsage
usage_said b configs pools a = said_by (tag_at (reserved_of b configs ++ all_as Vtl2GpaPool pools) a) (holds b.bootshim_used a)

-- a build makes at most so many entries: the RAM's 64 and two for each of 84 used ranges
abbrev pub max_built : ℕ
max_built = 232

-- of the table that a build gives
pub record Built (b : AddressSpaceManagerBuilder) (ram : List TaggedRange) (configs pools : List MemoryRange) (es : List AddressRange) : Type 0 where
  pub sound : Sound ram es
  pub count : length es ≤ max_built
  -- each byte of the RAM is on its node, and used as the ranges given say
  pub says : (n a : ℕ) → tag_at ram a ≡ Some n → note_at es a ≡ Some (note n (usage_said b configs pools a))

-- What a build is given by single ranges (docs/SPEC.md, section 24).
use Rattle.std.specs.Prelude.{ℕ, ◌+◌, Bool, true, ◌&&◌, cond, List, [], ◌∷◌, ◌++◌, map, ltb, length, Option, Some, None}
use Rattle.memory_range.specs.declared.range.MemoryRange.{MemoryRange}
use Rattle.memory_range.specs.declared.range.SplitRange.{SplitRange}
use Rattle.memory_range.specs.declared.range.TaggedRange.{TaggedRange}
use Rattle.memory_range.specs.Range.{split_range_at}
use Rattle.memory_range.specs.Valid.{page_size, valid_range}
use Rattle.address_space.specs.declared.usage.ReservedMemoryType.{ReservedMemoryType}
use Rattle.address_space.specs.declared.usage.ReservedMemoryType.TheVariants.{Vtl2Config, Vtl2Reserved, SidecarImage, TdxPageTables, BootshimLogBuffer, PersistedStateHeader, PersistedStatePayload}
use Rattle.address_space.specs.Usage.{reserved_number_of}
use Rattle.memory.specs.declared.builder.AddressSpaceManagerBuilder.{AddressSpaceManagerBuilder}

-- with the used range and the persisted state, and nothing else
abbrev pub builder_of : MemoryRange → MemoryRange → AddressSpaceManagerBuilder
builder_of used state =
    record {
      bootshim_used = used;
      persisted_state_region = state;
      reserved_range = None;
      sidecar_image = None;
      page_tables = None;
      log_buffer = None;
    }

-- each optional range is the last one given
abbrev pub with_reserved_range : AddressSpaceManagerBuilder → MemoryRange → AddressSpaceManagerBuilder
with_reserved_range b r =
    record {
      bootshim_used = b.bootshim_used;
      persisted_state_region = b.persisted_state_region;
      reserved_range = Some r;
      sidecar_image = b.sidecar_image;
      page_tables = b.page_tables;
      log_buffer = b.log_buffer;
    }

abbrev pub with_sidecar_image : AddressSpaceManagerBuilder → MemoryRange → AddressSpaceManagerBuilder
with_sidecar_image b r =
    record {
      bootshim_used = b.bootshim_used;
      persisted_state_region = b.persisted_state_region;
      reserved_range = b.reserved_range;
      sidecar_image = Some r;
      page_tables = b.page_tables;
      log_buffer = b.log_buffer;
    }

abbrev pub with_page_tables : AddressSpaceManagerBuilder → MemoryRange → AddressSpaceManagerBuilder
with_page_tables b r =
    record {
      bootshim_used = b.bootshim_used;
      persisted_state_region = b.persisted_state_region;
      reserved_range = b.reserved_range;
      sidecar_image = b.sidecar_image;
      page_tables = Some r;
      log_buffer = b.log_buffer;
    }

abbrev pub with_log_buffer : AddressSpaceManagerBuilder → MemoryRange → AddressSpaceManagerBuilder
with_log_buffer b r =
    record {
      bootshim_used = b.bootshim_used;
      persisted_state_region = b.persisted_state_region;
      reserved_range = b.reserved_range;
      sidecar_image = b.sidecar_image;
      page_tables = b.page_tables;
      log_buffer = Some r;
    }

-- row 4 of an optional range, and of all single ranges
abbrev pub option_valid : Option MemoryRange → Bool
option_valid (Some r) = valid_range r
option_valid None = true

unfoldable pub singles_valid : AddressSpaceManagerBuilder → Bool
singles_valid b =
    valid_range b.bootshim_used
    && (valid_range b.persisted_state_region
    && (option_valid b.reserved_range
    && (option_valid b.sidecar_image
    && (option_valid b.page_tables && option_valid b.log_buffer))))

-- a range with the number of the type that it is reserved as
abbrev pub reserved_as : ReservedMemoryType → MemoryRange → TaggedRange
reserved_as t r = record { range = r; tag = reserved_number_of t }

abbrev pub all_as : ReservedMemoryType → List MemoryRange → List TaggedRange
all_as t = map (reserved_as t)

abbrev pub option_as : ReservedMemoryType → Option MemoryRange → List TaggedRange
option_as t (Some r) = reserved_as t r ∷ []
option_as t None = []

-- how many ranges an optional one is
abbrev pub option_count : Option MemoryRange → ℕ
option_count (Some r) = 1
option_count None = 0

-- the persisted state: its first page is the header, the rest the payload
abbrev pub state_of : AddressSpaceManagerBuilder → SplitRange
state_of b = split_range_at b.persisted_state_region page_size

-- a range without bytes is dropped
abbrev pub given_range : MemoryRange → Option MemoryRange
given_range r = cond (ltb r.start r.end) (Some r) None

-- the optional ranges that are given
abbrev pub options_of : AddressSpaceManagerBuilder → List TaggedRange
options_of b =
    option_as Vtl2Reserved b.reserved_range
    ++ option_as SidecarImage b.sidecar_image
    ++ option_as TdxPageTables b.page_tables
    ++ option_as BootshimLogBuffer b.log_buffer

-- the reserved ranges: header, payload, config ranges, and the optional ones
abbrev pub reserved_of : AddressSpaceManagerBuilder → List MemoryRange → List TaggedRange
reserved_of b configs =
    reserved_as PersistedStateHeader (state_of b).left
    ∷ option_as PersistedStatePayload (given_range (state_of b).right)
    ++ all_as Vtl2Config configs
    ++ options_of b

-- how many they are: the payload counts even where it is dropped
abbrev pub reserved_count : AddressSpaceManagerBuilder → List MemoryRange → ℕ
reserved_count b configs = 2 + length configs + length (options_of b)

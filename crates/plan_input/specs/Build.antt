-- What the build is given by records of a text, from the first on (docs/SPEC.md, section 28).
use Rattle.std.specs.Prelude.{ℕ, ◌≡◌, ◌&&◌, List, length, Option}
use Rattle.memory_range.specs.declared.range.MemoryRange.{MemoryRange}
use Rattle.memory_range.specs.Valid.{all_valid_of}
use Rattle.memory.specs.declared.builder.AddressSpaceManagerBuilder.{AddressSpaceManagerBuilder}
use Rattle.memory.specs.Builder.{singles_valid}
use Rattle.plan_record.specs.declared.record.Record.{Record}
use Rattle.plan_input.specs.declared.build.BuildRead.{BuildRead}
use Rattle.plan_input.specs.Record.{records_at}
use Rattle.plan_input.specs.Word.{behind_word, behind_words}
use Rattle.plan_input.specs.Range.{range_first, ranges_first, or_empty}

-- the builder of the single ranges, of which two are to be there
abbrev pub builder_of : Option MemoryRange → Option MemoryRange → Option MemoryRange → Option MemoryRange → Option MemoryRange → Option MemoryRange → AddressSpaceManagerBuilder
builder_of used state keep side tables log =
    record {
      bootshim_used = or_empty used;
      persisted_state_region = or_empty state;
      reserved_range = keep;
      sidecar_image = side;
      page_tables = tables;
      log_buffer = log;
    }

-- the single ranges, the config and the pool ranges, and the records behind them
pub record BuildIn : Type 0 where
  pub builder : AddressSpaceManagerBuilder
  pub configs : List MemoryRange
  pub pools : List MemoryRange
  pub rest : List Record

unfoldable pub build_in : List Record → BuildIn
build_in rs =
    let a = behind_word 4 rs in
    let b = behind_word 5 a in
    let c = behind_words 6 b in
    let d = behind_word 7 c in
    let e = behind_word 8 d in
    let f = behind_word 9 e in
    let g = behind_word 10 f in
    record {
      builder = builder_of (range_first 4 rs) (range_first 5 a) (range_first 7 c) (range_first 8 d) (range_first 9 e) (range_first 10 f);
      configs = ranges_first 6 b;
      pools = ranges_first 11 g;
      rest = behind_words 11 g;
    }

-- an answer that holds them: counts for the lists, and row 4 of the ranges
pub record BuildHeld (text : List ℕ) (b : BuildIn) (r : BuildRead) : Type 0 where
  pub builder : r.builder ≡ b.builder
  pub config-count : r.config_count ≡ length b.configs
  pub pool-count : r.pool_count ≡ length b.pools
  pub valid : r.valid ≡ (singles_valid b.builder && (all_valid_of b.configs && all_valid_of b.pools))
  pub next : records_at text r.next ≡ b.rest

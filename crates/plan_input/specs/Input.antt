-- What an accepted text gives the planner: the values of its records, by their words (docs/SPEC.md, section 28; document 01,
-- "The plan text").
use Rattle.std.specs.Prelude.{List, [], ◌∷◌, ◌++◌}
use Rattle.memory_range.specs.declared.range.MemoryRange.{MemoryRange}
use Rattle.memory_range.specs.Range.{range}
use Rattle.host_params.specs.declared.MemoryEntry.{MemoryEntry}
use Rattle.memory.specs.declared.builder.AddressSpaceManagerBuilder.{AddressSpaceManagerBuilder}
use Rattle.plan_record.specs.declared.record.Get.{Get}
use Rattle.plan_record.specs.declared.record.Pool.{Pool}
use Rattle.plan_record.specs.declared.record.Record.{Record}
use Rattle.plan_record.specs.declared.record.Shape.{Shape}
use Rattle.plan_text.specs.Plan.{Held, shape, range as range_held_by, entry, pool, get, held_by, get_held}
use Rattle.plan_text.specs.Plan as plan
use Rattle.plan_input.specs.Range.{range_option}
use Rattle.plan_input.specs.Record.{behind_one}
use Rattle.plan_input.specs.Once.{first_or, no_shape, no_pool, pool_first}
use Rattle.plan_input.specs.Selection.{selection_in}
use Rattle.plan_input.specs.Build.{build_in}

pub record Input : Type 0 where
  pub shape : Shape
  pub file : MemoryRange
  pub map : List MemoryEntry
  pub imports : List MemoryRange
  pub builder : AddressSpaceManagerBuilder
  pub configs : List MemoryRange
  pub gpools : List MemoryRange
  pub pool : Pool
  pub gets : List Get

-- of a word that stands once the value of its record, of an optional one the value if there is one, of any other all values
unfoldable pub input_of : List Record → Input
input_of rs =
    record {
      shape = first_or no_shape (plan.shapes rs);
      file = first_or (range 0 0) (plan.files rs);
      map = plan.mems rs;
      imports = plan.imports rs;
      builder =
          record {
            bootshim_used = first_or (range 0 0) (plan.useds rs);
            persisted_state_region = first_or (range 0 0) (plan.states rs);
            reserved_range = range_option (plan.keeps rs);
            sidecar_image = range_option (plan.sides rs);
            page_tables = range_option (plan.tables rs);
            log_buffer = range_option (plan.logs rs);
          };
      configs = plan.configs rs;
      gpools = plan.gpools rs;
      pool = first_or no_pool (plan.pools rs);
      gets = plan.gets rs;
    }

-- a request in front of others; none where there is none
abbrev pub get_then : List Get → List Get → List Get
get_then [] gs = []
get_then (g ∷ hs) gs = g ∷ gs

-- the requests of the first records, as long as they are requests
abbrev pub gets_first : List Record → List Get
gets_first [] = []
gets_first (r ∷ rs) = get_then (get_held (held_by r)) (gets_first rs)

-- the input as it is read, one record after the other: for selection, for the build, the pool, and then the requests
unfoldable pub input_read : List Record → Input
input_read rs =
    let s = selection_in rs in
    let b = build_in s.rest in
    record {
      shape = s.shape;
      file = s.file;
      map = s.map;
      imports = s.imports;
      builder = b.builder;
      configs = b.configs;
      gpools = b.pools;
      pool = pool_first b.rest;
      gets = gets_first (behind_one b.rest);
    }

-- the range that a record holds, alone or with a node
abbrev pub held_range : Held → List MemoryRange
held_range (shape s) = []
held_range (range_held_by r) = r ∷ []
held_range (entry e) = e.range ∷ []
held_range (pool p) = []
held_range (get g) = []

-- all ranges of a text, which row 4 looks at before anything else is
abbrev pub text_ranges : List Record → List MemoryRange
text_ranges [] = []
text_ranges (r ∷ rs) = held_range (held_by r) ++ text_ranges rs

-- The lists of a text's records: of each word the values of its records, in the order of their lines
-- (docs/SPEC.md, section 15). Of an accepted text they are what the plan says.
use Rattle.std.specs.Prelude.{ℕ, cond, List, [], ◌∷◌, ◌++◌, eqb}
use Rattle.memory_range.specs.declared.range.MemoryRange.{MemoryRange}
use Rattle.host_params.specs.declared.MemoryEntry.{MemoryEntry}
use Rattle.plan_record.specs.declared.record.Get.{Get}
use Rattle.plan_record.specs.declared.record.Pool.{Pool}
use Rattle.plan_record.specs.declared.record.Record.{Record}
use Rattle.plan_record.specs.declared.record.Record.TheVariants as record_of
use Rattle.plan_record.specs.declared.record.Shape.{Shape}
use Rattle.plan_text.specs.Order.{place_of}

-- what a record holds
pub data Held : Type 0 where
  shape : Shape → Held
  range : MemoryRange → Held
  entry : MemoryEntry → Held
  pool : Pool → Held
  get : Get → Held

abbrev pub held_by : Record → Held
held_by (record_of.Shape s) = shape s
held_by (record_of.File r) = range r
held_by (record_of.Mem e) = entry e
held_by (record_of.Import r) = range r
held_by (record_of.Used r) = range r
held_by (record_of.State r) = range r
held_by (record_of.Config r) = range r
held_by (record_of.Keep r) = range r
held_by (record_of.Side r) = range r
held_by (record_of.Tables r) = range r
held_by (record_of.Log r) = range r
held_by (record_of.Gpool r) = range r
held_by (record_of.Pool p) = pool p
held_by (record_of.Get g) = get g

-- the one value of a kind that is held, or none
abbrev pub shape_held : Held → List Shape
shape_held (shape s) = s ∷ []
shape_held (range r) = []
shape_held (entry e) = []
shape_held (pool p) = []
shape_held (get g) = []

abbrev pub range_held : Held → List MemoryRange
range_held (shape s) = []
range_held (range r) = r ∷ []
range_held (entry e) = []
range_held (pool p) = []
range_held (get g) = []

abbrev pub entry_held : Held → List MemoryEntry
entry_held (shape s) = []
entry_held (range r) = []
entry_held (entry e) = e ∷ []
entry_held (pool p) = []
entry_held (get g) = []

abbrev pub pool_held : Held → List Pool
pool_held (shape s) = []
pool_held (range r) = []
pool_held (entry e) = []
pool_held (pool p) = p ∷ []
pool_held (get g) = []

abbrev pub get_held : Held → List Get
get_held (shape s) = []
get_held (range r) = []
get_held (entry e) = []
get_held (pool p) = []
get_held (get g) = g ∷ []

-- the values of the records whose word has place k
abbrev pub values_at : {A : Type 0} → (Held → List A) → ℕ → List Record → List A
values_at held k [] = []
values_at held k (r ∷ rs) = cond (eqb (place_of r) k) (held (held_by r)) [] ++ values_at held k rs

abbrev pub shapes : List Record → List Shape
shapes rs = values_at shape_held 0 rs

abbrev pub files : List Record → List MemoryRange
files rs = values_at range_held 1 rs

abbrev pub mems : List Record → List MemoryEntry
mems rs = values_at entry_held 2 rs

abbrev pub imports : List Record → List MemoryRange
imports rs = values_at range_held 3 rs

abbrev pub useds : List Record → List MemoryRange
useds rs = values_at range_held 4 rs

abbrev pub states : List Record → List MemoryRange
states rs = values_at range_held 5 rs

abbrev pub configs : List Record → List MemoryRange
configs rs = values_at range_held 6 rs

abbrev pub keeps : List Record → List MemoryRange
keeps rs = values_at range_held 7 rs

abbrev pub sides : List Record → List MemoryRange
sides rs = values_at range_held 8 rs

abbrev pub tables : List Record → List MemoryRange
tables rs = values_at range_held 9 rs

abbrev pub logs : List Record → List MemoryRange
logs rs = values_at range_held 10 rs

abbrev pub gpools : List Record → List MemoryRange
gpools rs = values_at range_held 11 rs

abbrev pub pools : List Record → List Pool
pools rs = values_at pool_held 12 rs

abbrev pub gets : List Record → List Get
gets rs = values_at get_held 13 rs

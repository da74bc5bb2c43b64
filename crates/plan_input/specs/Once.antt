-- The two records that hold neither a range nor an entry of the map, and stand once (docs/SPEC.md, section 28).
use Rattle.std.specs.Prelude.{false, List, [], ◌∷◌, None}
use Rattle.host_params.specs.declared.IsolationType.TheVariants as isolation
use Rattle.host_params.specs.declared.MemoryAllocationMode.TheVariants.{Host}
use Rattle.host_params.specs.declared.Vtl2GpaPoolConfig.TheVariants.{Off}
use Rattle.plan_record.specs.declared.record.Pool.{Pool}
use Rattle.plan_record.specs.declared.record.Record.{Record}
use Rattle.plan_record.specs.declared.record.Shape.{Shape}
use Rattle.plan_text.specs.Plan.{held_by, shape_held, pool_held}

-- the first of a list, or a value in its place
abbrev pub first_or : {A : Type 0} → A → List A → A
first_or d [] = d
first_or d (x ∷ xs) = x

-- in the place of a shape, and of a pool, that is not there
abbrev pub no_shape : Shape
no_shape = record { mode = Host; isolation = isolation.None; memory_size = None }

abbrev pub no_pool : Pool
no_pool = record { config = Off; host_pages = None; processors = 0; split = false }

-- what the first record holds
abbrev pub shape_first : List Record → Shape
shape_first [] = no_shape
shape_first (r ∷ rs) = first_or no_shape (shape_held (held_by r))

abbrev pub pool_first : List Record → Pool
pool_first [] = no_pool
pool_first (r ∷ rs) = first_or no_pool (pool_held (held_by r))

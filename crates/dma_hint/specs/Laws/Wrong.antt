-- Wrong answers about the pool's size: for one guest the definition gives another one.
use Rattle.std.specs.Prelude.{ℕ, ◌*◌, ◌≢◌, Some, None}
use Rattle.std.proofs.Common.{arith}
use Rattle.host_params.specs.declared.Vtl2GpaPoolConfig.TheVariants as config
use Rattle.host_params.specs.declared.Vtl2GpaPoolLookupTable.{Vtl2GpaPoolLookupTable}
use Rattle.host_params.specs.declared.Vtl2GpaPoolLookupTable.TheVariants.{Release, Debug}
use Rattle.dma_hint.specs.Table.{release, debug}
use Rattle.dma_hint.specs.Hint.{memory_bound, dma_hint_of}
use Rattle.dma_hint.specs.Pool.{pool_size}
use Rattle.std.proofs.lemmas.Option.{none-some}

-- the hint for so many MiB of memory
abbrev hint : Vtl2GpaPoolLookupTable → ℕ → ℕ → ℕ
hint table processors mib = dma_hint_of table processors (mib * 1_048_576)

-- the quotient rounded up
pub quotient_rounded_up : hint Release 4 389 ≢ 3_584
unfolding release
quotient_rounded_up = omega arith

-- the count compared whole
pub count_whole : hint Release 65_538 96 ≢ 1_024
unfolding release
count_whole = omega arith

-- another row
pub row_changed : hint Release 16 256 ≢ 4_608
unfolding release
row_changed = omega arith

-- another table
pub release_for-debug : hint Debug 4 496 ≢ 4_096
unfolding debug
release_for-debug = omega arith

-- the bound looked up
pub bound_looked_up : dma_hint_of Release 2 memory_bound ≢ 30_331_355_648
bound_looked_up = omega arith

-- 0 pages for off
pub off_as_no-pages : pool_size config.Off None 4 0x10000000 ≢ Some 0
off_as_no-pages = none-some 0

-- pages cut down to a step
pub cut_down_to_step : hint Release 2 99 ≢ 512
unfolding release
cut_down_to_step = omega arith

-- a step too many
pub step_too_many : hint Release 2 99 ≢ 1_536
unfolding release
step_too_many = omega arith

-- a hint of half a step
pub half_step : hint Release 2 36 ≢ 256
unfolding release
half_step = omega arith

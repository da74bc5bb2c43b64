-- How C says a pool's kind and the host's pages, and how it is told a size (docs/SPEC.md, section 18).
use Rattle.std.specs.Prelude.{ℕ, Bool, true, false, cond, eqb, Option, Some, None}
use Rattle.host_params.specs.declared.Vtl2GpaPoolConfig.{Vtl2GpaPoolConfig}
use Rattle.host_params.specs.declared.Vtl2GpaPoolConfig.TheVariants.{Heuristics, Off, Pages}
use Rattle.host_params.specs.declared.Vtl2GpaPoolLookupTable.TheVariants.{Release, Debug}
use Rattle.dma_hint.specs.Pool.{pool_size}
use Rattle.bootplan_c.specs.Number.{given_number}

-- 1 is that many pages, 2 and 3 are the tables, every other number is off
abbrev pub config_of : ℕ → ℕ → Vtl2GpaPoolConfig
config_of kind pages =
    cond (eqb kind 1) (Pages pages) (cond (eqb kind 2) (Heuristics Release) (cond (eqb kind 3) (Heuristics Debug) Off))

-- the size that is picked for these numbers
abbrev pub picked_size : ℕ → ℕ → Bool → ℕ → ℕ → ℕ → Option ℕ
picked_size kind pages given host_pages processors bytes = pool_size (config_of kind pages) (given_number given host_pages) processors bytes

abbrev pub is_some : Option ℕ → Bool
is_some None = false
is_some (Some pages) = true

-- the number, or what was there before
abbrev pub or_kept : Option ℕ → ℕ → ℕ
or_kept None before = before
or_kept (Some pages) before = pages

-- The private pool's size (docs/SPEC.md, section 18).
use Rattle.std.specs.Prelude.{ℕ, cond, eqb, Option, Some, None}
use Rattle.host_params.specs.declared.Vtl2GpaPoolConfig.{Vtl2GpaPoolConfig}
use Rattle.host_params.specs.declared.Vtl2GpaPoolConfig.TheVariants as config
use Rattle.dma_hint.specs.Hint.{dma_hint_of}

-- the pages that the host gives, where it gives some other than 0
abbrev pub host_or : Option ℕ → ℕ → ℕ
host_or None hint = hint
host_or (Some pages) hint = cond (eqb pages 0) hint pages

-- no pool for off; the command line's pages; otherwise the host's, and the table's where the host gives none or 0
abbrev pub pool_size : Vtl2GpaPoolConfig → Option ℕ → ℕ → ℕ → Option ℕ
pool_size config.Off host_pages processors bytes = None
pool_size (config.Pages pages) host_pages processors bytes = Some pages
pool_size (config.Heuristics table) host_pages processors bytes = Some (host_or host_pages (dma_hint_of table processors bytes))

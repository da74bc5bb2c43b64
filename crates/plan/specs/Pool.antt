-- The private pool of a plan (docs/SPEC.md, section 29).
use Rattle.std.specs.Prelude.{ℕ, Bool, true, false, cond, List, [], Option, Some, None, Ok}
use Rattle.host_params.specs.declared.IsolationType.{IsolationType}
use Rattle.host_params.specs.declared.IsolationType.TheVariants as isolation
use Rattle.address_space.specs.declared.table.AddressRange.{AddressRange}
use Rattle.address_space.specs.declared.table.AddressSpaceManager.{AddressSpaceManager}
use Rattle.address_space.specs.Table.{entries_of}
use Rattle.dma_hint.specs.Pool.{pool_size}
use Rattle.plan_record.specs.declared.record.Pool.{Pool}
use Rattle.private_pool.specs.declared.pool.PrivatePool.{PrivatePool}
use Rattle.private_pool.specs.Pool.{Placement, placed, pool_placed, no_ranges, pool_as}

-- only a guest that is not isolated has a private pool
abbrev pub has_pool : IsolationType → Bool
has_pool isolation.None = true
has_pool isolation.Vbs = false
has_pool isolation.Snp = false
has_pool isolation.Tdx = false
has_pool isolation.Cca = false

-- the pages of the pool for so many bytes of RAM, if there is to be one
unfoldable pub pages_wanted : IsolationType → Pool → ℕ → Option ℕ
pages_wanted i p bytes = cond (has_pool i) (pool_size p.config p.host_pages p.processors bytes) None

-- what the placement comes to on a table with these entries: without a pool nothing is placed
abbrev pub placed_for : Option ℕ → Bool → List AddressRange → Placement
placed_for None split es = placed [] es
placed_for (Some pages) split es = pool_placed pages split es

-- the answer and the table: without a pool no range, and the table as found
abbrev pub no_pool_in : AddressSpaceManager → PrivatePool
no_pool_in m = record { answer = Ok 0; ranges = no_ranges; manager = m }

abbrev pub pool_for : Option ℕ → Bool → AddressSpaceManager → PrivatePool
pool_for None split m = no_pool_in m
pool_for (Some pages) split m = pool_as m (pool_placed pages split (entries_of m))

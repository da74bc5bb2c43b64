-- How much of each list is stored: one more than its row allows, so that a longer list is refused by that row
-- (docs/SPEC.md, section 28).
use Rattle.std.specs.Prelude.{ℕ, ◌+◌}
use Rattle.host_map.specs.Map.{max_entries}
use Rattle.vtl2_ram.specs.Rows.{max_imports}
use Rattle.memory.specs.Rows.{max_reserved}
use Rattle.memory.specs.Used.{max_pools}

abbrev pub map_room : ℕ
map_room = max_entries + 1

abbrev pub import_room : ℕ
import_room = max_imports + 1

abbrev pub config_room : ℕ
config_room = max_reserved + 1

abbrev pub pool_room : ℕ
pool_room = max_pools + 1

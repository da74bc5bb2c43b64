-- `no_entries` meets its contract: each place holds what `no_entry` returns.
use Rattle.host_map.specs.Laws.Entries.{no-entries_of}
use Rattle.host_map.proofs.entries.no_entries.Goals as goal

pub returns : goal.returns
returns c = no-entries_of c.no_entry.ensures

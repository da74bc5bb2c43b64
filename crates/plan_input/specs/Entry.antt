-- Records of the host's map, from the first of a list of records on (docs/SPEC.md, section 28).
use Rattle.std.specs.Prelude.{List, map}
use Rattle.host_params.specs.declared.MemoryEntry.{MemoryEntry}
use Rattle.host_map.specs.Entries.{no_entry}
use Rattle.plan_record.specs.declared.record.Record.{Record}
use Rattle.plan_text.specs.Plan.{held_by, entry_held}
use Rattle.plan_input.specs.Once.{first_or}
use Rattle.plan_input.specs.Word.{words_first}

-- the entry that a record holds
abbrev pub entry_in : Record → MemoryEntry
entry_in r = first_or no_entry (entry_held (held_by r))

-- the entries of the first records, as long as they are records of the map
abbrev pub entries_first : List Record → List MemoryEntry
entries_first rs = map entry_in (words_first 2 rs)

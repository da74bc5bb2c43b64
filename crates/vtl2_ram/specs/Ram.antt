-- The chosen RAM as the answer holds it (docs/SPEC.md, section 19).
use Rattle.std.specs.Prelude.{List, Result, Ok, Err, length, take, replicate}
use Rattle.std.proofs.lemmas.List.Edits.{sets}
use Rattle.memory_range.specs.declared.range.TaggedRange.{TaggedRange}
use Rattle.memory_range.specs.List.{tagged}
use Rattle.boot_ram.specs.Held.{bytes_of}
use Rattle.boot_ram.specs.Verdict.{max_chosen}
use Rattle.refusal.specs.declared.Refusal.{Refusal}
use Rattle.vtl2_ram.specs.declared.ram.Vtl2Ram.{Vtl2Ram}
use Rattle.vtl2_ram.specs.Choice.{Choice, refused, chosen}

-- 64 places that no entry stands in
unfoldable pub no_entries : List TaggedRange
no_entries = replicate max_chosen (tagged 0 0 0)

-- entries in the first places, how many there are, and their bytes
abbrev pub ram_of : List TaggedRange → Vtl2Ram
ram_of xs = record { entries = sets no_entries 0 xs; count = length xs; bytes = bytes_of xs }

-- the entries of an answer
abbrev pub ram_entries : Vtl2Ram → List TaggedRange
ram_entries ram = take ram.count ram.entries

-- the answer of a choice
abbrev pub ram_as : Choice → Result Vtl2Ram Refusal
ram_as (refused r) = Err r
ram_as (chosen xs) = Ok (ram_of xs)

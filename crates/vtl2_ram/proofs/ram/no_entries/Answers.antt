-- Each place holds the default: the range 0..0 of number 0.
use Rattle.vtl2_ram.specs.Laws.Ram.{no-entries_of}
use Rattle.vtl2_ram.proofs.ram.no_entries.Goals as goal

pub returns : goal.returns
returns c = let d = c.default.ensures in no-entries_of c.default.result d.0.0 d.0.1 d.1

-- The entries that are listed stand in the first places, and in those behind them is none.
use Rattle.vtl2_ram.specs.Laws.Ram.{entries-stored}
use Rattle.vtl2_ram.proofs.ram.chosen_ram.Goals as goal

pub returns : goal.returns
returns c =
    let s = c.as_slice-list.ensures in
    rw (← s.value, entries-stored _ s.fits, c.copy_from_slice.ensures.after, c.no_entries-entries.ensures, c.total_bytes.ensures)

-- `is_power_of_two` meets its contract: on a number below 2 ^ 64 the 64 lowest bits are all that
-- `count_ones` counts.
use Rattle.memory_range.specs.Laws.Power.{count_is_ones}
use Rattle.memory_range.proofs.power.is_power_of_two.Goals as goal

pub returns : goal.returns
returns c = rw (count_is_ones 64 c.args.alignment c.ranges.alignment.fits)

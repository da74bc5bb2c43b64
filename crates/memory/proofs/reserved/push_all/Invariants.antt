-- The loop's invariant: the ranges before this one stand behind those that were there.
use mathlib.Core.List.{◌++◌}
use mathlib.Core.Path.{◌≡◌}
use lib.ListN.{take}
use Rattle.memory.specs.Builder.{all_as}
use Rattle.memory.proofs.reserved.push_all.Given as goal

abbrev pub invariant-loop-range : goal.invariant-loop-range
invariant-loop-range g l = l.list.items ≡ l.initial.list.items ++ all_as l.reserved (take l.range-index l.ranges)

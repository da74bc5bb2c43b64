-- Wrong answers about nodes and shares: the definition gives another one.
use Rattle.std.specs.Prelude.{ℕ, ◌<◌, ◌≢◌, Bool, true, false, List, [], ◌∷◌, length, Option, Some, None}
use Rattle.std.proofs.Common.{ap, arith}
use Rattle.std.proofs.lemmas.Bool.{false≢true, lt-leb}
use Rattle.memory_range.specs.Range.{range}
use Rattle.memory_range.specs.Round.{rounded_up}
use Rattle.host_params.specs.declared.MemoryEntry.{MemoryEntry}
use Rattle.host_params.specs.declared.MemoryMapEntryType.TheVariants.{Memory}
use Rattle.boot_nodes.specs.Node.{nodes_in, max_nodes, nodes_held}
use Rattle.boot_nodes.specs.Share.{share_per_node}

abbrev entry : ℕ → ℕ → ℕ → MemoryEntry
entry start end node = record { range = range start end; vnode = node; mem_type = Memory }

-- nodes with repeats
pub nodes_with-repeats : nodes_in (entry 0x1000 0x2000 0 ∷ entry 0x2000 0x3000 0 ∷ []) ≢ 0 ∷ 0 ∷ []
nodes_with-repeats e = omega (arith, ap length e)

-- the last entry not looked at
pub last-entry-not-seen : nodes_in (entry 0x1000 0x2000 0 ∷ entry 0x2000 0x3000 1 ∷ []) ≢ 0 ∷ []
last-entry-not-seen e = omega (arith, ap length e)

abbrev is_count : Option ℕ → Bool
is_count (Some n) = true
is_count None = false

-- a 65th node held
pub node-65-held : (ns : List ℕ) (n : ℕ) → max_nodes < length ns → (nodes_held ns).count ≢ Some n
unfolding nodes_held
node-65-held ns n h = rw (lt-leb (length ns) max_nodes h) (λ e. false≢true (ap is_count e))

-- the bytes of a share; 0 where it is too large
abbrev bytes_of : Option ℕ → ℕ
bytes_of (Some n) = n
bytes_of None = 0

-- rounded before the division
pub share_rounded-first : share_per_node 65_537 2 ≢ Some 65_536
unfolding rounded_up
share_rounded-first e = omega (arith, ap bytes_of e)

-- rounded down
pub share_rounded_down : share_per_node 65_538 2 ≢ Some 32_768
unfolding rounded_up
share_rounded_down e = omega (arith, ap bytes_of e)

use Prim.Native.Nat.{◌≤◌}
use mathlib.Core.Path.{◌≡◌, sym}
use native.Mathlib.Omega.{arith}
use lib.ListN.{length, length-take}
use Rattle.address_space.specs.Table.{entries_of}
use Rattle.address_space.specs.declared.table.AddressSpaceManager.{AddressSpaceManager}
use Rattle.private_pool.proofs.nodes.Laws.{nodes-none, nodes-more, never_full, nodes-count, nodes-all}
use Rattle.private_pool.proofs.nodes.table_nodes.Goals as goal

-- a table has at most 256 entries
few : (m : AddressSpaceManager) → length m.address_space ≡ 256 → length (entries_of m) ≤ 256
few m n = omega (arith, length-take m.count m.address_space)

pub loop-entry-init : goal.loop-entry-init
loop-entry-init c = nodes-none c.entries-entry-items.result.now c.args.numa_nodes.now c.requires

pub returns-in-None : goal.returns-in-None
returns-in-None c =
    let most : length c.entries-entry-items.result.now ≤ 256 = rw c.entries-entry-items.ensures (few c.args.manager (omega arith)) in
    absurd (never_full c.loop-entry.invariant c.loop-entry-test.true most (sym c.in-None.ensures.value))

pub loop-entry-preserved : goal.loop-entry-preserved
loop-entry-preserved c =
    let most : length c.entries-entry-items.result.now ≤ 256 = rw c.entries-entry-items.ensures (few c.args.manager (omega arith)) in
    nodes-more c.loop-entry.invariant c.loop-entry-test.true most (sym c.in-Some.ensures.value) c.in-Some.ensures.nodes_after

pub returns : goal.returns
returns c =
    let most : length c.entries-entry-items.result.now ≤ 256 = rw c.entries-entry-items.ensures (few c.args.manager (omega arith)) in
    let inv = c.loop-entry.invariant in
    let end = c.loop-entry-test.false in
    let within : c.loop-entry.entry-index ≤ 256 = omega arith in
    rw (← c.entries-entry-items.ensures) (nodes-count inv end within, omega (arith, inv.few), nodes-all inv end within)

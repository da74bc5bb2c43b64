-- Laws of the call for a table's ranges: what it comes to, by the tests of the code.
use Rattle.std.specs.Prelude.{ℕ, ◌<◌, ◌≤◌, true, false, ◌≡◌, List, Some, None, Ok, Err}
use Rattle.std.proofs.Common.{lt-ltb, le-ltb}
use Rattle.address_space.specs.declared.table.AddressSpaceManager.{AddressSpaceManager}
use Rattle.address_space.specs.List.{vtl2_ranges}
use Rattle.address_space.specs.Table.{entries_of}
use Rattle.table_words.specs.declared.code.CallError.TheVariants.{NoRoom, BadTable}
use Rattle.table_words.specs.Table.{table_of, read_as}
use Rattle.table_words.specs.Laws.Table.{read_none, read_some}
use Rattle.table_calls.specs.Ranges.{ranges_room}
use Rattle.bootplan_c.specs.Ranges.{ranges_call}

module _ (words : List ℕ) (room : ℕ) where
  pub ranges-room : room < ranges_room → ranges_call words room ≡ Err NoRoom
  unfolding ranges_call
  ranges-room h = rw (lt-ltb room ranges_room h)

  module _ (enough : ranges_room ≤ room) where
    pub ranges-bad : None ≡ read_as (table_of words) → ranges_call words room ≡ Err BadTable
    unfolding ranges_call
    ranges-bad e = rw (le-ltb room ranges_room enough, read_none (table_of words) e)

    pub ranges_done : {m : AddressSpaceManager} → Some m ≡ read_as (table_of words) → ranges_call words room ≡ Ok (vtl2_ranges (entries_of m))
    unfolding ranges_call
    ranges_done e = rw (le-ltb room ranges_room enough, read_some (table_of words) e)

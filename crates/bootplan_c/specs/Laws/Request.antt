-- Laws of the call of requests: what it comes to, by the tests of the code.
use Rattle.std.specs.Prelude.{ℕ, ◌*◌, ◌/◌, ◌%◌, ◌<◌, ◌≤◌, true, false, ◌≡◌, List, length, Some, None, Ok, Err}
use borrow.Author.Tests.{lt-ltb, le-ltb, eq-eqb, ne_eqb}
use Rattle.address_space.specs.declared.table.AddressSpaceManager.{AddressSpaceManager}
use Rattle.table_words.specs.declared.code.CallError.TheVariants.{NoRoom, BadNumber, BadTable}
use Rattle.table_words.specs.Table.{table_in, table_of, read_as}
use Rattle.table_words.specs.Laws.Table.{read_none, read_some}
use Rattle.table_calls.specs.Request.{answers_on, after_all, request_rows}
use Rattle.bootplan_c.specs.Request.{request_call}

module _ (words requests : List ℕ) (room : ℕ) where
  pub request_room : room < 4 * (length requests / 5) → request_call words requests room ≡ Err NoRoom
  unfolding request_call
  request_room h = rw (lt-ltb room (4 * (length requests / 5)) h)

  module _ (enough : 4 * (length requests / 5) ≤ room) where
    pub request-bad : None ≡ read_as (table_of words) → request_call words requests room ≡ Err BadTable
    unfolding request_call
    request-bad e = rw (le-ltb room (4 * (length requests / 5)) enough, read_none (table_of words) e)

    module _ {m : AddressSpaceManager} (e : Some m ≡ read_as (table_of words)) where
      pub request_odd : (length requests % 5 ≡ 0 → ⊥) → request_call words requests room ≡ Err BadNumber
      unfolding request_call
      request_odd n = rw (le-ltb room (4 * (length requests / 5)) enough, read_some (table_of words) e, ne_eqb (length requests % 5) 0 n)

      pub request_done : length requests % 5 ≡ 0 → request_call words requests room
          ≡ Ok (record { answers = answers_on (request_rows requests) (table_in m); after = after_all (request_rows requests) (table_in m) })
      unfolding request_call
      request_done n = rw (le-ltb room (4 * (length requests / 5)) enough, read_some (table_of words) e, eq-eqb (length requests % 5) 0 n)

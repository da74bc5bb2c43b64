-- The private pool placed in a table of words (docs/SPEC.md, section 31; the rule is section 26).
use Rattle.std.specs.Prelude.{ℕ, Bool, true, cond, List, ltb, length, Option, Some, None, Ok, Err}
use Rattle.std.proofs.lemmas.List.Edits.{sets}
use Rattle.address_space.specs.declared.request.AllocatedRange.{AllocatedRange}
use Rattle.address_space.specs.declared.table.AddressRange.{AddressRange}
use Rattle.private_pool.specs.Pool.{Placement, pool_placed}
use Rattle.private_pool.specs.Pool as placement
use Rattle.table_words.specs.declared.code.CallError.TheVariants.{Refused, NoRoom, BadTable}
use Rattle.table_words.specs.Code.{Call, lent_after}
use Rattle.table_words.specs.Table.{Table, table_of, written}
use Rattle.table_calls.specs.Pool.{pieces_room, pieces_words}

-- the pieces placed, in the order of their nodes, and the entries afterwards
pub record Placed : Type 0 where
  pub pieces : List AllocatedRange
  pub entries : List AddressRange

-- a placement as a call
abbrev pub placed_call : Placement → Call Placed
placed_call (placement.refused r) = Err (Refused r)
placed_call (placement.placed xs es) = Ok (record { pieces = xs; entries = es })

abbrev pub pool_on : ℕ → Bool → Option Table → Call Placed
pool_on pages split None = Err BadTable
pool_on pages split (Some t) = placed_call (pool_placed pages split t.entries)

-- the room, then the table, then the placement
unfoldable pub pool_call : ℕ → Bool → List ℕ → ℕ → Call Placed
pool_call pages split words room = cond (ltb room pieces_room) (Err NoRoom) (pool_on pages split (table_of words))

-- the table, the pieces and their count afterwards
abbrev pub pool_table : List ℕ → Call Placed → List ℕ
pool_table found = lent_after found (λ p. written found p.entries true)

abbrev pub pool_pieces : List ℕ → Call Placed → List ℕ
pool_pieces found = lent_after found (λ p. sets found 0 (pieces_words p.pieces))

abbrev pub pool_count_of : ℕ → Call Placed → ℕ
pool_count_of found = lent_after found (λ p. length p.pieces)

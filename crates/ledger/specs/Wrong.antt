-- Planners that are wrong, each in one way and else right (docs/SPEC.md, section 27). The claim is refuted for each of them (Laws/Wrong.antt).
use Rattle.std.specs.Prelude.{ℕ, Bool, cond, ◌||◌, List, [], ◌∷◌, map, eqb, Option, Some, None}
use Rattle.refusal.specs.Rows.{unless}
use Rattle.refusal.specs.Number.{no_fit, pool_node_no_fit, number_of}
use Rattle.memory_range.specs.declared.range.TaggedRange.{TaggedRange}
use Rattle.vtl2_ram.specs.Choice.{Choice}
use Rattle.vtl2_ram.specs.Choice as choice-made
use Rattle.vtl2_ram.specs.Select.{choice}
use Rattle.address_space.specs.declared.request.AllocatedRange.{AllocatedRange}
use Rattle.address_space.specs.declared.table.AddressRange.{AddressRange}
use Rattle.address_space.specs.declared.usage.AddressUsage.TheVariants.{Reserved}
use Rattle.address_space.specs.declared.usage.ReservedMemoryType.TheVariants.{Vtl2Config}
use Rattle.address_space.specs.Request.{Outcome, rows_refusal}
use Rattle.address_space.specs.Request as outcome
use Rattle.address_space.specs.Table.{entry}
use Rattle.memory.specs.Build.{Build, build, has_pool}
use Rattle.memory.specs.Build as table
use Rattle.private_pool.specs.Piece.{PoolPiece, table_nodes, split_pieces}
use Rattle.private_pool.specs.Pool.{Placement, piece_on, pool_placed}
use Rattle.private_pool.specs.Pool as placement
use Rattle.ledger.specs.Call.{Call, request, pool, gave, ranges_given, request_placed, result_answer, answer_on, entries_on}
use Rattle.ledger.specs.Planner.{Answered, Planner}
use Rattle.ledger.specs.Claim.{sets_flag}

-- the state of such a planner: the table's entries, the pool flag, and the first range that it handed out, if any
pub record TableState : Type 0 where
  pub entries : List AddressRange
  pub flag : Bool
  pub first : Option AllocatedRange

-- how a call goes: its answer, and the entries afterwards
abbrev pub Ways : Type 0
Ways = Call → TableState → Answered (List AddressRange)

-- the right way: the definitions' answer, and the entries that they leave
abbrev pub right : Ways
right c s = record { answer = answer_on c s.entries; state = entries_on c s.entries }

-- the right RAM
abbrev pub ram_chosen : Choice → Option (List TaggedRange)
ram_chosen (choice-made.refused n) = None
ram_chosen (choice-made.chosen ram) = Some ram

-- the state after a build: the right table and flag
abbrev pub begun : Bool → Build → Option TableState
begun flag (table.refused n) = None
begun flag (table.built es) = Some (record { entries = es; flag = flag; first = None })

-- the first range handed out: the one before, else the first of these
abbrev pub first_or : Option AllocatedRange → List AllocatedRange → Option AllocatedRange
first_or (Some x) ys = Some x
first_or None [] = None
first_or None (y ∷ ys) = Some y

-- the answer, and the state afterwards
abbrev pub after : Call → TableState → Answered (List AddressRange) → Answered TableState
after c s a =
    record {
      answer = a.answer;
      state =
          record {
            entries = a.state;
            flag = s.flag || sets_flag c a.answer;
            first = first_or s.first (ranges_given a.answer);
          };
    }

-- the planner whose calls go so; its selection, its build and its flag are right
abbrev pub planner_of : Ways → Planner
planner_of ways =
    record {
      select = λ mode isolation size file map imports. ram_chosen (choice mode isolation size file map imports);
      State = TableState;
      entries = λ s. s.entries;
      flag = λ s. s.flag;
      build = λ b ram configs pools. begun (has_pool pools) (build b 0 ram configs pools);
      ask = λ r s. after (request r) s (ways (request r) s);
      place = λ pages split s. after (pool pages split) s (ways (pool pages split) s);
    }

-- it does not look: every request that passes the rows above the search is refused as no-fit
abbrev pub unlooked : Ways
unlooked (request r) s =
    record { answer = result_answer (request_placed (unless outcome.refused (rows_refusal r.len r.alignment) (outcome.refused no_fit))); state = s.entries }
unlooked (pool pages split) s = right (pool pages split) s

-- it leaves free what it hands out: the answer is right, and the table as found
abbrev pub left_free : Ways
left_free c s = record { answer = answer_on c s.entries; state = s.entries }

-- an answer with the same range as before, if there is one
abbrev pub same_or : Option AllocatedRange → List AddressRange → Answered (List AddressRange) → Answered (List AddressRange)
same_or None es a = a
same_or (Some x) es a = record { answer = gave (x ∷ []); state = es }

-- it hands out a range again: once a range was handed out, every request is answered with that one, and leaves the table as found
abbrev pub again : Ways
again (request r) s = same_or s.first s.entries (right (request r) s)
again (pool pages split) s = right (pool pages split) s

-- the entries after the pieces of a split, up to the first that is refused
abbrev pub gone_on : List AddressRange → (List AddressRange → List AddressRange) → Outcome → List AddressRange
gone_on es rest (outcome.refused n) = es
gone_on es rest (outcome.handed x es') = rest es'

abbrev pub pieces_taken : List PoolPiece → List AddressRange → List AddressRange
pieces_taken [] es = es
pieces_taken (p ∷ ps) es = gone_on es (pieces_taken ps) (piece_on p es)

abbrev pub entries_kept : ℕ → List AddressRange → Placement → List AddressRange
entries_kept pages es (placement.refused n) = cond (eqb (number_of n) (number_of pool_node_no_fit)) (pieces_taken (split_pieces pages (table_nodes es)) es) es
entries_kept pages es (placement.placed xs es') = es'

-- it keeps the pieces of a refused pool: where a piece finds no fit, the answer is right, and the table keeps what the pieces before it took
abbrev pub pieces_kept : Ways
pieces_kept (request r) s = right (request r) s
pieces_kept (pool pages split) s =
    record { answer = answer_on (pool pages split) s.entries; state = entries_kept pages s.entries (pool_placed pages split s.entries) }

-- entries of which the one that ends at a, or at the start of one of the ranges, is a config range
abbrev pub retyped : AddressRange → AddressRange
retyped e = entry e.range e.vnode (Reserved Vtl2Config)

abbrev pub retype_below : ℕ → List AddressRange → List AddressRange
retype_below a = map (λ e. cond (eqb e.range.end a) (retyped e) e)

abbrev pub retype_each : List AllocatedRange → List AddressRange → List AddressRange
retype_each [] es = es
retype_each (x ∷ xs) es = retype_each xs (retype_below x.range.start es)

-- it retypes a neighbour: the answer is right, and the entry that ends where a range handed out starts becomes a config range
abbrev pub neighbour : Ways
neighbour c s =
    record { answer = answer_on c s.entries; state = retype_each (ranges_given (answer_on c s.entries)) (entries_on c s.entries) }

-- it refuses every map and every build
abbrev pub refusing : Planner
refusing =
    record {
      select = λ mode isolation size file map imports. None;
      State = TableState;
      entries = λ s. s.entries;
      flag = λ s. s.flag;
      build = λ b ram configs pools. None;
      ask = λ r s. after (request r) s (right (request r) s);
      place = λ pages split s. after (pool pages split) s (right (pool pages split) s);
    }

-- What a build is given, as words (docs/SPEC.md, section 31).
use Rattle.std.specs.Prelude.{ℕ, ◌/◌, ◌%◌, Bool, cond, ◌&&◌, ◌||◌, List, eqb, leb, length, get_or, Option, Some, None, Result, Ok, Err}
use Rattle.refusal.specs.declared.Refusal.{Refusal}
use Rattle.memory_range.specs.declared.range.MemoryRange.{MemoryRange}
use Rattle.memory_range.specs.Range.{range}
use Rattle.memory.specs.declared.builder.AddressSpaceManagerBuilder.{AddressSpaceManagerBuilder}
use Rattle.memory.specs.declared.init.Init.{Init}
use Rattle.memory.specs.Build.{Build, build, has_pool, init_as}
use Rattle.memory.specs.Build as outcome
use Rattle.table_words.specs.declared.code.CallError.TheVariants.{Refused, BadNumber}
use Rattle.table_words.specs.Code.{Call}
use Rattle.table_words.specs.Table.{Table, table, table_in}
use Rattle.address_space.specs.declared.table.AddressSpaceManager.{AddressSpaceManager}
use Rattle.address_space.specs.Table.{entries_of}
use Rattle.table_words.specs.List.{ranges_in, ram_rows, rams_in, nodes_good}

-- a range that is 0 to 0 is absent
abbrev pub option_of : ℕ → ℕ → Option MemoryRange
option_of s e = cond (eqb s 0 && eqb e 0) None (Some (range s e))

-- the single ranges; the optional ones are two words each: reserved range, sidecar image, page tables, log buffer
abbrev pub builder_of : MemoryRange → MemoryRange → List ℕ → AddressSpaceManagerBuilder
builder_of used state ws =
    record {
      bootshim_used = used;
      persisted_state_region = state;
      reserved_range = option_of (get_or ws 0 0) (get_or ws 1 0);
      sidecar_image = option_of (get_or ws 2 0) (get_or ws 3 0);
      page_tables = option_of (get_or ws 4 0) (get_or ws 5 0);
      log_buffer = option_of (get_or ws 6 0) (get_or ws 7 0);
    }

-- a list has at most so many items; above the bounds of rows 15, 17 and 20, so that these rows refuse what is above theirs
abbrev pub list_room : ℕ
list_room = 128

-- whether words are a list of so many words for each item
abbrev pub list_good : ℕ → List ℕ → Bool
list_good width ws = eqb (length ws % width) 0 && leb (length ws / width) list_room

abbrev pub given_good : List ℕ → List ℕ → List ℕ → List ℕ → Bool
given_good ram reserved configs pools =
    list_good 3 ram && (eqb (length reserved) 8 && (list_good 2 configs && (list_good 2 pools && nodes_good (ram_rows ram))))

-- a build as a call: the table, and its flag set where there are pool ranges
abbrev pub built_call : Bool → Build → Call Table
built_call flag (outcome.refused r) = Err (Refused r)
built_call flag (outcome.built es) = Ok (table es flag)

-- what a build from words comes to, on such a table
abbrev pub words_build : MemoryRange → MemoryRange → Table → List ℕ → List ℕ → List ℕ → List ℕ → Call Table
words_build used state t ram reserved configs pools =
    cond (given_good ram reserved configs pools)
    (built_call (t.flag || has_pool (ranges_in pools))
    (build (builder_of used state reserved) (length t.entries) (rams_in ram) (ranges_in configs) (ranges_in pools)))
    (Err BadNumber)

-- what an answer stands for
abbrev pub built_in : Call AddressSpaceManager → Call Table
built_in (Err e) = Err e
built_in (Ok m) = Ok (table_in m)

-- the answer of the build as a call: a refusal, or the whole table, with what lies behind its entries
abbrev pub answer_call : Result (Unit {0}) Refusal → AddressSpaceManager → Call AddressSpaceManager
answer_call (Err r) m = Err (Refused r)
answer_call (Ok u) m = Ok m

abbrev pub init_call : Init → Call AddressSpaceManager
init_call i = answer_call i.answer i.manager

-- the whole table that a build from words answers
abbrev pub words_init : MemoryRange → MemoryRange → AddressSpaceManager → List ℕ → List ℕ → List ℕ → List ℕ → Call AddressSpaceManager
words_init used state m ram reserved configs pools =
    cond (given_good ram reserved configs pools)
    (init_call
    (init_as m (has_pool (ranges_in pools))
    (build (builder_of used state reserved) (length (entries_of m)) (rams_in ram) (ranges_in configs) (ranges_in pools))))
    (Err BadNumber)

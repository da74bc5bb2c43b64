-- The claim about a planner, a build that it accepts and a list of calls: demand 3 (docs/SPEC.md, section 27).
use Rattle.std.specs.Prelude.{ℕ, ◌<◌, ◌≡◌, Bool, true, false, cond, ◌||◌, List, [], ◌∷◌, Option, Some}
use Rattle.refusal.specs.declared.Refusal.{Refusal}
use Rattle.memory_range.specs.declared.range.MemoryRange.{MemoryRange}
use Rattle.memory_range.specs.declared.range.TaggedRange.{TaggedRange}
use Rattle.memory_range.specs.Bytes.{holders, All}
use Rattle.memory_range.specs.List.{ranges_in}
use Rattle.memory_range.specs.Range.{holds}
use Rattle.host_params.specs.declared.IsolationType.{IsolationType}
use Rattle.host_params.specs.declared.MemoryAllocationMode.{MemoryAllocationMode}
use Rattle.host_params.specs.declared.MemoryAllocationMode.TheVariants.{Vtl2}
use Rattle.host_params.specs.declared.MemoryEntry.{MemoryEntry}
use Rattle.boot_ram.specs.Held.{on_node, bytes_of}
use Rattle.vtl2_ram.specs.Choice.{chosen}
use Rattle.vtl2_ram.specs.Claim.{share_in, InOrder, BootClaim}
use Rattle.host_map.specs.Map.{entries_in}
use Rattle.vtl2_ram.specs.Select.{choice}
use Rattle.address_space.specs.declared.request.AllocatedRange.{AllocatedRange}
use Rattle.address_space.specs.declared.table.AddressRange.{AddressRange}
use Rattle.address_space.specs.Table.{ranges_at}
use Rattle.address_space.specs.Usage.{is_free, is_pool}
use Rattle.memory.specs.declared.builder.AddressSpaceManagerBuilder.{AddressSpaceManagerBuilder}
use Rattle.memory.specs.Build.{build, built, has_pool}
use Rattle.memory_claims.specs.Claim.{noded_range, noded_ranges, note, note_at, tag_at}
use Rattle.ledger.specs.Call.{Call, request, pool, Answer, refused, gave, ranges_given, answer_on, entries_on}
use Rattle.ledger.specs.Ledger.{Ledger, cut, opened, usage_by}
use Rattle.ledger.specs.Search.{Searched}
use Rattle.ledger.specs.Planner.{Planner, Event, events, state_after, ledger_after}

-- the free entries of a table with their nodes
abbrev pub free_of : List AddressRange → List TaggedRange
free_of [] = []
free_of (e ∷ es) = cond (is_free e.usage) (noded_range e ∷ free_of es) (free_of es)

-- each byte of ranges that are cut in turn lies in a free range of their node at that time
abbrev pub WereFree : List AllocatedRange → List TaggedRange → Type 0
WereFree [] free = Unit {0}
WereFree (x ∷ xs) free = ((a : ℕ) → holds x.range a ≡ true → tag_at free a ≡ Some x.vnode) × WereFree xs (cut x.range free)

-- the byte at a lies in one of the ranges
abbrev pub held_in : List AllocatedRange → ℕ → Bool
held_in [] a = false
held_in (x ∷ xs) a = holds x.range a || held_in xs a

-- whether a call hands out pool memory
abbrev pub sets_flag : Call → Answer → Bool
sets_flag c (refused n) = false
sets_flag (request r) (gave xs) = is_pool r.type
sets_flag (pool pages split) (gave xs) = true

-- of a call in a run of the planner P
module _ (P : Planner) (ram : List TaggedRange) where
  pub record CallClaim (e : Event P.State) : Type 0 where
    -- the answer is the definitions' on the table that the call met, and so is the table that it leaves
    pub answer : e.answer ≡ answer_on e.call (P.entries e.met)
    pub table : P.entries e.left ≡ entries_on e.call (P.entries e.met)
    -- each byte that it hands out is free in the ledger as it stands then: it was free at first and no call has been given it
    pub were-free : WereFree (ranges_given e.answer) e.ledger.free
    -- every byte that it does not hand out keeps its node and its usage
    pub others-kept : (a : ℕ) → held_in (ranges_given e.answer) a ≡ false → note_at (P.entries e.left) a ≡ note_at (P.entries e.met) a
    -- a refusal leaves the table as found
    pub refused-kept : (n : Refusal) → e.answer ≡ refused n → P.entries e.left ≡ P.entries e.met
    -- the flag is set where pool memory is handed out, and else as found
    pub flag : P.flag e.left ≡ (P.flag e.met || sets_flag e.call e.answer)
    -- each search is turned away as no-fit exactly where no free range of the ledger, as it stands at that search, meets the fit rule
    pub searches : Searched ram e.call e.ledger.free e.answer

-- of a list of calls from the state s of a build
module _ (P : Planner) (b : AddressSpaceManagerBuilder) (ram : List TaggedRange) (configs pools : List MemoryRange) where
  abbrev pub first_ledger : Ledger
  first_ledger = opened ram b.bootshim_used pools

  abbrev pub last_table : List Call → P.State → List AddressRange
  last_table calls s = P.entries (state_after P calls s)

  abbrev pub last_ledger : List Call → P.State → Ledger
  last_ledger calls s = ledger_after P calls s first_ledger

  pub record Claim (s : P.State) (calls : List Call) : Type 0 where
    -- the build's table and flag are the definitions'
    pub first-table : build b 0 ram configs pools ≡ built (P.entries s)
    pub first_flag : P.flag s ≡ has_pool pools
    -- afterwards every byte of the RAM lies in exactly one entry, and no other byte in any
    pub once : (a : ℕ) → 0 < holders (ranges_in ram) a → holders (ranges_at (last_table calls s)) a ≡ 1
    pub no_other : (a : ℕ) → holders (ranges_in ram) a ≡ 0 → holders (ranges_at (last_table calls s)) a ≡ 0
    -- the bytes of each node's entries are as many as those of its RAM
    pub totals : (n : ℕ) → bytes_of (on_node n (noded_ranges (last_table calls s))) ≡ bytes_of (on_node n ram)
    -- the free entries are the ledger's free ranges, in order, alike in start, end and node
    pub free-ranges : free_of (last_table calls s) ≡ (last_ledger calls s).free
    -- every byte of the RAM has its node, and is used as the call that last cut it says, else as its build does
    pub usages : (n a : ℕ) → tag_at ram a ≡ Some n → note_at (last_table calls s) a ≡ Some (note n (usage_by b configs pools (last_ledger calls s) a))
    -- of each call
    pub calls_hold : All (CallClaim P ram) (events P calls s first_ledger)

-- of the RAM that is selected from an accepted map: it is the definitions', in order, and in boot mode each node of the map has what is due to it
pub record SelectionClaim (mode : MemoryAllocationMode) (isolation : IsolationType) (size : Option ℕ) (file : MemoryRange) (map : List MemoryEntry)
    (imports : List MemoryRange) (ram : List TaggedRange) : Type 0 where
  pub same : choice mode isolation size file map imports ≡ chosen ram
  pub in_order : InOrder ram
  pub boot : mode ≡ Vtl2 → BootClaim (share_in size file map) file (entries_in map) imports ram

-- demand 3, whole: of a planner, whatever it is to select from, to build and to be called for
pub record Demand3 (P : Planner) : Type 0 where
  -- every map that the definitions accept is accepted, and what is claimed of the RAM holds
  pub selects : (mode : MemoryAllocationMode) (isolation : IsolationType) (size : Option ℕ) (file : MemoryRange) (map : List MemoryEntry)
      (imports : List MemoryRange) (ram : List TaggedRange) → choice mode isolation size file map imports ≡ chosen ram
      → P.select mode isolation size file map imports ≡ Some ram
  pub selection : (mode : MemoryAllocationMode) (isolation : IsolationType) (size : Option ℕ) (file : MemoryRange) (map : List MemoryEntry)
      (imports : List MemoryRange) (ram : List TaggedRange) → P.select mode isolation size file map imports ≡ Some ram
      → SelectionClaim mode isolation size file map imports ram
  -- every build that the definitions accept is accepted, and what is claimed of every list of calls from it holds
  pub builds : (b : AddressSpaceManagerBuilder) (ram : List TaggedRange) (configs pools : List MemoryRange) (es : List AddressRange)
      → build b 0 ram configs pools ≡ built es → (s : P.State) × (P.build b ram configs pools ≡ Some s)
  pub calls : (b : AddressSpaceManagerBuilder) (ram : List TaggedRange) (configs pools : List MemoryRange) (s : P.State)
      → P.build b ram configs pools ≡ Some s → (calls : List Call) → Claim P b ram configs pools s calls

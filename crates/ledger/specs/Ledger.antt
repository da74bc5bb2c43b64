-- The ledger, document 01's book (docs/SPEC.md, section 27): which ranges are free, and what was cut from them. It is fed the RAM list, the used and pool
-- ranges of the build, and each call's arguments and answer; nothing of the table.
use Rattle.std.specs.Prelude.{ℕ, min, max, cond, List, [], ◌∷◌, ◌++◌, ltb, Option, Some, None}
use Rattle.memory_range.specs.declared.range.MemoryRange.{MemoryRange}
use Rattle.memory_range.specs.declared.range.TaggedRange.{TaggedRange}
use Rattle.memory_range.specs.List.{tagged}
use Rattle.memory_range.specs.Range.{holds}
use Rattle.address_space.specs.declared.request.AllocatedRange.{AllocatedRange}
use Rattle.address_space.specs.declared.usage.AddressUsage.{AddressUsage}
use Rattle.memory.specs.declared.builder.AddressSpaceManagerBuilder.{AddressSpaceManagerBuilder}
use Rattle.memory_claims.specs.Claim.{usage_said}
use Rattle.ledger.specs.Call.{Call, Answer, refused, gave, usage_of_call}

-- a range that a call was given, and what it is used for since
pub record Cut : Type 0 where
  pub range : MemoryRange
  pub usage : AddressUsage

-- the free ranges with their nodes, document 01's stretches, and what was cut from them, the last first
pub record Ledger : Type 0 where
  pub free : List TaggedRange
  pub cuts : List Cut

-- what is over from s to e, of node n; nothing where no byte lies between
abbrev pub over : ℕ → ℕ → ℕ → List TaggedRange
over n s e = cond (ltb s e) (tagged s e n ∷ []) []

-- free ranges after the range r is cut from them: of each what is over below r and above it
abbrev pub cut : MemoryRange → List TaggedRange → List TaggedRange
cut r [] = []
cut r (x ∷ xs) =
    over x.tag x.range.start (min x.range.end r.start)
    ++ over x.tag (max x.range.start r.end) x.range.end
    ++ cut r xs

abbrev pub cut_each : List MemoryRange → List TaggedRange → List TaggedRange
cut_each [] xs = xs
cut_each (r ∷ rs) xs = cut_each rs (cut r xs)

-- at first: the RAM, from which the used range and the pool ranges are cut
abbrev pub opened : List TaggedRange → MemoryRange → List MemoryRange → Ledger
opened ram used pools = record { free = cut_each (used ∷ pools) ram; cuts = [] }

-- ranges that are handed out are cut in turn
abbrev pub cut_given : AddressUsage → List AllocatedRange → Ledger → Ledger
cut_given u [] l = l
cut_given u (x ∷ xs) l =
    cut_given u xs (record { free = cut x.range l.free; cuts = record { range = x.range; usage = u } ∷ l.cuts })

-- after a call and its answer; a refusal cuts nothing
abbrev pub fed : Call → Answer → Ledger → Ledger
fed c (refused n) l = l
fed c (gave xs) l = cut_given (usage_of_call c) xs l

-- what the byte at a is used for since it was last cut, if it was
abbrev pub last_cut : List Cut → ℕ → Option AddressUsage
last_cut [] a = None
last_cut (c ∷ cs) a = cond (holds c.range a) (Some c.usage) (last_cut cs a)

-- what it is used for: as the call that last cut it says, else as the build does
abbrev pub usage_since : Option AddressUsage → AddressUsage → AddressUsage
usage_since (Some u) v = u
usage_since None v = v

abbrev pub usage_by : AddressSpaceManagerBuilder → List MemoryRange → List MemoryRange → Ledger → ℕ → AddressUsage
usage_by b configs pools l a = usage_since (last_cut l.cuts a) (usage_said b configs pools a)

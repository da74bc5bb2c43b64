-- Calls on a table and their answers (docs/SPEC.md, section 27).
use Rattle.std.specs.Prelude.{ℕ, Bool, List, [], ◌∷◌, take, Option, Result, Ok, Err}
use Rattle.refusal.specs.declared.Refusal.{Refusal}
use Rattle.host_params.specs.declared.AllocationPolicy.{AllocationPolicy}
use Rattle.host_params.specs.declared.AllocationType.{AllocationType}
use Rattle.host_params.specs.declared.AllocationType.TheVariants.{GpaPool}
use Rattle.address_space.specs.declared.request.AllocatedRange.{AllocatedRange}
use Rattle.address_space.specs.declared.table.AddressRange.{AddressRange}
use Rattle.address_space.specs.declared.usage.AddressUsage.{AddressUsage}
use Rattle.address_space.specs.Request.{Outcome, requested}
use Rattle.address_space.specs.Request as outcome
use Rattle.address_space.specs.Usage.{usage_for}
use Rattle.private_pool.specs.Pool.{Placement, pool_placed}
use Rattle.private_pool.specs.Pool as placement
use Rattle.memory_claims.specs.Claim.{Of64Bits}

-- a request: a node or none, a length, a kind, a policy, and an alignment or none, which is a number of 64 bits
pub record Request : Type 0 where
  pub asked : Option ℕ
  pub len : ℕ
  pub type : AllocationType
  pub policy : AllocationPolicy
  pub alignment : Option ℕ
  pub bits : Of64Bits alignment

-- a call: a request, or the placement of a pool of so many pages, whose split may be forced
pub data Call : Type 0 where
  request : Request → Call
  pool : ℕ → Bool → Call

-- an answer: a refusal, or the ranges handed out, in turn: one for a request, a pool's pieces in the order of their nodes
pub data Answer : Type 0 where
  refused : Refusal → Answer
  gave : List AllocatedRange → Answer

-- the ranges that an answer hands out
abbrev pub ranges_given : Answer → List AllocatedRange
ranges_given (refused n) = []
ranges_given (gave xs) = xs

-- what the bytes that a call hands out are used for
abbrev pub usage_of_call : Call → AddressUsage
usage_of_call (request r) = usage_for r.type
usage_of_call (pool pages split) = usage_for GpaPool

-- what the definitions of a request and of a placement give on a table with these entries: a refusal, or ranges and the entries afterwards
abbrev pub request_placed : Outcome → Placement
request_placed (outcome.refused n) = placement.refused n
request_placed (outcome.handed x es) = placement.placed (x ∷ []) es

abbrev pub result_on : Call → List AddressRange → Placement
result_on (request r) es = request_placed (requested r.asked r.len r.type r.policy r.alignment es)
result_on (pool pages split) es = pool_placed pages split es

-- their answer, and the entries that they leave: those that were met, where refused
abbrev pub result_answer : Placement → Answer
result_answer (placement.refused n) = refused n
result_answer (placement.placed xs es) = gave xs

abbrev pub result_entries : List AddressRange → Placement → List AddressRange
result_entries met (placement.refused n) = met
result_entries met (placement.placed xs es) = es

abbrev pub answer_on : Call → List AddressRange → Answer
answer_on c es = result_answer (result_on c es)

abbrev pub entries_on : Call → List AddressRange → List AddressRange
entries_on c es = result_entries es (result_on c es)

-- the answers of the code's types
abbrev pub request_answer : Result AllocatedRange Refusal → Answer
request_answer (Ok x) = gave (x ∷ [])
request_answer (Err n) = refused n

abbrev pub pool_answer : Result ℕ Refusal → List AllocatedRange → Answer
pool_answer (Ok k) xs = gave (take k xs)
pool_answer (Err n) xs = refused n

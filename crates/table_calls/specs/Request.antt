-- Requests as words, each answered on the table that the one before left (docs/SPEC.md, section 31; the rule is section 22).
use Rattle.std.specs.Prelude.{ℕ, ◌-◌, ◌/◌, ◌^◌, Bool, cond, ◌&&◌, ◌||◌, List, [], ◌∷◌, ◌++◌, eqb, leb, ltb, length, get_or, Option, Some, None, Result, Ok, Err}
use Rattle.host_params.specs.declared.AllocationPolicy.{AllocationPolicy}
use Rattle.host_params.specs.declared.AllocationPolicy.TheVariants.{LowMemory, HighMemory}
use Rattle.host_params.specs.declared.AllocationType.{AllocationType}
use Rattle.host_params.specs.declared.AllocationType.TheVariants.{GpaPool, SidecarNode, TdxPageTables}
use Rattle.address_space.specs.declared.request.AllocatedRange.{AllocatedRange}
use Rattle.address_space.specs.declared.table.AddressRange.{AddressRange}
use Rattle.address_space.specs.Request.{Outcome, requested, search_refusal}
use Rattle.address_space.specs.Request as outcome
use Rattle.address_space.specs.Usage.{is_pool}
use Rattle.refusal.specs.declared.Refusal.{Refusal}
use Rattle.refusal.specs.Number.{number_of}
use Rattle.table_words.specs.declared.code.CallError.{CallError}
use Rattle.table_words.specs.declared.code.CallError.TheVariants.{Refused, BadNumber}
use Rattle.table_words.specs.Code.{Call, error_code}
use Rattle.table_words.specs.Rows.{rows}
use Rattle.table_words.specs.Table.{Table, table}
use Rattle.table_calls.specs.declared.request.Request.{Request}

-- the word for any node, and for no alignment
abbrev pub none_word : ℕ
none_word = 2 ^ 64 - 1

-- the words of a request: node, length, type, policy, alignment
abbrev pub node_of : ℕ → Option ℕ
node_of w = cond (eqb w none_word) None (Some w)

abbrev pub type_of : ℕ → AllocationType
type_of w = cond (eqb w 0) GpaPool (cond (eqb w 1) SidecarNode TdxPageTables)

abbrev pub policy_of : ℕ → AllocationPolicy
policy_of w = cond (eqb w 0) LowMemory HighMemory

abbrev pub alignment_of : ℕ → Option ℕ
alignment_of w = cond (eqb w none_word) None (Some w)

-- whether words stand for a node, a type and a policy: any length and alignment do
abbrev pub node_good : ℕ → Bool
node_good w = eqb w none_word || ltb w (2 ^ 32)

abbrev pub request_good : List ℕ → Bool
request_good r = node_good (get_or r 0 0) && (leb (get_or r 2 0) 2 && leb (get_or r 3 0) 1)

-- the same word by word: what it stands for, where it stands for something
abbrev pub node_read : ℕ → Call (Option ℕ)
node_read w = cond (node_good w) (Ok (node_of w)) (Err BadNumber)

abbrev pub type_read : ℕ → Call AllocationType
type_read w = cond (leb w 2) (Ok (type_of w)) (Err BadNumber)

abbrev pub policy_read : ℕ → Call AllocationPolicy
policy_read w = cond (leb w 1) (Ok (policy_of w)) (Err BadNumber)

-- what words ask for, where they stand for a request
abbrev pub request_of : List ℕ → Request
request_of r = record {
  node = node_of (get_or r 0 0);
  len = get_or r 1 0;
  allocation_type = type_of (get_or r 2 0);
  policy = policy_of (get_or r 3 0);
  alignment = alignment_of (get_or r 4 0);
}

abbrev pub request_read : List ℕ → Call Request
request_read r = cond (request_good r) (Ok (request_of r)) (Err BadNumber)

-- what refuses words before the split: that they do not stand for a request, or rows 22 to 25
abbrev pub refused_call : Option Refusal → Option CallError
refused_call None = None
refused_call (Some n) = Some (Refused n)

abbrev pub words_refusal : List ℕ → List AddressRange → Option CallError
words_refusal r es =
    cond (request_good r)
    (refused_call (search_refusal (node_of (get_or r 0 0)) (get_or r 1 0) (policy_of (get_or r 3 0)) (alignment_of (get_or r 4 0)) es))
    (Some BadNumber)

-- the range that is handed out, and the entries afterwards
pub record Handed : Type 0 where
  pub range : AllocatedRange
  pub entries : List AddressRange

-- an outcome as a call
abbrev pub handed_call : Outcome → Call Handed
handed_call (outcome.refused r) = Err (Refused r)
handed_call (outcome.handed x es) = Ok (record { range = x; entries = es })

-- what a request comes to on a table with these entries
abbrev pub outcome_of : Request → List AddressRange → Outcome
outcome_of q = requested q.node q.len q.allocation_type q.policy q.alignment

-- what the words of a request come to on such a table
abbrev pub words_outcome : List ℕ → List AddressRange → Call Handed
words_outcome r es = cond (request_good r) (handed_call (outcome_of (request_of r) es)) (Err BadNumber)

-- the answer alone
abbrev pub answer_of : Call Handed → Call AllocatedRange
answer_of (Err e) = Err e
answer_of (Ok h) = Ok h.range

-- the words of an answer: the number, and the range with its node, 0 where refused
abbrev pub range_answer : AllocatedRange → List ℕ
range_answer x = 0 ∷ x.range.start ∷ x.range.end ∷ x.vnode ∷ []

abbrev pub refusal_answer : ℕ → List ℕ
refusal_answer n = n ∷ 0 ∷ 0 ∷ 0 ∷ []

abbrev pub answer_words : Call AllocatedRange → List ℕ
answer_words (Err e) = refusal_answer (error_code e)
answer_words (Ok x) = range_answer x

-- the same of an outcome; and a request's answer as a call
abbrev pub outcome_answer : Outcome → List ℕ
outcome_answer (outcome.refused n) = refusal_answer (number_of n)
outcome_answer (outcome.handed x es) = range_answer x

abbrev pub request_call : Result AllocatedRange Refusal → Call AllocatedRange
request_call (Err n) = Err (Refused n)
request_call (Ok x) = Ok x

-- the table that a request leaves: the one that it met, where refused
abbrev pub left_by : Table → AllocationType → Call Handed → Table
left_by t type (Err e) = t
left_by t type (Ok h) = table h.entries (t.flag || is_pool type)

abbrev pub after_one : List ℕ → Table → Table
after_one r t = left_by t (type_of (get_or r 2 0)) (words_outcome r t.entries)

-- the answers of requests, and the table that the last one leaves
abbrev pub answers_on : List (List ℕ) → Table → List ℕ
answers_on [] t = []
answers_on (r ∷ rs) t = answer_words (answer_of (words_outcome r t.entries)) ++ answers_on rs (after_one r t)

abbrev pub after_all : List (List ℕ) → Table → Table
after_all [] t = t
after_all (r ∷ rs) t = after_all rs (after_one r t)

-- five words for each request
abbrev pub request_rows : List ℕ → List (List ℕ)
request_rows ws = rows 5 (length ws / 5) ws

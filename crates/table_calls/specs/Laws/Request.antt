-- Laws of requests as words.
use Rattle.std.specs.Prelude.{ℕ, Bool, true, false, cond, ◌||◌, ◌≡◌, refl, List, ◌∷◌, ◌++◌, length, get_or, Option, Some, None, Ok, Err}
use Rattle.std.proofs.Common.{sym, ap, ◌∙◌}
use Rattle.refusal.specs.declared.Refusal.{Refusal}
use Rattle.refusal.specs.Answer.{rows_as}
use Rattle.refusal.specs.Laws.Answer.{rows_refused}
use Rattle.address_space.specs.declared.request.AllocatedRange.{AllocatedRange}
use Rattle.host_params.specs.declared.AllocationType.{AllocationType}
use Rattle.address_space.specs.declared.table.AddressRange.{AddressRange}
use Rattle.address_space.specs.declared.table.AddressSpaceManager.{AddressSpaceManager}
use Rattle.address_space.specs.Request.{Outcome, refused, handed, allocation_as, search_refusal}
use Rattle.address_space.specs.Table.{pool_of}
use Rattle.address_space.specs.Usage.{is_pool}
use Rattle.address_space.specs.Laws.Split.{entries_with}
use Rattle.address_space.specs.Laws.Request.{search_refused}
use Rattle.table_words.specs.declared.code.CallError.{CallError}
use Rattle.table_words.specs.declared.code.CallError.TheVariants.{Refused, BadNumber}
use Rattle.table_words.specs.Code.{Call, error_code}
use Rattle.table_words.specs.Table.{Table, table_in}
use Rattle.table_calls.specs.declared.request.Request.{Request}
use Rattle.table_calls.specs.Request.{Handed, node_of, policy_of, alignment_of, request_good, request_of, request_read, refused_call, words_refusal, handed_call, outcome_of, words_outcome, answer_of, outcome_answer, request_call, answer_words, refusal_answer, left_by, after_one, answers_on, after_all}

-- the words of an answer are those of the outcome
words_as : (m : AddressSpaceManager) (t : AllocationType) (o : Outcome) → answer_words (request_call (allocation_as m t o).answer) ≡ outcome_answer o
words_as m t (refused n) = refl
words_as m t (handed x es) = refl

-- the table of a request's answer is the one that it leaves
left_as : (m : AddressSpaceManager) (t : AllocationType) (o : Outcome)
    → table_in (allocation_as m t o).manager ≡ left_by (table_in m) t (handed_call o)
left_as m t (refused n) = refl
left_as m t (handed x es) = rw (entries_with m es (pool_of m || is_pool t))

-- words that are read stand for a request
read-good : (r : List ℕ) {q : Request} → Ok q ≡ request_read r → (request_good r ≡ true) × (request_of r ≡ q)
read-good r {q} e = go (request_good r) e
  where
    go : (b : Bool) → Ok q ≡ cond b (Ok (request_of r)) (Err BadNumber) → (b ≡ true) × (request_of r ≡ q)
    go true h = (refl, cc)
    go false h = cc

-- what rows 22 to 25 refuse is refused
pub rows-refuse : (r : List ℕ) (es : List AddressRange) {q : Request} {n : Refusal} → Ok q ≡ request_read r
    → Err n ≡ rows_as (search_refusal q.node q.len q.policy q.alignment es) → words_outcome r es ≡ Err (Refused n)
rows-refuse r es {q} {n} e f =
    let g = read-good r e in
    let o = search_refused q.node q.len q.policy q.alignment es q.allocation_type n (rows_refused _ (sym f)) in
    rw g.0 (ap (λ (p : Request). handed_call (outcome_of p es)) g.1 ∙ ap handed_call o)

-- the first request and its answer: the others are answered on the table that it leaves
module _ (r : List ℕ) (rs : List (List ℕ)) (t : Table) {t' : Table} (f : t' ≡ after_one r t) where
  pub first_answer : {a : Call AllocatedRange} → a ≡ answer_of (words_outcome r t.entries) → answers_on (r ∷ rs) t ≡ answer_words a ++ answers_on rs t'
  first_answer e = rw (e, f)

  pub first-after : after_all (r ∷ rs) t ≡ after_all rs t'
  first-after = rw f

-- a test and the rows behind it: what they refuse is refused, and what passes them passes the test
by_refused : (o : Option Refusal) (b : Bool) (x : Call Handed) (e : CallError) → ((n : Refusal) → o ≡ Some n → x ≡ Err (Refused n))
    → cond b (refused_call o) (Some BadNumber) ≡ Some e → cond b x (Err BadNumber) ≡ Err e
by_refused None true x e f h = cc
by_refused (Some n) true x e f h = f n refl ∙ cc
by_refused o false x e f h = cc

by-passed : (o : Option Refusal) (b : Bool) → cond b (refused_call o) (Some BadNumber) ≡ None → b ≡ true
by-passed o true h = refl
by-passed o false h = cc

outcome_refused : (r : List ℕ) (es : List AddressRange) (e : CallError) → words_refusal r es ≡ Some e → words_outcome r es ≡ Err e
outcome_refused r es e =
    let q = request_of r in
    by_refused (search_refusal q.node q.len q.policy q.alignment es) (request_good r) (handed_call (outcome_of q es)) e
    (λ n h. ap handed_call (search_refused q.node q.len q.policy q.alignment es q.allocation_type n h))

pub passed_good : (r : List ℕ) (es : List AddressRange) → words_refusal r es ≡ None → request_good r ≡ true
passed_good r es =
    by-passed (search_refusal (node_of (get_or r 0 0)) (get_or r 1 0) (policy_of (get_or r 3 0)) (alignment_of (get_or r 4 0)) es) (request_good r)

-- a request that is refused before its split: its answer has the number, and the others are answered on the table as it is
module _ (r : List ℕ) (rs : List (List ℕ)) (t : Table) (n : CallError) (e : words_refusal r t.entries ≡ Some n) where
  pub refused_answer : answers_on (r ∷ rs) t ≡ refusal_answer (error_code n) ++ answers_on rs t
  refused_answer = rw (outcome_refused r t.entries n e)

  pub refused-after : after_all (r ∷ rs) t ≡ after_all rs t
  refused-after = rw (outcome_refused r t.entries n e)

pub answer-length : (a : Call AllocatedRange) → length (answer_words a) ≡ 4
answer-length (Ok x) = refl
answer-length (Err e) = refl

-- Requests made of a table of words (docs/SPEC.md, section 31).
use Rattle.std.specs.Prelude.{ℕ, ◌*◌, ◌/◌, ◌%◌, cond, List, eqb, ltb, length, Option, Some, None, Ok, Err}
use Rattle.std.proofs.lemmas.List.Edits.{sets}
use Rattle.table_words.specs.declared.code.CallError.TheVariants.{NoRoom, BadNumber, BadTable}
use Rattle.table_words.specs.Code.{Call, lent_after}
use Rattle.table_words.specs.Table.{Table, table_of, written}
use Rattle.table_calls.specs.Request.{answers_on, after_all, request_rows}

pub record Answered : Type 0 where
  pub answers : List ℕ
  pub after : Table

-- a bad table, then a length that is no multiple of a request's words, then the answers
abbrev pub requests_on : List ℕ → Option Table → Call Answered
requests_on ws None = Err BadTable
requests_on ws (Some t) =
    cond (eqb (length ws % 5) 0) (Ok (record { answers = answers_on (request_rows ws) t; after = after_all (request_rows ws) t })) (Err BadNumber)

-- room for the answers comes first, four words for each
unfoldable pub request_call : List ℕ → List ℕ → ℕ → Call Answered
request_call words requests room = cond (ltb room (4 * (length requests / 5))) (Err NoRoom) (requests_on requests (table_of words))

-- the table and the answers afterwards
abbrev pub request_table : List ℕ → Call Answered → List ℕ
request_table found = lent_after found (λ a. written found a.after.entries a.after.flag)

abbrev pub request_answers : List ℕ → Call Answered → List ℕ
request_answers found = lent_after found (λ a. sets found 0 a.answers)

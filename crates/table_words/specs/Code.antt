-- What an exported function answers, beside document 01's refusals, which are 1 to 29, and what it leaves in the buffers that are
-- lent (docs/SPEC.md, section 31).
use Rattle.std.specs.Prelude.{ℕ, Result, Ok, Err}
use Rattle.refusal.specs.Number.{number_of}
use Rattle.table_words.specs.declared.code.CallError.{CallError}
use Rattle.table_words.specs.declared.code.CallError.TheVariants.{Refused, NoRoom, BadNumber, BadTable}

abbrev pub done_code : ℕ
done_code = 0

-- a lent buffer is too short
abbrev pub no_room : ℕ
no_room = 253

-- a number or a length stands for nothing
abbrev pub bad_number : ℕ
bad_number = 254

-- words stand for no table
abbrev pub bad_table : ℕ
bad_table = 255

-- a number other than 0
abbrev pub error_code : CallError → ℕ
error_code (Refused r) = number_of r
error_code NoRoom = no_room
error_code BadNumber = bad_number
error_code BadTable = bad_table

-- what a call comes to: an error, or what it yields
abbrev pub Call : Type 0 → Type 0
Call A = Result A CallError

abbrev pub code_of : {A : Type 0} → Result A CallError → ℕ
code_of (Err e) = error_code e
code_of (Ok a) = done_code

-- that it is done, or its error
abbrev pub done_of : {A : Type 0} → Result A CallError → Result (Unit {0}) CallError
done_of (Err e) = Err e
done_of (Ok a) = Ok tt

-- a lent buffer afterwards: all is as found, unless the call is done
abbrev pub lent_after : {A B : Type 0} → B → (A → B) → Result A CallError → B
lent_after found stored (Err e) = found
lent_after found stored (Ok a) = stored a

-- Wrong answers about fields: on a few bytes the definition gives another one.
use Rattle.std.specs.Prelude.{ℕ, ◌+◌, ◌≡◌, refl, ◌≢◌, true, false, List, length, drop, Some}
use Rattle.std.proofs.Common.{ap, sym, ◌∙◌, arith}
use Rattle.std.proofs.lemmas.Bool.{false≢true}
use Rattle.plan_fields.specs.Cut.{tab, split_on, first_part}
use Rattle.plan_fields.specs.Number.{number_of}
use Rattle.plan_fields.specs.Word.{ascii, same_bytes}
use Rattle.plan_fields.specs.Laws.Word.{same_refl}
use Rattle.std.proofs.lemmas.Option.{none-some}

-- bytes that differ
pub differ : {a b : List ℕ} → same_bytes a b ≡ false → a ≢ b
differ {a} h e = false≢true (sym h ∙ ap (same_bytes a) (sym e) ∙ same_refl a)

-- a separator that is the first byte passed over
pub first_byte-passed-over : first_part tab (ascii "\ta") ≢ ascii "\ta"
first_byte-passed-over = differ refl

-- the parts one byte late
pub cut-one_byte_late : drop (1 + 1) (ascii "a\tbc") ≢ ascii "c"
cut-one_byte_late = differ refl

-- the separators counted
pub separators-counted : length (split_on tab (ascii "a\tb")) ≢ 1
separators-counted = omega arith

-- one that is the first byte not counted
pub first_separator-not-counted : length (split_on tab (ascii "\ta")) ≢ 1
first_separator-not-counted = omega arith

-- a longer field taken for the word
pub longer-field-taken : same_bytes (ascii "pools") (ascii "pool") ≢ true
longer-field-taken = false≢true

-- 17 digits pass
pub seventeen_digits : (n : ℕ) → number_of (ascii "10000000000000000") ≢ Some n
seventeen_digits n = none-some n

-- an upper-case digit passes
pub upper_case_digit : (n : ℕ) → number_of (ascii "A") ≢ Some n
upper_case_digit n = none-some n

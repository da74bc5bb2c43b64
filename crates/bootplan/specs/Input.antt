-- What was read of the input.
use Rattle.std.specs.Prelude.{ℕ, ◌≡◌, List, length, take, ⊤, Result, Ok, Err}
use Rattle.bootplan.specs.declared.Failure.{Failure}

-- how many bytes
abbrev pub bytes_in : Result ℕ Failure → ℕ
bytes_in (Ok n) = n
bytes_in (Err e) = 0

-- the bytes read stand at the buffer's start, and are as many of the given ones as it has room for
abbrev pub ReadsFirst : Result ℕ Failure → List ℕ → List ℕ → Type 0
ReadsFirst (Ok n) buffer given = take n buffer ≡ take (length buffer) given
ReadsFirst (Err e) buffer given = ⊤

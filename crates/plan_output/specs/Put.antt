-- Bytes put at a place of a buffer (docs/SPEC.md, section 16).
use Rattle.std.specs.Prelude.{ℕ, ◌+◌, Bool, cond, List, ◌++◌, leb, length, take, drop, Option, Some, None}

-- the buffer with the word's bytes from place `at` on, and its own everywhere else
abbrev pub put_at : ℕ → List ℕ → List ℕ → List ℕ
put_at at word buffer = take at buffer ++ word ++ drop (at + length word) buffer

-- whether the word has room from place `at` on
abbrev pub has_room : ℕ → List ℕ → List ℕ → Bool
has_room at word buffer = leb (at + length word) (length buffer)

-- the buffer afterwards: as it was, where there is no room
unfoldable pub put_in : ℕ → List ℕ → List ℕ → List ℕ
put_in at word buffer = cond (has_room at word buffer) (put_at at word buffer) buffer

-- the answer: the place behind the word, if there is room
unfoldable pub put_place : ℕ → List ℕ → List ℕ → Option ℕ
put_place at word buffer = cond (has_room at word buffer) (Some (at + length word)) None

-- Laws for the proofs of lines: a field put behind a line so far makes the line longer.
use Prim.Native.Nat.{ℕ, ◌+◌, ◌≤◌}
use mathlib.Core.Path.{◌≡◌, ap}
use mathlib.Core.List.{List, [], ◌∷◌, ◌++◌}
use native.Mathlib.Omega.{arith}
use lib.ListN.{length, length-append}
use Rattle.plan_output.specs.Put.{put_at}
use Rattle.plan_output.specs.Line.{written}
use Rattle.plan_output.specs.Laws.Line.{written-length, put_next}

-- the line stands at the start of the buffer, and ends in front of place `at`
abbrev pub Stands : List ℕ → List ℕ → ℕ → List ℕ → Type 0
Stands line old at buffer = (at ≡ length line) × (buffer ≡ written line old)

pub field_put : (line field old before after : List ℕ) (end at behind : ℕ) → Stands line old at before
    → length line + length field + 1 ≤ length old → behind ≡ at + length field + 1 → after ≡ put_at at (field ++ end ∷ []) before
    → Stands (line ++ (field ++ end ∷ [])) old behind after
field_put line field old before after end at behind s h eb ea =
    let l : length (field ++ end ∷ []) ≡ length field + 1 = simp length-append in
    (simp length-append (omega arith), rw (ea, s.0, s.1) (put_next line (field ++ end ∷ []) old (omega arith)))

-- there is room behind the line for a field and its end
pub field_room : (line field old buffer : List ℕ) (at : ℕ) → Stands line old at buffer
    → length line + length field + 1 ≤ length old → at + length field + 1 ≤ length buffer
field_room line field old buffer at s h = omega (arith, ap length s.1, written-length line old (omega arith))

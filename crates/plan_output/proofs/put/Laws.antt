-- A law for the proofs of puts, over plain lists: a byte stored behind bytes put.
use Prim.Native.Nat.{ℕ, ◌+◌, ◌≤◌}
use mathlib.Core.Path.{◌≡◌}
use mathlib.Core.List.{List, [], ◌∷◌, ◌++◌}
use native.Mathlib.Omega.{arith}
use lib.ListN.{length, set}
use Rattle.plan_output.specs.Put.{put_at}
use Rattle.plan_output.specs.Laws.Put.{put-length, put-put, put_one}

-- a byte stored behind a field put is put with it
pub ended : (at end behind : ℕ) (field buffer after : List ℕ) → at + length field + 1 ≤ length buffer
    → behind ≡ at + length field → after ≡ put_at at field buffer → set after behind end ≡ put_at at (field ++ end ∷ []) buffer
ended at end behind field buffer after h eb ea =
    let room : at + length field ≤ length buffer = omega arith in
    let stored = put_one (at + length field) end (put_at at field buffer) (omega (arith, put-length at field buffer room)) in
    rw (eb, ea, stored, put-put at field (end ∷ []) buffer (omega arith))

-- Readers of values and of records are chains of tests and matches, and so are their definitions: chains of `cond` and `after`.
-- A law takes the definition one step on by what the code learnt there: `r` is the answer of a call, `t` or `o`
-- what its contract says of it. `search words` finds the steps of a whole chain.
use Rattle.std.specs.Prelude.{Option, Some, None}
use mathlib.Core.Path.{◌≡◌}
use mathlib.Core.Bool.{Bool, true, false, cond}
use borrow.Author.Tests.{not-true, not-false, le-leb, lt-leb}
use Rattle.plan_fields.specs.Word.{after}

-- a test that passed, and one that failed
pub hit : {A : Type 0} (r t : Bool) (x y z : A) → r ≡ t → r ≡ true → x ≡ y → x ≡ cond t y z
hit r t x y z e h p = rw (← e, h) p

pub miss : {A : Type 0} (r t : Bool) (x y z : A) → r ≡ t → r ≡ false → x ≡ z → x ≡ cond t y z
miss r t x y z e h p = rw (← e, h) p

-- a value that was there, and one that was not
pub answered : {A B : Type 0} (r o : Option A) (v : A) (next : A → Option B) (x : Option B) → r ≡ o → r ≡ Some v → x ≡ next v → x ≡ after o next
answered r o v next x e h p = rw (← e, h) p

pub refused : {A B : Type 0} (r o : Option A) (next : A → Option B) (x : Option B) → r ≡ o → r ≡ None → x ≡ None → x ≡ after o next
refused r o next x e h p = rw (← e, h) p

pub ruleset words = (hit, miss, not-true, not-false, le-leb, lt-leb)

-- The order of the records of a text, and how often each may stand there (docs/SPEC.md, section 14).
use Rattle.std.specs.Prelude.{ℕ, ◌+◌, Bool, true, cond, ◌&&◌, List, [], ◌∷◌, map, eqb, leb}
use Rattle.plan_record.specs.Record.{Occurs, one, optional, many, times_of, forms}
use Rattle.plan_record.specs.declared.record.Record.{Record}
use Rattle.plan_record.specs.declared.record.Record.TheVariants.{Shape, File, Mem, Import, Used, State, Config, Keep, Side, Tables, Log, Gpool, Pool, Get}

-- the place of a record's word among the fourteen words
abbrev pub place_of : Record → ℕ
place_of (Shape x) = 0
place_of (File x) = 1
place_of (Mem x) = 2
place_of (Import x) = 3
place_of (Used x) = 4
place_of (State x) = 5
place_of (Config x) = 6
place_of (Keep x) = 7
place_of (Side x) = 8
place_of (Tables x) = 9
place_of (Log x) = 10
place_of (Gpool x) = 11
place_of (Pool x) = 12
place_of (Get x) = 13

abbrev pub places_of : List Record → List ℕ
places_of = map place_of

-- how often each of the fourteen words may stand, in their order
abbrev pub occurs : List Occurs
occurs = map times_of forms

-- whether a word that so occurs may stand n times
abbrev pub allowed : Occurs → ℕ → Bool
allowed one n = eqb n 1
allowed optional n = leb n 1
allowed many n = true

-- how often a place is in the list
abbrev pub times_in : ℕ → List ℕ → ℕ
times_in k [] = 0
times_in k (p ∷ ps) = cond (eqb p k) 1 0 + times_in k ps

-- whether each word, the first of them at place k, stands as often as it may: none is missing, none repeated
abbrev pub times_allowed : ℕ → List Occurs → List ℕ → Bool
times_allowed k [] ps = true
times_allowed k (o ∷ os) ps = allowed o (times_in k ps) && times_allowed (k + 1) os ps

-- whether no place is below the one before it, the first not below k: none is out of order
abbrev pub places_ascend : ℕ → List ℕ → Bool
places_ascend k [] = true
places_ascend k (p ∷ ps) = leb k p && places_ascend p ps

-- whether no record is missing, repeated or out of order
unfoldable pub in_order_of : List Record → Bool
in_order_of rs = places_ascend 0 (places_of rs) && times_allowed 0 occurs (places_of rs)

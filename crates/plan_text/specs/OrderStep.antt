-- The order of records judged one by one (docs/SPEC.md, section 14). It is kept as the least place that the
-- next record may have; `broken` once a record was out of order, repeated, or came before one that is missing.
use Rattle.std.specs.Prelude.{ℕ, ◌+◌, Bool, cond, ◌&&◌, ◌||◌, List, [], ◌∷◌, eqb, leb, Result, Ok, Err}
use Rattle.plan_record.specs.declared.record.Record.{Record}
use Rattle.refusal.specs.Number.{record_order}
use Rattle.refusal.specs.declared.Refusal.{Refusal}
use Rattle.plan_text.specs.Order.{place_of}

-- that a text is accepted, or the refusal of its first broken row
abbrev pub TextCheck : Type 0
TextCheck = Result (Unit {0}) Refusal

abbrev pub broken : ℕ
broken = 15

-- the greatest place that the next record may have: that of the next word that must stand once, or of the last word
abbrev pub greatest_place : ℕ → ℕ
greatest_place k = cond (leb k 1) k (cond (leb k 4) 4 (cond (leb k 5) 5 (cond (leb k 12) 12 13)))

-- whether the word at a place may stand again: mem, import, config, gpool, get
abbrev pub repeats : ℕ → Bool
repeats p = eqb p 2 || (eqb p 3 || (eqb p 6 || (eqb p 11 || eqb p 13)))

-- the order kept after a record
unfoldable pub order_after : ℕ → ℕ → ℕ
order_after k p = cond (leb k p && leb p (greatest_place k)) (cond (repeats p) p (p + 1)) broken

-- the order that a text must leave: behind the pool record, where only get records may follow
abbrev pub complete : ℕ
complete = 13

-- row 2 by the order that the last record left
abbrev pub order_end : ℕ → TextCheck
order_end k = cond (eqb k complete) (Ok tt) (Err record_order)

-- whether the records behind those that left the order k end a text: none is missing after the last
abbrev pub ordered : ℕ → List Record → Bool
ordered k [] = eqb k complete
ordered k (r ∷ rs) = ordered (order_after k (place_of r)) rs

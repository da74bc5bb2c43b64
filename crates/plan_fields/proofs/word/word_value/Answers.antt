-- `word::word_value` meets its contract. The loop's invariant: the rows passed are of other words.
use Prim.Native.Nat.{ℕ, ◌+◌, ◌<◌}
use Rattle.std.proofs.Common.{◌≡◌, sym, ◌∙◌, cond, Bor, List, length, get_or, drop, drop-cons, add-one}
use Rattle.std.specs.Prelude.{Some, Bool}
use Rattle.std.proofs.Math.ListN.{drop_of_length-le}
use Rattle.plan_fields.specs.Word.{same_bytes, value_by}
use Rattle.plan_fields.proofs.word.word_value.Goals as goal

-- a row, by whether the field is its word
at_row : {A : Type 0} (rows : List (Bor (List ℕ) × A)) (field : List ℕ) (i : ℕ) (row : Bor (List ℕ) × A) (t : Bool)
    → i < length rows → row ≡ get_or rows i row → t ≡ same_bytes field (row.0).now
    → value_by (drop i rows) field ≡ cond t (Some row.1) (value_by (drop (i + 1) rows) field)
at_row rows field i row t h e k = rw (add-one i, drop-cons rows i row h, ← e, ← k)

pub returns-then-same_bytes : goal.returns-then-same_bytes
returns-then-same_bytes g c =
    let l = c.loop-word in
    let row = at_row c.args.words.now c.args.field.now l.word-index c.loop-word-item.result _ c.loop-word-test.true c.loop-word-item.is c.same_bytes.ensures in
    sym (l.invariant ∙ rw c.if-same_bytes.true at row)

pub loop-word-preserved : goal.loop-word-preserved
loop-word-preserved g c =
    let l = c.loop-word in
    let row = at_row c.args.words.now c.args.field.now l.word-index c.loop-word-item.result _ c.loop-word-test.true c.loop-word-item.is c.same_bytes.ensures in
    l.invariant ∙ rw c.if-same_bytes.false at row

pub returns : goal.returns
returns g c =
    let l = c.loop-word in
    sym (rw (drop_of_length-le c.args.words.now {i = l.word-index} c.loop-word-test.false) at l.invariant)

-- `write::put_words` meets its contract: it ends where no place or no value is left.
use Rattle.std.proofs.Common.{inl, inr, sym, ◌∙◌, arith}
use Rattle.table_words.specs.Laws.Stores.{sets_out, sets_none}
use Rattle.table_words.proofs.write.put_words.Goals as goal

pub returns : goal.returns
returns c =
    let l = c.loop-place in
    let p = l.place-iterator in
    elim c.in-None.ensures.steps [
      | inl w ↦ sym (sets_out l.words p.a.start p.b.rest.now (omega arith)) ∙ l.invariant.left
      | inr w ↦ sym (sets_none l.words p.a.start p.b.rest.now w.1.0) ∙ l.invariant.left
    ]

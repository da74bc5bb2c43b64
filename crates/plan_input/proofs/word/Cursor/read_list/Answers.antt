-- `list::Cursor::read_list` meets its contract: there are no more items than bytes.
use mathlib.Core.Path.{sym, ◌∙◌}
use native.Mathlib.Omega.{arith}
use Rattle.plan_input.specs.Record.{records_at}
use Rattle.plan_input.specs.Laws.Record.{records_few}
use Rattle.plan_input.proofs.word.Laws.{words_few, words_some}
use Rattle.plan_input.proofs.word.Cursor.read_list.Goals as goal

pub overflow_add-count : goal.overflow_add-count
overflow_add-count g c =
    let a = c.args in
    let item = g.T.Item.item_of in
    omega (
      arith,
      c.loop-record.invariant.0,
      words_some item a.place (records_at a.text.now c.loop-record.self.at) _ (sym c.read_word.ensures.value ∙ c.in-Some.is),
      words_few item a.place (records_at a.text.now a.self.now.at),
      records_few a.text.now a.self.now.at,
      c.well_formed,
    )

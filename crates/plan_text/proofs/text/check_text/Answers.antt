-- `text::check_text` meets its contract: a text that is not too long is judged from its start on.
use mathlib.Core.Path.{sym, ◌∙◌}
use Rattle.plan_text.specs.Laws.Text.{too_long, short_from}
use Rattle.plan_text.proofs.text.check_text.Goals as goal

pub returns-then-text-gt-TEXT_SIZE : goal.returns-then-text-gt-TEXT_SIZE
returns-then-text-gt-TEXT_SIZE c = sym (too_long c.args.text.now c.if-text-gt-TEXT_SIZE.true)

pub returns : goal.returns
returns c = c.check_from.ensures ∙ sym (short_from c.args.text.now c.if-text-gt-TEXT_SIZE.false)

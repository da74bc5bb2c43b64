-- `word::word_value` meets its contract. The loop's invariant: the rows passed are of other words.
use Rattle.std.proofs.Common.{◌≡◌, drop}
use Rattle.plan_fields.specs.Word.{value_by}
use Rattle.plan_fields.proofs.word.word_value.Given as goal

abbrev pub invariant-loop-word : goal.invariant-loop-word
invariant-loop-word g l = value_by l.words l.field ≡ value_by (drop l.word-index l.words) l.field

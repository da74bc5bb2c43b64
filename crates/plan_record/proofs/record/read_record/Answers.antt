-- `record::read_record` meets its contract: the words with fields of their own are tried before the others.
use Rattle.plan_record.proofs.value.Laws.{words, answered, refused}
use Rattle.plan_record.proofs.record.Forms.{is_word, not_own}
use Rattle.plan_record.proofs.record.read_record.Goals as goal

pub returns-then-same_bytes : goal.returns-then-same_bytes
returns-then-same_bytes c = search (is_word, words)

pub returns-then-same_bytes-2 : goal.returns-then-same_bytes-2
returns-then-same_bytes-2 c = search (is_word, words)

pub returns-then-same_bytes-3 : goal.returns-then-same_bytes-3
returns-then-same_bytes-3 c = search (is_word, words)

pub returns-then-same_bytes-4 : goal.returns-then-same_bytes-4
returns-then-same_bytes-4 c = search (is_word, words)

pub returns-in_err-read_range : goal.returns-in_err-read_range
returns-in_err-read_range c = search (not_own, words, refused, c.in_err-read_range.was)

pub returns : goal.returns
returns c = search (not_own, words, answered, c.in_ok-read_range.was)

-- Wrong answers about a line: the definition gives another one.
use Rattle.std.specs.Prelude.{◌≢◌, Some}
use Rattle.plan_fields.specs.Word.{ascii}
use Rattle.plan_record.specs.declared.record.Record.{Record}
use Rattle.plan_record.specs.Record.{line_of}
use Rattle.std.proofs.lemmas.Option.{none-some}

-- pages with a kind that has none
pub pages_with_other_kind : (r : Record) → line_of (ascii "pool\toff\t0\t-\t4\tn") ≢ Some r
pages_with_other_kind r = none-some r

-- `selection::select_words` meets its contract: too little room, then numbers that stand for nothing, then selection.
use Rattle.std.proofs.Common.{sym, ◌∙◌}
use Rattle.std.proofs.lemmas.Result.{err_from_is_err_and}
use Rattle.selection_calls.proofs.selection.Told.{map_among, asked-short, asked-bad, asked_good, choice_err, choice-told, words_fit}
use Rattle.selection_calls.proofs.selection.select_words.Goals as goal

pub returns-then-ram-lt-RAM_WORDS-clause-answer : goal.returns-then-ram-lt-RAM_WORDS-clause-answer
returns-then-ram-lt-RAM_WORDS-clause-answer c = let a = c.args in rw (asked-short a.mode a.isolation a.ram_size a.file a.map.now a.imports.now a.ram.now c.if-ram-lt-RAM_WORDS.true)

pub returns-then-ram-lt-RAM_WORDS-clause-lent : goal.returns-then-ram-lt-RAM_WORDS-clause-lent
returns-then-ram-lt-RAM_WORDS-clause-lent c = let a = c.args in rw (asked-short a.mode a.isolation a.ram_size a.file a.map.now a.imports.now a.ram.now c.if-ram-lt-RAM_WORDS.true)

pub returns-then-not-numbers_stand-clause-answer : goal.returns-then-not-numbers_stand-clause-answer
returns-then-not-numbers_stand-clause-answer c =
    let a = c.args in
    rw (asked-bad a.mode a.isolation a.ram_size a.file a.map.now a.imports.now a.ram.now c.if-ram-lt-RAM_WORDS.false (sym c.numbers_stand.ensures ∙ c.if-not-numbers_stand.true))

pub returns-then-not-numbers_stand-clause-lent : goal.returns-then-not-numbers_stand-clause-lent
returns-then-not-numbers_stand-clause-lent c =
    let a = c.args in
    rw (asked-bad a.mode a.isolation a.ram_size a.file a.map.now a.imports.now a.ram.now c.if-ram-lt-RAM_WORDS.false (sym c.numbers_stand.ensures ∙ c.if-not-numbers_stand.true))

pub select_read-requires : goal.select_read-requires
select_read-requires c =
    let a = c.args in
    map_among a.mode a.isolation a.map.now a.imports.now (sym c.numbers_stand.ensures ∙ c.if-not-numbers_stand.false)

pub returns-in_err-chosen-clause-answer : goal.returns-in_err-chosen-clause-answer
returns-in_err-chosen-clause-answer c =
    let a = c.args in
    let stand = sym c.numbers_stand.ensures ∙ c.if-not-numbers_stand.false in
    let good = asked_good a.mode a.isolation a.ram_size a.file a.map.now a.imports.now a.ram.now c.if-ram-lt-RAM_WORDS.false stand in
    let is = good ∙ rw (c.mode_of.ensures, c.isolation_of.ensures) at (choice_err _ (sym c.in_err-chosen.ensures)) in
    let p = err_from_is_err_and c.from_residual.result c.from_residual.ensures.1 in
    rw (p.1, p.2, is)

pub returns-in_err-chosen-clause-lent : goal.returns-in_err-chosen-clause-lent
returns-in_err-chosen-clause-lent c =
    let a = c.args in
    let stand = sym c.numbers_stand.ensures ∙ c.if-not-numbers_stand.false in
    let good = asked_good a.mode a.isolation a.ram_size a.file a.map.now a.imports.now a.ram.now c.if-ram-lt-RAM_WORDS.false stand in
    rw (good ∙ rw (c.mode_of.ensures, c.isolation_of.ensures) at (choice_err _ (sym c.in_err-chosen.ensures)))

pub returns : goal.returns
returns c =
    let a = c.args in
    let stand = sym c.numbers_stand.ensures ∙ c.if-not-numbers_stand.false in
    let good = asked_good a.mode a.isolation a.ram_size a.file a.map.now a.imports.now a.ram.now c.if-ram-lt-RAM_WORDS.false stand in
    let chosen = choice-told _ _ _ _ _ _ (sym c.select_read.ensures ∙ c.in_ok-chosen.was) in
    let slice = c.as_slice-entries.ensures in
    let is = good ∙ rw (c.mode_of.ensures, c.isolation_of.ensures) at chosen.0 in
    record {
      answer = rw (is, slice);
      lent = rw (is, ← slice) (c.write_ram.ensures ∙ words_fit _ a.ram.now (rw (← slice) at chosen.1) c.if-ram-lt-RAM_WORDS.false);
    }

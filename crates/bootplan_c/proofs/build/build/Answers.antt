-- `build::build` meets its contract: where the words stand for a table, the call is the build.
use Rattle.std.proofs.Common.{◌≡◌, Some, sym, ◌∙◌, arith}
use Rattle.std.proofs.lemmas.Result.{err_from_is_err_and}
use Rattle.bootplan_c.specs.Build.{given}
use Rattle.bootplan_c.specs.Laws.Build.{build-read}
use Rattle.bootplan_c.proofs.build.build.Goals as goal

pub returns-in_err-built : goal.returns-in_err-built
returns-in_err-built c =
    let a = c.args in
    let g = given a.used.start a.used.end a.state.start a.state.end a.ram.now a.reserved.now a.configs.now a.pools.now in
    let m : c.read_table.result ≡ Some c.in_ok-manager.manager = grind arith in
    let read = build-read g a.table.now (sym m ∙ c.read_table.ensures) in
    let told = err_from_is_err_and c.from_residual-in_err-built.result c.from_residual-in_err-built.ensures.1 in
    record { value = rw (read, ← c.in_err-built.ensures.entries, told.1, told.2); table_after = rw (read, ← c.in_err-built.ensures.entries) }

pub returns-clause-table_after : goal.returns-clause-table_after
returns-clause-table_after c =
    let a = c.args in
    let g = given a.used.start a.used.end a.state.start a.state.end a.ram.now a.reserved.now a.configs.now a.pools.now in
    let m : c.read_table.result ≡ Some c.in_ok-manager.manager = grind arith in
    rw (build-read g a.table.now (sym m ∙ c.read_table.ensures), ← c.in_ok-built.ensures.entries) c.write_table.ensures

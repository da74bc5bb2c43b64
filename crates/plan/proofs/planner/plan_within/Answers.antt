-- A text that is too long has the plan of that refusal; the check of what is left behind the pool is that of the text. What is lent of
-- the lists is as much as there is room for.
use Rattle.std.proofs.Common.{min, ap, ◌∙◌}
use Rattle.std.proofs.lemmas.Result.{err_from_is_err_and}
use Rattle.plan_text.specs.Laws.Text.{too_long}
use Rattle.plan_input.specs.Record.{behind_one, records_at}
use Rattle.plan_input.specs.Once.{pool_first}
use Rattle.plan_input.specs.Room.{map_room, import_room, config_room, pool_room}
use Rattle.plan_input.specs.Build.{build_in, BuildHeld}
use Rattle.plan.specs.Planner.{selection_given, build_given}
use Rattle.plan.specs.Laws.Planner.{answers_refused}
use Rattle.plan.specs.Laws.Read.{lent, text_refused, text_checked}
use Rattle.plan.proofs.planner.plan_within.Goals as goal

pub returns-then-text-gt-TEXT_SIZE : goal.returns-then-text-gt-TEXT_SIZE
returns-then-text-gt-TEXT_SIZE c =
    let t = c.args.text.now in
    answers_refused (text_refused t (too_long t c.if-text-gt-TEXT_SIZE.true))

pub returns-in_err-check_from : goal.returns-in_err-check_from
returns-in_err-check_from c =
    let t = c.args.text.now in
    let p = err_from_is_err_and c.from_residual.result c.from_residual.ensures.1 in
    let s = c.read_selection-selection.ensures in
    let same = c.read_pool-pool.ensures.2 ∙ c.read_build-build.ensures.1 in
    let checked = text_checked t _ _ c.if-text-gt-TEXT_SIZE.false s.0 same c.check_from.ensures in
    rw (p.1, p.2) (answers_refused (text_refused t (checked ∙ c.in_err-check_from.was)))

pub plan_accepted-requires-clause-read : goal.plan_accepted-requires-clause-read
plan_accepted-requires-clause-read c =
    let t = c.args.text.now in
    let s = c.read_selection-selection.ensures in
    let b = c.read_build-build.ensures in
    let p = c.read_pool-pool.ensures in
    let n = s.0.next in
    -- what is read for the build is what stands behind the records of selection
    let held : BuildHeld t (build_given t) c.read_build-build.result = rw n at b.0 in
    let given = build_in (records_at t c.read_selection-selection.result.next) in
    let configs = lent config_room given.configs _ b.2 (c.min-configured.ensures ∙ ap (λ k. min k config_room) b.0.config-count) in
    let pools = lent pool_room given.pools _ b.3 (c.min-pooled.ensures ∙ ap (λ k. min k pool_room) b.0.pool-count) in
    record {
      accepted = text_checked t _ _ c.if-text-gt-TEXT_SIZE.false s.0 (p.2 ∙ b.1) c.check_from.ensures ∙ c.in_ok-check_from.was;
      selection = s.0;
      building = held;
      pool-first = p.0 ∙ ap pool_first held.next;
      next = p.1 ∙ ap behind_one held.next;
      map-room = lent map_room (selection_given t).map _ s.1 (c.min-entries.ensures ∙ ap (λ k. min k map_room) s.0.map-count);
      imports_room = lent import_room (selection_given t).imports _ s.2 (c.min-imported.ensures ∙ ap (λ k. min k import_room) s.0.import-count);
      configs_room = rw n at configs;
      pools_room = rw n at pools;
    }

-- What a turn comes to: the piece that it takes is passed over or refused, or held where there is room for it. Where none
-- is left, the answer is that of all pieces.
use Rattle.std.proofs.Common.{◌≡◌, refl, ap, sym, ◌∙◌, List, [], ◌∷◌, arith, Option}
use Rattle.std.proofs.lemmas.List.{length-map, map-id}
use Rattle.std.proofs.lemmas.Result.{err_from_is_err_and}
use Rattle.memory_range.specs.declared.range.TaggedRange.{TaggedRange}
use Rattle.memory_range.specs.List.{ranges_in}
use Rattle.refusal.specs.declared.Refusal.{Refusal}
use Rattle.range_lists.specs.Walk.{walk_from}
use Rattle.refusal.specs.Answer.{rows_as}
use Rattle.refusal.specs.Number.{import_not_in_map}
use Rattle.boot_ram.specs.Import.{import_verdicts, import_walk}
use Rattle.boot_ram.specs.Verdict.{Judged, refuse}
use Rattle.boot_ram.specs.Laws.Verdict.{held_with, held-free_full, held_refuse, held-none}
use Rattle.boot_ram.proofs.Turn.{turn}
use Rattle.boot_ram.proofs.import.walk_imports.Goals as goal

-- no piece is left, or one is refused
done : {w : Judged} {o : Option Refusal} {fs : List TaggedRange} → w ≡ held_with o fs [] → (rows_as o ≡ rows_as w.refusal) × (fs ≡ w.free)
done e = rw e (refl, refl)

pub offset_bounds-imports-item : goal.offset_bounds-imports-item
offset_bounds-imports-item c =
    let a = c.args in
    let t = turn a.imports.now (ranges_in a.found.now) c.loop-piece.at (rw map-id at c.walk_ranges.ensures) c.in-Some.is c.in-Left.is in
    let h = t.items.0 in
    omega arith

pub bounds-imports-item : goal.bounds-imports-item
bounds-imports-item c =
    let a = c.args in
    let t = turn a.imports.now (ranges_in a.found.now) c.loop-piece.at (rw map-id at c.walk_ranges.ensures) c.in-Some.is c.in-Left.is in
    t.items.0

pub returns-then-not-is_skipped : goal.returns-then-not-is_skipped
unfolding import_walk
returns-then-not-is_skipped c =
    let a = c.args in
    let l = c.loop-piece in
    let verdicts = import_verdicts a.isolation a.file a.imports.now a.found.now in
    let t = turn a.imports.now (ranges_in a.found.now) l.at (rw map-id at c.walk_ranges.ensures) c.in-Some.is c.in-Left.is in
    let skipped = sym c.is_skipped.ensures ∙ c.if-not-is_skipped.true in
    let e : verdicts (walk_from a.imports.now (ranges_in a.found.now) l.at)
    ≡ refuse import_not_in_map ∷ verdicts (walk_from a.imports.now (ranges_in a.found.now) c.in-Some.next) = ap verdicts t.left ∙ rw skipped in
    done (l.invariant ∙ held_refuse l.free.items [] e)

pub offset_bounds-found-item : goal.offset_bounds-found-item
offset_bounds-found-item c =
    let a = c.args in
    let t = turn a.imports.now (ranges_in a.found.now) c.loop-piece.at (rw map-id at c.walk_ranges.ensures) c.in-Some.is c.in-Right.is in
    omega (arith, t.items.1, length-map a.found.now (λ x. x.range))

pub bounds-found-item : goal.bounds-found-item
bounds-found-item c =
    let a = c.args in
    let t = turn a.imports.now (ranges_in a.found.now) c.loop-piece.at (rw map-id at c.walk_ranges.ensures) c.in-Some.is c.in-Right.is in
    omega (arith, t.items.1, length-map a.found.now (λ x. x.range))

pub returns-in_err-hold-in-Right : goal.returns-in_err-hold-in-Right
unfolding import_walk
returns-in_err-hold-in-Right c =
    let a = c.args in
    let l = c.loop-piece in
    let verdicts = import_verdicts a.isolation a.file a.imports.now a.found.now in
    let t = turn a.imports.now (ranges_in a.found.now) l.at (rw map-id at c.walk_ranges.ensures) c.in-Some.is c.in-Right.is in
    let full = c.in_err-hold-in-Right.ensures in
    let p = err_from_is_err_and c.from_residual.result c.from_residual.ensures.1 in
    rw (p.1, p.2, full.0, full.2) (done (l.invariant ∙ held-free_full l.free.items [] (ap verdicts t.left) full.1))

pub returns : goal.returns
unfolding import_walk
returns c =
    let a = c.args in
    let l = c.loop-piece in
    let verdicts = import_verdicts a.isolation a.file a.imports.now a.found.now in
    let over = rw (map-id, c.in_default.is) at c.walk_ranges.ensures in
    done (l.invariant ∙ held-none l.free.items [] (ap verdicts over))

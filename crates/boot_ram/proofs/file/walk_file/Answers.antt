-- What a turn comes to: the piece that it takes is refused, or held where there is room for it. Where none is left, the
-- answer is that of all pieces.
use Rattle.std.proofs.Common.{ℕ, ◌<◌, ◌≡◌, refl, ap, ◌∙◌, List, [], ◌∷◌, ◌++◌, length, arith, Option}
use Rattle.std.proofs.lemmas.List.{length-map}
use Rattle.std.proofs.lemmas.Result.{err_from_is_err_and}
use Rattle.host_params.specs.declared.MemoryEntry.{MemoryEntry}
use Rattle.memory_range.specs.declared.range.TaggedRange.{TaggedRange}
use Rattle.range_lists.specs.Walk.{walk_from}
use Rattle.refusal.specs.declared.Refusal.{Refusal}
use Rattle.refusal.specs.Answer.{rows_as}
use Rattle.host_map.specs.Map.{entries_in, map_ranges}
use Rattle.boot_ram.specs.File.{file_verdicts, file_walk}
use Rattle.boot_ram.specs.Held.{holding}
use Rattle.boot_ram.specs.Verdict.{Judged}
use Rattle.boot_ram.specs.Laws.Verdict.{so_far, held_with, held-free, held-free_full, held_choose, held_choose_full, held_refuse, held-none}
use Rattle.boot_ram.proofs.Turn.{turn, entry_ranges, entry_node}
use Rattle.boot_ram.proofs.file.walk_file.Goals as goal

-- no piece is left, or one is refused
done : {w : Judged} {o : Option Refusal} {fs cs : List TaggedRange} → w ≡ held_with o fs cs
    → (rows_as o ≡ rows_as w.refusal) × (cs ≡ w.chosen) × (fs ≡ w.free)
done e = rw e (refl, refl, refl)

-- an item of the map's ranges is one of the map
within : (m : List MemoryEntry) {j : ℕ} → j < length (map_ranges m) → j < length m
within m h = rw (← entry_ranges m, length-map) at h

pub returns-in-Left : goal.returns-in-Left
unfolding file_walk
returns-in-Left c =
    let a = c.args in
    let l = c.loop-piece in
    let m = entries_in a.map.now in
    let t = turn (a.file ∷ []) (map_ranges a.map.now) l.at (rw entry_ranges at c.walk_ranges.ensures) c.in-Some.is c.in-Left.is in
    done (l.invariant ∙ held_refuse l.free.items l.chosen.items (ap (file_verdicts m) t.left))

pub offset_bounds-map-item : goal.offset_bounds-map-item
offset_bounds-map-item c =
    let a = c.args in
    let l = c.loop-piece in
    let t = turn (a.file ∷ []) (map_ranges a.map.now) l.at (rw entry_ranges at c.walk_ranges.ensures) c.in-Some.is c.in-Right.is in
    omega (arith, within a.map.now t.items.1)

pub bounds-map-item : goal.bounds-map-item
bounds-map-item c =
    let a = c.args in
    let l = c.loop-piece in
    let t = turn (a.file ∷ []) (map_ranges a.map.now) l.at (rw entry_ranges at c.walk_ranges.ensures) c.in-Some.is c.in-Right.is in
    omega (arith, within a.map.now t.items.1)

pub offset_bounds-map-item-in-Both : goal.offset_bounds-map-item-in-Both
offset_bounds-map-item-in-Both c =
    let a = c.args in
    let l = c.loop-piece in
    let t = turn (a.file ∷ []) (map_ranges a.map.now) l.at (rw entry_ranges at c.walk_ranges.ensures) c.in-Some.is c.in-Both.is in
    omega (arith, within a.map.now t.items.1)

pub bounds-map-item-in-Both : goal.bounds-map-item-in-Both
bounds-map-item-in-Both c =
    let a = c.args in
    let l = c.loop-piece in
    let t = turn (a.file ∷ []) (map_ranges a.map.now) l.at (rw entry_ranges at c.walk_ranges.ensures) c.in-Some.is c.in-Both.is in
    omega (arith, within a.map.now t.items.1)

pub returns-in_err-hold-in-Right : goal.returns-in_err-hold-in-Right
unfolding file_walk
returns-in_err-hold-in-Right c =
    let a = c.args in
    let l = c.loop-piece in
    let m = entries_in a.map.now in
    let t = turn (a.file ∷ []) (map_ranges a.map.now) l.at (rw entry_ranges at c.walk_ranges.ensures) c.in-Some.is c.in-Right.is in
    let full = c.in_err-hold-in-Right.ensures in
    let p = err_from_is_err_and c.from_residual.result c.from_residual.ensures.1 in
    rw (p.1, p.2, full.0, full.2) (done (l.invariant ∙ held-free_full l.free.items l.chosen.items (ap (file_verdicts m) t.left) full.1))

pub returns-in_err-hold-in-Both : goal.returns-in_err-hold-in-Both
unfolding file_walk
returns-in_err-hold-in-Both c =
    let a = c.args in
    let l = c.loop-piece in
    let m = entries_in a.map.now in
    let t = turn (a.file ∷ []) (map_ranges a.map.now) l.at (rw entry_ranges at c.walk_ranges.ensures) c.in-Some.is c.in-Both.is in
    let full = c.in_err-hold-in-Both.ensures in
    let p = err_from_is_err_and c.from_residual-in_err-hold-in-Both.result c.from_residual-in_err-hold-in-Both.ensures.1 in
    rw (p.1, p.2, full.0, full.2) (done (l.invariant ∙ held_choose_full l.free.items l.chosen.items (ap (file_verdicts m) t.left) full.1))

pub loop-piece-smaller-in_ok-hold-in-Right : goal.loop-piece-smaller-in_ok-hold-in-Right
loop-piece-smaller-in_ok-hold-in-Right c =
    let a = c.args in
    let l = c.loop-piece in
    let t = turn (a.file ∷ []) (map_ranges a.map.now) l.at (rw entry_ranges at c.walk_ranges.ensures) c.in-Some.is c.in-Right.is in
    omega (arith, ap length t.left)

pub loop-piece-smaller : goal.loop-piece-smaller
loop-piece-smaller c =
    let a = c.args in
    let l = c.loop-piece in
    let t = turn (a.file ∷ []) (map_ranges a.map.now) l.at (rw entry_ranges at c.walk_ranges.ensures) c.in-Some.is c.in-Both.is in
    omega (arith, ap length t.left)

pub loop-piece-preserved-in_ok-hold-in-Right : goal.loop-piece-preserved-in_ok-hold-in-Right
loop-piece-preserved-in_ok-hold-in-Right c =
    let a = c.args in
    let l = c.loop-piece in
    let m = entries_in a.map.now in
    let t = turn (a.file ∷ []) (map_ranges a.map.now) l.at (rw entry_ranges at c.walk_ranges.ensures) c.in-Some.is c.in-Right.is in
    let held = c.in_ok-hold-in-Right.ensures in
    let r = c.in-Some.piece.range in
    rw held.1
    (l.invariant ∙ held-free l.free.items l.chosen.items (ap (file_verdicts m) t.left) held.0
    ∙ ap (λ n. so_far (l.free.items ++ holding r n ∷ []) l.chosen.items (file_verdicts m (walk_from (a.file ∷ []) (map_ranges a.map.now) c.in-Some.next)))
    (entry_node a.map.now c.in-Right.item _ (within a.map.now t.items.1)))

pub loop-piece-preserved : goal.loop-piece-preserved
loop-piece-preserved c =
    let a = c.args in
    let l = c.loop-piece in
    let m = entries_in a.map.now in
    let t = turn (a.file ∷ []) (map_ranges a.map.now) l.at (rw entry_ranges at c.walk_ranges.ensures) c.in-Some.is c.in-Both.is in
    let held = c.in_ok-hold-in-Both.ensures in
    let r = c.in-Some.piece.range in
    rw held.1
    (l.invariant ∙ held_choose l.free.items l.chosen.items (ap (file_verdicts m) t.left) held.0
    ∙ ap (λ n. so_far l.free.items (l.chosen.items ++ holding r n ∷ []) (file_verdicts m (walk_from (a.file ∷ []) (map_ranges a.map.now) c.in-Some.next)))
    (entry_node a.map.now c.in-Both.item _ (within a.map.now t.items.1)))

pub returns : goal.returns
unfolding file_walk
returns c =
    let a = c.args in
    let l = c.loop-piece in
    let m = entries_in a.map.now in
    let over = rw (entry_ranges, c.in_default.is) at c.walk_ranges.ensures in
    done (l.invariant ∙ held-none l.free.items l.chosen.items (ap (file_verdicts m) over))

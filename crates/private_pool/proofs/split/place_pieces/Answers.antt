-- The loop's invariant: what the whole split comes to is what the pieces from `i` on come to on the current table, behind
-- the ranges of those before.
use Prim.Native.Nat.{◌/◌, ◌%◌, ◌≤◌, ◌<◌}
use mathlib.Core.Path.{◌≡◌, refl, ap, sym, ◌∙◌}
use native.Mathlib.Omega.{arith}
use lib.ListN.{length, replicate, length-replicate}
use Rattle.private_pool.specs.Pool.{max_pool_ranges, pool_as}
use Rattle.private_pool.specs.Laws.Handed.{answered-range, answered_refusal}
use Rattle.private_pool.proofs.split.Laws.{placing-none, placing_more, placing_refused, placing-all, pages_bounded, share_within, split-pieces}
use Rattle.private_pool.proofs.split.place_pieces.Goals as goal

pub loop-i-init : goal.loop-i-init
loop-i-init c = placing-none _ _ _ _ _

pub piece_pages-piece-requires : goal.piece_pages-piece-requires
piece_pages-piece-requires c =
    let a = c.args in
    record { among = c.loop-i-test.true; fits = omega (arith, share_within a.pages (length a.nodes.now) (omega arith)) }

pub place_piece-allocation-requires : goal.place_piece-allocation-requires
place_piece-allocation-requires c =
    let a = c.args in
    let n = length a.nodes.now in
    let within = share_within a.pages n (omega arith) in
    rw c.piece_pages-piece.ensures (pages_bounded (a.pages / n) (a.pages % n) c.loop-i.i n (omega arith))

pub returns-in-Err : goal.returns-in-Err
returns-in-Err c =
    let a = c.args in
    let l = c.loop-i in
    let n = length a.nodes.now in
    let o = answered_refusal l.current _ (rw c.piece_pages-piece.ensures at c.place_piece-allocation.ensures) c.in-Err.is in
    c.refused.ensures
    ∙ rw (c.piece_refusal.ensures, split-pieces a.pages n a.nodes.now refl)
    (sym (ap (pool_as a.manager) (placing_refused l.invariant n refl c.loop-i-test.true o)))

pub loop-i-preserved : goal.loop-i-preserved
loop-i-preserved c =
    let a = c.args in
    let l = c.loop-i in
    let room : l.i < length (replicate max_pool_ranges c.no_range-none.result) = simp length-replicate (omega arith) in
    let o = answered-range l.current _ (rw c.piece_pages-piece.ensures at c.place_piece-allocation.ensures) c.in-Ok.is in
    placing_more l.invariant (length a.nodes.now) refl c.loop-i-test.true room o.0 o.1

pub returns : goal.returns
returns c =
    let a = c.args in
    let l = c.loop-i in
    let n = length a.nodes.now in
    let last : l.i ≡ n = omega arith in
    let room : n ≤ length (replicate max_pool_ranges c.no_range-none.result) = simp length-replicate (omega arith) in
    let none = ap (replicate max_pool_ranges) c.no_range-none.ensures in
    rw (split-pieces a.pages n a.nodes.now refl) (placing-all l.invariant n refl last c.requires.some room none)

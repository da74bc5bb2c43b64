use mathlib.Core.Path.{ap, sym, ◌∙◌}
use denote.Enum.Bare.{same_true, same_false}
use Rattle.refusal.specs.Number.{no_fit}
use Rattle.refusal.specs.contracts.Refusal.{the_type}
use Rattle.address_space.specs.Table.{entries_of}
use Rattle.private_pool.specs.Pool.{pool_as}
use Rattle.private_pool.specs.Laws.Handed.{answered-range, answered_refusal}
use Rattle.private_pool.specs.Laws.Pool.{pool_large, pool_forced, pool_empty, pool_whole, pool-split, pool_refused, one-range}
use Rattle.private_pool.proofs.place.allocate_private_pool.Goals.{then-force_numa_split-via-then-force_numa_split, then-force_numa_split-via-else-force_numa_split+then-pages-eq0}
use Rattle.private_pool.proofs.place.allocate_private_pool.Goals as goal

pub returns-then-pages-ge-POOL_PAGES_BOUND : goal.returns-then-pages-ge-POOL_PAGES_BOUND
returns-then-pages-ge-POOL_PAGES_BOUND c =
    let a = c.args in
    c.refused.ensures
    ∙ sym (ap (pool_as a.manager) (pool_large a.pages a.force_numa_split (entries_of a.manager) c.if-pages-ge-POOL_PAGES_BOUND.true))

pub returns-then-force_numa_split : goal.returns-then-force_numa_split
returns-then-force_numa_split c =
    let a = c.args in
    let few = c.if-pages-ge-POOL_PAGES_BOUND.false in
    elim c.then-force_numa_split.branch [
      | then-force_numa_split-via-then-force_numa_split w ↦
          c.split_pool.ensures ∙ sym (ap (pool_as a.manager) (pool_forced a.pages a.force_numa_split (entries_of a.manager) few w.if-force_numa_split.true))
      | then-force_numa_split-via-else-force_numa_split+then-pages-eq0 w ↦
          c.split_pool.ensures
          ∙ sym
          (ap (pool_as a.manager)
          (pool_empty a.pages a.force_numa_split (entries_of a.manager) few w.if-force_numa_split.false w.if-pages-eq0.true))
    ]

pub returns-in-Ok : goal.returns-in-Ok
returns-in-Ok c =
    let m = c.args.manager in
    let o = answered-range m _ c.place_piece-allocation.ensures c.in-Ok.is in
    c.whole_pool.ensures
    ∙ one-range m c.place_piece-allocation.result.manager _ o.1
    ∙ sym (ap (pool_as m) (pool_whole _ _ _ c.if-pages-ge-POOL_PAGES_BOUND.false c.if-force_numa_split.false c.if-pages-eq0.false o.0))

pub returns-then-eq : goal.returns-then-eq
returns-then-eq c =
    let m = c.args.manager in
    let o = answered_refusal m _ c.place_piece-allocation.ensures c.in-Err.is in
    let same = same_true the_type tt c.in-Err.refusal no_fit (sym c.if-eq.ensures) in
    c.split_pool-then-eq.ensures
    ∙ sym (ap (pool_as m) (pool-split _ _ _ c.if-pages-ge-POOL_PAGES_BOUND.false c.if-force_numa_split.false c.if-pages-eq0.false o same))

pub returns-else-eq : goal.returns-else-eq
returns-else-eq c =
    let m = c.args.manager in
    let o = answered_refusal m _ c.place_piece-allocation.ensures c.in-Err.is in
    let other = same_false the_type c.in-Err.refusal no_fit (sym c.if-eq.ensures) in
    c.refused-in-Err.ensures
    ∙ sym (ap (pool_as m) (pool_refused _ _ _ c.if-pages-ge-POOL_PAGES_BOUND.false c.if-force_numa_split.false c.if-pages-eq0.false o other))

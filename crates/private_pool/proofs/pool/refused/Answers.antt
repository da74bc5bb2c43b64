use Rattle.private_pool.proofs.pool.refused.Goals as goal

pub returns : goal.returns
returns c = rw c.no_range-none.ensures

use Rattle.private_pool.proofs.place.whole_pool.Goals as goal

pub returns : goal.returns
returns c = rw c.no_range-none.ensures

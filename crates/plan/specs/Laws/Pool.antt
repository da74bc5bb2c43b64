-- Laws of the pool of a plan: the pages by the test of the code, and what an answer says of the placement.
use Rattle.std.specs.Prelude.{ℕ, ◌≤◌, Bool, true, false, ◌≡◌, refl, List, [], length, take, drop, Option, Some, None, Ok, Err}
use Rattle.std.proofs.Common.{ap, sym, arith, length-take, take_at}
use Rattle.refusal.specs.declared.Refusal.{Refusal}
use Rattle.host_params.specs.declared.IsolationType.{IsolationType}
use Rattle.address_space.specs.declared.request.AllocatedRange.{AllocatedRange}
use Rattle.address_space.specs.declared.table.AddressRange.{AddressRange}
use Rattle.address_space.specs.declared.table.AddressSpaceManager.{AddressSpaceManager}
use Rattle.address_space.specs.Table.{entries_of}
use Rattle.address_space.specs.Laws.Split.{entries_with}
use Rattle.dma_hint.specs.Pool.{pool_size}
use Rattle.plan_record.specs.declared.record.Pool.{Pool}
use Rattle.private_pool.specs.declared.pool.PrivatePool.{PrivatePool}
use Rattle.private_pool.specs.Pool.{Placement, refused, placed, max_pool_ranges, no_ranges, pool_placed, pool_as}
use Rattle.plan.specs.Pool.{has_pool, pages_wanted, placed_for, pool_for}

-- the pages by the test of the code
module _ (i : IsolationType) (p : Pool) (bytes : ℕ) where
  pub wanted-none : has_pool i ≡ false → pages_wanted i p bytes ≡ None
  unfolding pages_wanted
  wanted-none h = rw h

  pub wanted_sized : has_pool i ≡ true → pages_wanted i p bytes ≡ pool_size p.config p.host_pages p.processors bytes
  unfolding pages_wanted
  wanted_sized h = rw h

-- an answer of k ranges holds those that are placed, and the table with the entries afterwards
pub record PoolHeld (p : Placement) (pool : PrivatePool) (k : ℕ) : Type 0 where
  pub ranges : List AllocatedRange
  pub entries : List AddressRange
  pub placement : p ≡ placed ranges entries
  pub count : k ≡ length ranges
  pub stored : take k pool.ranges ≡ ranges
  pub table : entries_of pool.manager ≡ entries

-- they are no more than there is room for
pub pool_few : {p : Placement} {pool : PrivatePool} {k : ℕ} → PoolHeld p pool k → length pool.ranges ≡ max_pool_ranges → k ≤ max_pool_ranges
pool_few {p} {pool} {k} h n = omega (arith, h.count, ap length h.stored, length-take k pool.ranges)

module _ (m : AddressSpaceManager) where
  as_refused : (p : Placement) (n : Refusal) → (pool_as m p).answer ≡ Err n → p ≡ refused n
  as_refused (refused k) n h = cc
  as_refused (placed xs es) n h = cc

  as-placed : (p : Placement) (k : ℕ) → (pool_as m p).answer ≡ Ok k → PoolHeld p (pool_as m p) k
  as-placed (refused n) k h = cc
  as-placed (placed xs es) k h =
      let e : length xs ≡ k = cc in
      record {
        ranges = xs;
        entries = es;
        placement = refl;
        count = sym e;
        stored = take_at xs (drop (length xs) no_ranges) k e;
        table = entries_with m es true;
      }

  pub pool_refused : (o : Option ℕ) (split : Bool) {n : Refusal} → (pool_for o split m).answer ≡ Err n → placed_for o split (entries_of m) ≡ refused n
  pool_refused None split h = cc
  pool_refused (Some pages) split {n} h = as_refused (pool_placed pages split (entries_of m)) n h

  pub pool-placed : (o : Option ℕ) (split : Bool) {k : ℕ} → (pool_for o split m).answer ≡ Ok k
      → PoolHeld (placed_for o split (entries_of m)) (pool_for o split m) k
  pool-placed None split {k} h =
      let e : 0 ≡ k = cc in
      record { ranges = []; entries = entries_of m; placement = refl; count = sym e; stored = rw (← e); table = refl }
  pool-placed (Some pages) split {k} h = as-placed (pool_placed pages split (entries_of m)) k h

-- the same of an answer that is known to be the definition's
module _ (m : AddressSpaceManager) (o : Option ℕ) (split : Bool) {pool : PrivatePool} (e : pool ≡ pool_for o split m) where
  pub answer_refused : {n : Refusal} → pool.answer ≡ Err n → placed_for o split (entries_of m) ≡ refused n
  answer_refused h = pool_refused m o split (rw e at h)

  pub answer-placed : {k : ℕ} → pool.answer ≡ Ok k → PoolHeld (placed_for o split (entries_of m)) pool k
  answer-placed h = rw e (pool-placed m o split (rw e at h))

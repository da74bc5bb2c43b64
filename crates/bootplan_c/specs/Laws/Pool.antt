-- Laws of a pool's call: what it comes to, by the tests of the code and by the placement's answer.
use Rattle.std.specs.Prelude.{ℕ, ◌<◌, ◌≤◌, Bool, true, ◌≡◌, refl, List, length, take, drop, Some, None, Ok, Err}
use Rattle.std.proofs.Common.{lt-ltb, le-ltb}
use Rattle.std.proofs.Math.Seq.{take-append_seam}
use Rattle.refusal.specs.declared.Refusal.{Refusal}
use Rattle.address_space.specs.declared.table.AddressSpaceManager.{AddressSpaceManager}
use Rattle.address_space.specs.Table.{entries_of, pool_of}
use Rattle.address_space.specs.Laws.Split.{entries_with}
use Rattle.private_pool.specs.declared.pool.PrivatePool.{PrivatePool}
use Rattle.private_pool.specs.Pool.{Placement, refused, placed, no_ranges, pool_placed, pool_as}
use Rattle.table_words.specs.declared.code.CallError.TheVariants as error
use Rattle.table_words.specs.Table.{table_of, read_as}
use Rattle.table_words.specs.Laws.Table.{read_none, read_some}
use Rattle.table_calls.specs.Pool.{pieces_room}
use Rattle.bootplan_c.specs.Pool.{placed_call, pool_call}

module _ (pages : ℕ) (split : Bool) (words : List ℕ) (room : ℕ) where
  pub pool-room : room < pieces_room → pool_call pages split words room ≡ Err error.NoRoom
  unfolding pool_call
  pool-room h = rw (lt-ltb room pieces_room h)

  pub pool-bad : pieces_room ≤ room → None ≡ read_as (table_of words) → pool_call pages split words room ≡ Err error.BadTable
  unfolding pool_call
  pool-bad enough e = rw (le-ltb room pieces_room enough, read_none (table_of words) e)

pub pool-read : (pages : ℕ) (split : Bool) (words : List ℕ) (room : ℕ) {m : AddressSpaceManager} → pieces_room ≤ room → Some m ≡ read_as (table_of words)
    → pool_call pages split words room ≡ placed_call (pool_placed pages split (entries_of m))
unfolding pool_call
pool-read pages split words room enough e = rw (le-ltb room pieces_room enough, read_some (table_of words) e)

-- what a placement's answer says of it
module _ (m : AddressSpaceManager) where
  as_refused : (o : Placement) (r : Refusal) → (pool_as m o).answer ≡ Err r → placed_call o ≡ Err (error.Refused r)
  as_refused (refused k) r h = cc
  as_refused (placed xs es) r h = cc

  as-placed : (o : Placement) (n : ℕ) → (pool_as m o).answer ≡ Ok n → let p = pool_as m o in
      (placed_call o ≡ Ok (record { pieces = take n p.ranges; entries = entries_of p.manager }))
      × (pool_of p.manager ≡ true)
      × (length (take n p.ranges) ≡ n)
  as-placed (refused k) n h = cc
  as-placed (placed xs es) n h =
      let e : length xs ≡ n = cc in
      rw (← e, take-append_seam xs (drop (length xs) no_ranges), entries_with m es true) (refl, refl, refl)

  pub answer_refused : (o : Placement) {p : PrivatePool} {r : Refusal} → p ≡ pool_as m o → p.answer ≡ Err r → placed_call o ≡ Err (error.Refused r)
  answer_refused o {r = r} e h = as_refused o r (rw e at h)

  pub answer-placed : (o : Placement) {p : PrivatePool} {n : ℕ} → p ≡ pool_as m o → p.answer ≡ Ok n
      → (placed_call o ≡ Ok (record { pieces = take n p.ranges; entries = entries_of p.manager }))
      × (pool_of p.manager ≡ true)
      × (length (take n p.ranges) ≡ n)
  answer-placed o {n = n} e h = rw e (as-placed o n (rw e at h))

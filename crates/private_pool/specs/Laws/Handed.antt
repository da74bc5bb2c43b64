-- Laws of the requests that a pool is placed by: one that is met leaves no fewer entries, and what its answer says of it.
use Rattle.std.specs.Prelude.{ℕ, suc, ◌+◌, ◌≤◌, Bool, true, false, cond, ◌||◌, ◌≡◌, List, ◌∷◌, ◌++◌, ltb, length, Option, Ok, Err}
use Rattle.std.proofs.Math.Bool.{or-true}
use Rattle.std.proofs.Math.Path.{refl}
use Rattle.std.proofs.Common.{ap, ◌∙◌, arith, length-append}
use Rattle.refusal.specs.declared.Refusal.{Refusal}
use Rattle.refusal.specs.Number.{table_full}
use Rattle.host_params.specs.declared.AllocationPolicy.{AllocationPolicy}
use Rattle.host_params.specs.declared.AllocationType.{AllocationType}
use Rattle.host_params.specs.declared.AllocationType.TheVariants.{GpaPool}
use Rattle.address_space.specs.declared.request.AllocatedRange.{AllocatedRange}
use Rattle.address_space.specs.declared.request.Allocation.{Allocation}
use Rattle.address_space.specs.declared.table.AddressRange.{AddressRange}
use Rattle.address_space.specs.declared.table.AddressSpaceManager.{AddressSpaceManager}
use Rattle.address_space.specs.Fit.{aligned_to, fits_in}
use Rattle.address_space.specs.Request.{Outcome, refused, handed, placed_from, allocated, allocation_as}
use Rattle.address_space.specs.Search.{Search, nothing, found, searched, below_in, above_in}
use Rattle.address_space.specs.Split.{allotted, split_entry}
use Rattle.address_space.specs.Table.{max_address_ranges, entries_of, pool_of, table_with}
use Rattle.address_space.specs.Usage.{usage_for}
use Rattle.address_space.specs.Laws.Search.{found_in-table}
use Rattle.address_space.specs.Laws.Split.{split-length, entries_with}

-- a range that is handed out is so with the entries that were to be
placed-as : (b : Bool) (y x : AllocatedRange) (l es : List AddressRange)
    → cond b (refused table_full) (handed y l) ≡ handed x es → l ≡ es
placed-as true y x l es h = cc
placed-as false y x l es h = cc

-- a request that is met leaves no fewer entries
module _ (asked : Option ℕ) (len : ℕ) (type : AllocationType) (policy : AllocationPolicy) (alignment : Option ℕ) (es : List AddressRange) where
  handed_from : (x : AllocatedRange) (es' : List AddressRange) (s : Search AddressRange) → searched policy (fits_in asked len alignment) es ≡ s
      → placed_from len type policy alignment s ≡ handed x es' → length es ≤ length es'
  handed_from x es' nothing e h = absurd (let z : ◌≡◌ {A = ℕ} 0 1 = cc in omega arith)
  handed_from x es' (found before y after) e h =
      let used = allotted policy len (aligned_to alignment y.range) in
      let below = below_in policy before after in
      let above = above_in policy before after in
      let parts = split_entry used (usage_for type) y in
      let l = below ++ parts ++ above in
      let same : l ≡ es' = placed-as (ltb max_address_ranges (length l)) (record { range = used; vnode = y.vnode }) x l es' h in
      let was : length es ≡ length below + suc (length above) =
      ap length (found_in-table policy (fits_in asked len alignment) es before y after e) ∙ length-append below (y ∷ above)
      in
      let is : length l ≡ length below + length parts + length above =
      length-append (below ++ parts) above ∙ ap (λ (n : ℕ). n + length above) (length-append below parts)
      in
      omega (arith, split-length used (usage_for type) y, ap length same)

  pub handed_longer : (x : AllocatedRange) (es' : List AddressRange) → allocated asked len type policy alignment es ≡ handed x es'
      → length es ≤ length es'
  unfolding allocated
  handed_longer x es' h = handed_from x es' (searched policy (fits_in asked len alignment) es) refl h

-- what an answer says of the request: its range, with the entries of the table that comes with it; or its refusal
module _ (m : AddressSpaceManager) where
  as-range : (o : Outcome) (x : AllocatedRange) → (allocation_as m GpaPool o).answer ≡ Ok x
      → let after = (allocation_as m GpaPool o).manager in
      (o ≡ handed x (entries_of after)) × (after ≡ table_with m (entries_of after) true)
  as-range (refused n) x h = absurd (let z : ◌≡◌ {A = ℕ} 0 1 = cc in omega arith)
  as-range (handed y es) x h =
      let same : y ≡ x = cc in
      (rw (entries_with m es (pool_of m || true), same), rw (entries_with m es (pool_of m || true), or-true (pool_of m)))

  pub answered-range : {a : Allocation} (o : Outcome) {x : AllocatedRange} → a ≡ allocation_as m GpaPool o → a.answer ≡ Ok x
      → (o ≡ handed x (entries_of a.manager)) × (a.manager ≡ table_with m (entries_of a.manager) true)
  answered-range o {x} e h = rw e (as-range o x (rw e at h))

  as_refused : (o : Outcome) (n : Refusal) → (allocation_as m GpaPool o).answer ≡ Err n → o ≡ refused n
  as_refused (refused k) n h = cc
  as_refused (handed y es) n h = cc

  pub answered_refusal : {a : Allocation} (o : Outcome) {n : Refusal} → a ≡ allocation_as m GpaPool o → a.answer ≡ Err n
      → o ≡ refused n
  answered_refusal o {n} e h = as_refused o n (rw e at h)

-- How a search comes out, by the ledger's free ranges: no-fit exactly where none of them fits.
use Rattle.std.specs.Prelude.{ℕ, ◌%◌, ◌<◌, ◌≡◌, refl, Bool, true, false, List, [], ◌∷◌, Option, Some}
use Rattle.std.proofs.Common.{ap, sym, ◌∙◌, ⊎_elim}
use Rattle.refusal.specs.Number.{no_fit, table_full}
use Rattle.memory_range.specs.declared.range.MemoryRange.{MemoryRange}
use Rattle.memory_range.specs.declared.range.TaggedRange.{TaggedRange}
use Rattle.memory_range.specs.Valid.{page_size}
use Rattle.host_params.specs.declared.AllocationPolicy.{AllocationPolicy}
use Rattle.host_params.specs.declared.AllocationType.{AllocationType}
use Rattle.address_space.specs.declared.request.AllocatedRange.{AllocatedRange}
use Rattle.address_space.specs.declared.table.AddressRange.{AddressRange}
use Rattle.address_space.specs.Request.{Outcome, refused, handed, alignment_good, allocated}
use Rattle.address_space.specs.Usage.{usage_for}
use Rattle.memory.specs.declared.builder.AddressSpaceManagerBuilder.{AddressSpaceManagerBuilder}
use Rattle.memory_claims.specs.Claim.{Of64Bits}
use Rattle.memory_claims.specs.Laws.Request.{allocated_no_fit}
use Rattle.memory_claims.proofs.Request.{allocated-handed}
use Rattle.ledger.specs.Ledger.{Ledger}
use Rattle.ledger.specs.Search.{some_entry_fits, given_of}
use Rattle.ledger.specs.Laws.Allocated.{allocated_refusals, allocated-free}
use Rattle.ledger.proofs.Allocated.{allocated-given}
use Rattle.ledger.specs.Laws.Free.{fits-free}
use Rattle.ledger.specs.Laws.Kept.{Kept, Given, given-one}

module _ (b : AddressSpaceManagerBuilder) (ram : List TaggedRange) (configs pools : List MemoryRange)
    (asked : Option ℕ) (len : ℕ) (type : AllocationType) (policy : AllocationPolicy) (alignment : Option ℕ) (es : List AddressRange) (l : Ledger) where
  -- the three ways in which a search comes out
  pub data SearchCase (o : Outcome) : Type 0 where
    no-fit : some_entry_fits asked len alignment l.free ≡ false → o ≡ refused no_fit → SearchCase o
    full : some_entry_fits asked len alignment l.free ≡ true → o ≡ refused table_full → SearchCase o
    met : (x : AllocatedRange) (es' : List AddressRange) → some_entry_fits asked len alignment l.free ≡ true
        → given_of asked len policy alignment l.free ≡ Some x → Given b ram configs pools (usage_for type) (x ∷ []) es es' l → o ≡ handed x es'
        → SearchCase o

  module _ (k : Kept b ram configs pools es l) (pages : len % page_size ≡ 0) (some_bytes : 0 < len) (good : alignment_good alignment ≡ true)
      (bits : Of64Bits alignment) where
    turned_away : (allocated asked len type policy alignment es ≡ refused no_fit) → some_entry_fits asked len alignment l.free ≡ false
    turned_away h = rw (← k.free) ((fits-free asked len alignment es).0 ((allocated_no_fit asked len type policy alignment es).0 h))

    none-fits : some_entry_fits asked len alignment l.free ≡ false → allocated asked len type policy alignment es ≡ refused no_fit
    none-fits h = (allocated_no_fit asked len type policy alignment es).1 ((fits-free asked len alignment es).1 (rw k.free h))

    pub search_case : SearchCase (allocated asked len type policy alignment es)
    search_case = go (allocated asked len type policy alignment es) refl (some_entry_fits asked len alignment l.free) refl
      where
        go : (o : Outcome) → allocated asked len type policy alignment es ≡ o → (t : Bool) → some_entry_fits asked len alignment l.free ≡ t → SearchCase o
        go (refused n) e false t = no-fit t (sym e ∙ none-fits t)
        go (refused n) e true t =
            ⊎_elim
            (λ z. let w = turned_away (e ∙ ap refused z) in cc)
            (λ z. full t (ap refused z))
            (allocated_refusals asked len type policy alignment es n e)
        go (handed x es') e false t = let w = none-fits t in cc
        go (handed x es') e true t =
            let both = allocated-handed asked len type policy alignment es ram x es' k.sound pages some_bytes good bits e in
            met x es' t (rw (← k.free) (allocated-given asked len type policy alignment es x es' e))
            (given-one b ram configs pools asked len type policy alignment es es' x l k both.0 both.1
            (allocated-free asked len type policy alignment es ram x es' k.sound pages some_bytes good bits e))
            refl

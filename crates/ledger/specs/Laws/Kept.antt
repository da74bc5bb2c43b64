-- What a build establishes and every call keeps: the table is sound, its free entries are the ledger's free ranges, and each byte is used as the ledger and
-- the build say.
use Rattle.std.specs.Prelude.{ℕ, ◌≡◌, refl, Bool, true, false, List, [], ◌∷◌, Option, Some}
use Rattle.std.proofs.Common.{ap, sym, ◌∙◌}
use Rattle.std.proofs.lemmas.Option.{same_Some}
use Rattle.memory_range.specs.declared.range.MemoryRange.{MemoryRange}
use Rattle.memory_range.specs.declared.range.TaggedRange.{TaggedRange}
use Rattle.memory_range.specs.Range.{holds}
use Rattle.address_space.specs.declared.request.AllocatedRange.{AllocatedRange}
use Rattle.address_space.specs.declared.table.AddressRange.{AddressRange}
use Rattle.address_space.specs.declared.usage.AddressUsage.{AddressUsage}
use Rattle.address_space.specs.declared.usage.AddressUsage.TheVariants.{Free}
use Rattle.address_space.specs.Usage.{usage_for}
use Rattle.host_params.specs.declared.AllocationPolicy.{AllocationPolicy}
use Rattle.host_params.specs.declared.AllocationType.{AllocationType}
use Rattle.memory.specs.declared.builder.AddressSpaceManagerBuilder.{AddressSpaceManagerBuilder}
use Rattle.memory.specs.Laws.Overlap.{or-false_iff}
use Rattle.memory_claims.specs.Claim.{Note, note, note_at, tag_at, Sound, Handed}
use Rattle.ledger.specs.Ledger.{Ledger, cut, cut_given, usage_by}
use Rattle.ledger.specs.Claim.{free_of, WereFree, held_in}
use Rattle.ledger.specs.Laws.Free.{free_node, free_tag}

-- a byte has one node
one-node : (o : Option Note) (m n : ℕ) (u v : AddressUsage) → o ≡ Some (note m u) → o ≡ Some (note n v) → n ≡ m
one-node o m n u v p q = ap (λ (x : Note). x.node) (same_Some (note n v) (note m u) (sym q ∙ p))

-- the ledger after one range more
abbrev pub cut_one : AddressUsage → AllocatedRange → Ledger → Ledger
cut_one u x l = cut_given u (x ∷ []) l

module _ (b : AddressSpaceManagerBuilder) (ram : List TaggedRange) (configs pools : List MemoryRange) where
  pub record Kept (es : List AddressRange) (l : Ledger) : Type 0 where
    pub sound : Sound ram es
    pub free : free_of es ≡ l.free
    pub usages : (n a : ℕ) → tag_at ram a ≡ Some n → note_at es a ≡ Some (note n (usage_by b configs pools l a))

  -- what holds of ranges that are handed out in turn from a table es, which leave es': they are used as u from then on
  pub record Given (u : AddressUsage) (xs : List AllocatedRange) (es es' : List AddressRange) (l : Ledger) : Type 0 where
    pub were-free : WereFree xs l.free
    pub others : (a : ℕ) → held_in xs a ≡ false → note_at es' a ≡ note_at es a
    pub kept : Kept es' (cut_given u xs l)

  -- no range
  pub given-none : (u : AddressUsage) (es : List AddressRange) (l : Ledger) → Kept es l → Given u [] es es l
  given-none u es l k = record { were-free = tt; others = λ a h. refl; kept = k }

  -- one range
  module _ (asked : Option ℕ) (len : ℕ) (type : AllocationType) (policy : AllocationPolicy) (alignment : Option ℕ) (es es' : List AddressRange)
      (x : AllocatedRange) (l : Ledger) (k : Kept es l) (sound : Sound ram es') (h : Handed asked len type policy alignment es x es')
      (free : free_of es' ≡ cut x.range (free_of es)) where
    one_free : (a : ℕ) → holds x.range a ≡ true → tag_at l.free a ≡ Some x.vnode
    one_free a p = rw (← k.free) (free_tag 0 es a k.sound.ordered ∙ ap free_node (h.was_free a p))

    one_usage : (n a : ℕ) → tag_at ram a ≡ Some n → note_at es' a ≡ Some (note n (usage_by b configs pools (cut_one (usage_for type) x l) a))
    one_usage n a e = go (holds x.range a) refl
      where
        go : (t : Bool) → holds x.range a ≡ t → note_at es' a ≡ Some (note n (usage_by b configs pools (cut_one (usage_for type) x l) a))
        go true p = rw (p, one-node (note_at es a) x.vnode n Free _ (h.was_free a p) (k.usages n a e)) (h.now-used a p)
        go false p = rw p (h.others a p ∙ k.usages n a e)

    pub given-one : Given (usage_for type) (x ∷ []) es es' l
    given-one = record {
      were-free = (one_free, tt);
      others = λ a p. h.others a (or_left a p);
      kept = record { sound = sound; free = free ∙ ap (cut x.range) k.free; usages = one_usage };
    }
      where
        or_left : (a : ℕ) → held_in (x ∷ []) a ≡ false → holds x.range a ≡ false
        or_left a p = ((or-false_iff (holds x.range a) false).0 p).0

  -- a range in front of others
  pub given_more : (u : AddressUsage) (x : AllocatedRange) (xs : List AllocatedRange) (es es₁ es₂ : List AddressRange) (l : Ledger)
      → Given u (x ∷ []) es es₁ l → Given u xs es₁ es₂ (cut_one u x l) → Given u (x ∷ xs) es es₂ l
  given_more u x xs es es₁ es₂ l g h = record {
    were-free = (g.were-free.0, h.were-free);
    others = λ a p.
        let both = (or-false_iff (holds x.range a) (held_in xs a)).0 p in
        h.others a both.1 ∙ g.others a ((or-false_iff (holds x.range a) false).1 (both.0, refl));
    kept = h.kept;
  }

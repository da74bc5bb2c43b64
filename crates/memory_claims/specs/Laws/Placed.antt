-- What an entry that fits gives a request: a range that was free, and a table that is as sound as it was.
use Rattle.std.specs.Prelude.{ℕ, ◌≤◌, ◌≡◌, refl, Bool, true, false, cond, ◌&&◌, List, ◌++◌, leb, ltb, length, Option, Some}
use Rattle.std.proofs.Common.{sym, ◌∙◌, ltb-false, leb-true}
use Rattle.std.proofs.Math.Bool.{and-eq-true_iff}
use Rattle.refusal.specs.Number.{no_fit, table_full}
use Rattle.memory_range.specs.declared.range.TaggedRange.{TaggedRange}
use Rattle.memory_range.specs.Bytes.{holders, Ordered, All}
use Rattle.memory_range.specs.List.{ranges_in}
use Rattle.memory_range.specs.Range.{length_of, holds}
use Rattle.memory_range.specs.Valid.{all_valid_of}
use Rattle.memory_range.specs.Laws.Bytes.{counted}
use Rattle.memory_range.specs.Laws.Count.{bytes_same}
use Rattle.host_params.specs.declared.AllocationPolicy.{AllocationPolicy}
use Rattle.host_params.specs.declared.AllocationType.{AllocationType}
use Rattle.boot_ram.specs.Held.{on_node}
use Rattle.address_space.specs.declared.request.AllocatedRange.{AllocatedRange}
use Rattle.address_space.specs.declared.table.AddressRange.{AddressRange}
use Rattle.address_space.specs.declared.usage.AddressUsage.{AddressUsage}
use Rattle.address_space.specs.declared.usage.AddressUsage.TheVariants.{Free, Used, Reserved}
use Rattle.address_space.specs.Fit.{on_asked_node, aligned_to, fits_in}
use Rattle.address_space.specs.Request.{refused, handed, placed_as, placed}
use Rattle.address_space.specs.Split.{allotted, split_entry}
use Rattle.address_space.specs.Table.{max_address_ranges, ranges_at}
use Rattle.address_space.specs.Usage.{is_free, usage_for}
use Rattle.memory_claims.specs.Claim.{noded_ranges, Note, note, note_at, InRam, Sound, Handed}
use Rattle.memory_claims.specs.Laws.Notes.{counted_on, note-holders, note-holders-on}

-- the only free usage
free_usage : (u : AddressUsage) → is_free u ≡ true → u ≡ Free
free_usage Free h = refl
free_usage Used h = cc
free_usage (Reserved t) h = cc

-- what is handed out, and what is not refused for want of a fit, where an entry was found
module _ (x : AllocatedRange) (xs : List AddressRange) where
  pub placed-handed : (y : AllocatedRange) (ys : List AddressRange) → placed_as x xs ≡ handed y ys → (x ≡ y) × (xs ≡ ys) × (length xs ≤ max_address_ranges)
  placed-handed y ys h = go (ltb max_address_ranges (length xs)) refl h
    where
      go : (t : Bool) → ltb max_address_ranges (length xs) ≡ t → cond t (refused table_full) (handed x xs) ≡ handed y ys
          → (x ≡ y) × (xs ≡ ys) × (length xs ≤ max_address_ranges)
      go true p q = cc
      go false p q = (cc, cc, ltb-false max_address_ranges (length xs) p)

  placed-fits : placed_as x xs ≡ refused no_fit → ⊥
  placed-fits h = go (ltb max_address_ranges (length xs)) h
    where
      go : (t : Bool) → cond t (refused table_full) (handed x xs) ≡ refused no_fit → ⊥
      go true q = cc
      go false q = cc

module _ (len : ℕ) (type : AllocationType) (policy : AllocationPolicy) (alignment : Option ℕ) where
  -- what is handed out of an entry
  abbrev pub outcome : AddressRange → AllocatedRange
  outcome e = record { range = allotted policy len (aligned_to alignment e.range); vnode = e.vnode }

  -- an entry that was found is no want of a fit
  pub found-placed : (lower : List AddressRange) (e : AddressRange) (higher : List AddressRange)
      → placed len type policy alignment lower e higher ≡ refused no_fit → ⊥
  found-placed lower e higher h = placed-fits (outcome e) (lower ++ split_entry (outcome e).range (usage_for type) e ++ higher) h

module _ (asked : Option ℕ) (len : ℕ) (type : AllocationType) (policy : AllocationPolicy) (alignment : Option ℕ) where
  -- an entry that fits is free, on the asked node, and its aligned part is long enough
  pub fits-parts : (e : AddressRange) → fits_in asked len alignment e ≡ true
      → (e.usage ≡ Free) × (on_asked_node asked e.vnode ≡ true) × (len ≤ length_of (aligned_to alignment e.range))
  fits-parts e h =
      let long = leb len (length_of e.range) in
      let room = leb len (length_of (aligned_to alignment e.range)) in
      let first = (and-eq-true_iff (is_free e.usage) (on_asked_node asked e.vnode && (long && room))).0 h in
      let second = (and-eq-true_iff (on_asked_node asked e.vnode) (long && room)).0 first.1 in
      let third = (and-eq-true_iff long room).0 second.1 in
      (free_usage e.usage first.0, second.0, leb-true _ _ third.1)

  -- what is handed out changes no byte's node, so a table that stays in order, valid and small stays sound
  module _ (ram : List TaggedRange) (es es' : List AddressRange) (x : AllocatedRange)
      (sound : Sound ram es)
      (gives : Handed asked len type policy alignment es x es') where
    said_alike : (f : Option Note → ℕ) → ((n : ℕ) (u v : AddressUsage) → f (Some (note n u)) ≡ f (Some (note n v)))
        → (a : ℕ) → f (note_at es' a) ≡ f (note_at es a)
    said_alike f same a = go (holds x.range a) refl
      where
        go : (t : Bool) → holds x.range a ≡ t → f (note_at es' a) ≡ f (note_at es a)
        go true h = rw (gives.was_free a h, gives.now-used a h) (same x.vnode (usage_for type) Free)
        go false h = rw (gives.others a h)

    pub stays_sound : Ordered 0 (ranges_at es') → all_valid_of (ranges_at es') ≡ true → All (InRam ram) es' → length es' ≤ max_address_ranges → Sound ram es'
    stays_sound o v i c =
        let on-node : (n a : ℕ) → holders (ranges_in (on_node n (noded_ranges es'))) a ≡ holders (ranges_in (on_node n ram)) a =
        λ n a. note-holders-on 0 n es' a o ∙ said_alike (counted_on n) (λ k u v. refl) a ∙ sym (note-holders-on 0 n es a sound.ordered)
        ∙ sound.on-node n a
        in
        record {
          ordered = o;
          valid = v;
          covers = λ a. note-holders 0 es' a o ∙ said_alike counted (λ k u v. refl) a ∙ sym (note-holders 0 es a sound.ordered) ∙ sound.covers a;
          on-node = on-node;
          in-ram = i;
          totals = λ n. bytes_same (ranges_in (on_node n (noded_ranges es'))) (ranges_in (on_node n ram)) (on-node n);
          count = c;
        }

-- What is handed out is cut from the free ranges (that it is what the rule gives of them: proofs/Allocated).
use Rattle.std.specs.Prelude.{ℕ, min, max, ◌%◌, ◌≤◌, ◌<◌, Bool, true, false, cond, List, [], ◌∷◌, ◌++◌, ◌⊎◌, ltb, length, Option}
use Rattle.std.proofs.Math.Path.{◌≡◌, refl}
use Rattle.std.proofs.Common.{ap, ◌∙◌, append_assoc, arith, lt-ltb, le-ltb}
use Rattle.std.proofs.Math.Logic.{inl, inr}
use Rattle.std.proofs.Math.Nat.{min-eq_left, min-eq_right, max-eq_left, max-eq_right}
use Rattle.refusal.specs.declared.Refusal.{Refusal}
use Rattle.refusal.specs.Number.{no_fit, table_full}
use Rattle.memory_range.specs.declared.range.MemoryRange.{MemoryRange}
use Rattle.memory_range.specs.declared.range.TaggedRange.{TaggedRange}
use Rattle.memory_range.specs.Bytes.{Ordered}
use Rattle.memory_range.specs.List.{tagged}
use Rattle.memory_range.specs.Range.{range}
use Rattle.memory_range.specs.Valid.{page_size}
use Rattle.host_params.specs.declared.AllocationPolicy.{AllocationPolicy}
use Rattle.host_params.specs.declared.AllocationType.{AllocationType}
use Rattle.host_params.specs.declared.AllocationType.TheVariants.{GpaPool, SidecarNode, TdxPageTables}
use Rattle.address_space.specs.declared.request.AllocatedRange.{AllocatedRange}
use Rattle.address_space.specs.declared.table.AddressRange.{AddressRange}
use Rattle.address_space.specs.Fit.{aligned_to, fits_in}
use Rattle.address_space.specs.Request.{refused, handed, alignment_good, placed_as, placed_from, allocated}
use Rattle.address_space.specs.Search.{Search, nothing, found, in_order_of, searched, below_in, above_in}
use Rattle.address_space.specs.Split.{allotted, free_entry, left_free, split_entry}
use Rattle.address_space.specs.Table.{max_address_ranges, ranges_at}
use Rattle.address_space.specs.Usage.{is_free, usage_for}
use Rattle.address_space.specs.Laws.Search.{found_in-table, found-fits}
use Rattle.memory_claims.specs.Claim.{noded_range, Sound, Of64Bits}
use Rattle.memory_claims.specs.Laws.Notes.{starts-behind}
use Rattle.memory_claims.proofs.Part.{given}
use Rattle.memory_claims.specs.Laws.Placed.{placed-handed, fits-parts}
use Rattle.memory_claims.specs.Laws.Split.{Inside, entry-valid}
use Rattle.ledger.specs.Ledger.{over, cut}
use Rattle.ledger.specs.Claim.{free_of}

-- what is placed and refused has too many entries
placed_refused : (x : AllocatedRange) (xs : List AddressRange) (n : Refusal) → placed_as x xs ≡ refused n → n ≡ table_full
placed_refused x xs n h = go (ltb max_address_ranges (length xs)) h
  where
    go : (t : Bool) → cond t (refused table_full) (handed x xs) ≡ refused n → n ≡ table_full
    go true q = cc
    go false q = cc

-- the range r, which has a byte, is cut from free ranges
module _ (r : MemoryRange) (some_bytes : r.start < r.end) where
  -- a range that ends at or below r's start, or starts at or above its end, stays as it is
  cut-past : (x : TaggedRange) (xs : List TaggedRange) → x.range.start < x.range.end
      → (x.range.end ≤ r.start) ⊎ (r.end ≤ x.range.start) → cut r (x ∷ xs) ≡ x ∷ cut r xs
  cut-past x xs filled (inl h) =
      let all-below : x.range.end ≤ max x.range.start r.end = omega arith in
      rw (min-eq_left h, lt-ltb _ _ filled, le-ltb _ _ all-below)
  cut-past x xs filled (inr h) =
      let all_above : min x.range.end r.start ≤ x.range.start = omega arith in
      rw (le-ltb _ _ all_above, max-eq_left h, lt-ltb _ _ filled)

  -- so does such an entry of a table, in front of what is cut
  cut-behind : (e : AddressRange) (xs ys : List AddressRange) → e.range.start < e.range.end
      → (e.range.end ≤ r.start) ⊎ (r.end ≤ e.range.start) → cut r (free_of xs) ≡ free_of ys → cut r (free_of (e ∷ xs)) ≡ free_of (e ∷ ys)
  cut-behind e xs ys filled apart h = go (is_free e.usage)
    where
      go : (t : Bool) → cut r (cond t (noded_range e ∷ free_of xs) (free_of xs)) ≡ cond t (noded_range e ∷ free_of ys) (free_of ys)
      go true = cut-past (noded_range e) (free_of xs) filled apart ∙ rw h
      go false = h

  -- and so does a table in order above r
  cut_above : (b : ℕ) (es : List AddressRange) → r.end ≤ b → Ordered b (ranges_at es) → cut r (free_of es) ≡ free_of es
  cut_above b [] h o = refl
  cut_above b (e ∷ es) h o = cut-behind e es es o.1.0 (inr (omega arith)) (cut_above e.range.end es (omega arith) o.1.1)

-- what is left free, in front of other entries
left_over : (n s t : ℕ) (rest : List AddressRange) → free_of (left_free n s t ++ rest) ≡ over n s t ++ free_of rest
left_over n s t rest = go (ltb s t)
  where
    go : (b : Bool) → free_of (cond b (free_entry n (range s t) ∷ []) [] ++ rest) ≡ cond b (tagged s t n ∷ []) [] ++ free_of rest
    go true = refl
    go false = refl

-- what is handed out is not free
never-free : (type : AllocationType) → is_free (usage_for type) ≡ false
never-free GpaPool = refl
never-free SidecarNode = refl
never-free TdxPageTables = refl

-- the free entry e between those lower and those higher is split around used, which lies inside it: its bytes are cut
module _ (e : AddressRange) (higher : List AddressRange) (used : MemoryRange) (type : AllocationType)
    (free : is_free e.usage ≡ true) (within : Inside used e.range) where
  cut-entry : (b : ℕ) → Ordered b (ranges_at (e ∷ higher)) → cut used (free_of (e ∷ higher)) ≡ free_of (split_entry used (usage_for type) e ++ higher)
  cut-entry b o =
      let low : used.start ≤ e.range.end = omega arith in
      let high : e.range.start ≤ used.end = omega arith in
      rw (
        append_assoc,
        left_over,
        never-free type,
        left_over,
        free,
        min-eq_right low,
        max-eq_right high,
        cut_above used within.1 e.range.end higher within.2 o.1.1,
      )
      (append_assoc (over e.vnode e.range.start used.start) (over e.vnode used.end e.range.end) (free_of higher))

  cut_split : (b : ℕ) (lower : List AddressRange) → Ordered b (ranges_at (lower ++ e ∷ higher))
      → cut used (free_of (lower ++ e ∷ higher)) ≡ free_of (lower ++ (split_entry used (usage_for type) e ++ higher))
  cut_split b [] o = cut-entry b o
  cut_split b (x ∷ lower) o =
      let reached = starts-behind e higher x.range.end lower o.1.1 in
      cut-behind used within.1 x (lower ++ e ∷ higher) (lower ++ (split_entry used (usage_for type) e ++ higher)) o.1.0
      (inl (omega arith)) (cut_split x.range.end lower o.1.1)

-- the search and the split, for a length in whole pages
module _ (asked : Option ℕ) (len : ℕ) (type : AllocationType) (policy : AllocationPolicy) (alignment : Option ℕ) (es : List AddressRange) where
  -- what is taken from an entry that was found, and the entries that this leaves
  abbrev pub taken : AddressRange → AllocatedRange
  taken e = record { range = allotted policy len (aligned_to alignment e.range); vnode = e.vnode }

  abbrev pub left : List AddressRange → AddressRange → List AddressRange → List AddressRange
  left before e after = below_in policy before after ++ split_entry (taken e).range (usage_for type) e ++ above_in policy before after

  -- it is refused for want of a fit, or as too many entries
  pub allocated_refusals : (n : Refusal) → allocated asked len type policy alignment es ≡ refused n → (n ≡ no_fit) ⊎ (n ≡ table_full)
  unfolding allocated
  allocated_refusals n h = go (searched policy (fits_in asked len alignment) es) h
    where
      go : (s : Search AddressRange) → placed_from len type policy alignment s ≡ refused n → (n ≡ no_fit) ⊎ (n ≡ table_full)
      go nothing q = inl (cc)
      go (found before e after) q = inr (placed_refused (taken e) (left before e after) n q)

  -- what it hands out comes from an entry that it found
  pub record From (x : AllocatedRange) (es' : List AddressRange) : Type 0 where
    pub before : List AddressRange
    pub chosen : AddressRange
    pub after : List AddressRange
    pub finds : searched policy (fits_in asked len alignment) es ≡ found before chosen after
    pub gives : taken chosen ≡ x
    pub leaves : left before chosen after ≡ es'

  pub allocated_from : (x : AllocatedRange) (es' : List AddressRange) → allocated asked len type policy alignment es ≡ handed x es' → From x es'
  unfolding allocated
  allocated_from x es' h = go (searched policy (fits_in asked len alignment) es) refl h
    where
      go : (s : Search AddressRange) → searched policy (fits_in asked len alignment) es ≡ s → placed_from len type policy alignment s ≡ handed x es'
          → From x es'
      go nothing p q = cc
      go (found before e after) p q =
          let same = placed-handed (taken e) (left before e after) x es' q in
          record { before = before; chosen = e; after = after; finds = p; gives = same.0; leaves = same.1 }

  -- it is cut from the free ranges
  pub allocated-free : (ram : List TaggedRange) (x : AllocatedRange) (es' : List AddressRange)
      → Sound ram es → len % page_size ≡ 0 → 0 < len → alignment_good alignment ≡ true → Of64Bits alignment
      → allocated asked len type policy alignment es ≡ handed x es' → free_of es' ≡ cut x.range (free_of es)
  allocated-free ram x es' sound pages some_bytes good bits h =
      let w = allocated_from x es' h in
      let e = w.chosen in
      let lower = below_in policy w.before w.after in
      let higher = above_in policy w.before w.after in
      let used = (taken e).range in
      let whole = found_in-table policy (fits_in asked len alignment) es w.before e w.after w.finds in
      let fitting =
      fits-parts asked len type policy alignment e (found-fits (fits_in asked len alignment) (in_order_of policy es) w.before e w.after w.finds) in
      let valid = entry-valid lower e higher (rw whole at sound.valid) in
      let part = given policy len alignment e.range pages some_bytes good bits valid fitting.2 in
      let cuts = cut_split e higher used type (ap is_free fitting.0) part.inside 0 lower (rw whole at sound.ordered) in
      cc (append_assoc lower (split_entry used (usage_for type) e) higher)

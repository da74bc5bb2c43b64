-- Laws of the lists that are reported: what a turn of each walk makes of the entry at the next index.
use Rattle.std.specs.Prelude.{ℕ, ◌+◌, ◌≤◌, ◌<◌, ◌≡◌, refl, true, false, List, [], ◌∷◌, ◌++◌, eqb, length, take, drop, get_or, set}
use Rattle.std.proofs.Common.{ap, sym, ◌∙◌, append_assoc, add-one, arith, eqb-true, length-take, length-set, drop_of_length-le, drop-cons, get_or-take, length-take-le, take-suc-set}
use Rattle.std.proofs.Math.Bool.{and-eq-true_iff}
use Rattle.std.proofs.lemmas.List.{map-append, length-map}
use Rattle.memory_range.specs.declared.range.TaggedRange.{TaggedRange}
use Rattle.memory_range.specs.List.{tagged}
use Rattle.range_lists.specs.Merge.{merge_first}
use Rattle.range_lists.specs.Laws.Merge.{join_first, keep-first}
use Rattle.host_params.specs.declared.MemoryVtlType.{MemoryVtlType}
use Rattle.host_params.specs.declared.MemoryVtlType.TheVariants as vtl
use Rattle.address_space.specs.declared.list.Vtl2Range.{Vtl2Range}
use Rattle.address_space.specs.declared.table.AddressRange.{AddressRange}
use Rattle.address_space.specs.declared.table.AddressSpaceManager.{AddressSpaceManager}
use Rattle.address_space.specs.List.{continues_at, numbered_range, numbered_ranges, typed_range, vtl2_ranges}
use Rattle.address_space.specs.Table.{entries_of, no_entry}
use Rattle.address_space.specs.Usage.{vtl_type_of, type_number}

-- the entries from an index on are the array's element there and those behind it
pub next-entry : (m : AddressSpaceManager) (at : ℕ) → at < length (entries_of m)
    → drop at (entries_of m) ≡ get_or m.address_space at no_entry ∷ drop (at + 1) (entries_of m)
next-entry m at h =
    let counted : at < m.count = omega (arith, length-take m.count m.address_space) in
    rw (add-one, ← get_or-take m.count m.address_space at no_entry counted) (drop-cons (entries_of m) at no_entry h)

-- the same of a list of entries
pub rest-entry : (es : List AddressRange) (at : ℕ) → at < length es → drop at es ≡ get_or es at no_entry ∷ drop (at + 1) es
rest-entry es at h = rw add-one (drop-cons es at no_entry h)

-- to join the ranges from an entry on is to put its range in front of the joined ranges behind it
pub joined-first : (es : List AddressRange) (at : ℕ) (e : AddressRange) (r : TaggedRange) → at < length es → e ≡ get_or es at no_entry → r ≡ typed_range e
    → vtl2_ranges (drop at es) ≡ merge_first r (vtl2_ranges (drop (at + 1) es))
joined-first es at e r below is made =
    ap vtl2_ranges (rest-entry es at below) ∙ ap (λ (t : TaggedRange). merge_first t (vtl2_ranges (drop (at + 1) es))) (sym (rw is at made))

-- the range made so far, and the entry at the next index
module _ (es : List AddressRange) (start end number next : ℕ) (below : next < length es) where
  abbrev entry : AddressRange
  entry = get_or es next no_entry

  -- an entry that goes on where the range ends is joined to it
  pub joined : continues_at end number entry ≡ true
      → merge_first (tagged start end number) (vtl2_ranges (drop next es))
      ≡ merge_first (tagged start entry.range.end number) (vtl2_ranges (drop (next + 1) es))
  joined h =
      let type = type_number (vtl_type_of entry.usage) in
      let both = (and-eq-true_iff (eqb end entry.range.start) (eqb number type)).0 h in
      rw (rest-entry es next below, eqb-true end entry.range.start both.0, eqb-true number type both.1)
      (join_first start entry.range.start entry.range.end type (vtl2_ranges (drop (next + 1) es)))

  -- before any other entry the range is whole
  pub whole : continues_at end number entry ≡ false
      → merge_first (tagged start end number) (vtl2_ranges (drop next es))
      ≡ tagged start end number ∷ vtl2_ranges (drop next es)
  whole h = rw (rest-entry es next below, keep-first)

-- ranges stored one behind the other
numbered_append : (xs ys : List Vtl2Range) → numbered_ranges (xs ++ ys) ≡ numbered_ranges xs ++ numbered_ranges ys
numbered_append = map-append numbered_range

numbered-length : (xs : List Vtl2Range) → length (numbered_ranges xs) ≡ length xs
numbered-length xs = length-map xs numbered_range

module _ (l : List Vtl2Range) (k : ℕ) (x : Vtl2Range) (fits : k < length l) where
  stored : numbered_ranges (take (k + 1) (set l k x)) ≡ numbered_ranges (take k l) ++ numbered_range x ∷ []
  stored = rw (add-one, take-suc-set l k x fits) (numbered_append (take k l) (x ∷ []))

  -- a range that is whole is stored, and the next entry begins another
  pub stored_whole : (es : List AddressRange) (next : ℕ) (all : List TaggedRange) (y : Vtl2Range) → next < length es
      → all ≡ numbered_ranges (take k l) ++ merge_first (numbered_range x) (vtl2_ranges (drop next es))
      → continues_at x.range.end (type_number x.vtl_type) (get_or es next no_entry) ≡ false
      → numbered_range y ≡ typed_range (get_or es next no_entry)
      → all ≡ numbered_ranges (take (k + 1) (set l k x)) ++ merge_first (numbered_range y) (vtl2_ranges (drop (next + 1) es))
  stored_whole es next all y below e h q =
      e
      ∙ rw (whole es x.range.start x.range.end (type_number x.vtl_type) next below h, stored, append_assoc, q, rest-entry es next below)

  -- the last one is stored
  pub stored_last : (es : List AddressRange) (next : ℕ) (all : List TaggedRange) → length es ≤ next
      → all ≡ numbered_ranges (take k l) ++ merge_first (numbered_range x) (vtl2_ranges (drop next es))
      → (numbered_ranges (take (k + 1) (set l k x)) ≡ all) × (k + 1 ≡ length all)
  stored_last es next all past e =
      let p : numbered_ranges (take (k + 1) (set l k x)) ≡ all = stored ∙ sym (e ∙ rw (drop_of_length-le es {i = next} past)) in
      let n : length (take (k + 1) (set l k x)) ≡ k + 1 = length-take-le (k + 1) (set l k x) (simp length-set (omega arith)) in
      (p, sym n ∙ sym (numbered-length (take (k + 1) (set l k x))) ∙ ap length p)

-- the type that has a number
type_of : ℕ → MemoryVtlType
type_of n =
    get_or
    (vtl.Ram
    ∷ vtl.Config
    ∷ vtl.Reserved
    ∷ vtl.SidecarImage
    ∷ vtl.SidecarNode
    ∷ vtl.GpaPool
    ∷ vtl.TdxPageTables
    ∷ vtl.BootshimLogBuffer
    ∷ vtl.PersistedStateHeader
    ∷ vtl.PersistedStatePayload
    ∷ [])
    n
    vtl.Ram

type_of-number : (t : MemoryVtlType) → type_of (type_number t) ≡ t
unfolding type_of
type_of-number vtl.Ram = refl
type_of-number vtl.Config = refl
type_of-number vtl.Reserved = refl
type_of-number vtl.SidecarImage = refl
type_of-number vtl.SidecarNode = refl
type_of-number vtl.GpaPool = refl
type_of-number vtl.TdxPageTables = refl
type_of-number vtl.BootshimLogBuffer = refl
type_of-number vtl.PersistedStateHeader = refl
type_of-number vtl.PersistedStatePayload = refl

-- no two types have one number
pub type-number_inj : (s t : MemoryVtlType) → type_number s ≡ type_number t → s ≡ t
type-number_inj s t h = sym (type_of-number s) ∙ ap type_of h ∙ type_of-number t

-- Laws of the reserved ranges: how many they are, and that a list of them is made of its parts.
use Rattle.std.specs.Prelude.{ℕ, ◌+◌, ◌≤◌, ◌<◌, ◌≡◌, refl, List, [], ◌∷◌, ◌++◌, length, take, get_or, set, Option, Some, None}
use Rattle.std.proofs.Common.{append_assoc, arith, add-one, length-append, take-suc}
use Rattle.std.proofs.lemmas.List.{map-append, length-map}
use Rattle.memory_range.specs.declared.range.MemoryRange.{MemoryRange}
use Rattle.memory_range.specs.declared.range.SplitRange.{SplitRange}
use Rattle.memory_range.specs.declared.range.TaggedRange.{TaggedRange}
use Rattle.memory_range.specs.List.{ranges_of, first_tagged}
use Rattle.memory_range.specs.Range.{range}
use Rattle.memory_range.specs.Laws.List.{get_d-ranges}
use Rattle.address_space.specs.declared.usage.ReservedMemoryType.{ReservedMemoryType}
use Rattle.address_space.specs.declared.usage.ReservedMemoryType.TheVariants.{Vtl2Config, Vtl2Reserved, SidecarImage, TdxPageTables, BootshimLogBuffer, PersistedStateHeader, PersistedStatePayload}
use Rattle.address_space.specs.Usage.{reserved_number_of}
use Rattle.memory.specs.declared.builder.AddressSpaceManagerBuilder.{AddressSpaceManagerBuilder}
use Rattle.memory.specs.Builder.{reserved_as, all_as, option_as, option_count, state_of, given_range, options_of, reserved_of, reserved_count}
use Rattle.memory.specs.Laws.Listed.{put-behind}

pub option_few : (r : Option MemoryRange) → option_count r ≤ 1
option_few (Some r) = omega arith
option_few None = omega arith

pub length-option : (t : ReservedMemoryType) (r : Option MemoryRange) → length (option_as t r) ≡ option_count r
length-option t (Some r) = refl
length-option t None = refl

pub length-all : (t : ReservedMemoryType) (rs : List MemoryRange) → length (all_as t rs) ≡ length rs
length-all t rs = length-map rs (reserved_as t)

pub as_append : (t : ReservedMemoryType) (rs ss : List MemoryRange) → all_as t (rs ++ ss) ≡ all_as t rs ++ all_as t ss
as_append t = map-append (reserved_as t)

-- as many as there are optional ranges, and so at most four
pub length_options : (b : AddressSpaceManagerBuilder)
    → length (options_of b)
    ≡ option_count b.reserved_range + option_count b.sidecar_image + option_count b.page_tables + option_count b.log_buffer
length_options b = simp (length-append, length-option)

pub options_few : (b : AddressSpaceManagerBuilder) → length (options_of b) ≤ 4
options_few b =
    omega (
      arith,
      length_options b,
      option_few b.reserved_range,
      option_few b.sidecar_image,
      option_few b.page_tables,
      option_few b.log_buffer,
    )

-- the payload counts even where it is dropped
pub reserved_few : (b : AddressSpaceManagerBuilder) (configs : List MemoryRange) → length (reserved_of b configs) ≤ reserved_count b configs
reserved_few b configs =
    let payload = given_range (state_of b).right in
    simp (length-append, length-option, length-all) (omega (arith, option_few payload))

-- ranges in lists of numbers beside each other, as callers may hold them: those up to an index, and the one there
all-next : (t : ReservedMemoryType) (ss es : List ℕ) (i : ℕ) → i < length (ranges_of ss es)
    → all_as t (take (i + 1) (ranges_of ss es)) ≡ all_as t (take i (ranges_of ss es)) ++ reserved_as t (range (get_or ss i 0) (get_or es i 0)) ∷ []
all-next t ss es i h =
    let rs = ranges_of ss es in
    rw (add-one, take-suc rs i (range 0 0) h, as_append t (take i rs) (get_or rs i (range 0 0) ∷ []), get_d-ranges ss es i h)

-- a list's range at an index is put behind those before it
pub put_next : (t : ReservedMemoryType) (starts ends : List ℕ) (k i : ℕ) (xs : List TaggedRange) (ss es ts : List ℕ) {ss' es' ts' : List ℕ}
    → i < length (ranges_of starts ends) → k + i < length ss → k + i < length es → k + i < length ts
    → ss' ≡ set ss (k + i) (get_or starts i 0) → es' ≡ set es (k + i) (get_or ends i 0) → ts' ≡ set ts (k + i) (reserved_number_of t)
    → first_tagged (k + i) ss es ts ≡ xs ++ all_as t (take i (ranges_of starts ends))
    → first_tagged (k + (i + 1)) ss' es' ts' ≡ xs ++ all_as t (take (i + 1) (ranges_of starts ends))
put_next t starts ends k i xs ss es ts h hs he ht s e g before =
    let n : k + (i + 1) ≡ k + i + 1 = omega arith in
    let put = put-behind (k + i) ss es ts (range (get_or starts i 0) (get_or ends i 0)) (reserved_number_of t) s e g hs he ht in
    rw (n, put, before, all-next t starts ends i h, append_assoc)

-- the optional ranges put behind others, one behind the other
pub options_in_order : (b : AddressSpaceManagerBuilder) (xs : List TaggedRange) {f g h i : List TaggedRange}
    → f ≡ xs ++ option_as Vtl2Reserved b.reserved_range → g ≡ f ++ option_as SidecarImage b.sidecar_image
    → h ≡ g ++ option_as TdxPageTables b.page_tables → i ≡ h ++ option_as BootshimLogBuffer b.log_buffer → i ≡ xs ++ options_of b
options_in_order b xs ef eg eh ei = rw (ei, eh, eg, ef) (simp append_assoc)

-- the reserved ranges are listed in this order: header, payload, config ranges, and the optional ones
pub reserved_in_order : (b : AddressSpaceManagerBuilder) (configs : List MemoryRange) {state : SplitRange} {payload : Option MemoryRange}
    {f g h i : List TaggedRange} → state ≡ state_of b → payload ≡ given_range state.right → f ≡ reserved_as PersistedStateHeader state.left ∷ []
    → g ≡ f ++ option_as PersistedStatePayload payload → h ≡ g ++ all_as Vtl2Config configs → i ≡ h ++ options_of b → i ≡ reserved_of b configs
reserved_in_order b configs s p ef eg eh ei = rw (ei, eh, eg, ef, p, s)

-- The imported ranges (docs/SPEC.md, section 19).
use Rattle.std.specs.Prelude.{ℕ, ◌-◌, ◌^◌, ◌≤◌, ◌<◌, ◌≡◌, ◌⊎◌, Bool, true, false, cond, ◌&&◌, ◌||◌, not, List, [], ◌∷◌, map, eqb, get_or}
use Rattle.memory_range.specs.List.{ranges_in}
use Rattle.memory_range.specs.declared.range.MemoryRange.{MemoryRange}
use Rattle.memory_range.specs.declared.range.TaggedRange.{TaggedRange}
use Rattle.range_lists.specs.declared.walk.RangeWalkResult.{RangeWalkResult}
use Rattle.range_lists.specs.declared.walk.RangeWalkResult.TheVariants.{Left, Right, Both}
use Rattle.range_lists.specs.declared.walk.WalkPiece.{WalkPiece}
use Rattle.memory_range.specs.Bytes.{holders}
use Rattle.memory_range.specs.Range.{range, holds, contains_range, overlap_ranges}
use Rattle.memory_range.specs.Valid.{page_size}
use Rattle.range_lists.specs.Walk.{walk}
use Rattle.host_params.specs.declared.IsolationType.{IsolationType}
use Rattle.host_params.specs.declared.IsolationType.TheVariants.{None, Vbs, Snp, Tdx, Cca}
use Rattle.boot_ram.specs.File.{on_node_of}
use Rattle.boot_ram.specs.Verdict.{Verdict, free, refuse, pass, Judged, judged}
use Rattle.refusal.specs.Number.{import_not_in_map}

-- part 2: each imported range lies inside the file or does not overlap it
abbrev pub imports_clear : MemoryRange → List MemoryRange → Bool
imports_clear file [] = true
imports_clear file (r ∷ rs) = (not (overlap_ranges file r) || contains_range file r) && imports_clear file rs

abbrev pub is_tdx : IsolationType → Bool
is_tdx None = false
is_tdx Vbs = false
is_tdx Snp = false
is_tdx Tdx = true
is_tdx Cca = false

-- a piece that Tdx excuses: exactly the page below 4 GiB
abbrev pub is_excused : IsolationType → MemoryRange → Bool
is_excused i r = is_tdx i && (eqb r.start (2 ^ 32 - page_size) && eqb r.end (2 ^ 32))

-- a byte that may be imported: one of the file or of the entries, or, under Tdx, of that page
abbrev pub MayBeImported : IsolationType → MemoryRange → List MemoryRange → ℕ → Type 0
MayBeImported i file entries a =
    (holds file a ≡ true) ⊎ ((0 < holders entries a) ⊎ ((is_tdx i ≡ true) × (2 ^ 32 - page_size ≤ a) × (a < 2 ^ 32)))

-- a piece of an imported range that no free entry holds: passed over where the imported range lies inside
-- the file, or where the piece itself is excused
abbrev pub is_skipped : IsolationType → MemoryRange → MemoryRange → MemoryRange → Bool
is_skipped i file import piece = contains_range file import || is_excused i piece

-- a piece of a free entry stays free where no imported range holds it
abbrev pub import_verdict : IsolationType → MemoryRange → List MemoryRange → List TaggedRange → MemoryRange → RangeWalkResult → Verdict
import_verdict i file imports m r (Left k) = cond (is_skipped i file (get_or imports k (range 0 0)) r) pass (refuse import_not_in_map)
import_verdict i file imports m r (Right j) = free (on_node_of m j r)
import_verdict i file imports m r (Both k j) = pass

abbrev pub import_verdicts : IsolationType → MemoryRange → List MemoryRange → List TaggedRange → List WalkPiece → List Verdict
import_verdicts i file imports m ps = map (λ p. import_verdict i file imports m p.range p.result) ps

-- part 3: the import walk, over the free pieces of the file walk
unfoldable pub import_walk : IsolationType → MemoryRange → List MemoryRange → List TaggedRange → Judged
import_walk i file imports m = judged 0 0 (import_verdicts i file imports m (walk imports (ranges_in m)))

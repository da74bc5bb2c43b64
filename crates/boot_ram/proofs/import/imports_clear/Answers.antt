-- Each imported range is looked at.
use Rattle.std.proofs.Common.{◌≡◌, ◌∙◌, ◌||◌, Bool, not, List, [], ◌∷◌, refl, rules, tests}
use Rattle.std.specs.List.{list_all}
use Rattle.std.proofs.lemmas.Iterator.{YieldsList-from_slice}
use Rattle.std.proofs.lemmas.Iterator.Search.{all_from_yields_List}
use Rattle.memory_range.specs.declared.range.MemoryRange.{MemoryRange}
use Rattle.memory_range.specs.Range.{contains_range, overlap_ranges}
use Rattle.boot_ram.specs.Import.{imports_clear}
use Rattle.boot_ram.proofs.import.imports_clear.Goals as goal

-- whether a range is clear of the file
abbrev is_clear : MemoryRange → MemoryRange → Bool
is_clear file r = not (overlap_ranges file r) || contains_range file r

all_clear : (file : MemoryRange) (rs : List MemoryRange) → list_all (is_clear file) rs ≡ imports_clear file rs
all_clear file [] = refl
all_clear file (r ∷ rs) = rw (all_clear file rs)

pub returns : goal.returns
returns c =
    let a = c.args in
    all_from_yields_List (is_clear a.file) _ _ c.all.result c.all.ensures.ran (YieldsList-from_slice a.imports.now cc) (λ x b q k. search (rules, tests))
    ∙ all_clear a.file a.imports.now

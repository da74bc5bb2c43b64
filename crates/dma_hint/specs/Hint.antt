-- The pages that a lookup table gives a guest (docs/SPEC.md, section 17).
use Rattle.std.specs.Prelude.{ℕ, ◌*◌, ◌/◌, ◌%◌, cond, ◌||◌, List, eqb, leb}
use Rattle.host_params.specs.declared.Vtl2GpaPoolLookupTable.{Vtl2GpaPoolLookupTable}
use Rattle.dma_hint.specs.Table.{Row, rows_of}
use Rattle.dma_hint.specs.Lookup.{Found, exact, nearest, lookup}
use Rattle.dma_hint.specs.Ratio.{smallest, largest}
use Rattle.dma_hint.specs.Pages.{ratio_pages}

-- whole MiB of memory
abbrev pub mib_in : ℕ → ℕ
mib_in bytes = bytes / 1_048_576

-- the first size that is not looked up, in bytes
abbrev pub memory_bound : ℕ
memory_bound = 0xFFFFFFFF00000

-- an exact row: its hint, 256 pages to a MiB; nearest rows: by their ratios, from the whole MiB
abbrev pub found_pages : ℕ → Found → ℕ
found_pages mib (exact hint) = hint * 256
found_pages mib (nearest rows) = ratio_pages mib (smallest rows) (largest rows)

-- counts and MiB are compared with a table's by their remainder by 65,536
abbrev pub table_pages : List Row → ℕ → ℕ → ℕ
table_pages rows processors mib = found_pages mib (lookup (processors % 65_536) (mib % 65_536) rows)

-- no memory, or too much, gives 0
abbrev pub dma_hint_of : Vtl2GpaPoolLookupTable → ℕ → ℕ → ℕ
dma_hint_of table processors bytes =
    cond (eqb bytes 0 || leb memory_bound bytes) 0 (table_pages (rows_of table) processors (mib_in bytes))

-- Of the hint of either table, for every count and every memory: it is a whole number of steps of 2 MiB; it is below
-- 2^52 pages, which a placement does not refuse as 27; and memory below 1 MiB gives 0.
use Rattle.std.specs.Prelude.{ℕ, ◌*◌, ◌/◌, ◌%◌, ◌^◌, ◌<◌, ◌≡◌, refl, List, [], length, get_or}
use Rattle.std.proofs.Math.Decide.{dec_lt, ℕ_discrete}
use Rattle.std.proofs.Common.{div-le_self, div-add-mod', arith, eq-eqb, ne_eqb, le-leb, eqb→eq, ltb→lt}
use Rattle.std.proofs.lemmas.Bool.{lt-leb}
use Rattle.host_params.specs.declared.Vtl2GpaPoolLookupTable.{Vtl2GpaPoolLookupTable}
use Rattle.memory_range.specs.Laws.Round.{Multiple}
use Rattle.dma_hint.specs.Table.{Row, mib_of, hint_of, rows_of}
use Rattle.dma_hint.specs.Lookup.{nearest, nearest_rows}
use Rattle.dma_hint.specs.Ratio.{smallest, largest}
use Rattle.dma_hint.specs.Pages.{mean_ratio}
use Rattle.dma_hint.specs.Hint.{mib_in, memory_bound, found_pages, dma_hint_of}
use Rattle.dma_hint.specs.Laws.Table.{every-at, in_steps, in16_bits, some_memory, table_steps, table-16_bits, table_memory}
use Rattle.dma_hint.specs.Laws.Lookup.{Matches, exact_either}
use Rattle.dma_hint.specs.Laws.Pages.{pages_multiple, pages_near}

module _ (table : Vtl2GpaPoolLookupTable) (processors bytes : ℕ) where
  -- what is compared with a row
  abbrev count : ℕ
  count = processors % 65_536

  abbrev mib : ℕ
  mib = mib_in bytes % 65_536

  abbrev row_at : ℕ → Row
  row_at k = get_or (rows_of table) k []

  abbrev nearest_in : List Row
  nearest_in = nearest_rows count (rows_of table)

  -- what holds of 0, of the pages of each row that matches, and of the pages by ratios, holds of the hint
  hint_cases : (P : ℕ → Type 0) → P 0
      → (bytes < memory_bound → (k : ℕ) → k < length (rows_of table) → Matches count mib (row_at k) → P (hint_of (row_at k) * 256))
      → (bytes < memory_bound → P (found_pages (mib_in bytes) (nearest nearest_in)))
      → P (dma_hint_of table processors bytes)
  hint_cases P none row ratios =
      elim (ℕ_discrete bytes 0) [
        | yes e ↦ rw (eq-eqb bytes 0 e) none
        | no e ↦ elim (dec_lt bytes memory_bound) [
          | yes h ↦ rw (ne_eqb bytes 0 e, lt-leb memory_bound bytes h)
              (exact_either count mib (λ f. P (found_pages (mib_in bytes) f)) (rows_of table) (nearest nearest_in) (row h) (ratios h))
          | no h ↦ rw (ne_eqb bytes 0 e, le-leb memory_bound bytes (omega arith)) none
        ]
      ]

  pub hint_steps : Multiple 512 (dma_hint_of table processors bytes)
  hint_steps =
      hint_cases (Multiple 512)
      (0, omega arith)
      (λ h k l m.
      let even = eqb→eq (hint_of (row_at k) % 2) 0 (every-at in_steps (rows_of table) k (table_steps table) l) in
      (hint_of (row_at k) / 2, omega (arith, div-add-mod' (hint_of (row_at k)) 2)))
      (λ h. pages_multiple (mib_in bytes) (smallest nearest_in) (largest nearest_in))

  pub hint_below : dma_hint_of table processors bytes < 2 ^ 52
  hint_below =
      hint_cases (λ n. n < 2 ^ 52)
      (omega arith)
      (λ h k l m. omega (arith, ltb→lt (hint_of (row_at k)) (2 ^ 16) (every-at in16_bits (rows_of table) k (table-16_bits table) l)))
      (λ h. omega (
        arith,
        pages_near (mib_in bytes) (smallest nearest_in) (largest nearest_in),
        div-le_self (mib_in bytes * 256_000) (mean_ratio (smallest nearest_in) (largest nearest_in)),
      ))

  pub hint_small : bytes < 1_048_576 → dma_hint_of table processors bytes ≡ 0
  hint_small small =
      hint_cases (λ n. n ≡ 0)
      refl
      (λ h k l m. absurd (omega (arith, ltb→lt 0 (mib_of (row_at k)) (every-at some_memory (rows_of table) k (table_memory table) l))))
      (λ h.
      let low = smallest nearest_in in
      let high = largest nearest_in in
      let whole = pages_multiple (mib_in bytes) low high in
      omega (arith, whole.1, pages_near (mib_in bytes) low high, div-le_self (mib_in bytes * 256_000) (mean_ratio low high)))

-- Laws of words walked in chunks of one size: the chunks are the rows.
use Rattle.std.specs.Prelude.{ℕ, ◌/◌, ◌<◌, ◌≡◌, Some, None, List, [], ◌∷◌, length}
use Rattle.std.proofs.Common.{Bor, ap, arith}
use Rattle.std.proofs.lemmas.Iterator.{YieldsList}
use Rattle.std.proofs.lemmas.Iterator.Splits.{YieldsList-from_shown_while}
use Rattle.std.specs.declared.slice.ChunksExact.{ChunksExact}
use Rattle.std.specs.Slice.Iter.{chunks_exact_rest, chunks_exact_size, chunks_exact_steps}
use Rattle.table_words.specs.Rows.{rows}
use Rattle.table_words.specs.Laws.Rows.{first_row, no_row}

-- the rows that are left to walk
abbrev pub rows_left : ChunksExact ℕ → List (List ℕ)
rows_left s = rows (chunks_exact_size s) (length (chunks_exact_rest s) / chunks_exact_size s) (chunks_exact_rest s)

-- a turn takes the next row, and the walk ends where none is left
module _ (s t : ChunksExact ℕ) (some : 0 < chunks_exact_size s) where
  pub next-row : (r : Bor (List ℕ)) → chunks_exact_steps s (Some r) t → rows_left s ≡ r.now ∷ rows_left t
  next-row r k = rw (k.1.0, k.0) (first_row (chunks_exact_size s) some r.now (chunks_exact_rest t) k.1.1)

  pub no-rows : chunks_exact_steps s None t → rows_left s ≡ []
  no-rows k = no_row (chunks_exact_size s) some (chunks_exact_rest s) k.1.0

rows_yielded : (s : ChunksExact ℕ) → 0 < chunks_exact_size s → YieldsList chunks_exact_steps (λ x. x.now) s (rows_left s)
rows_yielded s h =
    YieldsList-from_shown_while chunks_exact_steps (λ x. x.now) rows_left (λ t. 0 < chunks_exact_size t)
    (λ t u g k. ap length (no-rows t u g k))
    (λ t x u g k. (omega arith, next-row t u g x k))
    s h

-- walking words in chunks gives their rows
pub chunks-rows : {s : ChunksExact ℕ} (width : ℕ) (ws : List ℕ) → 0 < width → chunks_exact_rest s ≡ ws → chunks_exact_size s ≡ width
    → YieldsList chunks_exact_steps (λ x. x.now) s (rows width (length ws / width) ws)
chunks-rows {s} width ws h e f = let g : 0 < chunks_exact_size s = omega arith in rw (← e, ← f) (rows_yielded s g)

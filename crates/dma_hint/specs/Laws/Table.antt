-- Of the two lookup tables, each by one computed test: they ascend by count of processors, on which the search rests;
-- no hint is 0, by which a ratio divides; every hint is a whole number of steps of 2 MiB and has 16 bits; no row is for less
-- than 1 MiB. Of any rows that all pass a test: so does each of them, and so do the rows of a part.
use Rattle.std.specs.Prelude.{ℕ, zero, suc, ◌%◌, ◌^◌, ◌<◌, Bool, List, [], ◌∷◌, T, eqb, ltb, length, get_or, take, drop}
use Rattle.std.proofs.Common.{arith}
use Rattle.std.specs.Float.Ieee.Fits.{and_i, and_l, and_r}
use Rattle.host_params.specs.declared.Vtl2GpaPoolLookupTable.{Vtl2GpaPoolLookupTable}
use Rattle.host_params.specs.declared.Vtl2GpaPoolLookupTable.TheVariants.{Release, Debug}
use Rattle.dma_hint.specs.Table.{Row, mib_of, hint_of, release, debug, rows_of, every, ascends, hints_given}

pub table-ascends : (table : Vtl2GpaPoolLookupTable) → T (ascends (rows_of table))
unfolding release debug
table-ascends Release = tt
table-ascends Debug = tt

pub table_hints : (table : Vtl2GpaPoolLookupTable) → T (hints_given (rows_of table))
unfolding release debug
table_hints Release = tt
table_hints Debug = tt

-- a step of 2 MiB is two MiB of hint
abbrev pub in_steps : Row → Bool
in_steps r = eqb (hint_of r % 2) 0

pub table_steps : (table : Vtl2GpaPoolLookupTable) → T (every in_steps (rows_of table))
unfolding release debug
table_steps Release = tt
table_steps Debug = tt

abbrev pub in16_bits : Row → Bool
in16_bits r = ltb (hint_of r) (2 ^ 16)

pub table-16_bits : (table : Vtl2GpaPoolLookupTable) → T (every in16_bits (rows_of table))
unfolding release debug
table-16_bits Release = tt
table-16_bits Debug = tt

abbrev pub some_memory : Row → Bool
some_memory r = ltb 0 (mib_of r)

pub table_memory : (table : Vtl2GpaPoolLookupTable) → T (every some_memory (rows_of table))
unfolding release debug
table_memory Release = tt
table_memory Debug = tt

module _ (test : Row → Bool) where
  first_passes : (r : Row) (rs : List Row) → T (every test (r ∷ rs)) → T (test r)
  first_passes r rs t = and_l (test r) (every test rs) t

  others_pass : (r : Row) (rs : List Row) → T (every test (r ∷ rs)) → T (every test rs)
  others_pass r rs t = and_r (test r) (every test rs) t

  pub every-at : (rows : List Row) (i : ℕ) → T (every test rows) → i < length rows → T (test (get_or rows i []))
  every-at [] i t h = absurd (omega arith)
  every-at (r ∷ rs) zero t h = first_passes r rs t
  every-at (r ∷ rs) (suc i) t h = every-at rs i (others_pass r rs t) (omega arith)

  pub every_take : (n : ℕ) (rows : List Row) → T (every test rows) → T (every test (take n rows))
  every_take zero rows t = tt
  every_take (suc n) [] t = tt
  every_take (suc n) (r ∷ rs) t =
      and_i (test r) (every test (take n rs)) (first_passes r rs t) (every_take n rs (others_pass r rs t))

  pub every_drop : (n : ℕ) (rows : List Row) → T (every test rows) → T (every test (drop n rows))
  every_drop zero rows t = t
  every_drop (suc n) [] t = tt
  every_drop (suc n) (r ∷ rs) t = every_drop n rs (others_pass r rs t)

-- The two lookup tables (docs/SPEC.md, section 17), row for row: processors, MiB of memory, MiB of the hint.
use Rattle.std.specs.Prelude.{ℕ, Bool, true, ◌&&◌, List, [], ◌∷◌, leb, ltb, get_or}
use Rattle.host_params.specs.declared.Vtl2GpaPoolLookupTable.{Vtl2GpaPoolLookupTable}
use Rattle.host_params.specs.declared.Vtl2GpaPoolLookupTable.TheVariants.{Release, Debug}

-- a row is a list of three numbers
abbrev pub Row : Type 0
Row = List ℕ

abbrev pub row : ℕ → ℕ → ℕ → Row
row processors mib hint = processors ∷ mib ∷ hint ∷ []

abbrev pub processors_of : Row → ℕ
processors_of r = get_or r 0 0

abbrev pub mib_of : Row → ℕ
mib_of r = get_or r 1 0

abbrev pub hint_of : Row → ℕ
hint_of r = get_or r 2 0

unfoldable pub release : List Row
release =
    row 2 96 2 ∷
    row 2 98 4 ∷
    row 2 100 4 ∷
    row 2 104 4 ∷
    row 4 108 2 ∷
    row 4 110 6 ∷
    row 4 112 6 ∷
    row 4 118 8 ∷
    row 4 130 12 ∷
    row 8 140 4 ∷
    row 8 148 10 ∷
    row 8 170 20 ∷
    row 8 176 20 ∷
    row 16 70 2 ∷
    row 16 234 12 ∷
    row 16 256 20 ∷
    row 16 268 38 ∷
    row 16 282 54 ∷
    row 24 420 66 ∷
    row 32 404 22 ∷
    row 32 516 36 ∷
    row 32 538 74 ∷
    row 48 558 32 ∷
    row 48 718 52 ∷
    row 48 730 52 ∷
    row 48 746 78 ∷
    row 64 712 42 ∷
    row 64 924 68 ∷
    row 64 938 68 ∷
    row 96 1030 64 ∷
    row 96 1042 114 ∷
    row 96 1058 114 ∷
    row 96 1340 102 ∷
    row 96 1358 104 ∷
    row 96 1382 120 ∷
    row 112 1566 288 ∷
    row 128 1342 84 ∷
    row 128 1360 84 ∷
    row 896 12912 516 ∷
    []

unfoldable pub debug : List Row
debug =
    row 4 496 4 ∷
    row 16 512 16 ∷
    row 32 1024 32 ∷
    row 32 1536 128 ∷
    row 64 1024 64 ∷
    row 128 1024 128 ∷
    []

abbrev pub rows_of : Vtl2GpaPoolLookupTable → List Row
rows_of Release = release
rows_of Debug = debug

-- no row's count of processors is below c, nor below an earlier row's
abbrev pub ascends_from : ℕ → List Row → Bool
ascends_from c [] = true
ascends_from c (r ∷ rs) = leb c (processors_of r) && ascends_from (processors_of r) rs

-- the rows ascend by count of processors
abbrev pub ascends : List Row → Bool
ascends rows = ascends_from 0 rows

-- every row passes a test
abbrev pub every : (Row → Bool) → List Row → Bool
every test [] = true
every test (r ∷ rs) = test r && every test rs

-- no row's hint is 0
abbrev pub hints_given : List Row → Bool
hints_given rows = every (λ r. ltb 0 (hint_of r)) rows

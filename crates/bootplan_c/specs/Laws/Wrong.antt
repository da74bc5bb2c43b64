-- Wrong answers of the calls from C, each refuted (docs/PROVED.md).
use Rattle.std.specs.Prelude.{ℕ, false, List, [], ◌∷◌, ◌≢◌, eqb, length, get_or, replicate, Option, Some, Ok, Err}
use Rattle.std.proofs.Common.{ap, true≢false}
use Rattle.memory_range.specs.declared.range.TaggedRange.{TaggedRange}
use Rattle.memory_range.specs.List.{tagged}
use Rattle.memory_range.specs.Range.{range}
use Rattle.host_params.specs.declared.Vtl2GpaPoolLookupTable.TheVariants.{Release, Debug}
use Rattle.dma_hint.specs.Hint.{dma_hint_of}
use Rattle.dma_hint.specs.Table.{release, debug}
use Rattle.address_space.specs.declared.usage.AddressUsage.TheVariants.{Used}
use Rattle.address_space.specs.Request.{allocated}
use Rattle.address_space.specs.Table.{entry}
use Rattle.private_pool.specs.Pool.{pool_placed}
use Rattle.table_words.specs.declared.code.CallError.{CallError}
use Rattle.table_words.specs.declared.code.CallError.TheVariants.{NoRoom}
use Rattle.table_words.specs.Code.{Call, code_of, bad_table}
use Rattle.table_words.specs.Table.{table, table_of}
use Rattle.table_words.specs.Usage.{usage_of_word}
use Rattle.bootplan_c.specs.Build.{build_table}
use Rattle.bootplan_c.specs.Pool.{pool_call, pool_table, pool_count_of}
use Rattle.bootplan_c.specs.Ranges.{ranges_on, ranges_call}
use Rattle.bootplan_c.specs.Sizing.{picked_size, or_kept}

-- what the answers are told apart by
abbrev count_of : Call (List TaggedRange) → ℕ
count_of (Err e) = 0
count_of (Ok xs) = length xs

-- the hint of the other table, for 16 processors and 512 MiB
pub hint_of_other-table : dma_hint_of Debug 16 0x20000000 ≢ dma_hint_of Release 16 0x20000000
unfolding release debug
hint_of_other-table e = true≢false (ap (eqb 4_096) e)

-- the arguments exchanged: 2 processors and 96 MiB
pub arguments_exchanged : dma_hint_of Release 2 0x6000000 ≢ dma_hint_of Release 0x6000000 2
unfolding release
arguments_exchanged e = true≢false (ap (eqb 512) e)

-- the table of another kind
pub kind_of_another : picked_size 2 0 false 0 16 0x20000000 ≢ picked_size 3 0 false 0 16 0x20000000
unfolding release debug
kind_of_another e = true≢false (ap (λ (o : Option ℕ). eqb (or_kept o 0) 6_656) e)

-- another number stored: the bytes of the RAM in place of the pages
pub other_size_stored : or_kept (picked_size 1 5 false 0 2 0x6000000) 0 ≢ 0x6000000
other_size_stored e = true≢false (ap (eqb 5) e)

-- a number stored where there is no pool
pub size-without-pool : or_kept (picked_size 0 5 false 0 2 0x6000000) 7 ≢ 0
size-without-pool e = true≢false (ap (eqb 7) e)

-- a refused build that writes
pub refused-build_writes : (n : CallError) → build_table (0 ∷ 0 ∷ []) (Err n) ≢ 1 ∷ 0 ∷ []
refused-build_writes n e = true≢false (ap (λ (ws : List ℕ). eqb (get_or ws 0 0) 0) e)

-- a table of one free page, as words
abbrev pub one_page : List ℕ
one_page = 1 ∷ 0 ∷ 0x1000 ∷ 0x2000 ∷ 0 ∷ 0 ∷ replicate 1020 0

-- the pool's pieces told and the table left as found
pub pool-left-free : pool_table one_page (pool_call 1 false one_page 768) ≢ one_page
unfolding pool_call table_of pool_placed allocated usage_of_word
pool-left-free e = true≢false (ap (λ (ws : List ℕ). eqb (get_or ws 1 0) 1) e)

-- a piece more in the count
pub piece_more : pool_count_of 0 (pool_call 1 false one_page 768) ≢ 2
unfolding pool_call table_of pool_placed allocated usage_of_word
piece_more e = true≢false (ap (eqb 1) e)

-- words that are no table told as no room
pub no-table_as_no_room : ranges_call [] 768 ≢ Err NoRoom
unfolding ranges_call table_of
no-table_as_no_room e = true≢false (ap (λ (c : Call (List TaggedRange)). eqb (code_of c) bad_table) e)

-- ranges not joined
pub ranges-not_joined :
    ranges_on (Some (table (entry (range 0x1000 0x2000) 0 Used ∷ entry (range 0x2000 0x3000) 0 Used ∷ []) false))
    ≢ Ok (tagged 0x1000 0x2000 0 ∷ tagged 0x2000 0x3000 0 ∷ [])
ranges-not_joined e = true≢false (ap (λ (c : Call (List TaggedRange)). eqb (count_of c) 1) e)

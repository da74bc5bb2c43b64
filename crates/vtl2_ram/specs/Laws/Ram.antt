-- Laws of the chosen RAM: its bytes as a sum over ranges in order, which no address exceeds, and its entries as the
-- array of the answer holds them.
use Rattle.std.specs.Prelude.{ℕ, ◌+◌, ◌≤◌, ◌≡◌, List, ◌∷◌, ◌++◌, length, take, drop, replicate}
use Rattle.std.proofs.Common.{ap, ◌∙◌, arith, length-take, zero-add}
use Rattle.std.proofs.Math.Seq.{take-append_seam}
use Rattle.std.proofs.lemmas.List.{length-replicate}
use Rattle.std.proofs.lemmas.List.Edits.{sets, sets-eq}
use Rattle.memory_range.specs.declared.range.MemoryRange.{MemoryRange}
use Rattle.memory_range.specs.declared.range.TaggedRange.{TaggedRange}
use Rattle.memory_range.specs.Bytes.{Ordered}
use Rattle.memory_range.specs.List.{ranges_in, ranges_of, tagged, first_tagged}
use Rattle.memory_range.specs.Range.{length_of}
use Rattle.memory_range.specs.Laws.Bytes.{ordered-before}
use Rattle.memory_range.specs.Laws.List.{ranges_alike}
use Rattle.boot_ram.specs.Verdict.{max_chosen}
use Rattle.vtl2_ram.specs.Ram.{no_entries, ram_of, ram_entries}

-- a sum that starts at or below the first range ends at or below the next one
pub ordered-sum : (a : ℕ) (r : MemoryRange) (rs : List MemoryRange) → Ordered a (r ∷ rs) → Ordered (a + length_of r) rs
ordered-sum a r rs o = ordered-before (a + length_of r) r.end rs (omega arith) o.1.1

pub ordered-behind : (a : ℕ) (r : MemoryRange) (rs : List MemoryRange) → Ordered a (r ∷ rs) → Ordered a rs
ordered-behind a r rs o = ordered-before a r.end rs (omega arith) o.1.1

-- there is a tag for each range
pub ranges-first : (n : ℕ) (ss es ts : List ℕ) → n ≤ length ts → ranges_in (first_tagged n ss es ts) ≡ ranges_of (take n ss) (take n es)
ranges-first n ss es ts h = ranges_alike (take n ss) (take n es) (take n ts) (omega (arith, length-take n ss, length-take n ts))

-- 64 places that hold the range 0..0 of number 0
pub no-entries_of : (e : TaggedRange) → e.range.start ≡ 0 → e.range.end ≡ 0 → e.tag ≡ 0 → replicate max_chosen e ≡ no_entries
unfolding no_entries
no-entries_of e p q r =
    ap (replicate max_chosen)
    (ap (λ (s : ℕ). tagged s e.range.end e.tag) p ∙ ap (λ (t : ℕ). tagged 0 t e.tag) q ∙ ap (λ (n : ℕ). tagged 0 0 n) r)

pub length_no-entries : length no_entries ≡ max_chosen
unfolding no_entries
length_no-entries = length-replicate max_chosen (tagged 0 0 0)

-- entries that have room stand in the first places, and behind them is none
pub entries-stored : (xs : List TaggedRange) → length xs ≤ max_chosen → sets no_entries 0 xs ≡ xs ++ drop (length xs) no_entries
entries-stored xs few =
    let room : 0 + length xs ≤ length no_entries = omega (arith, length_no-entries) in
    rw (← zero-add (length xs)) (sets-eq xs no_entries 0 room)

-- so the answer's entries are those that it is made of
pub entries-of : (xs : List TaggedRange) → length xs ≤ max_chosen → ram_entries (ram_of xs) ≡ xs
entries-of xs few = rw (entries-stored xs few) (take-append_seam xs (drop (length xs) no_entries))

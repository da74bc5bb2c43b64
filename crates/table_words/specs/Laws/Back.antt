-- What is written is read back: the same entries and the same flag.
use Rattle.std.specs.Prelude.{ℕ, ◌*◌, ◌≤◌, ◌<◌, ◌^◌, ◌≡◌, refl, Bool, true, false, List, [], ◌∷◌, ◌++◌, map, eqb, leb, length, Some}
use Rattle.std.proofs.Common.{◌∙◌, arith, eq-eqb, le-leb, lt-ltb}
use Rattle.std.proofs.lemmas.List.Edits.{sets, sets-eq}
use Rattle.std.proofs.Math.Seq.{length-sets}
use Rattle.memory_range.specs.Bytes.{All}
use Rattle.address_space.specs.declared.table.AddressRange.{AddressRange}
use Rattle.address_space.specs.declared.usage.AddressUsage.{AddressUsage}
use Rattle.address_space.specs.declared.usage.AddressUsage.TheVariants.{Free, Used, Reserved}
use Rattle.address_space.specs.declared.usage.ReservedMemoryType.TheVariants.{Vtl2Config, Vtl2Reserved, SidecarImage, SidecarNode, Vtl2GpaPool, TdxPageTables, BootshimLogBuffer, PersistedStateHeader, PersistedStatePayload}
use Rattle.address_space.specs.Table.{max_address_ranges}
use Rattle.address_space.specs.Usage.{usage_of}
use Rattle.table_words.specs.Rows.{rows}
use Rattle.table_words.specs.Table.{table, table_length, entry_words, entry_of, all_good, table_of, flag_word, entries_words, table_words_of}
use Rattle.table_words.specs.Usage.{usage_word, usage_of_word}

usage-again : (u : AddressUsage) → (usage_of_word (usage_word u) ≡ u) × (leb (usage_word u) 10 ≡ true)
unfolding usage_of_word usage_of
usage-again Free = (refl, refl)
usage-again Used = (refl, refl)
usage-again (Reserved Vtl2Config) = (refl, refl)
usage-again (Reserved Vtl2Reserved) = (refl, refl)
usage-again (Reserved SidecarImage) = (refl, refl)
usage-again (Reserved SidecarNode) = (refl, refl)
usage-again (Reserved Vtl2GpaPool) = (refl, refl)
usage-again (Reserved TdxPageTables) = (refl, refl)
usage-again (Reserved BootshimLogBuffer) = (refl, refl)
usage-again (Reserved PersistedStateHeader) = (refl, refl)
usage-again (Reserved PersistedStatePayload) = (refl, refl)

flag-again : (flag : Bool) → (eqb (flag_word flag) 1 ≡ flag) × (leb (flag_word flag) 1 ≡ true)
flag-again true = (refl, refl)
flag-again false = (refl, refl)

words-length : (es : List AddressRange) → length (entries_words es) ≡ 4 * length es
words-length [] = refl
words-length (e ∷ es) = let h = words-length es in omega arith

rows-again : (es : List AddressRange) (rest : List ℕ) → rows 4 (length es) (entries_words es ++ rest) ≡ map entry_words es
rows-again [] rest = refl
rows-again (e ∷ es) rest = rw (rows-again es rest)

entries-again : (es : List AddressRange) → All (λ e. e.vnode < 2 ^ 32) es
    → (all_good (map entry_words es) ≡ true) × (map entry_of (map entry_words es) ≡ es)
entries-again [] h = (refl, refl)
entries-again (e ∷ es) h =
    let i = entries-again es h.1 in
    let u = usage-again e.usage in
    (rw (lt-ltb e.vnode (2 ^ 32) h.0, u.1, i.0), rw (u.0, i.1))

pub read_back : (ws : List ℕ) (es : List AddressRange) (flag : Bool) → length ws ≡ table_length → length es ≤ max_address_ranges
    → All (λ e. e.vnode < 2 ^ 32) es → table_of (sets ws 0 (table_words_of es flag)) ≡ Some (table es flag)
unfolding table_of
read_back ws es flag room few nodes =
    let n = words-length es in
    let all = length-sets ws 0 (table_words_of es flag) ∙ room in
    let split = sets-eq (table_words_of es flag) ws 0 (omega arith) in
    let i = entries-again es nodes in
    let f = flag-again flag in
    rw (eq-eqb (length (sets ws 0 (table_words_of es flag))) table_length all, split, le-leb (length es) max_address_ranges few, f.1, rows-again, i.0, i.1, f.0)

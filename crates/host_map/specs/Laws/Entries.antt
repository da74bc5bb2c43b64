-- Laws of the copy of a map: within the bound it holds the map, and what it holds while the map is walked.
use Rattle.std.specs.Prelude.{ℕ, suc, ◌+◌, ◌<◌, ◌≤◌, ◌%◌, ◌≡◌, List, [], ◌∷◌, ◌++◌, length, take, drop, get_or, set, replicate}
use Rattle.std.proofs.Common.{sym, ap, subst, ◌∙◌, append-nil, append_assoc, length-set, drop_of_length-le, drop-cons, take-suc-set, mod-eq_of_lt, mod-lt, add-zero, zero-add, add-one, arith}
use Rattle.std.proofs.lemmas.List.{length-replicate}
use Rattle.host_params.specs.declared.MemoryEntry.{MemoryEntry}
use Rattle.host_map.specs.Map.{max_entries, map_ranges}
use Rattle.host_map.specs.declared.rows.RangeCheck.{RangeCheck}
use Rattle.host_map.specs.Rows.{checked_with, checked_all}
use Rattle.host_map.specs.Entries.{no_entry, no_entries, stored_from}

pub no-entries_of : {e : MemoryEntry} → e ≡ no_entry → replicate max_entries e ≡ no_entries
unfolding no_entries
no-entries_of p = ap (replicate max_entries) p

pub length_no-entries : length no_entries ≡ max_entries
unfolding no_entries
length_no-entries = length-replicate max_entries no_entry

-- each entry's place is in the array
pub place_in : (i : ℕ) (held : List MemoryEntry) → length held ≡ max_entries → i % max_entries < length held
place_in i held e = subst (λ (n : ℕ). i % max_entries < n) (sym e) (mod-lt i (omega arith))

-- below the bound an entry's place is its index
stored_at : (i : ℕ) (held : List MemoryEntry) (x : MemoryEntry) (xs : List MemoryEntry) → i < max_entries → stored_from i held (x ∷ xs) ≡ stored_from (i + 1) (set held i x) xs
stored_at i held x xs h = ap (λ (j : ℕ). stored_from (i + 1) (set held j x) xs) (mod-eq_of_lt h)

-- what stands before the i-th stays, and the entries follow it
stored-after : (i : ℕ) (held map : List MemoryEntry) → length held ≡ max_entries → i + length map ≤ max_entries → take (i + length map) (stored_from i held map) ≡ take i held ++ map
stored-after i held [] e h = rw (add-zero i, append-nil (take i held))
stored-after i held (x ∷ xs) e h =
    let next : i + suc (length xs) ≡ i + 1 + length xs = omega arith in
    let kept : length (set held i x) ≡ max_entries = length-set held i x ∙ e in
    let rest : take (i + 1 + length xs) (stored_from (i + 1) (set held i x) xs) ≡ take (i + 1) (set held i x) ++ xs = stored-after (i + 1) (set held i x) xs kept (omega arith) in
    rw (stored_at i held x xs (omega arith), next, rest, add-one i, take-suc-set held i x (omega arith)) (append_assoc (take i held) (x ∷ []) xs)

pub stored-first : (map : List MemoryEntry) → length map ≤ max_entries → take (length map) (stored_from 0 no_entries map) ≡ map
stored-first map h = ap (λ (n : ℕ). take n (stored_from 0 no_entries map)) (sym (zero-add (length map))) ∙ stored-after 0 no_entries map length_no-entries (omega arith)

-- a turn of the walk at i, and past its end
pub stored-turn : (held map : List MemoryEntry) (i : ℕ) (d : MemoryEntry) → i < length map → stored_from (i + 1) (set held (i % max_entries) (get_or map i d)) (drop (i + 1) map) ≡ stored_from i held (drop i map)
stored-turn held map i d h = ap (λ (j : ℕ). stored_from (i + 1) (set held (i % max_entries) (get_or map i d)) (drop j map)) (add-one i) ∙ ap (stored_from i held) (sym (drop-cons map i d h))

pub stored-over : (held map : List MemoryEntry) (i : ℕ) → length map ≤ i → stored_from i held (drop i map) ≡ held
stored-over held map i h = ap (stored_from i held) (drop_of_length-le map h)

pub checked-turn : (k : RangeCheck) (map : List MemoryEntry) (i : ℕ) (d : MemoryEntry) → i < length map → checked_all (checked_with k (get_or map i d).range) (map_ranges (drop (i + 1) map)) ≡ checked_all k (map_ranges (drop i map))
checked-turn k map i d h = ap (λ (j : ℕ). checked_all (checked_with k (get_or map i d).range) (map_ranges (drop j map))) (add-one i) ∙ ap (λ (l : List MemoryEntry). checked_all k (map_ranges l)) (sym (drop-cons map i d h))

pub checked-over : (k : RangeCheck) (map : List MemoryEntry) (i : ℕ) → length map ≤ i → checked_all k (map_ranges (drop i map)) ≡ k
checked-over k map i h = ap (λ (l : List MemoryEntry). checked_all k (map_ranges l)) (drop_of_length-le map h)

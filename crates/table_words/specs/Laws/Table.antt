-- Laws of a table as words.
use Rattle.std.specs.Prelude.{ℕ, ◌≤◌, ◌≡◌, refl, Bool, true, false, cond, List, map, length, replicate, Option, Some, None}
use Rattle.std.proofs.Common.{sym, ap, ◌∙◌, zero-add, arith}
use Rattle.std.proofs.lemmas.List.{length-replicate, length-map}
use Rattle.std.proofs.lemmas.List.Edits.{sets, sets-eq}
use Rattle.address_space.specs.declared.table.AddressRange.{AddressRange}
use Rattle.address_space.specs.declared.table.AddressSpaceManager.{AddressSpaceManager}
use Rattle.std.proofs.lemmas.Option.{cond_some, same_Some}
use Rattle.address_space.specs.Table.{empty_table, max_address_ranges, no_entry}
use Rattle.address_space.specs.Laws.Split.{entries_with}
use Rattle.table_words.specs.Table.{Table, table_in, entry_good, entry_of, entry_read, all_good, entries_as, read_as}

-- room for the entries, before one is stored
unfoldable pub no_entries : List AddressRange
no_entries = replicate max_address_ranges no_entry

pub no-entries : {e : AddressRange} → e ≡ no_entry → replicate max_address_ranges e ≡ no_entries
unfolding no_entries
no-entries h = ap (replicate max_address_ranges) h

pub no-entries-length : length no_entries ≡ max_address_ranges
unfolding no_entries
no-entries-length = length-replicate max_address_ranges no_entry

-- an entry that words stand for, or do not
pub entry-good : (r : List ℕ) {e : AddressRange} → Some e ≡ entry_read r → (entry_good r ≡ true) × (entry_of r ≡ e)
entry-good r h = cond_some (entry_good r) _ _ (sym h)

pub entry-bad : (r : List ℕ) → None ≡ entry_read r → entry_good r ≡ false
entry-bad r h = go (entry_good r) h
  where
    go : (b : Bool) → None ≡ cond b (Some (entry_of r)) None → b ≡ false
    go true e = cc
    go false e = refl

-- what a reading of rows comes to: one of them is not good, or all are, and their entries are stored
pub read-bad : (rs : List (List ℕ)) (flag : Bool) → all_good rs ≡ false → None ≡ read_as (entries_as rs flag)
read-bad rs flag h = rw h

pub read_done : (rs : List (List ℕ)) (n : ℕ) (flag : Bool) {l : List AddressRange} → length rs ≡ n → n ≤ max_address_ranges → all_good rs ≡ true
    → l ≡ sets no_entries 0 (map entry_of rs)
    → ◌≡◌ {A = Option AddressSpaceManager} (Some (record { address_space = l; count = n; vtl2_pool = flag })) (read_as (entries_as rs flag))
unfolding no_entries
read_done rs n flag h few good e =
    let m : length (map entry_of rs) ≡ n = length-map rs entry_of ∙ h in
    let room = length-replicate max_address_ranges no_entry in
    rw (good, e, sets-eq (map entry_of rs) no_entries 0 (omega arith), m, zero-add n)

-- what an answer says of the words
pub read_none : (o : Option Table) → None ≡ read_as o → o ≡ None
read_none None h = refl
read_none (Some t) h = cc

pub read_some : (o : Option Table) {m : AddressSpaceManager} → Some m ≡ read_as o → o ≡ Some (table_in m)
read_some None h = cc
read_some (Some t) h = rw (same_Some _ _ h, entries_with empty_table t.entries t.flag)

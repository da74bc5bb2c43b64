-- Laws of boot mode: what the rows and the parts come to, by which of them refuses first.
use Rattle.std.specs.Prelude.{ℕ, ◌≤◌, ◌<◌, ◌≡◌, refl, true, false, List, [], ◌∷◌, ◌++◌, length, Option, Some, None, Result, Ok, Err}
use Rattle.std.proofs.Common.{ap, arith, lt-ltb, le-ltb, length-append}
use Rattle.memory_range.specs.declared.range.MemoryRange.{MemoryRange}
use Rattle.memory_range.specs.declared.range.TaggedRange.{TaggedRange}
use Rattle.memory_range.specs.List.{tags_of}
use Rattle.memory_range.specs.Range.{length_of}
use Rattle.range_lists.specs.Sort.{sort_by_start}
use Rattle.host_params.specs.declared.IsolationType.{IsolationType}
use Rattle.boot_ram.specs.File.{file_walk}
use Rattle.boot_ram.specs.Import.{imports_clear, import_walk}
use Rattle.boot_nodes.specs.Node.{distinct, nodes_bad, nodes_counted, count_up}
use Rattle.boot_nodes.specs.Share.{share_of}
use Rattle.boot_take.specs.Take.{taking}
use Rattle.boot_ram.specs.Verdict.{max_chosen, ends}
use Rattle.boot_nodes.specs.Laws.Node.{nodes_refused, nodes-counted, nodes-count_up}
use Rattle.boot_take.specs.Laws.Bounds.{taking_bounds}
use Rattle.boot_ram.specs.Laws.Judged.{WithinBounds}
use Rattle.refusal.specs.Number.{node_numbers, ram_size_below_file, import_crosses_file}
use Rattle.refusal.specs.Rows.{downward}
use Rattle.refusal.specs.Laws.Rows.{not_refused, downward_last}
use Rattle.vtl2_ram.specs.Boot.{size_wanted, share_too_large_for, share_refusal, share_as, after_imports, beside_file, boot_parts, boot_choice}
use Rattle.vtl2_ram.specs.Choice.{Choice, refused, chosen}
use Rattle.refusal.specs.declared.Refusal.{Refusal}

-- rows 8 and 9: a size below the file's is refused; else the share of the size, or of the file's, is the answer
module _ (file : MemoryRange) (n : ℕ) where
  abbrev pub share_for : Option ℕ → Result ℕ Refusal
  share_for size = share_as (share_refusal size file n) (share_of (size_wanted size file) n)

  abbrev share_alone : ℕ → Result ℕ Refusal
  share_alone size = share_as (share_too_large_for size n) (share_of size n)

  last_row : (size : ℕ) → share_as (downward (share_too_large_for size n ∷ [])) (share_of size n) ≡ share_alone size
  last_row size = ap (λ (row : Option Refusal). share_as row (share_of size n)) (downward_last (share_too_large_for size n))

  module _ {option : (Option ℕ)} where
    pub share_below : {size : ℕ} → option ≡ Some size → size < length_of file → share_for option ≡ Err ram_size_below_file
    share_below {size} e h = rw (e, lt-ltb size (length_of file) h)

    pub share-given : {size : ℕ} → option ≡ Some size → length_of file ≤ size → share_for option ≡ share_alone size
    share-given {size} e h = rw (e, le-ltb size (length_of file) h) (last_row size)

    pub share-none : option ≡ None → share_for option ≡ share_alone (length_of file)
    share-none e = rw e (last_row (length_of file))

module _ (isolation : IsolationType) (file : MemoryRange) (imports : List MemoryRange) (share : ℕ) (nodes : List ℕ) where
  -- parts 3 and 4, by the import walk
  module _ (found pieces : List TaggedRange) where
    pub after_refused : {n : Refusal} → (import_walk isolation file imports found).refusal ≡ Some n
        → after_imports isolation file imports found share pieces nodes ≡ ends (Some n)
    unfolding after_imports
    after_refused h = rw h

    pub after-taken : (import_walk isolation file imports found).refusal ≡ None
        → after_imports isolation file imports found share pieces nodes ≡ taking share pieces (import_walk isolation file imports found).free nodes
    unfolding after_imports
    after-taken h = rw h

    -- there is room for what they choose
    pub after_room : length pieces ≤ max_chosen → WithinBounds 0 (length pieces) (after_imports isolation file imports found share pieces nodes)
    after_room h = go (import_walk isolation file imports found).refusal refl
      where
        go : (o : Option Refusal) → (import_walk isolation file imports found).refusal ≡ o
            → WithinBounds 0 (length pieces) (after_imports isolation file imports found share pieces nodes)
        go None e = rw (after-taken e) (taking_bounds share pieces (import_walk isolation file imports found).free nodes h)
        go (Some n) e = rw (after_refused e) (omega arith, omega arith)

    abbrev beside : Choice
    beside = beside_file isolation file imports share nodes found pieces

    pub beside_crossing : imports_clear file imports ≡ false → beside ≡ refused import_crosses_file
    unfolding beside_file
    beside_crossing c = rw c

    pub beside_refused : {n : Refusal} → imports_clear file imports ≡ true → (after_imports isolation file imports found share pieces nodes).refusal ≡ Some n
        → beside ≡ refused n
    unfolding beside_file
    beside_refused c t = rw (c, t)

    pub beside-chosen : imports_clear file imports ≡ true → (after_imports isolation file imports found share pieces nodes).refusal ≡ None
        → beside ≡ chosen (sort_by_start (pieces ++ (after_imports isolation file imports found share pieces nodes).chosen))
    unfolding beside_file
    beside-chosen c t = rw (c, t)

    -- there is room for all that is chosen
    pub beside_room : length pieces ≤ max_chosen → length (pieces ++ (after_imports isolation file imports found share pieces nodes).chosen) ≤ max_chosen
    beside_room h = let room = (after_room h).1 in simp length-append (omega arith)

  -- the four parts, by the file walk
  module _ (map : List TaggedRange) where
    pub parts-file : {n : Refusal} → (file_walk file map).refusal ≡ Some n → boot_parts isolation file map imports share nodes ≡ refused n
    unfolding boot_parts
    parts-file h = rw h

    pub parts-beside : (file_walk file map).refusal ≡ None
        → boot_parts isolation file map imports share nodes ≡ beside_file isolation file imports share nodes (file_walk file map).free (file_walk file map).chosen
    unfolding boot_parts beside_file
    parts-beside h = rw h

-- a share's answer says which it is
pub share_refused : (row : Option Refusal) (share : ℕ) {n : Refusal} → share_as row share ≡ Err n → row ≡ Some n
share_refused None share e = absurd (grind arith)
share_refused (Some r) share e = cc

pub share_bytes : (row : Option Refusal) (share : ℕ) {s : ℕ} → share_as row share ≡ Ok s → (row ≡ None) × (share ≡ s)
share_bytes None share e = (refl, cc)
share_bytes (Some r) share e = absurd (grind arith)

-- rows 7 to 9 and the parts, by the answers for the nodes and for the share
module _ (isolation : IsolationType) (size : (Option ℕ)) (file : MemoryRange) (map : List TaggedRange) (imports : List MemoryRange) where
  pub choice-nodes : {n : Refusal} → nodes_counted (tags_of map) ≡ Err n → boot_choice isolation size file map imports ≡ refused n
  unfolding boot_choice
  choice-nodes e = rw (nodes_refused (tags_of map) e)

  module _ {k : ℕ} (e : nodes_counted (tags_of map) ≡ Ok k) where
    pub choice-share : {n : Refusal} → share_for file k size ≡ Err n → boot_choice isolation size file map imports ≡ refused n
    unfolding boot_choice
    choice-share h =
        let c = nodes-counted (tags_of map) e in
        rw (c.0, c.1, share_refused (share_refusal size file k) (share_of (size_wanted size file) k) h)

    pub choice-parts : {s : ℕ} → share_for file k size ≡ Ok s
        → boot_choice isolation size file map imports ≡ boot_parts isolation file map imports s (count_up 0 k)
    unfolding boot_choice
    choice-parts h =
        let c = nodes-counted (tags_of map) e in
        let b = share_bytes (share_refusal size file k) (share_of (size_wanted size file) k) h in
        let up = nodes-count_up (tags_of map) (not_refused (nodes_bad (distinct (tags_of map))) node_numbers c.0) in
        rw (c.0, c.1, b.0, b.1) (ap (boot_parts isolation file map imports _) (rw c.1 at up))

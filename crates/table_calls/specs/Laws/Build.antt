-- Laws of what a build is given.
use Rattle.std.specs.Prelude.{ℕ, ◌/◌, ◌%◌, ◌≤◌, ◌≡◌, Bool, true, ◌&&◌, List, map, eqb, leb, length, take, replicate}
use Rattle.std.proofs.Common.{ap, sym, ◌∙◌, arith, leb-true, eqb-true, length-take-le}
use Rattle.std.proofs.Math.Bool.{and-eq-true_iff}
use Rattle.std.proofs.lemmas.List.{length-map, length-replicate}
use Rattle.std.proofs.lemmas.List.Edits.{sets}
use Rattle.std.proofs.Math.Seq.{length-sets}
use Rattle.memory_range.specs.declared.range.MemoryRange.{MemoryRange}
use Rattle.memory_range.specs.declared.range.TaggedRange.{TaggedRange}
use Rattle.memory_range.specs.List.{ranges_of, tagged_of}
use Rattle.table_words.specs.List.{ram_rows, nodes_good, range_in, ranges_in, ram_in, rams_in, ram_low, column, node_column}
use Rattle.table_words.specs.Laws.List.{good-nodes, good-ram, stored, length-column, columns-ranges, columns-ram}
use Rattle.table_words.specs.Laws.Rows.{length-rows}
use Rattle.table_words.specs.Rows.{rows}
use Rattle.table_calls.specs.Build.{list_room, list_good, given_good}

few : (width : ℕ) (ws : List ℕ) → list_good width ws ≡ true → length ws / width ≤ list_room
few width ws h = leb-true (length ws / width) list_room ((and-eq-true_iff (eqb (length ws % width) 0) (leb (length ws / width) list_room)).0 h).1

-- what good lists say: how many items there are, and that the nodes are
pub record Lists (ram configs pools : List ℕ) : Type 0 where
  pub ram_few : length ram / 3 ≤ list_room
  pub configs_few : length configs / 2 ≤ list_room
  pub pools_few : length pools / 2 ≤ list_room
  pub nodes : nodes_good (ram_rows ram) ≡ true

module _ (ram reserved configs pools : List ℕ) where
  abbrev goods : Bool
  goods = list_good 2 configs && (list_good 2 pools && nodes_good (ram_rows ram))

  pub given_facts : given_good ram reserved configs pools ≡ true → (length reserved ≡ 8) × Lists ram configs pools
  given_facts h =
      let a = (and-eq-true_iff (list_good 3 ram) (eqb (length reserved) 8 && goods)).0 h in
      let b = (and-eq-true_iff (eqb (length reserved) 8) goods).0 a.1 in
      let c = (and-eq-true_iff (list_good 2 configs) (list_good 2 pools && nodes_good (ram_rows ram))).0 b.1 in
      let d = (and-eq-true_iff (list_good 2 pools) (nodes_good (ram_rows ram))).0 c.1 in (
        eqb-true (length reserved) 8 b.0,
        record { ram_few = few 3 ram a.0; configs_few = few 2 configs c.0; pools_few = few 2 pools d.0; nodes = d.1 },
      )

-- the first places of an array that a list is read into are its ranges
pub ranges-stored : (ws : List ℕ) (x : MemoryRange) {l : List MemoryRange} → l ≡ sets (replicate list_room x) 0 (ranges_in ws)
    → length ws / 2 ≤ list_room → take (length ws / 2) l ≡ ranges_in ws
ranges-stored ws x e h =
    let n = length-map (rows 2 (length ws / 2) ws) range_in ∙ length-rows 2 (length ws / 2) ws in
    let room : length (replicate list_room x) ≡ list_room = length-replicate list_room x in
    ap (take (length ws / 2)) e ∙ stored (replicate list_room x) (ranges_in ws) (length ws / 2) n (omega arith)

pub ram-stored : (ws : List ℕ) (x : TaggedRange) {l : List TaggedRange} → l ≡ sets (replicate list_room x) 0 (map ram_low (ram_rows ws))
    → length ws / 3 ≤ list_room → nodes_good (ram_rows ws) ≡ true → take (length ws / 3) l ≡ rams_in ws
ram-stored ws x e h good =
    let n = length-map (rows 3 (length ws / 3) ws) ram_low ∙ length-rows 3 (length ws / 3) ws in
    let room : length (replicate list_room x) ≡ list_room = length-replicate list_room x in
    ap (take (length ws / 3)) e ∙ stored (replicate list_room x) (map ram_low (ram_rows ws)) (length ws / 3) n (omega arith) ∙ good-ram (ram_rows ws) good

-- lists of numbers beside each other, as callers may hold them: one whose first places hold these words
pub record Held (l vs : List ℕ) (n : ℕ) : Type 0 where
  pub room : n ≤ length l
  pub part : take n l ≡ vs

abbrev no_words_of : List ℕ
no_words_of = replicate list_room 0

no_words : length no_words_of ≡ list_room
no_words = length-replicate {A = ℕ} list_room 0

-- an array that a column is stored in, and one of nodes that are good
pub column-held : (width j : ℕ) (ws : List ℕ) {l : List ℕ} → l ≡ sets (replicate list_room 0) 0 (column j (rows width (length ws / width) ws))
    → length ws / width ≤ list_room → Held l (column j (rows width (length ws / width) ws)) (length ws / width)
column-held width j ws e h =
    let vs = column j (rows width (length ws / width) ws) in
    let n : length vs ≡ length ws / width = length-column j (rows width (length ws / width) ws) ∙ length-rows width (length ws / width) ws in
    let room : length no_words_of ≡ list_room = no_words in
    let all = ap length e ∙ length-sets no_words_of 0 vs in
    record { room = omega arith; part = ap (take (length ws / width)) e ∙ stored no_words_of vs (length ws / width) n (omega arith) }

pub nodes-held : (ws : List ℕ) {l : List ℕ} → l ≡ sets (replicate list_room 0) 0 (node_column (ram_rows ws)) → nodes_good (ram_rows ws) ≡ true
    → length ws / 3 ≤ list_room → Held l (column 2 (ram_rows ws)) (length ws / 3)
nodes-held ws e good h = column-held 3 2 ws (rw (good-nodes (ram_rows ws) good) at e) h

pub held-count : {l vs : List ℕ} {n : ℕ} → Held l vs n → n ≡ length (take n l)
held-count {l} {vs} {n} h = sym (length-take-le n l h.room)

-- the parts of such arrays are the lists of their rows
module _ (rs : List (List ℕ)) {ss es : List ℕ} {n : ℕ} (s : Held ss (column 0 rs) n) (e : Held es (column 1 rs) n) where
  pub ranges-held : ranges_of (take n ss) (take n es) ≡ map range_in rs
  ranges-held = rw (s.part, e.part) (columns-ranges rs)

  pub ram-held : {ns : List ℕ} → Held ns (column 2 rs) n → tagged_of (take n ss) (take n es) (take n ns) ≡ map ram_in rs
  ram-held t = rw (s.part, e.part, t.part) (columns-ram rs)

-- The claim of boot mode: each node of an accepted map has its due and less than 32,768 bytes more; every
-- chosen byte lies in the map, on its node; the file's bytes are chosen, and no imported byte outside it.
use Rattle.std.specs.Prelude.{ℕ, ◌+◌, ◌-◌, ◌≤◌, ◌<◌, ◌≡◌, refl, Bool, true, false, cond, List, [], ◌∷◌, ◌++◌, eqb, None}
use Rattle.std.proofs.Common.{sym, ◌∙◌, arith}
use Rattle.std.proofs.Math.Decide.{dec_le}
use Rattle.memory_range.specs.declared.range.MemoryRange.{MemoryRange}
use Rattle.memory_range.specs.declared.range.TaggedRange.{TaggedRange}
use Rattle.memory_range.specs.Bytes.{holders, byte_count, Ordered}
use Rattle.memory_range.specs.List.{ranges_in, tags_of}
use Rattle.memory_range.specs.Range.{holds, length_of}
use Rattle.memory_range.specs.Laws.Bytes.{Place, below, inside, above, place}
use Rattle.memory_range.specs.Laws.Count.{bytes_same}
use Rattle.range_lists.specs.Laws.Node.{has, AscendsFrom}
use Rattle.host_params.specs.declared.IsolationType.{IsolationType}
use Rattle.boot_ram.specs.File.{file_walk}
use Rattle.boot_ram.specs.Held.{holders_on, on_node, bytes_of}
use Rattle.boot_ram.specs.Import.{import_walk}
use Rattle.boot_nodes.specs.Node.{distinct}
use Rattle.boot_nodes.specs.Share.{share_step}
use Rattle.boot_take.specs.Take.{taking}
use Rattle.boot_ram.specs.Laws.File.{file-chosen}
use Rattle.boot_ram.specs.Laws.ByNode.{sort_bytes-on, bytes_join}
use Rattle.boot_nodes.specs.Laws.Node.{distinct_members}
use Rattle.boot_ram.specs.Laws.OnNode.{on_append}
use Rattle.boot_take.specs.Laws.Taking.{taking_bytes}
use Rattle.vtl2_ram.specs.Boot.{RowsPassed}
use Rattle.vtl2_ram.specs.Claim.{common, file_bytes_on, due_on, BootClaim}
use Rattle.vtl2_ram.specs.Laws.Parts.{Accepted, file_full, map-ordered, parts_in-map, parts-file, parts-imports}

-- what the file and each entry of a node have in common
abbrev common_on : MemoryRange → ℕ → List TaggedRange → List MemoryRange
common_on file n [] = []
common_on file n (x ∷ xs) = cond (eqb x.tag n) (common file x.range ∷ common_on file n xs) (common_on file n xs)

common_bytes : (file : MemoryRange) (n : ℕ) (xs : List TaggedRange) → byte_count (common_on file n xs) ≡ file_bytes_on file xs n
common_bytes file n [] = refl
common_bytes file n (x ∷ xs) = go (eqb x.tag n) (common_bytes file n xs)
  where
    go : (b : Bool) → byte_count (common_on file n xs) ≡ file_bytes_on file xs n
        → byte_count (cond b (common file x.range ∷ common_on file n xs) (common_on file n xs))
        ≡ cond b (length_of (common file x.range)) 0 + file_bytes_on file xs n
    go true e = omega arith
    go false e = omega arith

abbrev once : Bool → ℕ
once b = cond b 1 0

-- a byte lies in what two ranges have in common if it lies in both
common-holds : (r s : MemoryRange) (a : ℕ) → once (holds (common r s) a) ≡ cond (holds r a) (once (holds s a)) 0
common-holds r s a = go (place r a) (place s a) (place (common r s) a)
  where
    go : Place r a → Place s a → Place (common r s) a → once (holds (common r s) a) ≡ cond (holds r a) (once (holds s a)) 0
    go (below h e) q (below k f) = rw (e, f)
    go (below h e) q (inside l k f) = absurd (omega arith)
    go (below h e) q (above k f) = rw (e, f)
    go (above h e) q (below k f) = rw (e, f)
    go (above h e) q (inside l k f) = absurd (omega arith)
    go (above h e) q (above k f) = rw (e, f)
    go (inside l h e) (below k f) (below m g) = rw (e, f, g)
    go (inside l h e) (below k f) (inside o m g) = absurd (omega arith)
    go (inside l h e) (below k f) (above m g) = rw (e, f, g)
    go (inside l h e) (above k f) (below m g) = rw (e, f, g)
    go (inside l h e) (above k f) (inside o m g) = absurd (omega arith)
    go (inside l h e) (above k f) (above m g) = rw (e, f, g)
    go (inside l h e) (inside k o f) (below m g) = absurd (omega arith)
    go (inside l h e) (inside k o f) (inside p m g) = rw (e, f, g)
    go (inside l h e) (inside k o f) (above m g) = absurd (omega arith)

common-held : (file : MemoryRange) (n : ℕ) (xs : List TaggedRange) (a : ℕ) → holders (common_on file n xs) a ≡ cond (holds file a) (holders_on n xs a) 0
common-held file n [] a = go (holds file a)
  where
    go : (t : Bool) → ◌≡◌ {A = ℕ} 0 (cond t 0 0)
    go true = refl
    go false = refl
common-held file n (x ∷ xs) a = go (eqb x.tag n) (holds file a) (common-held file n xs a) (common-holds file x.range a)
  where
    go : (b t : Bool) → holders (common_on file n xs) a ≡ cond t (holders_on n xs a) 0
        → once (holds (common file x.range) a) ≡ cond t (once (holds x.range a)) 0
        → holders (cond b (common file x.range ∷ common_on file n xs) (common_on file n xs)) a
        ≡ cond t (holders (ranges_in (cond b (x ∷ on_node n xs) (on_node n xs))) a) 0
    go true true e c = omega arith
    go true false e c = omega arith
    go false true e c = e
    go false false e c = e

-- the file's pieces on a node have the file's bytes in its map entries
pub file_bytes : (file : MemoryRange) (map : List TaggedRange) → (file_walk file map).refusal ≡ None → file.start < file.end → Ordered 0 (ranges_in map)
    → (n : ℕ) → bytes_of (on_node n (file_walk file map).chosen) ≡ file_bytes_on file map n
file_bytes file map walked full om n =
    bytes_same (ranges_in (on_node n (file_walk file map).chosen)) (common_on file n map)
    (λ a. file-chosen file map walked full om n a ∙ sym (common-held file n map a))
    ∙ common_bytes file n map

module _ (isolation : IsolationType) (file : MemoryRange) (map : List TaggedRange) (imports : List MemoryRange) (share : ℕ) (nodes : List ℕ)
    (ram : List TaggedRange) (rows : RowsPassed file map imports) (accepted : Accepted isolation file map imports share nodes ram)
    (ascends : AscendsFrom 0 nodes) where
  -- with need = share - file bytes, what is taken is at least need and below need + 32,768, and nothing where need is 0
  parts_due : (n : ℕ) → has n nodes ≡ true
      → (due_on share file map n ≤ bytes_of (on_node n ram)) × (bytes_of (on_node n ram) < due_on share file map n + share_step)
  parts_due n member =
      let pieces = (file_walk file map).chosen in
      let free = (import_walk isolation file imports (file_walk file map).free).free in
      let took = (taking share pieces free nodes).chosen in
      let meets = taking_bytes share pieces free nodes accepted.taken 0 ascends n member in
      let filed =
      file_bytes file map accepted.file-walked (file_full isolation file map imports share nodes ram rows accepted ascends)
      (map-ordered isolation file map imports share nodes ram rows accepted ascends) n in
      let all = sort_bytes-on n (pieces ++ took) in
      let joined = bytes_join (on_node n pieces) (on_node n took) in
      let ram-bytes : bytes_of (on_node n ram) ≡ bytes_of (on_node n pieces) + bytes_of (on_node n took) =
      rw (accepted.sorted, all, on_append n pieces took) joined in
      let met = meets.0 in
      let none_needed = meets.1 in
      let near = meets.2 in
      (omega (arith, ram-bytes, filed, met), due (dec_le share (file_bytes_on file map n)) ram-bytes filed none_needed near)
    where
      due : {t f w : ℕ} → Dec (share ≤ file_bytes_on file map n) → t ≡ f + w → f ≡ file_bytes_on file map n → (share - f ≡ 0 → w ≡ 0)
          → w < share - f + share_step → t < due_on share file map n + share_step
      due (yes h) e g z l = omega (arith, e, g, z (omega arith))
      due (no h) e g z l = omega (arith, e, g, l)

  pub boot_claim : nodes ≡ distinct (tags_of map) → BootClaim share file map imports ram
  boot_claim e = record {
    due = λ n member. parts_due n (rw (e, distinct_members n (tags_of map)) member);
    in_map = parts_in-map isolation file map imports share nodes ram rows accepted ascends;
    file-chosen = parts-file isolation file map imports share nodes ram rows accepted ascends;
    imports-left = parts-imports isolation file map imports share nodes ram rows accepted ascends;
  }

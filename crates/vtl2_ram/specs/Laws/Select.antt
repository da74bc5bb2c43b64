-- The claims of every accepted selection: in both modes the chosen entries are in order, of whole pages, and at
-- most 64; in boot mode they meet the claim of boot mode.
use Rattle.std.specs.Prelude.{ℕ, ◌≤◌, ◌≡◌, refl, List, [], ◌∷◌, length, Option, None}
use Rattle.std.proofs.Common.{arith}
use Rattle.memory_range.specs.declared.range.MemoryRange.{MemoryRange}
use Rattle.memory_range.specs.declared.range.TaggedRange.{TaggedRange}
use Rattle.memory_range.specs.List.{ranges_in, tagged, tags_of}
use Rattle.memory_range.specs.Range.{range}
use Rattle.range_lists.specs.Walk.{walk_from}
use Rattle.memory_range.specs.Laws.Valid.{ordered-ascend}
use Rattle.host_params.specs.declared.IsolationType.{IsolationType}
use Rattle.host_params.specs.declared.IsolationType.TheVariants as isolation
use Rattle.host_params.specs.declared.MemoryAllocationMode.{MemoryAllocationMode}
use Rattle.host_params.specs.declared.MemoryAllocationMode.TheVariants.{Host, Vtl2}
use Rattle.host_params.specs.declared.MemoryEntry.{MemoryEntry}
use Rattle.host_params.specs.declared.MemoryMapEntryType.TheVariants.{Vtl2Protectable}
use Rattle.boot_ram.specs.File.{file_walk}
use Rattle.boot_ram.specs.Import.{import_walk}
use Rattle.boot_ram.specs.Verdict.{max_chosen}
use Rattle.boot_nodes.specs.Node.{nodes_bad, nodes_in}
use Rattle.boot_take.specs.Take.{taking}
use Rattle.boot_nodes.specs.Laws.Node.{distinct-ascends}
use Rattle.boot_ram.specs.Laws.Paged.{entries-valid}
use Rattle.refusal.specs.Number.{node_numbers}
use Rattle.refusal.specs.Rows.{refused_if, downward}
use Rattle.vtl2_ram.specs.Boot.{share_refusal, after_imports, beside_file, boot_parts, boot_choice, RowsPassed}
use Rattle.vtl2_ram.specs.Choice.{Choice, refused, chosen, entries_of}
use Rattle.vtl2_ram.specs.Claim.{share_in, InOrder, BootClaim}
use Rattle.host_map.specs.Map.{map_ranges, entries_in}
use Rattle.vtl2_ram.specs.Rows.{rows_refusal, rows_known}
use Rattle.vtl2_ram.specs.Select.{choice_by, choice}
use Rattle.vtl2_ram.specs.Laws.Choice.{unless-chosen}
use Rattle.vtl2_ram.specs.Laws.Claim.{boot_claim}
use Rattle.vtl2_ram.specs.Laws.Host.{host-chosen}
use Rattle.vtl2_ram.specs.Laws.Parts.{Accepted, parts-accepted, parts-ordered, parts_paged, parts-count}
use Rattle.vtl2_ram.specs.Laws.Rows.{rows-passed}

module _ (isolation : IsolationType) (size : (Option ℕ)) (file : MemoryRange) (map : List MemoryEntry) (imports : List MemoryRange)
    (ram : List TaggedRange) where
  -- what an accepted boot selection shows
  module _ (e : choice Vtl2 isolation size file map imports ≡ chosen ram) where
    pub boot-rows : RowsPassed file (entries_in map) imports
    unfolding choice
    boot-rows =
        let p =
        rows-passed Vtl2 file (map_ranges map) imports
        (unless-chosen (rows_refusal Vtl2 file (map_ranges map) imports) (choice_by Vtl2 isolation size file map imports) e).0 in
        (p.0, p.1, p.3, p.2, p.4)

    pub boot-accepted : Accepted isolation file (entries_in map) imports (share_in size file map) (nodes_in map) ram
    unfolding choice boot_choice
    boot-accepted =
        let nodes = nodes_in map in
        let rows = downward (refused_if (nodes_bad nodes) node_numbers ∷ share_refusal size file (length nodes) ∷ []) in
        let parts = boot_parts isolation file (entries_in map) imports (share_in size file map) nodes in
        let whole = (unless-chosen (rows_refusal Vtl2 file (map_ranges map) imports) (choice_by Vtl2 isolation size file map imports) e).1 in
        parts-accepted isolation file (entries_in map) imports (share_in size file map) nodes ram (unless-chosen rows parts whole).1

    pub boot_claimed : BootClaim (share_in size file map) file (entries_in map) imports ram
    boot_claimed =
        boot_claim isolation file (entries_in map) imports (share_in size file map) (nodes_in map) ram boot-rows boot-accepted
        (distinct-ascends (tags_of (entries_in map))) refl

    boot_in_order : InOrder ram
    boot_in_order =
        let ascends = distinct-ascends (tags_of (entries_in map)) in
        let m = entries_in map in
        let share = share_in size file map in
        record {
          valid = entries-valid ram (parts_paged isolation file m imports share (nodes_in map) ram boot-rows boot-accepted ascends);
          ascending =
              ordered-ascend 0 (ranges_in ram) (parts-ordered isolation file m imports share (nodes_in map) ram boot-rows boot-accepted ascends);
          count = parts-count isolation file m imports share (nodes_in map) ram boot-rows boot-accepted ascends;
        }

  host_in_order : choice Host isolation size file map imports ≡ chosen ram → InOrder ram
  unfolding choice
  host_in_order e =
      let passed = unless-chosen (rows_refusal Host file (map_ranges map) imports) (choice_by Host isolation size file map imports) e in
      let p = rows-passed Host file (map_ranges map) imports passed.0 in
      let h = host-chosen isolation file map ram passed.1 p.0 p.1 p.3 in
      record { valid = h.0; ascending = h.1; count = h.2 }

  pub chosen_in_order : (mode : MemoryAllocationMode) → choice mode isolation size file map imports ≡ chosen ram → InOrder ram
  chosen_in_order Host e = host_in_order e
  chosen_in_order Vtl2 e = boot_in_order e

-- so at most 64 entries are chosen
pub choice_few : (mode : MemoryAllocationMode) (isolation : IsolationType) (size : Option ℕ) (file : MemoryRange) (map : List MemoryEntry)
    (imports : List MemoryRange) → length (entries_of (choice mode isolation size file map imports)) ≤ max_chosen
choice_few mode isolation size file map imports = go (choice mode isolation size file map imports) refl
  where
    go : (c : Choice) → choice mode isolation size file map imports ≡ c → length (entries_of c) ≤ max_chosen
    go (refused r) e = omega arith
    go (chosen xs) e = (chosen_in_order isolation size file map imports xs mode e).count

-- a map is accepted: one entry with the file in it, and no size given
pub one-accepted :
    choice Vtl2 isolation.None None (range 0x200000 0x210000) (record { range = range 0 0x400000; vnode = 0; mem_type = Vtl2Protectable } ∷ []) []
    ≡ chosen (tagged 0x200000 0x210000 0 ∷ [])
unfolding choice rows_known boot_choice boot_parts beside_file file_walk after_imports import_walk taking walk_from
one-accepted = refl

-- `build::read_build` meets its contract: each call reads on from the records that the one before it left.
use mathlib.Core.Path.{◌≡◌, ap, ◌∙◌}
use Rattle.std.specs.Prelude.{Option}
use Rattle.memory_range.specs.declared.range.MemoryRange.{MemoryRange}
use Rattle.memory.specs.declared.builder.AddressSpaceManagerBuilder.{AddressSpaceManagerBuilder}
use Rattle.memory.specs.Builder.{singles_valid}
use Rattle.plan_input.specs.Record.{records_at}
use Rattle.plan_input.specs.Range.{or_empty}
use Rattle.plan_input.specs.Build.{builder_of, build_in}
use Rattle.host_map.specs.Laws.Rows.{valid_by, valid-three}
use Rattle.plan_input.proofs.list.Laws.{check_alone}
use Rattle.plan_input.proofs.build.read_build.Goals as goal

-- ranges that are the same make the same builder
same-builder : {a b : MemoryRange} {u u' s s' k k' i i' t t' l l' : Option MemoryRange} → a ≡ or_empty u → b ≡ or_empty s
    → u ≡ u' → s ≡ s' → k ≡ k' → i ≡ i' → t ≡ t' → l ≡ l'
    → ◌≡◌ {A = AddressSpaceManagerBuilder}
    (record { bootshim_used = a; persisted_state_region = b; reserved_range = k; sidecar_image = i; page_tables = t; log_buffer = l })
    (builder_of u' s' k' i' t' l')
same-builder c d e f g h m n = rw (c, d, e, f, g, h, m, n)

pub returns : goal.returns
unfolding build_in
returns c =
    let given = build_in (records_at c.args.text.now c.args.at) in
    let used = c.read_range-used.ensures in
    let state = rw used.moved.records at c.read_range-state.ensures in
    let configs = rw state.moved.records at c.read_list-configured.ensures in
    let keep = rw configs.moved.records at c.read_range-reserved_range.ensures in
    let side = rw keep.moved.records at c.read_range-sidecar_image.ensures in
    let tables = rw side.moved.records at c.read_range-page_tables.ensures in
    let log = rw tables.moved.records at c.read_range-log_buffer.ensures in
    let pools = rw log.moved.records at c.read_list-pooled.ensures in
    let builder = same-builder c.or_empty.ensures c.or_empty-2.ensures used.value state.value keep.value side.value tables.value log.value in
    let singles = c.is_valid.ensures ∙ ap singles_valid builder in (
      record {
        builder = builder;
        config-count = configs.count;
        pool-count = pools.count;
        valid = valid-three singles (valid_by given.configs (check_alone given.configs configs.check)) (valid_by given.pools (check_alone given.pools pools.check));
        next = pools.moved.records;
      },
      pools.moved.order ∙ log.moved.order ∙ tables.moved.order ∙ side.moved.order ∙ keep.moved.order ∙ configs.moved.order
          ∙ state.moved.order ∙ used.moved.order,
      configs.stored,
      pools.stored,
    )

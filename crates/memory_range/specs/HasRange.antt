-- The range of an item.
use Rattle.memory_range.specs.declared.range.MemoryRange.{MemoryRange}
use Rattle.memory_range.specs.declared.range.TaggedRange.{TaggedRange}

abbrev pub range_of_tagged : TaggedRange → MemoryRange
range_of_tagged x = x.range

-- No usage is lost in its number.
use Rattle.std.specs.Prelude.{◌≡◌, refl}
use Rattle.address_space.specs.declared.usage.AddressUsage.TheVariants.{Used, Reserved}
use Rattle.address_space.specs.declared.usage.ReservedMemoryType.{ReservedMemoryType}
use Rattle.address_space.specs.declared.usage.ReservedMemoryType.TheVariants.{Vtl2Config, Vtl2Reserved, SidecarImage, SidecarNode, Vtl2GpaPool, TdxPageTables, BootshimLogBuffer, PersistedStateHeader, PersistedStatePayload}
use Rattle.address_space.specs.Usage.{used_number, reserved_number_of, usage_of}

pub usage_of-used : usage_of used_number ≡ Used
unfolding usage_of
usage_of-used = refl

pub usage_of-reserved : (t : ReservedMemoryType) → usage_of (reserved_number_of t) ≡ Reserved t
unfolding usage_of
usage_of-reserved Vtl2Config = refl
usage_of-reserved Vtl2Reserved = refl
usage_of-reserved SidecarImage = refl
usage_of-reserved SidecarNode = refl
usage_of-reserved Vtl2GpaPool = refl
usage_of-reserved TdxPageTables = refl
usage_of-reserved BootshimLogBuffer = refl
usage_of-reserved PersistedStateHeader = refl
usage_of-reserved PersistedStatePayload = refl

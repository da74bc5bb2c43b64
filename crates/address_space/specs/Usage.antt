-- What a range of the RAM is used for (docs/SPEC.md, section 21), and its number where it goes with a range as its tag (section 24).
use Rattle.std.specs.Prelude.{ℕ, Bool, true, false, cond, eqb}
use Rattle.host_params.specs.declared.AllocationType.{AllocationType}
use Rattle.host_params.specs.declared.AllocationType.TheVariants as allocation
use Rattle.host_params.specs.declared.MemoryVtlType.{MemoryVtlType}
use Rattle.host_params.specs.declared.MemoryVtlType.TheVariants as vtl
use Rattle.address_space.specs.declared.usage.AddressUsage.{AddressUsage}
use Rattle.address_space.specs.declared.usage.AddressUsage.TheVariants.{Free, Used, Reserved}
use Rattle.address_space.specs.declared.usage.ReservedMemoryType.{ReservedMemoryType}
use Rattle.address_space.specs.declared.usage.ReservedMemoryType.TheVariants.{Vtl2Config, Vtl2Reserved, SidecarImage, SidecarNode, Vtl2GpaPool, TdxPageTables, BootshimLogBuffer, PersistedStateHeader, PersistedStatePayload}

abbrev pub is_free : AddressUsage → Bool
is_free Free = true
is_free Used = false
is_free (Reserved t) = false

-- the type that is reported of a reserved range
abbrev pub reserved_vtl_type : ReservedMemoryType → MemoryVtlType
reserved_vtl_type Vtl2Config = vtl.Config
reserved_vtl_type Vtl2Reserved = vtl.Reserved
reserved_vtl_type SidecarImage = vtl.SidecarImage
reserved_vtl_type SidecarNode = vtl.SidecarNode
reserved_vtl_type Vtl2GpaPool = vtl.GpaPool
reserved_vtl_type TdxPageTables = vtl.TdxPageTables
reserved_vtl_type BootshimLogBuffer = vtl.BootshimLogBuffer
reserved_vtl_type PersistedStateHeader = vtl.PersistedStateHeader
reserved_vtl_type PersistedStatePayload = vtl.PersistedStatePayload

-- the type that is reported of any range: free and used memory is RAM alike
abbrev pub vtl_type_of : AddressUsage → MemoryVtlType
vtl_type_of Free = vtl.Ram
vtl_type_of Used = vtl.Ram
vtl_type_of (Reserved t) = reserved_vtl_type t

-- a number for each type, no two alike
abbrev pub type_number : MemoryVtlType → ℕ
type_number vtl.Ram = 0
type_number vtl.Config = 1
type_number vtl.Reserved = 2
type_number vtl.SidecarImage = 3
type_number vtl.SidecarNode = 4
type_number vtl.GpaPool = 5
type_number vtl.TdxPageTables = 6
type_number vtl.BootshimLogBuffer = 7
type_number vtl.PersistedStateHeader = 8
type_number vtl.PersistedStatePayload = 9

-- the number of what is used and not reserved
abbrev pub used_number : ℕ
used_number = 0

-- the number of a reserved type is that of the type that is reported of it: 1 to 9
abbrev pub reserved_number_of : ReservedMemoryType → ℕ
reserved_number_of t = type_number (reserved_vtl_type t)

-- the usage of a number: that of a reserved type, and of any other number used
unfoldable pub usage_of : ℕ → AddressUsage
usage_of n =
    cond (eqb n 1) (Reserved Vtl2Config)
    (cond (eqb n 2) (Reserved Vtl2Reserved)
    (cond (eqb n 3) (Reserved SidecarImage)
    (cond (eqb n 4) (Reserved SidecarNode)
    (cond (eqb n 5) (Reserved Vtl2GpaPool)
    (cond (eqb n 6) (Reserved TdxPageTables)
    (cond (eqb n 7) (Reserved BootshimLogBuffer)
    (cond (eqb n 8) (Reserved PersistedStateHeader)
    (cond (eqb n 9) (Reserved PersistedStatePayload) Used))))))))

-- what a range is used for once a request of this kind was given it
abbrev pub usage_for : AllocationType → AddressUsage
usage_for allocation.GpaPool = Reserved Vtl2GpaPool
usage_for allocation.SidecarNode = Reserved SidecarNode
usage_for allocation.TdxPageTables = Reserved TdxPageTables

abbrev pub is_pool : AllocationType → Bool
is_pool allocation.GpaPool = true
is_pool allocation.SidecarNode = false
is_pool allocation.TdxPageTables = false

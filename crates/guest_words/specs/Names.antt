-- Printed names, and the order of the faults.
use Rattle.std.specs.Prelude.{ℕ, List, codes}
use Rattle.guest_words.specs.declared.fault.FaultName.{FaultName}
use Rattle.guest_words.specs.declared.fault.FaultName.TheVariants.{FetchRights, FetchMisaligned, Illegal, LoadRights, StoreRights, AtomicMisaligned, Breakpoint, BlockedInPoint}

-- the name of a fault, as ASCII
abbrev pub fault_name : FaultName → List ℕ
fault_name FetchRights = codes "fetch-rights"
fault_name FetchMisaligned = codes "fetch-misaligned"
fault_name Illegal = codes "illegal"
fault_name LoadRights = codes "load-rights"
fault_name StoreRights = codes "store-rights"
fault_name AtomicMisaligned = codes "atomic-misaligned"
fault_name Breakpoint = codes "breakpoint"
fault_name BlockedInPoint = codes "blocked-in-point"

-- the place of a fault in the order in which a point has its codes
abbrev pub order_of : FaultName → ℕ
order_of FetchRights = 0
order_of FetchMisaligned = 1
order_of Illegal = 2
order_of LoadRights = 3
order_of StoreRights = 4
order_of AtomicMisaligned = 5
order_of Breakpoint = 6
order_of BlockedInPoint = 7

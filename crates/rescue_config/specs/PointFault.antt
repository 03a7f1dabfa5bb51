-- Printed names of the faults of rescue files.
use Rattle.std.specs.Prelude.{ℕ, List, codes}
use Rattle.rescue_config.specs.declared.point_fault.PointFault.{PointFault}
use Rattle.rescue_config.specs.declared.point_fault.PointFault.TheVariants.{Toml, UnknownKey, BadVersion, BadValue, TooMany, Missing, Both, BadReturn, BadCodes, BadLimit, BadKind, Mixed, UnknownFunction, Ambiguous, Misaligned, OutsideText, Twice, LooseHere}

-- the name of a fault, as ASCII
abbrev pub point_fault_name : PointFault → List ℕ
point_fault_name Toml = codes "toml"
point_fault_name UnknownKey = codes "unknown-key"
point_fault_name BadVersion = codes "bad-version"
point_fault_name BadValue = codes "bad-value"
point_fault_name (TooMany count) = codes "too-many"
point_fault_name Missing = codes "missing"
point_fault_name Both = codes "both"
point_fault_name BadReturn = codes "bad-return"
point_fault_name BadCodes = codes "bad-codes"
point_fault_name BadLimit = codes "bad-limit"
point_fault_name BadKind = codes "bad-kind"
point_fault_name (Mixed first) = codes "mixed"
point_fault_name UnknownFunction = codes "unknown-function"
point_fault_name (Ambiguous count) = codes "ambiguous"
point_fault_name Misaligned = codes "misaligned"
point_fault_name OutsideText = codes "outside-text"
point_fault_name (Twice first) = codes "twice"
point_fault_name LooseHere = codes "loose-here"

-- What a shelf was asked for, and what it answered.
use Rattle.std.specs.Prelude.{◌≡◌, ◌⊎◌, ℕ, List, Option, Some, None, Result, refl}
use Rattle.std.specs.Coded.{Coded, code_by, coded×, coded⊎, coded_ℕ, coded_list, coded_option, coded_result}
use mathlib.Core.Logic.{inl, inr}
use Rattle.edge_ports.specs.declared.reason.Reason.{Reason}
use Rattle.edge_ports.specs.declared.reason.Reason.TheVariants.{NotFound, Denied, Folder, Other}
use Rattle.edge_ports.specs.declared.shelf.ShelfFault.{ShelfFault}
use Rattle.edge_ports.specs.declared.shelf.ShelfFault.TheVariants.{Failed, TooLong, Memory}

-- a load of a name, with the bytes or the fault that was answered; or a save of bytes under a
-- name, with its fault if it failed
pub data Asked : Type 0 where
  Loaded : List ℕ → Result (List ℕ) ShelfFault → Asked
  Saved : List ℕ → List ℕ → Option ShelfFault → Asked

-- how the logic stores a reason, a fault, and what was asked
abbrev reason_parts : Reason → Option (Option (Option ℕ))
reason_parts NotFound = None
reason_parts Denied = Some None
reason_parts Folder = Some (Some None)
reason_parts Other = Some (Some (Some 0))

abbrev reason_of_parts : Option (Option (Option ℕ)) → Reason
reason_of_parts None = NotFound
reason_of_parts (Some None) = Denied
reason_of_parts (Some (Some None)) = Folder
reason_of_parts (Some (Some (Some n))) = Other

pub reason_back : (reason : Reason) → reason_of_parts (reason_parts reason) ≡ reason
reason_back NotFound = refl
reason_back Denied = refl
reason_back Folder = refl
reason_back Other = refl

abbrev reason_code : Coded Reason
reason_code =
    code_by (Option (Option (Option ℕ))) (coded_option (coded_option (coded_option coded_ℕ)))
    reason_parts reason_of_parts reason_back

abbrev FaultParts : Type 0
FaultParts = Reason ⊎ Option ℕ

abbrev fault_parts : ShelfFault → FaultParts
fault_parts (Failed reason) = inl reason
fault_parts Memory = inr None
fault_parts (TooLong size) = inr (Some size)

abbrev fault_of_parts : FaultParts → ShelfFault
fault_of_parts (inl reason) = Failed reason
fault_of_parts (inr None) = Memory
fault_of_parts (inr (Some size)) = TooLong size

pub fault_back : (fault : ShelfFault) → fault_of_parts (fault_parts fault) ≡ fault
fault_back (Failed reason) = refl
fault_back Memory = refl
fault_back (TooLong size) = refl

abbrev fault_code : Coded ShelfFault
fault_code =
    code_by FaultParts (coded⊎ reason_code (coded_option coded_ℕ)) fault_parts fault_of_parts
    fault_back

abbrev Parts : Type 0
Parts = (List ℕ × Result (List ℕ) ShelfFault) ⊎ (List ℕ × (List ℕ × Option ShelfFault))

abbrev asked_parts : Asked → Parts
asked_parts (Loaded name answer) = inl (name, answer)
asked_parts (Saved name bytes fault) = inr (name, (bytes, fault))

abbrev asked_of_parts : Parts → Asked
asked_of_parts (inl load) = Loaded load.0 load.1
asked_of_parts (inr save) = Saved save.0 save.1.0 save.1.1

pub asked_back : (asked : Asked) → asked_of_parts (asked_parts asked) ≡ asked
asked_back (Loaded name answer) = refl
asked_back (Saved name bytes fault) = refl

abbrev pub asked_code : Coded (List Asked)
asked_code =
    let bytes = coded_list coded_ℕ in
    coded_list
    (code_by Parts
    (coded⊎ (coded× bytes (coded_result bytes fault_code))
    (coded× bytes (coded× bytes (coded_option fault_code))))
    asked_parts asked_of_parts asked_back)

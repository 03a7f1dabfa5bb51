-- Why a file wasn't opened, read or written: what the system tells, and the words for it.
use Rattle.std.specs.Prelude.{ℕ, List, codes}
use Rattle.std.specs.declared.io.ErrorKind.{ErrorKind}
use Rattle.std.specs.declared.io.ErrorKind.TheVariants as kind
use Rattle.edge_ports.specs.declared.reason.Reason.{Reason}
use Rattle.edge_ports.specs.declared.reason.Reason.TheVariants.{NotFound, Denied, Folder, Other}

-- the reason of a kind of error
abbrev pub reason_of : ErrorKind → Reason
reason_of kind.NotFound = NotFound
reason_of kind.PermissionDenied = Denied
reason_of kind.IsADirectory = Folder
reason_of _ = Other

-- the words for a reason, as ASCII
abbrev pub reason_text : Reason → List ℕ
reason_text NotFound = codes "no such file"
reason_text Denied = codes "permission denied"
reason_text Folder = codes "is a folder"
reason_text Other = codes "it can't be read or written"

-- The further files of an audit, behind the program and the rescue file: the history, and those of
-- the devices. None of them is refused for its bytes.
use Rattle.std.specs.Prelude.{ℕ, ◌+◌, List, [], ◌∷◌, Option, Some, None, Result, Ok, Err}
use Rattle.edge_ports.specs.Asked.{Asked, Loaded as Load'}
use Rattle.program_words.specs.declared.port_name.PortName.{PortName}
use Rattle.rescue_audit.specs.declared.files.AuditFiles.{AuditFiles}
use Rattle.rescue_audit.specs.declared.files.PortFile.{PortFile}
use Rattle.rescue_run.specs.declared.refusal.Refusal.{Refusal}
use Rattle.rescue_run.specs.declared.outcome.Which.{Which}
use Rattle.rescue_run.specs.declared.outcome.Which.TheVariants as which
use Rattle.rescue_run.specs.declared.start.Loaded.{Loaded}
use Rattle.rescue_run.specs.declared.task.Task.{Task}
use Rattle.rescue_run.specs.declared.task.Task.TheVariants as task
use Rattle.rescue_run.specs.Loading.{Answers, NamedFile, Read}
use Rattle.rescue_run.specs.Outcomes.{of_shelf_fault}

-- files of devices, numbered from here on
abbrev pub device_files : ℕ → List (List ℕ) → List NamedFile
device_files number [] = []
device_files number (name ∷ names) =
    (which.Device number, name) ∷ device_files (number + 1) names

-- of each port its input, and then its output
abbrev pub port_names : List PortName → List (List ℕ)
port_names [] = []
port_names (port ∷ ports) = port.input ∷ port.output ∷ port_names ports

-- the history, the input, the output, the error output, and the files of the ports
abbrev pub further_files :
    List ℕ → List ℕ → List ℕ → List ℕ → List PortName → List NamedFile
further_files history input out err ports =
    (which.History, history) ∷ device_files 0 (input ∷ out ∷ err ∷ port_names ports)

-- the refusal of the first file that isn't read
abbrev pub unless_unread : Which → Read → Option Refusal → Option Refusal
unless_unread w (Ok bytes) later = later
unless_unread w (Err fault) later = Some (of_shelf_fault w fault)

abbrev pub first_unread : Answers → List NamedFile → Option Refusal
first_unread answers [] = None
first_unread answers (file ∷ files) =
    unless_unread file.0 (answers file.0) (first_unread answers files)

-- what the shelf is asked for: the files in their order, up to that one
abbrev pub where_read : Read → List Asked → List Asked
where_read (Ok bytes) later = later
where_read (Err fault) later = []

abbrev pub loads_until : Answers → List NamedFile → List Asked
loads_until answers [] = []
loads_until answers (file ∷ files) =
    Load' file.1 (answers file.0) ∷ where_read (answers file.0) (loads_until answers files)

-- the bytes of a file that was read
abbrev pub bytes_in : Read → List ℕ
bytes_in (Ok bytes) = bytes
bytes_in (Err fault) = []

abbrev pub device : Answers → ℕ → List ℕ
device answers number = bytes_in (answers (which.Device number))

abbrev pub port_files : Answers → ℕ → List PortName → List PortFile
port_files answers number [] = []
port_files answers number (port ∷ ports) =
    record { input = device answers number; output = device answers (number + 1) }
    ∷ port_files answers (number + 1 + 1) ports

abbrev pub audit_files : Answers → List PortName → AuditFiles
audit_files answers ports = record {
  input = device answers 0;
  out = device answers 1;
  err = device answers 2;
  ports = port_files answers 3 ports;
}

-- the audit of what was loaded, unless a further file isn't read
abbrev pub audit_unless : Option Refusal → Loaded → Answers → List PortName → Result Task Refusal
audit_unless (Some refusal) loaded answers ports = Err refusal
audit_unless None loaded answers ports = Ok (task.Audit (record {
  loaded = loaded;
  history = bytes_in (answers which.History);
  files = audit_files answers ports;
}))

-- the same, unless the program or the rescue file is refused
abbrev pub audit_with :
    Result Loaded Refusal → List NamedFile → Answers → List PortName → Result Task Refusal
audit_with (Err refusal) files answers ports = Err refusal
audit_with (Ok loaded) files answers ports =
    audit_unless (first_unread answers files) loaded answers ports

-- the loads of the further files, where neither is refused
abbrev pub further_loads : Result Loaded Refusal → Answers → List NamedFile → List Asked
further_loads (Err refusal) answers files = []
further_loads (Ok loaded) answers files = loads_until answers files

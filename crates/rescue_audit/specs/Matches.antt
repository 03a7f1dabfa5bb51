-- The records of a history against the files of its devices: the bytes that were read stand at the
-- front of the one, and those that were written are the other.
use Rattle.std.specs.Prelude.{ℕ, ◌+◌, ◌==◌, ◌&&◌, ◌||◌, Bool, true, false, not, IsTrue, List, [], ◌∷◌, take, drop, length, nat_eq, Option, Some, None, option_map, pos}
use Rattle.std.specs.List.{flat_map, list_all}
use Rattle.std.specs.Ordering.{int_eq}
use lib.Pointwise.{pointwise}
use Rattle.guest_words.specs.declared.record.Record.{Record}
use Rattle.edge_ports.specs.DevicesMatch.{records_at}
use Rattle.edge_ports.specs.Records.{given_bytes, is_read, taken_bytes}
use Rattle.rescue_audit.specs.declared.files.AuditFiles.{AuditFiles}
use Rattle.rescue_audit.specs.declared.files.PortFile.{PortFile}

-- these bytes stand at the front of what is left of a file
abbrev pub begins : List ℕ → List ℕ → Bool
begins left bytes = pointwise nat_eq (take (length bytes) left) bytes

-- a read that answered 0 found no byte left
abbrev pub is_at_end : List ℕ → Record → Bool
is_at_end left r = not (is_read r.way && int_eq r.answer (pos 0)) || (length left == 0)

-- each read took its bytes from the front of what those before it left of a file
unfoldable pub takes_from : List ℕ → List Record → Bool
takes_from left [] = true
takes_from left (r ∷ records) =
    is_at_end left r && begins left (taken_bytes r)
    && takes_from (drop (length (taken_bytes r)) left) records

-- the bytes of all writes, joined, are the file
abbrev pub gives : List ℕ → List Record → Bool
gives file records = pointwise nat_eq (flat_map given_bytes records) file

-- the rules on the files of the ports from a descriptor on: of each its input, and then its output
abbrev pub port_rules : ℕ → List PortFile → List Record → List Bool
port_rules fd [] records = []
port_rules fd (port ∷ ports) records =
    takes_from port.input (records_at fd records) ∷ gives port.output (records_at fd records)
    ∷ port_rules (fd + 1) ports records

-- and on all files, in the order of their numbers
abbrev pub file_rules : AuditFiles → List Record → List Bool
file_rules files records =
    takes_from files.input (records_at 0 records)
    ∷ gives files.out (records_at 1 records)
    ∷ gives files.err (records_at 2 records)
    ∷ port_rules 3 files.ports records

-- the number of the first rule that is broken
abbrev pub first_broken : List Bool → Option ℕ
first_broken [] = None
first_broken (true ∷ rules) = option_map (λ number. number + 1) (first_broken rules)
first_broken (false ∷ rules) = Some 0

-- the number of the first file whose rule is broken
abbrev pub first_unmatched : AuditFiles → List Record → Option ℕ
first_unmatched files records = first_broken (file_rules files records)

-- the records match the files
abbrev pub MatchesFiles : List Record → AuditFiles → Type 0
MatchesFiles records files = IsTrue (list_all (λ kept. kept) (file_rules files records))

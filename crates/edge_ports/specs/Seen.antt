-- The devices of a run as contracts see them.
use Rattle.std.specs.Prelude.{◌≡◌, ◌≢◌, ℕ, ◌+◌, ◌-◌, ◌<◌, ◌≤◌, ◌⊎◌, ◌==◌, nat_lt, if◌then◌else◌, List, [], ◌∷◌, ◌++◌, Bool, true, false, not, length, map, slice_set, slice_index_or, count_by, vec_len, vec_capacity}
use Rattle.std.specs.List.{list_any, range_with_len}
use Rattle.edge_ports.specs.End.{End, ended, untold}
use Rattle.edge_ports.specs.declared.devices.Devices.{Devices}

-- what each device tells; which of the descriptors 0 to 2 are closed; and the descriptors of the
-- closed ports, in the order of their closing
pub record Seen : Type 0 where
  pub input : End
  pub out : End
  pub err : End
  pub ports : List End
  pub closed : List Bool
  pub shut : List ℕ

-- the devices by what their sources, sinks and ports tell
abbrev pub seen : {S T P : Type 0} → (S → End) → (T → End) → (P → End) → Devices S T P → Seen
seen source sink port d = record {
  input = source d.input;
  out = sink d.out;
  err = sink d.err;
  ports = map port d.ports.items;
  closed = d.closed;
  shut = d.shut.items;
}

-- the room left in the list of closed ports
abbrev pub spare : {S T P : Type 0} → Devices S T P → ℕ
spare d = vec_capacity d.shut - vec_len d.shut

-- what the device at a descriptor tells; past the ports, nothing
abbrev pub end_at : Seen → ℕ → End
end_at s fd =
    if fd == 0 then s.input
    else if fd == 1 then s.out
    else if fd == 2 then s.err
    else slice_index_or s.ports (fd - 3) (untold 0 0)

-- whether a descriptor was closed
abbrev pub is_shut : Seen → ℕ → Bool
is_shut s fd =
    if nat_lt fd 3 then slice_index_or s.closed fd true else list_any (λ k. k == fd) s.shut

-- a descriptor is open where it is in range and wasn't closed
abbrev pub IsOpen : Seen → ℕ → Type 0
IsOpen s fd = (fd < 3 + length s.ports) × (is_shut s fd ≡ false)

-- the input and the ports can be read
abbrev pub CanRead : Seen → ℕ → Type 0
CanRead s fd = ((fd ≡ 0) ⊎ (3 ≤ fd)) × IsOpen s fd

-- the output, the error output and the ports can be written
abbrev pub CanWrite : Seen → ℕ → Type 0
CanWrite s fd = ((fd ≡ 1) ⊎ ((fd ≡ 2) ⊎ (3 ≤ fd))) × IsOpen s fd

-- how many of so many ports aren't in the list of the closed ones
abbrev pub open_among : List ℕ → ℕ → ℕ
open_among shut count =
    count_by (λ fd. not (list_any (λ k. k == fd) shut)) (range_with_len 3 count)

abbrev pub open_ports : Seen → ℕ
open_ports s = open_among s.shut (length s.ports)

-- nothing changed but the bytes and the count of faults of the device at a descriptor
pub record SameBut (fd : ℕ) (old new : Seen) : Type 0 where
  pub others : (k : ℕ) → k ≢ fd → end_at new k ≡ end_at old k
  pub closes : (end_at new fd).closes ≡ (end_at old fd).closes
  pub count : length new.ports ≡ length old.ports
  pub closed : new.closed ≡ old.closed
  pub shut : new.shut ≡ old.shut

-- every object stays as it is, told or not, but the device at a descriptor
pub record OthersStay {S T P : Type 0} (fd : ℕ) (old new : Devices S T P) : Type 0 where
  pub input : fd ≢ 0 → new.input ≡ old.input
  pub out : fd ≢ 1 → new.out ≡ old.out
  pub err : fd ≢ 2 → new.err ≡ old.err
  pub ports : (k : ℕ) (d : P) → k + 3 ≢ fd
      → slice_index_or new.ports.items k d ≡ slice_index_or old.ports.items k d

-- one of the descriptors 0 to 2 is marked as closed
abbrev pub marked : ℕ → Seen → Seen
marked fd s = record s { closed = slice_set s.closed fd true }

-- a port is closed once, and its descriptor goes last into the list
abbrev pub port_shut : ℕ → Seen → Seen
port_shut fd s =
    record s {
      ports = slice_set s.ports (fd - 3) (ended (end_at s fd));
      shut = s.shut ++ fd ∷ [];
    }

-- the devices after a descriptor was closed; all else is as before
abbrev pub closed_at : ℕ → Seen → Seen
closed_at fd s = if nat_lt fd 3 then marked fd s else port_shut fd s

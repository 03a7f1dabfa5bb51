-- The devices against the records of a run: what was told at the start, what is told now, and the
-- records of the calls between, by descriptor.
use Rattle.std.specs.Prelude.{◌≡◌, ℕ, ◌+◌, ◌-◌, ◌<◌, ◌≤◌, ◌==◌, nat_le, List, [], ◌∷◌, ◌++◌, length, drop, map, filter, count_by, ◌&&◌, ◌||◌, IfSome}
use Rattle.std.specs.List.{flat_map}
use Rattle.std.specs.Ordering.{int_eq}
use Rattle.guest_words.specs.declared.record.Record.{Record}
use Rattle.guest_words.specs.declared.linux.TheConstants.{EIO}
use Rattle.guest_words.specs.State.{is_close, is_closed}
use Rattle.edge_ports.specs.End.{End, raised_by, Came, Went}
use Rattle.edge_ports.specs.Records.{AnswersLesser, given_bytes, taken_bytes}
use Rattle.edge_ports.specs.Seen.{Seen, end_at, is_shut}

-- the records of a descriptor, in order
abbrev pub records_at : ℕ → List Record → List Record
records_at fd records = filter (λ r. r.port == fd) records

-- how many calls failed
abbrev pub failures : List Record → ℕ
failures records = count_by (λ r. int_eq r.answer EIO) records

-- how many closes of a descriptor there are
abbrev pub closes_at : ℕ → List Record → ℕ
closes_at fd records = count_by (λ r. is_close r.way && (r.port == fd)) records

-- each read that didn't fail answers the lesser of what was asked and of what the reads before
-- it left
abbrev pub AllAnswerLesser : ℕ → List Record → Type 0
AllAnswerLesser left [] = Unit {0}
AllAnswerLesser left (r ∷ records) =
    AnswersLesser left r × AllAnswerLesser (left - length (taken_bytes r)) records

-- one device and its records
pub record EndMatches (start now : End) (records : List Record) : Type 0 where
  -- what it had is the bytes of its reads, joined, and then what it has
  pub left : Went start.left (flat_map taken_bytes records) now.left
  pub counts : IfSome start.left (λ left. AllAnswerLesser (length left) records)
  -- what it was given is what it had been given, and then the bytes of its writes, joined
  pub given : Came start.given (flat_map given_bytes records) now.given
  -- its count of faults rose once for each of its calls that failed
  pub faults : now.faults ≡ raised_by (failures records) start.faults

-- the descriptors of ports that have a close, in the order of the records
abbrev pub ports_closed : List Record → List ℕ
ports_closed records =
    map (λ r. r.port) (filter (λ r. nat_le 3 r.port && is_close r.way) records)

-- all devices and the records, of which the first `before` are older than the start: of them the
-- closes alone were made on these devices
pub record DevicesMatch (start now : Seen) (before : ℕ) (records : List Record) : Type 0 where
  pub within : before ≤ length records
  -- each device, also that of a closed descriptor
  pub ends : (fd : ℕ)
      → EndMatches (end_at start fd) (end_at now fd) (records_at fd (drop before records))
  pub count : length now.ports ≡ length start.ports
  -- just the descriptors with a close were closed
  pub closed : (fd : ℕ) → is_shut now fd ≡ (is_shut start fd || is_closed fd records)
  pub shut : now.shut ≡ start.shut ++ ports_closed records
  -- and each port was closed once for each of its closes
  pub closes : (fd : ℕ) → 3 ≤ fd → fd < 3 + length start.ports
      → (end_at now fd).closes ≡ raised_by (closes_at fd records) (end_at start fd).closes

-- Objects in memory: which of their calls fail, and what they hold.
use Rattle.std.specs.Prelude.{ℕ, ◌==◌, List, Bool, Some, None, Contains, if◌then◌else◌}
use Rattle.edge_ports.specs.End.{End, raised, raised_if}

-- the numbers of the calls that are to fail, counted from 1; how many calls were made; and how
-- many of them failed
pub record CallCount : Type 0 where
  pub failing : List ℕ
  pub made : ℕ
  pub faults : ℕ

-- no call was made yet
abbrev pub no_calls : List ℕ → CallCount
no_calls failing = record { failing = failing; made = 0; faults = 0 }

-- the next call is among those that are to fail
abbrev pub IsNextFailing : CallCount → Type 0
IsNextFailing calls = Contains calls.failing (raised calls.made)

-- one more call, of which the fault is counted elsewhere
abbrev pub numbered : CallCount → CallCount
numbered calls = record calls { made = raised calls.made }

-- one more fault
abbrev pub faulted : CallCount → CallCount
faulted calls = record calls { faults = raised calls.faults }

-- one more call, which failed or didn't
abbrev pub counted : Bool → CallCount → CallCount
counted failed calls = record {
  failing = calls.failing;
  made = raised calls.made;
  faults = raised_if failed calls.faults;
}

-- a call on a slice of this size has a number only where the slice isn't empty
abbrev pub after_call : ℕ → Bool → CallCount → CallCount
after_call size failed calls = if size == 0 then calls else counted failed calls

-- a source: the bytes left, and its `take`s
pub record SourceState : Type 0 where
  pub left : List ℕ
  pub calls : CallCount

abbrev pub source_end : SourceState → End
source_end s =
    record { left = Some s.left; given = None; faults = s.calls.faults; closes = 0 }

-- a source that never fails: the bytes left
abbrev pub sure_end : List ℕ → End
sure_end left = record { left = Some left; given = None; faults = 0; closes = 0 }

-- a sink: the bytes given, how many it has room for in all, and its `put`s
pub record SinkState : Type 0 where
  pub given : List ℕ
  pub room : ℕ
  pub calls : CallCount

abbrev pub sink_end : SinkState → End
sink_end s =
    record { left = None; given = Some s.given; faults = s.calls.faults; closes = 0 }

-- a port: the bytes left, the bytes given and the room for them in all, how often it was closed,
-- and its `take`s and `put`s together
pub record PortState : Type 0 where
  pub left : List ℕ
  pub given : List ℕ
  pub room : ℕ
  pub closes : ℕ
  pub calls : CallCount

abbrev pub port_end : PortState → End
port_end p = record {
  left = Some p.left;
  given = Some p.given;
  faults = p.calls.faults;
  closes = p.closes;
}

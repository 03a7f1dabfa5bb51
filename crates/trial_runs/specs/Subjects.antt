-- What is tried: where its runs begin, and on which devices.
use Rattle.std.specs.Prelude.{ℕ, ◌≤◌, false, List, [], ◌∷◌, Some, None}
use Rattle.guest_words.specs.declared.limits.TheConstants.{BUDGET, HARTS}
use Rattle.guest_words.specs.declared.point.Point.{Point}
use Rattle.guest_words.specs.Image.{IsLoadList}
use Rattle.guest_words.specs.Start.{start_of}
use Rattle.guest_words.specs.State.{State}
use Rattle.edge_ports.specs.End.{End}
use Rattle.edge_ports.specs.InMemory.{sure_end}
use Rattle.edge_ports.specs.Seen.{Seen}
use Rattle.trial_runs.specs.declared.subject.Subject.{Subject}

-- a machine of it can be started
pub record CanTry (subject : Subject) : Type 0 where
  pub loads : IsLoadList subject.image.loads
  pub some : 1 ≤ subject.harts
  pub most : subject.harts ≤ HARTS
  pub least : 1 ≤ subject.budget
  pub budget : subject.budget ≤ BUDGET

-- the state in which its run with these points begins
abbrev pub start_with : Subject → List Point → State
start_with subject points = start_of subject.image points subject.harts 0 subject.budget

-- a sink that tells, and was given nothing
abbrev pub empty_sink : End
empty_sink = record { left = None; given = Some []; faults = 0; closes = 0 }

-- devices in memory: an input that never fails, two such sinks, and no port
abbrev pub devices_with : List ℕ → Seen
devices_with input = record {
  input = sure_end input;
  out = empty_sink;
  err = empty_sink;
  ports = [];
  closed = false ∷ false ∷ false ∷ [];
  shut = [];
}

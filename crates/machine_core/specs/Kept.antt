-- What the types of machines keep of their devices.
use Rattle.std.specs.Prelude.{◌≡◌, ℕ, ◌≤◌, ◌<◌, [], length}
use Rattle.edge_ports.specs.DevicesMatch.{DevicesMatch}
use Rattle.edge_ports.specs.Seen.{Seen, open_ports}
use Rattle.machine_core.specs.Inner.{Inner}

-- the devices are as the records say, and the list of closed ports has room for each open port
pub record HasDevices (told : Seen) (w : Inner) (d : Seen) (shuts : ℕ) : Type 0 where
  pub matches : DevicesMatch told d 0 w.live.state.records
  pub closes : open_ports d ≤ shuts

-- no call is open
pub record IsQuiet (told : Seen) (w : Inner) (d : Seen) (shuts : ℕ) : Type 0 where
  pub devices : HasDevices told w d shuts
  pub none : w.nest.outers ≡ []

-- a call is open
pub record IsActive (told : Seen) (w : Inner) (d : Seen) (shuts : ℕ) : Type 0 where
  pub devices : HasDevices told w d shuts
  pub called : 0 < length w.nest.outers

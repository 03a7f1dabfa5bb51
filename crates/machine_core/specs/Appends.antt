-- A machine's calls only append to its history.
use Rattle.std.specs.Prelude.{◌≡◌, List, ◌++◌}
use Rattle.run_history.specs.declared.entry.Entry.{Entry}
use Rattle.open_calls.specs.Nest.{lowest}
use Rattle.machine_core.specs.declared.machine.Next.{Next}
use Rattle.machine_core.specs.declared.machine.Next.TheVariants as next
use Rattle.machine_core.specs.Machine.{Opened}

-- the second list is the first with some entries behind it
pub record Appends (old new : List Entry) : Type 0 where
  pub more : List Entry
  pub parts : new ≡ old ++ more

-- the entries before the outermost call stay, and are the first ones of the history behind it
abbrev pub StaysBehind : {K S T P : _} → Opened → Next K S T P → Type 0
StaysBehind a (next.Active b) = lowest b.nest ≡ lowest a.nest
StaysBehind a (next.Quiet m) = Appends (lowest a.nest) m.history
StaysBehind a (next.Memory b) = b ≡ a

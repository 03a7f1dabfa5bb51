-- What a sink is given of a list of symbols, some lines at a time.
use Rattle.std.specs.Prelude.{◌≡◌, ℕ, List, ◌++◌, Result, Ok, Err}
use Rattle.edge_ports.specs.End.{End, Came, Rose}
use Rattle.elf_symbols.specs.declared.symbol.Symbol.{Symbol}
use Rattle.rescue_report.specs.declared.list_fault.ListFault.{ListFault}
use Rattle.rescue_report.specs.declared.list_fault.ListFault.TheVariants.{Lost, Memory}
use Rattle.rescue_report.specs.List.{IsListOf}

-- a list of these symbols came
pub record CameList (symbols : List Symbol) (old new : End) : Type 0 where
  pub text : List ℕ
  pub lists : IsListOf symbols text
  pub came : Came old.given text new.given

-- the front of a list of these symbols came
pub record BeganList (symbols : List Symbol) (old new : End) : Type 0 where
  pub front : List ℕ
  pub rest : List ℕ
  pub lists : IsListOf symbols (front ++ rest)
  pub came : Came old.given front new.given

-- and then the sink failed
pub record BrokeList (symbols : List Symbol) (old new : End) : Type 0 where
  pub began : BeganList symbols old new
  pub counts : Rose old.faults new.faults

-- a list that isn't put as a whole; where memory is wanting, nothing of it came
abbrev pub StopsList : List Symbol → ListFault → End → End → Type 0
StopsList symbols Lost old new = BrokeList symbols old new
StopsList symbols Memory old new = new ≡ old

-- what the puts of a list come to
abbrev pub PutsLines : {T : Type 0} → List Symbol → Result T ListFault → End → End → Type 0
PutsLines symbols (Ok done) old new = CameList symbols old new
PutsLines symbols (Err fault) old new = StopsList symbols fault old new

-- the front of a text came, and the rest of it is kept
pub record PutsFront (text rest : List ℕ) (old new : End) : Type 0 where
  pub front : List ℕ
  pub whole : text ≡ front ++ rest
  pub came : Came old.given front new.given
  pub faults : new.faults ≡ old.faults

-- a front of a text came, none maybe, and then the sink failed
pub record BreaksFront (text : List ℕ) (old new : End) : Type 0 where
  pub front : List ℕ
  pub rest : List ℕ
  pub whole : text ≡ front ++ rest
  pub came : Came old.given front new.given
  pub counts : Rose old.faults new.faults

-- What a check of rules answers.
use Rattle.std.specs.Prelude.{◌≡◌, Option, Some, None, Result, MatchResult}
use Rattle.rescue_config.specs.declared.points_fault.PointsFault.{PointsFault}
use Rattle.rescue_config.specs.declared.point_fault.PointFault.TheVariants.{Toml}
use Rattle.rescue_config.specs.declared.points_fault.PointsFault.TheVariants.{Points, Memory}
use Rattle.toml.specs.Data.{Members}
use Rattle.rescue_config.specs.Document.{Broken}

-- a refusal names the first broken rule and its place; want of memory says nothing of the rules
abbrev pub IsCause : PointsFault → Option Broken → Type 0
IsCause (Points fault place) broken = broken ≡ Some (fault, place)
IsCause Memory broken = Unit {0}

-- a check is Ok where no rule is broken, and else answers the first broken one
abbrev pub Tells : {T : Type 0} → Result T PointsFault → Option Broken → Type 0
Tells result broken = MatchResult result (λ _. broken ≡ None) (λ fault. IsCause fault broken)

-- the fault of bytes that are no document
abbrev pub unparsed : Option Members → Option Broken
unparsed None = Some (Toml, None)
unparsed (Some file) = None

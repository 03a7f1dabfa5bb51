-- Why a command isn't done: what it comes to, and the lines on a rescue file that breaks a rule.
use Rattle.std.specs.Prelude.{ℕ, List, Option, Some, None}
use Rattle.guest_words.specs.declared.image.Span.{Span}
use Rattle.config_hints.specs.Explanation.{fault_explanation_of}
use Rattle.rescue_config.specs.declared.point_fault.PointFault.{PointFault}
use Rattle.rescue_run.specs.declared.outcome.Outcome.{Outcome}
use Rattle.rescue_run.specs.declared.outcome.Outcome.TheVariants.{Points, Memory}
use Rattle.rescue_run.specs.declared.refusal.Refusal.{Refusal}

-- an outcome without lines of its own
abbrev pub plain : Outcome → Refusal
plain outcome = record { outcome = outcome; lines = None }

-- memory was wanting
abbrev pub wanting : Refusal
wanting = plain Memory

-- the rule that a rescue file of these bytes breaks, for a program with these executable ranges
abbrev pub broken_points : List ℕ → List Span → PointFault → Option ℕ → Refusal
broken_points file text fault place = record {
  outcome = Points fault place;
  lines = Some (fault_explanation_of file text fault place);
}

-- The ranges of a command's numbers.
use Rattle.std.specs.Prelude.{ℕ, ◌≤◌, ⊤}
use Rattle.guest_words.specs.declared.limits.TheConstants.{BUDGET, HARTS}
use Rattle.program_words.specs.declared.command.Command.{Command}
use Rattle.program_words.specs.declared.command.Command.TheVariants.{Run, Alone, Load, Try}
use Rattle.program_words.specs.declared.limits.TheConstants.{LOADS}

-- harts and budget are within their limits
abbrev pub AreLimits : ℕ → ℕ → Type 0
AreLimits harts budget = (1 ≤ harts) × (harts ≤ HARTS) × (1 ≤ budget) × (budget ≤ BUDGET)

-- harts, budget and the number of a load are within their limits
abbrev pub IsInRange : Command → Type 0
IsInRange (Run points harts budget save program ports) = AreLimits harts budget
IsInRange (Alone points harts budget seed save program ports) = AreLimits harts budget
IsInRange (Load number) = (1 ≤ number) × (number ≤ LOADS)
IsInRange (Try harts budget seed returns program input) = AreLimits harts budget
IsInRange command = ⊤

-- The rows of each command that `clap` takes fit it.
use Rattle.std.proofs.Common.{◌≡◌, ◌^◌, ◌-◌, pos, ap, refl, codes, lit<}
use Rattle.clap.specs.Built.{IsParsedFrom}
use Rattle.clap.specs.Matches.{found_of}
use Rattle.clap.specs.Walk.{rows_of}
use Rattle.clap.specs.Simple.{App, app_of}
use Rattle.clap.specs.declared.builder.command.Command.{Command}
use Rattle.clap.specs.declared.parser.matches.ArgMatches.{ArgMatches}
use Rattle.guest_words.specs.declared.limits.TheConstants.{BUDGET, HARTS}
use Rattle.program_words.specs.declared.command_kind.CommandKind.{CommandKind}
use Rattle.program_words.specs.declared.command_kind.CommandKind.TheVariants.{Run, Alone, List, Load, Audit, Try, Help, Version}
use Rattle.program_words.specs.declared.limits.TheConstants.{LOADS}
use Rattle.program_words.specs.Fits.{Fit}
use Rattle.program_words.specs.Table.{app_named, load_rule, number_rule, required_rule, returns_rule, seed_rule}
use Rattle.program_words.proofs.Parsed.{has_number, has_signed, has_text}

pub fits : (kind : CommandKind) (c : Command) (m : ArgMatches) → app_of c ≡ app_named kind → IsParsedFrom c m → Fit kind (rows_of (found_of m))
fits Run c m is p =
    let top = ap (λ (a : App). a.top) is in (
      has_text c m p _ top refl 5 (required_rule (codes "program")) (lit< tt) refl refl refl refl refl refl,
      (
        has_number c m p _ top refl 1 (number_rule (codes "harts") 1 HARTS) (lit< tt) refl refl 1 HARTS refl,
        has_number c m p _ top refl 2 (number_rule (codes "budget") 1 BUDGET) (lit< tt) refl refl 1 BUDGET refl,
      ),
    )
fits Alone c m is p =
    let top = ap (λ (a : App). a.top) is in (
      has_text c m p _ top refl 6 (required_rule (codes "program")) (lit< tt) refl refl refl refl refl refl,
      (
        has_number c m p _ top refl 1 (number_rule (codes "harts") 1 HARTS) (lit< tt) refl refl 1 HARTS refl,
        has_number c m p _ top refl 2 (number_rule (codes "budget") 1 BUDGET) (lit< tt) refl refl 1 BUDGET refl,
      ),
      has_number c m p _ top refl 5 seed_rule (lit< tt) refl refl 0 (2 ^ 64 - 1) refl,
    )
fits List c m is p = has_text c m p _ (ap (λ (a : App). a.top) is) refl 0 (required_rule (codes "program")) (lit< tt) refl refl refl refl refl refl
fits Load c m is p =
    let top = ap (λ (a : App). a.top) is in (
      has_text c m p _ top refl 0 load_rule (lit< tt) refl refl refl refl refl refl,
      has_number c m p _ top refl 0 load_rule (lit< tt) refl refl 1 LOADS refl,
    )
fits Audit c m is p =
    let top = ap (λ (a : App). a.top) is in (
      has_text c m p _ top refl 2 (required_rule (codes "history")) (lit< tt) refl refl refl refl refl refl,
      has_text c m p _ top refl 3 (required_rule (codes "program")) (lit< tt) refl refl refl refl refl refl,
      has_text c m p _ top refl 4 (required_rule (codes "input")) (lit< tt) refl refl refl refl refl refl,
      has_text c m p _ top refl 5 (required_rule (codes "out")) (lit< tt) refl refl refl refl refl refl,
      has_text c m p _ top refl 6 (required_rule (codes "err")) (lit< tt) refl refl refl refl refl refl,
    )
fits Try c m is p =
    let top = ap (λ (a : App). a.top) is in (
      has_text c m p _ top refl 5 (required_rule (codes "program")) (lit< tt) refl refl refl refl refl refl,
      has_text c m p _ top refl 6 (required_rule (codes "input")) (lit< tt) refl refl refl refl refl refl,
      (
        has_number c m p _ top refl 0 (number_rule (codes "harts") 1 HARTS) (lit< tt) refl refl 1 HARTS refl,
        has_number c m p _ top refl 1 (number_rule (codes "budget") 1 BUDGET) (lit< tt) refl refl 1 BUDGET refl,
      ),
      has_number c m p _ top refl 2 seed_rule (lit< tt) refl refl 0 (2 ^ 64 - 1) refl,
      has_signed c m p _ top refl 3 returns_rule (lit< tt) refl refl (2 ^ 63 - 1) (pos (2 ^ 63 - 1)) refl,
    )
fits Help c m is p = tt
fits Version c m is p = tt

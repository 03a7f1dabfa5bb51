use Rattle.std.proofs.Common.{List, subst, rules, SFits}
use Rattle.std.proofs.lemmas.Int.{to_z-of_z}
use mir.Syntax.{w64}
use Rattle.std.specs.Prelude.{ℤ}
use Rattle.elf_symbols.specs.declared.symbol.Symbol.{Symbol}
use Rattle.guest_words.specs.Word.{word_of}
use Rattle.trial_runs.specs.Trials.{AreTries}
use Rattle.rescue_run.specs.Tries.{PutsTries}
use Rattle.rescue_run.proofs.Trials.{tries_told}
use Rattle.rescue_run.proofs.trying.put_try.Goals as goal

pub returns-in-Ok : goal.returns-in-Ok
returns-in-Ok g c =
    let end = g.R.Sink.end in
    let t = c.args.task.now in
    let same = c.symbols-symbols.ensures.list in
    let signed : SFits w64 t.returns = search rules in
    let are = subst (λ (r : ℤ). AreTries t.subject c.symbols-symbols.result (word_of r) c.in-Ok.tries) (to_z-of_z w64 t.returns signed) c.in-Ok.ensures.tries in record {
      told = tries_told t c.in-Ok.tries c.put_tries.result (end c.args.report.now) (end c.put_tries.new.report)
          (subst (λ (s : List Symbol). AreTries t.subject s (word_of t.returns) c.in-Ok.tries) same are)
          (subst (λ (s : List Symbol). PutsTries s c.in-Ok.tries c.put_tries.result (end c.args.report.now) (end c.put_tries.new.report)) same c.put_tries.ensures.puts);
    }

use Rattle.std.proofs.Common.{◌∙◌}
use Rattle.std.specs.Str.Parse.{ParsesUnsigned, ExplainsUnsignedError, HasUnsignedDigitsIfOk}
use Rattle.clap.specs.Words.{found_of}
use Rattle.clap.proofs.WalkLemmas.{one_text-rows}
use Rattle.program_words.proofs.Numbers.{number_read}
use Rattle.program_words.proofs.values.number_of.Goals as goal

pub returns : goal.returns
returns c =
    let found = one_text-rows (found_of c.args.matches.now) c.args.id.now in
    record {
      value = number_read _
          (λ bs r. ParsesUnsigned 64 10 bs r × ExplainsUnsignedError 10 bs r × HasUnsignedDigitsIfOk bs r)
          (λ t x g. g.0) _ c.get_one.result c.requires.read
          (λ e. c.get_one.ensures.none (found ∙ e)) (λ t e. c.get_one.ensures.value t (found ∙ e));
    }

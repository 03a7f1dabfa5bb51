use Rattle.std.proofs.Common.{◌∙◌}
use Rattle.std.specs.Int.{w64}
use Rattle.std.specs.Str.Parse.{ParsesSigned, ExplainsSignedError, HasSignedDigitsIfOk}
use Rattle.clap.specs.Words.{found_of}
use Rattle.clap.proofs.WalkLemmas.{one_text-rows}
use Rattle.program_words.proofs.Numbers.{signed_read}
use Rattle.program_words.proofs.values.signed_of.Goals as goal

pub returns : goal.returns
returns c =
    let found = one_text-rows (found_of c.args.matches.now) c.args.id.now in
    record {
      value = signed_read _
          (λ bs r. ParsesSigned w64 10 bs r × ExplainsSignedError 10 bs r × HasSignedDigitsIfOk bs r)
          (λ t x g. g.0) _ c.get_one.result c.requires.read
          (λ e. c.get_one.ensures.none (found ∙ e)) (λ t e. c.get_one.ensures.value t (found ∙ e));
    }

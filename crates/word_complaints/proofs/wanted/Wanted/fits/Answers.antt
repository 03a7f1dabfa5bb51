use Rattle.std.proofs.Common.{◌∙◌, ap, sym}
use Rattle.word_complaints.specs.Options.{fits}
use Rattle.word_complaints.specs.declared.wanted.Wanted.{Wanted}
use Rattle.word_complaints.proofs.Numbers.{signed_parsed}
use Rattle.word_complaints.proofs.wanted.Wanted.fits.Goals as goal

pub returns-in-Signed : goal.returns-in-Signed
returns-in-Signed c = record {
  value = c.is_ok.ensures.value ∙ (signed_parsed c.args.text.now c.parse.result c.parse.ensures.value.0
      ∙ ap (λ (w : Wanted). fits w c.args.text.now) (sym c.in-Signed.is));
}

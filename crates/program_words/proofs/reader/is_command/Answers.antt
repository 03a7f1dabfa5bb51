use Rattle.std.proofs.Common.{◌≡◌, ◌∙◌, ap, sym, rules}
use Rattle.std.specs.Prelude.{Some, option_map, slice_get, string_bytes}
use Rattle.std.proofs.lemmas.Option.{slice_get-map}
use Rattle.program_words.specs.Words.{texts}
use Rattle.program_words.proofs.reader.is_command.Goals as goal

pub returns-in-Some : goal.returns-in-Some
returns-in-Some c =
    let first : slice_get (texts c.args.words.now) 0 ≡ Some c.as_str.result.now =
    slice_get-map string_bytes c.args.words.now 0 ∙ (ap (option_map string_bytes) (sym c.in-Some.ensures.value) ∙ ap Some (sym c.as_str.ensures.value)) in
    record { value = (λ t. (let same : c.as_str.result.now ≡ c.args.name.now = search rules in first ∙ ap Some same), λ e. (let same : c.as_str.result.now ≡ c.args.name.now = cc in search rules)) }

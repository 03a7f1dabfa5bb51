use Rattle.std.proofs.Common.{◌≡◌, ◌∙◌, List, ℕ, [], Option, Some, ap, sym}
use Rattle.std.specs.Prelude.{option_map, unwrap_or}
use Rattle.std.specs.Borrow.{Bor}
use Rattle.std.proofs.lemmas.Result.{IfOk-weaker}
use Rattle.clap.specs.Words.{first_of, found_of, rows_of}
use Rattle.clap.proofs.CallerLemmas.{some_of_text}
use Rattle.clap.proofs.WalkLemmas.{first_value-rows}
use Rattle.program_words.proofs.values.text_of.Goals as goal

pub unwrap-requires : goal.unwrap-requires
unwrap-requires c =
    let found = first_value-rows (found_of c.args.matches.now) c.args.id.now in
    some_of_text (λ s. s.now) c.get_str.result _ (c.get_str.ensures ∙ found) c.requires.given

pub returns : goal.returns
returns c =
    let found = first_value-rows (found_of c.args.matches.now) c.args.id.now in
    let text : Some c.unwrap.result.now ≡ first_of c.args.id.now (rows_of (found_of c.args.matches.now)) =
    ap (option_map (λ (s : Bor (List ℕ)). s.now)) (sym c.unwrap.ensures) ∙ (c.get_str.ensures ∙ found) in
    record {
      ok = IfOk-weaker c.name.result _ _ (λ n h. h ∙ ap (λ (o : Option (List ℕ)). unwrap_or o []) text) c.name.ensures.ok;
    }

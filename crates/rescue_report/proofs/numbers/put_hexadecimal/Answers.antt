use Rattle.std.proofs.Common.{◌++◌, ◌-◌, ◌^◌, [], false, ap, subst, ◌∙◌, string_bytes}
use Rattle.std.specs.Option.{option_map}
use Rattle.std.specs.Fmt.{AppendsText, format_spec, padded_integral, styled_digits_output}
use Rattle.rescue_report.proofs.DigitTexts.{padded_integral-hexadecimal}
use Rattle.rescue_report.proofs.numbers.put_hexadecimal.Goals as goal

pub returns : goal.returns
returns c =
    let old = string_bytes c.args.text.now in
    let new = string_bytes c.write.new.self in
    let with_options = subst (λ s. AppendsText old new (styled_digits_output c.in_radix.result s)) c.laid_out.ensures c.in_ok-write.ensures.bytes in
    let with_digits = subst (λ o. AppendsText old new (option_map (padded_integral (format_spec 32 0 4 16 (2 ^ 64 - 1)) false []) o)) c.in_radix.ensures with_options in
    record { ok = with_digits ∙ ap (λ text. old ++ text) (padded_integral-hexadecimal c.args.word) }

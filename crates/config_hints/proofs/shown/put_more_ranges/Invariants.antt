use Rattle.std.proofs.Common.{◌≡◌, ◌++◌, drop, string_bytes}
use Rattle.config_hints.specs.Shown.{more_ranges}
use Rattle.config_hints.proofs.shown.put_more_ranges.Given as goal

abbrev pub invariant-loop-span : goal.invariant-loop-span
invariant-loop-span l =
    string_bytes l.text ++ more_ranges (drop l.span-index l.fn.spans)
    ≡ string_bytes l.fn.text ++ more_ranges l.fn.spans

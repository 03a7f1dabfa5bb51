use Rattle.std.proofs.Common.{◌≡◌, ◌++◌, drop, map, string_bytes}
use Rattle.config_hints.specs.Shown.{printed}
use Rattle.rescue_run.proofs.shown.put_printed.Given as goal

abbrev pub invariant-loop-byte : goal.invariant-loop-byte
invariant-loop-byte l =
    string_bytes l.text ++ map printed (drop l.byte-index l.fn.bytes)
    ≡ string_bytes l.fn.text ++ map printed l.fn.bytes

use Rattle.std.proofs.Common.{sym, arith}
use Rattle.std.proofs.lemmas.List.{length-take-le, take_all}
use Rattle.rescue_run.proofs.shown.front.Goals as goal

pub slice_bounds-result-end : goal.slice_bounds-result-end
slice_bounds-result-end c = sym (length-take-le 60 c.args.name.now (omega arith))

pub returns-then-name-le-NAME_BYTES : goal.returns-then-name-le-NAME_BYTES
returns-then-name-le-NAME_BYTES c = sym (take_all 60 c.args.name.now (omega arith))

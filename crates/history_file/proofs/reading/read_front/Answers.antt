use Rattle.std.proofs.Common.{arith}
use Rattle.std.proofs.lemmas.Result.{err_from_is_err_and}
use Rattle.history_file.proofs.FileLaws.{begins, rest_within, front_first, front_only, front_refused}
use Rattle.history_file.proofs.PlaceLaws.{inside_front, never_rest}
use Rattle.history_file.proofs.reading.read_front.Goals as goal

pub returns-in_err-head-clause-only : goal.returns-in_err-head-clause-only
returns-in_err-head-clause-only c =
    let p = err_from_is_err_and c.from_residual.result c.from_residual.ensures.1 in
    λ head entries rest spelled is. rw (p.1, p.2) (front_refused c.in_err-head.field-0.0 c.args.bytes.now head entries rest spelled is c.in_err-head.ensures)

pub overflow_sub-size : goal.overflow_sub-size
overflow_sub-size c =
    rest_within c.args.bytes.now (c.in_ok-head.head, c.in_ok-head.history.entries) c.in_ok-head.rest.now (λ i. omega (arith, c.type_inv.bytes i)) c.in_ok-head.ensures

pub returns-clause-found : goal.returns-clause-found
returns-clause-found c =
    begins c.args.bytes.now (c.in_ok-head.head, c.in_ok-head.history.entries) c.in_ok-head.rest.now (λ i. omega (arith, c.type_inv.bytes i)) c.in_ok-head.ensures

pub returns-clause-only : goal.returns-clause-only
returns-clause-only c = λ head entries rest spelled is.
    front_only c.args.bytes.now head entries rest (c.in_ok-head.head, c.in_ok-head.history.entries) c.in_ok-head.rest.now spelled is c.in_ok-head.ensures

pub returns-clause-first : goal.returns-clause-first
returns-clause-first c =
    front_first c.args.bytes.now (c.in_ok-head.head, c.in_ok-head.history.entries) c.in_ok-head.rest.now (λ i. omega (arith, c.type_inv.bytes i)) c.in_ok-head.ensures

pub returns-in_err-head-clause-inside : goal.returns-in_err-head-clause-inside
returns-in_err-head-clause-inside c =
    let p = err_from_is_err_and c.from_residual.result c.from_residual.ensures.1 in
    rw (p.1, p.2) (inside_front c.args.bytes.now c.in_err-head.field-0.0 c.in_err-head.ensures)

pub returns-in_err-head-clause-never : goal.returns-in_err-head-clause-never
returns-in_err-head-clause-never c =
    let p = err_from_is_err_and c.from_residual.result c.from_residual.ensures.1 in
    rw (p.1, p.2) (never_rest c.args.bytes.now c.in_err-head.field-0.0 c.in_err-head.ensures)

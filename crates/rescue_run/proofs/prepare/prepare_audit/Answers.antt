use Rattle.std.proofs.lemmas.Result.{err_from_is_err_and}
use Rattle.rescue_run.specs.ReadsFiles.{further_bytes}
use Rattle.rescue_run.specs.Words.{further_of}
use Rattle.rescue_run.proofs.Furthers.{audits_done, audits_refused, audits_stopped, audits_wanting, follows_all, follows_stopped}
use Rattle.rescue_run.proofs.Shelving.{follows_both}
use Rattle.rescue_run.proofs.prepare.prepare_audit.Goals as goal

pub returns-in_err-room-clause-audits : goal.returns-in_err-room-clause-audits
returns-in_err-room-clause-audits g c =
    let p = err_from_is_err_and c.from_residual.result c.from_residual.ensures.1 in
    rw (p.1, p.2) (audits_wanting c.args.files c.args.names.now (g.F.Shelf.seen c.args.shelf.now) c.in_err-room.field-0.0 c.in_err-room.ensures.cause)

pub returns-in_err-loaded-clause-audits : goal.returns-in_err-loaded-clause-audits
returns-in_err-loaded-clause-audits g c =
    let seen = g.F.Shelf.seen in
    let p = err_from_is_err_and c.from_residual-in_err-loaded.result c.from_residual-in_err-loaded.ensures.1 in
    rw (p.1, p.2) (audits_refused c.args.files c.args.names.now (seen c.args.shelf.now) (seen c.load_files.new.shelf) c.in_err-loaded.field-0.0
    c.in_err-loaded.ensures.reads)

pub returns-in_err-further-clause-audits : goal.returns-in_err-further-clause-audits
returns-in_err-further-clause-audits g c =
    let seen = g.F.Shelf.seen in
    let p = err_from_is_err_and c.from_residual-in_err-further.result c.from_residual-in_err-further.ensures.1 in
    rw (p.1, p.2) (audits_stopped c.args.files c.args.names.now (seen c.args.shelf.now) (seen c.load_files.new.shelf) (seen c.load_further.new.shelf)
    c.in_ok-loaded.loaded c.in_err-further.field-0.0 c.in_ok-loaded.ensures.reads c.in_ok-loaded.ensures.follows c.in_err-further.ensures.reads)

pub returns-in_err-further-clause-follows : goal.returns-in_err-further-clause-follows
returns-in_err-further-clause-follows g c =
    let seen = g.F.Shelf.seen in
    follows_both (seen c.args.shelf.now) (seen c.load_files.new.shelf) (seen c.load_further.new.shelf) c.in_ok-loaded.ensures.follows
    (follows_stopped (further_of c.args.names.now) (seen c.load_files.new.shelf) (seen c.load_further.new.shelf) c.in_err-further.field-0.0 c.in_err-further.ensures.reads)

pub returns-clause-audits : goal.returns-clause-audits
returns-clause-audits g c =
    let seen = g.F.Shelf.seen in
    audits_done c.args.files c.args.names.now (seen c.args.shelf.now) (seen c.load_files.new.shelf) (seen c.load_further.new.shelf)
    c.in_ok-loaded.loaded c.in_ok-further.further c.in_ok-loaded.ensures.reads c.in_ok-loaded.ensures.follows c.in_ok-further.ensures.reads

pub returns-clause-follows : goal.returns-clause-follows
returns-clause-follows g c =
    let seen = g.F.Shelf.seen in
    follows_both (seen c.args.shelf.now) (seen c.load_files.new.shelf) (seen c.load_further.new.shelf) c.in_ok-loaded.ensures.follows
    (follows_all (further_of c.args.names.now) (seen c.load_files.new.shelf) (seen c.load_further.new.shelf) (further_bytes c.in_ok-further.further)
    c.in_ok-further.ensures.reads)

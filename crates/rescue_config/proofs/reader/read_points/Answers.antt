use Rattle.std.proofs.Common.{◌≡◌, rules, List, [], sym, ap, subst, ◌∙◌}
use Rattle.std.specs.Prelude.{Some, Ok, IfOk}
use Rattle.elf_symbols.specs.declared.symbol.Symbol.{Symbol}
use Rattle.toml.specs.View.{items_view, table_view}
use Rattle.rescue_config.specs.Document.{document_of, file_rules, points_rules, first_at_file, first_at_point, points_of}
use Rattle.rescue_config.specs.Tells.{Tells, unparsed}
use Rattle.rescue_config.proofs.Results.{err_told, points_of-unparsed, points_of-file, points_of-points, points_told, refused, accepted}
use Rattle.rescue_config.proofs.reader.read_points.Goals as goal

pub returns-in_err-file-clause-cause : goal.returns-in_err-file-clause-cause
returns-in_err-file-clause-cause c = λ fault place is.
    let broken = unparsed (document_of c.args.bytes.now) in
    let tells : Tells c.from_residual.result broken = search (rules, c.in_err-file.ensures.rules) in
    points_of-unparsed c.args.bytes.now c.args.symbols.now c.args.text.now (fault, place) (err_told c.from_residual.result broken fault place tells is)

pub returns-in_err-tables-clause-cause : goal.returns-in_err-tables-clause-cause
returns-in_err-tables-clause-cause c = λ fault place is.
    let file = table_view c.in_ok-file.file in
    let broken = first_at_file (file_rules file) in
    let tells : Tells c.from_residual-in_err-tables.result broken = search (rules, c.in_err-tables.ensures.rules) in
    points_of-file c.args.bytes.now c.args.symbols.now c.args.text.now file (fault, place) c.in_ok-file.ensures.file (err_told c.from_residual-in_err-tables.result broken fault place tells is)

pub returns-clause-ok : goal.returns-clause-ok
returns-clause-ok c =
    let symbols = c.in_ok-symbols.symbols in
    let P : List Symbol → Type 0 = λ s. IfOk c.read_tables.result (λ points. points_of c.args.bytes.now s c.args.text.now ≡ Ok points) in
    subst P c.in_ok-symbols.ensures (points_told c.args.bytes.now symbols c.args.text.now (table_view c.in_ok-file.file) c.in_ok-tables.tables.version (items_view c.in_ok-tables.tables.values.now) c.read_tables.result c.in_ok-file.ensures.file c.in_ok-tables.ensures.rules c.in_ok-tables.ensures.version c.in_ok-tables.ensures.values c.read_tables.ensures.rules c.read_tables.ensures.list)

pub returns-clause-cause : goal.returns-clause-cause
returns-clause-cause c = λ fault place is.
    let symbols = c.in_ok-symbols.symbols in
    let items = items_view c.in_ok-tables.tables.values.now in
    let broken = first_at_point (points_rules c.in_ok-tables.tables.version symbols c.args.text.now [] items) in
    let found = points_of-points c.args.bytes.now symbols c.args.text.now (table_view c.in_ok-file.file) c.in_ok-tables.tables.version items (Some (fault, place)) c.in_ok-file.ensures.file c.in_ok-tables.ensures.rules c.in_ok-tables.ensures.version c.in_ok-tables.ensures.values (err_told c.read_tables.result broken fault place c.read_tables.ensures.rules is) in
    ap (λ s. points_of c.args.bytes.now s c.args.text.now) (sym c.in_ok-symbols.ensures) ∙ found

pub returns-in_err-file-clause-refuses : goal.returns-in_err-file-clause-refuses
returns-in_err-file-clause-refuses c =
    refused c.from_residual.result (points_of c.args.bytes.now c.args.symbols.now c.args.text.now) (search rules) (returns-in_err-file-clause-cause c)

pub returns-in_err-file-clause-accepts : goal.returns-in_err-file-clause-accepts
returns-in_err-file-clause-accepts c =
    accepted c.from_residual.result (points_of c.args.bytes.now c.args.symbols.now c.args.text.now) (returns-in_err-file-clause-cause c)

pub returns-in_err-tables-clause-refuses : goal.returns-in_err-tables-clause-refuses
returns-in_err-tables-clause-refuses c =
    refused c.from_residual-in_err-tables.result (points_of c.args.bytes.now c.args.symbols.now c.args.text.now) (search rules) (returns-in_err-tables-clause-cause c)

pub returns-in_err-tables-clause-accepts : goal.returns-in_err-tables-clause-accepts
returns-in_err-tables-clause-accepts c =
    accepted c.from_residual-in_err-tables.result (points_of c.args.bytes.now c.args.symbols.now c.args.text.now) (returns-in_err-tables-clause-cause c)

pub returns-clause-refuses : goal.returns-clause-refuses
returns-clause-refuses c =
    refused c.read_tables.result (points_of c.args.bytes.now c.args.symbols.now c.args.text.now) (returns-clause-ok c) (returns-clause-cause c)

pub returns-clause-accepts : goal.returns-clause-accepts
returns-clause-accepts c =
    accepted c.read_tables.result (points_of c.args.bytes.now c.args.symbols.now c.args.text.now) (returns-clause-cause c)

use Rattle.std.proofs.Common.{◌≡◌, ◌≤◌, ℕ, List, [], ◌∷◌, ◌++◌, sym, ◌∙◌, ap, subst}
use Rattle.edge_ports.specs.Asked.{Asked, Loaded}
use Rattle.edge_ports.specs.Shelves.{Loads, ShelfState, shelf_of}
use Rattle.edge_ports.specs.contracts.memory_shelf.MemoryShelf as M
use Rattle.edge_ports.proofs.Shelving.{loaded, loads_in_memory}
use Rattle.edge_ports.proofs.memory_shelf.MemoryShelfShelf.load.Goals as goal

pub returns-clause-loads : goal.returns-clause-loads
returns-clause-loads c =
    let s : ShelfState = c.args.self.now in
    let name : List ℕ = c.args.name.now in
    let result = c.read-answer.result in
    let read = c.read-answer.ensures in
    let more : ShelfState → ShelfState = λ t. record t { asked = t.asked ++ Loaded name result ∷ [] } in
    let log : (asked : List Asked) → ShelfState = λ asked. record (M.the_view c.self.inside) { asked = asked } in
    let now = ap log c.then-self-inside.ensures.more ∙ ap more (c.self.view_is ∙ read.counts) in
    subst (λ (t : ShelfState). Loads (shelf_of s) (shelf_of t) name c.args.limit result) (sym now)
    (loads_in_memory s name c.args.limit result read.file read.within read.below read.long (subst (λ (t : ShelfState). s.calls.faults ≤ t.calls.faults) read.counts read.later) (subst (λ (t : ShelfState). s.longs ≤ t.longs) read.counts read.longs_later))

use Rattle.std.proofs.Common.{◌≡◌, ◌≤◌, ℕ, List, [], ◌∷◌, ◌++◌, sym, ◌∙◌, ap, subst}
use Rattle.std.specs.Result.{result_err}
use Rattle.edge_ports.specs.Asked.{Asked, Saved}
use Rattle.edge_ports.specs.Shelves.{Saves, ShelfState, shelf_of}
use Rattle.edge_ports.specs.contracts.memory_shelf.MemoryShelf as M
use Rattle.edge_ports.proofs.Shelving.{saved, saves_in_memory}
use Rattle.edge_ports.proofs.memory_shelf.MemoryShelfShelf.save.Goals as goal

pub returns-clause-saves : goal.returns-clause-saves
returns-clause-saves c =
    let s : ShelfState = c.args.self.now in
    let name : List ℕ = c.args.name.now in
    let bytes : List ℕ = c.args.bytes.now in
    let result = c.write-answer.result in
    let did = c.write-answer.ensures in
    let more : ShelfState → ShelfState = λ t. record t { asked = t.asked ++ Saved name bytes (result_err result) ∷ [] } in
    let log : (asked : List Asked) → ShelfState = λ asked. record (M.the_view c.self.inside) { asked = asked } in
    let now = ap log c.then-self-inside.ensures.more ∙ ap more (c.self.view_is ∙ did.counts) in
    subst (λ (t : ShelfState). Saves (shelf_of s) (shelf_of t) name bytes result) (sym now)
    (saves_in_memory (Unit {0}) s name bytes c.write-answer.new.self.files result did.ok did.err did.short (subst (λ (t : ShelfState). s.save_faults ≤ t.save_faults) did.counts did.later))

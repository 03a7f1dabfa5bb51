use Rattle.std.proofs.Common.{subst, sym, arith}
use Rattle.guest_words.specs.CallChanges.{facts_of}
use Rattle.guest_memory.specs.Kept.{IsHeap}
use Rattle.hart_step.specs.Live.{Live}
use Rattle.hart_step.specs.SlotActs.{FitsIn}
use Rattle.hart_step.proofs.Replies.{break_heap, break_notes, brought, map_notes, map_rights, only_pages, pages_else, unmap_notes, unmap_place, OnlyPages}
use Rattle.hart_step.proofs.engine.Engine.give_wanting.Goals as goal

pub map_pages-requires-clause-place : goal.map_pages-requires-clause-place
map_pages-requires-clause-place c = (subst (FitsIn c.args.self.now.state) c.in-Map.is c.requires.fits).0

pub map_pages-requires-clause-free : goal.map_pages-requires-clause-free
map_pages-requires-clause-free c = (subst (FitsIn c.args.self.now.state) c.in-Map.is c.requires.fits).1

pub map_pages-requires-clause-readable : goal.map_pages-requires-clause-readable
map_pages-requires-clause-readable c =
    let s = c.args.self.now.state in
    let call = c.args.request.now in
    let has = brought s c.args.hart call c.args.reply _ c.requires.reply c.in-Map.is in
    (map_rights s c.args.hart call c.in-Map.place c.in-Map.count c.in-Map.rights has).0

pub map_pages-requires-clause-data : goal.map_pages-requires-clause-data
map_pages-requires-clause-data c =
    let s = c.args.self.now.state in
    let call = c.args.request.now in
    let has = brought s c.args.hart call c.args.reply _ c.requires.reply c.in-Map.is in
    (map_rights s c.args.hart call c.in-Map.place c.in-Map.count c.in-Map.rights has).1

pub unmap_pages-requires-clause-place : goal.unmap_pages-requires-clause-place
unmap_pages-requires-clause-place c =
    let s = c.args.self.now.state in
    let call = c.args.request.now in
    let has = brought s c.args.hart call c.args.reply _ c.requires.reply c.in-Unmap.is in
    unmap_place s c.args.hart call c.in-Unmap.place c.in-Unmap.count has

pub move_break-requires-clause-low : goal.move_break-requires-clause-low
move_break-requires-clause-low c =
    let s = c.args.self.now.state in
    let call = c.args.request.now in
    let has = brought s c.args.hart call c.args.reply _ c.requires.reply c.in-Break.is in
    let inner : IsHeap c.self.inside.guest.memory.low c.self.inside.guest.memory.brk = rw (← c.self-inside.view_is) c.low-low.ensures.heap in
    let heap = subst (λ (v : Live). IsHeap v.state.low v.state.brk) c.self.view_is inner in
    (break_heap s c.args.hart call c.in-Break.to has heap.from heap.upto).0

pub move_break-requires-clause-high : goal.move_break-requires-clause-high
move_break-requires-clause-high c =
    let s = c.args.self.now.state in
    let call = c.args.request.now in
    let has = brought s c.args.hart call c.args.reply _ c.requires.reply c.in-Break.is in
    let inner : IsHeap c.self.inside.guest.memory.low c.self.inside.guest.memory.brk = rw (← c.self-inside.view_is) c.low-low.ensures.heap in
    let heap = subst (λ (v : Live). IsHeap v.state.low v.state.brk) c.self.view_is inner in
    (break_heap s c.args.hart call c.in-Break.to has heap.from heap.upto).1

pub move_break-requires-clause-room : goal.move_break-requires-clause-room
move_break-requires-clause-room c = λ noted.
    let s = c.args.self.now.state in
    let call = c.args.request.now in
    let has = brought s c.args.hart call c.args.reply _ c.requires.reply c.in-Break.is in
    let few = break_notes s c.args.hart call c.in-Break.to has in
    let room = c.requires.room noted in
    omega (arith, few, room)

pub map_pages-requires-clause-room : goal.map_pages-requires-clause-room
map_pages-requires-clause-room c = λ noted.
    let s = c.args.self.now.state in
    let call = c.args.request.now in
    let has = brought s c.args.hart call c.args.reply _ c.requires.reply c.in-Map.is in
    let one = map_notes s c.args.hart call c.in-Map.place c.in-Map.count c.in-Map.rights has in
    let room = c.requires.room noted in
    omega (arith, one, room)

pub unmap_pages-requires-clause-room : goal.unmap_pages-requires-clause-room
unmap_pages-requires-clause-room c = λ noted.
    let s = c.args.self.now.state in
    let call = c.args.request.now in
    let has = brought s c.args.hart call c.args.reply _ c.requires.reply c.in-Unmap.is in
    let few = unmap_notes s c.args.hart call c.in-Unmap.place c.in-Unmap.count has in
    let room = c.requires.room noted in
    omega (arith, few, room)

pub returns-in-Break-clause-few : goal.returns-in-Break-clause-few
returns-in-Break-clause-few c =
    let s = c.args.self.now.state in
    let call = c.args.request.now in
    let has = brought s c.args.hart call c.args.reply _ c.requires.reply c.in-Break.is in
    let most = break_notes s c.args.hart call c.in-Break.to has in
    let few = c.move_break.ensures.few in
    omega (arith, most, few)

pub returns-in-Map-clause-few : goal.returns-in-Map-clause-few
returns-in-Map-clause-few c =
    let s = c.args.self.now.state in
    let call = c.args.request.now in
    let has = brought s c.args.hart call c.args.reply _ c.requires.reply c.in-Map.is in
    let one = map_notes s c.args.hart call c.in-Map.place c.in-Map.count c.in-Map.rights has in
    let few = c.map_pages.ensures.few in
    omega (arith, one, few)

pub returns-in-Unmap-clause-few : goal.returns-in-Unmap-clause-few
returns-in-Unmap-clause-few c =
    let s = c.args.self.now.state in
    let call = c.args.request.now in
    let has = brought s c.args.hart call c.args.reply _ c.requires.reply c.in-Unmap.is in
    let most = unmap_notes s c.args.hart call c.in-Unmap.place c.in-Unmap.count has in
    let few = c.unmap_pages.ensures.few in
    omega (arith, most, few)

pub returns-in-Break-clause-room : goal.returns-in-Break-clause-room
returns-in-Break-clause-room c =
    let s = c.args.self.now.state in
    let call = c.args.request.now in
    let has = brought s c.args.hart call c.args.reply _ c.requires.reply c.in-Break.is in
    let few = break_notes s c.args.hart call c.in-Break.to has in
    let room = c.move_break.ensures.room in
    omega (arith, few, room)

pub returns-in-Map-clause-room : goal.returns-in-Map-clause-room
returns-in-Map-clause-room c =
    let s = c.args.self.now.state in
    let call = c.args.request.now in
    let has = brought s c.args.hart call c.args.reply _ c.requires.reply c.in-Map.is in
    let one = map_notes s c.args.hart call c.in-Map.place c.in-Map.count c.in-Map.rights has in
    let room = c.map_pages.ensures.room in
    omega (arith, one, room)

pub returns-in-Unmap-clause-room : goal.returns-in-Unmap-clause-room
returns-in-Unmap-clause-room c =
    let s = c.args.self.now.state in
    let call = c.args.request.now in
    let has = brought s c.args.hart call c.args.reply _ c.requires.reply c.in-Unmap.is in
    let few = unmap_notes s c.args.hart call c.in-Unmap.place c.in-Unmap.count has in
    let room = c.unmap_pages.ensures.room in
    omega (arith, few, room)

pub unreachable-requires : goal.unreachable-requires
unreachable-requires c =
    let only = subst OnlyPages (sym c.requires.reply) (only_pages c.args.request.now (facts_of c.args.self.now.state c.args.hart c.args.request.now) c.requires.wants) in
    pages_else c.args.reply only c.in_default.not-Value c.in_default.not-Break c.in_default.not-Map c.in_default.not-Unmap

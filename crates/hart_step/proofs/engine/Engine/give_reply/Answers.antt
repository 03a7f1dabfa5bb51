use Rattle.std.proofs.Common.{◌≡◌, ℕ, ap, sym, ◌∙◌, subst, arith, length}
use Rattle.guest_words.specs.declared.call.Reply.{Reply}
use Rattle.guest_words.specs.declared.call.Reply.TheVariants as reply
use Rattle.guest_words.specs.declared.call.Request.{Request as Call}
use Rattle.guest_words.specs.Act.{replied}
use Rattle.guest_words.specs.CallChanges.{facts_of}
use Rattle.guest_words.specs.Calls.{reply_of}
use Rattle.guest_words.specs.State.{State}
use Rattle.run_history.specs.After.{moved}
use Rattle.hart_step.specs.Live.{Live}
use Rattle.undo_log.specs.Noted.{Noted}
use Rattle.hart_step.proofs.Replies.{brings, child_free, gone_only, queue_only, rouse_only, still_reply, unmap_place, unmap_unnoted, Brings}
use Rattle.hart_step.proofs.engine.Engine.give_reply.Goals as goal

-- what the reply brings along
has : (s : State) (h : ℕ) (call : Call) (r known : Reply) → r ≡ reply_of call (facts_of s h call) → r ≡ known → Brings s h call known
has s h call r known is same = subst (Brings s h call) (sym is ∙ same) (brings s h call)

pub unreachable-requires : goal.unreachable-requires
unreachable-requires c =
    let s = c.args.self.now.state in
    let call = c.args.request.now in
    gone_only s c.args.hart call (has s c.args.hart call c.args.reply _ c.requires.reply c.in-Gone.is) c.in_default-request.not-Exit

pub unreachable-requires-in_default-request-2 : goal.unreachable-requires-in_default-request-2
unreachable-requires-in_default-request-2 c =
    let s = c.args.self.now.state in
    let call = c.args.request.now in
    queue_only s c.args.hart call (has s c.args.hart call c.args.reply _ c.requires.reply c.in-Queue.is) c.in_default-request-2.not-Wait

pub unreachable-requires-in_default-request-3 : goal.unreachable-requires-in_default-request-3
unreachable-requires-in_default-request-3 c =
    let s = c.args.self.now.state in
    let call = c.args.request.now in
    rouse_only s c.args.hart call c.in-Rouse.most (has s c.args.hart call c.args.reply _ c.requires.reply c.in-Rouse.is) c.in_default-request-3.not-Wake

pub bear-requires-clause-free : goal.bear-requires-clause-free
bear-requires-clause-free c =
    let s = c.args.self.now.state in
    let call = c.args.request.now in
    (child_free s c.args.hart call c.in-Child.slot (has s c.args.hart call c.args.reply _ c.requires.reply c.in-Child.is)).0

pub bear-requires-clause-clones : goal.bear-requires-clause-clones
bear-requires-clause-clones c =
    let s = c.args.self.now.state in
    let call = c.args.request.now in
    (child_free s c.args.hart call c.in-Child.slot (has s c.args.hart call c.args.reply _ c.requires.reply c.in-Child.is)).1

pub unmap_pages-requires-clause-place : goal.unmap_pages-requires-clause-place
unmap_pages-requires-clause-place c =
    let s = c.args.self.now.state in
    let call = c.args.request.now in
    unmap_place s c.args.hart call c.in-Unmap.place c.in-Unmap.count (has s c.args.hart call c.args.reply _ c.requires.reply c.in-Unmap.is)

pub unmap_pages-requires-clause-room : goal.unmap_pages-requires-clause-room
unmap_pages-requires-clause-room c = λ noted.
    let s = c.args.self.now.state in
    let call = c.args.request.now in
    let never = unmap_unnoted c.args.noted s c.args.hart call c.in-Unmap.place c.in-Unmap.count (has s c.args.hart call c.args.reply _ c.requires.reply c.in-Unmap.is) c.requires.free in
    absurd (cc)

pub returns-in-Wake-clause-after : goal.returns-in-Wake-clause-after
returns-in-Wake-clause-after c =
    let s = c.args.self.now.state in
    ap (λ (v : Live). v.state) c.wake_at.ensures.after
    ∙ sym (ap (λ (r : Reply). moved s (replied s c.args.hart r c.args.request.now)) c.in-Rouse.is
    ∙ ap (λ (x : Call). moved s (replied s c.args.hart (reply.Rouse c.in-Rouse.most) x)) c.in-Wake.is)

pub returns-in-Unmap-clause-few : goal.returns-in-Unmap-clause-few
returns-in-Unmap-clause-few c =
    let s = c.args.self.now.state in
    let call = c.args.request.now in
    let plain = unmap_unnoted c.args.noted s c.args.hart call c.in-Unmap.place c.in-Unmap.count (has s c.args.hart call c.args.reply _ c.requires.reply c.in-Unmap.is) c.requires.free in
    let same = ap (λ (l : Noted). length l.notes) (c.unmap_pages.ensures.plain plain) in
    omega (arith, same)

pub returns-in-Unmap-clause-room : goal.returns-in-Unmap-clause-room
returns-in-Unmap-clause-room c =
    let s = c.args.self.now.state in
    let call = c.args.request.now in
    let plain = unmap_unnoted c.args.noted s c.args.hart call c.in-Unmap.place c.in-Unmap.count (has s c.args.hart call c.args.reply _ c.requires.reply c.in-Unmap.is) c.requires.free in
    let same = ap (λ (l : Noted). l.spare) (c.unmap_pages.ensures.plain plain) in
    omega (arith, same)

pub returns-in_default-clause-after : goal.returns-in_default-clause-after
returns-in_default-clause-after c =
    let s = c.args.self.now.state in
    let call = c.args.request.now in
    let brought = subst (Brings s c.args.hart call) (sym c.requires.reply) (brings s c.args.hart call) in
    still_reply c.args.noted s c.args.hart call c.args.reply brought c.requires.free c.in_default.not-Value c.in_default.not-Gone c.in_default.not-Queue c.in_default.not-Rouse c.in_default.not-Child
    c.in_default.not-Unmap

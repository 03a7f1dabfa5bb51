use Rattle.std.proofs.Common.{◌≡◌, ◌++◌, map, take, drop}
use Rattle.guest_words.specs.Harts.{unreserved}
use Rattle.guest_atomics.proofs.harts.end_all.Given as goal

abbrev pub invariant-loop-hart : goal.invariant-loop-hart
invariant-loop-hart l =
    l.hart-items ≡ map unreserved (take l.hart-index l.initial.hart-items) ++ drop l.hart-index l.initial.hart-items

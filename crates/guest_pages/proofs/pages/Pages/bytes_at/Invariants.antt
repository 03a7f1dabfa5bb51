use Rattle.std.proofs.Common.{◌≡◌, ◌-◌, ◌≤◌}
use Rattle.guest_words.specs.Space.{bytes_at}
use Rattle.guest_pages.proofs.pages.Pages.bytes_at.Given as goal

-- the first bytes are there
abbrev pub invariant-loop-done : goal.invariant-loop-done
invariant-loop-done l = record {
  within : l.done ≤ l.count;
  there : l.bytes.items ≡ bytes_at l.self.space l.from l.done;
}

abbrev pub decreases-loop-done : goal.decreases-loop-done
decreases-loop-done l = l.count - l.done

use Rattle.std.proofs.Common.{◌≡◌, ◌+◌, ◌-◌, ◌∙◌, ◌++◌, ◌^◌, ◌≤◌, ℕ, length, replicate, ap, arith}
use Rattle.std.proofs.lemmas.List.{take_all}
use Rattle.guest_words.specs.Space.{bytes_at}
use Rattle.run_history.proofs.ByteLengths.{length-bytes_at}
use Rattle.hart_step.proofs.PastTheEnd.{bytes_past}
use Rattle.hart_step.proofs.readers.bytes_to_end.Goals as goal

pub returns : goal.returns
returns c =
    let m = c.args.memory.now.space in
    let place = c.args.place in
    let count = c.args.count in
    let there : ℕ = 2 ^ 64 - 1 - place + 1 in
    let items = c.into_vec-bytes.result.items in
    let own = c.into_vec-bytes.result.ok.0 in
    let is : items ≡ bytes_at m place there = c.into_vec-bytes.ensures.list ∙ c.in_ok-bytes_at.ensures.ok in
    let long : length items ≡ there = ap length is ∙ length-bytes_at m place there in
    let past = c.requires.past in
    let below = c.ranges.place.fits in
    let ends : place + there ≡ 2 ^ 64 = omega (arith, below) in
    let few : there ≤ count = omega (arith, past, below) in
    let rest : count - c.into_vec-bytes.result.len ≡ count - there = ap (λ n. count - n) (own ∙ long) in
    record {
      ok = c.of.ensures.list ∙ c.in_ok-resize.ensures.items
          ∙ ap (λ xs. xs ++ replicate (count - c.into_vec-bytes.result.len) 0) (take_all count items (omega (arith, long, few)) ∙ is)
          ∙ ap (λ n. bytes_at m place there ++ replicate n 0) rest
          ∙ bytes_past m place there count c.in-None.ensures.none ends few;
    }

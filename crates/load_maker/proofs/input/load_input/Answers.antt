-- Each byte is the next word of the seed, modulo 16.
use Rattle.std.proofs.Common.{◌≡◌, ℕ, ◌+◌, ◌*◌, ◌%◌, [], ◌∷◌, ◌++◌, map, ap, sym, ◌∙◌, arith}
use Rattle.std.specs.List.{range_with_len}
use Rattle.std.proofs.lemmas.List.FromFn.{map-range_with_len_more}
use Rattle.load_maker.specs.Input.{input_byte, input_of}
use Rattle.load_maker.proofs.input.load_input.Goals as goal

more : (f : ℕ → ℕ) (k : ℕ) → map f (range_with_len 0 (k + 1)) ≡ map f (range_with_len 0 k) ++ f k ∷ []
more f k = map-range_with_len_more f 0 k k (omega arith)

pub loop-init : goal.loop-init
loop-init c = (c.new-input.ensures.items, c.of-words.ensures.value)

pub loop-preserved : goal.loop-preserved
loop-preserved c =
    let number = c.args.number in
    let k = c.loop.counter in
    let at = c.loop.invariant.1 in
    let byte : c.draw.result % 16 ≡ input_byte number k = ap (λ w. w % 16) (c.draw.ensures.value number k at) in (
      c.in_ok-push.ensures.items
          ∙ ap (λ xs. xs ++ (c.draw.result % 16) ∷ []) c.loop.invariant.0
          ∙ ap (λ b. map (input_byte number) (range_with_len 0 k) ++ b ∷ []) byte
          ∙ sym (more (input_byte number) k),
      c.draw.ensures.next number k at,
    )

pub returns : goal.returns
unfolding input_of
returns c =
    let last : c.loop.counter ≡ 1000 * c.args.number = omega arith in
    record {
      ok = c.loop.invariant.0 ∙ ap (λ k. map (input_byte c.args.number) (range_with_len 0 k)) last;
    }

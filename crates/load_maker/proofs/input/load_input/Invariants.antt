use Rattle.std.proofs.Common.{◌≡◌, map}
use Rattle.std.specs.List.{range_with_len}
use Rattle.load_maker.specs.Input.{input_byte}
use Rattle.seed_words.specs.Words.{words_at}
use Rattle.load_maker.proofs.input.load_input.Given as goal

abbrev pub invariant-loop : goal.invariant-loop
invariant-loop l =
    (l.input.items ≡ map (input_byte l.fn.number) (range_with_len 0 l.counter)) × (l.words ≡ words_at l.fn.number l.counter)

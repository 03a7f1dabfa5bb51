-- The input of the load of a number: bytes below 16, by the words that the number seeds.
use Rattle.std.specs.Prelude.{ℕ, ◌*◌, ◌%◌, List, map}
use Rattle.std.specs.List.{range_with_len}
use Rattle.seed_words.specs.Words.{word}

-- byte k of the input: word k, counted from 0, modulo 16
abbrev pub input_byte : ℕ → ℕ → ℕ
input_byte number k = word number k % 16

-- 1,000 bytes for each that the number counts
unfoldable pub input_of : ℕ → List ℕ
input_of number = map (input_byte number) (range_with_len 0 (1000 * number))

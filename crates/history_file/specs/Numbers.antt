-- Numbers in a history file: 4 or 8 bytes, the least significant byte first.
use Rattle.std.specs.Prelude.{ℕ, List}
use Rattle.std.specs.Int.{w32, w64, to_le_bytes}

unfoldable pub word : ℕ → List ℕ
word n = to_le_bytes w32 n

unfoldable pub double : ℕ → List ℕ
double n = to_le_bytes w64 n

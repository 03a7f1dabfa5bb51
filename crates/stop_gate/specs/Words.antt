-- The two words of a gate.
-- GATE has the number of passes that count in bits 0 to 62, and the stop bit in bit 63.
-- TURN is odd while the value is out. Its bits 1 to 62 are the length of the value that is at home
-- or was taken last, and bit 63 is set where that value is over.
use Rattle.std.specs.Prelude.{ℕ, ◌+◌, ◌*◌, ◌/◌, ◌%◌, ◌^◌, ◌≡◌, Bool, nat_le, if◌then◌else◌}
use Rattle.stop_gate.specs.declared.held.Held.{Ghosts as Held}

-- bits 0 to 62 of GATE
abbrev pub low_part : ℕ → ℕ
low_part gate = gate % 2 ^ 63

-- bit 63 of GATE
abbrev pub stop_bit : ℕ → Bool
stop_bit gate = nat_le (2 ^ 63) gate

-- GATE with the stop bit
abbrev pub with_stop : ℕ → ℕ
with_stop gate = low_part gate + 2 ^ 63

-- the value is out
abbrev pub IsOut : ℕ → Type 0
IsOut turn = turn % 2 ≡ 1

-- the value is at home
abbrev pub IsHome : ℕ → Type 0
IsHome turn = turn % 2 ≡ 0

-- bits 1 to 62 of TURN
abbrev pub length_in : ℕ → ℕ
length_in turn = turn / 2 % 2 ^ 62

-- bit 63 of TURN
abbrev pub over_bit : ℕ → Bool
over_bit turn = nat_le (2 ^ 63) turn

-- TURN made odd
abbrev pub as_out : ℕ → ℕ
as_out turn = turn / 2 * 2 + 1

-- TURN for this value at home
abbrev pub turn_of : {C O : Type 0} → Held C O → C → ℕ
turn_of held value = 2 * held.length value + (if held.over value then 2 ^ 63 else 0)

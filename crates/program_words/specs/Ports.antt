-- Port words, IN:OUT.
use Rattle.std.specs.Prelude.{ℕ, ◌==◌, ◌&&◌, Bool, not, List, length, nat_lt, Option, count_by, position}
use Rattle.std.specs.List.{before_first, after_first}
use Rattle.program_words.specs.declared.port_name.PortName.{PortName}

-- a colon
abbrev pub is_colon : ℕ → Bool
is_colon byte = byte == 58

-- what stands before the first colon, and what stands behind it
abbrev pub port_named : List ℕ → PortName
port_named word =
    record { input = before_first is_colon word; output = after_first is_colon word }

-- just one colon, with a byte at least on each side
abbrev pub is_port : List ℕ → Bool
is_port word = (count_by is_colon word == 1) && (nat_lt 0 (length (port_named word).input)
    && nat_lt 0 (length (port_named word).output))

-- the number of the first word that is no port word, counted from 0
abbrev pub first_bad_port : List (List ℕ) → Option ℕ
first_bad_port words = position (λ w. not (is_port w)) words

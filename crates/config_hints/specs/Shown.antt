-- How names, addresses and ranges of addresses stand in a line.
use Rattle.std.specs.Prelude.{ℕ, ◌+◌, ◌-◌, ◌^◌, min, nat_le, ◌&&◌, false, List, [], ◌∷◌, ◌++◌, map, take, codes, if◌then◌else◌}
use Rattle.std.specs.Fmt.{digits}
use Rattle.std.specs.List.{flat_map}
use Rattle.guest_words.specs.declared.image.Span.{Span}

-- a byte that ASCII prints stands as it is, and ? for every other
abbrev pub printed : ℕ → ℕ
printed byte = if nat_le 32 byte && nat_le byte 126 then byte else 63

-- the first 60 bytes of a name in quotes
abbrev pub quoted : List ℕ → List ℕ
quoted name = codes "'" ++ map printed (take 60 name) ++ codes "'"

abbrev pub address_text : ℕ → List ℕ
address_text address = codes "0x" ++ digits 16 false address

-- where a range ends, or the last address where it passes that
abbrev pub end_of : Span → ℕ
end_of span = min (span.from + span.size) (2 ^ 64 - 1)

-- its first address, and the first one behind it
abbrev pub range_text : Span → List ℕ
range_text span = address_text span.from ++ codes " to " ++ address_text (end_of span)

-- ranges with commas between them
abbrev pub more_ranges : List Span → List ℕ
more_ranges spans = flat_map (λ span. codes ", " ++ range_text span) spans

abbrev pub ranges_text : List Span → List ℕ
ranges_text [] = codes "none"
ranges_text (span ∷ rest) = range_text span ++ more_ranges rest

-- The last entry of a history, where it is a Ran that can be made longer.
use Rattle.std.specs.Prelude.{ℕ, zero, suc, ◌+◌, ◌^◌, Bool, false, ◌&&◌, ◌==◌, nat_lt, if◌then◌else◌, List, [], ◌∷◌, ◌++◌}
use Rattle.run_history.specs.declared.entry.Entry.{Entry, Ran}

-- a Ran whose count can grow
abbrev pub can_lengthen : Entry → Bool
can_lengthen (Ran hart count) = nat_lt (count + 1) (2 ^ 32)
can_lengthen _ = false

-- a Ran of this hart whose count can grow by so much
abbrev pub can_lengthen_by : ℕ → ℕ → Entry → Bool
can_lengthen_by h n (Ran hart count) = (hart == h) && nat_lt (count + n) (2 ^ 32)
can_lengthen_by h n _ = false

-- the same Ran with so many acts more
abbrev pub longer_by : ℕ → Entry → Entry
longer_by n (Ran hart count) = Ran hart (count + n)
longer_by n e = e

-- and with one more
abbrev pub longer : Entry → Entry
longer e = longer_by 1 e

-- the last entry is a Ran whose count can grow
abbrev pub ends_in_ran : List Entry → Bool
ends_in_ran [] = false
ends_in_ran (e ∷ []) = can_lengthen e
ends_in_ran (e ∷ (f ∷ rest)) = ends_in_ran (f ∷ rest)

-- the last entry is a Ran of this hart whose count can grow by so much
abbrev pub ends_in_ran_of : ℕ → ℕ → List Entry → Bool
ends_in_ran_of h n [] = false
ends_in_ran_of h n (e ∷ []) = can_lengthen_by h n e
ends_in_ran_of h n (e ∷ (f ∷ rest)) = ends_in_ran_of h n (f ∷ rest)

-- the entries with the last one longer by so much
abbrev pub lengthened_by : ℕ → List Entry → List Entry
lengthened_by n [] = []
lengthened_by n (e ∷ []) = longer_by n e ∷ []
lengthened_by n (e ∷ (f ∷ rest)) = e ∷ lengthened_by n (f ∷ rest)

-- and by one
abbrev pub lengthened : List Entry → List Entry
lengthened es = lengthened_by 1 es

-- a Ran of a hart more: the last entry is made longer where it can be, else a Ran goes last
abbrev pub with_ran : ℕ → ℕ → List Entry → List Entry
with_ran h n es = if ends_in_ran_of h n es then lengthened_by n es else es ++ Ran h n ∷ []

-- so many acts of a hart more, if any
abbrev pub with_acts : ℕ → ℕ → List Entry → List Entry
with_acts h zero es = es
with_acts h (suc n) es = with_ran h (suc n) es

-- one act more
abbrev pub with_act : ℕ → List Entry → List Entry
with_act h es = with_acts h 1 es

-- The two standard outputs as one type.
use Rattle.std.specs.Prelude.{ℕ, List, Option}
use Rattle.edge_ports.specs.declared.standard.Standard.{Standard}
use Rattle.edge_ports.specs.declared.standard.Standard.TheVariants.{Out, Err}

-- what the stream behind it holds, where it is known
abbrev pub standard_contents : {O E : Type 0} → (O → Option (List ℕ)) → (E → Option (List ℕ))
    → Standard O E → Option (List ℕ)
standard_contents out err (Out stream) = out stream
standard_contents out err (Err stream) = err stream

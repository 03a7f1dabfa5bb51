-- Adapters over readers, writers and files. They tell no bytes, and each counts its own faults.
use Rattle.std.specs.Prelude.{ℕ, ◌≤◌, List, length, take, Some, None, IsErr, MatchResult}
use Rattle.std.specs.Io.KnownBytes.{Appends, ReadConsumes}
use Rattle.std.specs.declared.option.Option.{Option}
use Rattle.std.specs.declared.result.Result.{Result}
use Rattle.edge_ports.specs.End.{End, untold}
use Rattle.edge_ports.specs.Shelves.{Shelved, untold_shelf}
use Rattle.edge_ports.specs.declared.std_source.StdSource.{StdSource}
use Rattle.edge_ports.specs.declared.std_sink.StdSink.{StdSink}
use Rattle.edge_ports.specs.declared.file_port.FilePort.{FilePort}
use Rattle.edge_ports.specs.declared.file_shelf.FileShelf.{FileShelf}

-- the reader behind a source, and what the source tells
abbrev pub reader_of : {R : Type 0} → StdSource R → R
reader_of s = s.reader

abbrev pub std_source_end : {R : Type 0} → StdSource R → End
std_source_end s = untold s.faults 0

-- the writer behind a sink, and what the sink tells
abbrev pub writer_of : {W : Type 0} → StdSink W → W
writer_of s = s.writer

abbrev pub std_sink_end : {W : Type 0} → StdSink W → End
std_sink_end s = untold s.faults 0

-- the files of a port, None where they weren't opened or the port is closed
abbrev pub input_of : {I O : Type 0} → FilePort I O → Option I
input_of p = p.input

abbrev pub output_of : {I O : Type 0} → FilePort I O → Option O
output_of p = p.output

-- what a port of files tells
abbrev pub file_port_end : {I O : Type 0} → FilePort I O → End
file_port_end p = untold p.faults p.closes

-- what a shelf of files tells
abbrev pub file_shelf : {R : Type 0} → FileShelf R → Shelved
file_shelf s = untold_shelf s.faults s.save_faults s.longs s.log.asked

-- a writer that held `old` was given the piece whole, or it failed and was given a part of it from
-- its front
abbrev pub WritesWhole : {T E : Type 0}
    → Option (List ℕ) → Option (List ℕ) → List ℕ → Result T E → Type 0
WritesWhole old new piece result =
    MatchResult result (λ _. Appends old new piece)
    (λ _. (n : ℕ) × (n ≤ length piece) × Appends old new (take n piece))

-- a read of a file, by what its reader has left; without one it fails
abbrev pub ReadsFrom : {I E : Type 0} → (I → Option (List ℕ))
    → Option I → Option I → Result ℕ E → List ℕ → Type 0
ReadsFrom remaining None None result places = IsErr result
ReadsFrom remaining (Some old) (Some new) result places =
    ReadConsumes (remaining old) (remaining new) result places
ReadsFrom remaining _ _ result places = ⊥

-- a write to a file, by what its writer holds; without one it fails
abbrev pub WritesTo : {O T E : Type 0} → (O → Option (List ℕ))
    → Option O → Option O → List ℕ → Result T E → Type 0
WritesTo contents None None piece result = IsErr result
WritesTo contents (Some old) (Some new) piece result =
    WritesWhole (contents old) (contents new) piece result
WritesTo contents _ _ piece result = ⊥

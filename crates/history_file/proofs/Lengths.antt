-- How long the parts of a history file are.
use Rattle.std.proofs.Common.{◌≡◌, ℕ, ◌+◌, List, ◌∷◌, ◌++◌, length, length-append, arith}
use Rattle.std.specs.Int.{w64, cast_unsigned}
use Rattle.guest_words.specs.declared.point.PointRef.{PointRef}
use Rattle.guest_words.specs.declared.fault.Fault.{Fault as FaultAt}
use Rattle.guest_words.specs.declared.record.Record.{Record}
use Rattle.run_history.specs.declared.entry.Entry.{Entry}
use Rattle.history_file.specs.Numbers.{word, double}
use Rattle.history_file.specs.HistoryBytes.{way_number, fault_bytes, text_bytes, record_bytes, rescue_bytes, entries_bytes, rescued_bytes}
use Rattle.history_file.proofs.FieldLaws.{word_length, double_length}

pub fault_length : (f : FaultAt) → length (fault_bytes f) ≡ 9
unfolding fault_bytes
fault_length f = let a = double_length f.pc in omega arith

text_length : (text : List ℕ) → length (text_bytes text) ≡ length text + 4
unfolding text_bytes
text_length text = let a = length-append (word (length text)) text in let b = word_length (length text) in omega arith

pub record_length : (r : Record) → length (record_bytes r) ≡ length r.bytes + 29
unfolding record_bytes
record_length r =
    let tail = double (cast_unsigned w64 r.answer) ++ text_bytes r.bytes in
    let a = length-append (double r.port) (way_number r.way ∷ double r.asked ++ tail) in
    let b = length-append (double r.asked) tail in
    let c = length-append (double (cast_unsigned w64 r.answer)) (text_bytes r.bytes) in
    let p = double_length r.port in
    let q = double_length r.asked in
    let s = double_length (cast_unsigned w64 r.answer) in
    let t = text_length r.bytes in
    omega arith

rescue_length : (h : ℕ) (p : PointRef) (f : FaultAt) (n : ℕ) → length (rescue_bytes h p f n) ≡ 22
unfolding rescue_bytes
rescue_length h p f n =
    let a = length-append (double p.entry) (fault_bytes f ++ word n) in
    let b = length-append (fault_bytes f) (word n) in
    let c = double_length p.entry in
    let d = fault_length f in
    let e = word_length n in
    omega arith

pub rescued_length : (h : ℕ) (p : PointRef) (f : FaultAt) (xs : List Entry) → length (rescued_bytes h p f xs) ≡ length (entries_bytes xs) + 23
rescued_length h p f xs =
    let a = length-append (rescue_bytes h p f (length xs)) (entries_bytes xs) in
    let b = rescue_length h p f (length xs) in
    omega arith

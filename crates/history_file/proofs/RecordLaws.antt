-- Faults, records and endings are read as they are spelled.
use Rattle.std.proofs.Common.{◌≡◌, ℕ, zero, suc, ◌^◌, ◌<◌, List, [], ◌∷◌, ◌++◌, length, Ok, refl, sym, ap, subst, ◌∙◌, append_assoc}
use Rattle.std.specs.Prelude.{FitsSigned, ℤ}
use Rattle.std.specs.Int.{w64, cast_signed, cast_unsigned}
use Rattle.std.proofs.lemmas.Int.{of_z-to_z}
use mir.ValLaws.{to_z-of_z, of_z_fits}
use borrow.Author.Gap.{read_sfits}
use Rattle.guest_words.specs.declared.ending.Ending.{Ending}
use Rattle.guest_words.specs.declared.ending.Ending.TheVariants as ending
use Rattle.guest_words.specs.declared.fault.Fault.{Fault as FaultAt}
use Rattle.guest_words.specs.declared.fault.FaultName.{FaultName}
use Rattle.guest_words.specs.declared.record.Record.{Record}
use Rattle.guest_words.specs.declared.record.Way.{Way}
use Rattle.history_file.specs.Numbers.{double}
use Rattle.history_file.specs.HistoryBytes.{way_number, text_bytes, fault_bytes, record_bytes, ending_bytes}
use Rattle.history_file.specs.Spelled.{IsRecord, IsEnding}
use Rattle.history_file.specs.Reading.{◌>>=◌, Front, byte_at, double_at, text_at, way_at, name_at, fault_at, record_at, exit_at, fatal_at, ending_of}
use Rattle.history_file.proofs.Exact.{IsBytes, Takes, Takes-then, Exact, step, parts, parts_again, ok_is}
use Rattle.history_file.proofs.FieldLaws.{one, Always, byte_law, Below, double_law, Short_enough, text_law}
use Rattle.history_file.proofs.ValueLaws.{way_byte, way_law, name_byte, name_law}

-- ---- faults

abbrev pub IsFault : FaultAt → Type 0
IsFault f = f.pc < 2 ^ 64

abbrev fault_by : FaultName → ℕ → FaultAt
fault_by name pc = record { name = name; pc = pc }

fault_takes : (bytes : List ℕ) (f : FaultAt) (rest : List ℕ) → IsBytes bytes → fault_at bytes ≡ Ok (f, rest) → Takes bytes (fault_bytes f) rest × IsFault f
unfolding fault_at fault_bytes
fault_takes bytes f rest fits e =
    let p = parts name_at name_byte Always double_at double (Below (2 ^ 64)) fault_by name_law double_law bytes (f, rest) fits e in
    subst (λ (g : FaultAt). Takes bytes (fault_bytes g) rest × IsFault g) p.is (p.taken, p.second_holds)

fault_again : (f : FaultAt) (rest : List ℕ) → IsFault f → fault_at (fault_bytes f ++ rest) ≡ Ok (f, rest)
unfolding fault_at fault_bytes
fault_again f rest h = parts_again name_at name_byte Always double_at double (Below (2 ^ 64)) fault_by name_law double_law f.name f.pc rest tt h

pub fault_law : Exact fault_at fault_bytes IsFault
fault_law = record { takes = fault_takes; again = fault_again }

-- ---- records

-- a record that has a spelling
pub record IsCall (r : Record) : Type 0 where
  pub is_record : IsRecord r
  pub short : length r.bytes < 2 ^ 32

abbrev record_by : ℕ → Way → ℕ → ℕ → List ℕ → Record
record_by port w asked answer text = record { port = port; way = w; asked = asked; answer = cast_signed w64 answer; bytes = text }

signed-back : (z : ℤ) → FitsSigned w64 z → cast_signed w64 (cast_unsigned w64 z) ≡ z
signed-back z fits = to_z-of_z w64 z fits

signed-fits : (n : ℕ) → n < 2 ^ 64 → FitsSigned w64 (cast_signed w64 n)
signed-fits n lt = read_sfits w64 n

record_takes : (bytes : List ℕ) (r : Record) (rest : List ℕ) → IsBytes bytes → record_at bytes ≡ Ok (r, rest) → Takes bytes (record_bytes r) rest × IsCall r
unfolding record_at record_bytes
record_takes bytes r rest fits e =
    let a = step double_at double (Below (2 ^ 64)) double_law bytes (λ port. way_at port.1 >>= λ w. double_at w.1 >>= λ asked. double_at asked.1 >>= λ answer. text_at answer.1 >>= λ text. Ok (record_by port.0 w.0 asked.0 answer.0 text.0, text.1)) (r, rest) fits e in
    let b = step way_at way_byte Always way_law a.rest (λ w. double_at w.1 >>= λ asked. double_at asked.1 >>= λ answer. text_at answer.1 >>= λ text. Ok (record_by a.value w.0 asked.0 answer.0 text.0, text.1)) (r, rest) a.taken.rest_fits a.then_ in
    let c = step double_at double (Below (2 ^ 64)) double_law b.rest (λ asked. double_at asked.1 >>= λ answer. text_at answer.1 >>= λ text. Ok (record_by a.value b.value asked.0 answer.0 text.0, text.1)) (r, rest) b.taken.rest_fits b.then_ in
    let d = parts double_at double (Below (2 ^ 64)) text_at text_bytes Short_enough (record_by a.value b.value c.value) double_law text_law c.rest (r, rest) c.taken.rest_fits c.then_ in
    let whole = Takes-then bytes (double a.value) a.rest _ rest a.taken (Takes-then a.rest (way_byte b.value) b.rest _ rest b.taken (Takes-then b.rest (double c.value) c.rest _ rest c.taken d.taken)) in
    let answer : cast_unsigned w64 (cast_signed w64 d.first) ≡ d.first = of_z-to_z w64 d.first d.first_holds in
    let text : Takes bytes (record_bytes (record_by a.value b.value c.value d.first d.second)) rest =
    subst (λ (n : ℕ). Takes bytes (double a.value ++ (way_number b.value ∷ double c.value ++ (double n ++ text_bytes d.second))) rest) (sym answer) whole in
    let is_record : IsRecord (record_by a.value b.value c.value d.first d.second) = record { port = a.holds; asked = c.holds; answer = signed-fits d.first d.first_holds } in
    subst (λ (s : Record). Takes bytes (record_bytes s) rest × IsCall s) d.is (text, record { is_record = is_record; short = d.second_holds })

unsigned-fits : (z : ℤ) → FitsSigned w64 z → cast_unsigned w64 z < 2 ^ 64
unsigned-fits z fits = (of_z_fits w64 z fits).fits

regroup : (a : List ℕ) (w : ℕ) (b c d rest : List ℕ) → (a ++ (w ∷ b ++ (c ++ d))) ++ rest ≡ a ++ (one w ++ (b ++ (c ++ (d ++ rest))))
regroup a w b c d rest = simp append_assoc

record_again : (r : Record) (rest : List ℕ) → IsCall r → record_at (record_bytes r ++ rest) ≡ Ok (r, rest)
unfolding record_at record_bytes
record_again r rest h =
    let answer = cast_unsigned w64 r.answer in
    let four = double answer ++ (text_bytes r.bytes ++ rest) in
    let a : double_at (double r.port ++ (way_byte r.way ++ (double r.asked ++ four))) ≡ Ok (r.port, way_byte r.way ++ (double r.asked ++ four)) = double_law.again r.port _ h.is_record.port in
    let b : way_at (way_byte r.way ++ (double r.asked ++ four)) ≡ Ok (r.way, double r.asked ++ four) = way_law.again r.way _ tt in
    let c : double_at (double r.asked ++ four) ≡ Ok (r.asked, four) = double_law.again r.asked _ h.is_record.asked in
    let d : double_at four ≡ Ok (answer, text_bytes r.bytes ++ rest) = double_law.again answer _ (unsigned-fits r.answer h.is_record.answer) in
    let t : text_at (text_bytes r.bytes ++ rest) ≡ Ok (r.bytes, rest) = text_law.again r.bytes rest h.short in
    ap record_at (regroup (double r.port) (way_number r.way) (double r.asked) (double answer) (text_bytes r.bytes) rest)
    ∙ rw (a, b, c, d, t) (ap (λ (z : ℤ). Ok (record { port = r.port; way = r.way; asked = r.asked; answer = z; bytes = r.bytes }, rest)) (signed-back r.answer h.is_record.answer))

pub record_law : Exact record_at record_bytes IsCall
record_law = record { takes = record_takes; again = record_again }

-- ---- endings

exit_takes : (bytes : List ℕ) (x : Ending) (rest : List ℕ) → IsBytes bytes → exit_at bytes ≡ Ok (x, rest) → Takes (0 ∷ bytes) (ending_bytes x) rest × IsEnding x
unfolding exit_at ending_bytes
exit_takes bytes x rest fits e =
    let p = parts byte_at one Always byte_at one Always ending.Exit byte_law byte_law bytes (x, rest) fits e in
    subst (λ (y : Ending). Takes (0 ∷ bytes) (ending_bytes y) rest × IsEnding y) p.is (record { parts = ap (λ (bs : List ℕ). 0 ∷ bs) p.taken.parts; rest_fits = p.taken.rest_fits }, tt)

fatal_takes : (bytes : List ℕ) (x : Ending) (rest : List ℕ) → IsBytes bytes → fatal_at bytes ≡ Ok (x, rest) → Takes (1 ∷ bytes) (ending_bytes x) rest × IsEnding x
unfolding fatal_at ending_bytes
fatal_takes bytes x rest fits e =
    let p = parts byte_at one Always fault_at fault_bytes IsFault ending.Fault byte_law fault_law bytes (x, rest) fits e in
    subst (λ (y : Ending). Takes (1 ∷ bytes) (ending_bytes y) rest × IsEnding y) p.is (record { parts = ap (λ (bs : List ℕ). 1 ∷ bs) p.taken.parts; rest_fits = p.taken.rest_fits }, p.second_holds)

bare_takes : (n : ℕ) (y : Ending) → ending_bytes y ≡ n ∷ [] → IsEnding y → (bytes : List ℕ) (x : Ending) (rest : List ℕ) → IsBytes bytes → y ≡ x → bytes ≡ rest → Takes (n ∷ bytes) (ending_bytes x) rest × IsEnding x
bare_takes n y text h bytes x rest fits x-is rest-is =
    subst (λ (z : Ending). Takes (n ∷ bytes) (ending_bytes z) rest × IsEnding z) x-is (record { parts = rw (text, rest-is) refl; rest_fits = subst IsBytes rest-is fits }, h)

-- the ending of a kind, and the byte of the kind before it
pub of_kind : (kind : ℕ) (place bytes : List ℕ) (x : Ending) (rest : List ℕ) → IsBytes bytes → ending_of kind place bytes ≡ Ok (x, rest) → Takes (kind ∷ bytes) (ending_bytes x) rest × IsEnding x
unfolding ending_of ending_bytes
of_kind zero place bytes x rest fits e = exit_takes bytes x rest fits e
of_kind (suc zero) place bytes x rest fits e = fatal_takes bytes x rest fits e
of_kind (suc (suc zero)) place bytes x rest fits e = bare_takes 2 ending.Stuck refl tt bytes x rest fits (ap (λ (p : Ending × List ℕ). p.0) (ok_is (ending.Stuck, bytes) (x, rest) e)) (ap (λ (p : Ending × List ℕ). p.1) (ok_is (ending.Stuck, bytes) (x, rest) e))
of_kind (suc (suc (suc zero))) place bytes x rest fits e = bare_takes 3 ending.Budget refl tt bytes x rest fits (ap (λ (p : Ending × List ℕ). p.0) (ok_is (ending.Budget, bytes) (x, rest) e)) (ap (λ (p : Ending × List ℕ). p.1) (ok_is (ending.Budget, bytes) (x, rest) e))
of_kind (suc (suc (suc (suc n)))) place bytes x rest fits e = absurd cc

abbrev pub ending_at : List ℕ → Front Ending
ending_at bytes = byte_at bytes >>= λ kind. ending_of kind.0 bytes kind.1

ending_takes : (bytes : List ℕ) (x : Ending) (rest : List ℕ) → IsBytes bytes → ending_at bytes ≡ Ok (x, rest) → Takes bytes (ending_bytes x) rest × IsEnding x
ending_takes bytes x rest fits e =
    let k = step byte_at one Always byte_law bytes (λ kind. ending_of kind.0 bytes kind.1) (x, rest) fits e in
    let t = of_kind k.value bytes k.rest x rest k.taken.rest_fits k.then_ in
    (record { parts = k.taken.parts ∙ t.0.parts; rest_fits = t.0.rest_fits }, t.1)

ending_again : (x : Ending) (rest : List ℕ) → IsEnding x → ending_at (ending_bytes x ++ rest) ≡ Ok (x, rest)
unfolding ending_of ending_bytes exit_at fatal_at byte_at
ending_again (ending.Exit hart code) rest h = refl
ending_again (ending.Fault hart fault) rest h = rw (fault_law.again fault rest h) refl
ending_again ending.Stuck rest h = refl
ending_again ending.Budget rest h = refl

pub ending_law : Exact ending_at ending_bytes IsEnding
ending_law = record { takes = ending_takes; again = ending_again }

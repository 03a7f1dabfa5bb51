-- The further files of an audit, as they are loaded one after the other.
use Rattle.std.proofs.Common.{◌≡◌, ◌⊎◌, inl, inr, ℕ, zero, suc, ◌+◌, List, [], ◌∷◌, ◌++◌, map, take, drop, Option, Some, None, Result, Ok, Err, refl, ap, sym, ◌∙◌, subst, arith}
use Rattle.std.proofs.lemmas.List.{append_assoc, append-nil}
use Rattle.edge_ports.specs.Asked.{Asked, Loaded as Load'}
use Rattle.edge_ports.specs.Shelves.{Loads, Shelved}
use Rattle.edge_ports.specs.declared.shelf.ShelfFault.{ShelfFault}
use Rattle.edge_ports.specs.declared.shelf.ShelfFault.TheVariants as shelf
use Rattle.program_words.specs.declared.port_name.PortName.{PortName}
use Rattle.rescue_audit.specs.declared.files.AuditFiles.{AuditFiles}
use Rattle.rescue_audit.specs.declared.files.PortFile.{PortFile}
use Rattle.rescue_run.specs.declared.files.Files.{Files}
use Rattle.rescue_run.specs.declared.further.Further.{Further}
use Rattle.rescue_run.specs.declared.further.FurtherNames.{FurtherNames}
use Rattle.rescue_run.specs.declared.refusal.Refusal.{Refusal}
use Rattle.rescue_run.specs.declared.outcome.Which.{Which}
use Rattle.rescue_run.specs.declared.outcome.Which.TheVariants as which
use Rattle.rescue_run.specs.declared.start.Loaded.{Loaded}
use Rattle.rescue_run.specs.declared.task.Task.{Task}
use Rattle.rescue_run.specs.declared.task.Task.TheVariants as task
use Rattle.rescue_run.specs.Further.{audit_files, audit_unless, audit_with, bytes_in, device, device_files, first_unread, further_loads, loads_until, port_files, port_names, unless_unread, where_read}
use Rattle.rescue_run.specs.Loading.{loaded_of, loads_of_files, named_files, points_files, Answers, NamedFile, Read}
use Rattle.rescue_run.specs.Outcomes.{limit_of, of_shelf_fault}
use Rattle.rescue_run.specs.Prepares.{AuditsFiles}
use Rattle.rescue_run.specs.Reads.{AreAnswers, Follows, IsAnswer, IsAskedFor, IsOrMemory}
use Rattle.rescue_run.specs.ReadsFiles.{further_bytes, port_bytes, ReadsAll, ReadsFiles, StopsAmong}
use Rattle.rescue_run.specs.Words.{further_of}
use Rattle.rescue_run.proofs.Reading.{loads_at}
use Rattle.rescue_run.proofs.Shelving.{answer_among, answers_both, answers_later, follows_both, follows_load, follows_same, no_answer, no_answers, none_answered, take_none}
use Rattle.rescue_run.specs.Refusals.{wanting}

-- one file is loaded, and then others

pub read_one : (w : Which) (name : List ℕ) (old new : Shelved) (name' : List ℕ) (limit : ℕ) (bytes : List ℕ) → name' ≡ name → limit ≡ limit_of w
    → Loads old new name' limit (Ok bytes) → ReadsAll ((w, name) ∷ []) old new (bytes ∷ [])
read_one w name old new name' limit bytes is same loads = (new, (loads_at old new name' name limit (limit_of w) (Ok bytes) is same loads, refl))

pub stop_one : (w : Which) (name : List ℕ) (old new : Shelved) (name' : List ℕ) (limit : ℕ) (fault : ShelfFault) (refusal : Refusal) → name' ≡ name
    → limit ≡ limit_of w → refusal ≡ of_shelf_fault w fault → Loads old new name' limit (Err fault) → StopsAmong ((w, name) ∷ []) old new refusal
stop_one w name old new name' limit fault refusal is same names loads =
    inl (record { fault = fault; loads = loads_at old new name' name limit (limit_of w) (Err fault) is same loads; names = names })

pub reads_both : (files more : List NamedFile) (old mid new : Shelved) (bs cs : List (List ℕ)) → ReadsAll files old mid bs → ReadsAll more mid new cs
    → ReadsAll (files ++ more) old new (bs ++ cs)
reads_both [] more old mid new [] cs r q = subst (λ (s : Shelved). ReadsAll more s new cs) r q
reads_both [] more old mid new (b ∷ bs) cs r q = absurd r
reads_both (f ∷ files) more old mid new [] cs r q = absurd r
reads_both (f ∷ files) more old mid new (b ∷ bs) cs r q = (r.0, (r.1.0, reads_both files more r.0 mid new bs cs r.1.1 q))

pub stops_behind : (files more : List NamedFile) (old mid new : Shelved) (bs : List (List ℕ)) (refusal : Refusal) → ReadsAll files old mid bs
    → StopsAmong more mid new refusal → StopsAmong (files ++ more) old new refusal
stops_behind [] more old mid new [] refusal r q = subst (λ (s : Shelved). StopsAmong more s new refusal) r q
stops_behind [] more old mid new (b ∷ bs) refusal r q = absurd r
stops_behind (f ∷ files) more old mid new [] refusal r q = absurd r
stops_behind (f ∷ files) more old mid new (b ∷ bs) refusal r q = inr (r.0, (b, (r.1.0, stops_behind files more r.0 mid new bs refusal r.1.1 q)))

pub stops_before : (files more : List NamedFile) (old new : Shelved) (refusal : Refusal) → StopsAmong files old new refusal
    → StopsAmong (files ++ more) old new refusal
stops_before [] more old new refusal s = absurd s
stops_before (f ∷ files) more old new refusal (inl here) = inl here
stops_before (f ∷ files) more old new refusal (inr s) = inr (s.0, (s.1.0, (s.1.1.0, stops_before files more s.0 new refusal s.1.1.1)))

pub port_bytes_last : (files : List PortFile) (file : PortFile) (more : List (List ℕ)) → port_bytes (files ++ file ∷ []) ++ more ≡ port_bytes files ++ file.input ∷ file.output ∷ more
port_bytes_last [] file more = refl
port_bytes_last (f ∷ files) file more = ap (λ (bs : List (List ℕ)). f.input ∷ f.output ∷ bs) (port_bytes_last files file more)

-- answers by their places

abbrev pub read_at : List Read → ℕ → Read
read_at [] n = Err shelf.Memory
read_at (r ∷ reads) zero = r
read_at (r ∷ reads) (suc n) = read_at reads n

abbrev pub behind : List Read → List Read
behind [] = []
behind (r ∷ reads) = reads

behind_at : (reads : List Read) (n : ℕ) → read_at (behind reads) n ≡ read_at reads (suc n)
behind_at [] n = refl
behind_at (r ∷ reads) n = refl

-- answers that are those of the first files, and these for the further ones
abbrev pub all_answers : Answers → List Read → Which → Read
all_answers first reads which.Program = first which.Program
all_answers first reads which.Points = first which.Points
all_answers first reads which.History = read_at reads 0
all_answers first reads (which.Device number) = read_at reads (suc number)

-- the answers for files are these, in order
abbrev Agree : Answers → List NamedFile → List Read → Type 0
Agree answers [] reads = Unit {0}
Agree answers (f ∷ files) reads = (answers f.0 ≡ read_at reads 0) × Agree answers files (behind reads)

agree_devices : (answers : Answers) (number : ℕ) (names : List (List ℕ)) (reads : List Read)
    → ((k : ℕ) → answers (which.Device (k + number)) ≡ read_at reads k) → Agree answers (device_files number names) reads
agree_devices answers number [] reads each = tt
agree_devices answers number (name ∷ names) reads each =
    let first : number ≡ 0 + number = omega arith in (
      ap (λ (n : ℕ). answers (which.Device n)) first ∙ each 0,
      agree_devices answers (number + 1) names (behind reads)
          (λ k. let next : k + (number + 1) ≡ suc k + number = omega arith in
          ap (λ (n : ℕ). answers (which.Device n)) next ∙ each (suc k) ∙ sym (behind_at reads k)),
    )

agree_further : (first : Answers) (reads : List Read) (names : FurtherNames) → Agree (all_answers first reads) (further_of names) reads
agree_further first reads names = (
  refl,
  agree_devices (all_answers first reads) 0 (names.input ∷ names.out ∷ names.err ∷ port_names names.ports) (behind reads)
      (λ k. let same : suc (k + 0) ≡ suc k = omega arith in ap (λ (n : ℕ). read_at reads n) same ∙ sym (behind_at reads k)),
)

none_agreed : (old new : Shelved) (answers : Answers) (files : List NamedFile) → Agree answers files [] → AreAnswers old new files answers
none_agreed old new answers [] agree = tt
none_agreed old new answers (f ∷ files) agree =
    (subst (λ (r : Read). IsAnswer old new f.0 f.1 r) (sym agree.0) (no_answer old new f.0 f.1), none_agreed old new answers files agree.1)

-- what further loads leave
pub record Known (answers : Answers) (files : List NamedFile) (old a new : Shelved) (refusal : Option Refusal) : Type 0 where
  pub unread : first_unread answers files ≡ refusal
  pub asked : new.asked ≡ a.asked ++ loads_until answers files
  pub answered : AreAnswers old new files answers
  pub follows : Follows a new

known_all : (answers : Answers) (files : List NamedFile) (old a new : Shelved) (bs : List (List ℕ)) → Follows old a → Agree answers files (map (λ b. Ok b) bs)
    → ReadsAll files a new bs → Known answers files old a new None
known_all answers [] old a new [] p agree r = record {
  unread = refl;
  asked = ap (λ (s : Shelved). s.asked) r ∙ sym (append-nil a.asked);
  answered = tt;
  follows = subst (λ (s : Shelved). Follows a s) (sym r) (follows_same a);
}
known_all answers [] old a new (b ∷ bs) p agree r = absurd r
known_all answers (f ∷ files) old a new [] p agree r = absurd r
known_all answers (f ∷ files) old a new (b ∷ bs) p agree r =
    let mid : Shelved = r.0 in
    let loads : Loads a mid f.1 (limit_of f.0) (Ok b) = r.1.0 in
    let step : Follows a mid = follows_load a mid f.1 (limit_of f.0) (Ok b) loads in
    let rest : Known answers files old mid new None = known_all answers files old mid new bs (follows_both old a mid p step) agree.1 r.1.1 in record {
      unread = subst (λ (x : Read). unless_unread f.0 x (first_unread answers files) ≡ None) (sym agree.0) rest.unread;
      asked = subst (λ (x : Read). new.asked ≡ a.asked ++ Load' f.1 x ∷ where_read x (loads_until answers files)) (sym agree.0)
          (rest.asked ∙ ap (λ (xs : List Asked). xs ++ loads_until answers files) loads.asked
          ∙ append_assoc a.asked (Load' f.1 (Ok b) ∷ []) (loads_until answers files));
      answered = (subst (λ (x : Read). IsAnswer old new f.0 f.1 x) (sym agree.0) (answer_among f.0 f.1 old a mid new (Ok b) p loads rest.follows), rest.answered);
      follows = follows_both a mid new step rest.follows;
    }

pub stop_reads : (files : List NamedFile) (a new : Shelved) (refusal : Refusal) → StopsAmong files a new refusal → List Read
stop_reads [] a new refusal s = absurd s
stop_reads (f ∷ files) a new refusal (inl here) = Err here.fault ∷ []
stop_reads (f ∷ files) a new refusal (inr s) = Ok s.1.0 ∷ stop_reads files s.0 new refusal s.1.1.1

known_stopped : (answers : Answers) (files : List NamedFile) (old a new : Shelved) (refusal : Refusal) (s : StopsAmong files a new refusal) → Follows old a
    → Agree answers files (stop_reads files a new refusal s) → Known answers files old a new (Some refusal)
unfolding stop_reads
known_stopped answers [] old a new refusal s p agree = absurd s
known_stopped answers (f ∷ files) old a new refusal (inl here) p agree = record {
  unread = subst (λ (x : Read). unless_unread f.0 x (first_unread answers files) ≡ Some refusal) (sym agree.0) (ap Some (sym here.names));
  asked = subst (λ (x : Read). new.asked ≡ a.asked ++ Load' f.1 x ∷ where_read x (loads_until answers files)) (sym agree.0) here.loads.asked;
  answered = (
    subst (λ (x : Read). IsAnswer old new f.0 f.1 x) (sym agree.0) (answer_among f.0 f.1 old a new new (Err here.fault) p here.loads (follows_same new)),
    none_agreed old new answers files agree.1,
  );
  follows = follows_load a new f.1 (limit_of f.0) (Err here.fault) here.loads;
}
known_stopped answers (f ∷ files) old a new refusal (inr s) p agree =
    let mid : Shelved = s.0 in
    let b : List ℕ = s.1.0 in
    let loads : Loads a mid f.1 (limit_of f.0) (Ok b) = s.1.1.0 in
    let step : Follows a mid = follows_load a mid f.1 (limit_of f.0) (Ok b) loads in
    let rest : Known answers files old mid new (Some refusal) = known_stopped answers files old mid new refusal s.1.1.1 (follows_both old a mid p step) agree.1 in record {
      unread = subst (λ (x : Read). unless_unread f.0 x (first_unread answers files) ≡ Some refusal) (sym agree.0) rest.unread;
      asked = subst (λ (x : Read). new.asked ≡ a.asked ++ Load' f.1 x ∷ where_read x (loads_until answers files)) (sym agree.0)
          (rest.asked ∙ ap (λ (xs : List Asked). xs ++ loads_until answers files) loads.asked
          ∙ append_assoc a.asked (Load' f.1 (Ok b) ∷ []) (loads_until answers files));
      answered = (subst (λ (x : Read). IsAnswer old new f.0 f.1 x) (sym agree.0) (answer_among f.0 f.1 old a mid new (Ok b) p loads rest.follows), rest.answered);
      follows = follows_both a mid new step rest.follows;
    }

-- the files of the ports are those that the answers give
same_port : (file : PortFile) (input output : List ℕ) → input ≡ file.input → output ≡ file.output
    → ◌≡◌ {A = PortFile} (record { input = input; output = output }) file
same_port file input output i o = subst (λ (x : List ℕ). ◌≡◌ {A = PortFile} (record { input = x; output = output }) file) (sym i)
    (subst (λ (x : List ℕ). ◌≡◌ {A = PortFile} (record { input = file.input; output = x }) file) (sym o) refl)

ports_given : (answers : Answers) (number : ℕ) (ports : List PortName) (files : List PortFile) (a new : Shelved)
    → ReadsAll (device_files number (port_names ports)) a new (port_bytes files)
    → ((k : ℕ) → answers (which.Device (k + number)) ≡ read_at (map (λ b. Ok b) (port_bytes files)) k) → port_files answers number ports ≡ files
ports_given answers number [] [] a new r each = refl
ports_given answers number [] (f ∷ files) a new r each = absurd r
ports_given answers number (p ∷ ports) [] a new r each = absurd r
ports_given answers number (p ∷ ports) (f ∷ files) a new r each =
    let zeroth : number ≡ 0 + number = omega arith in
    let next : number + 1 ≡ 1 + number = omega arith in
    let first : answers (which.Device number) ≡ Ok f.input = ap (λ (n : ℕ). answers (which.Device n)) zeroth ∙ each 0 in
    let second : answers (which.Device (number + 1)) ≡ Ok f.output = ap (λ (n : ℕ). answers (which.Device n)) next ∙ each 1 in
    let rest : port_files answers (number + 1 + 1) ports ≡ files = ports_given answers (number + 1 + 1) ports files r.1.1.0 new r.1.1.1.1
    (λ k. let on : k + (number + 1 + 1) ≡ suc (suc k) + number = omega arith in ap (λ (n : ℕ). answers (which.Device n)) on ∙ each (suc (suc k))) in
    ap (λ (x : PortFile). x ∷ port_files answers (number + 1 + 1) ports)
    (same_port f (device answers number) (device answers (number + 1)) (ap bytes_in first) (ap bytes_in second))
    ∙ ap (λ (xs : List PortFile). f ∷ xs) rest

same_files : (files : AuditFiles) (ports : List PortFile) → ports ≡ files.ports
    → ◌≡◌ {A = AuditFiles} (record { input = files.input; out = files.out; err = files.err; ports = ports }) files
same_files files ports is =
    subst (λ (ps : List PortFile). ◌≡◌ {A = AuditFiles} (record { input = files.input; out = files.out; err = files.err; ports = ps }) files) (sym is) refl

-- the program and the rescue file were accepted

accepted : (r v : Result Loaded Refusal) (loaded : Loaded) → r ≡ Ok loaded → IsOrMemory r v → v ≡ Ok loaded
accepted r v loaded is (inl same) = sym same ∙ is
accepted r v loaded is (inr memory) = let clash = sym memory ∙ is in cc

asked_whole : (old new loads : List Asked) (loaded : Loaded) → IsAskedFor (◌≡◌ {A = Result Loaded Refusal} (Ok loaded) (Err wanting)) old new loads → new ≡ old ++ loads
asked_whole old new loads loaded (inl is) = is
asked_whole old new loads loaded (inr wants) = let clash = wants.0 in cc

asked_too : (old mid new first more : List Asked) → mid ≡ old ++ first → new ≡ mid ++ more → new ≡ old ++ (first ++ more)
asked_too old mid new first more a b = b ∙ ap (λ (xs : List Asked). xs ++ more) a ∙ append_assoc old first more

-- what is known of the first files stays, whatever is answered for the further ones
points_stay : (first : Answers) (reads : List Read) (points : Option (List ℕ)) (old new : Shelved) → AreAnswers old new (points_files points) first
    → AreAnswers old new (points_files points) (all_answers first reads)
points_stay first reads None old new are = tt
points_stay first reads (Some name) old new are = are

first_stay : (f : Files) (first : Answers) (reads : List Read) (old new : Shelved) → AreAnswers old new (named_files f) first
    → AreAnswers old new (named_files f) (all_answers first reads)
first_stay f first reads old new are = (are.0, points_stay first reads f.points old new are.1)

pub audits_done : (f : Files) (names : FurtherNames) (old mid new : Shelved) (loaded : Loaded) (x : Further) → ReadsFiles f old mid (Ok loaded) → Follows old mid
    → ReadsAll (further_of names) mid new (further_bytes x)
    → AuditsFiles f names old new (Ok (task.Audit (record { loaded = loaded; history = x.history; files = x.files })))
audits_done f names old mid new loaded x reads p r =
    let bytes : List Read = map (λ b. Ok b) (further_bytes x) in
    let answers : Answers = all_answers reads.answers bytes in
    let known : Known answers (further_of names) old mid new None = known_all answers (further_of names) old mid new (further_bytes x) p (agree_further reads.answers bytes names) r in
    let is : loaded_of f answers ≡ Ok loaded = accepted (Ok loaded) (loaded_of f answers) loaded refl reads.value in
    let ports : port_files answers 3 names.ports ≡ x.files.ports = ports_given answers 3 names.ports x.files.ports r.1.1.1.1.1.1.0 new r.1.1.1.1.1.1.1.1
    (λ k. let place : suc (k + 3) ≡ suc (suc (suc (suc k))) = omega arith in ap (λ (n : ℕ). read_at bytes n) place) in
    let files : audit_files answers names.ports ≡ x.files = same_files x.files (port_files answers 3 names.ports) ports in record {
      answers = answers;
      answered = answers_both old new (named_files f) (further_of names) answers (answers_later old mid new (named_files f) answers (first_stay f reads.answers bytes old mid reads.answered) known.follows) known.answered;
      asked = inl (subst (λ (v : Result Loaded Refusal). new.asked ≡ old.asked ++ (loads_of_files f answers ++ further_loads v answers (further_of names))) (sym is)
          (asked_too old.asked mid.asked new.asked (loads_of_files f answers) (loads_until answers (further_of names))
          (asked_whole old.asked mid.asked (loads_of_files f answers) loaded reads.asked) known.asked));
      value = inl (subst (λ (v : Result Loaded Refusal). Ok (task.Audit (record { loaded = loaded; history = x.history; files = x.files })) ≡ audit_with v (further_of names) answers names.ports) (sym is)
          (subst (λ (u : Option Refusal). Ok (task.Audit (record { loaded = loaded; history = x.history; files = x.files })) ≡ audit_unless u loaded answers names.ports) (sym known.unread)
          (ap (λ (fs : AuditFiles). Ok (task.Audit (record { loaded = loaded; history = x.history; files = fs }))) (sym files))));
    }

pub audits_stopped : (f : Files) (names : FurtherNames) (old mid new : Shelved) (loaded : Loaded) (refusal : Refusal) → ReadsFiles f old mid (Ok loaded) → Follows old mid
    → StopsAmong (further_of names) mid new refusal → AuditsFiles f names old new (Err refusal)
audits_stopped f names old mid new loaded refusal reads p s =
    let bytes : List Read = stop_reads (further_of names) mid new refusal s in
    let answers : Answers = all_answers reads.answers bytes in
    let known : Known answers (further_of names) old mid new (Some refusal) = known_stopped answers (further_of names) old mid new refusal s p (agree_further reads.answers bytes names) in
    let is : loaded_of f answers ≡ Ok loaded = accepted (Ok loaded) (loaded_of f answers) loaded refl reads.value in record {
      answers = answers;
      answered = answers_both old new (named_files f) (further_of names) answers (answers_later old mid new (named_files f) answers (first_stay f reads.answers bytes old mid reads.answered) known.follows) known.answered;
      asked = inl (subst (λ (v : Result Loaded Refusal). new.asked ≡ old.asked ++ (loads_of_files f answers ++ further_loads v answers (further_of names))) (sym is)
          (asked_too old.asked mid.asked new.asked (loads_of_files f answers) (loads_until answers (further_of names))
          (asked_whole old.asked mid.asked (loads_of_files f answers) loaded reads.asked) known.asked));
      value = inl (subst (λ (v : Result Loaded Refusal). Err refusal ≡ audit_with v (further_of names) answers names.ports) (sym is)
          (subst (λ (u : Option Refusal). Err refusal ≡ audit_unless u loaded answers names.ports) (sym known.unread) refl));
    }

-- the first of these and of others

take_front : (xs ys : List Asked) → (n : ℕ) × (take n (xs ++ ys) ≡ xs)
take_front [] ys = (0, take_none ys)
take_front (x ∷ xs) ys = let t = take_front xs ys in (suc t.0, ap (λ (zs : List Asked). x ∷ zs) t.1)

take_within : (count : ℕ) (xs ys : List Asked) → (n : ℕ) × (take n (xs ++ ys) ≡ take count xs)
take_within zero xs ys = (0, take_none (xs ++ ys) ∙ sym (take_none xs))
take_within (suc count) [] ys = (0, take_none ys)
take_within (suc count) (x ∷ xs) ys = let t = take_within count xs ys in (suc t.0, ap (λ (zs : List Asked). x ∷ zs) t.1)

asked_more : (wanting : Type 0) (old new loads more : List Asked) → wanting → IsAskedFor wanting old new loads → IsAskedFor wanting old new (loads ++ more)
asked_more wanting old new loads more wants (inl is) =
    let t = take_front loads more in inr (wants, (t.0, is ∙ ap (λ (xs : List Asked). old ++ xs) (sym t.1)))
asked_more wanting old new loads more wants (inr w) =
    let t = take_within w.1.0 loads more in inr (wants, (t.0, w.1.1 ∙ ap (λ (xs : List Asked). old ++ xs) (sym t.1)))

asked_none : (wanting : Type 0) (old new loads : List Asked) → IsAskedFor wanting old new loads → IsAskedFor wanting old new (loads ++ [])
asked_none wanting old new loads asked = subst (λ (xs : List Asked). IsAskedFor wanting old new xs) (sym (append-nil loads)) asked

asked_refused : (f : Files) (names : FurtherNames) (answers : Answers) (refusal : Refusal) (v : Result Loaded Refusal) (old new : List Asked)
    → ◌≡◌ {A = Result Loaded Refusal} (Err refusal) v ⊎ (◌≡◌ {A = Result Loaded Refusal} (Err refusal) (Err wanting))
    → IsAskedFor (◌≡◌ {A = Result Task Refusal} (Err refusal) (Err wanting)) old new (loads_of_files f answers)
    → IsAskedFor (◌≡◌ {A = Result Task Refusal} (Err refusal) (Err wanting)) old new (loads_of_files f answers ++ further_loads v answers (further_of names))
asked_refused f names answers refusal v old new (inl is) asked =
    subst (λ (r : Result Loaded Refusal). IsAskedFor (◌≡◌ {A = Result Task Refusal} (Err refusal) (Err wanting)) old new (loads_of_files f answers ++ further_loads r answers (further_of names))) is
    (asked_none (◌≡◌ {A = Result Task Refusal} (Err refusal) (Err wanting)) old new (loads_of_files f answers) asked)
asked_refused f names answers refusal v old new (inr memory) asked =
    asked_more (◌≡◌ {A = Result Task Refusal} (Err refusal) (Err wanting)) old new (loads_of_files f answers) (further_loads v answers (further_of names)) (cc) asked

-- an refusal that another type's value is refused for
asked_as : {A B : Type 0} (old new loads : List Asked) → (A → B) → IsAskedFor A old new loads → IsAskedFor B old new loads
asked_as old new loads f (inl is) = inl is
asked_as old new loads f (inr wants) = inr (f wants.0, wants.1)

value_refused : (refusal : Refusal) (v : Result Loaded Refusal) (files : List NamedFile) (answers : Answers) (ports : List PortName)
    → IsOrMemory (Err refusal) v → IsOrMemory (Err refusal) (audit_with v files answers ports)
value_refused refusal v files answers ports (inl is) =
    inl (ap (λ (r : Result Loaded Refusal). audit_with r files answers ports) is)
value_refused refusal v files answers ports (inr memory) = inr (cc)

pub audits_refused : (f : Files) (names : FurtherNames) (old new : Shelved) (refusal : Refusal) → ReadsFiles f old new (Err refusal)
    → AuditsFiles f names old new (Err refusal)
audits_refused f names old new refusal reads =
    let answers : Answers = all_answers reads.answers [] in record {
      answers = answers;
      answered = answers_both old new (named_files f) (further_of names) answers (first_stay f reads.answers [] old new reads.answered) (none_agreed old new answers (further_of names) (agree_further reads.answers [] names));
      asked = asked_refused f names answers refusal (loaded_of f answers) old.asked new.asked reads.value
          (asked_as old.asked new.asked (loads_of_files f answers) (λ memory. cc) reads.asked);
      value = value_refused refusal (loaded_of f answers) (further_of names) answers names.ports reads.value;
    }

-- memory was wanting before any of them was asked for
pub audits_wanting : (f : Files) (names : FurtherNames) (s : Shelved) (refusal : Refusal) → refusal ≡ wanting → AuditsFiles f names s s (Err refusal)
audits_wanting f names s refusal is = record {
  answers = no_answers;
  answered = none_answered s s (named_files f ++ further_of names);
  asked = inr (ap Err is, (0, sym (append-nil s.asked) ∙ ap (λ (xs : List Asked). s.asked ++ xs) (sym (take_none (loads_of_files f no_answers ++ further_loads (loaded_of f no_answers) no_answers (further_of names))))));
  value = inr (ap Err is);
}

-- the same for loads that follow others
pub follows_all : (files : List NamedFile) (a new : Shelved) (bs : List (List ℕ)) → ReadsAll files a new bs → Follows a new
follows_all [] a new [] r = subst (λ (s : Shelved). Follows a s) (sym r) (follows_same a)
follows_all [] a new (b ∷ bs) r = absurd r
follows_all (f ∷ files) a new [] r = absurd r
follows_all (f ∷ files) a new (b ∷ bs) r =
    follows_both a r.0 new (follows_load a r.0 f.1 (limit_of f.0) (Ok b) r.1.0) (follows_all files r.0 new bs r.1.1)

pub follows_stopped : (files : List NamedFile) (a new : Shelved) (refusal : Refusal) → StopsAmong files a new refusal → Follows a new
follows_stopped [] a new refusal s = absurd s
follows_stopped (f ∷ files) a new refusal (inl here) = follows_load a new f.1 (limit_of f.0) (Err here.fault) here.loads
follows_stopped (f ∷ files) a new refusal (inr s) =
    follows_both a s.0 new (follows_load a s.0 f.1 (limit_of f.0) (Ok s.1.0) s.1.1.0) (follows_stopped files s.0 new refusal s.1.1.1)

-- the files of a port are loaded, and then those of the ports behind it

abbrev pub GoesOn : List NamedFile → Shelved → List PortFile → ℕ → List PortName → Shelved → Type 0
GoesOn whole first files number ports here = (new : Shelved) (more : List (List ℕ)) → ReadsAll (device_files number (port_names ports)) here new more
    → ReadsAll whole first new (port_bytes files ++ more)

abbrev pub StopsOn : List NamedFile → Shelved → ℕ → List PortName → Shelved → Type 0
StopsOn whole first number ports here = (new : Shelved) (refusal : Refusal) → StopsAmong (device_files number (port_names ports)) here new refusal
    → StopsAmong whole first new refusal

abbrev pub port_named_files : ℕ → PortName → List NamedFile
port_named_files number port = (which.Device number, port.input) ∷ (which.Device (number + 1), port.output) ∷ []

two_more : (number next : ℕ) → next ≡ number + 2 → next ≡ number + 1 + 1
two_more number next is = omega (arith, is)

pub port_read : (whole : List NamedFile) (first : Shelved) (files : List PortFile) (number next : ℕ) (port : PortName) (ports : List PortName) (here now : Shelved)
    (file : PortFile) → next ≡ number + 2 → ReadsAll (port_named_files number port) here now (file.input ∷ file.output ∷ [])
    → GoesOn whole first files number (port ∷ ports) here → GoesOn whole first (files ++ file ∷ []) next ports now
port_read whole first files number next port ports here now file is read on = λ new more rest.
    subst (λ (bs : List (List ℕ)). ReadsAll whole first new bs) (sym (port_bytes_last files file more))
    (on new (file.input ∷ file.output ∷ more)
    (reads_both (port_named_files number port) (device_files (number + 1 + 1) (port_names ports)) here now new (file.input ∷ file.output ∷ []) more read
    (subst (λ (n : ℕ). ReadsAll (device_files n (port_names ports)) now new more) (two_more number next is) rest)))

pub port_passed : (whole : List NamedFile) (first : Shelved) (number next : ℕ) (port : PortName) (ports : List PortName) (here now : Shelved)
    (file : PortFile) → next ≡ number + 2 → ReadsAll (port_named_files number port) here now (file.input ∷ file.output ∷ [])
    → StopsOn whole first number (port ∷ ports) here → StopsOn whole first next ports now
port_passed whole first number next port ports here now file is read on = λ new refusal rest.
    on new refusal
    (stops_behind (port_named_files number port) (device_files (number + 1 + 1) (port_names ports)) here now new (file.input ∷ file.output ∷ []) refusal read
    (subst (λ (n : ℕ). StopsAmong (device_files n (port_names ports)) now new refusal) (two_more number next is) rest))

pub port_stopped : (whole : List NamedFile) (first : Shelved) (number : ℕ) (port : PortName) (ports : List PortName) (here new : Shelved) (refusal : Refusal)
    → StopsAmong (port_named_files number port) here new refusal → StopsOn whole first number (port ∷ ports) here → StopsAmong whole first new refusal
port_stopped whole first number port ports here new refusal stop on =
    on new refusal (stops_before (port_named_files number port) (device_files (number + 1 + 1) (port_names ports)) here new refusal stop)

pub ports_read : (whole : List NamedFile) (first : Shelved) (files : List PortFile) (number : ℕ) (ports : List PortName) (here : Shelved) → ports ≡ []
    → GoesOn whole first files number ports here → ReadsAll whole first here (port_bytes files)
ports_read whole first files number ports here is on =
    subst (λ (bs : List (List ℕ)). ReadsAll whole first here bs) (append-nil (port_bytes files))
    (subst (λ (ps : List PortName). GoesOn whole first files number ps here) is on here [] refl)

-- before the first of them

none_dropped : (ports : List PortName) → drop 0 ports ≡ ports
none_dropped [] = refl
none_dropped (port ∷ ports) = refl

pub ports_begin : (first : Shelved) (ports : List PortName) (files : List PortFile) → files ≡ []
    → GoesOn (device_files 3 (port_names ports)) first files 3 (drop 0 ports) first
ports_begin first ports files none =
    subst (λ (ps : List PortName). GoesOn (device_files 3 (port_names ports)) first files 3 ps first) (sym (none_dropped ports))
    (subst (λ (fs : List PortFile). GoesOn (device_files 3 (port_names ports)) first fs 3 ports first) (sym none) (λ new more r. r))

pub stops_begin : (first : Shelved) (ports : List PortName) → StopsOn (device_files 3 (port_names ports)) first 3 (drop 0 ports) first
stops_begin first ports =
    subst (λ (ps : List PortName). StopsOn (device_files 3 (port_names ports)) first 3 ps first) (sym (none_dropped ports)) (λ new refusal s. s)

-- a file that stops the others, behind some that were read
pub stops_after : (done here more : List NamedFile) (old mid new : Shelved) (bs : List (List ℕ)) (refusal : Refusal) → ReadsAll done old mid bs
    → StopsAmong here mid new refusal → StopsAmong (done ++ (here ++ more)) old new refusal
stops_after done here more old mid new bs refusal r s =
    stops_behind done (here ++ more) old mid new bs refusal r (stops_before here more mid new refusal s)

-- Answers of a shelf, and shelves after loads.
use Rattle.std.proofs.Common.{◌≡◌, ℕ, ◌≤◌, false, List, [], ◌∷◌, ◌++◌, length, take, Option, Some, None, Ok, Err, refl, ap, sym, ◌∙◌, subst, IfSome, IsTrue, arith}
use Rattle.std.specs.Prelude.{option_map, IfOk}
use Rattle.std.proofs.lemmas.Bool.{both_ways}
use Rattle.edge_ports.specs.End.{raised}
use Rattle.edge_ports.specs.Shelves.{is_failed, is_long, Loads, Shelved}
use Rattle.edge_ports.specs.declared.shelf.ShelfFault.TheVariants.{Memory}
use Rattle.rescue_run.specs.declared.files.Files.{Files}
use Rattle.rescue_run.specs.declared.outcome.Which.{Which}
use Rattle.rescue_run.specs.declared.outcome.Which.TheVariants as which
use Rattle.rescue_run.specs.Outcomes.{limit_of}
use Rattle.rescue_run.specs.Loading.{named_files, points_files, Answers, NamedFile, Read}
use Rattle.rescue_run.specs.Reads.{AreAnswers, Follows, IsAnswer}

pub follows_same : (s : Shelved) → Follows s s
follows_same s = record {
  tells = refl;
  files = λ n. refl;
  later = λ n. omega arith;
  longs_later = λ n l. omega arith;
  saves = λ n. refl;
}

pub follows_both : (a b c : Shelved) → Follows a b → Follows b c → Follows a c
follows_both a b c p q = record {
  tells = q.tells ∙ p.tells;
  files = λ n. q.files n ∙ p.files n;
  later = λ n. let x = p.later n in let y = q.later n in omega (arith, x, y);
  longs_later = λ n l. let x = p.longs_later n l in let y = q.longs_later n l in omega (arith, x, y);
  saves = λ n. q.saves n ∙ p.saves n;
}

pub follows_load : (a b : Shelved) (name : List ℕ) (limit : ℕ) (answer : Read) → Loads a b name limit answer → Follows a b
follows_load a b name limit answer l = record {
  tells = l.tells;
  files = l.files;
  later = l.later;
  longs_later = l.longs_later;
  saves = l.saves;
}

-- a count that rose between others rose in all
rose : (old a b new : ℕ) → old ≤ a → raised a ≤ b → b ≤ new → raised old ≤ new
rose old a b new p q r = grind (arith, p, q, r)

moved_ok : (s t : Shelved) (name : List ℕ) (answer : Read) → t.file name ≡ s.file name
    → IfOk answer (λ bytes. t.file name ≡ Some bytes) → IfOk answer (λ bytes. s.file name ≡ Some bytes)
moved_ok s t name (Ok bytes) same is = sym same ∙ is
moved_ok s t name (Err fault) same is = is

-- the answer of one load among others
pub answer_among : (w : Which) (name : List ℕ) (old a b new : Shelved) (answer : Read)
    → Follows old a → Loads a b name (limit_of w) answer → Follows b new → IsAnswer old new w name answer
answer_among w name old a b new answer p l q = record {
  within = l.within;
  below = l.below;
  told = λ tells. moved_ok old a name answer (p.files name) (l.told (subst IsTrue (sym p.tells) tells));
  cause = λ reason failed. rose (old.faults name) (a.faults name) (b.faults name) (new.faults name) (p.later name) (l.cause reason failed) (q.later name);
  long = λ size long. rose (old.longs name (limit_of w)) (a.longs name (limit_of w)) (b.longs name (limit_of w)) (new.longs name (limit_of w))
      (p.longs_later name (limit_of w)) (l.long size long) (q.longs_later name (limit_of w));
  over = l.over;
  long_told = λ tells size long. sym (ap (option_map length) (p.files name)) ∙ l.long_told (subst IsTrue (sym p.tells) tells) size long;
}

-- want of memory says nothing of a file
pub no_answer : (old new : Shelved) (w : Which) (name : List ℕ) → IsAnswer old new w name (Err Memory)
no_answer old new w name = record {
  within = tt;
  below = tt;
  told = λ tells. tt;
  cause = λ reason e. absurd (both_ways false refl (ap is_failed e));
  long = λ size e. absurd (both_ways false refl (ap is_long e));
  over = λ size e. absurd (both_ways false refl (ap is_long e));
  long_told = λ tells size e. absurd (both_ways false refl (ap is_long e));
}

pub if_some : {A : Type 0} (P : A → Type 0) (o : Option A) → ((x : A) → P x) → IfSome o P
if_some P None each = tt
if_some P (Some x) each = each x

-- no file was asked for
abbrev pub no_answers : Which → Read
no_answers w = Err Memory

pub none_answered : (old new : Shelved) (files : List NamedFile) → AreAnswers old new files no_answers
none_answered old new [] = tt
none_answered old new (f ∷ files) = (no_answer old new f.0 f.1, none_answered old new files)

-- the program was, and maybe the rescue file
abbrev pub two_answers : Read → Read → Which → Read
two_answers program points which.Program = program
two_answers program points which.Points = points
two_answers program points which.History = Err Memory
two_answers program points (which.Device number) = Err Memory

answered_points : (old new : Shelved) (o : Option (List ℕ)) (answers : Answers) → IfSome o (λ name. IsAnswer old new which.Points name (answers which.Points))
    → AreAnswers old new (points_files o) answers
answered_points old new None answers points = tt
answered_points old new (Some name) answers points = (points, tt)

pub answered_files : (f : Files) (old new : Shelved) (answers : Answers) → IsAnswer old new which.Program f.program (answers which.Program)
    → IfSome f.points (λ name. IsAnswer old new which.Points name (answers which.Points)) → AreAnswers old new (named_files f) answers
answered_files f old new answers program points = (program, answered_points old new f.points answers points)

-- an answer, after further loads
pub answer_later : (w : Which) (name : List ℕ) (old a new : Shelved) (answer : Read) → IsAnswer old a w name answer → Follows a new → IsAnswer old new w name answer
answer_later w name old a new answer is q = record {
  within = is.within;
  below = is.below;
  told = is.told;
  cause = λ reason failed. let x = is.cause reason failed in let y = q.later name in grind (arith, x, y);
  long = λ size long. let x = is.long size long in let y = q.longs_later name (limit_of w) in grind (arith, x, y);
  over = is.over;
  long_told = is.long_told;
}

pub answers_later : (old a new : Shelved) (files : List NamedFile) (answers : Answers) → AreAnswers old a files answers → Follows a new → AreAnswers old new files answers
answers_later old a new [] answers are q = tt
answers_later old a new (f ∷ files) answers are q = (answer_later f.0 f.1 old a new (answers f.0) are.0 q, answers_later old a new files answers are.1 q)

pub answers_both : (old new : Shelved) (files more : List NamedFile) (answers : Answers) → AreAnswers old new files answers → AreAnswers old new more answers
    → AreAnswers old new (files ++ more) answers
answers_both old new [] more answers are too = too
answers_both old new (f ∷ files) more answers are too = (are.0, answers_both old new files more answers are.1 too)

pub take_one : {A : Type 0} (x : A) (xs : List A) → take 1 (x ∷ xs) ≡ x ∷ []
take_one x [] = refl
take_one x (y ∷ ys) = refl

pub take_none : {A : Type 0} (xs : List A) → take 0 xs ≡ []
take_none [] = refl
take_none (y ∷ ys) = refl

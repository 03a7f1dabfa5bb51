-- An audit finds nothing just where a history is as it says.
use Rattle.std.proofs.Common.{◌≡◌, ℕ, ◌+◌, suc, Bool, true, false, cond, ◌==◌, ◌&&◌, List, [], ◌∷◌, length, Option, Some, None, refl, ap, sym, ◌∙◌, subst, arith}
use Rattle.std.specs.Prelude.{option_map}
use Rattle.std.specs.List.{list_all}
use Rattle.std.specs.Option.{option_or}
use Rattle.std.proofs.lemmas.Bool.{and_from, eqb-true}
use Rattle.std.proofs.lemmas.Bool.Decides.{nat_tests}
use Rattle.guest_words.specs.declared.image.Image.{Image}
use Rattle.guest_words.specs.declared.point.Point.{Point}
use Rattle.guest_words.specs.State.{State}
use Rattle.history_file.specs.declared.head.Head.{Head}
use Rattle.history_file.specs.Starts.{first_illegal, start_by}
use Rattle.run_history.specs.declared.entry.Entry.{Entry}
use Rattle.run_history.specs.After.{after}
use Rattle.run_history.specs.Counts.{records_of_all}
use Rattle.run_history.specs.Legal.{legal}
use Rattle.run_history.specs.Run.{is_run}
use Rattle.run_history.proofs.Ands.{and_left, and_right}
use Rattle.rescue_audit.specs.declared.files.AuditFiles.{AuditFiles}
use Rattle.rescue_audit.specs.declared.no.No.{No}
use Rattle.rescue_audit.specs.declared.no.No.TheVariants.{Ports, Entry as EntryNo, Unended, Device}
use Rattle.rescue_audit.specs.Matches.{file_rules, first_broken, first_unmatched}
use Rattle.rescue_audit.specs.Verdict.{end_no, first_no, has_end, ports_no, IsAsSaid}

record AreNone (a b : Option No) : Type 0 where
  first : a ≡ None
  later : b ≡ None

both_none : (a b : Option No) → option_or a b ≡ None → AreNone a b
both_none None b is = record { first = refl; later = is }
both_none (Some x) b is = absurd cc

unmapped : {A : Type 0} (f : A → No) (o : Option A) → option_map f o ≡ None → o ≡ None
unmapped f None is = refl
unmapped f (Some x) is = absurd cc

kept_test : (b : Bool) (x : No) → cond b None (Some x) ≡ None → b ≡ true
kept_test true x is = refl
kept_test false x is = absurd cc

suc_none : (o : Option ℕ) → option_map suc o ≡ None → o ≡ None
suc_none None is = refl
suc_none (Some x) is = absurd cc

legal_if : (b : Bool) (o : Option ℕ) → cond b (option_map suc o) (Some 0) ≡ None → (b ≡ true) × (o ≡ None)
legal_if true o is = (refl, suc_none o is)
legal_if false o is = absurd cc

run_of : (s : State) (es : List Entry) → first_illegal s es ≡ None → is_run s es ≡ true
unfolding first_illegal
run_of s [] is = refl
run_of s (e ∷ es) is =
    let both = legal_if (legal s e) (first_illegal (after s e) es) is in
    and_from (legal s e) (is_run (after s e) es) both.0 (run_of (after s e) es both.1)

none_of_run : (s : State) (es : List Entry) → is_run s es ≡ true → first_illegal s es ≡ None
unfolding first_illegal
none_of_run s [] is = refl
none_of_run s (e ∷ es) is =
    ap (λ (t : Bool). cond t (option_map suc (first_illegal (after s e) es)) (Some 0)) (and_left (legal s e) (is_run (after s e) es) is)
    ∙ ap (option_map suc) (none_of_run (after s e) es (and_right (legal s e) (is_run (after s e) es) is))

more_none : (o : Option ℕ) → option_map (λ n. n + 1) o ≡ None → o ≡ None
more_none None is = refl
more_none (Some x) is = absurd cc

all_kept : (rules : List Bool) → first_broken rules ≡ None → list_all (λ kept. kept) rules ≡ true
all_kept [] is = refl
all_kept (true ∷ rules) is = all_kept rules (more_none (first_broken rules) is)
all_kept (false ∷ rules) is = absurd cc

none_broken : (rules : List Bool) → list_all (λ kept. kept) rules ≡ true → first_broken rules ≡ None
none_broken [] is = refl
none_broken (true ∷ rules) is = ap (option_map (λ n. n + 1)) (none_broken rules is)
none_broken (false ∷ rules) is = absurd cc

pub as_said : (image : Image) (points : List Point) (head : Head) (es : List Entry) (files : AuditFiles)
    → first_no (start_by image points head) head.ports es files ≡ None → IsAsSaid image points head es files
as_said image points head es files is =
    let start = start_by image points head in
    let a = both_none (ports_no (length files.ports) head.ports) _ is in
    let b = both_none (option_map EntryNo (first_illegal start es)) _ a.later in
    let c = both_none (end_no es) _ b.later in
    record {
      ports = eqb-true (length files.ports) head.ports (kept_test (length files.ports == head.ports) (Ports (length files.ports) head.ports) a.first);
      run = run_of start es (unmapped EntryNo (first_illegal start es) b.first);
      ends = kept_test (has_end es) Unended c.first;
      matches = all_kept (file_rules files (records_of_all es)) (unmapped Device (first_unmatched files (records_of_all es)) c.later);
    }

same_test : (n k : ℕ) → n ≡ k → (n == k) ≡ true
same_test n k is = grind (arith, nat_tests, is)

same_ports : (n k : ℕ) → n ≡ k → ports_no n k ≡ None
same_ports n k is = ap (λ (t : Bool). cond t None (Some (Ports n k))) (same_test n k is)

none_before : (a b : Option No) → a ≡ None → option_or a b ≡ b
none_before a b is = ap (λ (o : Option No). option_or o b) is

pub finds_none : (image : Image) (points : List Point) (head : Head) (es : List Entry) (files : AuditFiles)
    → IsAsSaid image points head es files → first_no (start_by image points head) head.ports es files ≡ None
finds_none image points head es files h =
    let start = start_by image points head in
    none_before (ports_no (length files.ports) head.ports) _ (same_ports (length files.ports) head.ports h.ports)
    ∙ none_before (option_map EntryNo (first_illegal start es)) _ (ap (option_map EntryNo) (none_of_run start es h.run))
    ∙ none_before (end_no es) _ (ap (λ (t : Bool). cond t None (Some Unended)) h.ends)
    ∙ ap (option_map Device) (none_broken (file_rules files (records_of_all es)) h.matches)

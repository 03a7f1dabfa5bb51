-- Steps only append.
use Rattle.std.proofs.Common.{◌≡◌, ℕ, ◌<◌, Bool, true, false, List, [], ◌∷◌, ◌++◌, length, refl, ap, sym, ◌∙◌, append_assoc, rules}
use Rattle.guest_words.specs.declared.hart.Hart.{Hart}
use Rattle.guest_words.specs.Act.{StateAct, Ordinary, Fault, Request, Arrival, End, Absent, act_of}
use Rattle.guest_words.specs.Endings.{is_budget_spent}
use Rattle.guest_words.specs.State.{State}
use Rattle.run_history.specs.declared.entry.Entry.{Entry, Ran, Entered, Called}
use Rattle.run_history.specs.LastEntry.{with_acts}
use Rattle.open_calls.specs.Nest.{Level, flat_from, joined, lowest, lowest_from}
use Rattle.open_calls.proofs.Nests.{flat_push}
use Rattle.machine_core.specs.declared.commit.Commit.{Commit}
use Rattle.machine_core.specs.declared.commit.Commit.TheVariants as commit
use Rattle.machine_core.specs.Appends.{Appends}
use Rattle.machine_core.specs.Commits.{CommitsTo}
use Rattle.machine_core.specs.Machine.{Machine, Opened, history_of}
use Rattle.machine_core.specs.OpenSteps.{Does, DoesBy, StepsTo}
use Rattle.machine_core.proofs.Nesting.{flat_acts, lowest_under}

pub appends_same : (old new : List Entry) → new ≡ old → Appends old new
appends_same old new same = record { more = []; parts = same ∙ search rules }

pub appends_more : (old mid new more : List Entry) → Appends old mid → new ≡ mid ++ more → Appends old new
appends_more old mid new more a parts = record {
  more = a.more ++ more;
  parts = parts ∙ ap (λ (es : List Entry). es ++ more) a.parts ∙ append_assoc old a.more more;
}

history_same : (m n : Machine) → n ≡ m → Appends m.history n.history
history_same m n same = appends_same m.history n.history (ap (λ (x : Machine). x.history) same)

pub commit_appends : (h : ℕ) (base to : Hart) (count : ℕ) (m : Machine) (r : Commit) (n : Machine) → CommitsTo h base to count m r n → Appends m.history n.history
commit_appends h base to count m commit.Committed n came = record { more = Ran h count ∷ []; parts = ap (λ (x : Machine). x.history) came.2.same }
commit_appends h base to count m (commit.Moved kept) n came = history_same m n came.2
commit_appends h base to count m (commit.Short left) n came = history_same m n came.3
commit_appends h base to count m commit.Memory n came = history_same m n came

-- with calls open

-- the whole history begins with the entries before the outermost call
pub flat_appends : (h : ℕ) (os : List Level) (es : List Entry) → Appends (lowest_from os es) (flat_from h os es)
flat_appends h [] es = appends_same es es refl
flat_appends h (o ∷ os) es =
    appends_more (lowest_from os o.entries) (flat_from h os o.entries) (flat_from h os (joined h o es)) (Entered h o.point ∷ es)
    (flat_appends h os o.entries) (flat_push h os o.entries (Entered h o.point ∷ es))

-- and so it does with acts more
acts_append : (h n : ℕ) (os : List Level) (es : List Entry) → 0 < length os → Appends (lowest_from os es) (with_acts h n (flat_from h os es))
acts_append h n os es some =
    let a = flat_appends h os (with_acts h n es) in
    record {
      more = a.more;
      parts = sym (flat_acts h n os es) ∙ a.parts ∙ ap (λ (xs : List Entry). xs ++ a.more) (lowest_under os (with_acts h n es) es some);
    }

behind : (a : Opened) (m : Machine) (more : List Entry) → m.history ≡ history_of a ++ more → Appends (lowest a.nest) m.history
behind a m more parts =
    appends_more (lowest a.nest) (history_of a) m.history more (flat_appends a.hart a.nest.outers a.nest.entries) parts

does_append : (start : State) (a : Opened) (m : Machine) (x : StateAct) → 0 < length a.nest.outers → Does start a x m → Appends (lowest a.nest) m.history
does_append start a m (Ordinary t) some acts =
    let put = acts_append a.hart acts.count a.nest.outers a.nest.entries some in
    record { more = put.more; parts = ap (λ (y : Machine). y.history) acts.same ∙ put.parts }
does_append start a m (Fault name) some erases =
    appends_more (lowest a.nest) erases.before m.history _ (record { more = erases.since; parts = erases.follows }) (ap (λ (y : Machine). y.history) erases.same)
does_append start a m (Request w port asked place) some calls = behind a m (Called a.hart calls.call ∷ []) (ap (λ (y : Machine). y.history) calls.same)
does_append start a m (Arrival p) some enters = behind a m (Entered a.hart p ∷ []) (ap (λ (y : Machine). y.history) enters.same)
does_append start a m (End code) some ends = behind a m _ (ap (λ (y : Machine). y.history) ends.same)
does_append start a m Absent some does = absurd does

pub open_appends : (start : State) (a : Opened) (m : Machine) → 0 < length a.nest.outers → StepsTo start a m → Appends (lowest a.nest) m.history
open_appends start a m some steps = by (is_budget_spent a.state) steps
  where
    by : (b : Bool) → DoesBy start a b m → Appends (lowest a.nest) m.history
    by true ends = behind a m _ (ap (λ (y : Machine). y.history) ends.same)
    by false does = does_append start a m (act_of a.state a.hart) some does

use Rattle.std.proofs.Common.{◌≡◌, ℕ, ◌≤◌, ◌<◌, List, [], ◌∷◌, ◌++◌, length, map, reverse, take, option_to_list, sym, ap, ◌∙◌, subst, arith}
use Rattle.std.proofs.lemmas.List.{reverse-append, take_all}
use Rattle.guest_words.specs.declared.hart.Frame.{Frame}
use Rattle.rescue_trial.proofs.Firsts.{joined_firsts, joined_firsts-all, joined_firsts-full, joined_firsts-more, joined_firsts-none, length-with_once}
use Rattle.rescue_trial.proofs.path.entries_of.Goals as goal

abbrev entries : List Frame → List ℕ
entries calls = map (λ call. call.point.entry) calls

pub loop-calls-init : goal.loop-calls-init
loop-calls-init c =
    let fresh = c.new-path.ensures.items in
    let none : length c.new-path.result.items ≡ 0 = ap length fresh in
    let ns = entries (reverse c.args.calls.items) in
    (omega (arith, none), ap (take 64) (ap (λ xs. joined_firsts xs ns) fresh ∙ joined_firsts-none ns))

pub loop-calls-preserved : goal.loop-calls-preserved
loop-calls-preserved c =
    let path = c.loop-calls.path.items in
    let left = c.pop.new.self.items in
    let call = c.in-Some.call in
    let n = call.point.entry in
    let ok = c.loop-calls.path.ok in
    let few : length path < 64 = omega (arith, ok, c.len.ensures, c.loop-calls-test.true) in
    let put = c.in_ok-put_once-in-Some.ensures.ok in
    let more = length-with_once path n in
    let taken : c.loop-calls.calls.items ≡ left ++ call ∷ [] = c.pop.ensures.items ∙ ap (λ o. left ++ option_to_list o) c.in-Some.is in (
      subst (λ (xs : List ℕ). length xs ≤ 64) (sym put) (omega (arith, few, more)),
      ap (λ xs. take 64 (joined_firsts xs (entries (reverse left)))) put
          ∙ ap (take 64) (sym (joined_firsts-more path (entries (reverse left)) n))
          ∙ ap (λ cs. take 64 (joined_firsts path (entries cs))) (sym (reverse-append left (call ∷ [])))
          ∙ ap (λ cs. take 64 (joined_firsts path (entries (reverse cs)))) (sym taken)
          ∙ c.loop-calls.invariant.1,
    )

pub returns-in-None : goal.returns-in-None
returns-in-None c =
    let path = c.loop-calls.path.items in
    let ok = c.loop-calls.calls.ok in
    let empty : c.loop-calls.calls.items ≡ [] = sym (take_all 0 c.loop-calls.calls.items (omega (arith, ok, c.in-None.ensures.cases))) in
    record {
      ok = sym (joined_firsts-all path c.loop-calls.invariant.0)
          ∙ ap (λ cs. take 64 (joined_firsts path (entries (reverse cs)))) (sym empty)
          ∙ c.loop-calls.invariant.1;
    }

pub returns : goal.returns
returns c =
    let path = c.loop-calls.path.items in
    let ok = c.loop-calls.path.ok in
    let few = c.loop-calls.invariant.0 in
    let full : length path ≡ 64 = omega (arith, ok, few, c.len.ensures, c.loop-calls-test.false) in
    record { ok = sym (joined_firsts-full path (entries (reverse c.loop-calls.calls.items)) full) ∙ c.loop-calls.invariant.1 }

-- One word more.
use Rattle.std.proofs.Common.{◌≡◌, ℕ, zero, suc, ◌+◌, refl, ap, sym, ◌∙◌, arith}
use Rattle.rand_pcg.specs.Lcg.{next, next_state, state_after}
use Rattle.rand_pcg.specs.Pcg.{multiplier_64}
use Rattle.seed_words.specs.Words.{words_at}

state_last : (w m increment n state : ℕ) → state_after w m increment (suc n) state ≡ next_state w m increment (state_after w m increment n state)
unfolding state_after
state_last w m increment zero state = refl
state_last w m increment (suc n) state = state_last w m increment n (next_state w m increment state)

pub words-next : (seed drawn : ℕ) → next 64 multiplier_64 (words_at seed drawn) ≡ words_at seed (drawn + 1)
unfolding words_at state_after
words-next seed drawn =
    let last : drawn + 1 ≡ suc drawn = omega arith in
    let g = words_at seed 0 in
    sym (ap (λ n. words_at seed n) last ∙ ap (λ (n : ℕ). record g { state = n }) (state_last 64 multiplier_64 g.increment drawn g.state))

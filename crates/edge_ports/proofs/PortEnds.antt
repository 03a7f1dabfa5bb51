-- What the devices tell after a call on one port.
use Rattle.std.proofs.Common.{◌≡◌, ◌≢◌, ◌⊎◌, inl, inr, ℕ, ◌+◌, ◌-◌, ◌<◌, ◌≤◌, List, [], ◌∷◌, ◌++◌, length, map, set, get_or, refl, sym, subst, ◌∙◌, ap, arith, length-set}
use Rattle.std.proofs.lemmas.Bool.Decides.{nat_tests}
use Rattle.std.proofs.lemmas.List.{length-map, map-set, get_or-set_same, get_or-set_other, get_or-map}
use Rattle.std.specs.Prelude.{Vec}
use Rattle.std.specs.Vec.{with_item}
use Rattle.std.specs.declared.alloc.Global.{Global}
use Rattle.edge_ports.specs.End.{End, ended, untold}
use Rattle.edge_ports.specs.Seen.{Seen, seen, end_at, port_shut, OthersStay, SameBut}
use Rattle.edge_ports.specs.declared.devices.Devices.{Devices}

-- another port at the place i
abbrev pub with_port : Seen → ℕ → End → Seen
with_port s i now = record { input = s.input; out = s.out; err = s.err; ports = set s.ports i now; closed = s.closed; shut = s.shut }

pub end_at-high : (s : Seen) (k : ℕ) → 3 ≤ k → end_at s k ≡ get_or s.ports (k - 3) (untold 0 0)
end_at-high s k high = grind (arith, nat_tests)

-- the first three don't depend on the ports
pub end_at-low : (s t : Seen) (k : ℕ) → k < 3 → t.input ≡ s.input → t.out ≡ s.out → t.err ≡ s.err → end_at t k ≡ end_at s k
end_at-low s t k low input out err = grind (arith, nat_tests)

pub low_or_high : (k : ℕ) → (k < 3) ⊎ (3 ≤ k)
low_or_high k = grind arith

pub end_at-with_port_same : (s : Seen) (fd : ℕ) (now : End) → 3 ≤ fd → fd < 3 + length s.ports → end_at (with_port s (fd - 3) now) fd ≡ now
end_at-with_port_same s fd now high within = end_at-high (with_port s (fd - 3) now) fd high ∙ get_or-set_same s.ports (fd - 3) now (untold 0 0) (omega arith)

pub end_at-with_port_other : (s : Seen) (fd k : ℕ) (now : End) → 3 ≤ fd → k ≢ fd → end_at (with_port s (fd - 3) now) k ≡ end_at s k
end_at-with_port_other s fd k now high apart = at (low_or_high k)
  where
    at : (k < 3) ⊎ (3 ≤ k) → end_at (with_port s (fd - 3) now) k ≡ end_at s k
    at (inl low) = end_at-low s (with_port s (fd - 3) now) k low refl refl refl
    at (inr above) =
        let off : k - 3 ≢ fd - 3 = omega arith in
        end_at-high (with_port s (fd - 3) now) k above ∙ get_or-set_other s.ports (fd - 3) (k - 3) now (untold 0 0) off ∙ sym (end_at-high s k above)

module _ {S T P : Type 0} (source : S → End) (sink : T → End) (port : P → End) (d : Devices S T P) (fd : ℕ) (high : 3 ≤ fd) (within : fd < 3 + length d.ports.items) (was : P) (at : was ≡ get_or d.ports.items (fd - 3) was) where
  -- a write through `&mut ports[fd - 3]`
  abbrev pub moved : P → Devices S T P
  moved now = record d { ports = with_item d.ports (fd - 3) now }

  pub seen-moved : (now : P) → seen source sink port (moved now) ≡ with_port (seen source sink port d) (fd - 3) (port now)
  seen-moved now =
      let s = seen source sink port d in
      ap (λ (l : List End). record { input = s.input; out = s.out; err = s.err; ports = l; closed = s.closed; shut = s.shut }) (map-set port d.ports.items (fd - 3) now)

  in_range : fd < 3 + length (map port d.ports.items)
  in_range = omega (arith, length-map d.ports.items port)

  pub before : end_at (seen source sink port d) fd ≡ port was
  before =
      let place : fd - 3 < length d.ports.items = omega arith in
      end_at-high (seen source sink port d) fd high ∙ get_or-map port d.ports.items (fd - 3) was (untold 0 0) place ∙ ap port (sym at)

  pub after : (now : P) → end_at (seen source sink port (moved now)) fd ≡ port now
  after now = ap (λ (s : Seen). end_at s fd) (seen-moved now) ∙ end_at-with_port_same (seen source sink port d) fd (port now) high in_range

  -- what a call did to the port, it did to the device at the descriptor
  module _ (Q : End → End → Type 0) where
    pub acts : (now : P) → Q (port was) (port now) → Q (end_at (seen source sink port d) fd) (end_at (seen source sink port (moved now)) fd)
    acts now did = subst (λ (e : End). Q e (end_at (seen source sink port (moved now)) fd)) (sym before) (subst (λ (e : End). Q (port was) e) (sym (after now)) did)

  pub stays : (now : P) → (port now).closes ≡ (port was).closes → SameBut fd (seen source sink port d) (seen source sink port (moved now))
  stays now closes = record {
    others = λ k apart. ap (λ (s : Seen). end_at s k) (seen-moved now) ∙ end_at-with_port_other (seen source sink port d) fd k (port now) high apart;
    closes = acts (λ a b. b.closes ≡ a.closes) now closes;
    count = ap (λ (s : Seen). length s.ports) (seen-moved now) ∙ length-set (map port d.ports.items) (fd - 3) (port now);
    closed = refl;
    shut = refl;
  }

  pub others : (now : P) (shut : Vec ℕ Global) → OthersStay fd d (record (moved now) { shut = shut })
  others now shut = record {
    input = λ _. refl;
    out = λ _. refl;
    err = λ _. refl;
    ports = λ k e apart. let off : k ≢ fd - 3 = omega arith in get_or-set_other d.ports.items (fd - 3) k now e off;
  }

  -- its close, and its descriptor behind the list
  pub shuts : (now : P) (shut : List ℕ) → port now ≡ ended (port was) → shut ≡ d.shut.items ++ fd ∷ []
      → record { input = source d.input; out = sink d.out; err = sink d.err; ports = map port (set d.ports.items (fd - 3) now); closed = d.closed; shut = shut } ≡ port_shut fd (seen source sink port d)
  shuts now shut now_is shut_is =
      let s = seen source sink port d in
      let end_is : port now ≡ ended (end_at s fd) = now_is ∙ ap ended (sym before) in
      ap (λ (l : List End). record { input = s.input; out = s.out; err = s.err; ports = l; closed = s.closed; shut = shut }) (map-set port d.ports.items (fd - 3) now ∙ ap (λ (e : End). set s.ports (fd - 3) e) end_is)
      ∙ ap (λ (l : List ℕ). record { input = s.input; out = s.out; err = s.err; ports = set s.ports (fd - 3) (ended (end_at s fd)); closed = s.closed; shut = l }) shut_is

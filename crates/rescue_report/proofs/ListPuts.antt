-- The puts of a text, piece by piece.
use Rattle.std.proofs.Common.{◌≡◌, ℕ, List, [], ◌++◌, ◌≤◌, Option, Some, None, Result, Ok, Err, refl, sym, ap, ◌∙◌, subst}
use Rattle.std.specs.Prelude.{OnOk}
use Rattle.std.specs.List.{flat_map}
use Rattle.std.proofs.lemmas.List.{append_assoc, append-nil}
use Rattle.elf_symbols.specs.declared.symbol.Symbol.{Symbol}
use Rattle.edge_ports.specs.End.{End, Came, Puts, raised}
use Rattle.rescue_report.specs.List.{IsOrdered, symbol_line}
use Rattle.rescue_report.specs.ListPuts.{BreaksFront, BrokeList, CameList, PutsFront}

pub came_none : (given : Option (List ℕ)) → Came given [] given
came_none None = refl
came_none (Some bytes) = ap Some (sym (append-nil bytes))

pub came_both : (old mid new : Option (List ℕ)) (a b : List ℕ) → Came old a mid → Came mid b new → Came old (a ++ b) new
came_both None mid new a b first second =
    subst (λ m. Came m b new) first second
came_both (Some bytes) mid new a b first second =
    subst (λ m. Came m b new) first second ∙ ap Some (append_assoc bytes a b)

-- nothing came, and all is kept
pub PutsFront-none : (text rest : List ℕ) (end : End) → text ≡ rest → PutsFront text rest end end
PutsFront-none text rest end whole = record { front = []; whole = whole; came = came_none end.given; faults = refl }

module _ (all text piece rest : List ℕ) (old mid new : End) where
  -- what came of a text whose next piece is put
  whole_with : (front front' rest' : List ℕ) → all ≡ front ++ (text ++ (piece ++ rest)) → text ++ piece ≡ front' ++ rest'
      → all ≡ (front ++ front') ++ (rest' ++ rest)
  whole_with front front' rest' whole next =
      whole
      ∙ ap (λ xs. front ++ xs) (sym (append_assoc text piece rest) ∙ ap (λ xs. xs ++ rest) next ∙ append_assoc front' rest' rest)
      ∙ sym (append_assoc front front' (rest' ++ rest))

  pub PutsFront-then : (text' : List ℕ) → PutsFront all (text ++ (piece ++ rest)) old mid → PutsFront (text ++ piece) text' mid new → PutsFront all (text' ++ rest) old new
  PutsFront-then text' is puts = record {
    front = is.front ++ puts.front;
    whole = whole_with is.front puts.front text' is.whole puts.whole;
    came = came_both old.given mid.given new.given is.front puts.front is.came puts.came;
    faults = puts.faults ∙ is.faults;
  }

  pub BreaksFront-then : PutsFront all (text ++ (piece ++ rest)) old mid → BreaksFront (text ++ piece) mid new → BreaksFront all old new
  BreaksFront-then is breaks = record {
    front = is.front ++ breaks.front;
    rest = breaks.rest ++ rest;
    whole = whole_with is.front breaks.front breaks.rest is.whole breaks.whole;
    came = came_both old.given mid.given new.given is.front breaks.front is.came breaks.came;
    counts = subst (λ n. raised n ≤ new.faults) is.faults breaks.counts;
  }

-- two texts are put, and nothing is kept
pub puts_both : {T U E F : Type 0} (text bytes rest : List ℕ) (old mid new : End) (done : T) (r : Result U F)
    → Puts {E = E} old mid text (Ok done) → Puts mid new bytes r → rest ≡ [] → OnOk r (PutsFront (text ++ bytes) rest old new)
puts_both text bytes rest old mid new done (Ok both) first second none = record {
  front = text ++ bytes;
  whole = sym (append-nil (text ++ bytes)) ∙ ap (λ xs. (text ++ bytes) ++ xs) (sym none);
  came = came_both old.given mid.given new.given text bytes first.given second.given;
  faults = second.faults ∙ first.faults;
}
puts_both text bytes rest old mid new done (Err failed) first second none = tt

module _ (symbols ordered : List Symbol) (old new : End) (order : IsOrdered symbols ordered) where
  pub list_came : PutsFront (flat_map symbol_line ordered) [] old new → CameList symbols old new
  list_came puts = record {
    text = puts.front;
    lists = record { ordered = ordered; order = order; lines = sym (puts.whole ∙ append-nil puts.front) };
    came = puts.came;
  }

  pub list_broke : BreaksFront (flat_map symbol_line ordered) old new → BrokeList symbols old new
  list_broke breaks = record {
    began = record {
      front = breaks.front;
      rest = breaks.rest;
      lists = record { ordered = ordered; order = order; lines = sym breaks.whole };
      came = breaks.came;
    };
    counts = breaks.counts;
  }

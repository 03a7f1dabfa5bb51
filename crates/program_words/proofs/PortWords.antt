-- The port words of a parse, and those of texts behind references.
use Rattle.std.proofs.Common.{◌≡◌, ◌∙◌, ◌+◌, ℕ, Bool, List, [], ◌∷◌, map, Option, Some, None, ap, ap₂, refl, not, codes}
use Rattle.std.specs.Prelude.{cond, nat_lt, option_map, position, unwrap_or}
use Rattle.std.specs.List.{position_or_len}
use Rattle.std.specs.Borrow.{Bor}
use Rattle.std.proofs.lemmas.List.{length-map}
use Rattle.clap.specs.Matches.{matched_of, raw_values}
use Rattle.clap.specs.Walk.{Text, rows_of}
use Rattle.clap.specs.declared.parser.matches.Found.{Found}
use Rattle.clap.proofs.WalkLemmas.{raw_values-rows}
use Rattle.program_words.specs.Words.{port_words}

position_or_len-map : {X Y : Type 0} (p : Y → Bool) (f : X → Y) (xs : List X) → position_or_len p (map f xs) ≡ position_or_len (λ x. p (f x)) xs
position_or_len-map p f [] = refl
position_or_len-map p f (x ∷ xs) = ap (λ n. cond (not (p (f x))) (1 + n) 0) (position_or_len-map p f xs)

pub position-map : {X Y : Type 0} (p : Y → Bool) (f : X → Y) (xs : List X) → position p (map f xs) ≡ position (λ x. p (f x)) xs
position-map p f xs =
    ap₂ (λ (i n : ℕ). cond (nat_lt i n) (Some i) None) (position_or_len-map p f xs) (length-map xs f)

-- the texts that the getter gives are the port words
pub given : (f : Found) (words : Bor (List (Bor Text)))
    → option_map (λ (s : Bor (List (Bor Text))). map (λ v. v.now) s.now) (Some words) ≡ option_map raw_values (matched_of f (codes "ports"))
    → map (λ v. v.now) words.now ≡ port_words (rows_of f)
given f words e = ap (λ (o : Option (List Text)). unwrap_or o []) (e ∙ raw_values-rows f (codes "ports"))

pub none_given : (f : Found) → ◌≡◌ {A = Option (List Text)} None (option_map raw_values (matched_of f (codes "ports"))) → [] ≡ port_words (rows_of f)
none_given f e = ap (λ (o : Option (List Text)). unwrap_or o []) (e ∙ raw_values-rows f (codes "ports"))

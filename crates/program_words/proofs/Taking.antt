-- What `clap` says of a parse, of the commands here.
use Rattle.std.proofs.Common.{◌≡◌, ◌∙◌, true, false, List, [], ◌∷◌, length, ap, sym, refl, inl, inr, arith}
use Rattle.std.proofs.lemmas.Bool.{ne_eqb}
use Rattle.clap.specs.Words.{App, HasMatchesOf, Text, fault_of, found_of, is_simple, is_simple_and_free, kind_of, matches_of, rows_of}
use Rattle.clap.specs.Kinds.{HasKind, IsAmong, Kinds}
use Rattle.clap.specs.Walk.{is_empty}
use Rattle.clap.specs.declared.error.Error.{Error}
use Rattle.clap.specs.declared.error.kind.ErrorKind.{ErrorKind}
use Rattle.clap.specs.declared.parser.matches.ArgMatches.{ArgMatches}
use Rattle.program_words.specs.declared.command_kind.CommandKind.{CommandKind}
use Rattle.program_words.specs.declared.command_kind.CommandKind.TheVariants.{Run, Alone, List as Listing, Load, Audit, Try, Help, Version}
use Rattle.program_words.specs.declared.word_fault.WordFault.{WordFault}
use Rattle.program_words.specs.declared.words_fault.WordsFault.TheVariants.{Memory, Words}
use Rattle.program_words.specs.Refusal.{refusal_of}
use Rattle.program_words.specs.Table.{app_named}
use Rattle.program_words.specs.Words.{is_taken, rows_in}

simple : (kind : CommandKind) → is_simple (app_named kind) ≡ true
simple Run = refl
simple Alone = refl
simple Listing = refl
simple Load = refl
simple Audit = refl
simple Try = refl
simple Help = refl
simple Version = refl

free : (kind : CommandKind) → is_simple_and_free (app_named kind) ≡ true
free Run = refl
free Alone = refl
free Listing = refl
free Load = refl
free Audit = refl
free Try = refl
free Help = refl
free Version = refl

-- a parse that succeeds takes the words
pub taken : (kind : CommandKind) (a : App) (words : List Text) → a ≡ app_named kind → (is_simple_and_free a ≡ true → fault_of a words ≡ []) → is_taken kind words ≡ true
unfolding is_taken
taken kind a words is ok =
    let none : fault_of a words ≡ [] = ok (ap is_simple_and_free is ∙ free kind) in
    ap is_empty (ap (λ (b : App). fault_of b words) (sym is) ∙ none)

-- and gives the rows of the command
pub rows : (kind : CommandKind) (a : App) (words : List Text) (m : ArgMatches) → a ≡ app_named kind → HasMatchesOf a words m → rows_of (found_of m) ≡ rows_in kind words
unfolding rows_in
rows kind a words m is matched = (matched (ap is_simple is ∙ simple kind)).0 ∙ ap (λ (b : App). matches_of b words) is

not_empty : (k : ErrorKind) (ks : Kinds) → IsAmong k ks → is_empty ks ≡ false
not_empty k [] among = absurd among
not_empty k (x ∷ xs) among = ne_eqb (length (x ∷ xs)) 0 (λ e. omega arith)

no_words : (fault : WordFault) → Memory ≡ Words fault → ⊥
no_words fault e = cc

-- a parse that is refused for another cause than memory doesn't take them
pub refused : (kind : CommandKind) (a : App) (words : List Text) (e : Error) (fault : WordFault) → a ≡ app_named kind
    → (is_simple_and_free a ≡ true → HasKind (fault_of a words) e) → refusal_of (kind_of e) ≡ Words fault → is_taken kind words ≡ false
unfolding is_taken
refused kind a words e fault is err cause =
    elim (err (ap is_simple_and_free is ∙ free kind)) [
      | inl memory ↦ absurd (no_words fault (sym (ap refusal_of memory) ∙ cause))
      | inr among ↦ ap is_empty (ap (λ (b : App). fault_of b words) (sym is)) ∙ not_empty (kind_of e) (fault_of a words) among
    ]

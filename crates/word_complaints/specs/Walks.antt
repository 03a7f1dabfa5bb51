-- A walk over the words behind a command, and the first thing that is wrong.
use Rattle.std.specs.Prelude.{ℕ, ◌==◌, ◌&&◌, Bool, true, false, List, [], ◌∷◌, length, nat_lt, slice_index, Option, Some, None, Result, Ok, Err, codes, if◌then◌else◌}
use Rattle.std.specs.Str.{bytes_eq}
use Rattle.clap.specs.Lexer.{name_and_value}
use Rattle.clap.specs.ValueTests.{is_unsigned_in}
use Rattle.clap.specs.Words.{Text}
use Rattle.program_words.specs.Ports.{is_port}
use Rattle.program_words.specs.declared.command_kind.CommandKind.{CommandKind}
use Rattle.program_words.specs.declared.limits.TheConstants.{LOADS}
use Rattle.word_complaints.specs.Options.{fits, is_given, option_in, wanted_by, with_given}
use Rattle.word_complaints.specs.Places.{first_place, is_required, next_place}
use Rattle.word_complaints.specs.declared.complaint.Complaint.{Complaint}
use Rattle.word_complaints.specs.declared.complaint.Complaint.TheVariants.{NoOption, Twice, NoValue, BadValue, NoNumber, NoPort, Extra, Missing}
use Rattle.word_complaints.specs.declared.option_name.OptionName.{OptionName}
use Rattle.word_complaints.specs.declared.place.Place.{Place}
use Rattle.word_complaints.specs.declared.place.Place.TheVariants as place
use Rattle.word_complaints.specs.declared.walk.Walk.{Walk}

-- the word begins with a hyphen (45) and isn't only one
abbrev pub is_flag : Text → Bool
is_flag word = nat_lt 1 (length word) && (slice_index word 0 == 45)

-- what is wrong with a value of an option
abbrev pub value_complaint : OptionName → Text → Option Complaint
value_complaint o value = if fits (wanted_by o) value then None else Some (BadValue o value)

-- what is wrong with a word in a place
abbrev pub place_complaint : Place → Text → Option Complaint
place_complaint place.Number word =
    if is_unsigned_in 1 LOADS word then None else Some (NoNumber word)
place_complaint place.Port word = if is_port word then None else Some (NoPort word)
place_complaint p word = None

-- the walk, where nothing is wrong
abbrev pub checked : Walk → Option Complaint → Result Walk Complaint
checked w None = Ok w
checked w (Some c) = Err c

-- the word stands in the next place, if there is one
abbrev pub on_place : Walk → Text → Option Place → Result Walk Complaint
on_place w word None = Err (Extra word)
on_place w word (Some p) =
    checked (record w { next = next_place w.kind p }) (place_complaint p word)

-- an option stands with its value in the same word, or waits for it
abbrev pub on_value : Walk → OptionName → Option Text → Result Walk Complaint
on_value w o None = Ok (record w { waiting = Some o })
on_value w o (Some value) = checked w (value_complaint o value)

-- an option stands here, if the command has it
abbrev pub on_option : Walk → Text × Option Text → Option OptionName → Result Walk Complaint
on_option w parts None = Err (NoOption parts.0)
on_option w parts (Some o) = if is_given w.given o then Err (Twice o)
    else on_value (record w { given = with_given w.given o }) o parts.1

-- an option's word
unfoldable pub on_option_word : Walk → Text → Result Walk Complaint
on_option_word w word = on_option w (name_and_value word) (option_in w.kind (name_and_value word).0)

-- a word that no option waits for
abbrev pub on_word : Walk → Text → Result Walk Complaint
on_word w word = if w.only_words then on_place w word w.next
    else if bytes_eq word (codes "--") then Ok (record w { only_words = true })
    else if is_flag word then on_option_word w word
    else on_place w word w.next

-- the word that an option waits for
abbrev pub on_awaited : Walk → OptionName → Text → Result Walk Complaint
on_awaited w o word = if is_flag word then Err (NoValue o)
    else checked (record w { waiting = None }) (value_complaint o word)

abbrev pub stepped_by : Walk → Text → Option OptionName → Result Walk Complaint
stepped_by w word None = on_word w word
stepped_by w word (Some o) = on_awaited w o word

-- the walk behind a word, or what is wrong there
unfoldable pub stepped : Walk → Text → Result Walk Complaint
stepped w word = stepped_by w word w.waiting

abbrev pub and_walked : Result Walk Complaint → (Walk → Result Walk Complaint)
    → Result Walk Complaint
and_walked (Ok w) rest = rest w
and_walked (Err c) rest = Err c

-- the walk behind some words, or the first thing that is wrong
abbrev pub walked : Walk → List Text → Result Walk Complaint
walked w [] = Ok w
walked w (word ∷ words) = and_walked (stepped w word) (λ v. walked v words)

-- before the first word
abbrev pub start_of : CommandKind → Walk
start_of k = record {
  kind = k;
  given = record {
    points = false;
    harts = false;
    budget = false;
    seed = false;
    returns = false;
    save = false;
    report = false;
  };
  waiting = None;
  next = Some (first_place k);
  only_words = false;
}

abbrev pub missing : Option Place → Option Complaint
missing None = None
missing (Some p) = if is_required p then Some (Missing p) else None

abbrev pub end_by : Walk → Option OptionName → Option Complaint
end_by w None = missing w.next
end_by w (Some o) = Some (NoValue o)

-- what is wrong at the end: an option without its value, or a word that is missing
abbrev pub end_complaint : Walk → Option Complaint
end_complaint w = end_by w w.waiting

abbrev pub complaint_of : Result Walk Complaint → Option Complaint
complaint_of (Ok w) = end_complaint w
complaint_of (Err c) = Some c

-- the first thing that is wrong with the words behind a command
abbrev pub complaint_in : CommandKind → List Text → Option Complaint
complaint_in k words = complaint_of (walked (start_of k) words)

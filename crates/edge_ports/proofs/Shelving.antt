-- Loads and saves of a shelf in memory.
use Rattle.std.proofs.Common.{◌≡◌, ◌≢◌, ◌⊎◌, inl, inr, ℕ, ◌<◌, ◌≤◌, List, [], ◌∷◌, ◌++◌, length, refl, sym, ◌∙◌, ap, subst, arith}
use Rattle.std.proofs.lemmas.Slice.Eq.{bytes_eq-Decides}
use Rattle.std.specs.Prelude.{Bool, true, false, All, None, Some, Ok, Err, Option, Result, IfOk, OnOk, OnErr, IsTrue, MatchResult, option_map, find, cond}
use Rattle.std.specs.Result.{result_err}
use Rattle.std.specs.Str.{bytes_eq}
use Rattle.edge_ports.specs.Asked.{Asked, Loaded, Saved}
use Rattle.edge_ports.specs.End.{Rose, raised_if}
use Rattle.edge_ports.specs.InMemory.{counted, numbered}
use Rattle.edge_ports.specs.Shelves.{Loads, Saves, ShelfState, first_named, is_failed, is_long, shelf_of}
use Rattle.edge_ports.specs.declared.reason.Reason.{Reason}
use Rattle.edge_ports.specs.declared.shelf.ShelfFault.{ShelfFault}
use Rattle.edge_ports.specs.declared.shelf.ShelfFault.TheVariants.{Failed, TooLong, Memory}
use Rattle.edge_ports.specs.declared.shelf_file.ShelfFile.{ShelfFile}

-- the state after a load with this answer, and after a save
abbrev pub loaded : List ℕ → Result (List ℕ) ShelfFault → ShelfState → ShelfState
loaded name result s =
    record s {
      calls = counted (is_failed result) s.calls;
      longs = raised_if (is_long result) s.longs;
      asked = s.asked ++ Loaded name result ∷ [];
    }

abbrev pub saved : {T : Type 0} → List ℕ → List ℕ → List ShelfFile → Result T ShelfFault → ShelfState → ShelfState
saved name bytes files result s =
    record s {
      files = files;
      calls = numbered s.calls;
      save_faults = raised_if (is_failed result) s.save_faults;
      asked = s.asked ++ Saved name bytes (result_err result) ∷ [];
    }

rose_if_failed : {T : Type 0} (result : Result T ShelfFault) (count : ℕ) (reason : Reason) → result ≡ Err (Failed reason) → Rose count (raised_if (is_failed result) count)
rose_if_failed result count reason is = subst (λ r. Rose count (raised_if (is_failed r) count)) (sym is) (omega arith)

rose_if_long : (result : Result (List ℕ) ShelfFault) (count size : ℕ) → result ≡ Err (TooLong size) → Rose count (raised_if (is_long result) count)
rose_if_long result count size is = subst (λ r. Rose count (raised_if (is_long r) count)) (sym is) (omega arith)

pub loads_in_memory : (s : ShelfState) (name : List ℕ) (limit : ℕ) (result : Result (List ℕ) ShelfFault) → IfOk result (λ bytes. first_named s.files name ≡ Some bytes) → IfOk result (λ bytes. length bytes ≤ limit)
    → IfOk result (λ bytes. All (λ b. b < 256) bytes) → ((size : ℕ) → result ≡ Err (TooLong size) → (limit < size) × (option_map length (first_named s.files name) ≡ Some size))
    → s.calls.faults ≤ (counted (is_failed result) s.calls).faults → s.longs ≤ raised_if (is_long result) s.longs → Loads (shelf_of s) (shelf_of (loaded name result s)) name limit result
loads_in_memory s name limit result file within below long later longs_later = record {
  within = within;
  below = below;
  told = λ _. file;
  cause = rose_if_failed result s.calls.faults;
  long = λ size is. rose_if_long result s.longs size is;
  over = λ size is. (long size is).0;
  long_told = λ _ size is. (long size is).1;
  asked = refl;
  tells = refl;
  files = λ n. refl;
  later = λ n. later;
  longs_later = λ n l. longs_later;
  saves = λ n. refl;
}

-- a file before the others is the first of its name, and of no other name
first_named-front : (file : ShelfFile) (files : List ShelfFile) (name : List ℕ) → file.name ≡ name → first_named (file ∷ files) name ≡ Some file.bytes
first_named-front file files name is =
    let same : bytes_eq file.name name ≡ true = (bytes_eq-Decides file.name name).1 is in
    ap (λ (b : Bool). option_map (λ (f : ShelfFile). f.bytes) (cond b (Some file) (find (λ f. bytes_eq f.name name) files))) same

first_named-past : (file : ShelfFile) (files : List ShelfFile) (name : List ℕ) → name ≢ file.name → first_named (file ∷ files) name ≡ first_named files name
first_named-past file files name apart = at (bytes_eq file.name name) refl
  where
    at : (b : Bool) → bytes_eq file.name name ≡ b → first_named (file ∷ files) name ≡ first_named files name
    at true is = absurd (apart (sym ((bytes_eq-Decides file.name name).0 is)))
    at false is = ap (λ (b : Bool). option_map (λ (f : ShelfFile). f.bytes) (cond b (Some file) (find (λ f. bytes_eq f.name name) files))) is

pub saves_in_memory : (T : Type 0) (s : ShelfState) (name bytes : List ℕ) (files : List ShelfFile) (result : Result T ShelfFault) → OnOk result (files ≡ record { name = name; bytes = bytes } ∷ s.files) → OnErr result (files ≡ s.files) → is_long result ≡ false
    → s.save_faults ≤ raised_if (is_failed result) s.save_faults → Saves (shelf_of s) (shelf_of (saved name bytes files result s)) name bytes result
saves_in_memory T s name bytes files result ok err short later = record {
  file = λ _. file_now result ok err;
  others = λ n apart. others_now result ok err n apart;
  cause = rose_if_failed result s.save_faults;
  short = λ size is. absurd (cc (ap is_long is, short));
  asked = refl;
  tells = refl;
  later = λ n. later;
  loads = λ n. refl;
  longs = λ n l. refl;
}
  where
    file_now : (r : Result T ShelfFault) → OnOk r (files ≡ record { name = name; bytes = bytes } ∷ s.files) → OnErr r (files ≡ s.files) → MatchResult r (λ _. first_named files name ≡ Some bytes) (λ _. first_named files name ≡ first_named s.files name)
    file_now (Ok u) put same = ap (λ (l : List ShelfFile). first_named l name) put ∙ first_named-front (record { name = name; bytes = bytes }) s.files name refl
    file_now (Err e) put same = ap (λ (l : List ShelfFile). first_named l name) same

    others_now : (r : Result T ShelfFault) → OnOk r (files ≡ record { name = name; bytes = bytes } ∷ s.files) → OnErr r (files ≡ s.files) → (n : List ℕ) → n ≢ name → first_named files n ≡ first_named s.files n
    others_now (Ok u) put same n apart = ap (λ (l : List ShelfFile). first_named l n) put ∙ first_named-past (record { name = name; bytes = bytes }) s.files n apart
    others_now (Err e) put same n apart = ap (λ (l : List ShelfFile). first_named l n) same

-- A reader and a spelling that fit: what is read was spelled so, and what is spelled is read.
use Rattle.std.proofs.Common.{◌≡◌, ℕ, ◌+◌, ◌<◌, List, ◌++◌, get_or, take, drop, Result, Ok, Err, refl, sym, ap, subst, ◌∙◌, append_assoc, inl, inr, arith}
use Rattle.std.proofs.lemmas.Bool.{cases_lt}
use Rattle.std.proofs.lemmas.List.{get_or-drop, get_or-take, get_or_past, length-take}
use Rattle.history_file.specs.declared.file_fault.FileKind.{FileKind}
use Rattle.history_file.specs.Reading.{◌>>=◌, Front}

abbrev pub IsBytes : List ℕ → Type 0
IsBytes bytes = (i : ℕ) → get_or bytes i 0 < 256

pub IsBytes-drop : (n : ℕ) (bytes : List ℕ) → IsBytes bytes → IsBytes (drop n bytes)
IsBytes-drop n bytes fits i = rw get_or-drop (fits (n + i))

pub IsBytes-take : (n : ℕ) (bytes : List ℕ) → IsBytes bytes → IsBytes (take n bytes)
IsBytes-take n bytes fits i =
    elim (cases_lt i n) [
      | inl lt ↦ rw (get_or-take n bytes i 0 lt) (fits i)
      | inr le ↦ rw (get_or_past (take n bytes) i 0 (omega (arith, length-take n bytes))) (omega arith)
    ]

-- what was taken from the front, and what is left
pub record Takes (bytes text rest : List ℕ) : Type 0 where
  pub parts : bytes ≡ text ++ rest
  pub rest_fits : IsBytes rest

pub Takes-then : (a x b y c : List ℕ) → Takes a x b → Takes b y c → Takes a (x ++ y) c
Takes-then a x b y c p q = record { parts = p.parts ∙ ap (λ (t : List ℕ). x ++ t) q.parts ∙ sym (append_assoc x y c); rest_fits = q.rest_fits }

abbrev done : {A : Type 0} → A → Result A (FileKind × ℕ)
done x = Ok x

pub ok_is : {A : Type 0} (x y : A) → done x ≡ done y → x ≡ y
ok_is x y e = cc

-- the value of a step that did not fail
pub record Bound {A B : Type 0} (r : Result A (FileKind × ℕ)) (f : A → Result B (FileKind × ℕ)) (y : B) : Type 0 where
  pub value : A
  pub is : r ≡ Ok value
  pub then_ : f value ≡ Ok y

pub bind_ok : {A B : Type 0} (r : Result A (FileKind × ℕ)) (f : A → Result B (FileKind × ℕ)) (y : B) → (r >>= f) ≡ Ok y → Bound r f y
bind_ok (Ok x) f y e = record { value = x; is = refl; then_ = e }
bind_ok (Err d) f y e = absurd cc

pub record Exact {A : Type 0} (read : List ℕ → Front A) (spell : A → List ℕ) (P : A → Type 0) : Type 0 where
  pub takes : (bytes : List ℕ) (x : A) (rest : List ℕ) → IsBytes bytes → read bytes ≡ Ok (x, rest) → Takes bytes (spell x) rest × P x
  pub again : (x : A) (rest : List ℕ) → P x → read (spell x ++ rest) ≡ Ok (x, rest)

-- one step of a reader: what it read, and what is read of the rest
pub record Step {A B : Type 0} (spell : A → List ℕ) (P : A → Type 0) (bytes : List ℕ) (f : A × List ℕ → Front B) (y : B × List ℕ) : Type 0 where
  pub value : A
  pub rest : List ℕ
  pub taken : Takes bytes (spell value) rest
  pub holds : P value
  pub then_ : f (value, rest) ≡ Ok y

pub step : {A B : Type 0} (read : List ℕ → Front A) (spell : A → List ℕ) (P : A → Type 0) → Exact read spell P → (bytes : List ℕ) (f : A × List ℕ → Front B) (y : B × List ℕ) → IsBytes bytes
    → (read bytes >>= f) ≡ Ok y → Step spell P bytes f y
step read spell P law bytes f y fits e =
    let b = bind_ok (read bytes) f y e in
    let t = law.takes bytes b.value.0 b.value.1 fits b.is in
    record { value = b.value.0; rest = b.value.1; taken = t.0; holds = t.1; then_ = b.then_ }

-- two parts, and what is made of them
pub record Parts {A B C : Type 0} (sa : A → List ℕ) (Pa : A → Type 0) (sb : B → List ℕ) (Pb : B → Type 0) (make : A → B → C) (bytes : List ℕ) (y : C × List ℕ) : Type 0 where
  pub first : A
  pub second : B
  pub is : make first second ≡ y.0
  pub taken : Takes bytes (sa first ++ sb second) y.1
  pub first_holds : Pa first
  pub second_holds : Pb second

-- what is made of two parts, and the bytes after the second
abbrev pub made : {A B C : Type 0} → (A → B → C) → A × List ℕ → B × List ℕ → Front C
made make a b = Ok (make a.0 b.0, b.1)

pub parts : {A B C : Type 0} (ra : List ℕ → Front A) (sa : A → List ℕ) (Pa : A → Type 0) (rb : List ℕ → Front B) (sb : B → List ℕ) (Pb : B → Type 0) (make : A → B → C)
    → Exact ra sa Pa → Exact rb sb Pb → (bytes : List ℕ) (y : C × List ℕ) → IsBytes bytes
    → (ra bytes >>= λ a. rb a.1 >>= λ b. made make a b) ≡ Ok y → Parts sa Pa sb Pb make bytes y
parts {C = C} ra sa Pa rb sb Pb make la lb bytes y fits e =
    let a = step ra sa Pa la bytes (λ a. rb a.1 >>= λ b. made make a b) y fits e in
    let b = step rb sb Pb lb a.rest (λ b. made make (a.value, a.rest) b) y a.taken.rest_fits a.then_ in
    let made = ok_is (make a.value b.value, b.rest) y b.then_ in
    record {
      first = a.value;
      second = b.value;
      is = ap (λ (x : C × List ℕ). x.0) made;
      taken = subst (Takes bytes (sa a.value ++ sb b.value)) (ap (λ (x : C × List ℕ). x.1) made) (Takes-then bytes (sa a.value) a.rest (sb b.value) b.rest a.taken b.taken);
      first_holds = a.holds;
      second_holds = b.holds;
    }

pub parts_again : {A B C : Type 0} (ra : List ℕ → Front A) (sa : A → List ℕ) (Pa : A → Type 0) (rb : List ℕ → Front B) (sb : B → List ℕ) (Pb : B → Type 0) (make : A → B → C)
    → Exact ra sa Pa → Exact rb sb Pb → (a : A) (b : B) (rest : List ℕ) → Pa a → Pb b
    → (ra ((sa a ++ sb b) ++ rest) >>= λ a. rb a.1 >>= λ b. made make a b) ≡ Ok (make a b, rest)
parts_again ra sa Pa rb sb Pb make la lb a b rest pa pb =
    let regrouped : (sa a ++ sb b) ++ rest ≡ sa a ++ (sb b ++ rest) = append_assoc (sa a) (sb b) rest in
    let first : ra (sa a ++ (sb b ++ rest)) ≡ Ok (a, sb b ++ rest) = la.again a (sb b ++ rest) pa in
    let second : rb (sb b ++ rest) ≡ Ok (b, rest) = lb.again b rest pb in
    rw (regrouped, first, second) refl

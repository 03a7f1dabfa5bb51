-- A text has the instructions of the memory that it was made of.
use Rattle.std.proofs.Common.{◌≡◌, ℕ, zero, suc, ◌+◌, ◌-◌, ◌*◌, ◌/◌, ◌%◌, ◌^◌, ◌<◌, ◌≤◌, ◌==◌, ◌&&◌, ◌||◌, inl, inr, not, cond, nat_le, Bool, true, false, if◌then◌else◌, List, [], ◌∷◌, ◌++◌, length, slice_index_or, find, option_map, unwrap_or, is_some, Option, Some, None, Err, refl, sym, ap, ◌∙◌, arith, IfSome}
use Rattle.std.proofs.Math.ListN.{get_or-append}
use Rattle.std.proofs.Math.Seq.{get_or-append_seam}
use Rattle.std.proofs.lemmas.Bool.{and_from, le-leb, leb-true, lt-ltb, ltb-true}
use Rattle.std.proofs.lemmas.Bool.Decides.{eqb_tells}
use Rattle.std.specs.List.{All, list_all, list_any, range_with_len}
use Rattle.std.specs.FinMap.{get}
use Rattle.guest_words.specs.declared.fault.FaultName.{FaultName}
use Rattle.guest_words.specs.declared.fault.FaultName.TheVariants.{FetchMisaligned, FetchRights}
use Rattle.guest_words.specs.declared.image.Cell.{Cell}
use Rattle.guest_words.specs.declared.image.Rights.{Rights}
use Rattle.guest_words.specs.declared.inst.Inst.{Inst}
use Rattle.guest_words.specs.Instructions.{NamesRegisters, instruction_of}
use Rattle.guest_words.specs.Space.{Space, can_execute, each_has, has_right, number_at}
use Rattle.guest_words.specs.HartAct.{inst_at}
use Rattle.run_history.proofs.Ands.{and_left, and_right}
use Rattle.hart_step.specs.Looked.{decoded, looked}
use Rattle.hart_step.specs.Registers.{Stretch, IsTextOf, Tells, inst_in, inst_of, is_in}
use Rattle.hart_step.proofs.Acting.{registers-inst_at}

-- what is found names registers
pub named : (text : List Stretch) (m : Space) (pc : ℕ) (o : Option Inst) → IsTextOf text m → o ≡ inst_in text pc → IfSome o NamesRegisters
named text m pc None is at = tt
named text m pc (Some inst) is at = registers-inst_at m pc inst (sym (is pc) ∙ sym at)

-- an address where nothing can be fetched
pub inst_at-fault : (m : Space) (pc : ℕ) (name : FaultName) → looked m pc ≡ Err name → inst_at m pc ≡ None
inst_at-fault m pc name is = by (pc % 4 == 0) (can_execute m pc 4) (instruction_of (number_at m pc 4)) is
  where
    by : (e x : Bool) (o : Option Inst) → (if not e then Err FetchMisaligned else if not x then Err FetchRights else decoded o) ≡ Err name
        → (if e && x then o else None) ≡ None
    by false x o e = refl
    by true false o e = refl
    by true true None e = refl
    by true true (Some inst) e = absurd (cc)

-- a list with one element more
pub All-push : {X : Type 0} (P : X → Type 0) (xs : List X) (y : X) → All P xs → P y → All P (xs ++ y ∷ [])
All-push P [] y all here zero d within = here
All-push P [] y all here (suc k) d within = absurd (omega (arith, within))
All-push P (x ∷ xs) y all here zero d within = all 0 d (omega arith)
All-push P (x ∷ xs) y all here (suc k) d within = All-push P xs y (λ j e less. all (suc j) e (omega (arith, less))) here k d (omega (arith, within))

pub any-push : {X : Type 0} (test : X → Bool) (xs : List X) (y : X) → list_any test xs ≡ true → list_any test (xs ++ y ∷ []) ≡ true
any-push test [] y is = absurd (cc)
any-push test (x ∷ xs) y is = by (test x) is (any-push test xs y)
  where
    by : (b : Bool) → (b || list_any test xs) ≡ true → (list_any test xs ≡ true → list_any test (xs ++ y ∷ []) ≡ true) → (b || list_any test (xs ++ y ∷ [])) ≡ true
    by true e later = refl
    by false e later = later e

pub any-last : {X : Type 0} (test : X → Bool) (xs : List X) (y : X) → test y ≡ true → list_any test (xs ++ y ∷ []) ≡ true
any-last test [] y is = ap (λ b. b || false) is
any-last test (x ∷ xs) y is = by (test x) (any-last test xs y is)
  where
    by : (b : Bool) → list_any test (xs ++ y ∷ []) ≡ true → (b || list_any test (xs ++ y ∷ [])) ≡ true
    by true e = refl
    by false e = e

-- the instructions of one word more
pub insts-push : (m : Space) (from k : ℕ) (insts : List (Option Inst)) (found : Option Inst) → length insts ≡ k → found ≡ inst_at m (from + 4 * k)
    → ((j : ℕ) → j < k → slice_index_or insts j None ≡ inst_at m (from + 4 * j))
    → (j : ℕ) → j < k + 1 → slice_index_or (insts ++ found ∷ []) j None ≡ inst_at m (from + 4 * j)
insts-push m from k insts found long is so_far j below = elim (eqb_tells j k) [
  | inl at ↦
      let same : j ≡ length insts = at.1 ∙ sym long in
      ap (λ i. slice_index_or (insts ++ found ∷ []) i None) same ∙ get_or-append_seam insts found [] None ∙ is ∙ ap (λ i. inst_at m (from + 4 * i)) (sym at.1)
  | inr at ↦
      let other = at.1 in
      let less : j < k = omega (arith, other, below) in
      get_or-append insts (found ∷ []) None j (omega (arith, less, long)) ∙ so_far j less
]

-- the words from an address of a page up to another
pub is_in-range : (stretch : Stretch) (end pc : ℕ) → stretch.from % 4096 ≡ 0 → end % 4096 ≡ 0 → length stretch.insts ≡ (end - stretch.from) / 4 → stretch.from ≤ pc → pc < end → is_in pc stretch ≡ true
is_in-range stretch end pc first last long low less =
    let high : (pc - stretch.from) / 4 < length stretch.insts = omega (arith, first, last, long, low, less) in
    and_from _ _ (le-leb stretch.from pc low) (lt-ltb ((pc - stretch.from) / 4) (length stretch.insts) high)

-- a stretch that tells a memory's instructions tells the one at an address that it has
inst_of-tells : (m : Space) (stretch : Stretch) (pc : ℕ) → Tells m stretch → is_in pc stretch ≡ true → inst_of pc stretch ≡ inst_at m pc
inst_of-tells m stretch pc tells is =
    let low : stretch.from ≤ pc = leb-true stretch.from pc (and_left (nat_le stretch.from pc) _ is) in
    let high : (pc - stretch.from) / 4 < length stretch.insts = ltb-true ((pc - stretch.from) / 4) (length stretch.insts) (and_right (nat_le stretch.from pc) _ is) in
    let aligned = tells.aligned in
    elim (eqb_tells (pc % 4) 0) [
      | inl at ↦
          let four = at.1 in
          let there : stretch.from + 4 * ((pc - stretch.from) / 4) ≡ pc = omega (arith, four, aligned, low) in
          ap (λ b. if b then slice_index_or stretch.insts ((pc - stretch.from) / 4) None else None) at.0
          ∙ tells.insts ((pc - stretch.from) / 4) high ∙ ap (inst_at m) there
      | inr at ↦
          ap (λ b. if b then slice_index_or stretch.insts ((pc - stretch.from) / 4) None else None) at.0
          ∙ sym (ap (λ b. if b && can_execute m pc 4 then instruction_of (number_at m pc 4) else None) at.0)
    ]

in_text : (m : Space) (text : List Stretch) (pc : ℕ) → All (Tells m) text → list_any (is_in pc) text ≡ true → inst_in text pc ≡ inst_at m pc
in_text m [] pc all is = absurd (cc)
in_text m (stretch ∷ rest) pc all is = by (is_in pc stretch) refl is (in_text m rest pc (λ k d less. all (suc k) d (omega (arith, less))))
  where
    by : (b : Bool) → is_in pc stretch ≡ b → (b || list_any (is_in pc) rest) ≡ true → (list_any (is_in pc) rest ≡ true → inst_in rest pc ≡ inst_at m pc)
        → unwrap_or (option_map (inst_of pc) (cond b (Some stretch) (find (is_in pc) rest))) None ≡ inst_at m pc
    by true here e later = inst_of-tells m stretch pc (all 0 stretch (omega arith)) here
    by false here e later = later e

out_text : (text : List Stretch) (pc : ℕ) → list_any (is_in pc) text ≡ false → inst_in text pc ≡ None
out_text [] pc is = refl
out_text (stretch ∷ rest) pc is = by (is_in pc stretch) is (out_text rest pc)
  where
    by : (b : Bool) → (b || list_any (is_in pc) rest) ≡ false → (list_any (is_in pc) rest ≡ false → inst_in rest pc ≡ None)
        → unwrap_or (option_map (inst_of pc) (cond b (Some stretch) (find (is_in pc) rest))) None ≡ None
    by true e later = absurd (cc)
    by false e later = later e

none_at : (m : Space) (pc : ℕ) → has_right (λ rights. rights.exec) (get m pc) ≡ false → inst_at m pc ≡ None
unfolding each_has
none_at m pc bare = by (pc % 4 == 0) (nat_le (pc + 4) (2 ^ 64)) (has_right (λ rights. rights.exec) (get m pc)) bare
  where
    by : (e n x : Bool) → x ≡ false
        → (if e && (n && (x && list_all (λ address. has_right (λ rights. rights.exec) (get m address)) (range_with_len (pc + 1) 3))) then instruction_of (number_at m pc 4) else None) ≡ None
    by false n x is = refl
    by true false x is = refl
    by true true true is = absurd (cc)
    by true true false is = refl

-- each byte that may be executed lies in the text
abbrev pub HasText : List Stretch → Space → Type 0
HasText text m = (pc : ℕ) → has_right (λ rights. rights.exec) (get m pc) ≡ true → list_any (is_in pc) text ≡ true

bare : (text : List Stretch) (m : Space) (pc : ℕ) → HasText text m → list_any (is_in pc) text ≡ false → has_right (λ rights. rights.exec) (get m pc) ≡ false
bare text m pc has out = by (has_right (λ rights. rights.exec) (get m pc)) refl
  where
    by : (b : Bool) → has_right (λ rights. rights.exec) (get m pc) ≡ b → b ≡ false
    by true may = let there : list_any (is_in pc) text ≡ true = has pc may in cc
    by false may = refl

pub text_is : (text : List Stretch) (m : Space) → All (Tells m) text → HasText text m → IsTextOf text m
text_is text m tells has pc = by (list_any (is_in pc) text) refl
  where
    by : (b : Bool) → list_any (is_in pc) text ≡ b → inst_in text pc ≡ inst_at m pc
    by true in_it = in_text m text pc tells in_it
    by false out = out_text text pc out ∙ sym (none_at m pc (bare text m pc has out))

-- a byte with a right lies in a page
pub has_cell : (right : Rights → Bool) (cell : Option Cell) → has_right right cell ≡ true → is_some cell ≡ true
has_cell right None is = cc
has_cell right (Some cell) is = refl

-- The rules on the program headers, one header after the other.
use Rattle.std.proofs.Common.{◌≡◌, ℕ, zero, suc, ◌+◌, ◌<◌, ◌-◌, List, [], ◌∷◌, ◌++◌, refl, ap, ◌∙◌, arith, add-one}
use Rattle.std.specs.Prelude.{Some, None, if◌then◌else◌}
use Rattle.guest_words.specs.declared.elf_fault.ElfFault.{ElfFault}
use Rattle.guest_words.specs.Rules.{first_broken}
use Rattle.guest_words.specs.ElfFields.{header_place}
use Rattle.guest_words.specs.Image.{is_load, load_at, loads_before, rules_at, table_rules, page_count}
use Rattle.guest_words.proofs.RuleLaws.{first_broken-append_none, first_broken-append_some}

pub table_begins : (file : List ℕ) → first_broken (table_rules file 0) ≡ None
unfolding table_rules
table_begins file = refl

pub loads_begin : (file : List ℕ) → loads_before file 0 ≡ []
unfolding loads_before
loads_begin file = refl

pub pages_begin : page_count [] ≡ 0
unfolding page_count
pages_begin = refl

-- where the first headers keep their rules, those of the next one are tried
pub table_next :
    (file : List ℕ) (k : ℕ)
    → first_broken (table_rules file k) ≡ None
    → first_broken (table_rules file (k + 1)) ≡ first_broken (rules_at file (loads_before file k) (header_place file k))
unfolding table_rules
table_next file k kept =
    ap (λ n. first_broken (table_rules file n)) (add-one k)
    ∙ first_broken-append_none (table_rules file k) (rules_at file (loads_before file k) (header_place file k)) kept

pub loads_next :
    (file : List ℕ) (k : ℕ)
    → loads_before file (k + 1) ≡ loads_before file k ++ (if is_load file (header_place file k) then load_at file (header_place file k) ∷ [] else [])
unfolding loads_before
loads_next file k = ap (loads_before file) (add-one k)

-- a rule that the first headers break is the first broken one of all headers
table_more :
    (file : List ℕ) (k d : ℕ) (x : ElfFault × ℕ) → first_broken (table_rules file k) ≡ Some x → first_broken (table_rules file (d + k)) ≡ Some x
unfolding table_rules
table_more file k zero x broken = let same : 0 + k ≡ k = omega arith in rw same broken
table_more file k (suc d) x broken =
    let same : suc d + k ≡ suc (d + k) = omega arith in
    rw same (first_broken-append_some (table_rules file (d + k)) (rules_at file (loads_before file (d + k)) (header_place file (d + k))) x (table_more file k d x broken))

pub table_stops :
    (file : List ℕ) (k count : ℕ) (x : ElfFault × ℕ)
    → k < count
    → first_broken (table_rules file (k + 1)) ≡ Some x
    → first_broken (table_rules file count) ≡ Some x
table_stops file k count x below broken =
    let same : count - (k + 1) + (k + 1) ≡ count = omega arith in
    rw same at (table_more file (k + 1) (count - (k + 1)) x broken)

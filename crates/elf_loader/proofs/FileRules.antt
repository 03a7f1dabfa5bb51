-- The first fault of a file, from the rules on its header, its program headers and its entry.
use Rattle.std.proofs.Common.{◌≡◌, ℕ, List, ◌++◌, ◌∙◌}
use Rattle.std.specs.Prelude.{Some, None}
use Rattle.guest_words.specs.declared.image.Image.{Image}
use Rattle.guest_words.specs.declared.elf_fault.ElfFault.{ElfFault}
use Rattle.guest_words.specs.Rules.{first_broken}
use Rattle.guest_words.specs.ElfFields.{e_phnum, e_entry}
use Rattle.guest_words.specs.Image.{header_rules, table_rules, entry_rules, rules_of, first_fault, loads_of, IsImage}
use Rattle.guest_words.proofs.RuleLaws.{first_broken-append_none, first_broken-append_some, All-from_first_broken}

pub fault_of_header : (file : List ℕ) (x : ElfFault × ℕ) → first_broken (header_rules file) ≡ Some x → first_fault file ≡ Some x
unfolding first_fault
fault_of_header file x broken =
    let table = table_rules file (e_phnum file) in
    first_broken-append_some (header_rules file ++ table) (entry_rules file) x (first_broken-append_some (header_rules file) table x broken)

pub fault_of_table :
    (file : List ℕ) (x : ElfFault × ℕ)
    → first_broken (header_rules file) ≡ None
    → first_broken (table_rules file (e_phnum file)) ≡ Some x
    → first_fault file ≡ Some x
unfolding first_fault
fault_of_table file x kept broken =
    let table = table_rules file (e_phnum file) in
    first_broken-append_some (header_rules file ++ table) (entry_rules file) x (first_broken-append_none (header_rules file) table kept ∙ broken)

pub fault_of_entry :
    (file : List ℕ)
    → first_broken (header_rules file) ≡ None
    → first_broken (table_rules file (e_phnum file)) ≡ None
    → first_fault file ≡ first_broken (entry_rules file)
unfolding first_fault
fault_of_entry file kept table_kept =
    let table = table_rules file (e_phnum file) in
    first_broken-append_none (header_rules file ++ table) (entry_rules file) (first_broken-append_none (header_rules file) table kept ∙ table_kept)

-- an image with the loads and the entry of a file that breaks no rule
pub image_is :
    (file : List ℕ) (image : Image) → first_fault file ≡ None → image.loads ≡ loads_of file → image.entry ≡ e_entry file → IsImage file image
unfolding first_fault
image_is file image kept loads entry = record {
  kept = All-from_first_broken (rules_of file) kept;
  loads = loads;
  entry = entry;
}

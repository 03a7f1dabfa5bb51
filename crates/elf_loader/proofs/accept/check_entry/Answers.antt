use Rattle.std.proofs.Common.{◌≡◌, ◌&&◌, ◌/◌, sym, ap, ◌∙◌, arith}
use Rattle.std.proofs.lemmas.Bool.Decides.{nat_tests}
use Rattle.guest_words.specs.Image.{contains, pages_of, is_executable, loads_of}
use Rattle.guest_words.specs.declared.image.Load.{Load}
use Rattle.guest_words.specs.ElfFields.{e_entry}
use Rattle.elf_loader.specs.Segment.{load_of}
use Rattle.elf_loader.proofs.Places.{list_any-map}
use Rattle.elf_loader.proofs.accept.check_entry.Goals as goal
use Rattle.elf_loader.proofs.accept.check_entry.Goals.{then-entry-ne0, else-entry-ne0}

pub returns : goal.returns
returns c =
    let file = c.args.file.now in
    let entry = e_entry file in
    let test = λ (l : Load). contains (pages_of l) (entry / 4096) && l.rights.exec in
    let same : is_executable (loads_of file) entry ≡ c.is_executable-executable.result =
    ap (λ loads. is_executable loads entry) (sym c.requires.loads)
    ∙ list_any-map test load_of c.args.segments.now
    ∙ sym (rw c.u64_at-entry.ensures at c.is_executable-executable.ensures) in
    elim c.if-entry-ne0.branch [ then-entry-ne0 w ↦ grind (arith, nat_tests, same) | else-entry-ne0 w ↦ grind (arith, nat_tests, same) ]

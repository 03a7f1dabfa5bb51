-- The header and the listing are those of the file that is defined.
use Rattle.std.proofs.Common.{◌≡◌, ◌++◌, refl, ap, ◌∙◌, map, rules}
use Rattle.load_maker.specs.File.{load_file, load_header, file_header, words_of}
use Rattle.load_maker.specs.Program.{program, inst_of}
use Rattle.load_maker.specs.declared.program.TheConstants.{PROGRAM}
use Rattle.load_maker.specs.declared.file.TheConstants.{FILE_HEADER}
use Rattle.load_maker.proofs.file.load_file.Goals as goal

head : FILE_HEADER ≡ file_header
unfolding file_header
head = refl

listing : map inst_of PROGRAM ≡ program
unfolding program
listing = refl

pub returns : goal.returns
unfolding load_file
returns c =
    let copied : c.in_ok-file.file.items ≡ FILE_HEADER = search rules in
    let text = load_header 5 176 0x10000 256 256 in
    let rest = load_header 6 432 0x20000 0 4096 in
    let words = words_of (map inst_of PROGRAM) in
    record {
      ok = c.in_ok-add_words.ensures.ok
          ∙ ap (λ f. f ++ words) (c.in_ok-add_header-2.ensures.ok ∙ ap (λ f. f ++ rest) (c.in_ok-add_header.ensures.ok ∙ ap (λ f. f ++ text) (copied ∙ head)))
          ∙ ap (λ is. file_header ++ text ++ rest ++ words_of is) listing;
    }

use Rattle.std.proofs.Common.{ℕ, Bool, sym, ap, ◌∙◌, refl, arith}
use Rattle.std.specs.Prelude.{find, ◌==◌}
use Rattle.std.proofs.lemmas.Bool.Decides.{nat_tests}
use Rattle.guest_words.specs.ElfFields.{e_shoff}
use Rattle.elf_symbols.specs.SymbolFields.{sh_type}
use Rattle.elf_symbols.specs.SymbolTable.{places}
use Rattle.elf_symbols.proofs.PlaceLists.{places_none, find_next, find_stop}
use Rattle.elf_symbols.proofs.check.find_table.Goals as goal

pub loop-k-init : goal.loop-k-init
loop-k-init c = rw places_none refl

pub loop-k-preserved : goal.loop-k-preserved
loop-k-preserved c =
    let test : ℕ → Bool = λ place. sh_type c.args.file.now place == 2 in
    find_next test c.u64_at-first.result 64 c.loop-k.k c.loop-k.invariant (grind (arith, nat_tests))

pub returns-then-u32_at-eq2-clause-place : goal.returns-then-u32_at-eq2-clause-place
returns-then-u32_at-eq2-clause-place c =
    let file = c.args.file.now in
    let test : ℕ → Bool = λ place. sh_type file place == 2 in
    let count = c.u16_at-k-end.result in
    let stop = find_stop test c.u64_at-first.result 64 c.loop-k.k count c.loop-k-test.true c.loop-k.invariant (grind (arith, nat_tests)) in
    sym stop
    ∙ ap (λ from. find test (places from 64 count)) c.u64_at-first.ensures
    ∙ ap (λ n. find test (places (e_shoff file) 64 n)) c.u16_at-k-end.ensures

use Rattle.std.proofs.Common.{◌≡◌, ◌+◌, ◌*◌, ◌<◌, length, map, ap, sym, rules, ◌∙◌, arith}
use Rattle.guest_words.specs.ElfFields.{e_phnum, header_place}
use Rattle.guest_words.specs.Image.{page_count}
use Rattle.elf_loader.specs.Segment.{load_of}
use Rattle.elf_loader.proofs.TableRules.{table_begins, loads_begin, pages_begin, table_next, loads_next, table_stops}
use Rattle.elf_loader.proofs.table.check_table.Goals as goal

pub loop-k-init : goal.loop-k-init
loop-k-init c =
    let none = ap (λ xs. map load_of xs) c.new-segments.ensures in
    record {
      kept = table_begins c.args.file.now;
      loads = none ∙ sym (loads_begin c.args.file.now);
      counted = sym (ap page_count none ∙ pages_begin);
      within = omega arith;
      free = omega (arith, ap length c.new-segments.ensures);
    }

pub returns-in_err-pages-clause-rules : goal.returns-in_err-pages-clause-rules
returns-in_err-pages-clause-rules c =
    let file = c.args.file.now in
    let k = c.loop-k.k in
    let place : c.u64_at-first.result + 56 * k ≡ header_place file k = ap (λ n. n + 56 * k) c.u64_at-first.ensures in
    let here = rw (c.loop-k.invariant.loads, place) at c.in_err-pages.ensures.rules in
    let below : k < e_phnum file = omega (arith, c.u16_at-k-end.ensures) in
    let stop = table_stops file k (e_phnum file) _ below (table_next file k c.loop-k.invariant.kept ∙ here) in
    rw stop (search rules)

pub loop-k-preserved : goal.loop-k-preserved
loop-k-preserved c =
    let file = c.args.file.now in
    let k = c.loop-k.k in
    let place : c.u64_at-first.result + 56 * k ≡ header_place file k = ap (λ n. n + 56 * k) c.u64_at-first.ensures in
    let here = rw (c.loop-k.invariant.loads, place) at c.in_ok-pages.ensures.rules in
    record {
      kept = table_next file k c.loop-k.invariant.kept ∙ here;
      loads = rw (c.loop-k.invariant.loads, place) at c.in_ok-pages.ensures.loads ∙ sym (loads_next file k);
      counted = c.in_ok-pages.ensures.counted;
      within = c.in_ok-pages.ensures.within;
      free = omega (arith, c.in_ok-pages.ensures.longer);
    }

use Rattle.std.proofs.Common.{◌≡◌, ◌≤◌, map}
use Rattle.std.specs.Prelude.{None}
use Rattle.arrayvec.specs.ArrayVec.{array_vec_len}
use Rattle.guest_words.specs.Rules.{first_broken}
use Rattle.guest_words.specs.Image.{loads_before, table_rules, page_count}
use Rattle.elf_loader.specs.Segment.{load_of}
use Rattle.elf_loader.proofs.table.check_table.Given as goal

abbrev pub invariant-loop-k : goal.invariant-loop-k
invariant-loop-k l = record {
  kept : first_broken (table_rules l.file l.k) ≡ None;
  loads : map load_of l.segments.items ≡ loads_before l.file l.k;
  counted : l.pages ≡ page_count (map load_of l.segments.items);
  within : l.pages ≤ 16384;
  free : array_vec_len l.segments ≤ l.k;
}

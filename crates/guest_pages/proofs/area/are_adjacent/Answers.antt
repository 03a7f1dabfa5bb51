use Rattle.guest_pages.proofs.Adjacent.{adjacent_tells, first_upto}
use Rattle.guest_pages.proofs.area.are_adjacent.Goals as goal

pub overflow_sub-result-2 : goal.overflow_sub-result-2
overflow_sub-result-2 c =
    first_upto c.args.pages.now c.args.count c.index-pages-count.result c.index-pages-0.result c.requires.sorted c.requires.some c.requires.within

pub returns : goal.returns
returns c = record {
  value = adjacent_tells c.args.pages.now c.args.count c.index-pages-count.result c.index-pages-0.result c.requires.sorted c.requires.some c.requires.within;
}

use Rattle.cj_spans.proofs.Common.{rules, tree, line_of, source_of, items_left, items_line, items_source}
use Rattle.cj_spans.proofs.SourceWalks.{item_on, shown_none}
use Rattle.cj_spans.proofs.node.ItemsIterator.next.Goals as goal

pub returns-then-index-self-clause-steps : goal.returns-then-index-self-clause-steps
unfolding items_left items_source
returns-then-index-self-clause-steps c = search (rules, shown_none)

pub returns-clause-steps : goal.returns-clause-steps
unfolding items_left tree items_line line_of items_source source_of
returns-clause-steps c = search (rules, item_on)

pub returns-clause-goes : goal.returns-clause-goes
unfolding items_left tree
returns-clause-goes c = search (rules, item_on)

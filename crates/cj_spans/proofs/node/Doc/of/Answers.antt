use Rattle.cj_spans.proofs.Common.{document, document_line, document_source, tokens_in, rules}
use Rattle.cj_spans.proofs.Scanned.{known, one_tree, its_tree}
use Rattle.cj_spans.proofs.Sizes.{are_full}
use Rattle.cj_spans.proofs.Walks.{are_lone}
use Rattle.cj_spans.proofs.node.Doc.of.Goals as goal

pub invariant_of-result : goal.invariant_of-result
invariant_of-result c = let k = known _ _ c.requires in
    record {
      within = k.within;
      rising = k.rising;
      nested = k.nested;
      named = k.named;
      linked = k.linked;
      spelled = k.spelled;
      lone = are_lone c.requires;
      full = are_full c.requires;
    }

pub invariant_of-result-2 : goal.invariant_of-result-2
invariant_of-result-2 c = search (rules, known)

pub returns : goal.returns
unfolding document document_line document_source tokens_in
returns c = search (rules, its_tree, one_tree)

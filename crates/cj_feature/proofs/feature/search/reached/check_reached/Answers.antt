use Rattle.cj_feature.proofs.Common.{IfSome, IsBeside, ap, option_map, subst, sym, tree, ◌∙◌}
use Rattle.cj_feature.proofs.Reaching.{fit}
use Rattle.cj_feature.proofs.feature.search.reached.check_reached.Goals as goal

pub check_from-requires : goal.check_from-requires
check_from-requires c =
    let f = c.args.feature in
    let s = c.in-Some-Some in
    fit f s.objects (tree s.id) (sym c.get.ensures.value ∙ ap (option_map tree) s.is-0)
    (sym c.requires.objects ∙ ap (option_map tree) s.is-1)
    (subst (λ o. IfSome o (λ m. IsBeside f m)) s.is-1 c.requires.source) (c.requires.marks c.if-not-asked.false)

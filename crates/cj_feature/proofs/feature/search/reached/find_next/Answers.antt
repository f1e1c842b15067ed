use Rattle.cj_feature.proofs.Common.{IfSome_then, ap, option_map, tree}
use Rattle.cj_feature.proofs.Reaching.{all-are-marked, first-to-mark, next-to-mark}
use Rattle.cj_feature.proofs.Walking.{if-none}
use Rattle.cj_feature.proofs.feature.search.reached.find_next.Goals as goal

pub returns-in-Some-clause-found : goal.returns-in-Some-clause-found
returns-in-Some-clause-found c =
    let e = c.root-root.ensures in
    let s = c.in-Some-Some in
    rw (e.tree, e.line, e.source) at
    (first-to-mark c.root-root.result s.objects (tree s.id) (cc (ap (option_map tree) s.is-0))
    (cc (ap (option_map tree) s.is-1)) (s.ensures'.line, s.ensures'.source) c.in-Some.number
    c.in-Some.ensures.found)

pub returns-in-None-clause-found : goal.returns-in-None-clause-found
returns-in-None-clause-found c =
    let e = c.root-root.ensures in
    let s = c.in-Some-Some in
    IfSome_then c.find_listed.result c.find_listed.ensures.found (λ number x.
    rw (e.tree, e.line, e.source) at
    (next-to-mark c.root-root.result s.objects (tree s.id) (cc (ap (option_map tree) s.is-0))
    (cc (ap (option_map tree) s.is-1)) (s.ensures'.line, s.ensures'.source) number x))

pub returns-in-None-clause-none : goal.returns-in-None-clause-none
returns-in-None-clause-none c =
    let e = c.root-root.ensures in
    let s = c.in-Some-Some in
    if-none c.find_listed.result (λ listed.
    rw (e.tree, e.line, e.source) at
    (all-are-marked c.root-root.result s.objects (tree s.id) (cc (ap (option_map tree) s.is-0))
    (cc (ap (option_map tree) s.is-1)) (s.ensures'.line, s.ensures'.source)
    c.in-None.ensures.none listed)) c.find_listed.ensures.none

use Rattle.cityseq_c.proofs.Common.{Bor, List, None, Some, YieldsList-from_slice_split, ap, has_edge, option_and_then, option_map, rules, slice_get, slice_split, sym, ℕ, ◌∙◌, ◌≡◌}
use Rattle.std.proofs.Common.{nat_eq, tests}
use Rattle.std.proofs.lemmas.Iterator.Consumers.{nth_from_yields_List}
use Rattle.cityseq_c.proofs.fault_place.edge_at.Goals as goal

pub returns-in-Some : goal.returns-in-Some
returns-in-Some c =
    let fields : List (List ℕ) = slice_split (λ b. nat_eq b 44) c.args.bbox.now in
    let found : option_map (λ (x : Bor (List ℕ)). x.now) c.nth.result ≡ slice_get fields c.args.index =
    nth_from_yields_List c.nth.result c.nth.new.self c.args.index c.nth.ensures.ran
    (YieldsList-from_slice_split _ (λ b. nat_eq b 44) c.args.bbox.now c.split.ensures.rest c.split.ensures.done
    c.split.ensures.closure (λ x r q k. search (rules, tests))) in
    let here : Some c.in-Some.field.now ≡ slice_get fields c.args.index =
    sym (ap (λ o. option_map (λ (x : Bor (List ℕ)). x.now) o) c.in-Some.is) ∙ found in
    c.edge_of.ensures ∙ ap (λ o. option_and_then has_edge o) here

pub returns-in-None : goal.returns-in-None
returns-in-None c =
    let fields : List (List ℕ) = slice_split (λ b. nat_eq b 44) c.args.bbox.now in
    let found : option_map (λ (x : Bor (List ℕ)). x.now) c.nth.result ≡ slice_get fields c.args.index =
    nth_from_yields_List c.nth.result c.nth.new.self c.args.index c.nth.ensures.ran
    (YieldsList-from_slice_split _ (λ b. nat_eq b 44) c.args.bbox.now c.split.ensures.rest c.split.ensures.done
    c.split.ensures.closure (λ x r q k. search (rules, tests))) in
    let here : None ≡ slice_get fields c.args.index =
    sym (ap (λ o. option_map (λ (x : Bor (List ℕ)). x.now) o) c.in-None.is) ∙ found in
    ap (λ o. option_and_then has_edge o) here

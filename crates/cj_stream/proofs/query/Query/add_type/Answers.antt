use Rattle.cj_stream.proofs.Common.{ChosenTypes, Criteria, Option, Some, criteria, on_ok_weaker, option_map, with_type_in, ◌≡◌}
use Rattle.cj_stream.proofs.query.Query.add_type.Goals as goal

-- what is asked once the part is this one
adding : (part : Option (Option ChosenTypes)) (new : Option ChosenTypes) (a : Criteria) → part ≡ Some new
    → option_map (λ (p : Option ChosenTypes). record a { types = p }) part ≡ Some (record a { types = new })
adding part new a h = rw h

pub returns-clause-ok : goal.returns-clause-ok
unfolding criteria
returns-clause-ok c =
    let part = with_type_in c.args.extensions c.args.name.now (criteria c.args.self.now).types in
    on_ok_weaker c.add_type.result (adding part _ (criteria c.args.self.now)) c.add_type.ensures.ok

use Rattle.cj_spans.specs.View.{items_left}
use Rattle.cj_feature.specs.Walks.{coordinates_left}
use Rattle.cj_feature.proofs.Typed.{numbers-there}
use Rattle.cj_feature.proofs.feature.coordinates.Coordinates.over.Goals as goal

pub returns-clause-there : goal.returns-clause-there
unfolding coordinates_left
returns-clause-there c =
    numbers-there c.args.axis c.requires.on_an_axis (items_left c.args.items) c.requires.whole

use Rattle.cj_feature.proofs.Common.{FindsAll, List, Tree, city_object, false, flat_map, members_left, members_of, object_links, tree, ◌≡◌}
use Rattle.cj_geometry.specs.Given.{given}
use Rattle.cj_feature.proofs.feature.objects.check_city_objects.Given as goal

abbrev pub invariant-loop-object : goal.invariant-loop-object
invariant-loop-object l =
    (FindsAll (λ m. city_object l.beside.extensions l.vertices (given l.beside.templates) m.1) l.found
    (members_left l.object-iterator) l.initial.found (members_of (tree l.node)))
    × (l.linked ≡ false → (all : List (Tree × Tree)) → flat_map (object_links all) (members_of (tree l.node))
    ≡ flat_map (object_links all) (members_left l.object-iterator))

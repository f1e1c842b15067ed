use Rattle.std.proofs.Common.{refl}
use Rattle.std.specs.Prelude.{codes}
use Rattle.std.specs.Str.{chars}
use Rattle.cj_geometry.proofs.Values.{text-is}
use Rattle.cj_geometry_tests.proofs.examples.forms_of_the_table.Goals as goal

pub returns-clause-named : goal.returns-clause-named
unfolding chars
returns-clause-named c = (
  λ t h. rw (text-is (chars (codes "MultiPoint")) t h) refl,
  (
    λ t h. rw (text-is (chars (codes "MultiLineString")) t h) refl,
    (
      λ t h. rw (text-is (chars (codes "MultiSurface")) t h) refl,
      (
        λ t h. rw (text-is (chars (codes "CompositeSurface")) t h) refl,
        (
          λ t h. rw (text-is (chars (codes "Solid")) t h) refl,
          (
            λ t h. rw (text-is (chars (codes "MultiSolid")) t h) refl,
            (
              λ t h. rw (text-is (chars (codes "CompositeSolid")) t h) refl,
              (
                λ t h. rw (text-is (chars (codes "GeometryInstance")) t h) refl,
                tt,
              ),
            ),
          ),
        ),
      ),
    ),
  ),
)

pub returns-clause-other : goal.returns-clause-other
returns-clause-other c t h =
    rw (h.0, h.1.0, h.1.1.0, h.1.1.1.0, h.1.1.1.1.0, h.1.1.1.1.1.0, h.1.1.1.1.1.1.0, h.1.1.1.1.1.1.1.0) refl

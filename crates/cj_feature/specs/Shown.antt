-- What a header shows of its tree.
use Rattle.std.specs.Prelude.{◌≡◌, List, [], ◌∷◌, ◌++◌, Bool, false, ◌&&◌, cond, map, Option, Some, None, is_some, codes}
use Rattle.std.specs.Option.{ForSome}
use Rattle.std.specs.Str.{chars}
use Rattle.cj_spans.specs.declared.finding.Finding.{Finding}
use Rattle.cj_spans.specs.Meaning.Tree.{Tree}
use Rattle.cj_decimal.specs.Meaning.Number.{Number, is_fixed}
use Rattle.cj_geometry.specs.Given.{list_of}
use Rattle.cj_spans.specs.Meaning.Parts.{items_if}
use Rattle.cj_geometry.specs.ListSteps.{AreStepsOf}
use Rattle.cj_feature.specs.declared.header.reading.HeaderParts.{HeaderParts}
use Rattle.cj_feature.specs.Meaning.Header.{header}
use Rattle.cj_feature.specs.Meaning.Feature.{templates_of}
use Rattle.cj_decimal.specs.Meaning.Affine.{AffineMap}
use Rattle.cj_feature.specs.Meaning.Transform.{transform_values}
use Rattle.cj_feature.specs.Axes.{maps_of}

-- the first two of these numbers are fixed
abbrev pub are_fixed : List Number → Bool
are_fixed [] = false
are_fixed (x ∷ []) = false
are_fixed (x ∷ y ∷ ns) = is_fixed x && is_fixed y

-- a rule for the first two values
abbrev pub first_two : (Tree → List Finding) → List Tree → List Finding
first_two rule [] = []
first_two rule (x ∷ []) = rule x
first_two rule (x ∷ y ∷ ts) = rule x ++ rule y

-- they are shown with a box alone
abbrev pub maps_if : Bool → Tree → Option (List AffineMap)
maps_if with_box t = cond with_box (Some (maps_of t)) None

-- the tree is a header, for a box or for none, that has these parts
pub record ArePartsOf (t : Tree) (parts : HeaderParts) : Type 0 where
  pub valid : header parts.with_box t ≡ []
  pub maps : parts.maps ≡ maps_if parts.with_box t
  pub scale : transform_values (chars (codes "scale")) t ≡ map Some parts.scale
  pub translate : transform_values (chars (codes "translate")) t ≡ map Some parts.translate
  pub listed : is_some parts.templates ≡ is_some (list_of (templates_of t))
  pub steps : ForSome parts.templates (AreStepsOf (items_if (list_of (templates_of t))))

-- whether parts were read for a box
unfoldable pub parts_box : HeaderParts → Bool
parts_box parts = parts.with_box

-- parts of the tree, read for a box or for none
pub record AreKept (t : Tree) (with_box : Bool) (parts : HeaderParts) : Type 0 where
  pub of_tree : ArePartsOf t parts
  pub for_box : parts.with_box ≡ with_box

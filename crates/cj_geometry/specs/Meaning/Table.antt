-- The geometry types (CityJSON 2.0, section 3) and how deep their lists are.
use Rattle.std.specs.Prelude.{ℕ, List, [], ◌∷◌, codes, cond, Option, Some, None}
use Rattle.std.specs.Str.{chars}
use Rattle.cj_spans.specs.Meaning.Tree.{Tree}
use Rattle.cj_spans.specs.Meaning.Parts.{has_text}

-- lists of some depth, with semantic values of a depth or with none; or an instance of a template
pub data TypeForm : Type 0 where
  parts : (depth : ℕ) → (values : Option ℕ) → TypeForm
  instance : TypeForm

-- a name and its form
pub record Row : Type 0 where
  pub name : List ℕ
  pub form : TypeForm

abbrev pub row : List ℕ → TypeForm → Row
row n f = record { name = chars n; form = f }

-- the table
abbrev pub table : List Row
table =
    row (codes "MultiPoint") (parts 1 None)
    ∷ row (codes "MultiLineString") (parts 2 None)
    ∷ row (codes "MultiSurface") (parts 3 (Some 1))
    ∷ row (codes "CompositeSurface") (parts 3 (Some 1))
    ∷ row (codes "Solid") (parts 4 (Some 2))
    ∷ row (codes "MultiSolid") (parts 5 (Some 3))
    ∷ row (codes "CompositeSolid") (parts 5 (Some 3))
    ∷ row (codes "GeometryInstance") instance
    ∷ []

-- the form of the row among these whose name is the text of the tree
abbrev pub form_in : List Row → Tree → Option TypeForm
form_in [] t = None
form_in (r ∷ rs) t = cond (has_text r.name t) (Some r.form) (form_in rs t)

-- the form of the row of the table whose name is the text of the tree, if there is one
abbrev pub form_of : Tree → Option TypeForm
form_of t = form_in table t

-- The findings of a geometry, rule by rule (RULES, geometries).
use Rattle.std.specs.Prelude.{ℕ, zero, suc, List, [], ◌∷◌, ◌++◌, Bool, true, false, not, ◌&&◌, cond, nat_eq, length}
use Rattle.std.specs.Prelude.{Option, Some, None, option_and_then, codes}
use Rattle.std.specs.List.{flat_map}
use Rattle.std.specs.Str.{chars}
use Rattle.cj_spans.specs.declared.reason.Reason.TheVariants.{UnknownGeometryType, VertexIndex, SemanticsCount}
use Rattle.cj_spans.specs.declared.reason.Reason.TheVariants.{SemanticsIndex, TemplateIndex, BadInstance}
use Rattle.cj_spans.specs.declared.finding.Finding.{Finding}
use Rattle.cj_spans.specs.Meaning.Tree.{Tree}
use Rattle.cj_spans.specs.Meaning.Parts.{kind_of, items_of, items_if, member_of}
use Rattle.cj_geometry.specs.Meaning.Table.{TypeForm, parts, instance, form_of}
use Rattle.cj_spans.specs.Meaning.Kinds.{is_null, is_text, is_array, is_object}
use Rattle.cj_geometry.specs.Meaning.Rule.{one, of_kind, nothing, needs, may_have, distinct, of_length}
use Rattle.cj_geometry.specs.Meaning.Numbers.{number, index}

-- the templates that a geometry may name: those of a list, or none; or the geometry is a template itself
pub data TemplateSource : Type 0 where
  listed : Tree → TemplateSource
  empty : TemplateSource
  itself : TemplateSource

-- how many there are
abbrev pub template_count : TemplateSource → ℕ
template_count (listed t) = length (items_of t)
template_count templates = 0

-- the geometry is a template itself
abbrev pub is_itself : TemplateSource → Bool
is_itself itself = true
is_itself templates = false

-- lists of some depth, and below them indices of vertices (RULES, geometries, 3)
abbrev pub shape : Option ℕ → ℕ → Tree → List Finding
shape vertices zero t = index VertexIndex vertices t
shape vertices (suc depth) t = of_kind is_array (λ u. flat_map (shape vertices depth) (items_of u)) t

-- an array has as many items as its part of the boundaries, if that is an array (RULES, geometries, 4)
abbrev pub other_count : Tree → Option Tree → List Finding
other_count v None = []
other_count v (Some b) = cond (is_array (kind_of b) && not (nat_eq (length (items_of v)) (length (items_of b))))
    (one SemanticsCount v) []

-- a rule for each value beside the part at its place, if there is one
abbrev pub paired : (Tree → Option Tree → List Finding) → List Tree → List Tree → List Finding
paired rule [] bs = []
paired rule (v ∷ vs) [] = rule v None ++ paired rule vs []
paired rule (v ∷ vs) (b ∷ bs) = rule v (Some b) ++ paired rule vs bs

-- a rule on a value that may be null
abbrev pub unless_null : (Tree → List Finding) → Tree → List Finding
unless_null rule v = cond (is_null (kind_of v)) [] (rule v)

-- null, or the index of a surface
abbrev pub entry : Option ℕ → Tree → List Finding
entry surfaces v = unless_null (index SemanticsIndex surfaces) v

-- semantic values of some depth, with their part of the boundaries: null at every level, or arrays as long as their
-- part, and below them indices of surfaces (RULES, geometries, 4)
abbrev pub values : Option ℕ → ℕ → Tree → Option Tree → List Finding
values surfaces zero v b = entry surfaces v
values surfaces (suc depth) v b =
    unless_null
    (of_kind is_array (λ u. other_count u b ++ paired (values surfaces depth) (items_of u) (items_if b))) v

-- a surface is an object that needs a type (RULES, geometries, 4)
abbrev pub surface : Tree → List Finding
surface t = of_kind is_object (λ u. distinct u ++ needs (chars (codes "type")) (of_kind is_text nothing) u) t

-- each item of an array is a surface
abbrev pub surfaces : Tree → List Finding
surfaces t = of_kind is_array (λ v. flat_map surface (items_of v)) t

-- how many items an array has; not known for another value, or for none
abbrev pub count_if : Tree → Option ℕ
count_if t = cond (is_array (kind_of t)) (Some (length (items_of t))) None

abbrev pub count_of : Option Tree → Option ℕ
count_of o = option_and_then count_if o

-- the rules on semantics whose values have some depth, with the boundaries (RULES, geometries, 4)
abbrev pub semantics : ℕ → Option Tree → Tree → List Finding
semantics depth boundaries t =
    of_kind is_object (λ u.
    distinct u
    ++ needs (chars (codes "surfaces")) surfaces u
    ++ needs (chars (codes "values"))
    (λ v. values (count_of (member_of (chars (codes "surfaces")) u)) depth v boundaries) u) t

-- semantics, where the type has them (RULES, geometries, 4)
abbrev pub semantics_if : Option ℕ → Tree → List Finding
semantics_if None g = []
semantics_if (Some depth) g = may_have (chars (codes "semantics"))
    (semantics depth (member_of (chars (codes "boundaries")) g)) g

-- the rules on boundaries of some depth, with semantic values of a depth or unread ones (RULES, geometries, 3 and 4)
abbrev pub part_rules : Option ℕ → ℕ → Option ℕ → Tree → List Finding
part_rules vertices depth semantic g =
    needs (chars (codes "lod")) (of_kind is_text nothing) g
    ++ needs (chars (codes "boundaries")) (shape vertices depth) g
    ++ semantics_if semantic g

-- the rules on instances of templates (RULES, geometries, 5)
abbrev pub instance_rules : Option ℕ → ℕ → Tree → List Finding
instance_rules vertices templates g =
    needs (chars (codes "template")) (index TemplateIndex (Some templates)) g
    ++ needs (chars (codes "boundaries")) (of_length BadInstance 1 (index VertexIndex vertices)) g
    ++ needs (chars (codes "transformationMatrix")) (of_length BadInstance 16 number) g

-- the rules of a form; the type's value is the second tree. A template is no instance (RULES, geometries, 6)
abbrev pub form_rules : Option ℕ → TemplateSource → Tree → Tree → Option TypeForm → List Finding
form_rules vertices templates g t None = one UnknownGeometryType t
form_rules vertices templates g t (Some (parts depth semantic)) = part_rules vertices depth semantic g
form_rules vertices templates g t (Some instance) =
    cond (is_itself templates) (one BadInstance t) (instance_rules vertices (template_count templates) g)

-- the rules by the type of a geometry (RULES, geometries, 2)
abbrev pub typed_rules : Option ℕ → TemplateSource → Tree → List Finding
typed_rules vertices templates g =
    needs (chars (codes "type")) (of_kind is_text (λ name. form_rules vertices templates g name (form_of name))) g

-- the findings of a geometry, with so many vertices if that is known (RULES, geometries, 1)
abbrev pub geometry : Option ℕ → TemplateSource → Tree → List Finding
geometry vertices templates t = of_kind is_object (λ g. distinct g ++ typed_rules vertices templates g) t

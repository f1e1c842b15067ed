-- What headers and features of no findings have.
use Rattle.cj_feature.proofs.Common.{Bool, Finding, List, None, Option, Some, TemplateSource, Tree, WrongKind, [], arith, chars, city_object, city_objects, codes, cond, count_of, distinct, false, feature_rules, flat_map, header, id_in, if_there, is_object, is_text, known_type, member_of, missing, needs, object_type, of_kind, one, refl, three_numbers, transform, true, vertex_list, ℕ, ◌++◌, ◌∷◌, ◌≡◌, BadInstance, DecimalFault, Err, Number, Ok, Result, TemplateIndex, as_whole, feature, geometries, geometry, has_text, is_outside, items_if, map, map-append, members_if, members_of, nat_lt, nat_tests, object_geometries, subst, template_count, templates_of, value_findings, whole_findings, IsIn, text_of, IdNotFound, MissingMember, NotReached, UnknownObjectType, array, atom_at, found_at, is_reached, least, member, no_items, no_members, object, reached_from}
use Rattle.cj_geometry.specs.Meaning.ObjectTypes.{ObjectRow, object_types}
use Rattle.cj_feature.proofs.Rules.{kind-none, none-both, then-none, by-member, holds, is-there}
use Rattle.cj_geometry.specs.Meaning.Geometry.{form_rules, instance_rules, is_itself}
use Rattle.cj_geometry.specs.Meaning.Lod.{is_instance, lod}
use Rattle.cj_geometry.specs.Meaning.Table.{form_of, instance}
use Rattle.cj_geometry.proofs.Values.{other_text}
use Rattle.cj_feature.proofs.LinkFaults.{known-text}
use Rattle.cj_spans.specs.Meaning.Text.{text, code_points_after, first_code_point, first_width}
use Rattle.cj_geometry.proofs.Arrays.{number-zero, number-one}
use Rattle.cj_feature.specs.Examples.{Row, row, plain_header, other_id, chain, part_apart, main_part, extension, text as text_at}

-- ---- what headers and features of no findings have

-- a transform
has-transform : (b : Bool) (t : Tree) → header b t ≡ [] → needs (chars (codes "transform")) (transform b) t ≡ []
has-transform b t valid = search (arith, kind-none, none-both)

-- which has no finding
pub no-finding : (b : Bool) (t u : Tree) → header b t ≡ [] → Some u ≡ member_of (chars (codes "transform")) t
    → transform b u ≡ []
no-finding b t u valid is = search (arith, then-none, has-transform)

-- and in it three numbers twice
module _ (b : Bool) (u : Tree) (valid : transform b u ≡ []) where
  rules : distinct u ++ needs (chars (codes "scale")) (three_numbers b) u
      ++ needs (chars (codes "translate")) (three_numbers b) u ≡ []
  rules = (kind-none _ _ u valid).1

  pub has-scale : needs (chars (codes "scale")) (three_numbers b) u ≡ []
  has-scale = (none-both _ _ (none-both _ _ rules).0).1

  pub has-translate : needs (chars (codes "translate")) (three_numbers b) u ≡ []
  has-translate = (none-both _ _ rules).1

-- ---- what has no findings has none with fewer rules: without the one on what is reached, and with types of extensions

both-none : (fs gs : List Finding) → fs ≡ [] → gs ≡ [] → fs ++ gs ≡ []
both-none fs gs f g = rw (f, g) refl

kind-fewer : (b : Bool) (fs gs : List Finding) (t : Tree) → cond b fs (one WrongKind t) ≡ [] → (fs ≡ [] → gs ≡ [])
    → cond b gs (one WrongKind t) ≡ []
kind-fewer true fs gs t h on = on h
kind-fewer false fs gs t h on = h

if-fewer : (all fewer : Tree → List Finding) → ((t : Tree) → all t ≡ [] → fewer t ≡ []) → (g : Tree) (o : Option Tree)
    → missing g o ++ if_there all o ≡ [] → missing g o ++ if_there fewer o ≡ []
if-fewer all fewer on g None h = h
if-fewer all fewer on g (Some t) h = on t h

each-fewer : {A : Type 0} (all fewer : A → List Finding) → ((x : A) → all x ≡ [] → fewer x ≡ []) → (xs : List A)
    → flat_map all xs ≡ [] → flat_map fewer xs ≡ []
each-fewer all fewer on [] h = refl
each-fewer all fewer on (x ∷ xs) h = search (arith, none-both, both-none, each-fewer all _ on xs)

known-fewer : (extensions : Bool) (o : Option ObjectRow) (t : Tree) → known_type extensions o t ≡ []
    → known_type true o t ≡ []
known-fewer extensions (Some r) t h = refl
known-fewer true None t h = h
known-fewer false None t h = absurd (cc h)

type-fewer : (extensions : Bool) (t : Tree) → object_type extensions t ≡ [] → object_type true t ≡ []
type-fewer extensions t h =
    kind-fewer _ _ _ t h (known-fewer _ _ t)

module _ (extensions : Bool) (vertices : Option ℕ) (templates : TemplateSource) where
  object-fewer : (t : Tree) → city_object extensions vertices templates t ≡ []
      → city_object true vertices templates t ≡ []
  object-fewer t h = search (arith, kind-fewer, none-both, if-fewer, type-fewer, both-none)

  objects-fewer : (t : Tree) → city_objects extensions vertices templates t ≡ []
      → city_objects true vertices templates t ≡ []
  objects-fewer t h = search (arith, kind-fewer, none-both, both-none, each-fewer, object-fewer)

pub valid-without : (templates : TemplateSource) (t : Tree) (tree extensions : Bool)
    → of_kind is_object (feature_rules templates tree extensions) t ≡ []
    → of_kind is_object (feature_rules templates false true) t ≡ []
valid-without templates t tree extensions h = search (arith, kind-fewer, none-both, if-fewer, objects-fewer, both-none)

-- of a feature, an id, city objects and vertices
module _ (templates : TemplateSource) (t : Tree)
    (valid : of_kind is_object (feature_rules templates false true) t ≡ []) where
  feature_none : feature_rules templates false true t ≡ []
  feature_none = (kind-none _ _ t valid).1

  pub has-id : needs (chars (codes "id")) (of_kind is_text (id_in (member_of (chars (codes "CityObjects")) t))) t ≡ []
  has-id = search (arith, none-both, feature_none)

  pub has-objects : needs (chars (codes "CityObjects"))
      (city_objects true (count_of (member_of (chars (codes "vertices")) t)) templates) t ≡ []
  has-objects = search (arith, none-both, feature_none)

  pub has-vertices : needs (chars (codes "vertices")) vertex_list t ≡ []
  has-vertices = (none-both _ _ (none-both _ _ (none-both _ _ feature_none).0).0).1

-- ---- the LoDs of a valid feature beside a header without templates: no geometry is an instance

-- the type of instances has their form
instance-form : (t : Tree) → has_text (chars (codes "GeometryInstance")) t ≡ true → form_of t ≡ Some instance
unfolding chars
instance-form t h =
    let no = λ (s : List ℕ). other_text _ s t h in
    rw (
      no (chars (codes "MultiPoint")),
      no (chars (codes "MultiLineString")),
      no (chars (codes "MultiSurface")),
      no (chars (codes "CompositeSurface")),
      no (chars (codes "Solid")),
      no (chars (codes "MultiSolid")),
      no (chars (codes "CompositeSolid")),
      h,
    ) refl

-- no number is an index of nothing
below-none : (k : ℕ) → nat_lt k 0 ≡ false
below-none k = grind (arith, nat_tests)

no-index : (t : Tree) (r : Result Number DecimalFault)
    → value_findings (λ v. whole_findings (λ w. cond (is_outside (Some 0) w) (one TemplateIndex t) []) t (as_whole v))
    t r
    ≡ [] → ⊥
no-index t (Ok v) h = search (arith, below-none)
no-index t (Err e) h = cc h

module _ (vertices : Option ℕ) (templates : TemplateSource) (empty : template_count templates ≡ 0) where
  -- so no instance is valid
  no-rules : (g : Tree) → instance_rules vertices (template_count templates) g ≡ [] → ⊥
  no-rules g h = search (arith, by-member, none-both, no-index, kind-none)

  no-form : (b : Bool) (g t : Tree) → cond b (one BadInstance t) (instance_rules vertices (template_count templates) g)
      ≡ [] → ⊥
  no-form true g t h = cc h
  no-form false g t h = no-rules g h

  not-instance : (g : Tree) → geometry vertices templates g ≡ [] → is_instance g ≡ false
  not-instance g h =
      let rules = (kind-none _ _ g h).1 in
      let name = λ (t : Tree). form_rules vertices templates g t (form_of t) in
      let has = by-member (of_kind is_text name) g (member_of (chars (codes "type")) g) (none-both _ _ rules).1 in
      go has.0 has.1 (kind-none _ _ has.0 has.2).1 (has_text (chars (codes "GeometryInstance")) has.0) refl
    where
      go : (t : Tree) → member_of (chars (codes "type")) g ≡ Some t → form_rules vertices templates g t (form_of t) ≡ []
          → (b : Bool) → has_text (chars (codes "GeometryInstance")) t ≡ b → is_instance g ≡ false
      go t is none true e =
          absurd (no-form (is_itself templates) g t
          (subst (λ f. form_rules vertices templates g t f ≡ []) (instance-form t e) none))
      go t is none false e = rw is e

  -- and each geometry has its own LoD
  own-lod : (g : Tree) → geometry vertices templates g ≡ [] → lod templates g ≡ member_of (chars (codes "lod")) g
  own-lod g h = rw (not-instance g h) refl

  own-lods : (gs : List Tree) → flat_map (geometry vertices templates) gs ≡ []
      → map (lod templates) gs ≡ map (member_of (chars (codes "lod"))) gs
  own-lods [] h = refl
  own-lods (g ∷ gs) h = search (arith, none-both, own-lod, own-lods gs)

  of-member : (o : Option Tree) → if_there (geometries vertices templates) o ≡ []
      → map (lod templates) (items_if o) ≡ map (member_of (chars (codes "lod"))) (items_if o)
  of-member None h = refl
  of-member (Some t) h =
      own-lods _
      (kind-none _ _ t h).1

  of-object : (m : Tree × Tree) → city_object true vertices templates m.1 ≡ []
      → map (lod templates) (object_geometries m) ≡ map (member_of (chars (codes "lod"))) (object_geometries m)
  of-object m h = search (arith, kind-none, of-member, none-both)

  of-objects : (ms : List (Tree × Tree)) → flat_map (λ m. city_object true vertices templates m.1) ms ≡ []
      → map (lod templates) (flat_map object_geometries ms)
      ≡ map (member_of (chars (codes "lod"))) (flat_map object_geometries ms)
  of-objects [] h = refl
  of-objects (m ∷ ms) h = search (arith, none-both, map-append, of-object, of-objects ms)

-- those of a valid feature
pub valid-lods : (header t : Tree) → feature header t false true ≡ [] → template_count (templates_of header) ≡ 0
    → map (lod (templates_of header)) (flat_map object_geometries
    (members_if (member_of (chars (codes "CityObjects")) t)))
    ≡ map (member_of (chars (codes "lod"))) (flat_map object_geometries
    (members_if (member_of (chars (codes "CityObjects")) t)))
valid-lods header t valid empty =
    let templates = templates_of header in
    let vertices = count_of (member_of (chars (codes "vertices")) t) in
    let has = by-member (city_objects true vertices templates) t (member_of (chars (codes "CityObjects")) t)
    (has-objects templates t valid) in
    let u = has.0 in
    let rules = (kind-none _ _ u has.2).1 in
    rw has.1 (of-objects vertices templates empty (members_of u) (none-both _ _ rules).1)

-- ---- the id of a feature of no findings is the name of a city object

module _ (templates : TemplateSource) (t : Tree) (valid : of_kind is_object (feature_rules templates false true) t ≡ [])
    (id : Tree) (is : member_of (chars (codes "id")) t ≡ Some id) where
  not-unknown : id_in (member_of (chars (codes "CityObjects")) t) id ≡ []
  not-unknown = search (arith, kind-none, then-none, has-id)

  in-objects : (o : Option Tree) → o ≡ member_of (chars (codes "CityObjects")) t → id_in o id ≡ [] → (x : List ℕ)
      × (text_of id ≡ Some x) × IsIn (members_if o) x
  in-objects None e h = search (arith, is-there, has-objects)
  in-objects (Some u) e h = search (arith, then-none, has-objects, kind-none, known-text, holds)

  pub has-name : (x : List ℕ) × (text_of id ≡ Some x) × IsIn (members_if (member_of (chars (codes "CityObjects")) t)) x
  has-name = search (arith, in-objects, not-unknown)

-- ---- what the rules say of worked headers and features

-- a feature of one city object
abbrev pub plain_feature : Row
plain_feature =
    row (codes "\"b\":{\"type\":\"Building\"}")
    (λ line. member (atom_at line 50 53) (object 54 73
    (member (atom_at line 55 61) (text_at line 62 72) no_members)) no_members)

-- the same with a name of three bytes
abbrev pub euro_line : List ℕ
euro_line = codes "{\"type\":\"CityJSONFeature\",\"id\":\"" ++ 226 ∷ 130 ∷ 172 ∷ codes "\",\"CityObjects\":{\""
    ++ 226 ∷ 130 ∷ 172 ∷ codes "\":{\"type\":\"Building\"}},\"vertices\":[]}"

abbrev pub euro_feature : Tree
euro_feature =
    object 0 93 (member (atom_at euro_line 1 7) (text_at euro_line 8 25)
    (member (atom_at euro_line 26 30) (text_at euro_line 31 36)
    (member (atom_at euro_line 37 50) (object 51 78 (member (atom_at euro_line 52 57) (object 58 77
    (member (atom_at euro_line 59 65) (text_at euro_line 66 76) no_members)) no_members))
    (member (atom_at euro_line 79 89) (array 90 92 no_items) no_members))))

pub plain_header-valid : header false plain_header ≡ []
unfolding text code_points_after first_code_point first_width chars
plain_header-valid = simp (number-zero, number-one) refl

pub plain_feature-valid : feature plain_header plain_feature.tree false false ≡ []
unfolding text code_points_after first_code_point first_width chars object_types
plain_feature-valid = refl

pub euro_feature-valid : feature plain_header euro_feature false false ≡ []
unfolding text code_points_after first_code_point first_width chars object_types
euro_feature-valid = refl

pub other_id-refused : least None (feature plain_header other_id.tree false false) ≡ Some (found_at 31 IdNotFound)
unfolding text code_points_after first_code_point first_width chars object_types
other_id-refused = refl

-- where each city object has to be reached from the main one, and where not
pub chain-valid : feature plain_header chain.tree true false ≡ []
unfolding text code_points_after first_code_point first_width chars object_types reached_from is_reached
chain-valid = refl

pub part_apart-refused : least None (feature plain_header part_apart.tree true false) ≡ Some (found_at 78 NotReached)
unfolding text code_points_after first_code_point first_width chars object_types reached_from is_reached
part_apart-refused = refl

pub main_part-refused : least None (feature plain_header main_part.tree true false) ≡ Some (found_at 98 NotReached)
unfolding text code_points_after first_code_point first_width chars object_types reached_from is_reached
main_part-refused = refl

pub part_apart-valid : feature plain_header part_apart.tree false false ≡ []
unfolding text code_points_after first_code_point first_width chars object_types
part_apart-valid = refl

-- a type of an extension, unknown and known
pub extension-refused : least None (feature plain_header extension.tree false false)
    ≡ Some (found_at 62 UnknownObjectType)
unfolding text code_points_after first_code_point first_width chars object_types
extension-refused = refl

pub extension-valid : feature plain_header extension.tree false true ≡ []
unfolding text code_points_after first_code_point first_width chars object_types
extension-valid = refl

-- neither a header nor a feature is the other
pub feature-no_header : least None (header false plain_feature.tree) ≡ Some (found_at 0 MissingMember)
unfolding text code_points_after first_code_point first_width chars object_types
feature-no_header = refl

pub header-no_feature : least None (feature plain_header plain_header false false) ≡ Some (found_at 0 MissingMember)
unfolding text code_points_after first_code_point first_width chars object_types
header-no_feature = refl

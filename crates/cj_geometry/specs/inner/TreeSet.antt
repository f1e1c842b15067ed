-- Trees are a set: that two of them are the same has one proof, so a ghost field may hold it. Shown by codes: trees of
-- numbers, one for each.
use Rattle.std.specs.Prelude.{◌≡◌, ℕ, List, ◌==◌, cond, Option, refl}
use mathlib.Core.Path.{ap, sym, ◌∙◌}
use base.Stored.{Gv, gnil, gnum, gcons, Coded, Coded-set, coded_ℕ, coded_list, coded×, coded_via}
use Rattle.std.specs.Coded.{coded_option}
use Rattle.cj_spans.specs.declared.token.Kind.{Kind}
use Rattle.cj_spans.specs.declared.token.Kind.TheVariants.{Null, Truth, Number, Text, Array, Object}
use Rattle.cj_spans.specs.Meaning.Tree.{Atom, Tree, scalar, array, object, Items, no_items, item, Members, no_members}
use Rattle.cj_spans.specs.Meaning.Tree.{member}
use Rattle.cj_geometry.specs.Meaning.Geometry.{TemplateSource, listed, empty, itself}

-- ---- kinds and scalars

abbrev kind_number : Kind → ℕ
kind_number Null = 0
kind_number Truth = 1
kind_number Number = 2
kind_number Text = 3
kind_number Array = 4
kind_number Object = 5

abbrev kind_at : ℕ → Kind
kind_at n = cond (n == 0) Null (cond (n == 1) Truth
    (cond (n == 2) Number (cond (n == 3) Text (cond (n == 4) Array Object))))

kind-back : (k : Kind) → kind_at (kind_number k) ≡ k
kind-back Null = refl
kind-back Truth = refl
kind-back Number = refl
kind-back Text = refl
kind-back Array = refl
kind-back Object = refl

kind-one : (k l : Kind) → kind_number k ≡ kind_number l → k ≡ l
kind-one k l p = sym (kind-back k) ∙ ap kind_at p ∙ kind-back l

abbrev atom_parts : Atom → ℕ × (ℕ × List ℕ)
atom_parts a = (a.start, (a.stop, a.spelling))

atom-one : (a b : Atom) → atom_parts a ≡ atom_parts b → a ≡ b
atom-one a b p = λ i. record { start = (p i).0; stop = (p i).1.0; spelling = (p i).1.1 }

abbrev atom_coded : Coded Atom
atom_coded = coded_via (coded× coded_ℕ (coded× coded_ℕ (coded_list coded_ℕ))) atom_parts atom-one

-- ---- trees

abbrev mutual
  tree_code : Tree → Gv
  tree_code (scalar k a) = gcons gnil (gcons (gnum (kind_number k)) (atom_coded.code a))
  tree_code (array i j ts) = gcons (gnum i) (gcons (gnum j) (items_code ts))
  tree_code (object i j ms) = gcons (gcons (gnum i) (gnum j)) (members_code ms)

  items_code : Items → Gv
  items_code no_items = gnil
  items_code (item t ts) = gcons (tree_code t) (items_code ts)

  members_code : Members → Gv
  members_code no_members = gnil
  members_code (member n t ms) = gcons (gcons (atom_coded.code n) (tree_code t)) (members_code ms)

mutual
  tree-one : (t u : Tree) → tree_code t ≡ tree_code u → t ≡ u
  tree-one (scalar k a) (scalar l b) p =
      let kinds : kind_number k ≡ kind_number l = cc in
      let atoms : atom_coded.code a ≡ atom_coded.code b = cc in
      let same : k ≡ l = kind-one k l kinds in
      let one : a ≡ b = atom_coded.inj a b atoms in
      cc
  tree-one (scalar k a) (array i j ts) p = cc
  tree-one (scalar k a) (object i j ms) p = cc
  tree-one (array i j ts) (scalar k a) p = cc
  tree-one (array i j ts) (array m n us) p =
      let starts : i ≡ m = cc in
      let stops : j ≡ n = cc in
      let items : items_code ts ≡ items_code us = cc in
      let one : ts ≡ us = items-one ts us items in
      cc
  tree-one (array i j ts) (object m n ms) p = cc
  tree-one (object i j ms) (scalar k a) p = cc
  tree-one (object i j ms) (array m n ts) p = cc
  tree-one (object i j ms) (object m n ns) p =
      let starts : i ≡ m = cc in
      let stops : j ≡ n = cc in
      let members : members_code ms ≡ members_code ns = cc in
      let one : ms ≡ ns = members-one ms ns members in
      cc

  items-one : (ts us : Items) → items_code ts ≡ items_code us → ts ≡ us
  items-one no_items no_items p = refl
  items-one no_items (item u us) p = cc
  items-one (item t ts) no_items p = cc
  items-one (item t ts) (item u us) p =
      let firsts : tree_code t ≡ tree_code u = cc in
      let others : items_code ts ≡ items_code us = cc in
      let first : t ≡ u = tree-one t u firsts in
      let rest : ts ≡ us = items-one ts us others in
      cc

  members-one : (ms ns : Members) → members_code ms ≡ members_code ns → ms ≡ ns
  members-one no_members no_members p = refl
  members-one no_members (member n u ns) p = cc
  members-one (member m t ms) no_members p = cc
  members-one (member m t ms) (member n u ns) p =
      let names : atom_coded.code m ≡ atom_coded.code n = cc in
      let firsts : tree_code t ≡ tree_code u = cc in
      let others : members_code ms ≡ members_code ns = cc in
      let name : m ≡ n = atom_coded.inj m n names in
      let first : t ≡ u = tree-one t u firsts in
      let rest : ms ≡ ns = members-one ms ns others in
      cc

abbrev tree_coded : Coded Tree
tree_coded = record { code = tree_code; inj = tree-one }

pub tree_if-set : (a b : Option Tree) → IsProp (a ≡ b)
tree_if-set = Coded-set (coded_option tree_coded)

pub options-set : (a b : List (Option Tree)) → IsProp (a ≡ b)
options-set = Coded-set (coded_list (coded_option tree_coded))

-- ---- templates

abbrev given_code : TemplateSource → Gv
given_code (listed t) = gcons gnil (tree_code t)
given_code empty = gnil
given_code itself = gnum 0

given-one : (a b : TemplateSource) → given_code a ≡ given_code b → a ≡ b
given-one (listed t) (listed u) p =
    let codes : tree_code t ≡ tree_code u = cc in
    let one : t ≡ u = tree-one t u codes in
    cc
given-one (listed t) empty p = cc
given-one (listed t) itself p = cc
given-one empty (listed t) p = cc
given-one empty empty p = refl
given-one empty itself p = cc
given-one itself (listed t) p = cc
given-one itself empty p = cc
given-one itself itself p = refl

abbrev given_coded : Coded TemplateSource
given_coded = record { code = given_code; inj = given-one }

pub given-set : (a b : TemplateSource) → IsProp (a ≡ b)
given-set = Coded-set given_coded

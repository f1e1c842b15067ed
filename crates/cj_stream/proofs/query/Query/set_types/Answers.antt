use Rattle.cj_stream.proofs.Common.{Bool, ChosenTypes, Criteria, List, None, Option, QueryFault, Some, YieldsList-end, YieldsList-turn, ap, arith, criteria, drop, err_from_is_err_and, false, get_or, is_some, length, option_map, parted, refl, sym, true, unwrap_or, ℕ, ◌&&◌, ◌+◌, ◌<◌, ◌∙◌, ◌∷◌, ◌≡◌}
use Rattle.std.proofs.Common.{◌||◌, option_and_then}
use Rattle.std.proofs.lemmas.List.{at_drop_more, at_drop_all, length_push}
use Rattle.cj_geometry.specs.Meaning.ObjectTypes.{ObjectRow}
use Rattle.cj_geometry.specs.ObjectTypes.{row_named}
use Rattle.cj_stream.specs.Adding.{has_extension, is_extension, is_type, no_types, with_name, with_type, with_types, DeclinesType, DeclinesTypes}
use Rattle.cj_stream.specs.declared.query.fault.QueryFault.TheVariants.{Memory, UnknownTypeName, BadBox, BoxRange, EmptyBox}
use Rattle.cj_stream.proofs.LineLemmas.{items-split}
use Rattle.cj_stream.proofs.query.Query.set_types.Goals as goal

-- the types that are set
abbrev types_in : Criteria → ChosenTypes
types_in a = unwrap_or a.types no_types

-- what `add_type` says of the types with that of a name
abbrev Adds : Criteria → Criteria → Option ChosenTypes → Type 0
Adds old new with =
    option_map (λ (part : Option ChosenTypes). record old { types = part })
    (option_map (λ (types : ChosenTypes). Some types) with) ≡ Some new

module _ (old new : Criteria) where
  -- where a name was added, the names after it go on from the types with its own
  types-added : (f : ChosenTypes → Option ChosenTypes) (with : Option ChosenTypes) → Adds old new with
      → f (types_in new) ≡ option_and_then f with
  types-added f None h = absurd (cc h)
  types-added f (Some types) h =
      let is : record old { types = Some types } ≡ new = cc h in
      sym (ap (λ a. f (types_in a)) is)

  -- and no other part has changed
  others-stay : (entry : Criteria) (with : Option ChosenTypes) → Adds old new with
      → old ≡ record entry { types = Some (types_in old) } → new ≡ record entry { types = Some (types_in new) }
  others-stay entry None h only = absurd (cc h)
  others-stay entry (Some types) h only =
      let is : record old { types = Some types } ≡ new = cc h in
      sym is ∙ ap (λ (a : Criteria). record a { types = Some types }) only
      ∙ ap (λ a. record entry { types = Some (types_in a) }) is

  -- and the name is that of a type
  is-known : (row : Option ObjectRow) (extension : Bool) (name : List ℕ) (types : ChosenTypes)
      → Adds old new (with_name row extension name types) → (is_some row || extension) ≡ true
  is-known (Some row) extension name types h = refl
  is-known None true name types h = refl
  is-known None false name types h = cc

-- a name that no type has adds none
none-added : (row : Option ObjectRow) (extension : Bool) (name : List ℕ) (types : ChosenTypes)
    → (is_some row || extension) ≡ false → with_name row extension name types ≡ None
none-added (Some row) extension name types h = cc
none-added None true name types h = cc
none-added None false name types h = refl

-- some name of an extension comes, where this is one, or where this is known and one comes after it
more-here : (known extension more : Bool) → known ≡ true → more ≡ true → (known && (extension || more)) ≡ true
more-here known true more is one = rw is
more-here known false more is one = rw (is, one)

this-here : (row : Option ObjectRow) (extension more : Bool) → extension ≡ true
    → ((is_some row || extension) && (extension || more)) ≡ true
this-here (Some row) extension more is = rw is
this-here None extension more is = rw is

-- the name that comes next, and those after it
here : (all : List (List ℕ)) (i : ℕ) (name : List ℕ) → (i < length all) × (name ≡ get_or all i name)
    → drop i all ≡ name ∷ drop (i + 1) all
here all i name next =
    at_drop_more (λ names. names) all i name next.0 ∙ sym (ap (λ name. name ∷ drop (i + 1) all) next.1)

module _ (extensions : Bool) (all : List (List ℕ)) (i : ℕ) (name : List ℕ) (types : ChosenTypes)
    (next : (i < length all) × (name ≡ get_or all i name))
    (left : with_types extensions (drop i all) types ≡ with_types extensions all no_types)
    (more : has_extension extensions (drop i all) ≡ true → has_extension extensions all ≡ true) where
  types-here : option_and_then (with_types extensions (drop (i + 1) all)) (with_type extensions name types)
      ≡ with_types extensions all no_types
  types-here = sym (ap (λ names. with_types extensions names types) (here _ i _ next)) ∙ left

  has-here : has_extension extensions (name ∷ drop (i + 1) all) ≡ true → has_extension extensions all ≡ true
  has-here h = more (ap (has_extension extensions) (here _ i _ next) ∙ h)

  -- a name that is declined is why the list is
  declined-here : (fault : QueryFault) → DeclinesType extensions name fault → DeclinesTypes extensions all fault
  declined-here UnknownTypeName h =
      sym types-here
      ∙ ap (option_and_then (with_types extensions (drop (i + 1) all)))
      (none-added _ _ _ _ h)
  declined-here Memory h =
      has-here
      (this-here _ _ _ h)
  declined-here BadBox h = absurd h
  declined-here BoxRange h = absurd h
  declined-here EmptyBox h = absurd h

pub loop-name-preserved : goal.loop-name-preserved
loop-name-preserved c =
    let name = c.in-Some.name in
    let yielded = c.loop-name.yielded in
    let split = c.split-name-items.ensures in
    let texts =
    items-split c.args.separator c.args.list.now c.requires split.text split.has_more split.pattern
    c.into_iter-name-iterator.ensures.into_iter_gives in
    let next = YieldsList-turn texts yielded _ c.loop-name.yielded_by _ _ name c.in-Some.is c.next.ensures.steps in
    let all = parted c.args.separator c.args.list.now in
    let old = criteria c.loop-name.self in
    let new = criteria c.add_type.new.self in
    let extensions = c.args.extensions in
    let added = c.in_ok-add_type.ensures.ok in
    let more = with_types extensions (drop (length yielded + 1) all) in
    let has = has_extension extensions (drop (length yielded + 1) all) in
    let same = length_push yielded name in
    record {
      set = others-stay old new (criteria c.args.self.now) (with_type extensions name.now (types_in old)) added
          c.loop-name.invariant.set;
      growths = c.in_ok-add_type.ensures.count ∙ c.loop-name.invariant.growths;
      left =
          ap (λ n. with_types extensions (drop n all) (types_in new)) same
          ∙ types-added old new more (with_type extensions name.now (types_in old)) added
          ∙ types-here extensions all (length yielded) name.now (types_in old) next c.loop-name.invariant.left
          c.loop-name.invariant.more;
      more =
          λ h. has-here extensions all (length yielded) name.now (types_in old) next c.loop-name.invariant.left
          c.loop-name.invariant.more
          (more-here (is_type extensions name.now) (is_extension extensions name.now) has
          (is-known old new (row_named name.now) (is_extension extensions name.now) name.now (types_in old) added)
          (sym (ap (λ n. has_extension extensions (drop n all)) same) ∙ h));
    }

pub returns-in_err-add_type-clause-declined : goal.returns-in_err-add_type-clause-declined
returns-in_err-add_type-clause-declined c =
    let name = c.in-Some.name in
    let yielded = c.loop-name.yielded in
    let split = c.split-name-items.ensures in
    let texts =
    items-split c.args.separator c.args.list.now c.requires split.text split.has_more split.pattern
    c.into_iter-name-iterator.ensures.into_iter_gives in
    let next = YieldsList-turn texts yielded _ c.loop-name.yielded_by _ _ name c.in-Some.is c.next.ensures.steps in
    let all = parted c.args.separator c.args.list.now in
    let declined = declined-here c.args.extensions all (length yielded) name.now (types_in (criteria c.loop-name.self))
    next c.loop-name.invariant.left c.loop-name.invariant.more c.in_err-add_type.field-0.0
    c.in_err-add_type.ensures.declined in
    let returned = err_from_is_err_and c.from_residual.result c.from_residual.ensures.1 in
    rw (returned.1, returned.2) declined

pub returns-clause-ok : goal.returns-clause-ok
returns-clause-ok c =
    let split = c.split-name-items.ensures in
    let texts =
    items-split c.args.separator c.args.list.now c.requires split.text split.has_more split.pattern
    c.into_iter-name-iterator.ensures.into_iter_gives in
    let end = YieldsList-end texts c.loop-name.yielded _ c.loop-name.yielded_by _ _ c.in-None.is c.next.ensures.steps in
    let all = parted c.args.separator c.args.list.now in
    let types = types_in (criteria c.loop-name.self) in
    let said : with_types c.args.extensions all no_types ≡ Some types =
    sym c.loop-name.invariant.left
    ∙ at_drop_all (λ names. with_types c.args.extensions names types) all (length c.loop-name.yielded)
    (omega (arith, end.1)) in
    rw said (ap (λ (a : Criteria). Some a) (sym c.loop-name.invariant.set))

-- Rules on values of a kind, their texts and types, and boundaries level by level.
use Rattle.cj_geometry.proofs.Common.{List, None, Option, Some, Tree, ap, are_same_texts, bytes_eq-Decides, has_text, text_of, true, ℕ, ◌≡◌, Bool, Finding, kind_of, least, nothing, of_kind, ◌∙◌, [], first_part, other_parts, paired, refl, ◌++◌, ◌∷◌, arith, Array, entry, flat_map, items_if, items_of, other_count, shape, sub-one, suc, values, zero, ◌-◌, ◌<◌, IfSome, Node, Source, if◌then◌else◌, line_of, option_map, source_of, subst, sym, ForSome, TemplateLod, map, replicate, set, slice_get, chars, cond, false, length, nat_eq, number_of, row_at, row_numbered, ◌&&◌}
use Rattle.cj_spans.proofs.Findings.{least-append}
use Rattle.cj_spans.specs.declared.token.Kind.{Kind}
use Rattle.cj_geometry.specs.declared.templates.Templates.{Templates}
use Rattle.cj_geometry.specs.Given.{given_line, given_source}
use Rattle.cj_geometry.specs.inner.TemplateLods.{AreAnswersIn, lod_answered, lod_for, kept_in, kept_at}
use Rattle.std.proofs.Common.{nat_le, lit<, eqb-true, bytes_eq}
use Rattle.std.proofs.lemmas.Bool.{agree_below, agree_below_at}
use Rattle.cj_spans.specs.Meaning.Text.{are_same}
use Rattle.cj_geometry.specs.Meaning.ObjectTypes.{ObjectRow, object_types, row_in, row_of}
use Rattle.cj_geometry.specs.declared.object_type.ObjectType.{ObjectType}
use Rattle.cj_geometry.specs.contracts.object_type.ObjectType.{the_type}
use Rattle.cj_geometry.specs.declared.object_type.ObjectType.TheVariants.{Bridge}
use denote.Enum.Bare.{tag_one}
use denote.Enum.Declared.{tag_of}

-- ---- a value that has a text

same-is : (s : List ℕ) (o : Option (List ℕ)) → are_same_texts o (Some s) ≡ true → o ≡ Some s
same-is s None h = absurd (cc h)
same-is s (Some u) h = ap Some ((bytes_eq-Decides u s).0 h)

-- it has that text alone
pub text-is : (s : List ℕ) (t : Tree) → has_text s t ≡ true → text_of t ≡ Some s
text-is s t h = same-is s (text_of t) h

-- so whether it has another is told by the two
pub other_text : (s u : List ℕ) (t : Tree) → has_text s t ≡ true → has_text u t ≡ are_same_texts (Some s) (Some u)
other_text s u t h = ap (λ o. are_same_texts o (Some u)) (text-is s t h)

-- ---- rules on values of a kind

-- the kind is looked at first, and then the rule
pub of_kind-then : (is : Kind → Bool) (rule : Tree → List Finding) (t : Tree) (o p q : Option Finding)
    → is (kind_of t) ≡ true → p ≡ least o (of_kind is nothing t) → q ≡ least p (rule t)
    → q ≡ least o (of_kind is rule t)
of_kind-then is rule t o p q h e k = rw h (k ∙ ap (λ x. least x (rule t)) (rw h at e))

-- one list of findings after another
pub ruleset finding_steps = (least-append)

-- ---- findings one after another

-- one value more, with the part beside it
pub beside-on : (rule : Tree → Option Tree → List Finding) {all : List Tree} (rest parts : List Tree) (t : Tree)
    {b : Option Tree}
    {left : List Tree} (o : Option Finding) {p total : Option Finding} → least o (paired rule all parts) ≡ total
    → all ≡ t ∷ rest → b ≡ first_part parts → left ≡ other_parts parts → p ≡ least o (rule t b)
    → least p (paired rule rest left) ≡ total
beside-on rule rest parts t o {total} h e f g q =
    grind (arith, least-append)

-- ---- boundaries and semantic values, one level at a time

pub shape-array : (v : Option ℕ) (d : ℕ) (t : Tree) → 0 < d → kind_of t ≡ Array
    → shape v d t ≡ flat_map (shape v (d - 1)) (items_of t)
shape-array v zero t h k = absurd (omega arith)
shape-array v (suc d) t h k = rw (k, sub-one (suc d)) refl

pub values-array : (m : Option ℕ) (d : ℕ) (t : Tree) (b : Option Tree) → 0 < d → kind_of t ≡ Array
    → values m d t b ≡ other_count t b ++ paired (values m (d - 1)) (items_of t) (items_if b)
values-array m zero t b h k = absurd (omega arith)
values-array m (suc d) t b h k = rw (k, sub-one (suc d)) refl

-- at the lowest level what stands beside the values tells nothing
pub beside-entries : (m : Option ℕ) (ts bs : List Tree) → paired (values m 0) ts bs ≡ flat_map (entry m) ts
beside-entries m [] bs = refl
beside-entries m (t ∷ ts) [] = ap (λ fs. entry m t ++ fs) (beside-entries m ts [])
beside-entries m (t ∷ ts) (b ∷ bs) = ap (λ fs. entry m t ++ fs) (beside-entries m ts bs)

pub values-one : (m : Option ℕ) {d : ℕ} (t : Tree) (b : Option Tree) → d ≡ 1 → kind_of t ≡ Array
    → values m d t b ≡ other_count t b ++ flat_map (entry m) (items_of t)
values-one m {d} t b h k =
    let low : d - 1 ≡ 0 = omega arith in
    values-array m d t b (omega arith) k
    ∙ ap (λ e. other_count t b ++ paired (values m e) (items_of t) (items_if b)) low
    ∙ ap (λ fs. other_count t b ++ fs) (beside-entries m (items_of t) (items_if b))

-- ---- the line of templates, from the line with its tokens

line-in : (o : Option Node) (n : Node) → option_map source_of o ≡ Some (source_of n)
    → option_map line_of o ≡ Some (line_of n)
unfolding line_of source_of
line-in None n h = cc
line-in (Some m) n h = let same : m.source ≡ n.source = cc in ap (λ (s : Source). Some s.line.now) same

-- a node that stands where the templates do is of their line
pub line_by : (t : Templates) (o : Option Node) → IfSome o (λ n. given_source t ≡ Some (source_of n))
    → IfSome o (λ n. Some (line_of n) ≡ given_line t)
line_by t None h = tt
line_by t (Some n) h = sym (line-in _ n h)

-- where a value is an instance, that line is the one that is chosen
pub line_if : (t : Templates) (found : Option Node) (own : Option (List ℕ)) {b : Bool} → true ≡ b
    → IfSome found (λ n. given_source t ≡ Some (source_of n))
    → IfSome found (λ n. Some (line_of n) ≡ (if b then given_line t else own))
line_if t found own e h =
    let P : Bool → Type 0 = λ b. IfSome found (λ n. Some (line_of n) ≡ (if b then given_line t else own)) in
    subst P e (line_by t found h)

-- ---- levels of detail of templates that were found before, and are at hand

-- an answer that is kept is right
pub answer-right : (ts : List Tree) (os : List (Option TemplateLod)) (k : ℕ) (a : TemplateLod) → AreAnswersIn ts os
    → slice_get os k ≡ Some (Some a) → lod_answered (Some a) ≡ lod_for ts (Some a)
answer-right ts [] k a right is = cc
answer-right ts (o ∷ os) zero a right is = let first : lod_answered o ≡ lod_for ts o = cc in grind arith
answer-right ts (o ∷ os) (suc k) a right is =
    answer-right ts os k a (grind arith) is

-- one answer more
pub answer-kept : (ts : List Tree) (os : List (Option TemplateLod)) (k : ℕ) (a : TemplateLod) → AreAnswersIn ts os
    → lod_answered (Some a) ≡ lod_for ts (Some a) → AreAnswersIn ts (set os k (Some a))
answer-kept ts [] k a right is = right
answer-kept ts (o ∷ os) zero a right is = cc
answer-kept ts (o ∷ os) (suc k) a right is =
    let others : map lod_answered os ≡ map (lod_for ts) os = cc in
    grind (arith, answer-kept ts os k a others is)

-- ---- where they stand

-- both ways to say of a node that there may be
pub for_some : (P : Node → Type 0) (o : Option Node) → IfSome o P → ForSome o P
for_some P None h = λ x e. cc
for_some P (Some n) h = λ x e. let same : n ≡ x = cc in subst P same h

pub if_some : (P : Node → Type 0) (o : Option Node) → ForSome o P → IfSome o P
if_some P None h = tt
if_some P (Some n) h = h n refl

-- no answer is kept at first
pub kept-none : (n slot : ℕ) → kept_at (replicate n None) slot ≡ None
kept-none (suc n) (suc slot) = kept-none n slot
kept-none _ _ = refl

-- an answer that was found in a slot
pub kept-found : (os : List (Option TemplateLod)) (slot : ℕ) (a : TemplateLod) → slice_get os slot ≡ Some (Some a)
    → kept_at os slot ≡ a.lod
kept-found [] slot a is = cc
kept-found (o ∷ os) zero a is = let one : o ≡ Some a = cc in ap kept_in one
kept-found (o ∷ os) (suc slot) a is = kept-found os slot a is

-- one answer more
pub kept-set : (P : Node → Type 0) (os : List (Option TemplateLod)) (k : ℕ) (a : TemplateLod)
    → ((slot : ℕ) → ForSome (kept_at os slot) P) → ForSome a.lod P
    → (slot : ℕ) → ForSome (kept_at (set os k (Some a)) slot) P
kept-set P [] k a old new slot = old slot
kept-set P (o ∷ os) zero a old new zero = new
kept-set P (o ∷ os) zero a old new (suc slot) = old (suc slot)
kept-set P (o ∷ os) (suc k) a old new zero = old zero
kept-set P (o ∷ os) (suc k) a old new (suc slot) = kept-set P os k a (λ s. old (suc s)) new slot

-- ---- the table of types, row by row

pub count : length object_types ≡ 33
unfolding object_types
count = refl

always : ℕ → Bool
always n = true

-- ---- numbers and levels

each-number : agree_below (λ k. nat_eq (row_numbered k).number k) always 33 ≡ true
unfolding object_types always
each-number = refl

pub has-number : (n : ℕ) → n < 33 → (row_numbered n).number ≡ n
unfolding always
has-number n small =
    eqb-true (row_numbered n).number n
    (agree_below_at (λ k. nat_eq (row_numbered k).number k) always 33 n each-number small)

each-level : agree_below (λ k. (row_numbered k).is_second) (λ k. nat_le 16 k) 33 ≡ true
unfolding object_types
each-level = refl

pub has-level : (n : ℕ) → n < 33 → (row_numbered n).is_second ≡ nat_le 16 n
has-level n small = agree_below_at (λ k. (row_numbered k).is_second) (λ k. nat_le 16 k) 33 n each-level small

-- ---- the numbers of types

pub number-below : (o : ObjectType) → number_of o < 33
number-below Bridge = lit< tt
number-below _ = lit< tt

pub type-number : (o : ObjectType) → (row_at o).number ≡ number_of o
type-number o = has-number (number_of o) (number-below o)

pub type-level : (o : ObjectType) → (row_at o).is_second ≡ nat_le 16 (number_of o)
type-level o = has-level (number_of o) (number-below o)

-- the numbers are those that the compiler gives to the types
tag-number : (o : ObjectType) → tag_of the_type o ≡ number_of o
tag-number Bridge = refl
tag-number _ = refl

-- different types have different numbers, and different rows
pub same-number : (a b : ObjectType) → number_of a ≡ number_of b → a ≡ b
same-number a b h = tag_one the_type tt a b (tag-number a ∙ h ∙ sym (tag-number b))

pub same-row : (a b : ObjectType) → row_at a ≡ row_at b → a ≡ b
same-row a b h = same-number a b (sym (type-number a) ∙ ap (λ r. r.number) h ∙ type-number b)

-- ---- names are distinct

-- the row, of these, of the type of this name
abbrev row_with : List ObjectRow → List ℕ → Option ObjectRow
row_with [] s = None
row_with (r ∷ rs) s = cond (are_same s (chars r.name)) (Some r) (row_with rs s)

of-text : (rs : List ObjectRow) (s : List ℕ) (t : Tree) → text_of t ≡ Some s → row_in rs t ≡ row_with rs s
of-text [] s t h = refl
of-text (r ∷ rs) s t h = rw (h, of-text rs s t h) refl

abbrev bool_same : Bool → Bool → Bool
bool_same true b = b
bool_same false true = false
bool_same false false = true

same-bool : (a b : Bool) → bool_same a b ≡ true → a ≡ b
same-bool true b h = sym h
same-bool false true h = cc
same-bool false false h = refl

abbrev is_row : Option ObjectRow → ObjectRow → Bool
is_row None q = false
is_row (Some r) q = bytes_eq r.name q.name && (bool_same r.is_second q.is_second && nat_eq r.number q.number)

row-is : (o : Option ObjectRow) (q : ObjectRow) → is_row o q ≡ true → o ≡ Some q
row-is None q h = cc
row-is (Some r) q h =
    grind (arith, bytes_eq-Decides, same-bool)

each-named : agree_below (λ k. is_row (row_with object_types (chars (row_numbered k).name)) (row_numbered k)) always 33
    ≡ true
unfolding object_types always chars
each-named = refl

is-named : (n : ℕ) → n < 33 → row_with object_types (chars (row_numbered n).name) ≡ Some (row_numbered n)
unfolding always
is-named n small =
    row-is _ _
    (agree_below_at (λ k. is_row (row_with object_types (chars (row_numbered k).name)) (row_numbered k)) always 33 n
    each-named small)

-- ---- the type of a name

-- a text that is the name of a type is of that type alone
pub of-name : (n : ℕ) (t : Tree) → n < 33 → has_text (chars (row_numbered n).name) t ≡ true
    → row_of t ≡ Some (row_numbered n)
of-name n t small h = of-text object_types _ t (text-is _ t h)
    ∙ is-named n small

pub of-name-type : (o : ObjectType) (t : Tree) → has_text (chars (row_at o).name) t ≡ true → row_of t ≡ Some (row_at o)
of-name-type o t h = of-name (number_of o) t (number-below o) h

pub of-self : {o p : ObjectType} (t : Tree) → o ≡ p → has_text (chars (row_at p).name) t ≡ true
    → row_of t ≡ Some (row_at o)
of-self {p} t is h = rw is (of-name-type p t h)

-- what attributes of functions name
pub ruleset type_facts = (type-number)

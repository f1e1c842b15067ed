-- The least of findings.
use Rattle.cj_spans.proofs.Common.{◌≡◌, ℕ, zero, suc, ◌<◌, ◌≤◌, ◌⊎◌, inl, inr, ◌||◌, ◌&&◌, nat_lt, nat_eq, Bool, true, false, cond, List, [], ◌∷◌, ◌++◌, length, get_or, Option, Some, None, refl, arith, ◌∙◌, append_assoc, All, Contains, flat_map, append-nil, common_steps}
use Rattle.std.proofs.lemmas.List.Elements.{All-contains, Contains-get_or, Contains-append_left, Contains-append_right, Contains-append_cases}
use Rattle.cj_spans.specs.declared.reason.Reason.{Reason}
use Rattle.cj_spans.specs.declared.reason.Reason.TheVariants.{NoHeader, LineTooLong, NotUtf8, Syntax, TooDeep, MissingMember, DuplicateName, WrongKind, NumberRange, WrongType, WrongVersion, NotEmpty, NotThree, NotWhole, UnknownObjectType, IdNotFound, ChildNotFound, LinkNotMutual, NoParent, UnknownGeometryType, VertexIndex, SemanticsCount, SemanticsIndex, TemplateIndex, BadInstance, TransformNotFixed, NotReached}
use Rattle.cj_spans.specs.declared.finding.Finding.{Finding}
use Rattle.cj_spans.specs.Meaning.Reason.{code_of}
use Rattle.cj_spans.specs.Meaning.Least.{IsNoLater, IsLeast, HaveSame, list_found}
use Rattle.cj_spans.specs.Meaning.Finding.{is_before, lesser, least}

-- ---- a code tells its reason

reason_of : ℕ → Reason
reason_of n =
    cond (nat_eq n 1) NoHeader
    (cond (nat_eq n 2) LineTooLong
    (cond (nat_eq n 3) NotUtf8
    (cond (nat_eq n 4) Syntax (cond (nat_eq n 5) TooDeep (cond (nat_eq n 10) MissingMember
    (cond (nat_eq n 11) DuplicateName
    (cond (nat_eq n 12) WrongKind
    (cond (nat_eq n 13) NumberRange
    (cond (nat_eq n 14) WrongType (cond (nat_eq n 15) WrongVersion (cond (nat_eq n 16) NotEmpty
    (cond (nat_eq n 17) NotThree
    (cond (nat_eq n 18) NotWhole
    (cond (nat_eq n 19) UnknownObjectType
    (cond (nat_eq n 20) IdNotFound (cond (nat_eq n 21) ChildNotFound (cond (nat_eq n 22) LinkNotMutual
    (cond (nat_eq n 23) NoParent
    (cond (nat_eq n 24) UnknownGeometryType
    (cond (nat_eq n 25) VertexIndex
    (cond (nat_eq n 26) SemanticsCount (cond (nat_eq n 27) SemanticsIndex (cond (nat_eq n 28) TemplateIndex
    (cond (nat_eq n 29) BadInstance (cond (nat_eq n 30) TransformNotFixed NotReached)))))))))))))))))))))))))

reason_of-code_of : (r : Reason) → reason_of (code_of r) ≡ r
unfolding reason_of
reason_of-code_of NoHeader = refl
reason_of-code_of _ = refl

same_reason : (r s : Reason) → code_of r ≡ code_of s → r ≡ s
same_reason r s h = grind (arith, reason_of-code_of)

-- ---- the order

same_code : (f g : Finding) → IsNoLater f g → IsNoLater g f → (f.place ≡ g.place)
    × (code_of f.reason ≡ code_of g.reason)
same_code f g (inl a) (inl b) = absurd (omega arith)
same_code f g (inl a) (inr b) = absurd (omega arith)
same_code f g (inr a) (inl b) = absurd (omega arith)
same_code f g (inr a) (inr b) = (a.0, omega arith)

no_later_self : (f : Finding) → IsNoLater f f
no_later_self f = inr (refl, omega arith)

no_later_more : (f g h : Finding) → IsNoLater f g → IsNoLater g h → IsNoLater f h
no_later_more f g h (inl a) (inl b) = inl (omega arith)
no_later_more f g h (inl a) (inr b) = inl (omega arith)
no_later_more f g h (inr a) (inl b) = inl (omega arith)
no_later_more f g h (inr a) (inr b) = inr (a.0 ∙ b.0, omega arith)

-- the test, on numbers
lower_first : (a b c d : ℕ) → nat_lt a b || (nat_eq a b && nat_lt c d) ≡ true → (a < b) ⊎ ((a ≡ b) × (c ≤ d))
lower_first a b c d h = grind arith

not_lower : (a b c d : ℕ) → nat_lt a b || (nat_eq a b && nat_lt c d) ≡ false → (b < a) ⊎ ((b ≡ a) × (d ≤ c))
not_lower a b c d h = grind arith

before_no_later : (f g : Finding) → is_before f g ≡ true → IsNoLater f g
before_no_later f g h = lower_first f.place g.place (code_of f.reason) (code_of g.reason) h

not_before : (f g : Finding) → is_before f g ≡ false → IsNoLater g f
not_before f g h = not_lower f.place g.place (code_of f.reason) (code_of g.reason) h

-- ---- lists

and_at : (f g : Finding) (fs : List Finding) → IsNoLater f g → All (IsNoLater f) fs → (k : ℕ) (d : Finding)
    → k < length (g ∷ fs) → IsNoLater f (get_or (g ∷ fs) k d)
and_at f g fs h a zero d l = h
and_at f g fs h a (suc k) d l = a k d (omega arith)

all_and : (f g : Finding) (fs : List Finding) → IsNoLater f g → All (IsNoLater f) fs → All (IsNoLater f) (g ∷ fs)
all_and f g fs h a = λ k d l. and_at f g fs h a k d l

contains_here : (f : Finding) (fs : List Finding) → Contains (f ∷ fs) f
contains_here f fs = (0, omega arith, refl)

contains_there : (f g : Finding) (fs : List Finding) → Contains fs f → Contains (g ∷ fs) f
contains_there f g fs c = (suc c.0, omega arith, c.2)

-- ---- one finding more

lesser_least : (fs : List Finding) (g f : Finding) (v : Bool) → is_before f g ≡ v → IsLeast fs (Some g)
    → IsLeast (f ∷ fs) (cond v (Some f) (Some g))
lesser_least fs g f true h a =
    search (arith, contains_here, all_and, no_later_self, no_later_more, before_no_later, a.1)
lesser_least fs g f false h a = (contains_there g f fs a.0, all_and g f fs (not_before f g h) a.1)

pub added_least : (fs : List Finding) (o : Option Finding) (f : Finding) → IsLeast fs o → IsLeast (f ∷ fs) (lesser o f)
added_least fs None f a = grind (arith, contains_here, all_and, no_later_self)
added_least fs (Some g) f a = lesser_least fs g f (is_before f g) refl a

pub added_kept : (fs : List Finding) (o p : Option Finding) (f : Finding) → p ≡ lesser o f → IsLeast fs o
    → IsLeast (f ∷ fs) p
added_kept fs o p f e a = grind (arith, added_least)

-- ---- in whatever order

same_least : (fs gs : List Finding) (o : Option Finding) → HaveSame fs gs → IsLeast fs o → IsLeast gs o
same_least fs [] None h a = refl
same_least fs (g ∷ gs) None h a =
    let c = rw a at ((h g).1 (contains_here g gs)) in absurd (omega arith)
same_least fs gs (Some f) h a = (
  (h f).0 a.0,
  λ k d l. All-contains (IsNoLater f) fs (get_or gs k d) a.1
      ((h (get_or gs k d)).1 (Contains-get_or gs k d l)),
)

one_least : (fs : List Finding) (o p : Option Finding) → IsLeast fs o → IsLeast fs p → o ≡ p
one_least fs None None a b = refl
one_least fs None (Some g) a b =
    let c = rw a at b.0 in absurd (omega arith)
one_least fs (Some f) None a b =
    let c = rw b at a.0 in absurd (omega arith)
one_least fs (Some f) (Some g) a b = grind (arith, same_code, same_reason, All-contains, a.1, b.0, b.1, a.0)

pub least_only : (fs gs : List Finding) (o p : Option Finding) → HaveSame fs gs → IsLeast fs o → IsLeast gs p → p ≡ o
least_only fs gs o p h a b = one_least gs p o b (same_least fs gs o h a)

-- ---- the fold

head_last : (f : Finding) (fs : List Finding) → HaveSame (f ∷ fs) (fs ++ f ∷ [])
head_last f fs g = (
  λ c. elim (Contains-append_cases (f ∷ []) fs g c) [
    | inl h ↦ Contains-append_right fs (f ∷ []) g h
    | inr h ↦
        Contains-append_left fs (f ∷ []) g h
  ],
  λ c. elim (Contains-append_cases fs (f ∷ []) g c) [
    | inl h ↦ contains_there g f fs h
    | inr h ↦
        Contains-append_left (f ∷ []) fs g h
  ],
)

least_after : (gs : List Finding) (o : Option Finding) (fs : List Finding) → IsLeast gs o
    → IsLeast (gs ++ fs) (least o fs)
least_after gs o [] a = rw (append-nil gs) a
least_after gs o (f ∷ fs) a =
    let b = same_least (f ∷ gs) (gs ++ f ∷ []) (lesser o f) (head_last f gs) (added_least gs o f a) in
    rw (append_assoc gs (f ∷ []) fs) at (least_after (gs ++ f ∷ []) (lesser o f) fs b)

least_of_found : (o : Option Finding) → IsLeast (list_found o) o
least_of_found None = refl
least_of_found (Some f) = grind (arith, contains_here, all_and, no_later_self)

pub fold_least : (o : Option Finding) (fs : List Finding) → IsLeast (list_found o ++ fs) (least o fs)
fold_least o fs = grind (arith, least_after, least_of_found)

-- one list after another
pub least-append : (o : Option Finding) (fs gs : List Finding) → least o (fs ++ gs) ≡ least (least o fs) gs
least-append o [] gs = refl
least-append o (f ∷ fs) gs = least-append (lesser o f) fs gs

-- one part of a list more: its findings are added, and those of the rest are left
pub least_on : {A : Type 0} (f : A → List Finding) (all rest : List A) (t : A) (o p total : Option Finding)
    → least o (flat_map f all) ≡ total → all ≡ t ∷ rest → p ≡ least o (f t) → least p (flat_map f rest) ≡ total
least_on f all rest t o p total h e q = cc (least-append o (f t) (flat_map f rest))

-- two lists in turn, and three
pub least-two : (o p q : Option Finding) (fs gs : List Finding) → p ≡ least o fs → q ≡ least p gs
    → q ≡ least o (fs ++ gs)
least-two o p q fs gs h k = cc (least-append o fs gs)

pub least-three : (o p q r : Option Finding) (fs gs hs : List Finding) → p ≡ least o fs → q ≡ least p gs
    → r ≡ least q hs → r ≡ least o (fs ++ gs ++ hs)
least-three o p q r fs gs hs h k l = grind (arith, least-two)

contains_swap : (ks fs gs : List Finding) (f : Finding) → Contains (ks ++ (fs ++ gs)) f → Contains (ks ++ (gs ++ fs)) f
contains_swap ks fs gs f c =
    elim (Contains-append_cases ks (fs ++ gs) f c) [
      | inl h ↦ Contains-append_left ks (gs ++ fs) f h
      | inr h ↦ Contains-append_right ks (gs ++ fs) f
          (elim (Contains-append_cases fs gs f h) [
            | inl h ↦ Contains-append_right gs fs f h
            | inr h ↦
                Contains-append_left gs fs f h
          ])
    ]

-- two lists in either order
pub least-swap : (o : Option Finding) (fs gs : List Finding) → least o (fs ++ gs) ≡ least o (gs ++ fs)
least-swap o fs gs = grind (arith, common_steps, least_only, least, contains_swap, fold_least) steps 2000000

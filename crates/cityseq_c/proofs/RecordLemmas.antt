-- Where features stand in a part, and their records.
use Rattle.cityseq_c.proofs.Common.{AreCut, Bool, Item, Line, List, Place, Rules, Spot, [], ap, append-nil, arith, bytes_eq, cond, drop, ended_line, false, filter, flat_map, flat_map-append, good_from, inl, inr, is_feature, is_kept, item_after, kept, kept_from, length, length-append, lines, nat_tests, past, raw, refl, seek, spots, spots_from, sym, take-append-drop, true, verdict, ℕ, ◌++◌, ◌+◌, ◌∙◌, ◌∷◌, ◌≡◌, AllZip, IsRecordOf, Listed, None, Option, Some, Took, Tree, append_assoc, drop-set-lt, is_some, length-set, ltb, ltb-false, ltb-true, min, slice_set, subst, suc, take, take-nil, take_more_set, ◌-◌, ◌<◌, ◌≤◌, FeatureRecord, HasSpan, IfSome, chars, codes, first_named, line_of, main_object, objects_of, spelling_of, start_of, text_of, tree}
use Rattle.std.proofs.lemmas.Slice.Eq.{bytes_eq-Decides}
use Rattle.cj_stream.proofs.VerdictLemmas.{good-take}
use Rattle.cj_stream.proofs.LineLemmas.{begun-none, closed-none, lines-cut}
use Rattle.cj_stream.proofs.GoodLemmas.{after-same}
use Rattle.cityseq_c.proofs.CursorLemmas.{cut-lines}
use Rattle.cityseq_c.specs.Features.{AddsAt, HoldsRecords, KeepsRoom, ListsBy, ListsItem, StoresBy, listed_count, listed_loan, listed_place, listed_room}
use Rattle.cj_spans.specs.Meaning.Parts.{are_same_texts, member_of}
use Rattle.cj_spans.specs.declared.node.Node.{Node}

-- ---- a search along the lines of a part finds each kept feature at its place

-- the spot of a feature whose line was found at a place, or none
abbrev pub spot_at : Place → List Line → Item → List Spot
spot_at here [] i = []
spot_at here (l ∷ ls) i = record { line = here.line; begin = here.begin; item = i } ∷ []

-- the spots of the features among some items, each looked for behind the one before
abbrev pub found_from : Place → List Item → List Spot
found_from p [] = []
found_from p (i ∷ is) =
    let here = seek i.line.content p in
    cond (is_feature i) (spot_at here here.left i ++ found_from (past here) is) (found_from p is)

abbrev is_feature_spot : Spot → Bool
is_feature_spot x = is_feature x.item

module _ (rules : Rules) (h : Line) where
  -- behind the header, what is kept of a content does not hang on where it stands
  kept-verdict : (bs ys ls : List Line) (x : Item) (xs : List Item) → kept_from rules (h ∷ ys) ls ≡ x ∷ xs
      → is_kept (verdict rules (h ∷ bs) x.line.content) ≡ true
  kept-verdict bs ys [] x xs e = absurd (cc e)
  kept-verdict bs ys (l ∷ ls) x xs e =
      grind (arith, kept-verdict bs (ys ++ l ∷ []) ls x xs, after-same rules h bs ys l.content)

  -- and each item is a feature
  later-feature : (ys : List Line) (l : Line) → is_feature (item_after rules (h ∷ ys) l) ≡ true
  later-feature ys l =
      grind (arith, nat_tests)

  kept-feature : (ys ls : List Line) (x : Item) (xs : List Item) → kept_from rules (h ∷ ys) ls ≡ x ∷ xs
      → is_feature x ≡ true
  kept-feature ys [] x xs e = absurd (cc e)
  kept-feature ys (l ∷ ls) x xs e = grind (arith, kept-feature (ys ++ l ∷ []) ls x xs, later-feature ys l)

  -- a line that is not kept has the content of no later one that is
  not-same : (bs : List Line) (l : Line) (ys ls : List Line) (x : Item) (xs : List Item)
      → is_kept (verdict rules (h ∷ bs) l.content) ≡ false → kept_from rules (h ∷ ys) ls ≡ x ∷ xs
      → bytes_eq l.content x.line.content ≡ false
  not-same bs l ys ls x xs dropped e =
      grind (arith, kept-verdict bs ys ls x xs e, bytes_eq-Decides l.content x.line.content)

  -- so the search passes it over
  found-skip : (n b : ℕ) (bs : List Line) (l : Line) (ys ls zs : List Line) (is : List Item)
      → is_kept (verdict rules (h ∷ bs) l.content) ≡ false → kept_from rules (h ∷ ys) ls ≡ is
      → found_from (record { line = n; begin = b; left = l ∷ zs }) is
      ≡ found_from (record { line = n + 1; begin = b + length (raw l); left = zs }) is
  found-skip n b bs l ys ls zs [] dropped e = refl
  found-skip n b bs l ys ls zs (x ∷ xs) dropped e =
      grind (arith, kept-feature, not-same)

  raw-more : (bs : List Line) (l : Line)
      → length (flat_map raw (bs ++ l ∷ [])) ≡ length (flat_map raw bs) + length (raw l)
  raw-more bs l =
      grind (arith, flat_map-append, length-append, append-nil)

  found-kept : (bs ls more : List Line) (n b : ℕ) → n ≡ length (h ∷ bs) + 1 → b ≡ length (flat_map raw bs)
      → found_from (record { line = n; begin = b; left = ls ++ more }) (kept_from rules (h ∷ bs) ls)
      ≡ filter is_feature_spot (spots_from rules (h ∷ bs) ls)
  found-kept bs [] more n b number begin = refl
  found-kept bs (l ∷ ls) more n b number begin =
      grind (
        arith,
        found-kept (bs ++ l ∷ []) ls more (n + 1) (b + length (raw l)),
        found-skip n b bs l (bs ++ l ∷ []) ls (ls ++ more) (kept_from rules (h ∷ bs ++ l ∷ []) ls),
        bytes_eq-Decides l.content l.content,
        later-feature bs l,
        length-append bs (l ∷ []),
        raw-more bs l,
      )

-- the features that are kept of the good lines of a stream, whose first line is e
module _ (rules : Rules) (e : Line) (left : List Line) where
  behind : found_from (record { line = 2; begin = 0; left = left })
      (kept_from rules (e ∷ []) (good_from rules (e ∷ []) left))
      ≡ filter is_feature_spot (spots_from rules (e ∷ []) (good_from rules (e ∷ []) left))
  behind =
      let g = good_from rules (e ∷ []) left in
      let whole : left ≡ g ++ drop (length g) left = sym (take-append-drop (length g) left)
      ∙ ap (λ z. z ++ drop (length g) left) (good-take rules (e ∷ []) left) in
      ap (λ z. found_from (record { line = 2; begin = 0; left = z }) (kept_from rules (e ∷ []) g)) whole
      ∙ found-kept rules e [] g (drop (length g) left) 2 0 refl refl

  -- all of them
  pub found-good : found_from (record { line = 2; begin = 0; left = left })
      (kept_from rules [] (good_from rules [] (e ∷ left)))
      ≡ filter is_feature_spot (spots_from rules [] (good_from rules [] (e ∷ left)))
  found-good = grind (arith, behind)

-- the search along a part finds the features of the stream
pub found-spots : (rules : Rules) (header part : List ℕ) → AreCut header part
    → found_from (record { line = 2; begin = 0; left = lines part }) (kept rules (header ++ part))
    ≡ spots rules (header ++ part)
found-spots rules header part (inl cut) =
    rw (cut-lines header part cut) (found-good rules (ended_line cut.0) (lines part))
found-spots rules header part (inr cut) =
    grind (arith, append-nil, lines-cut, closed-none, begun-none, found-good)

-- ---- what room for records has after some items

-- of c and the list l: what shows some things was written behind the first c, as many as fit, and made d and m of them
module _ {X Y : Type 0} (Shows : X → Y → Type 0) where
  pub record Stored (c : ℕ) (l : List Y) (d : ℕ) (m : List Y) (xs : List X) : Type 0 where
    pub size : length m ≡ length l
    pub count : d ≡ min (c + length xs) (length l)
    pub added : List Y
    pub front : take d m ≡ take c l ++ added
    pub each : AllZip Shows (take (length l - c) xs) added
    pub rest : drop d m ≡ drop d l

  pub none-stored : (c : ℕ) (l : List Y) → c ≤ length l → Stored c l c l []
  none-stored c l within = grind (arith, append-nil, take-nil)

  -- one more that fits, and then others
  pub one-fits : (c : ℕ) (l : List Y) (d : ℕ) (m : List Y) (x : X) (f : Y) (xs : List X) → c < length l → Shows x f
      → Stored (c + 1) (slice_set l c f) d m xs → Stored c l d m (x ∷ xs)
  one-fits c l d m x f xs fits shows h =
      let size : length (slice_set l c f) ≡ length l = length-set l c f in
      let left : length l - c ≡ suc (length (slice_set l c f) - (c + 1)) = omega (arith, fits, size) in
      record {
        size = h.size ∙ size;
        count = omega (arith, h.count, size);
        added = f ∷ h.added;
        front = h.front
            ∙ (ap (λ z. z ++ h.added) (take_more_set l c f fits) ∙ append_assoc (take c l) (f ∷ []) h.added);
        each = subst (λ (n : ℕ). AllZip Shows (take n (x ∷ xs)) (f ∷ h.added)) (sym left) (shows, h.each);
        rest = h.rest ∙ drop-set-lt d l c f (omega (arith, h.count, size, fits));
      }

  -- one more that does not fit
  pub one-left : (c : ℕ) (l : List Y) (d : ℕ) (m : List Y) (x : X) (xs : List X) → c ≤ length l → length l ≤ c
      → Stored c l d m xs → Stored c l d m (x ∷ xs)
  one-left c l d m x xs within full h =
      grind arith

  -- of the same count and list
  pub moved : (c e : ℕ) (l k : List Y) (d : ℕ) (m : List Y) (xs : List X) → c ≡ e → l ≡ k → Stored c l d m xs
      → Stored e k d m xs
  moved c e l k d m xs count list h = rw (count, list) at h

-- what one more record makes of the room
after-one : (a c b : Listed) (x : Spot) (xs : List Spot) (fits : Bool)
    → ltb (listed_count a) (length (listed_room a)) ≡ fits → StoresBy fits x a c
    → Stored IsRecordOf (listed_count c) (listed_room c) (listed_count b) (listed_room b) xs
    → Stored IsRecordOf (listed_count a) (listed_room a) (listed_count b) (listed_room b) (x ∷ xs)
after-one a c b x xs true is h later =
    grind (arith, one-fits, ltb-true, moved)
after-one a c b x xs false is h later =
    one-left IsRecordOf (listed_count a) (listed_room a) (listed_count b) (listed_room b) x xs a.room
    (ltb-false (listed_count a) (length (listed_room a)) is)
    (moved IsRecordOf (listed_count c) (listed_count a) (listed_room c) (listed_room a) (listed_count b)
    (listed_room b) xs h.1 h.0
    later)

-- what some items make of the sink
pub record Listing (a b : Listed) (xs : List Spot) : Type 0 where
  pub loan : listed_loan b ≡ listed_loan a
  pub stored : Stored IsRecordOf (listed_count a) (listed_room a) (listed_count b) (listed_room b) xs

-- first an item changes nothing
kept-room : (a c b : Listed) (xs : List Spot) → KeepsRoom a c → Listing c b xs → Listing a b xs
kept-room a c b xs keeps later = grind (arith, moved)

-- first a record is added, or the line is nowhere
added-first : (a c b : Listed) (here : Place) (ls : List Line) (i : Item) (xs : List Spot)
    → AddsAt ls (record { line = here.line; begin = here.begin; item = i }) a c → Listing c b xs
    → Listing a b (spot_at here ls i ++ xs)
added-first a c b here ls i xs keeps later = search (arith, kept-room, after-one)

-- an item was handled, and then others
first-listed : (a c b : Listed) (i : Item) (is : List Item) → ListsItem a i c
    → Listing c b (found_from (listed_place c) is) → Listing a b (found_from (listed_place a) (i ∷ is))
first-listed a c b i is step later = go i.header refl step
  where
    go : (header : Option Tree) → i.header ≡ header → ListsBy header a i c
        → Listing a b (found_from (listed_place a) (i ∷ is))
    go None none step = let f : is_some i.header ≡ false = ap is_some none in
        rw f (kept-room a c b _ step.room (subst (λ p. Listing c b (found_from p is)) step.stays later))
    go (Some t) some step =
        let here = seek i.line.content (listed_place a) in
        let f : is_some i.header ≡ true = ap is_some some in
        rw f (added-first a c b here here.left i _ step.adds
        (subst (λ p. Listing c b (found_from p is)) step.behind later))

pub all-listed : (a b : Listed) (is : List Item) → Took ListsItem a is b → Listing a b (found_from (listed_place a) is)
all-listed a b [] h = grind (arith, none-stored)
all-listed a b (i ∷ is) h = first-listed a h.0 b i is h.1 (all-listed h.0 b is h.2)

-- room that had no record has them, and is still the one that was lent
pub all-recorded : (a b : Listed) (is : List Item) → listed_count a ≡ 0 → Took ListsItem a is b
    → (listed_loan b ≡ listed_loan a) × HoldsRecords (found_from (listed_place a) is) (listed_room a) (listed_room b)
all-recorded a b is none h =
    grind (arith, all-listed, found_from)

-- ---- the records of the features of a header and a part

-- a sink that had no record, at the beginning of a part, has those of all that is kept
pub recorded : (rules : Rules) (header part : List ℕ) (s t : Listed) (old new : List FeatureRecord) → AreCut header part
    → Took ListsItem s (kept rules (header ++ part)) t
    → listed_count s ≡ 0 → listed_room s ≡ old → listed_place s ≡ record { line = 2; begin = 0; left = lines part }
    → (listed_loan t ≡ listed_loan s → new ≡ listed_room t)
    → HoldsRecords (spots rules (header ++ part)) old new
recorded rules header part s t old new cut took none room at back =
    grind (arith, all-recorded, found_from, found-spots)

-- ---- the main city object, as a walk over the city objects finds it

-- it is the first one with the text of the id
pub main-first : (t id : Tree) (x : List ℕ) → member_of (chars (codes "id")) t ≡ Some id → text_of id ≡ Some x
    → first_named x (objects_of t) ≡ main_object t
main-first t id x member text = rw (member, text) refl

module _ (id : Tree) (x : List ℕ) (text : text_of id ≡ Some x) (m : Tree × Tree) (rest : List (Tree × Tree)) where
  -- the first of some city objects has that text, or those after it tell
  pub main-here : (b : Bool) → b ≡ are_same_texts (text_of m.0) (text_of id) → b ≡ true
      → first_named x (m ∷ rest) ≡ Some m.1
  main-here b is same = grind arith

  pub main-past : (b : Bool) → b ≡ are_same_texts (text_of m.0) (text_of id) → b ≡ false
      → first_named x (m ∷ rest) ≡ first_named x rest
  main-past b is other = grind arith

-- what is in the line of a node is in the line that this one is
pub line-kept : (a b : List ℕ) (n : Option Node) → IfSome n (λ m. line_of m ≡ a) → a ≡ b → IfSome n (λ m. line_of m ≡ b)
line-kept a b n of same = grind arith

-- a node is at its place in the line, and no node is nowhere
pub span-of : (line : List ℕ) (o : Option Tree) (n : Node) (begin : ℕ) (bytes : List ℕ) → Some (tree n) ≡ o
    → line_of n ≡ line → begin ≡ start_of (tree n) → bytes ≡ spelling_of (line_of n) (tree n)
    → HasSpan line o begin (length bytes)
span-of line o n begin bytes is in_line start spelled =
    grind arith

pub no-span : (line : List ℕ) (o : Option Tree) → None ≡ o → HasSpan line o 0 0
no-span line o is = rw (← is) (refl, refl)

-- The bytes that a writer gets in a run, and known bytes that grow.
use Rattle.cj_stream.proofs.Common.{Appends, AppendsPart, Err, List, Ok, OnErr, Option, Result, ap, append_assoc, arith, drop, length, length-drop, sym, take, take-append-drop, take_all, ℕ, ◌++◌, ◌-◌, ◌∙◌, ◌≡◌, ◌≤◌, Account, AppendsMore, Complete, Counts, Delivers, End, Ends, Item, Keeps, LeavesNext, Line, Memory, None, Puts, Refused, Rules, Ruling, Run, SinkContract, Some, Took, TookFront, WriteFault, [], flat_map, flat_map-append, good, good_from, is_kept, item_after, kept, kept_of, lines, output_first, prefixes, raw_item, refl, refusal_in, ruling_after, rulings, rulings_first, rulings_good, slice_get, stream_of, stretch, true, up_to, verdict, whole, writes_law, ◌∷◌, nat_tests}
use Rattle.std.proofs.KnownBytes.{Appends-trans, Appends-nil}
use Rattle.cj_stream.specs.Run.{Runs, Writes, WritesLines}
use Rattle.cj_stream.proofs.TookLemmas.{first-split, More-all, Took-split, front-took, over-kept, took-good, took-whole}
use Rattle.cj_stream.proofs.GoodLemmas.{drop-next, kept-head}

-- ---- known bytes that grow twice

-- what is left of a slice after its first n bytes were taken
pub taken_more : (all done rest : List ℕ) (n : ℕ) → n ≤ length rest → all ≡ done ++ rest
    → all ≡ (done ++ take n rest) ++ take (length rest - n) (drop n rest)
taken_more all done rest n le e =
    rw (take_all (length rest - n) (drop n rest) (omega (arith, length-drop n rest)))
    (e ∙ ap (λ z. done ++ z) (sym (take-append-drop n _))
    ∙ sym (append_assoc done (take n rest) (drop n rest)))

-- a fact, whatever the result
pub on_err_any : {T E P : Type 0} (r : Result T E) → P → OnErr r P
on_err_any (Ok x) p = tt
on_err_any (Err x) p = p

-- some bytes, and then a prefix of others
pub AppendsPart-after : (a b c : Option (List ℕ)) (x y : List ℕ) → Appends a b x → AppendsPart b c y
    → AppendsPart a c (x ++ y)
AppendsPart-after a b c x y p q = record {
  front = x ++ q.front;
  rest = q.rest;
  whole = ap (λ z. x ++ z) q.whole ∙ sym (append_assoc x q.front q.rest);
  grows = Appends-trans a b c x _ p q.grows;
}

-- a prefix of some bytes, of which others follow
pub AppendsPart-front : (a b : Option (List ℕ)) (x y : List ℕ) → AppendsPart a b x → AppendsPart a b (x ++ y)
AppendsPart-front a b x y q = record {
  front = q.front;
  rest = q.rest ++ y;
  whole = ap (λ z. z ++ y) q.whole ∙ append_assoc q.front q.rest y;
  grows = q.grows;
}

-- ---- the bytes that a writer gets in a run

-- lines that a writer took, one after another
pub Took-appends : {S : Type 0} (contents : S → Option (List ℕ)) (s t : S) (ls : List Item)
    → Took (λ a l b. Appends (contents a) (contents b) (raw_item l)) s ls t
    → Appends (contents s) (contents t) (flat_map raw_item ls)
Took-appends contents s t [] h = rw h (Appends-nil _)
Took-appends contents s t (l ∷ ls) h =
    Appends-trans _ _ _ _ _ h.1
    (Took-appends contents h.0 t ls h.2)

-- where the line after the first n ones is kept: its result comes after theirs among those of the handled lines
pub kept-next_line : (rules : Rules) (n : ℕ) (r : List ℕ) (l : Line) → refusal_in rules (take n (lines r)) ≡ None
    → slice_get (lines r) n ≡ Some l → is_kept (verdict rules (take n (lines r)) l.content) ≡ true
    → (others : List Ruling) × (rulings_good rules r ≡ rulings_first rules n r
    ++ ruling_after rules (take n (lines r)) l ∷ others)
kept-next_line rules n r l h at k =
    let d = drop-next _ n l at in
    let before = take n (lines r) in (
      rulings rules (before ++ l ∷ []) (good_from rules (before ++ l ∷ []) d.0),
      first-split _ n r h ∙ ap (λ z. rulings_first rules n r ++ z)
          (ap (λ z. rulings rules (take n (lines r)) (good_from rules (take n (lines r)) z)) d.1
          ∙ kept-head _ _ l _ k),
    )

-- and what its failed step leaves
pub next-left : {S : Type 0} (law : SinkContract S) (rules : Rules) (before : List Line) (l : Line)
    (others : List Ruling)
    (s t : S) → is_kept (verdict rules before l.content) ≡ true → law.leaves s (item_after rules before l) t
    → LeavesNext law.leaves (kept_of (ruling_after rules before l ∷ others)) s t
next-left law rules before l others s t k leaves = rw k leaves

module _ {S : Type 0} (law : SinkContract S) (rules : Rules) (r : List ℕ) (at_end : Type 0) (s t : S)
    (n features refusals : ℕ) where
  -- a sink that was given all good lines, and then left as it was
  put-all : (e : End) (d : Delivers law (stretch rules r 0 n) s t (Some e)) → t ≡ d.middle
      → n ≡ length (good rules r) → Took law.takes s (kept rules r) t
  put-all e d still all =
      rw still (took-good _ over-kept _ r n s _ all d.took)

  -- what a sink took, by the end of the run
  puts-said : (e : End) → Ends rules r n at_end e → Counts rules r n features refusals
      → Delivers law (stretch rules r 0 n) s t (Some e) → Puts law (stream_of rules r) e s t
  puts-said Complete ends counts d = put-all _ d d.fault ends.1
  puts-said (Refused number place reason) ends counts d = put-all _ d d.fault ends.1
  puts-said WriteFault ends counts d =
      let fault = d.fault in
      let next = kept-next_line _ n r _ counts.counted.good fault.1 fault.2 in
      front-took _ over-kept _ r 0 _ n _ next.1 _ t
      (next-left law rules (take n (lines r)) fault.0 next.0 d.middle t fault.2 fault.3) s d.took
  puts-said Memory ends counts d =
      front-took _ over-kept _ r 0 _ n _ (first-split rules n r counts.counted.good)
      _ t d.fault s d.took
  puts-said other ends counts d =
      rw d.fault (took-whole _ over-kept _ r n s _ ends.0 ends.1 d.took)

-- a run by its account and by what the sink took
pub Runs-said : {S : Type 0} (law : SinkContract S) (run : Run) (at_end : Type 0) (s t : S) → Account run at_end
    → Delivers law (stretch run.rules run.read 0 run.outcome.lines) s t (Some run.outcome.ended)
    → Runs law run at_end s t
Runs-said law run at_end s t account sink = record {
  account = account;
  sink = sink;
  puts = puts-said _ _ _ _ s t _ _ _
      _ account.ends account.counts sink;
}

-- where memory was refused before any line was handled, the sink is as it was
pub memory-sink : {S : Type 0} (law : SinkContract S) (rules : Rules) (q : List ℕ) (n : ℕ) (s t : S) (e : End)
    → e ≡ Memory
    → n ≡ 0
    → Delivers law (stretch rules q 0 n) s t (Some e) → t ≡ s
memory-sink law rules q n s t e is none h =
    rw is at h.fault ∙ rw none at (More-all _ over-kept h.took)

module _ {S : Type 0} (contents : S → Option (List ℕ)) where
  abbrev pub writes : S → Item → S → Type 0
  writes a l b = Appends (contents a) (contents b) (raw_item l)

  abbrev pub writes_part : S → Item → S → Type 0
  writes_part a l b = AppendsPart (contents a) (contents b) (raw_item l)

  -- the bytes of a prefix of some items
  pub front-bytes : (then : List Item → S → S → Type 0)
      → ((others : List Item) (a b : S) → then others a b
      → AppendsPart (contents a) (contents b) (flat_map raw_item others))
      → (all first : List Item) (s t : S) → TookFront writes then (prefixes all first) s t
      → AppendsPart (contents s) (contents t) (flat_map raw_item all)
      × AppendsMore (contents s) (contents t) (flat_map raw_item first)
  front-bytes then bytes all first s t h =
      let cut = Took-split writes s h.middle first h.more h.took in
      let left = bytes h.others h.middle t h.left in (
        rw (h.front, flat_map-append)
            (AppendsPart-after _ _ _ _
            _ (Took-appends _ s _ _ h.took) left),
        record {
          middle = contents cut.0;
          more = flat_map raw_item h.more ++ left.front;
          first = Took-appends contents s cut.0 first cut.1;
          grows = Appends-trans _ _ _ _ _
              (Took-appends contents cut.0 h.middle h.more cut.2) left.grows;
        },
      )

  pub next-bytes : (others : List Item) (a b : S) → LeavesNext writes_part others a b
      → AppendsPart (contents a) (contents b) (flat_map raw_item others)
  next-bytes [] a b h = absurd h
  next-bytes (i ∷ is) a b h = AppendsPart-front _ _ _ _ h

  pub no-bytes : (others : List Item) (a b : S) → b ≡ a
      → AppendsPart (contents a) (contents b) (flat_map raw_item others)
  no-bytes others a b h =
      rw h (record { front = []; rest = flat_map raw_item others; whole = refl; grows = Appends-nil _ })

  -- the bytes that a writer got, by the end of the run
  pub Writes-puts : (failures : S → ℕ) (rules : Rules) (r : List ℕ) (s t : S) (e : End)
      → Puts (writes_law contents failures) (stream_of rules r) e s t
      → Writes (stream_of rules r) e (contents s) (contents t)
  Writes-puts failures rules r s t x h = grind (arith, nat_tests, Took-appends, front-bytes, next-bytes, no-bytes)

  -- and by the lines that were handled
  module _ (failures : S → ℕ) (rules : Rules) (r : List ℕ) (n : ℕ) (s t : S) where
    handled-bytes : {e : End} (d : Delivers (writes_law contents failures) (stretch rules r 0 n) s t (Some e))
        → Appends (contents s) (contents d.middle) (output_first rules n r)
    handled-bytes d =
        Took-appends _ s _ _ (More-all _ over-kept d.took)

    still-bytes : {e : End} (d : Delivers (writes_law contents failures) (stretch rules r 0 n) s t (Some e))
        → t ≡ d.middle → Appends (contents s) (contents t) (output_first rules n r)
    still-bytes d still = rw still (handled-bytes d)

    none-kept : (a : Option (List ℕ)) → Keeps a a
    none-kept None = tt
    none-kept (Some x) = refl

    pub WritesLines-said : (e : End) → (e ≡ Memory → n ≡ 0) → Delivers (writes_law contents failures)
        (stretch rules r 0 n) s t (Some e) → WritesLines (up_to rules r n) e (contents s) (contents t)
    WritesLines-said WriteFault none d =
        let fault = d.fault in
        record {
          line = fault.0;
          next = fault.1;
          kept = fault.2;
          front = fault.3.front;
          rest = fault.3.rest;
          cut = fault.3.whole;
          grows = Appends-trans _ _ _ _ _
              (handled-bytes d) fault.3.grows;
        }
    WritesLines-said Memory none d =
        let nothing = none refl in
        (nothing, rw (memory-sink (writes_law contents failures) rules r n s t Memory refl nothing d) (none-kept _))
    WritesLines-said other none d = still-bytes d d.fault

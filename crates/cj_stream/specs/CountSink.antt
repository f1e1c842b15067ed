-- What an item makes of a sink that counts, and which count some items have.
use Rattle.std.specs.Prelude.{◌≡◌, ℕ, ◌+◌, ◌-◌, ◌^◌, List, [], ◌++◌, Bool, not, length, min, Option, Some, None}
use Rattle.std.specs.List.{filter}
use Rattle.cj_spans.specs.Meaning.Tree.{Tree}
use Rattle.cj_stream.specs.declared.sink.CountSink.{CountSink}
use Rattle.cj_stream.specs.declared.ending.End.{End}
use Rattle.cj_stream.specs.declared.ending.End.TheVariants.{Complete, Refused, WriteFault, Memory}
use Rattle.cj_stream.specs.Lines.{whole}
use Rattle.cj_stream.specs.Items.{Item, is_feature}
use Rattle.cj_stream.specs.Verdict.{Stream, kept, ending}
use Rattle.cj_stream.specs.Cut.{InPieces, all_of, given_of, taken_of}

-- the count of nothing
abbrev pub no_counts : CountSink
no_counts = record { headers = 0; features = 0 }

-- ---- one item

-- one more, up to the greatest u64
abbrev pub one_more : ℕ → ℕ
one_more n = min (n + 1) (2 ^ 64 - 1)

-- a header is counted among the headers, and what has one among the features
abbrev pub CountsBy : CountSink → Option Tree → CountSink → Type 0
CountsBy a None b = (b.headers ≡ one_more a.headers) × (b.features ≡ a.features)
CountsBy a (Some header) b = (b.features ≡ one_more a.features) × (b.headers ≡ a.headers)

abbrev pub CountsItem : CountSink → Item → CountSink → Type 0
CountsItem a i b = CountsBy a i.header b

-- ---- some items

-- an item is the header, or else a feature
abbrev pub is_header : Item → Bool
is_header i = not (is_feature i)

-- how many of some items there are, up to the greatest u64
abbrev pub how_many : (Item → Bool) → List Item → ℕ
how_many p is = min (length (filter p is)) (2 ^ 64 - 1)

-- the headers and the features among some items
abbrev pub counts_of : List Item → CountSink
counts_of is = record { headers = how_many is_header is; features = how_many is_feature is }

-- a count of a prefix of some items, with all of these
pub record CountsFront (items first : List Item) (c : CountSink) : Type 0 where
  pub more : List Item
  pub others : List Item
  pub front : items ≡ (first ++ more) ++ others
  pub counts : c ≡ counts_of (first ++ more)

-- the count of what is kept of the bytes that a run read, by its end; of their whole lines where a read failed, and
-- of a prefix where memory was refused. A count never fails.
abbrev pub CountsRun : Stream → End → CountSink → Type 0
CountsRun r Complete c = c ≡ counts_of (kept r.rules r.bytes)
CountsRun r (Refused number place reason) c = c ≡ counts_of (kept r.rules r.bytes)
CountsRun r WriteFault c = ⊥
CountsRun r Memory c = CountsFront (kept r.rules r.bytes) [] c
CountsRun r cut_short c = c ≡ counts_of (kept r.rules (whole r.bytes))

-- the count of what is kept of a cut stream, whose ending is the answer; or, where memory was refused, of a prefix of
-- the pieces that were given
abbrev pub CountsPieces : InPieces → End → CountSink → Type 0
CountsPieces cut Complete c = (ending cut.rules (all_of cut) ≡ Complete)
    × (c ≡ counts_of (kept cut.rules (all_of cut)))
CountsPieces cut (Refused number place reason) c =
    (ending cut.rules (all_of cut) ≡ Refused number place reason) × (c ≡ counts_of (kept cut.rules (all_of cut)))
CountsPieces cut Memory c = CountsFront (kept cut.rules (given_of cut)) (kept cut.rules (whole (taken_of cut))) c
CountsPieces cut other c = ⊥

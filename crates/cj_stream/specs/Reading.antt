-- What is held of a stream while its lines are read, and which bytes it stands for.
use Rattle.cj_spans.specs.Meaning.Tree.{Tree}
use Rattle.std.specs.Prelude.{◌≡◌, ◌⊎◌, ℕ, ◌+◌, ◌<◌, ◌≤◌, List, [], ◌∷◌, ◌++◌, Bool, true, false, ◌&&◌, ◌==◌, nat_lt}
use Rattle.std.specs.Prelude.{if◌then◌else◌, IsTrue, Some, Result, Ok, Err, length, map, max, MatchResult}
use Rattle.std.specs.Prelude.{slice_get}
use Rattle.cj_budget.specs.Bounded.{BoundedList, IsWithin, Becomes}
use Rattle.cj_budget.specs.Meaning.Limits.{LimitPair}
use Rattle.cj_budget.specs.Limits.{InLine}
use Rattle.cj_stream.specs.declared.validator.Validator.{Validator}
use Rattle.cj_stream.specs.declared.line_buffer.LineBuffer.{LineBuffer}
use Rattle.cj_spans.specs.declared.reason.Reason.TheVariants.{NoHeader, LineTooLong}
use Rattle.cj_stream.specs.declared.ending.End.{End}
use Rattle.cj_stream.specs.declared.ending.End.TheVariants.{Refused, WriteFault, Memory}
use Rattle.cj_stream.specs.Meaning.Lines.{Line, lines, ended_line}
use Rattle.cj_stream.specs.Lines.{closed, begun, first_content, later_of, begun_later}
use Rattle.cj_stream.specs.Items.{Item}
use Rattle.cj_stream.specs.Item.{tree_of, item_at}
use Rattle.cj_stream.specs.Query.{rules_for}
use Rattle.cj_stream.specs.Meaning.Rules.{Rules}
use Rattle.cj_stream.specs.Meaning.Verdict.{Verdict, Invalid, Blank, LeftOut, Kept}
use Rattle.cj_stream.specs.Verdict.{verdict_at, verdict, item_after, is_kept, goes_on, AreCounted, kept_of, judged}
use Rattle.cj_stream.specs.Verdict.{rulings_closed}
use Rattle.cj_stream.specs.Meaning.Bound.{greatest}
use Rattle.cj_stream.specs.Bound.{held_length}
use Rattle.cj_stream.specs.Sink.{SinkContract, WithSink, TookMore}

-- the rules, the content of the first line, the content of a later line that has begun, how many lines were handled,
-- how many features were kept and how many lines refused, and whether the begun line is dropped since it is too long
pub record Reading : Type 0 where
  pub rules : Rules
  pub header : BoundedList ℕ
  pub line : BoundedList ℕ
  pub lines : ℕ
  pub kept : ℕ
  pub refused : ℕ
  pub dropped : Bool

-- what is held of bytes, beside what they are judged by, how many features were kept and how many lines refused
abbrev pub reading : LineBuffer → Validator → ℕ → ℕ → Reading
reading s d kept refused = record {
  rules = rules_for d.limits d.query.now d.options;
  header = s.header;
  line = s.line;
  lines = s.lines;
  kept = kept;
  refused = refused;
  dropped = s.dropped;
}

-- what is held of the content of the begun line
abbrev pub begun_of : Reading → List ℕ
begun_of f = if f.lines == 0 then f.header.elements else f.line.elements

-- the tree of the first line that is held
abbrev pub held_header : Reading → Tree
held_header f = tree_of f.rules.limits.depth f.header.elements

-- the verdict on a content as the line that comes next, and the item that it is
abbrev pub next_verdict : Reading → List ℕ → Verdict
next_verdict f content = verdict_at f.rules (f.lines + 1) (held_header f) content

abbrev pub next_item : Reading → Line → Item
next_item f l = item_at f.rules.limits.depth (f.lines + 1) (held_header f) l

-- reading goes on after the begun line, if it is refused
abbrev pub is_lenient : Reading → Bool
is_lenient f = goes_on f.rules (f.lines + 1)

-- what is held of a content: nothing, where it is too long
abbrev pub stored : ℕ → List ℕ → List ℕ
stored limit c = if nat_lt limit (length c) then [] else c

-- the begun line has this content: it is held, or it is dropped since it is too long
pub record IsBegun (f : Reading) (c : List ℕ) : Type 0 where
  pub content : begun_of f ≡ stored f.rules.limits.line c
  pub dropped : f.dropped ≡ nat_lt f.rules.limits.line (length c)

-- the verdict on the begun line, by what is known of it
abbrev pub begun_verdict : Reading → Verdict
begun_verdict f = if f.dropped then Invalid f.rules.limits.line LineTooLong else next_verdict f (begun_of f)

-- the line limit is in range, both lists have it, and no more features are kept, nor lines refused, than there are
-- lines
pub record IsSound (f : Reading) : Type 0 where
  pub range : InLine f.rules.limits.line
  pub header : f.header.limit ≡ f.rules.limits.line
  pub line : f.line.limit ≡ f.rules.limits.line
  pub kept : f.kept ≤ f.lines
  pub refused : f.refused ≤ f.lines

-- the begun line has grown by these bytes, which are held
pub record Fits (old : Reading) (part : List ℕ) (new : Reading) : Type 0 where
  pub held : old.dropped ≡ false
  pub short : length (begun_of old) + length part ≤ old.rules.limits.line
  pub dropped : new.dropped ≡ false
  pub first : old.lines ≡ 0 → Becomes old.header (old.header.elements ++ part) new.header × (new.line ≡ old.line)
  pub later : 0 < old.lines → Becomes old.line (old.line.elements ++ part) new.line × (new.header ≡ old.header)

-- a later line is too long by these bytes: what fits of them was held, and now the line is dropped
pub record Drops (old : Reading) (part : List ℕ) (new : Reading) : Type 0 where
  pub held : old.dropped ≡ false
  pub long : old.rules.limits.line < length (begun_of old) + length part
  pub lenient : is_lenient old ≡ true
  pub dropped : new.dropped ≡ true
  pub header : new.header ≡ old.header
  pub line : Becomes (record old.line { peak = old.rules.limits.line }) [] new.line

-- the begun line is dropped, and stays so
abbrev pub StaysDropped : Reading → Reading → Type 0
StaysDropped old new = (old.dropped ≡ true) × (new ≡ old)

-- why a part of a line is not stored: the line is too long by it, and that is the end
abbrev pub Unstored : Reading → List ℕ → End → Type 0
Unstored f part e = (e ≡ Refused (f.lines + 1) f.rules.limits.line LineTooLong)
    × (f.rules.limits.line < length (begun_of f) + length part) × (is_lenient f ≡ false) × (f.dropped ≡ false)

-- the begun line has grown by these bytes
pub record Stores (old : Reading) (part : List ℕ) (new : Reading) : Type 0 where
  pub rules : new.rules ≡ old.rules
  pub lines : new.lines ≡ old.lines
  pub kept : new.kept ≡ old.kept
  pub refused : new.refused ≡ old.refused
  pub grows : Fits old part new ⊎ Drops old part new ⊎ StaysDropped old new

-- the begun line was handled, and put to the sink or not, and refused or not
pub record EndsLine (put refuses : Bool) (old new : Reading) : Type 0 where
  pub rules : new.rules ≡ old.rules
  pub lines : new.lines ≡ old.lines + 1
  pub kept : new.kept ≡ (if put && nat_lt 0 old.lines then old.kept + 1 else old.kept)
  pub refused : new.refused ≡ (if refuses then old.refused + 1 else old.refused)
  pub dropped : new.dropped ≡ false
  pub header : new.header ≡ old.header
  pub line : Becomes old.line [] new.line

-- the same, with more room for later lines, or not, and this count of failed growths
abbrev pub with_room : Reading → Bool → ℕ → Reading
with_room f room failed = record f { line = record f.line { reserved = room; failed_growths = failed } }

-- nothing has changed but that there may be more room for later lines, or that a growth of it failed
pub record IsLeft (f g : Reading) : Type 0 where
  pub room : IsTrue f.line.reserved → IsTrue g.line.reserved
  pub same : g ≡ with_room f g.line.reserved g.line.failed_growths

-- what a line is judged as: its number, whether reading goes on after it if it is refused, the verdict on it, and the
-- item that it is
pub data DueLine : Type 0 where
  JudgedAs : ℕ → Bool → Verdict → Item → DueLine

-- the line that comes next; and the begun line, with or without LF
abbrev pub judged_next : Reading → Bool → Verdict → Line → DueLine
judged_next f on v l = JudgedAs (f.lines + 1) on v (next_item f l)

abbrev pub judged_begun : Reading → Bool → Verdict → Bool → DueLine
judged_begun f on v lf = judged_next f on v (record { content = begun_of f; lf = lf })

-- a line was refused, which would be this end: where reading goes on after it, it is handled, and else it is the end
abbrev pub Refuses : Bool → End → Reading → Result (Unit {0}) End → Reading → Type 0
Refuses true e old answer new = (answer ≡ Ok tt) × EndsLine false true old new
Refuses false e old answer new = (answer ≡ Err e) × (new ≡ old)

-- what comes of a line, by its verdict
abbrev pub HandlesLine : {S : Type 0} → SinkContract S → DueLine → WithSink Reading S → Result (Unit {0}) End
    → WithSink Reading S → Type 0
HandlesLine law (JudgedAs number on (Invalid place reason) i) old answer new =
    Refuses on (Refused number place reason) old.state answer new.state × (new.sink ≡ old.sink)
HandlesLine law (JudgedAs number on Blank i) old answer new =
    (answer ≡ Ok tt) × EndsLine false false old.state new.state × (new.sink ≡ old.sink)
HandlesLine law (JudgedAs number on LeftOut i) old answer new =
    (answer ≡ Ok tt) × EndsLine false false old.state new.state × (new.sink ≡ old.sink)
HandlesLine law (JudgedAs number on Kept i) old answer new =
    MatchResult answer (λ _. EndsLine true false old.state new.state × law.takes old.sink i new.sink)
    (λ e. (e ≡ WriteFault) × IsLeft old.state new.state × law.leaves old.sink i new.sink)

-- what comes of a line with this verdict, or no memory was granted for later lines, and nothing comes of it; so it is
-- only with a valid first line that LF ended
abbrev pub Handles : {S : Type 0} → SinkContract S → DueLine → WithSink Reading S → Result (Unit {0}) End
    → WithSink Reading S → Type 0
Handles law (JudgedAs number on v i) old answer new = HandlesLine law (JudgedAs number on v i) old answer new
    ⊎ ((answer ≡ Err Memory) × IsLeft old.state new.state × (new.sink ≡ old.sink) × (old.state.lines ≡ 0)
    × (v ≡ Kept) × (i.line.lf ≡ true))

-- these bytes have been read, and no line of them was the end
pub record Reads (f : Reading) (p : List ℕ) : Type 0 where
  pub lines : f.lines ≡ length (closed p)
  pub begun : IsBegun f (begun p)
  pub lenient : f.dropped ≡ true → is_lenient f ≡ true
  pub header : f.header.elements ≡ first_content p
  pub line : f.line.elements ≡ stored f.rules.limits.line (begun_later p)
  pub counted : AreCounted (rulings_closed f.rules p) f.kept f.refused
  pub peak : f.header.peak ≡ length f.header.elements
  pub line_peak : f.line.peak ≡ max (greatest (held_length f.rules.limits) (later_of (closed p)))
      (held_length f.rules.limits (begun_later p))
  pub header_within : IsWithin f.header
  pub line_within : IsWithin f.line

-- bytes that have been read, and further ones
pub record Further : Type 0 where
  pub read : List ℕ
  pub more : List ℕ

abbrev pub further : List ℕ → List ℕ → Further
further read more = record { read = read; more = more }

-- the further bytes have been read too, and the sink has what is kept of them
pub record Advances {S : Type 0} (law : SinkContract S) (bytes : Further) (old new : WithSink Reading S) : Type 0 where
  pub rules : new.state.rules ≡ old.state.rules
  pub reads : Reads new.state (bytes.read ++ bytes.more)
  pub puts : TookMore law.takes kept_of (rulings_closed old.state.rules bytes.read)
      (rulings_closed old.state.rules (bytes.read ++ bytes.more)) old.sink new.sink

-- this line comes after those that LF ended in p, of the lines of q that can be judged
abbrev pub IsNext : LimitPair → List ℕ → List ℕ → Line → Type 0
IsNext limits p q l = (others : List Line) × (judged limits q ≡ map ended_line (closed p) ++ l ∷ others)

-- no memory was granted for later lines, after n lines of q: the first line is valid and LF ended it, and no line was
-- handled
pub record LacksMemory (rules : Rules) (q : List ℕ) (n : ℕ) : Type 0 where
  pub none : n ≡ 0
  pub header : List ℕ
  pub first : slice_get (lines q) 0 ≡ Some (ended_line header)
  pub valid : verdict rules [] header ≡ Kept

-- where reading stopped: after the lines that LF ended in the bytes `done`, of the bytes `all`; `lines` counts them
pub record StopAt : Type 0 where
  pub rules : Rules
  pub done : List ℕ
  pub all : List ℕ
  pub lines : ℕ

abbrev pub stop_at : Rules → List ℕ → List ℕ → ℕ → StopAt
stop_at rules done all n = record { rules = rules; done = done; all = all; lines = n }

-- the lines that were handled there
abbrev pub lines_done : StopAt → List Line
lines_done at = map ended_line (closed at.done)

-- why reading stopped there, and what the sink is then
abbrev pub HasCause : {S : Type 0} → SinkContract S → StopAt → S → S → End → Type 0
HasCause law at s t (Refused number place reason) =
    (l : Line) × IsNext at.rules.limits at.done at.all l × (number ≡ at.lines + 1)
    × (verdict at.rules (lines_done at) l.content ≡ Invalid place reason) × (t ≡ s)
    × (goes_on at.rules number ≡ false)
HasCause law at s t WriteFault =
    (l : Line) × IsNext at.rules.limits at.done at.all l
    × (is_kept (verdict at.rules (lines_done at) l.content) ≡ true)
    × law.leaves s (item_after at.rules (lines_done at) l) t
HasCause law at s t Memory = (t ≡ s) × LacksMemory at.rules at.all at.lines
HasCause law at s t other = ⊥

-- reading stopped within the further bytes
pub record Stops {S : Type 0} (law : SinkContract S) (bytes : Further) (old : WithSink Reading S) (end : End)
    (new : WithSink Reading S) : Type 0 where
  pub done : List ℕ
  pub left : List ℕ
  pub middle : S
  pub cut : bytes.more ≡ done ++ left
  pub rules : new.state.rules ≡ old.state.rules
  pub reads : Reads new.state (bytes.read ++ done)
  pub puts : TookMore law.takes kept_of (rulings_closed old.state.rules bytes.read)
      (rulings_closed old.state.rules (bytes.read ++ done)) old.sink middle
  pub cause : HasCause law
      (stop_at old.state.rules (bytes.read ++ done) (bytes.read ++ bytes.more) new.state.lines) middle new.sink end

-- what stays, whatever comes of some bytes: the rules, and peaks that never fall
pub record Stays (f g : Reading) : Type 0 where
  pub rules : g.rules ≡ f.rules
  pub header_rises : f.header.peak ≤ g.header.peak
  pub line_rises : f.line.peak ≤ g.line.peak

-- what comes of the end of a stream, where this is the begun line: of a last line, and of a stream without one
abbrev pub FinishesWith : {S : Type 0} → SinkContract S → List ℕ → WithSink Reading S → Result (Unit {0}) End
    → WithSink Reading S → Type 0
FinishesWith law [] old answer new =
    (answer ≡ (if old.state.lines == 0 then Err (Refused 1 0 NoHeader) else Ok tt))
    × (new.state ≡ old.state) × (new.sink ≡ old.sink)
FinishesWith law (b ∷ c) old answer new =
    Handles law (judged_next old.state (is_lenient old.state) (next_verdict old.state (b ∷ c))
    (record { content = b ∷ c; lf = false })) old answer new

abbrev pub Finishes : {S : Type 0} → SinkContract S → List ℕ → WithSink Reading S → Result (Unit {0}) End
    → WithSink Reading S → Type 0
Finishes law p old answer new = FinishesWith law (begun p) old answer new

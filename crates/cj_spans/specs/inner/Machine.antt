-- The machine that reads a line byte by byte. Only private clauses cite it.
use Rattle.std.specs.Prelude.{◌≡◌, ℕ, suc, ◌^◌, ◌<◌, ◌≤◌, List, [], ◌∷◌, ◌++◌, length, drop, max, slice_get, slice_set}
use Rattle.std.specs.Prelude.{Bool, cond, ◌⊎◌, ◌||◌, ◌&&◌, nat_eq, nat_le, Option, Some, None, IsSomeAnd, option_map, codes}
use Rattle.std.specs.Prelude.{option_and_then, Result, Ok, Err, OnErr, IsTrue}
use Rattle.cj_budget.specs.Bounded.{BoundedList, IsWithin}
use Rattle.cj_spans.specs.declared.fault.LineFault.{LineFault}
use Rattle.cj_spans.specs.declared.fault.LineFault.TheVariants.{NotUtf8, Syntax, TooDeep}
use Rattle.cj_spans.specs.declared.token.Kind.{Kind}
use Rattle.cj_spans.specs.declared.token.Kind.TheVariants.{Null, Truth, Number, Text, Array, Object}
use Rattle.cj_spans.specs.declared.token.Token.{Token}
use Rattle.cj_spans.specs.declared.lex.Lex.{Lex}
use Rattle.cj_spans.specs.declared.lex.Lex.TheVariants.{AfterN, AfterNu, AfterNul, NullDone, AfterT, AfterTr, AfterTru}
use Rattle.cj_spans.specs.declared.lex.Lex.TheVariants.{AfterF, AfterFa, AfterFal, AfterFals, TruthDone, Minus, Zero}
use Rattle.cj_spans.specs.declared.lex.Lex.TheVariants.{Whole, Point, Fraction, Mark, MarkSign, Exponent, InString}
use Rattle.cj_spans.specs.declared.lex.Lex.TheVariants.{Escape, Hex4, Hex3, Hex2, Hex1, StringDone}
use Rattle.cj_spans.specs.declared.step.Mode.{Mode}
use Rattle.cj_spans.specs.declared.step.Mode.TheVariants.{Ready, FirstItem, After, FirstName, NextName, AfterName}
use Rattle.cj_spans.specs.declared.step.Move.{Move}
use Rattle.cj_spans.specs.declared.step.Move.TheVariants.{Stay, To, Open, Atom}
use Rattle.cj_spans.specs.declared.step.Next.{Next}
use Rattle.cj_spans.specs.Meaning.Spelling.{is_white_space, is_hex, is_escape}
use Rattle.cj_spans.specs.Meaning.Json.{byte}
use Rattle.cj_spans.specs.Preorder.{token_at}
use Rattle.cj_spans.specs.Meaning.Signs.{backslash, capital_e, colon, comma, decimal_point, digit_0, digit_1, digit_9}
use Rattle.cj_spans.specs.Meaning.Signs.{left_brace, left_bracket, minus_sign, plus_sign, quote, right_brace}
use Rattle.cj_spans.specs.Meaning.Signs.{right_bracket, small_a, small_e, small_f, small_n, small_r, sign}
use Rattle.cj_spans.specs.Meaning.Signs.{small_t, small_u, space}

abbrev pub small_l : ℕ
small_l = sign (codes "l")

abbrev pub small_s : ℕ
small_s = sign (codes "s")

-- ---- scalars and names

-- one of the bytes `0` to `9`
abbrev pub is_digit : ℕ → Bool
is_digit b = nat_le digit_0 b && nat_le b digit_9

-- what the first byte of a scalar begins
abbrev pub lex_start : ℕ → Option Lex
lex_start b =
    cond (nat_eq b small_n) (Some AfterN) (cond (nat_eq b small_t) (Some AfterT) (cond (nat_eq b small_f) (Some AfterF)
    (cond (nat_eq b minus_sign) (Some Minus) (cond (nat_eq b digit_0) (Some Zero)
    (cond (nat_le digit_1 b && nat_le b digit_9) (Some Whole) (cond (nat_eq b quote) (Some InString) None))))))

-- the reading x after the byte d alone
abbrev pub one : ℕ → ℕ → Lex → Option Lex
one b d x = cond (nat_eq b d) (Some x) None

-- the reading x after a digit
abbrev pub digit_or : ℕ → Lex → Option Lex → Option Lex
digit_or b x other = cond (is_digit b) (Some x) other

-- the reading x after a hexadecimal digit
abbrev pub hex : ℕ → Lex → Option Lex
hex b x = cond (is_hex b) (Some x) None

-- the mark of an exponent
abbrev pub mark : ℕ → Option Lex
mark b = cond (nat_eq b small_e || nat_eq b capital_e) (Some Mark) None

-- a point or the mark of an exponent
abbrev pub point_or_mark : ℕ → Option Lex
point_or_mark b = cond (nat_eq b decimal_point) (Some Point) (mark b)

-- the first digit of a number
abbrev pub zero_or_whole : ℕ → Option Lex
zero_or_whole b = cond (nat_eq b digit_0) (Some Zero) (cond (nat_le digit_1 b && nat_le b digit_9) (Some Whole) None)

-- the sign of an exponent
abbrev pub sign_mark : ℕ → Option Lex
sign_mark b = cond (nat_eq b plus_sign || nat_eq b minus_sign) (Some MarkSign) None

-- a byte in a string
abbrev pub string_step : ℕ → Option Lex
string_step b = cond (nat_eq b quote) (Some StringDone)
    (cond (nat_eq b backslash) (Some Escape) (cond (nat_le space b) (Some InString) None))

-- a byte after a backslash
abbrev pub escape_step : ℕ → Option Lex
escape_step b = cond (is_escape b) (Some InString) (cond (nat_eq b small_u) (Some Hex4) None)

-- how far the spelling is after one byte more
abbrev pub lex_step : Lex → ℕ → Option Lex
lex_step AfterN b = one b small_u AfterNu
lex_step AfterNu b = one b small_l AfterNul
lex_step AfterNul b = one b small_l NullDone
lex_step AfterT b = one b small_r AfterTr
lex_step AfterTr b = one b small_u AfterTru
lex_step AfterTru b = one b small_e TruthDone
lex_step AfterF b = one b small_a AfterFa
lex_step AfterFa b = one b small_l AfterFal
lex_step AfterFal b = one b small_s AfterFals
lex_step AfterFals b = one b small_e TruthDone
lex_step NullDone b = None
lex_step TruthDone b = None
lex_step Minus b = zero_or_whole b
lex_step Zero b = point_or_mark b
lex_step Whole b = digit_or b Whole (point_or_mark b)
lex_step Point b = digit_or b Fraction None
lex_step Fraction b = digit_or b Fraction (mark b)
lex_step Mark b = digit_or b Exponent (sign_mark b)
lex_step MarkSign b = digit_or b Exponent None
lex_step Exponent b = digit_or b Exponent None
lex_step InString b = string_step b
lex_step Escape b = escape_step b
lex_step Hex4 b = hex b Hex3
lex_step Hex3 b = hex b Hex2
lex_step Hex2 b = hex b Hex1
lex_step Hex1 b = hex b InString
lex_step StringDone b = None

-- the kind of the scalar that may end here
abbrev pub lex_kind : Lex → Option Kind
lex_kind AfterN = None
lex_kind AfterNu = None
lex_kind AfterNul = None
lex_kind AfterT = None
lex_kind AfterTr = None
lex_kind AfterTru = None
lex_kind AfterF = None
lex_kind AfterFa = None
lex_kind AfterFal = None
lex_kind AfterFals = None
lex_kind NullDone = Some Null
lex_kind TruthDone = Some Truth
lex_kind Minus = None
lex_kind Zero = Some Number
lex_kind Whole = Some Number
lex_kind Point = None
lex_kind Fraction = Some Number
lex_kind Mark = None
lex_kind MarkSign = None
lex_kind Exponent = Some Number
lex_kind InString = None
lex_kind Escape = None
lex_kind Hex4 = None
lex_kind Hex3 = None
lex_kind Hex2 = None
lex_kind Hex1 = None
lex_kind StringDone = Some Text

-- from the place i and the reading x on, the bytes up to k give the reading y
pub data Continues (b : List ℕ) (i : ℕ) (x : Lex) : ℕ → Lex → Type 0 where
  still : Continues b i x i x
  further : (k : ℕ) (y z : Lex) → Continues b i x k y → lex_step y (byte b k) ≡ Some z → Continues b i x (suc k) z

-- at the place k, the line ends or the next byte does not go on from x
abbrev pub Halts : List ℕ → ℕ → Lex → Type 0
Halts b k x = (length b ≤ k) ⊎ (lex_step x (byte b k) ≡ None)

-- ---- states

-- between scalars and names, or in one that began at a place, with the mode after it
pub data Phase : Type 0 where
  between : Mode → Phase
  in_atom : Mode → ℕ → Lex → Phase

-- the phase, the open containers from the innermost on, the tokens, how many bytes were read, and the most containers
-- that were open
pub record State : Type 0 where
  pub phase : Phase
  pub stack : List ℕ
  pub tokens : List Token
  pub place : ℕ
  pub deepest : ℕ

-- the state of these parts
abbrev pub state : Phase → List ℕ → List Token → ℕ → ℕ → State
state f ks ts i p = record { phase = f; stack = ks; tokens = ts; place = i; deepest = p }

-- the link of a container of the kind while it is open: it tells the kind
abbrev pub open_link : Kind → ℕ
open_link Object = 1
open_link _ = 0

-- the kind of the open container whose token this is
abbrev pub open_kind : Token → Kind
open_kind t = cond (nat_eq t.link 0) Array Object

-- before the first byte
abbrev pub start : State
start = state (between Ready) [] [] 0 0

-- one byte on, in the phase f
abbrev pub moved : Phase → State → State
moved f s = state f s.stack s.tokens (suc s.place) s.deepest

-- the byte opens a container of the kind k, in which the mode m comes
abbrev pub with_opened : Kind → Mode → State → State
with_opened k m s = state (between m) (length s.tokens ∷ s.stack) (s.tokens ++ token_at s.place 0 (open_link k) ∷ [])
    (suc s.place) (max s.deepest (suc (length s.stack)))

-- the innermost container k, whose token is t, ends with the byte that is read
abbrev pub with_closed : ℕ → Token → State → State
with_closed k t s = state (between After) (drop 1 s.stack)
    (slice_set s.tokens k (token_at t.start (suc s.place) (length s.tokens))) (suc s.place) s.deepest

-- ---- one byte

-- a byte where a value may begin
abbrev pub begin_value : ℕ → State → Option State
begin_value c s =
    cond (nat_eq c left_bracket) (Some (with_opened Array FirstItem s))
    (cond (nat_eq c left_brace) (Some (with_opened Object FirstName s))
    (option_map (λ x. moved (in_atom After s.place x) s) (lex_start c)))

-- a byte where a name may begin
abbrev pub begin_name : ℕ → State → Option State
begin_name c s = cond (nat_eq c quote) (Some (moved (in_atom AfterName s.place InString) s)) None

-- the container k with the token t is closed by the bracket d
abbrev pub close_by : ℕ → ℕ → ℕ → Token → State → Option State
close_by c d k t s = cond (nat_eq c d) (Some (with_closed k t s)) None

-- a byte after a value in a container of this kind
abbrev pub after_in : Kind → ℕ → ℕ → Token → State → Option State
after_in Array c k t s = cond (nat_eq c comma) (Some (moved (between Ready) s)) (close_by c right_bracket k t s)
after_in Object c k t s = cond (nat_eq c comma) (Some (moved (between NextName) s)) (close_by c right_brace k t s)
after_in _ c k t s = None

-- the same, in the container whose token this is
abbrev pub after_token : ℕ → ℕ → Option Token → State → Option State
after_token c k None s = None
after_token c k (Some t) s = after_in (open_kind t) c k t s

-- the same, in the innermost container
abbrev pub after_top : ℕ → Option ℕ → State → Option State
after_top c None s = None
after_top c (Some k) s = after_token c k (slice_get s.tokens k) s

-- a byte after a value
abbrev pub after_value : ℕ → State → Option State
after_value c s = after_top c (slice_get s.stack 0) s

-- the container whose token this is holds nothing
abbrev pub close_token : ℕ → Option Token → State → Option State
close_token k None s = None
close_token k (Some t) s = Some (with_closed k t s)

-- the same of the innermost container
abbrev pub close_top : Option ℕ → State → Option State
close_top None s = None
close_top (Some k) s = close_token k (slice_get s.tokens k) s

-- the bracket that closes a container which holds nothing
abbrev pub close_empty : State → Option State
close_empty s = close_top (slice_get s.stack 0) s

-- a byte after a name
abbrev pub colon_step : ℕ → State → Option State
colon_step c s = cond (nat_eq c colon) (Some (moved (between Ready) s)) None

-- a byte that is not white space, between scalars and names
abbrev pub read_in : Mode → ℕ → State → Option State
read_in Ready c s = begin_value c s
read_in FirstItem c s = cond (nat_eq c right_bracket) (close_empty s) (begin_value c s)
read_in After c s = after_value c s
read_in FirstName c s = cond (nat_eq c right_brace) (close_empty s) (begin_name c s)
read_in NextName c s = begin_name c s
read_in AfterName c s = colon_step c s

-- a byte, between scalars and names
abbrev pub read : Mode → ℕ → State → Option State
read m c s = cond (is_white_space c) (Some (moved (between m) s)) (read_in m c s)

-- where a scalar or a name may end, it has ended
abbrev pub end_atom : Mode → ℕ → Option Kind → State → Option State
end_atom m i None s = None
end_atom m i (Some k) s = Some (state (between m) s.stack (s.tokens ++ token_at i s.place (suc (length s.tokens)) ∷ [])
    s.place s.deepest)

-- the scalar goes on, or the other state comes
abbrev pub go_on : (Lex → Phase) → Option Lex → State → Option State → Option State
go_on f (Some x) s other = Some (moved (f x) s)
go_on f None s other = other

-- a byte in this phase
abbrev pub step_by : Phase → ℕ → State → Option State
step_by (between m) c s = read m c s
step_by (in_atom m i x) c s = go_on (λ y. in_atom m i y) (lex_step x c) s
    (option_and_then (read m c) (end_atom m i (lex_kind x) s))

-- a byte
abbrev pub step : ℕ → State → Option State
step c s = step_by s.phase c s

-- the state once the scalar or name of this phase has ended
abbrev pub settle_by : Phase → State → Option State
settle_by (between m) s = Some s
settle_by (in_atom m i x) s = end_atom m i (lex_kind x) s

-- the state once its scalar or name has ended, if it may end
abbrev pub settle : State → Option State
settle s = settle_by s.phase s

-- ---- runs

-- the machine comes from s to t over the bytes of b
pub data Reaches (b : List ℕ) (s : State) : State → Type 0 where
  here : Reaches b s s
  on : (t u : State) → Reaches b s t → step (byte b t.place) t ≡ Some u → Reaches b s u

-- the machine comes from s to t, or to where t is once its scalar has ended, which the next byte does not continue
pub record ComesTo (b : List ℕ) (s t : State) : Type 0 where
  pub last : State
  pub reached : Reaches b s last
  pub settles : settle last ≡ Some t
  pub same : t.place < length b → step (byte b t.place) last ≡ step (byte b t.place) t

-- the machine comes from s to the place i, and no further
pub record Sticks (b : List ℕ) (s : State) (i : ℕ) : Type 0 where
  pub last : State
  pub reached : Reaches b s last
  pub at : last.place ≡ i
  pub within : i ≤ length b
  pub stuck : ((i < length b) × (step (byte b i) last ≡ None))
      ⊎ ((i ≡ length b) × ((ts : List Token) (p : ℕ) → settle last ≡ Some (state (between After) [] ts (length b) p)
      → ⊥))

-- the same where no container opens on the way
pub record SticksFlat (b : List ℕ) (s : State) (i : ℕ) : Type 0 where
  pub sticks : Sticks b s i
  pub flat : sticks.last.deepest ≡ s.deepest

-- ---- what the code answers

-- the phase after a move of the byte at the place i, in the mode m
abbrev pub phase_after : Mode → ℕ → Move → Phase
phase_after m i Stay = between m
phase_after m i (To n) = between n
phase_after m i (Open n) = between n
phase_after m i (Atom n x) = in_atom n i x

-- the most containers that were open, after a move that leaves n of them
abbrev pub deepest_after : Move → ℕ → ℕ → ℕ
deepest_after (Open m) p n = max p n
deepest_after _ p n = p

-- what a call answers that reads the byte at the place i in the mode m, where the machine's step gives o, under the
-- limit d
abbrev pub Answers : Option State → Mode → ℕ → ℕ → ℕ → Result Move LineFault → List ℕ → List Token → Type 0
Answers o m i p d (Ok v) ks ts = o ≡ Some (state (phase_after m i v) ks ts (suc i) (deepest_after v p (length ks)))
Answers o m i p d (Err (Syntax j)) ks ts = (j ≡ i) × (o ≡ None)
Answers o m i p d (Err (TooDeep j)) ks ts = (j ≡ i) × IsSomeAnd o (λ u. length u.stack ≡ suc d)
Answers o m i p d (Err (NotUtf8 j)) ks ts = ⊥

-- what a call answers that ends the scalar or the name of the state s, if it is in one
abbrev pub EndAnswers : List ℕ → State → Result Next LineFault → List Token → Type 0
EndAnswers b s (Ok n) ts = ComesTo b s (state (between n.mode) s.stack ts n.place s.deepest) × (s.place ≤ n.place)
    × (n.place ≤ length b)
EndAnswers b s (Err (Syntax j)) ts = SticksFlat b s j
EndAnswers b s (Err (TooDeep j)) ts = ⊥
EndAnswers b s (Err (NotUtf8 j)) ts = ⊥

-- a place and the count of the tokens are within what a token's fields hold, with a bit to spare
abbrev pub FitsToken : ℕ → BoundedList Token → Type 0
FitsToken i tokens = (i < 2 ^ 31) × (length tokens.elements < 2 ^ 31)

-- what calls leave of a list: the limit, the peak, and room that is there
pub record Kept {T : Type 0} (old new : BoundedList T) : Type 0 where
  pub limit : new.limit ≡ old.limit
  pub peak : new.peak ≡ max old.peak (length new.elements)
  pub room : IsTrue old.reserved → IsTrue new.reserved
  pub within : IsWithin new

-- the same of a list to which tokens are added
pub record Grown (old new : BoundedList Token) : Type 0 where
  pub kept : Kept old new
  pub longer : length old.elements ≤ length new.elements

-- what a call does with the lists that reads the byte at the place i, where the machine does f, from whatever mode
pub record ReadsByte (f : State → Option State) (i : ℕ) (result : Result Move LineFault)
    (old_tokens new_tokens : BoundedList Token) (old_stack new_stack : BoundedList ℕ) : Type 0 where
  pub answer : (m : Mode) (p : ℕ)
      → Answers (f (state (between m) old_stack.elements old_tokens.elements i p)) m i p old_stack.limit result
      new_stack.elements new_tokens.elements
  pub tokens : Grown old_tokens new_tokens
  pub stack : Kept old_stack new_stack
  pub err : OnErr result ((new_tokens ≡ old_tokens) × (new_stack ≡ old_stack))

-- a value may begin in the mode
abbrev pub BeginsValue : Mode → Type 0
BeginsValue Ready = Unit {0}
BeginsValue FirstItem = Unit {0}
BeginsValue _ = ⊥

-- the bracket of an array may come in the mode
abbrev pub MayCloseArray : Mode → Type 0
MayCloseArray FirstItem = Unit {0}
MayCloseArray After = Unit {0}
MayCloseArray _ = ⊥

-- the innermost open container is of this kind
pub record IsInnermost (d : Kind) (ks : List ℕ) (ts : List Token) : Type 0 where
  pub top : ℕ
  pub token : Token
  pub innermost : slice_get ks 0 ≡ Some top
  pub there : slice_get ts top ≡ Some token
  pub kind : open_kind token ≡ d

-- it is an array
abbrev pub InArray : List ℕ → List Token → Type 0
InArray ks ts = IsInnermost Array ks ts

-- it is an object
abbrev pub InObject : List ℕ → List Token → Type 0
InObject ks ts = IsInnermost Object ks ts

-- a name may begin in the mode
abbrev pub BeginsName : Mode → Type 0
BeginsName FirstName = Unit {0}
BeginsName NextName = Unit {0}
BeginsName _ = ⊥

-- a string in the first mode is followed by the second
abbrev pub StringLeads : Mode → Mode → Type 0
StringLeads Ready After = Unit {0}
StringLeads FirstName AfterName = Unit {0}
StringLeads NextName AfterName = Unit {0}
StringLeads _ _ = ⊥

-- the bytes from i to k are a string with its quotes
pub record IsQuoted (b : List ℕ) (i k : ℕ) : Type 0 where
  pub opens : byte b i ≡ quote
  pub goes : Continues b (suc i) InString k StringDone
  pub order : i < k
  pub within : k ≤ length b

-- a name may begin after the move of a sign or a bracket
abbrev pub BeginsNameNext : Move → Type 0
BeginsNameNext (To m) = BeginsName m
BeginsNameNext (Open m) = BeginsName m
BeginsNameNext _ = ⊥

-- the byte c is `{` or the comma of an object, by the move that it makes
abbrev pub StaysInObjectNext : ℕ → Move → Type 0
StaysInObjectNext c (To NextName) = c ≡ comma
StaysInObjectNext c (Open FirstName) = c ≡ left_brace
StaysInObjectNext c _ = ⊥

-- the byte c, after which the mode comes, is `[` or the comma of an array
abbrev pub StaysInArray : ℕ → Mode → Type 0
StaysInArray c Ready = c ≡ comma
StaysInArray c FirstItem = c ≡ left_bracket
StaysInArray c _ = ⊥

-- a value may begin after the move of a sign or a bracket
abbrev pub BeginsValueNext : Move → Type 0
BeginsValueNext (To m) = BeginsValue m
BeginsValueNext (Open m) = BeginsValue m
BeginsValueNext _ = ⊥

-- the byte c is `[` or the comma of an array, by the move that it makes
abbrev pub StaysInArrayNext : ℕ → Move → Type 0
StaysInArrayNext c (To m) = StaysInArray c m
StaysInArrayNext c (Open m) = StaysInArray c m
StaysInArrayNext c _ = ⊥

-- the bytes from i to k are a number, if the byte at k does not go on with it; the first is a minus or a digit
pub record IsNumberUpTo (b : List ℕ) (i k : ℕ) : Type 0 where
  pub first : Lex
  pub last : Lex
  pub sign : (minus_sign ≤ byte b i) × (byte b i ≤ digit_9)
  pub begins : lex_start (byte b i) ≡ Some first
  pub goes : Continues b (suc i) first k last
  pub done : lex_kind last ≡ Some Number
  pub order : i < k
  pub within : k < length b

-- the byte is a comma or `]`
abbrev pub EndsItem : ℕ → Type 0
EndsItem c = (c ≡ comma) ⊎ (c ≡ right_bracket)

-- the byte begins a scalar or a name
abbrev pub BeginsAtom : Move → Type 0
BeginsAtom (Atom m x) = Unit {0}
BeginsAtom _ = ⊥

-- the machine comes to the place i and no further, with at most d containers open
pub record SticksAt (b : List ℕ) (d i : ℕ) : Type 0 where
  pub sticks : Sticks b start i
  pub shallow : sticks.last.deepest ≤ d

-- the byte at the place i opens one container more than the d that were open
pub record SinksAt (b : List ℕ) (d i : ℕ) : Type 0 where
  pub last : State
  pub reached : Reaches b start last
  pub at : last.place ≡ i
  pub within : i < length b
  pub shallow : last.deepest ≤ d
  pub deep : IsSomeAnd (step (byte b i) last) (λ u. length u.stack ≡ suc d)

-- the machine reads all of the line, and has these tokens
pub record Accepts (b : List ℕ) (tokens : BoundedList Token) (old new : BoundedList ℕ) : Type 0 where
  pub deepest : ℕ
  pub settles : ComesTo b start (state (between After) [] tokens.elements (length b) deepest)
  pub closed : new.elements ≡ []
  pub peak : new.peak ≡ max old.peak deepest
  pub shallow : deepest ≤ old.limit

-- what the pass over a line answers
abbrev pub RunAnswers : {X : Type 0} → List ℕ → BoundedList ℕ → Result X LineFault → BoundedList Token → BoundedList ℕ
    → Type 0
RunAnswers b old (Ok v) tokens new = Accepts b tokens old new
RunAnswers b old (Err (Syntax i)) tokens new = (s : SticksAt b old.limit i)
    × (new.peak ≡ max old.peak s.sticks.last.deepest)
RunAnswers b old (Err (TooDeep i)) tokens new = (s : SinksAt b old.limit i)
    × (new.peak ≡ max old.peak s.last.deepest)
RunAnswers b old (Err (NotUtf8 i)) tokens new = ⊥

-- Where the pass over a line stands in the machine. Only private clauses cite it.
use Rattle.std.specs.Prelude.{◌≡◌, ◌⊎◌, ℕ, ◌+◌, ◌/◌, ◌<◌, ◌≤◌, List, length, max, slice_get, Some, false, Result, Ok}
use Rattle.std.specs.Prelude.{Err, IsTrue}
use Rattle.cj_budget.specs.Bounded.{BoundedList, IsWithin}
use Rattle.cj_spans.specs.declared.fault.LineFault.{LineFault}
use Rattle.cj_spans.specs.declared.token.Kind.{Kind}
use Rattle.cj_spans.specs.declared.token.Kind.TheVariants.{Array}
use Rattle.cj_spans.specs.declared.token.Token.{Token}
use Rattle.cj_spans.specs.declared.step.Mode.{Mode}
use Rattle.cj_spans.specs.declared.step.Mode.TheVariants.{FirstItem, After}
use Rattle.cj_spans.specs.declared.step.Next.{Next}
use Rattle.cj_spans.specs.declared.arrays.Numbers.{Numbers}
use Rattle.cj_spans.specs.declared.step.Inner.{Inner}
use Rattle.cj_spans.specs.Meaning.Json.{byte}
use Rattle.cj_spans.specs.Scan.{KeepsLaw}
use Rattle.cj_spans.specs.inner.Machine.{state, between, start, ComesTo, Kept, BeginsValue, IsInnermost, InArray}
use Rattle.cj_spans.specs.inner.Machine.{RunAnswers}
use Rattle.cj_spans.specs.Meaning.Signs.{left_bracket, right_bracket}

-- the machine has come to the mode m at the place i, and the lists are those that it has, from these on
pub record Standing (b : List ℕ) (tokens0 : BoundedList Token) (stack0 : BoundedList ℕ) (tokens : BoundedList Token)
    (stack : BoundedList ℕ) (m : Mode) (i : ℕ) : Type 0 where
  pub deepest : ℕ
  pub settles : ComesTo b start (state (between m) stack.elements tokens.elements i deepest)
  pub place : i ≤ length b
  pub kept : Kept tokens0 tokens
  pub stack_limit : stack.limit ≡ stack0.limit
  pub stack_peak : stack.peak ≡ max stack0.peak deepest
  pub stack_room : IsTrue stack0.reserved → IsTrue stack.reserved
  pub stack_within : IsWithin stack

-- the room for the tokens of a line, under a limit of open containers, which both lists have reserved
pub record HasLineRoom (b : List ℕ) (tokens0 : BoundedList Token) (stack0 : BoundedList ℕ) : Type 0 where
  pub short : length b ≤ 1073741824
  pub room : (length b + stack0.limit + 1) / 2 ≤ tokens0.limit
  pub reserved : IsTrue tokens0.reserved × IsTrue stack0.reserved

-- the same from some lists on, which have room for the line
pub record Stands (b : List ℕ) (tokens : BoundedList Token) (stack : BoundedList ℕ) (m : Mode) (i : ℕ) : Type 0 where
  pub tokens0 : BoundedList Token
  pub stack0 : BoundedList ℕ
  pub standing : Standing b tokens0 stack0 tokens stack m i
  pub room : HasLineRoom b tokens0 stack0

-- what a call answers that goes on with the pass: where it stands, or what the pass answers
abbrev pub GoesOn : List ℕ → BoundedList Token → BoundedList ℕ → Result Next LineFault → BoundedList Token
    → BoundedList ℕ → Type 0
GoesOn b tokens0 stack0 (Ok n) tokens stack = Standing b tokens0 stack0 tokens stack n.mode n.place
GoesOn b tokens0 stack0 (Err f) tokens stack = RunAnswers {X = Unit {0}} b stack0 (Err f) tokens stack
    × KeepsLaw b tokens0 tokens stack0 stack

-- the same of a call that also tells whether a value of an array comes
abbrev pub GoesInto : List ℕ → BoundedList Token → BoundedList ℕ → Result Inner LineFault → BoundedList Token
    → BoundedList ℕ → Type 0
GoesInto b tokens0 stack0 (Ok n) tokens stack = Standing b tokens0 stack0 tokens stack n.next.mode n.next.place
GoesInto b tokens0 stack0 (Err f) tokens stack = GoesOn b tokens0 stack0 (Err f) tokens stack

-- a value of an array comes, if that was told
abbrev pub IsInside : BoundedList Token → BoundedList ℕ → Inner → Type 0
IsInside tokens stack n = IsTrue n.in_array → InArray stack.elements tokens.elements × BeginsValue n.next.mode

-- a pass over the line stands so, and a container of the kind d is innermost
pub record StandsIn (d : Kind) (b : List ℕ) (tokens : BoundedList Token) (m : Mode) (i : ℕ) : Type 0 where
  pub stack : BoundedList ℕ
  pub stands : Stands b tokens stack m i
  pub innermost : IsInnermost d stack.elements tokens.elements

-- a call that leaves the stack takes a pass, where a container of the kind d is innermost, from the mode m at the
-- place i to n at j
abbrev pub LeadsIn : Kind → List ℕ → BoundedList Token → Mode → ℕ → BoundedList Token → Mode → ℕ → Type 0
LeadsIn d b tokens m i tokens1 n j = (tokens0 : BoundedList Token) (stack0 stack : BoundedList ℕ)
    → IsInnermost d stack.elements tokens.elements → Standing b tokens0 stack0 tokens stack m i
    → IsInnermost d stack.elements tokens1.elements × Standing b tokens0 stack0 tokens1 stack n j

-- an array begins at n, as a value of an array
pub record ComesArray (b : List ℕ) (tokens : BoundedList Token) (stack : BoundedList ℕ) (n : Next) : Type 0 where
  pub array : InArray stack.elements tokens.elements
  pub begins : BeginsValue n.mode
  pub within : n.place < length b
  pub bracket : byte b n.place ≡ left_bracket

-- the tokens so far stay where they are
abbrev pub KeepsTokens : List Token → List Token → Type 0
KeepsTokens ts us = (k : ℕ) (t : Token) → slice_get ts k ≡ Some t → slice_get us k ≡ Some t

-- a value of an array has ended, and the bracket of the array is there
pub record EndsArray (b : List ℕ) (n : Next) : Type 0 where
  pub after : n.mode ≡ After
  pub within : n.place < length b
  pub bracket : byte b n.place ≡ right_bracket

-- a value of an array has ended, or the bracket of an array without an item is there
abbrev pub EndsItems : List ℕ → Next → Type 0
EndsItems b n = (n.mode ≡ After) ⊎ ((n.mode ≡ FirstItem) × (byte b n.place ≡ right_bracket))

-- a call that reads numbers of an array, where a value may begin, from f on: it leaves the stack, and stops at the
-- bracket of the array or where a value may begin
pub record ReadsNumbers (b : List ℕ) (tokens : BoundedList Token) (f : Next) (tokens1 : BoundedList Token) (r : Numbers)
    : Type 0 where
  pub leads : LeadsIn Array b tokens f.mode f.place tokens1 r.next.mode r.next.place
  pub kept : KeepsTokens tokens.elements tokens1.elements
  pub ended : IsTrue r.ended → EndsArray b r.next
  pub begins : r.ended ≡ false → BeginsValue r.next.mode
  pub order : f.place ≤ r.next.place

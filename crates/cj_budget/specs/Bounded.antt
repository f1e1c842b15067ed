-- What a contract sees of a list with a limit.
use Rattle.std.specs.Prelude.{◌≡◌, ◌↔◌, ◌⊎◌, ℕ, ◌<◌, ◌≤◌, List, [], length, max, nat_le, Bool, true, IsTrue, Result}
use Rattle.std.specs.Prelude.{OnOk, OnErr, IsOk, IsErrOf, refl}
use Rattle.std.specs.Coded.{Coded, code_by, coded×, coded_ℕ, coded_list, coded_bool}
use Rattle.cj_budget.specs.Meaning.Counts.{HasRisen}
use Rattle.cj_budget.specs.Counts.{one_more_failure}
use Rattle.cj_budget.specs.declared.growth.NoMemory.{NoMemory}
use Rattle.cj_budget.specs.declared.bounded.Refused.{Refused}
use Rattle.cj_budget.specs.declared.bounded.Refused.TheVariants.{Full, Memory}

-- the elements, the greatest length that is allowed, the greatest length so far, whether there is room for the limit,
-- and how often a growth failed
pub record BoundedList (T : Type 0) : Type 0 where
  pub elements : List T
  pub limit : ℕ
  pub peak : ℕ
  pub reserved : Bool
  pub failed_growths : ℕ

-- it is stored as the tuple of its fields
abbrev pub bounded_code : {T : Type 0} → Coded T → Coded (BoundedList T)
bounded_code {T} code =
    code_by (List T × (ℕ × (ℕ × (Bool × ℕ))))
    (coded× (coded_list code) (coded× coded_ℕ (coded× coded_ℕ (coded× coded_bool coded_ℕ))))
    (λ b. (b.elements, (b.limit, (b.peak, (b.reserved, b.failed_growths)))))
    (λ p. record { elements = p.0; limit = p.1.0; peak = p.1.1.0; reserved = p.1.1.1.0; failed_growths = p.1.1.1.1 })
    (λ _. refl)

module _ {T : Type 0} where
  -- the length is within the peak, and the peak within the limit
  pub record IsWithin (b : BoundedList T) : Type 0 where
    pub below_peak : length b.elements ≤ b.peak
    pub below_limit : b.peak ≤ b.limit

  -- new has the elements xs under the same limit, its peak has risen to their number, reserved room is still there, and
  -- no growth failed
  pub record Becomes (old : BoundedList T) (xs : List T) (new : BoundedList T) : Type 0 where
    pub elements : new.elements ≡ xs
    pub limit : new.limit ≡ old.limit
    pub peak : new.peak ≡ max old.peak (length xs)
    pub room : IsTrue old.reserved → IsTrue new.reserved
    pub failed_growths : new.failed_growths ≡ old.failed_growths
    pub within : IsWithin new

  -- an empty list under this limit, with room for so many elements
  pub record IsNew (room most : ℕ) (b : BoundedList T) : Type 0 where
    pub elements : b.elements ≡ []
    pub limit : b.limit ≡ most
    pub peak : b.peak ≡ 0
    pub reserved : b.reserved ≡ nat_le most room
    pub failed_growths : b.failed_growths ≡ 0

  -- a growth failed: the count of that is one more, and nothing else has changed
  pub record FailsToGrow (old new : BoundedList T) : Type 0 where
    pub same : new ≡ record old { failed_growths = one_more_failure old.failed_growths }
    pub risen : HasRisen old.failed_growths new.failed_growths

  -- x was added, which makes xs; or it is given back: as Full exactly where the list is full, and nothing has changed;
  -- else for want of memory, where a growth failed, which never comes where there is room for the limit
  pub record Adds (old : BoundedList T) (x : T) (xs : List T) (r : Result (Unit {0}) (Refused T)) (new : BoundedList T)
      : Type 0 where
    pub ok : OnOk r (Becomes old xs new)
    pub full : IsErrOf r (Full x) ↔ (length old.elements ≡ old.limit)
    pub unchanged : IsErrOf r (Full x) → new ≡ old
    pub memory : IsErrOf r (Memory x) → FailsToGrow old new
    pub err : OnErr r (IsErrOf r (Full x) ⊎ IsErrOf r (Memory x))
    pub room : IsTrue old.reserved → length old.elements < old.limit → IsOk r

  -- there is room for the limit now, and all else stays; or that growth failed, which never comes where that room
  -- was there already
  pub record Reserves (old : BoundedList T) (r : Result (Unit {0}) NoMemory) (new : BoundedList T) : Type 0 where
    pub ok : OnOk r (new ≡ record old { reserved = true })
    pub err : OnErr r (FailsToGrow old new)
    pub room : IsTrue old.reserved → IsOk r
    pub within : IsWithin new

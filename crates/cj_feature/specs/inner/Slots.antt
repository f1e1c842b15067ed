-- What a slot of the guide's lists holds. Private clauses alone cite it.
use Rattle.std.specs.Prelude.{◌≡◌, ℕ, ◌+◌, ◌<◌}
use Rattle.cj_feature.specs.declared.feature.search.near.slot.Held.{Held}
use Rattle.cj_feature.specs.declared.feature.search.near.slot.Held.TheVariants.{Nothing, Ready, Finished}
use Rattle.cj_feature.specs.declared.feature.search.near.slot.Slot.{Slot}

-- a city object of this number, which is not finished
pub record IsReady (s : Slot) (n : ℕ) : Type 0 where
  pub packed : s.packed ≡ n
  pub above : 0 < n
  pub below : n < 2147483648

-- 0 is none, and 2^31 is added to the number of a city object that is finished
abbrev pub SlotHolds : Slot → Held → Type 0
SlotHolds s Nothing = s.packed ≡ 0
SlotHolds s (Ready n) = IsReady s n
SlotHolds s (Finished n) = s.packed ≡ n + 2147483648

use Rattle.cj_spans.proofs.Common.{◌≡◌, ◌+◌, ◌%◌, ℕ, Bool, true, false, not, ◌&&◌, ◌||◌, nat_eq, nat_lt, refl, ltb-true}
use Rattle.std.proofs.lemmas.Bool.{agree_below_at}
use Rattle.std.specs.Prelude.{IsTrue}
use Rattle.std.specs.Int.Bits.{bit_xor}
use Rattle.cj_spans.proofs.text.numbers.stands_for_itself.Goals as goal

is_right : ℕ → Bool
is_right b = not (nat_lt ((bit_xor b 92 + 255) % 256) 127) || (nat_lt b 128 && not (nat_eq b 92))

from : (x y z : Bool) → IsTrue x → not x || (y && not z) ≡ true → (y ≡ true) × (z ≡ false)
from true true false t h = (refl, refl)
from _ _ _ t h = cc

pub returns : goal.returns
unfolding is_right
returns c = λ t.
    let b = c.args.byte in
    let right : is_right b ≡ true = agree_below_at is_right (λ n. true) 256 b refl c.ranges.byte.fits in
    let s = from (nat_lt ((bit_xor b 92 + 255) % 256) 127) (nat_lt b 128) (nat_eq b 92) t right in
    (ltb-true b 128 s.0, s.1)

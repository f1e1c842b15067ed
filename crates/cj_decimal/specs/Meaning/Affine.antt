-- Affine maps of whole numbers, in units of 10^-18 (RULES, numbers).
use Rattle.std.specs.Prelude.{ℤ, ◌+ℤ◌, ◌*ℤ◌}

-- the map that takes v to v * scale + shift, both in units of 10^-18
pub record AffineMap : Type 0 where
  pub scale : ℤ
  pub shift : ℤ

-- where the map takes v, in units of 10^-18
abbrev pub image : AffineMap → ℤ → ℤ
image m v = v *ℤ m.scale +ℤ m.shift

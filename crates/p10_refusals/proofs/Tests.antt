-- Tests of which one part is known.
use Rattle.std.specs.Prelude.{◌≡◌, refl, Bool, true, false, not, ◌&&◌, ◌||◌}

pub first_true : (x y : Bool) → x ≡ true → (x || y) ≡ true
first_true true y h = refl
first_true false y h = absurd cc

pub second_true : (x y : Bool) → y ≡ true → (x || y) ≡ true
second_true true y h = refl
second_true false y h = h

pub second_false : (x y : Bool) → y ≡ false → (x && y) ≡ false
second_false true y h = h
second_false false y h = refl

pub both_true : (x y : Bool) → x ≡ true → y ≡ true → (x && y) ≡ true
both_true true true h g = refl
both_true true false h g = absurd cc
both_true false y h g = absurd cc

pub neither : (x y : Bool) → x ≡ false → y ≡ true → (x || not y) ≡ false
neither false true e f = refl
neither false false e f = absurd cc
neither true y e f = absurd cc

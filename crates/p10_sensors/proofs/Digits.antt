-- What the decimal form of a number has and lacks.
use Rattle.std.proofs.Common.{◌≡◌, ℕ, suc, ◌^◌, ◌<◌, ◌≤◌, Bool, true, false, List, [], ◌∷◌, drop, ℤ, pos, negsuc, decimal, Result, Ok, Err, sym, ap, subst, ◌∙◌, arith}
use Rattle.std.proofs.lemmas.Int.{ints}
use Rattle.std.specs.Fmt.{signed_decimal}
use Rattle.std.specs.Str.Parse.{AllDigits}
use Rattle.std.proofs.lemmas.Str.Parse.{digit_from_value}
use Rattle.std.proofs.lemmas.Fmt.{decimal_is_IsNumeral, decimal_injective}
use Rattle.p10_sensors.specs.Texts.{IsValue}

-- no byte is an LF
abbrev pub HasNoFeed : List ℕ → Type 0
HasNoFeed [] = Unit {0}
HasNoFeed (b ∷ text) = (b ≡ 10 → ⊥) × HasNoFeed text

digits_have_none : (text : List ℕ) → AllDigits 10 text → HasNoFeed text
digits_have_none [] all = tt
digits_have_none (b ∷ text) all =
    let range = digit_from_value b all.0 in
    ((λ e. omega (arith, range, e)), digits_have_none text all.1)

pub number_has_none : (n : ℕ) → n < 2 ^ 64 → HasNoFeed (decimal n)
number_has_none n small = digits_have_none (decimal n) (decimal_is_IsNumeral n small).0.1

pub value_has_none : (z : ℤ) → IsValue z → HasNoFeed (signed_decimal z)
value_has_none (pos n) is = number_has_none n (omega (arith, ints, is.greatest))
value_has_none (negsuc n) is = ((λ e. omega (arith, e)), number_has_none (suc n) (omega (arith, ints, is.least)))

-- a number doesn't begin with `-`
digits_begin : (text rest : List ℕ) → AllDigits 10 text → text ≡ 45 ∷ rest → ⊥
digits_begin text rest all e =
    let range = digit_from_value 45 (subst (AllDigits 10) e all).0 in
    omega (arith, range)

pub number_begins : (n : ℕ) (rest : List ℕ) → n < 2 ^ 64 → decimal n ≡ 45 ∷ rest → ⊥
number_begins n rest small e = digits_begin (decimal n) rest (decimal_is_IsNumeral n small).0.1 e

-- values by their signs
pub positive_value : (n : ℕ) → n < 2 ^ 64 → IsValue (pos n)
positive_value n small = record { least = omega (arith, ints); greatest = omega (arith, ints, small) }

pub negative_value : (n : ℕ) → suc n ≤ 2 ^ 63 → IsValue (negsuc n)
negative_value n small = record { least = omega (arith, ints, small); greatest = omega (arith, ints) }

pub value_small : (n : ℕ) → IsValue (pos n) → n < 2 ^ 64
value_small n is = omega (arith, ints, is.greatest)

pub value_size : (n : ℕ) → IsValue (negsuc n) → suc n ≤ 2 ^ 63
value_size n is = omega (arith, ints, is.least)

-- ---- what comes after `-`

-- the number after the sign of a value is its size
pub size_of_value : (z : ℤ) (n : ℕ) (size : List ℕ) → IsValue z → n < 2 ^ 64 → size ≡ decimal n → 45 ∷ size ≡ signed_decimal z → (1 ≤ n) × (n ≤ 2 ^ 63)
size_of_value (pos m) n size is small e whole = absurd (number_begins m size (value_small m is) (sym whole))
size_of_value (negsuc m) n size is small e whole =
    let high = value_size m is in
    let same : n ≡ suc m = decimal_injective n (suc m) small (omega (arith, high)) (sym e ∙ ap (drop 1) whole) in
    (omega (arith, same), omega (arith, same, high))

-- where no number comes after the sign, there is no value
pub no_negative : (size : List ℕ) → ((n : ℕ) → n < 2 ^ 64 → size ≡ decimal n → ⊥) → (z : ℤ) → IsValue z → 45 ∷ size ≡ signed_decimal z → ⊥
no_negative size none (pos m) is whole = number_begins m size (value_small m is) (sym whole)
no_negative size none (negsuc m) is whole = let high = value_size m is in none (suc m) (omega (arith, high)) (ap (drop 1) whole)

-- ---- what is read

abbrev pub is_read : {E : Type 0} → Result ℕ E → Bool
is_read (Ok n) = true
is_read (Err e) = false

abbrev pub number_read : {E : Type 0} → Result ℕ E → ℕ
number_read (Ok n) = n
number_read (Err e) = 0

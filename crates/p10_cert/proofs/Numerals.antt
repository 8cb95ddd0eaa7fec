-- Laws of the reader of decimal numbers: what is read is the one text of its value, and that text is read.
use Rattle.std.proofs.Common.{◌≡◌, ◌≢◌, ℕ, zero, suc, ◌+◌, ◌-◌, ◌*◌, ◌^◌, ◌<◌, ◌≤◌, Bool, true, false, cond, ◌==◌, nat_le, List, [], ◌∷◌, length, get_or, fold, decimal, bytes_eq, Some, None, refl, sym, ap, subst, ◌∙◌, arith, rules, le-leb, le_refl, eq-or-lt_of_le, ◌⊎◌, inl, inr, pow-suc}
use Rattle.std.proofs.lemmas.Bool.Decides.{nat_tests}
use Rattle.std.proofs.lemmas.Option.{cond_some}
use Rattle.std.proofs.lemmas.Slice.Eq.{bytes_eq-Decides}
use Rattle.std.proofs.lemmas.Str.Parse.{IsNumeralModel, numerals_by_fold, digits_value_short}
use Rattle.std.proofs.lemmas.Fmt.{decimal_is_IsNumeral_wide, length-decimal-le_wide, decimal-digits_value, decimal_nonempty, decimal_digit, first_decimal}
use Rattle.std.specs.Char.{is_ascii_digit}
use Rattle.std.specs.List.{list_all}
use Rattle.p10_cert.specs.private.Reading.{most_digits, value_of_digits, numeral_of, is_numeral}
use Rattle.p10_cert.specs.Lines.{greatest_size}
use Rattle.p10_cert.proofs.Steps.{if_some}

-- digits and their value, as std's lemmas need them
own_digits : IsNumeralModel (λ ds. list_all is_ascii_digit ds ≡ true) value_of_digits
own_digits = numerals_by_fold _ (search rules) (λ n ds. fold (λ value byte. 10 * value + (byte - 48)) n ds) (search rules)

pub numeral_of_takes : (digits : List ℕ) (n : ℕ) → numeral_of digits ≡ Some n → digits ≡ decimal n
unfolding numeral_of
numeral_of_takes digits n e =
    let short = if_some (nat_le (length digits) most_digits) (cond (bytes_eq (decimal (value_of_digits digits)) digits) (Some (value_of_digits digits)) None) n e in
    let same = cond_some (bytes_eq (decimal (value_of_digits digits)) digits) (value_of_digits digits) n short.1 in
    let text : decimal (value_of_digits digits) ≡ digits = (bytes_eq-Decides (decimal (value_of_digits digits)) digits).0 same.0 in
    sym text ∙ ap decimal same.1

pub numeral_of_again : (n : ℕ) → n ≤ greatest_size → (numeral_of (decimal n) ≡ Some n) × (list_all is_ascii_digit (decimal n) ≡ true)
unfolding numeral_of
numeral_of_again n small =
    let (numeral, value) = decimal_is_IsNumeral_wide n (omega arith) in
    let is : value_of_digits (decimal n) ≡ n = own_digits.same (decimal n) numeral.1 ∙ value in
    let short : length (decimal n) ≤ 21 = length-decimal-le_wide 21 n (omega arith) (omega arith) (omega arith) in
    (rw (le-leb _ _ short, is, (bytes_eq-Decides (decimal n) (decimal n)).1 refl) refl, own_digits.from (decimal n) numeral.1)

-- ---- few digits: their value fits 64 bits

power_le : (n i : ℕ) → i ≤ n → 10 ^ i ≤ 10 ^ n
power_le zero i below = let same : i ≡ zero = omega (arith, below) in subst (λ n. 10 ^ n ≤ 10 ^ zero) (sym same) (le_refl (10 ^ zero))
power_le (suc n) i below = by_case (eq-or-lt_of_le below) (λ less. power_le n i (omega (arith, less)))
  where
    by_case : ((i ≡ suc n) ⊎ (i < suc n)) → (i < suc n → 10 ^ i ≤ 10 ^ n) → 10 ^ i ≤ 10 ^ suc n
    by_case (inl same) rest = subst (λ m. 10 ^ m ≤ 10 ^ suc n) (sym same) (le_refl (10 ^ suc n))
    by_case (inr less) rest = omega (arith, rest less, pow-suc 10 n)

pub short_power : (i : ℕ) → i < 17 → 10 ^ i ≤ 10000000000000000
short_power i few = power_le 16 i (omega (arith, few))

few_value : (digits : List ℕ) → length digits ≤ 17 → list_all is_ascii_digit digits ≡ true → value_of_digits digits < 2 ^ 64
few_value digits short all = omega (arith, digits_value_short own_digits digits 17 all short)

-- digits that are the decimal form of their value
as_numeral : (digits : List ℕ) → length digits ≤ 17 → decimal (value_of_digits digits) ≡ digits → numeral_of digits ≡ Some (value_of_digits digits)
unfolding numeral_of
as_numeral digits short is =
    let few : nat_le (length digits) most_digits ≡ true = le-leb _ _ (omega arith) in
    rw (few, (bytes_eq-Decides (decimal (value_of_digits digits)) digits).1 is) refl

-- and others
no_numeral : (digits : List ℕ) → decimal (value_of_digits digits) ≢ digits → numeral_of digits ≡ None
unfolding numeral_of
no_numeral digits differ = neither (nat_le (length digits) most_digits) (bytes_eq (decimal (value_of_digits digits)) digits) refl
  where
    neither : (a b : Bool) → bytes_eq (decimal (value_of_digits digits)) digits ≡ b → cond a (cond b (Some (value_of_digits digits)) None) None ≡ None
    neither false b e = refl
    neither true false e = refl
    neither true true e = absurd (differ ((bytes_eq-Decides (decimal (value_of_digits digits)) digits).0 e))

-- a zero before other digits isn't written
padded : (n y : ℕ) (rest : List ℕ) → n < 2 ^ 64 → decimal n ≢ 48 ∷ y ∷ rest
padded zero y rest small e = absurd (omega (arith, ap length (sym (decimal_digit 0 (omega arith)) ∙ e)))
padded (suc n) y rest small e = absurd (omega (arith, first_decimal (suc n) (omega arith) small, ap (λ ds. get_or ds 0 0) e))

pub numeral_of_short : (digits : List ℕ) → length digits ≤ 17 → list_all is_ascii_digit digits ≡ true → numeral_of digits ≡ cond (is_numeral digits) (Some (value_of_digits digits)) None
numeral_of_short [] short all = no_numeral [] (λ e. absurd (omega (arith, decimal_nonempty 0 (omega arith), ap length e)))
numeral_of_short (x ∷ []) short all =
    as_numeral (x ∷ []) short (decimal-digits_value own_digits (x ∷ []) all (omega arith) (λ e. refl) (few_value (x ∷ []) short all))
numeral_of_short (x ∷ y ∷ rest) short all = by_first (x == 48) refl
  where
    more : (length (y ∷ rest) == 0) ≡ false
    more = grind (arith, nat_tests)

    by_first : (b : Bool) → (x == 48) ≡ b → numeral_of (x ∷ y ∷ rest) ≡ cond (is_numeral (x ∷ y ∷ rest)) (Some (value_of_digits (x ∷ y ∷ rest))) None
    by_first true e =
        let is : x ≡ 48 = grind (arith, nat_tests) in
        let other : decimal (value_of_digits (x ∷ y ∷ rest)) ≢ x ∷ y ∷ rest = λ same. padded (value_of_digits (x ∷ y ∷ rest)) y rest (few_value (x ∷ y ∷ rest) short all) (same ∙ ap (λ n. n ∷ y ∷ rest) is) in
        rw (more, e) (no_numeral (x ∷ y ∷ rest) other)
    by_first false e =
        let not_zero : x ≢ 48 = λ is. absurd (grind (arith, nat_tests)) in
        rw (more, e) (as_numeral (x ∷ y ∷ rest) short (decimal-digits_value own_digits (x ∷ y ∷ rest) all (omega arith) (λ is. absurd (not_zero is)) (few_value (x ∷ y ∷ rest) short all)))

-- Digits, and the values that 64 bits hold.
use Rattle.std.proofs.Common.{◌≡◌, ℕ, ◌+◌, ◌-◌, ◌*◌, ◌^◌, ◌≤◌, ◌<◌, suc, [], ◌∷◌, ◌++◌, length, length-append, take, drop, get_or, nat_eq, nat_lt, Some, None, true, false, cond, refl, sym, ◌∙◌, ap, arith}
use Rattle.std.proofs.Math.Seq.{take-append_seam, drop-cons}
use Rattle.std.proofs.Math.ListN.{drop_of_length-le}
use Rattle.std.proofs.lemmas.Bool.Decides.{nat_tests}
use Rattle.std.proofs.lemmas.Option.{cond_some, none-some}
use Rattle.p10_base.specs.Words.{Text}
use Rattle.p10_lex.specs.declared.integers.Base.{Base}
use Rattle.p10_lex.specs.declared.integers.Base.TheVariants.{Octal, Decimal, Hexadecimal}
use Rattle.p10_lex.specs.Bytes.{digit_value}
use Rattle.p10_lex.specs.Integers.{radix_of, is_digit_of, digits_of, after_digits, value_from, small_value}
use Rattle.p10_lex.specs.private.Steps.{step_of}

-- the test of an order
pub below : (a b : ℕ) → nat_lt a b ≡ true → a < b
below a b e = grind (arith, nat_tests)

-- an order by its test
pub is_below : (a b : ℕ) → a < b → nat_lt a b ≡ true
is_below a b e = grind (arith, nat_tests)

-- the test of no order
not_below : (a b : ℕ) → nat_lt a b ≡ false → b ≤ a
not_below a b e = grind (arith, nat_tests)

-- no order by its test
is_not_below : (a b : ℕ) → b ≤ a → nat_lt a b ≡ false
is_not_below a b e = grind (arith, nat_tests)

digits_joined : (base : Base) (text : Text) → digits_of base text ++ after_digits base text ≡ text
digits_joined base [] = refl
digits_joined base (byte ∷ text) =
    elim (is_digit_of base byte) as (λ t. cond t (byte ∷ digits_of base text) [] ++ cond t (after_digits base text) (byte ∷ text) ≡ byte ∷ text)
    [ true ↦ ap (λ ts. byte ∷ ts) (digits_joined base text) | false ↦ refl ]

-- the digits are what stands before the rest
pub front_digits : (base : Base) (text rest : Text) → rest ≡ after_digits base text → take (length text - length rest) text ≡ digits_of base text
front_digits base text rest e =
    let joined : digits_of base text ++ rest ≡ text = ap (λ r. digits_of base text ++ r) e ∙ digits_joined base text in
    let short : length text - length rest ≡ length (digits_of base text) = omega (arith, length-append (digits_of base text) rest, ap length joined) in
    ap (λ n. take n text) short ∙ ap (take (length (digits_of base text))) (sym joined) ∙ take-append_seam (digits_of base text) rest

-- digits only add to a value
pub value_grows : (base value : ℕ) (digits : Text) → value ≤ value_from (suc base) value digits
unfolding value_from
value_grows base value [] = omega arith
value_grows base value (c ∷ rest) =
    let h = value_grows base (value * suc base + digit_value c) rest in
    let more : value ≤ value * suc base + digit_value c = omega arith in
    omega arith

of_base_grows : (base : Base) (value : ℕ) (digits : Text) → value ≤ value_from (radix_of base) value digits
of_base_grows Octal value digits = value_grows 7 value digits
of_base_grows Decimal value digits = value_grows 9 value digits
of_base_grows Hexadecimal value digits = value_grows 15 value digits

-- the value of digits, of which there is one at least
small_is : (base : Base) (digits : Text) → nat_eq (length digits) 0 ≡ false
    → small_value base digits ≡ cond (nat_lt (value_from (radix_of base) 0 digits) (2 ^ 64)) (Some (value_from (radix_of base) 0 digits)) None
unfolding small_value
small_is base [] some = absurd cc
small_is base (byte ∷ digits) some = refl

pub value_found : (base : Base) (digits : Text) (value index : ℕ) → nat_eq (length digits) 0 ≡ false → length digits ≤ index → value < 2 ^ 64
    → value_from (radix_of base) 0 digits ≡ value_from (radix_of base) value (drop index digits) → Some value ≡ small_value base digits
unfolding value_from
value_found base digits value index some past small so_far =
    let whole : value_from (radix_of base) 0 digits ≡ value = so_far ∙ ap (value_from (radix_of base) value) (drop_of_length-le digits past) in
    let fits : nat_lt (value_from (radix_of base) 0 digits) (2 ^ 64) ≡ true = is_below _ _ (omega (arith, whole, small)) in
    sym (small_is base digits some ∙ ap (λ b. cond b (Some (value_from (radix_of base) 0 digits)) None) fits ∙ ap Some whole)

too_large : (base : Base) (value byte : ℕ) → step_of base value byte ≡ None → nat_lt (value * radix_of base + digit_value byte) (2 ^ 64) ≡ false
too_large base value byte e =
    elim (nat_lt (value * radix_of base + digit_value byte) (2 ^ 64)) as (λ b. cond b (Some (value * radix_of base + digit_value byte)) None ≡ None → b ≡ false)
    [ true ↦ λ e. absurd (none-some _ (sym e)) | false ↦ λ e. refl ] e

pub value_none : (base : Base) (digits : Text) (value index d : ℕ) → nat_eq (length digits) 0 ≡ false → index < length digits → None ≡ step_of base value (get_or digits index d)
    → value_from (radix_of base) 0 digits ≡ value_from (radix_of base) value (drop index digits) → None ≡ small_value base digits
unfolding value_from
value_none base digits value index d some inside stops so_far =
    let byte = get_or digits index d in
    let whole : value_from (radix_of base) 0 digits ≡ value_from (radix_of base) (value * radix_of base + digit_value byte) (drop (suc index) digits)
    = so_far ∙ ap (value_from (radix_of base) value) (drop-cons digits index d inside) in
    let grows = of_base_grows base (value * radix_of base + digit_value byte) (drop (suc index) digits) in
    let large = not_below _ _ (too_large base value byte (sym stops)) in
    let over : nat_lt (value_from (radix_of base) 0 digits) (2 ^ 64) ≡ false = is_not_below _ _ (omega (arith, whole, grows, large)) in
    sym (small_is base digits some ∙ ap (λ b. cond b (Some (value_from (radix_of base) 0 digits)) None) over)

-- a step keeps the value below the limit, and takes one digit
pub step_small : (base : Base) (value byte next : ℕ) → step_of base value byte ≡ Some next → next < 2 ^ 64
step_small base value byte next e = let parts = cond_some _ _ _ e in omega (arith, below _ _ parts.0, parts.1)

pub step_takes : (base : Base) (digits : Text) (value next index d : ℕ) → index < length digits → Some next ≡ step_of base value (get_or digits index d)
    → value_from (radix_of base) value (drop index digits) ≡ value_from (radix_of base) next (drop (index + 1) digits)
unfolding value_from
step_takes base digits value next index d inside e =
    let more : suc index ≡ index + 1 = omega arith in
    ap (value_from (radix_of base) value) (drop-cons digits index d inside)
    ∙ ap (λ v. value_from (radix_of base) v (drop (suc index) digits)) (cond_some _ _ _ (sym e)).1
    ∙ ap (λ n. value_from (radix_of base) next (drop n digits)) more

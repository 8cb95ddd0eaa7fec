-- The first line of a text, by the bytes before its first LF.
use Rattle.std.proofs.Common.{◌≡◌, ℕ, suc, ◌+◌, ◌≤◌, ◌==◌, Bool, true, false, cond, List, [], ◌∷◌, ◌++◌, length, take, drop, ℤ, codes, refl, sym, ap, ◌∙◌, arith, append_assoc, length-append, ◌-◌, subst, to_z, of_z, FitsSigned}
use Rattle.std.specs.Fmt.{signed_decimal}
use Rattle.std.proofs.lemmas.Bool.Decides.{nat_tests}
use Rattle.std.proofs.Math.Seq.{take-append_seam}
use Rattle.std.proofs.lemmas.Int.{ints, to_z-of_z}
use Rattle.std.specs.Int.{w128}
use Rattle.std.proofs.lemmas.List.{take_rest}
use Rattle.p10_sensors.specs.Texts.{IsValue, sensor_line, NoValueBegins}
use Rattle.p10_sensors.specs.private.Lines.{line_length}
use Rattle.p10_sensors.proofs.Digits.{HasNoFeed, value_has_none}

-- what is tested of numbers that differ
not_equal : (a b : ℕ) → (a ≡ b → ⊥) → (a == b) ≡ false
not_equal a b differ = by_test (a == b) refl
  where
    by_test : (same : Bool) → (a == b) ≡ same → (a == b) ≡ false
    by_test true e = absurd (differ (grind (arith, nat_tests)))
    by_test false e = e

-- the bytes before the first LF
pub length_of_line : (line rest : List ℕ) → HasNoFeed line → line_length (line ++ (10 ∷ rest)) ≡ length line
length_of_line [] rest none = refl
length_of_line (b ∷ line) rest none =
    let other : (b == 10) ≡ false = not_equal b 10 none.0 in
    rw other (ap suc (length_of_line line rest none.1))

pub line_before : (line rest : List ℕ) → HasNoFeed line → take (line_length (line ++ (10 ∷ rest))) (line ++ (10 ∷ rest)) ≡ line
line_before line rest none = ap (λ n. take n (line ++ (10 ∷ rest))) (length_of_line line rest none) ∙ take-append_seam line (10 ∷ rest)

-- it isn't longer than the text; where it is shorter, an LF stands after it
pub line_within : (text : List ℕ) → line_length text ≤ length text
line_within [] = omega arith
line_within (b ∷ text) = by_test (b == 10) (line_within text)
  where
    by_test : (feed : Bool) → line_length text ≤ length text → cond feed 0 (suc (line_length text)) ≤ length (b ∷ text)
    by_test true within = omega arith
    by_test false within = omega (arith, within)

pub line_and_rest : (text : List ℕ) → (line_length text ≡ length text → ⊥) → text ≡ take (line_length text) text ++ (10 ∷ drop (line_length text + 1) text)
line_and_rest [] shorter = absurd (shorter refl)
line_and_rest (b ∷ text) shorter = by_test (b == 10) refl (line_and_rest text)
  where
    by_test : (feed : Bool) → (b == 10) ≡ feed → ((line_length text ≡ length text → ⊥) → text ≡ take (line_length text) text ++ (10 ∷ drop (line_length text + 1) text))
        → b ∷ text ≡ take (line_length (b ∷ text)) (b ∷ text) ++ (10 ∷ drop (line_length (b ∷ text) + 1) (b ∷ text))
    by_test true e after = let is : b ≡ 10 = grind (arith, nat_tests) in rw e (ap (λ b. b ∷ text) is)
    by_test false e after =
        let plain : line_length (b ∷ text) ≡ suc (line_length text) = rw e refl in
        let inside : line_length text ≡ length text → ⊥ = λ same. shorter (plain ∙ ap suc same) in
        let next : suc (line_length text) + 1 ≡ suc (line_length text + 1) = omega arith in
        rw e (ap (λ t. b ∷ t) (after inside) ∙ ap (λ n. (b ∷ take (line_length text) text) ++ (10 ∷ drop n (b ∷ text))) (sym next))

-- ---- values on lines

line_text : (z : ℤ) (more : List ℕ) → sensor_line z ++ more ≡ signed_decimal z ++ (10 ∷ more)
line_text z more = append_assoc (signed_decimal z) (codes "\n") more

-- what stands on the first line of a text that begins with a value
pub first_is : (text : List ℕ) (z : ℤ) (more : List ℕ) → IsValue z → text ≡ sensor_line z ++ more → take (line_length text) text ≡ signed_decimal z
first_is text z more is e = ap (λ t. take (line_length t) t) (e ∙ line_text z more) ∙ line_before (signed_decimal z) more (value_has_none z is)

-- a text without an LF has no line
pub no_line : (text : List ℕ) → line_length text ≡ length text → NoValueBegins text
no_line text none z more is e =
    let whole : text ≡ signed_decimal z ++ (10 ∷ more) = e ∙ line_text z more in
    let short : length (signed_decimal z) ≡ length text = sym (ap line_length whole ∙ length_of_line (signed_decimal z) more (value_has_none z is)) ∙ none in
    let long : length text ≡ length (signed_decimal z) + length (10 ∷ more) = ap length whole ∙ length-append (signed_decimal z) (10 ∷ more) in
    omega (arith, short, long)

-- the first line is no value, so none begins the text
pub no_value : (text : List ℕ) → ((z : ℤ) → IsValue z → take (line_length text) text ≡ signed_decimal z → ⊥) → NoValueBegins text
no_value text none z more is e = none z is (first_is text z more is e)

-- the value of the first line and what stands after it
pub value_and_rest : (text : List ℕ) (z : ℤ) → (line_length text ≡ length text → ⊥) → take (line_length text) text ≡ signed_decimal z → text ≡ sensor_line z ++ drop (line_length text + 1) text
value_and_rest text z shorter is =
    line_and_rest text shorter ∙ ap (λ line. line ++ (10 ∷ drop (line_length text + 1) text)) is ∙ sym (line_text z (drop (line_length text + 1) text))

-- the same for the code's number, and for the place after the line
pub value_put : (text : List ℕ) (z y : ℤ) (end : ℕ) → end ≡ line_length text → (end ≡ length text → ⊥) → IsValue z → take end text ≡ signed_decimal z → y ≡ z
    → IsValue y × (text ≡ sensor_line y ++ take (length text - (end + 1)) (drop (end + 1) text))
value_put text z y end at shorter is e same =
    let whole : text ≡ sensor_line z ++ drop (line_length text + 1) text = value_and_rest text z (λ all. shorter (at ∙ all)) (ap (λ n. take n text) (sym at) ∙ e) in
    let rest : drop (line_length text + 1) text ≡ take (length text - (end + 1)) (drop (end + 1) text) = ap (λ n. drop (n + 1) text) (sym at) ∙ sym (take_rest text (end + 1)) in
    subst (λ v. IsValue v × (text ≡ sensor_line v ++ take (length text - (end + 1)) (drop (end + 1) text))) (sym same) (is, whole ∙ ap (λ t. sensor_line z ++ t) rest)

-- no value
pub no_value_put : (text : List ℕ) (end : ℕ) → end ≡ line_length text → ((z : ℤ) → IsValue z → take end text ≡ signed_decimal z → ⊥) → NoValueBegins text
no_value_put text end at none = no_value text (λ z is e. none z is (ap (λ n. take n text) at ∙ e))

-- a value fits the code's type
pub value_same : (z : ℤ) → IsValue z → to_z w128 (of_z w128 z) ≡ z
value_same z is = to_z-of_z w128 z (fits z is)
  where
    fits : (z : ℤ) → IsValue z → FitsSigned w128 z
    fits z is = omega (arith, ints, is.least, is.greatest)

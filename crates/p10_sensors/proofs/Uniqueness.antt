-- A text has one answer.
use Rattle.std.proofs.Common.{◌≡◌, ◌≢◌, ℕ, suc, ◌+◌, List, [], ◌∷◌, ◌++◌, length, drop, ℤ, pos, negsuc, codes, decimal, refl, sym, ap, ◌∙◌, arith, append_assoc, length-append}
use Rattle.std.specs.Fmt.{signed_decimal}
use Rattle.std.proofs.Math.Seq.{drop-append_seam}
use Rattle.std.proofs.lemmas.Fmt.{decimal_injective}
use Rattle.p10_sensors.specs.Texts.{IsValue, AreValues, sensor_line, values_text, IsTextOf, IsFirstOther, NoValueBegins}
use Rattle.p10_sensors.proofs.Digits.{value_small, value_size, number_begins}
use Rattle.p10_sensors.proofs.FirstLines.{first_is}

-- a value has one decimal form
same_value : (y z : ℤ) → IsValue y → IsValue z → signed_decimal y ≡ signed_decimal z → y ≡ z
same_value (pos m) (pos n) left right e = ap pos (decimal_injective m n (value_small m left) (value_small n right) e)
same_value (pos m) (negsuc n) left right e = absurd (number_begins m (decimal (suc n)) (value_small m left) e)
same_value (negsuc m) (pos n) left right e = absurd (number_begins n (decimal (suc m)) (value_small n right) (sym e))
same_value (negsuc m) (negsuc n) left right e =
    let low = value_size m left in
    let high = value_size n right in
    let same : suc m ≡ suc n = decimal_injective (suc m) (suc n) (omega (arith, low)) (omega (arith, high)) (ap (drop 1) e) in
    ap negsuc (omega (arith, same))

-- the first value of a text, and what stands after its line
same_first : (y z : ℤ) (s t : List ℕ) → IsValue y → IsValue z → sensor_line y ++ s ≡ sensor_line z ++ t → y ≡ z
same_first y z s t left right e = same_value y z left right (sym (first_is (sensor_line y ++ s) y s left refl) ∙ first_is (sensor_line y ++ s) z t right e)

same_rest : (y z : ℤ) (s t : List ℕ) → IsValue y → IsValue z → sensor_line y ++ s ≡ sensor_line z ++ t → s ≡ t
same_rest y z s t left right e =
    sym (drop-append_seam (sensor_line y) s)
    ∙ ap (drop (length (sensor_line y))) (e ∙ ap (λ v. sensor_line v ++ t) (sym (same_first y z s t left right e)))
    ∙ drop-append_seam (sensor_line y) t

line_some : (z : ℤ) (t : List ℕ) → [] ≡ sensor_line z ++ t → ⊥
line_some z t e =
    let long = ap length e in
    let parts = length-append (sensor_line z) t in
    let line = length-append (signed_decimal z) (codes "\n") in
    omega (arith, long, parts, line)

text_first : (y : ℤ) (values : List ℤ) (rest : List ℕ) → values_text (y ∷ values) ++ rest ≡ sensor_line y ++ (values_text values ++ rest)
text_first y values rest = append_assoc (sensor_line y) (values_text values) rest

-- ---- texts of values

pub same_values : (some others : List ℤ) → AreValues some → AreValues others → values_text some ≡ values_text others → some ≡ others
same_values [] [] left right e = refl
same_values [] (z ∷ others) left right e = absurd (line_some z (values_text others) e)
same_values (y ∷ some) [] left right e = absurd (line_some y (values_text some) (sym e))
same_values (y ∷ some) (z ∷ others) left right e =
    let first : y ≡ z = same_first y z (values_text some) (values_text others) left.0 right.0 e in
    let rest : some ≡ others = same_values some others left.1 right.1 (same_rest y z (values_text some) (values_text others) left.0 right.0 e) in
    ap (λ v. v ∷ some) first ∙ ap (λ vs. z ∷ vs) rest

pub texts_tell_values : (text : List ℕ) (some others : List ℤ) → IsTextOf text some → IsTextOf text others → some ≡ others
texts_tell_values text some others left right = same_values some others left.good right.good (sym left.exact ∙ right.exact)

-- ---- other lines

-- values before a part that no value begins are all values of a text
pub same_count : (some others : List ℤ) (s t : List ℕ) → AreValues some → AreValues others → NoValueBegins s → NoValueBegins t → values_text some ++ s ≡ values_text others ++ t → length some ≡ length others
same_count [] [] s t left right first second e = refl
same_count [] (z ∷ others) s t left right first second e = absurd (first z (values_text others ++ t) right.0 (e ∙ text_first z others t))
same_count (y ∷ some) [] s t left right first second e = absurd (second y (values_text some ++ s) left.0 (sym e ∙ text_first y some s))
same_count (y ∷ some) (z ∷ others) s t left right first second e =
    let lines : sensor_line y ++ (values_text some ++ s) ≡ sensor_line z ++ (values_text others ++ t) = sym (text_first y some s) ∙ e ∙ text_first z others t in
    let rest : length some ≡ length others = same_count some others s t left.1 right.1 first second (same_rest y z (values_text some ++ s) (values_text others ++ t) left.0 right.0 lines) in
    omega (arith, rest)

pub one_first_other : (text : List ℕ) (line other : ℕ) → IsFirstOther text line → IsFirstOther text other → line ≡ other
one_first_other text line other left right =
    let same = same_count left.before right.before left.rest right.rest left.good right.good left.other right.other (sym left.parts ∙ right.parts) in
    left.number ∙ ap (λ n. n + 1) same ∙ sym right.number

-- no text of values has another line
values_only : (some others : List ℤ) (s : List ℕ) → AreValues some → AreValues others → NoValueBegins s → s ≢ [] → values_text some ++ s ≡ values_text others → ⊥
values_only [] [] s left right none more e = more e
values_only [] (z ∷ others) s left right none more e = none z (values_text others) right.0 e
values_only (y ∷ some) [] s left right none more e = line_some y (values_text some ++ s) (sym e ∙ text_first y some s)
values_only (y ∷ some) (z ∷ others) s left right none more e =
    values_only some others s left.1 right.1 none more (same_rest y z (values_text some ++ s) (values_text others) left.0 right.0 (sym (text_first y some s) ∙ e))

pub other_is_no_text : (text : List ℕ) (line : ℕ) (values : List ℤ) → IsFirstOther text line → IsTextOf text values → ⊥
other_is_no_text text line values other is = values_only other.before values other.rest other.good is.good other.other other.some (sym other.parts ∙ is.exact)

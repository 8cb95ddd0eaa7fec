-- The nesting of parentheses round a number.
use Rattle.std.proofs.Common.{◌≡◌, ℕ, suc, zero, ◌+◌, false, List, [], ◌∷◌, length, ◌∙◌, ap, arith, add-one}
use Rattle.std.specs.Prelude.{max, codes}
use Rattle.p10_base.specs.Words.{PlainWord}
use Rattle.p10_nesting.specs.Nesting.{Row, words_in_rows, nestings, greatest, nesting_of}
use Rattle.p10_nesting.specs.Rows.{mark, parenthesised, returning, name, semicolon, close_brace}

abbrev close : PlainWord
close = mark (codes ")")

-- the level of the innermost `)` is closed after the number, whatever is in its row
parentheses : (n : ℕ) (row next : Row) (around : List Row) (rest : List PlainWord) →
    greatest (nestings (record { row = row; around = next ∷ around }) false (parenthesised n (close ∷ rest)))
    ≡ max (length row + words_in_rows (next ∷ around) + n + 1) (max (words_in_rows (next ∷ around)) (greatest (nestings (record { row = next; around = around }) false rest)))
parentheses zero row next around rest = omega arith
parentheses (suc n) row next around rest = omega (arith, parentheses n [] (mark (codes "(") ∷ row) (next ∷ around) (close ∷ rest))

-- the rows at the number: `int main ( {` around, and `return` within
pub returning_nests : (n : ℕ) → nesting_of (returning (n + 1)) ≡ n + 7
returning_nests n =
    ap (λ m. nesting_of (returning m)) (add-one n)
    ∙ omega (arith, parentheses n [] (mark (codes "(") ∷ (name (codes "return") ∷ [])) ((mark (codes "{") ∷ (mark (codes "(") ∷ (name (codes "main") ∷ (name (codes "int") ∷ [])))) ∷ []) (semicolon ∷ (close_brace ∷ [])))

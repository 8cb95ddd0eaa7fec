-- Runs of words through roots.
use Rattle.std.proofs.Common.{◌≡◌, ℕ, zero, suc, ◌+◌, ◌-◌, ◌≤◌, List, [], ◌∷◌, ◌++◌, length, take, drop, codes, inl, inr, refl, sym, ap, ◌∙◌, arith, append_assoc}
use Rattle.std.proofs.lemmas.Bool.{cases_lt}
use Rattle.std.proofs.lemmas.List.{take_all, drop_all}
use Rattle.p10_base.specs.declared.at.At.{At}
use Rattle.p10_base.specs.Words.{PlainWord}
use Rattle.p10_digests.specs.Lines.{word_line, hashed_lines, all_words, roots_outside, lines_outside}

-- ---- the lines of runs

lines_append : (xs ys : List PlainWord) → hashed_lines (xs ++ ys) ≡ hashed_lines xs ++ hashed_lines ys
lines_append [] ys = refl
lines_append (x ∷ xs) ys = ap (λ t. word_line x ++ t) (lines_append xs ys) ∙ sym (append_assoc (word_line x) (hashed_lines xs) (hashed_lines ys))

-- a run of words that goes on in the next root
take_on : (n : ℕ) (xs ys : List PlainWord) → take n (xs ++ ys) ≡ take n xs ++ take (n - length xs) ys
take_on zero [] ys = refl
take_on zero (x ∷ xs) ys = let none : 0 ≡ 0 - length (x ∷ xs) = omega arith in ap (λ n. take n ys) none
take_on (suc n) [] ys = let all : suc n ≡ suc n - 0 = omega arith in ap (λ n. take n ys) all
take_on (suc n) (x ∷ xs) ys = let same : n - length xs ≡ suc n - length (x ∷ xs) = omega arith in ap (λ t. x ∷ t) (take_on n xs ys ∙ ap (λ k. take n xs ++ take k ys) same)

drop_on : (n : ℕ) (xs ys : List PlainWord) → drop n (xs ++ ys) ≡ drop n xs ++ drop (n - length xs) ys
drop_on zero [] ys = refl
drop_on zero (x ∷ xs) ys = let none : 0 ≡ 0 - length (x ∷ xs) = omega arith in ap (λ n. x ∷ (xs ++ drop n ys)) none
drop_on (suc n) [] ys = let all : suc n ≡ suc n - 0 = omega arith in ap (λ n. drop n ys) all
drop_on (suc n) (x ∷ xs) ys = let same : n - length xs ≡ suc n - length (x ∷ xs) = omega arith in drop_on n xs ys ∙ ap (λ k. drop n xs ++ drop k ys) same

-- so many words after so many, in the first root and in the others
pub run_on : (skip left : ℕ) (xs ys : List PlainWord) → take left (drop skip (xs ++ ys)) ≡ take left (drop skip xs) ++ take (left - length (drop skip xs)) (drop (skip - length xs) ys)
run_on skip left xs ys = ap (take left) (drop_on skip xs ys) ∙ take_on left (drop skip xs) (drop (skip - length xs) ys)

pub lines_on : (skip left : ℕ) (xs : List PlainWord) (roots : List (List PlainWord)) →
    hashed_lines (take left (drop skip (all_words (xs ∷ roots)))) ≡ hashed_lines (take left (drop skip xs)) ++ hashed_lines (take (left - length (drop skip xs)) (drop (skip - length xs) (all_words roots)))
lines_on skip left xs roots = ap hashed_lines (run_on skip left xs (all_words roots)) ∙ lines_append (take left (drop skip xs)) _

-- a place that is skipped to, where no root has so many words
pub skip_on : (skip first : ℕ) (xs : List PlainWord) → (skip ≤ length xs → first ≡ skip) → (length xs ≤ skip → first ≡ length xs) → drop first xs ≡ drop skip xs
skip_on skip first xs low high = elim (cases_lt skip (length xs)) [
  | inl below ↦ ap (λ n. drop n xs) (low (omega (arith, below)))
  | inr above ↦ ap (λ n. drop n xs) (high (omega (arith, above))) ∙ drop_all (length xs) xs (omega arith) ∙ sym (drop_all skip xs (omega (arith, above)))
]

-- words that are taken, where there aren't so many
pub take_of : (left count : ℕ) (ys : List PlainWord) → (left ≤ length ys → count ≡ left) → (length ys ≤ left → count ≡ length ys) → take count ys ≡ take left ys
take_of left count ys low high = elim (cases_lt left (length ys)) [
  | inl below ↦ ap (λ n. take n ys) (low (omega (arith, below)))
  | inr above ↦ take_all count ys (omega (arith, high (omega (arith, above)))) ∙ sym (take_all left ys (omega (arith, above)))
]

-- ---- the words outside bodies, root by root

pub roots_more : (bodies : List At) (n : ℕ) (words : List PlainWord) (roots : List (List PlainWord)) → roots_outside bodies n (words ∷ roots) ≡ codes "@@\n" ++ (lines_outside bodies n words ++ roots_outside bodies (n + length words) roots)
unfolding roots_outside
roots_more bodies n words roots = refl

pub roots_none : (bodies : List At) (n : ℕ) → roots_outside bodies n [] ≡ []
unfolding roots_outside
roots_none bodies n = refl

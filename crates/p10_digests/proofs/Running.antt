-- One root or one word more was put after a text.
use Rattle.std.proofs.Common.{◌≡◌, ℕ, ◌+◌, ◌-◌, ◌≤◌, List, [], ◌∷◌, ◌++◌, length, take, drop, codes, inl, inr, sym, ap, ◌∙◌, arith, append_assoc, append-nil}
use Rattle.std.proofs.lemmas.Bool.{cases_lt}
use Rattle.std.proofs.lemmas.List.{take_all, drop_all}
use Rattle.p10_base.specs.declared.at.At.{At}
use Rattle.p10_base.specs.Words.{PlainWord}
use Rattle.p10_digests.specs.Lines.{hashed_lines, all_words, bodies_from, line_before, lines_outside, roots_outside}
use Rattle.p10_digests.proofs.OutsideLines.{from_later, outside_line}
use Rattle.p10_digests.proofs.Roots.{lines_on, skip_on, take_of, roots_more}

-- a part that is put, and then what is left
part_put : (old new part rest left whole : List ℕ) → old ++ rest ≡ whole → new ≡ old ++ part → rest ≡ part ++ left → new ++ left ≡ whole
part_put old new part rest left whole before put parts =
    ap (λ t. t ++ left) put ∙ append_assoc old part left ∙ ap (λ t. old ++ t) (sym parts) ∙ before

-- the words of a tree: of one root some are skipped and some put
pub one_root : (old new : List ℕ) (skip left first count : ℕ) (xs part : List PlainWord) (roots : List (List PlainWord)) (whole : List ℕ)
    → old ++ hashed_lines (take left (drop skip (all_words (xs ∷ roots)))) ≡ whole → new ≡ old ++ hashed_lines part → part ≡ take count (drop first xs)
    → (skip ≤ length xs → first ≡ skip) → (length xs ≤ skip → first ≡ length xs) → (left ≤ length xs - first → count ≡ left) → (length xs - first ≤ left → count ≡ length xs - first)
    → length (drop first xs) ≡ length xs - first
    → new ++ hashed_lines (take (left - count) (drop (skip - first) (all_words roots))) ≡ whole
one_root old new skip left first count xs part roots whole before put part_is low high few many size =
    let skipped : drop first xs ≡ drop skip xs = skip_on skip first xs low high in
    let taken : take count (drop first xs) ≡ take left (drop first xs) = take_of left count (drop first xs) (λ h. few (omega (arith, h, size))) (λ h. many (omega (arith, h, size)) ∙ sym size) in
    let here : part ≡ take left (drop skip xs) = part_is ∙ taken ∙ ap (take left) skipped in
    part_put old new (hashed_lines part) (hashed_lines (take left (drop skip (all_words (xs ∷ roots))))) (hashed_lines (take (left - count) (drop (skip - first) (all_words roots)))) whole before put (
    lines_on skip left xs roots ∙ ap (λ t. t ++ hashed_lines (take (left - length (drop skip xs)) (drop (skip - length xs) (all_words roots)))) (ap hashed_lines (sym here))
    ∙ ap (λ n. hashed_lines part ++ hashed_lines (take n (drop (skip - length xs) (all_words roots)))) (left_is (ap length (sym skipped) ∙ size))
    ∙ ap (λ n. hashed_lines part ++ hashed_lines (take (left - count) (drop n (all_words roots)))) skip_is)
  where
    left_is : length (drop skip xs) ≡ length xs - first → left - length (drop skip xs) ≡ left - count
    left_is long = elim (cases_lt left (length xs - first)) [
      | inl below ↦ let same = few (omega (arith, below)) in omega (arith, same, long, below)
      | inr above ↦ let same = many (omega (arith, above)) in omega (arith, same, long)
    ]

    skip_is : skip - length xs ≡ skip - first
    skip_is = elim (cases_lt skip (length xs)) [
      | inl below ↦ let same = low (omega (arith, below)) in omega (arith, same, below)
      | inr above ↦ let same = high (omega (arith, above)) in omega (arith, same)
    ]

-- the lines outside bodies: one root more
pub one_root_outside : (old middle new : List ℕ) (bodies : List At) (number next : ℕ) (words : List PlainWord) (roots : List (List PlainWord)) (whole : List ℕ)
    → old ++ roots_outside bodies number (words ∷ roots) ≡ whole → middle ≡ old ++ codes "@@\n" → new ≡ middle ++ lines_outside bodies number words → next ≡ number + length words
    → new ++ roots_outside bodies next roots ≡ whole
one_root_outside old middle new bodies number next words roots whole before first put after =
    part_put old new (codes "@@\n" ++ lines_outside bodies number words) (roots_outside bodies number (words ∷ roots)) (roots_outside bodies next roots) whole before
    (put ∙ ap (λ t. t ++ lines_outside bodies number words) first ∙ append_assoc old (codes "@@\n") (lines_outside bodies number words))
    (roots_more bodies number words roots ∙ ap (λ n. codes "@@\n" ++ (lines_outside bodies number words ++ roots_outside bodies n roots)) (sym after)
    ∙ sym (append_assoc (codes "@@\n") (lines_outside bodies number words) (roots_outside bodies next roots)))

-- one word more
pub one_word : (old new : List ℕ) (bodies : List At) (place next number : ℕ) (w : PlainWord) (words : List PlainWord) (whole : List ℕ)
    → old ++ lines_outside bodies number (w ∷ words) ≡ whole → drop next bodies ≡ bodies_from number (drop place bodies) → ((n : ℕ) → number ≤ n → bodies_from n (drop place bodies) ≡ bodies_from n bodies)
    → new ≡ old ++ line_before number w (drop next bodies)
    → new ++ lines_outside bodies (number + 1) words ≡ whole
one_word old new bodies place next number w words whole before advanced ahead put =
    let these : drop next bodies ≡ bodies_from number bodies = advanced ∙ ahead number (omega arith) in
    part_put old new (line_before number w (drop next bodies)) (lines_outside bodies number (w ∷ words)) (lines_outside bodies (number + 1) words) whole before put
    (outside_line bodies number w words ∙ ap (λ bs. line_before number w bs ++ lines_outside bodies (number + 1) words) (sym these))

-- the bodies that aren't over are those from a place on
pub ahead_on : (bodies : List At) (place next number : ℕ) → drop next bodies ≡ bodies_from number (drop place bodies) → ((n : ℕ) → number ≤ n → bodies_from n (drop place bodies) ≡ bodies_from n bodies)
    → (n : ℕ) → number + 1 ≤ n → bodies_from n (drop next bodies) ≡ bodies_from n bodies
ahead_on bodies place next number advanced ahead n later =
    ap (bodies_from n) advanced ∙ from_later number n (drop place bodies) (omega (arith, later)) ∙ ahead n (omega (arith, later))

-- of no words nothing is taken
pub none_taken : (skip left : ℕ) (words : List PlainWord) → words ≡ [] → hashed_lines (take left (drop skip words)) ≡ []
none_taken skip left words none =
    ap (λ ws. hashed_lines (take left (drop skip ws))) none ∙ ap (λ ws. hashed_lines (take left ws)) (drop_all skip [] (omega arith)) ∙ ap hashed_lines (take_all left [] (omega arith))

-- what is left is nothing
pub nothing_left : (old left whole : List ℕ) → left ≡ [] → old ++ left ≡ whole → old ≡ whole
nothing_left old left whole none before = sym (append-nil old) ∙ ap (λ t. old ++ t) (sym none) ∙ before

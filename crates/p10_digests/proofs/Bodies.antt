-- Where bodies stand apart in a root, each is one line.
use Rattle.std.proofs.Common.{◌≡◌, ℕ, ◌+◌, ◌<◌, ◌≤◌, ◌==◌, true, false, nat_lt, List, [], ◌∷◌, ◌++◌, map, length, codes, refl, sym, ap, subst, ◌∙◌, arith, append_assoc, length-append}
use Rattle.std.specs.List.{flat_map}
use Rattle.std.proofs.lemmas.Bool.Decides.{nat_tests}
use Rattle.p10_base.specs.declared.at.At.{At}
use Rattle.p10_base.specs.Words.{PlainWord}
use Rattle.p10_digests.specs.Lines.{word_line, hashed_lines, bodies_from, line_about, line_before, lines_outside, roots_outside}
use Rattle.p10_digests.specs.Parted.{Stretch, PartedRoot, stretch_words, root_words, stretch_bodies, root_bodies, StandFrom, RootsStandFrom, stretch_lines, root_lines}
use Rattle.p10_digests.proofs.Roots.{roots_more, roots_none}
use Rattle.p10_digests.proofs.OutsideLines.{first_over, first_stays, outside_line, outside_none}

-- ---- one word

before_first : (first n : ℕ) (w : PlainWord) → n < first → line_about first n w ≡ word_line w
before_first first n w low = let test : nat_lt n first ≡ true = grind (arith, nat_tests) in rw test refl

at_first : (first n : ℕ) (w : PlainWord) → n ≡ first → line_about first n w ≡ codes "@\n"
at_first first n w same =
    let low : nat_lt n first ≡ false = grind (arith, nat_tests) in
    let here : (n == first) ≡ true = grind (arith, nat_tests) in
    rw (low, here) refl

after_first : (first n : ℕ) (w : PlainWord) → first < n → line_about first n w ≡ []
after_first first n w high =
    let low : nat_lt n first ≡ false = grind (arith, nat_tests) in
    let here : (n == first) ≡ false = grind (arith, nat_tests) in
    rw (low, here) refl

-- the line of a word where a body isn't over
open_line : (b : At) (bodies : List At) (n : ℕ) (w : PlainWord) (words : List PlainWord) → n < b.past → lines_outside (b ∷ bodies) n (w ∷ words) ≡ line_about b.first n w ++ lines_outside (b ∷ bodies) (n + 1) words
open_line b bodies n w words before =
    outside_line (b ∷ bodies) n w words
    ∙ ap (λ bs. line_before n w bs ++ lines_outside (b ∷ bodies) (n + 1) words) (first_stays n b bodies (λ past. omega (arith, past, before)))

-- ---- runs of words

-- no body is left
none_left : (n : ℕ) (words : List PlainWord) → lines_outside [] n words ≡ hashed_lines words
none_left n [] = outside_none [] n
none_left n (w ∷ words) = outside_line [] n w words ∙ ap (λ t. word_line w ++ t) (none_left (n + 1) words)

-- a body is over
one_over : (b : At) (bodies : List At) (n : ℕ) (words : List PlainWord) → b.past ≤ n → lines_outside (b ∷ bodies) n words ≡ lines_outside bodies n words
one_over b bodies n [] past = outside_none (b ∷ bodies) n ∙ sym (outside_none bodies n)
one_over b bodies n (w ∷ words) past =
    outside_line (b ∷ bodies) n w words
    ∙ ap (λ bs. line_before n w bs ++ lines_outside (b ∷ bodies) (n + 1) words) (first_over n (b ∷ bodies) bodies b refl past)
    ∙ ap (λ t. line_before n w (bodies_from n bodies) ++ t) (one_over b bodies (n + 1) words (omega (arith, past)))
    ∙ sym (outside_line bodies n w words)

-- words before a body
all_before : (b : At) (bodies : List At) (n m : ℕ) (xs words : List PlainWord) → m ≡ n + length xs → m ≤ b.first → b.first < b.past
    → lines_outside (b ∷ bodies) n (xs ++ words) ≡ hashed_lines xs ++ lines_outside (b ∷ bodies) m words
all_before b bodies n m [] words end within some = let same : n ≡ m = omega (arith, end) in ap (λ n. lines_outside (b ∷ bodies) n words) same
all_before b bodies n m (x ∷ xs) words end within some =
    open_line b bodies n x (xs ++ words) (omega (arith, end, within, some))
    ∙ ap (λ t. t ++ lines_outside (b ∷ bodies) (n + 1) (xs ++ words)) (before_first b.first n x (omega (arith, end, within)))
    ∙ ap (λ t. word_line x ++ t) (all_before b bodies (n + 1) m xs words (omega (arith, end)) within some)
    ∙ sym (append_assoc (word_line x) (hashed_lines xs) (lines_outside (b ∷ bodies) m words))

-- words inside a body
all_inside : (b : At) (bodies : List At) (n m : ℕ) (xs words : List PlainWord) → m ≡ n + length xs → m ≤ b.past → b.first < n
    → lines_outside (b ∷ bodies) n (xs ++ words) ≡ lines_outside (b ∷ bodies) m words
all_inside b bodies n m [] words end within after = let same : n ≡ m = omega (arith, end) in ap (λ n. lines_outside (b ∷ bodies) n words) same
all_inside b bodies n m (x ∷ xs) words end within after =
    open_line b bodies n x (xs ++ words) (omega (arith, end, within))
    ∙ ap (λ t. t ++ lines_outside (b ∷ bodies) (n + 1) (xs ++ words)) (after_first b.first n x after)
    ∙ all_inside b bodies (n + 1) m xs words (omega (arith, end)) within (omega (arith, after))

-- a whole body
one_body : (b : At) (bodies : List At) (body words : List PlainWord) → 0 < length body → b.past ≡ b.first + length body
    → lines_outside (b ∷ bodies) b.first (body ++ words) ≡ codes "@\n" ++ lines_outside bodies b.past words
one_body b bodies [] words some end = absurd (omega (arith, some))
one_body b bodies (x ∷ xs) words some end =
    open_line b bodies b.first x (xs ++ words) (omega (arith, end))
    ∙ ap (λ t. t ++ lines_outside (b ∷ bodies) (b.first + 1) (xs ++ words)) (at_first b.first b.first x refl)
    ∙ ap (λ t. codes "@\n" ++ t) (all_inside b bodies (b.first + 1) b.past xs words (omega (arith, end)) (omega arith) (omega arith) ∙ one_over b bodies b.past words (omega arith))

-- ---- a root

-- no body begins before the word of this number
abbrev NoneBefore : ℕ → List At → Type 0
NoneBefore number [] = Unit {0}
NoneBefore number (b ∷ bodies) = (number ≤ b.first) × (b.first < b.past)

-- words before all bodies
before_others : (bodies : List At) (n : ℕ) (words : List PlainWord) → NoneBefore (n + length words) bodies → lines_outside bodies n words ≡ hashed_lines words
before_others [] n words none = none_left n words
before_others (b ∷ bodies) n [] none = outside_none (b ∷ bodies) n
before_others (b ∷ bodies) n (w ∷ words) none =
    let (begins, some) = none in
    open_line b bodies n w words (omega (arith, begins, some))
    ∙ ap (λ t. t ++ lines_outside (b ∷ bodies) (n + 1) words) (before_first b.first n w (omega (arith, begins)))
    ∙ ap (λ t. word_line w ++ t) (before_others (b ∷ bodies) (n + 1) words (omega (arith, begins), some))

-- how many words stretches have
stretch_length : (s : Stretch) (stretches : List Stretch) → length (stretch_words (s ∷ stretches)) ≡ length s.before + (length s.body + length (stretch_words stretches))
stretch_length s stretches = length-append s.before (s.body ++ stretch_words stretches) ∙ ap (λ n. length s.before + n) (length-append s.body (stretch_words stretches))

-- a root parted at its bodies, before those of other roots
pub root_parted : (others : List At) (number : ℕ) (stretches : List Stretch) (after : List PlainWord) → StandFrom number stretches → NoneBefore (number + length (stretch_words stretches ++ after)) others
    → lines_outside (stretch_bodies stretches ++ others) number (stretch_words stretches ++ after) ≡ stretch_lines stretches ++ hashed_lines after
root_parted others number [] after stand none = before_others others number after none
root_parted others number (s ∷ stretches) after stand none =
    let (some, begin, end, next) = stand in
    let bodies : List At = stretch_bodies stretches ++ others in
    let more : List PlainWord = stretch_words stretches ++ after in
    let words : (s.before ++ (s.body ++ stretch_words stretches)) ++ after ≡ s.before ++ (s.body ++ more) =
    append_assoc s.before (s.body ++ stretch_words stretches) after ∙ ap (λ ws. s.before ++ ws) (append_assoc s.body (stretch_words stretches) after) in
    let long : length ((s.before ++ (s.body ++ stretch_words stretches)) ++ after) ≡ length s.before + (length s.body + length more) =
    ap length words ∙ length-append s.before (s.body ++ more) ∙ ap (λ n. length s.before + n) (length-append s.body more) in
    let last : number + length ((s.before ++ (s.body ++ stretch_words stretches)) ++ after) ≡ s.at.past + length more = omega (arith, begin, end, long) in
    ap (lines_outside (s.at ∷ bodies) number) words
    ∙ all_before s.at bodies number s.at.first s.before (s.body ++ more) begin (omega arith) (omega (arith, some, end))
    ∙ ap (λ t. hashed_lines s.before ++ t) (one_body s.at bodies s.body more some end ∙ ap (λ t. codes "@\n" ++ t) (root_parted others s.at.past stretches after next (subst (λ n. NoneBefore n others) last none)) ∙ sym (append_assoc (codes "@\n") (stretch_lines stretches) (hashed_lines after)))
    ∙ sym (append_assoc (hashed_lines s.before) (codes "@\n" ++ stretch_lines stretches) (hashed_lines after))

-- ---- one root after another

-- a body that is over before a root
over_before : (b : At) (bodies : List At) (n : ℕ) (roots : List (List PlainWord)) → b.past ≤ n → roots_outside (b ∷ bodies) n roots ≡ roots_outside bodies n roots
over_before b bodies n [] past = roots_none (b ∷ bodies) n ∙ sym (roots_none bodies n)
over_before b bodies n (words ∷ roots) past =
    roots_more (b ∷ bodies) n words roots
    ∙ ap (λ t. codes "@@\n" ++ (t ++ roots_outside (b ∷ bodies) (n + length words) roots)) (one_over b bodies n words past)
    ∙ ap (λ t. codes "@@\n" ++ (lines_outside bodies n words ++ t)) (over_before b bodies (n + length words) roots (omega (arith, past)))
    ∙ sym (roots_more bodies n words roots)

-- the bodies of a root are over after it
all_over : (others : List At) (first n : ℕ) (stretches : List Stretch) (roots : List (List PlainWord)) → StandFrom first stretches → first + length (stretch_words stretches) ≤ n
    → roots_outside (stretch_bodies stretches ++ others) n roots ≡ roots_outside others n roots
all_over others first n [] roots stand within = refl
all_over others first n (s ∷ stretches) roots stand within =
    let (some, begin, end, next) = stand in
    let long = stretch_length s stretches in
    over_before s.at (stretch_bodies stretches ++ others) n roots (omega (arith, begin, end, long, within))
    ∙ all_over others s.at.past n stretches roots next (omega (arith, begin, end, long, within))

-- no body of roots begins before these
none_before : (n m : ℕ) (roots : List PartedRoot) → RootsStandFrom m roots → n ≤ m → NoneBefore n (root_bodies roots)
none_before n m [] stand within = tt
none_before n m (root ∷ roots) stand within =
    by_stretches root.stretches stand.0 (none_before n (m + length (root_words root)) roots stand.1 (omega (arith, within)))
  where
    by_stretches : (stretches : List Stretch) → StandFrom m stretches → NoneBefore n (root_bodies roots) → NoneBefore n (stretch_bodies stretches ++ root_bodies roots)
    by_stretches [] stand none = none
    by_stretches (s ∷ stretches) stand none = let (some, begin, end, next) = stand in (omega (arith, begin, within), omega (arith, some, end))

roots_from : (number : ℕ) (roots : List PartedRoot) → RootsStandFrom number roots → roots_outside (root_bodies roots) number (map root_words roots) ≡ flat_map root_lines roots
roots_from number [] stand = roots_none [] number
roots_from number (root ∷ roots) stand =
    let (here, next) = stand in
    let bodies : List At = stretch_bodies root.stretches ++ root_bodies roots in
    let past : ℕ = number + length (root_words root) in
    let long = length-append (stretch_words root.stretches) root.after in
    roots_more bodies number (root_words root) (map root_words roots)
    ∙ ap (λ t. codes "@@\n" ++ (t ++ roots_outside bodies past (map root_words roots))) (root_parted (root_bodies roots) number root.stretches root.after here (none_before past past roots next (omega arith)))
    ∙ ap (λ t. codes "@@\n" ++ ((stretch_lines root.stretches ++ hashed_lines root.after) ++ t)) (all_over (root_bodies roots) number past root.stretches (map root_words roots) here (omega (arith, long)) ∙ roots_from past roots next)
    ∙ sym (append_assoc (codes "@@\n") (stretch_lines root.stretches ++ hashed_lines root.after) (flat_map root_lines roots))

pub bodies_are_lines : (roots : List PartedRoot) → RootsStandFrom 0 roots → roots_outside (root_bodies roots) 0 (map root_words roots) ≡ flat_map root_lines roots
bodies_are_lines roots stand = roots_from 0 roots stand

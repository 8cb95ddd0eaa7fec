-- Roots are cut one after the other.
use Rattle.std.specs.Prelude.{◌≡◌, ℕ, zero, suc, ◌+◌, ◌-◌, ◌≤◌, ◌<◌, Bool, true, false, if◌then◌else◌, List, [], ◌∷◌, length, map, take, drop, refl}
use Rattle.std.proofs.Common.{◌∙◌, ap, sym, arith, add-one, length-drop}
use Rattle.std.proofs.Math.Seq.{take-length}
use Rattle.std.proofs.lemmas.List.{take-map, drop-map, drop-drop}
use Rattle.p10_base.specs.declared.at.At.{At}
use Rattle.p10_syn.specs.declared.statement.Unit.{Unit as Whole}
use Rattle.p10_syn.specs.Trees.{External}
use Rattle.p10_syn.specs.BuiltStatements.{external_of}
use Rattle.p10_heads.specs.Roots.{begins_root, with_first, roots_of}
use Rattle.p10_heads.specs.private.Cut.{inside_length, root_length, split_root}

dropped_none : {A : Type 0} (xs : List A) → drop zero xs ≡ xs
dropped_none [] = refl
dropped_none (x ∷ xs) = refl

-- the first root, and those after it
abbrev first_root : External At → ℕ → List (External At) → List (List (External At))
first_root e n rest = (e ∷ take n rest) ∷ roots_of (drop n rest)

cut_inside : (e f : External At) (rest : List (External At)) (b : Bool) → begins_root f ≡ b → roots_of (f ∷ rest) ≡ first_root f (inside_length rest) rest →
    (if b then (e ∷ []) ∷ roots_of (f ∷ rest) else with_first e (roots_of (f ∷ rest))) ≡ first_root e (if b then zero else suc (inside_length rest)) (f ∷ rest)
cut_inside e f rest true is later = refl
cut_inside e f rest false is later = ap (with_first e) later

cut_root : (e : External At) (rest : List (External At)) → roots_of (e ∷ rest) ≡ first_root e (inside_length rest) rest
cut_root e [] = refl
cut_root e (f ∷ rest) = cut_inside e f rest (begins_root f) refl (cut_root f rest)

-- the first root, and those of the rest
split_is : (all : List (External At)) → 0 < length all → roots_of all ≡ (split_root all).0 ∷ roots_of (split_root all).1
split_is [] h = absurd (omega (arith, h))
split_is (e ∷ rest) h = cut_root e rest ∙ ap (λ xs. first_root e (inside_length xs) rest) (sym (dropped_none rest))

pub roots_are : (all root after : List (External At)) → 0 < length all → (root, after) ≡ split_root all → roots_of all ≡ root ∷ roots_of after
roots_are all root after h is =
    split_is all h ∙ ap (λ r. r ∷ roots_of (split_root all).1) (sym (ap (λ p. p.0) is)) ∙ ap (λ a. root ∷ roots_of a) (sym (ap (λ p. p.1) is))

-- the roots of the code are those of the trees
split_at : (units : List Whole) (place count next : ℕ) → count ≡ root_length (map external_of (drop place units)) → next ≡ place + count →
    (map external_of (take count (drop place units)), map external_of (drop next units)) ≡ split_root (map external_of (drop place units))
split_at units place count next counted is =
    let rest : List Whole = drop place units in
    ap (λ k. (map external_of (take count rest), map external_of (drop k units))) is
    ∙ ap (λ us. (map external_of (take count rest), map external_of us)) (sym (drop-drop count place units))
    ∙ ap (λ r. (r, map external_of (drop count rest))) (sym (take-map external_of count rest))
    ∙ ap (λ a. (take count (map external_of rest), a)) (sym (drop-map external_of count rest))
    ∙ ap (λ k. (take k (map external_of rest), drop k (map external_of rest))) counted

-- the same, where those from the place on are given
pub split_rest : (units rest : List Whole) (place count next : ℕ) → rest ≡ drop place units → count ≡ root_length (map external_of rest) → next ≡ place + count →
    (map external_of (take count rest), map external_of (drop next units)) ≡ split_root (map external_of (drop place units))
split_rest units rest place count next is counted more =
    ap (λ us. (map external_of (take count us), map external_of (drop next units))) is
    ∙ split_at units place count next (counted ∙ ap (λ us. root_length (map external_of us)) is) more

-- those from a place on
pub rest_is : (place : ℕ) (units : List Whole) → take (length units - place) (drop place units) ≡ drop place units
rest_is place units = ap (λ n. take n (drop place units)) (sym (length-drop place units)) ∙ take-length (drop place units)

-- there are as many
pub fits_after : (units : List Whole) (place count : ℕ) → place ≤ length units → count ≤ length (drop place units) → place + count ≤ length units
fits_after units zero count h k =
    let same : length (drop zero units) ≡ length units = ap length (dropped_none units) in omega (arith, k, same)
fits_after [] (suc place) count h k = absurd (omega (arith, h))
fits_after (u ∷ units) (suc place) count h k =
    let less : place + count ≤ length units = fits_after units place count (omega (arith, h)) k in omega (arith, less)

-- some are left
pub some_left : (units : List Whole) (place : ℕ) → place < length units → 0 < length (map external_of (drop place units))
some_left [] place h = absurd (omega (arith, h))
some_left (u ∷ units) zero h = omega arith
some_left (u ∷ units) (suc place) h = some_left units place (omega (arith, h))

-- none are left
pub none_left : (units : List Whole) (place : ℕ) → length units ≤ place → roots_of (map external_of (drop place units)) ≡ []
none_left [] zero h = refl
none_left [] (suc place) h = refl
none_left (u ∷ units) zero h = absurd (omega (arith, h))
none_left (u ∷ units) (suc place) h = none_left units place (omega (arith, h))

-- how many the first root of the code has
pub long_root : (units : List Whole) (inside count : ℕ) → inside ≡ inside_length (map external_of (drop 1 units)) → count ≡ inside + 1 → count ≡ root_length (map external_of units)
long_root units inside count counted more = more ∙ add-one inside ∙ ap suc (counted ∙ ap inside_length (sym (drop-map external_of 1 units)))

-- the count of one turn
pub one_inside : (e : External At) (rest all : List (External At)) (count next : ℕ) (whole : ℕ) → all ≡ e ∷ rest → begins_root e ≡ false → next ≡ count + 1 →
    count + inside_length all ≡ whole → next + inside_length rest ≡ whole
one_inside e rest all count next whole cut is more holds =
    let one : inside_length all ≡ suc (inside_length rest) = ap inside_length cut ∙ ap (λ b. if b then zero else suc (inside_length rest)) is in
    omega (arith, one, more, holds)

pub at_inside : (e : External At) (rest all : List (External At)) (count : ℕ) (whole : ℕ) → all ≡ e ∷ rest → begins_root e ≡ true → count + inside_length all ≡ whole → count ≡ whole
at_inside e rest all count whole cut is holds =
    let one : inside_length all ≡ zero = ap inside_length cut ∙ ap (λ b. if b then zero else suc (inside_length rest)) is in
    omega (arith, one, holds)

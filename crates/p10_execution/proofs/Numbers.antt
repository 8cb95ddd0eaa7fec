-- Lists in which each number stands once.
use Rattle.std.proofs.Common.{◌≡◌, ℕ, Bool, true, false, List, [], ◌∷◌, ◌++◌, refl, ◌∙◌, ap, sym}
use Rattle.std.specs.Prelude.{◌||◌, nat_eq}
use Rattle.std.proofs.lemmas.Bool.{eqb-true}
use Rattle.p10_core.specs.WholePrograms.{is_among}
use Rattle.p10_execution.specs.Scoping.{AreOnce}

or_assoc : (a b c : Bool) → (a || (b || c)) ≡ ((a || b) || c)
or_assoc true b c = refl
or_assoc false b c = refl

pub or_right : (a : Bool) → (a || true) ≡ true
or_right true = refl
or_right false = refl

pub or_false : (a b : Bool) → (a || b) ≡ false → (a ≡ false) × (b ≡ false)
or_false true b e = absurd cc
or_false false b e = (refl, e)

pub among_append : (n : ℕ) (xs ys : List ℕ) → is_among n (xs ++ ys) ≡ (is_among n xs || is_among n ys)
among_append n [] ys = refl
among_append n (x ∷ xs) ys = ap (λ b. nat_eq n x || b) (among_append n xs ys) ∙ or_assoc (nat_eq n x) (is_among n xs) (is_among n ys)

pub among_left : (n : ℕ) (xs ys : List ℕ) → is_among n xs ≡ true → is_among n (xs ++ ys) ≡ true
among_left n xs ys e = among_append n xs ys ∙ ap (λ b. b || is_among n ys) e

pub among_right : (n : ℕ) (xs ys : List ℕ) → is_among n ys ≡ true → is_among n (xs ++ ys) ≡ true
among_right n xs ys e = among_append n xs ys ∙ (ap (λ b. is_among n xs || b) e ∙ or_right (is_among n xs))

pub once_left : (xs ys : List ℕ) → AreOnce (xs ++ ys) → AreOnce xs
once_left [] ys h = tt
once_left (x ∷ xs) ys h = ((or_false (is_among x xs) (is_among x ys) (sym (among_append x xs ys) ∙ h.0)).0, once_left xs ys h.1)

pub once_right : (xs ys : List ℕ) → AreOnce (xs ++ ys) → AreOnce ys
once_right [] ys h = h
once_right (x ∷ xs) ys h = once_right xs ys h.1

-- a number of the one part isn't in the other
pub once_apart : (n : ℕ) (xs ys : List ℕ) → AreOnce (xs ++ ys) → is_among n ys ≡ true → is_among n xs ≡ false
once_apart n [] ys h e = refl
once_apart n (x ∷ xs) ys h e = at (nat_eq n x) refl (once_apart n xs ys h.1 e)
  where
    at : (b : Bool) → nat_eq n x ≡ b → is_among n xs ≡ false → (nat_eq n x || is_among n xs) ≡ false
    at true q k =
        let p : n ≡ x = eqb-true n x q in
        let there : is_among x (xs ++ ys) ≡ true = ap (λ m. is_among m (xs ++ ys)) (sym p) ∙ among_right n xs ys e in
        let no : is_among x (xs ++ ys) ≡ false = h.0 in
        absurd cc
    at false q k = ap (λ b. b || is_among n xs) q ∙ k

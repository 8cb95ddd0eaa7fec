-- Numbers in order: one after the other, and in two lists.
use Rattle.std.proofs.Common.{◌≡◌, ℕ, ◌+◌, ◌≤◌, ◌<◌, nat_eq, true, false, List, [], ◌∷◌, ◌++◌, inl, inr, ◌⊎◌, sym, ◌∙◌, arith}
use Rattle.std.proofs.lemmas.Bool.Decides.{nat_tests}
use Rattle.p10_head_renaming.specs.Ascending.{Ascend}

-- ## One list

pub lower : (a b : ℕ) (ys : List ℕ) (c : ℕ) → a ≤ b → Ascend b ys c → Ascend a ys c
lower a b [] c less up = omega (arith, less, up)
lower a b (y ∷ ys) c less up = (omega (arith, less, up.0), up.1)

pub raise : (a : ℕ) (xs : List ℕ) (b c : ℕ) → b ≤ c → Ascend a xs b → Ascend a xs c
raise a [] b c less up = omega (arith, less, up)
raise a (x ∷ xs) b c less up = (up.0, raise (x + 1) xs b c less up.1)

within : (a : ℕ) (xs : List ℕ) (b : ℕ) → Ascend a xs b → a ≤ b
within a [] b up = up
within a (x ∷ xs) b up = omega (arith, up.0, within (x + 1) xs b up.1)

pub one_after : (a : ℕ) (xs : List ℕ) (b : ℕ) (ys : List ℕ) (c : ℕ) → Ascend a xs b → Ascend b ys c → Ascend a (xs ++ ys) c
one_after a [] b ys c up more = lower a b ys c up more
one_after a (x ∷ xs) b ys c up more = (up.0, one_after (x + 1) xs b ys c up.1 more)

pub front : (a : ℕ) (xs ys : List ℕ) (c : ℕ) → Ascend a (xs ++ ys) c → Ascend a xs c
front a [] ys c up = within a ys c up
front a (x ∷ xs) ys c up = (up.0, front (x + 1) xs ys c up.1)

pub back : (a : ℕ) (xs ys : List ℕ) (c : ℕ) → Ascend a (xs ++ ys) c → Ascend a ys c
back a [] ys c up = up
back a (x ∷ xs) ys c up = lower a (x + 1) ys c (omega (arith, up.0)) (back (x + 1) xs ys c up.1)

-- ## Two lists

-- two numbers stand at one place of two lists
abbrev pub AreAt : List ℕ → List ℕ → ℕ → ℕ → Type 0
AreAt (x ∷ xs) (y ∷ ys) a b = ((x ≡ a) × (y ≡ b)) ⊎ AreAt xs ys a b
AreAt xs ys a b = ⊥

same_numbers : (a c : ℕ) → a ≡ c → nat_eq a c ≡ true
same_numbers a c same = grind (arith, nat_tests)

less_numbers : (a c : ℕ) → a < c → nat_eq a c ≡ false
less_numbers a c less = grind (arith, nat_tests)

more_numbers : (a c : ℕ) → c < a → nat_eq a c ≡ false
more_numbers a c more = grind (arith, nat_tests)

first_least : (low : ℕ) (xs ys : List ℕ) (high a b : ℕ) → Ascend low xs high → AreAt xs ys a b → low ≤ a
first_least low [] ys high a b up at = absurd at
first_least low (x ∷ xs) [] high a b up at = absurd at
first_least low (x ∷ xs) (y ∷ ys) high a b up (inl at) = omega (arith, up.0, at.0)
first_least low (x ∷ xs) (y ∷ ys) high a b up (inr at) = omega (arith, up.0, first_least (x + 1) xs ys high a b up.1 at)

second_least : (low : ℕ) (xs ys : List ℕ) (high a b : ℕ) → Ascend low ys high → AreAt xs ys a b → low ≤ b
second_least low [] ys high a b up at = absurd at
second_least low (x ∷ xs) [] high a b up at = absurd at
second_least low (x ∷ xs) (y ∷ ys) high a b up (inl at) = omega (arith, up.0, at.1)
second_least low (x ∷ xs) (y ∷ ys) high a b up (inr at) = omega (arith, up.0, second_least (y + 1) xs ys high a b up.1 at)

-- in lists in order, numbers at one place are one in the first list exactly where they are in the second
pub one_to_one : (xs ys : List ℕ) (low high from to : ℕ) → Ascend low xs high → Ascend from ys to → (a b c d : ℕ) → AreAt xs ys a b → AreAt xs ys c d → nat_eq a c ≡ nat_eq b d
one_to_one [] ys low high from to up more a b c d p q = absurd p
one_to_one (x ∷ xs) [] low high from to up more a b c d p q = absurd p
one_to_one (x ∷ xs) (y ∷ ys) low high from to up more a b c d (inl p) (inl q) = same_numbers a c (sym p.0 ∙ q.0) ∙ sym (same_numbers b d (sym p.1 ∙ q.1))
one_to_one (x ∷ xs) (y ∷ ys) low high from to up more a b c d (inl p) (inr q) =
    less_numbers a c (omega (arith, p.0, first_least (x + 1) xs ys high c d up.1 q)) ∙ sym (less_numbers b d (omega (arith, p.1, second_least (y + 1) xs ys to c d more.1 q)))
one_to_one (x ∷ xs) (y ∷ ys) low high from to up more a b c d (inr p) (inl q) =
    more_numbers a c (omega (arith, q.0, first_least (x + 1) xs ys high a b up.1 p)) ∙ sym (more_numbers b d (omega (arith, q.1, second_least (y + 1) xs ys to a b more.1 p)))
one_to_one (x ∷ xs) (y ∷ ys) low high from to up more a b c d (inr p) (inr q) = one_to_one xs ys (x + 1) high (y + 1) to up.1 more.1 a b c d p q

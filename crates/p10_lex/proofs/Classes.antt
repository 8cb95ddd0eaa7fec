-- Classes of bytes exclude each other.
use Rattle.std.proofs.Common.{◌≡◌, ◌≢◌, ℕ, ◌≤◌, List, [], ◌∷◌, refl, ◌∙◌, ap, arith, Bool, true, false, cond, ◌⊎◌, inl, inr}
use Rattle.std.specs.Prelude.{◌==◌, ◌&&◌, ◌||◌, not}
use Rattle.std.specs.List.{list_all, list_any}
use Rattle.std.proofs.lemmas.Bool.Decides.{nat_tests}
use Rattle.p10_lex.specs.Bytes.{is_blank, is_nondigit, is_digit, is_quote}
use Rattle.p10_lex.specs.Lexemes.{begins_number, begins_digit}

-- a choice has what both sides have
pub decide : {A : Type 0} (P : A → Type 0) (b : Bool) (x y : A) → (b ≡ true → P x) → (b ≡ false → P y) → P (cond b x y)
decide P true x y on off = on refl
decide P false x y on off = off refl

-- both sides of an `&&` that is true
pub and_both : (a b : Bool) → (a && b) ≡ true → (a ≡ true) × (b ≡ true)
and_both true b e = (refl, e)
and_both false b e = absurd (cc)

-- an `&&` of true sides
pub both_and : (a b : Bool) → a ≡ true → b ≡ true → (a && b) ≡ true
both_and true b a e = e
both_and false b a e = absurd (cc)

-- a true side of an `||`
pub or_either : (a b : Bool) → (a || b) ≡ true → (a ≡ true) ⊎ (b ≡ true)
or_either true b e = inl refl
or_either false b e = inr e

-- both sides of an `||` that is false
pub or_neither : (a b : Bool) → (a || b) ≡ false → (a ≡ false) × (b ≡ false)
or_neither true b e = absurd (cc)
or_neither false b e = (refl, e)

-- what is true under `not` is false
pub not_true : (a : Bool) → not a ≡ true → a ≡ false
not_true true e = absurd (cc)
not_true false e = refl

-- what cannot be true is false
pub not_false : (a : Bool) → (a ≡ true → ⊥) → a ≡ false
not_false true h = absurd (h refl)
not_false false h = refl

-- a test of equality that is true
pub same_number : (a b : ℕ) → (a == b) ≡ true → a ≡ b
same_number a b e = grind (arith, nat_tests)

-- equal numbers pass the test
pub number_same : (a b : ℕ) → a ≡ b → (a == b) ≡ true
number_same a b e = grind (arith, nat_tests)

-- other numbers do not pass
pub other_number : (a b : ℕ) → a ≢ b → (a == b) ≡ false
other_number a b e = grind (arith, nat_tests)

-- what is true of each byte of a list is true of a byte that is among them
pub any_byte : (test : ℕ → Bool) (cs : List ℕ) (c : ℕ) → list_all test cs ≡ true → list_any (λ d. c == d) cs ≡ true → test c ≡ true
any_byte test [] c all any = absurd (cc)
any_byte test (d ∷ ds) c all any =
    let (here, rest) = and_both _ _ all in
    elim (or_either (c == d) (list_any (λ d. c == d) ds) any) [ inl e ↦ ap test (same_number c d e) ∙ here | inr e ↦ any_byte test ds c rest e ]

-- a letter is no white space
pub nondigit_not_blank : (c : ℕ) → is_nondigit c ≡ true → is_blank c ≡ false
unfolding is_nondigit is_blank
nondigit_not_blank c e = grind (arith, nat_tests)

-- nor is a digit
pub digit_not_blank : (c : ℕ) → is_digit c ≡ true → is_blank c ≡ false
unfolding is_digit is_blank
digit_not_blank c e = grind (arith, nat_tests)

-- a digit is no letter
pub digit_not_nondigit : (c : ℕ) → is_digit c ≡ true → is_nondigit c ≡ false
unfolding is_digit is_nondigit
digit_not_nondigit c e = grind (arith, nat_tests)

-- the two quotes
pub quote_is : (c : ℕ) → is_quote c ≡ true → (c ≡ 39) ⊎ (c ≡ 34)
unfolding is_quote
quote_is c e = elim (or_either (c == 39) (c == 34) e) [ inl h ↦ inl (same_number c 39 h) | inr h ↦ inr (same_number c 34 h) ]

-- what a letter is not
pub nondigit_is : (c : ℕ) → is_nondigit c ≡ true → (c ≢ 39) × (c ≢ 34) × (c ≢ 46) × (c ≢ 47) × (c ≢ 60) × (c ≢ 92)
unfolding is_nondigit
nondigit_is c e = (λ h. grind (arith, nat_tests), λ h. grind (arith, nat_tests), λ h. grind (arith, nat_tests), λ h. grind (arith, nat_tests), λ h. grind (arith, nat_tests), λ h. grind (arith, nat_tests))

-- the range of digits
pub digit_is : (c : ℕ) → is_digit c ≡ true → (48 ≤ c) × (c ≤ 57)
unfolding is_digit
digit_is c e = (grind (arith, nat_tests), grind (arith, nat_tests))

-- a number begins with a digit or a dot
pub number_head : (c : ℕ) (t : List ℕ) → begins_number (c ∷ t) ≡ true → (is_digit c ≡ true) ⊎ ((c ≡ 46) × (begins_digit t ≡ true))
unfolding begins_number
number_head c t e = elim (or_either (is_digit c) ((c == 46) && begins_digit t) e) [ inl h ↦ inl h | inr h ↦ inr (same_number c 46 (and_both _ _ h).0, (and_both _ _ h).1) ]

-- what the first byte of a number is not
pub number_not_blank : (c : ℕ) (t : List ℕ) → begins_number (c ∷ t) ≡ true → (is_blank c ≡ false) × (is_nondigit c ≡ false) × (c ≢ 39) × (c ≢ 34) × (c ≢ 47) × (c ≢ 60)
unfolding is_blank is_nondigit
number_not_blank c t e = elim (number_head c t e) [
  | inl h ↦ (let (a, b) = digit_is c h in (digit_not_blank c h, digit_not_nondigit c h, omega arith, omega arith, omega arith, omega arith))
  | inr (h, k) ↦ (ap is_blank h, ap is_nondigit h, omega arith, omega arith, omega arith, omega arith)
]

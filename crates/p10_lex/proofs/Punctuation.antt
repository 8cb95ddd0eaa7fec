-- The longest punctuator at the beginning of a text.
use Rattle.std.proofs.Common.{◌≡◌, ◌≢◌, ℕ, suc, ◌<◌, ◌≤◌, List, [], ◌∷◌, ◌++◌, length, take, refl, sym, ◌∙◌, ap, arith, Bool, true, false, ◌⊎◌, inl, inr}
use Rattle.std.specs.Prelude.{◌==◌, ◌&&◌, ◌||◌, not, codes, bytes_eq}
use Rattle.std.specs.List.{list_all, list_any}
use Rattle.std.proofs.lemmas.Slice.Eq.{bytes_eq-Decides}
use Rattle.p10_lex.specs.Bytes.{is_blank, is_nondigit, is_digit, is_quote}
use Rattle.p10_lex.specs.Lexemes.{is_punctuator, single_punctuators, double_punctuators, triple_punctuators}
use Rattle.p10_lex.specs.private.Runs.{is_double, is_triple, punctuator_length}
use Rattle.p10_lex.proofs.Classes.{decide, and_both, or_either, same_number, number_same, not_true, any_byte}

-- equal texts are the same
pub same_is : (xs ys : List ℕ) → bytes_eq xs ys ≡ true → xs ≡ ys
same_is xs ys e = (bytes_eq-Decides xs ys).0 e

-- a text is equal to itself
pub is_same : (xs : List ℕ) → bytes_eq xs xs ≡ true
is_same xs = (bytes_eq-Decides xs xs).1 refl

-- what is true of each text of a list is true of a text that is among them
any_text : (test : List ℕ → Bool) (texts : List (List ℕ)) (t : List ℕ) → list_all test texts ≡ true → list_any (bytes_eq t) texts ≡ true → test t ≡ true
any_text test [] t all any = absurd (cc)
any_text test (u ∷ us) t all any =
    let (here, rest) = and_both _ _ all in
    elim (or_either (bytes_eq t u) (list_any (bytes_eq t) us) any) [ inl e ↦ ap test (same_is t u e) ∙ here | inr e ↦ any_text test us t rest e ]

-- the test of two bytes, on texts
unfoldable test_double : List ℕ → Bool
test_double (a ∷ b ∷ []) = is_double a b
test_double _ = false

-- the test of three bytes, on texts
unfoldable test_triple : List ℕ → Bool
test_triple (a ∷ b ∷ c ∷ []) = is_triple a b c
test_triple _ = false

-- a punctuator of two bytes passes the test
double_of : (a b : ℕ) → is_punctuator (a ∷ b ∷ []) ≡ true → is_double a b ≡ true
unfolding is_punctuator double_punctuators test_double is_double
double_of a b e = any_text test_double double_punctuators (a ∷ b ∷ []) refl e

-- what passes it is one
double_is : (a b : ℕ) → is_double a b ≡ true → is_punctuator (a ∷ b ∷ []) ≡ true
unfolding is_punctuator double_punctuators is_double
double_is a b e =
    elim (or_either ((a == b) && list_any (λ c. a == c) (codes "+-<>=&|#")) (((b == 61) && list_any (λ c. a == c) (codes "<>!*/%+-&^|")) || ((a == 45) && (b == 62))) e) [
      | inl h ↦
          (let (x, y) = and_both (a == b) (list_any (λ c. a == c) (codes "+-<>=&|#")) h in
          let z = any_byte (λ c. is_punctuator (c ∷ c ∷ [])) (codes "+-<>=&|#") a refl y in
          ap (λ (d : ℕ). is_punctuator (a ∷ d ∷ [])) (sym (same_number a b x)) ∙ z)
      | inr h ↦ elim (or_either ((b == 61) && list_any (λ c. a == c) (codes "<>!*/%+-&^|")) ((a == 45) && (b == 62)) h) [
        | inl k ↦
            (let (x, y) = and_both (b == 61) (list_any (λ c. a == c) (codes "<>!*/%+-&^|")) k in
            let z = any_byte (λ c. is_punctuator (c ∷ 61 ∷ [])) (codes "<>!*/%+-&^|") a refl y in
            ap (λ (d : ℕ). is_punctuator (a ∷ d ∷ [])) (same_number b 61 x) ∙ z)
        | inr k ↦
            (let (x, y) = and_both (a == 45) (b == 62) k in
            ap (λ (d : ℕ). is_punctuator (d ∷ b ∷ [])) (same_number a 45 x) ∙ ap (λ (d : ℕ). is_punctuator (45 ∷ d ∷ [])) (same_number b 62 y))
      ]
    ]

-- a punctuator of three bytes passes the test
triple_of : (a b c : ℕ) → is_punctuator (a ∷ b ∷ c ∷ []) ≡ true → is_triple a b c ≡ true
unfolding is_punctuator triple_punctuators test_triple is_triple
triple_of a b c e = any_text test_triple triple_punctuators (a ∷ b ∷ c ∷ []) refl e

-- three equal bytes make an equal text
three : (a b c x y z : ℕ) → ((a == x) && ((b == y) && (c == z))) ≡ true → is_punctuator (x ∷ y ∷ z ∷ []) ≡ true → is_punctuator (a ∷ b ∷ c ∷ []) ≡ true
three a b c x y z e is =
    let (h, k) = and_both (a == x) ((b == y) && (c == z)) e in
    let (l, m) = and_both (b == y) (c == z) k in
    ap (λ (d : ℕ). is_punctuator (d ∷ b ∷ c ∷ [])) (same_number a x h)
    ∙ (ap (λ (d : ℕ). is_punctuator (x ∷ d ∷ c ∷ [])) (same_number b y l) ∙ (ap (λ (d : ℕ). is_punctuator (x ∷ y ∷ d ∷ [])) (same_number c z m) ∙ is))

-- what passes it is one
triple_is : (a b c : ℕ) → is_triple a b c ≡ true → is_punctuator (a ∷ b ∷ c ∷ []) ≡ true
unfolding is_punctuator triple_punctuators is_triple
triple_is a b c e =
    elim (or_either ((a == 60) && ((b == 60) && (c == 61))) (((a == 62) && ((b == 62) && (c == 61))) || ((a == 46) && ((b == 46) && (c == 46)))) e) [
      | inl h ↦ three a b c 60 60 61 h refl
      | inr h ↦ elim (or_either ((a == 62) && ((b == 62) && (c == 61))) ((a == 46) && ((b == 46) && (c == 46))) h) [
        | inl k ↦ three a b c 62 62 61 k refl
        | inr k ↦ three a b c 46 46 46 k refl
      ]
    ]

-- the first byte of a punctuator is one
unfoldable test_head : List ℕ → Bool
test_head [] = false
test_head (a ∷ t) = is_punctuator (a ∷ [])

-- the first byte of a punctuator is a punctuator
pub punctuator_head : (c : ℕ) (t : List ℕ) → is_punctuator (c ∷ t) ≡ true → is_punctuator (c ∷ []) ≡ true
unfolding is_punctuator double_punctuators triple_punctuators single_punctuators test_head
punctuator_head c [] e = e
punctuator_head c (d ∷ []) e = any_text test_head double_punctuators (c ∷ d ∷ []) refl e
punctuator_head c (d ∷ f ∷ []) e = any_text test_head triple_punctuators (c ∷ d ∷ f ∷ []) refl e
punctuator_head c (d ∷ f ∷ g ∷ t) e = absurd (cc)

-- what a punctuator's first byte is not
pub record IsNoOther (c : ℕ) : Type 0 where
  pub blank : is_blank c ≡ false
  pub nondigit : is_nondigit c ≡ false
  pub digit : is_digit c ≡ false
  pub quote : is_quote c ≡ false
  pub splice : c ≢ 92

-- it is in no other class
pub punctuator_class : (c : ℕ) → is_punctuator (c ∷ []) ≡ true → IsNoOther c
unfolding is_punctuator single_punctuators is_blank is_nondigit is_digit is_quote
punctuator_class c e = record {
  blank = not_true _ (any_byte (λ d. not (is_blank d)) single_punctuators c refl e);
  nondigit = not_true _ (any_byte (λ d. not (is_nondigit d)) single_punctuators c refl e);
  digit = not_true _ (any_byte (λ d. not (is_digit d)) single_punctuators c refl e);
  quote = not_true _ (any_byte (λ d. not (is_quote d)) single_punctuators c refl e);
  splice = λ h. let f = not_true _ (any_byte (λ d. not (d == 92)) single_punctuators c refl e) in let g = number_same c 92 h in cc;
}

-- a punctuator that begins with `<` has no `>`
unfoldable test_angle : List ℕ → Bool
test_angle [] = true
test_angle (a ∷ t) = not (a == 60) || list_all (λ d. not (d == 62)) t

-- a punctuator that begins with `<` has no `>`
pub no_angle : (t : List ℕ) → is_punctuator (60 ∷ t) ≡ true → list_all (λ d. not (d == 62)) t ≡ true
unfolding is_punctuator double_punctuators triple_punctuators test_angle
no_angle [] e = refl
no_angle (d ∷ []) e = any_text test_angle double_punctuators (60 ∷ d ∷ []) refl e
no_angle (d ∷ f ∷ []) e = any_text test_angle triple_punctuators (60 ∷ d ∷ f ∷ []) refl e
no_angle (d ∷ f ∷ g ∷ t) e = absurd (cc)

-- the length is that of a punctuator
pub length_sound : (t : List ℕ) → (punctuator_length t ≡ 0) ⊎ ((is_punctuator (take (punctuator_length t) t) ≡ true) × (punctuator_length t ≤ length t) × (0 < punctuator_length t))
unfolding punctuator_length
length_sound [] = inl refl
length_sound (a ∷ []) =
    decide (λ (n : ℕ). (n ≡ 0) ⊎ ((is_punctuator (take n (a ∷ [])) ≡ true) × (n ≤ 1) × (0 < n))) (is_punctuator (a ∷ [])) _ _
    (λ e. inr (e, omega arith, omega arith)) (λ e. inl refl)
length_sound (a ∷ b ∷ []) =
    decide (λ (n : ℕ). (n ≡ 0) ⊎ ((is_punctuator (take n (a ∷ b ∷ [])) ≡ true) × (n ≤ 2) × (0 < n))) (is_double a b) _ _
    (λ e. inr (double_is a b e, omega arith, omega arith))
    (λ f. decide (λ (n : ℕ). (n ≡ 0) ⊎ ((is_punctuator (take n (a ∷ b ∷ [])) ≡ true) × (n ≤ 2) × (0 < n))) (is_punctuator (a ∷ [])) _ _
    (λ e. inr (e, omega arith, omega arith)) (λ e. inl refl))
length_sound (a ∷ b ∷ c ∷ t) =
    decide (λ (n : ℕ). (n ≡ 0) ⊎ ((is_punctuator (take n (a ∷ b ∷ c ∷ t)) ≡ true) × (n ≤ suc (suc (suc (length t)))) × (0 < n))) (is_triple a b c) _ _
    (λ e. inr (triple_is a b c e, omega arith, omega arith))
    (λ g. decide (λ (n : ℕ). (n ≡ 0) ⊎ ((is_punctuator (take n (a ∷ b ∷ c ∷ t)) ≡ true) × (n ≤ suc (suc (suc (length t)))) × (0 < n))) (is_double a b) _ _
    (λ e. inr (double_is a b e, omega arith, omega arith))
    (λ f. decide (λ (n : ℕ). (n ≡ 0) ⊎ ((is_punctuator (take n (a ∷ b ∷ c ∷ t)) ≡ true) × (n ≤ suc (suc (suc (length t)))) × (0 < n))) (is_punctuator (a ∷ [])) _ _
    (λ e. inr (e, omega arith, omega arith)) (λ e. inl refl)))

-- no longer punctuator stands there
pub length_most : (w rest : List ℕ) → is_punctuator w ≡ true → length w ≤ punctuator_length (w ++ rest)
unfolding punctuator_length is_punctuator
length_most [] rest e = omega arith
length_most (a ∷ []) [] e = rw e (omega arith)
length_most (a ∷ []) (b ∷ []) e =
    decide (λ (n : ℕ). 1 ≤ n) (is_double a b) _ _ (λ f. omega arith) (λ f. rw e (omega arith))
length_most (a ∷ []) (b ∷ c ∷ t) e =
    decide (λ (n : ℕ). 1 ≤ n) (is_triple a b c) _ _ (λ f. omega arith)
    (λ g. decide (λ (n : ℕ). 1 ≤ n) (is_double a b) _ _ (λ f. omega arith) (λ f. rw e (omega arith)))
length_most (a ∷ b ∷ []) [] e = rw (double_of a b e) (omega arith)
length_most (a ∷ b ∷ []) (c ∷ t) e =
    decide (λ (n : ℕ). 2 ≤ n) (is_triple a b c) _ _ (λ f. omega arith) (λ f. rw (double_of a b e) (omega arith))
length_most (a ∷ b ∷ c ∷ []) rest e = rw (triple_of a b c e) (omega arith)
length_most (a ∷ b ∷ c ∷ d ∷ t) rest e = absurd (cc)

-- the second byte of a punctuator is no digit
unfoldable test_second : List ℕ → Bool
test_second (a ∷ b ∷ t) = not (is_digit b)
test_second _ = true

-- its second byte is no digit
pub punctuator_second : (c d : ℕ) (t : List ℕ) → is_punctuator (c ∷ d ∷ t) ≡ true → is_digit d ≡ false
unfolding is_punctuator double_punctuators triple_punctuators test_second is_digit
punctuator_second c d [] e = not_true _ (any_text test_second double_punctuators (c ∷ d ∷ []) refl e)
punctuator_second c d (f ∷ []) e = not_true _ (any_text test_second triple_punctuators (c ∷ d ∷ f ∷ []) refl e)
punctuator_second c d (f ∷ g ∷ t) e = absurd (cc)

-- only the first byte of a punctuator is a question mark
unfoldable test_rest : List ℕ → Bool
test_rest [] = true
test_rest (a ∷ t) = list_all (λ d. not (d == 63)) t

-- its other bytes are no question marks
pub punctuator_rest : (c : ℕ) (t : List ℕ) → is_punctuator (c ∷ t) ≡ true → list_all (λ d. not (d == 63)) t ≡ true
unfolding is_punctuator double_punctuators triple_punctuators test_rest
punctuator_rest c [] e = refl
punctuator_rest c (d ∷ []) e = any_text test_rest double_punctuators (c ∷ d ∷ []) refl e
punctuator_rest c (d ∷ f ∷ []) e = any_text test_rest triple_punctuators (c ∷ d ∷ f ∷ []) refl e
punctuator_rest c (d ∷ f ∷ g ∷ t) e = absurd (cc)

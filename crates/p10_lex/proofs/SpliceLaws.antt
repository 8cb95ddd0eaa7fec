-- Splices in literals and between words.
use Rattle.std.proofs.Common.{◌≡◌, ◌≢◌, ℕ, zero, suc, ◌-◌, ◌<◌, ◌≤◌, List, [], ◌∷◌, ◌++◌, length, refl, sym, ◌∙◌, ap, arith, Bool, true, false, ◌⊎◌, inl, inr}
use Rattle.std.specs.Prelude.{◌==◌, nat_lt, ◌&&◌, not, Option, Some}
use Rattle.std.proofs.lemmas.Bool.Decides.{nat_tests}
use Rattle.p10_lex.specs.Splices.{line_end_length, splice_length, joined_after}
use Rattle.p10_lex.specs.Lexemes.{is_quotable}
use Rattle.p10_lex.specs.private.Runs.{after_literal, after_splices}
use Rattle.p10_lex.proofs.Classes.{decide, and_both, same_number, number_same, other_number, not_true}

-- a test is true or false
pub is_either : (b : Bool) → (b ≡ true) ⊎ (b ≡ false)
is_either true = inl refl
is_either false = inr refl

-- an `&&` with false is false
and_false : (b : Bool) → (b && false) ≡ false
and_false true = refl
and_false false = refl

-- the end of a line in `front` isn't changed by a quote after it
line_end_before : (q : ℕ) → q ≢ 10 → q ≢ 13 → (front rest : List ℕ) → line_end_length (front ++ q ∷ rest) ≡ line_end_length front
unfolding line_end_length
line_end_before q a b [] [] = rw (other_number q 10 a) refl
line_end_before q a b [] (r ∷ rs) = rw (other_number q 10 a, other_number q 13 b) refl
line_end_before q a b (c ∷ []) rest = rw (other_number q 10 a, and_false (c == 13)) refl
line_end_before q a b (c ∷ d ∷ front) rest = refl

-- nor is a splice
pub splice_before : (q : ℕ) → q ≢ 10 → q ≢ 13 → (c : ℕ) (front rest : List ℕ) → splice_length (c ∷ (front ++ q ∷ rest)) ≡ splice_length (c ∷ front)
unfolding splice_length
splice_before q a b c front rest = rw (line_end_before q a b front rest) refl

-- the end of a line is part of its text
line_end_short : (t : List ℕ) → line_end_length t ≤ length t
unfolding line_end_length
line_end_short [] = omega arith
line_end_short (b ∷ []) = decide (λ (n : ℕ). n ≤ 1) (b == 10) _ _ (λ e. omega arith) (λ e. omega arith)
line_end_short (b ∷ c ∷ t) =
    decide (λ (n : ℕ). n ≤ suc (suc (length t))) (b == 10) _ _ (λ e. omega arith)
    (λ e. decide (λ (n : ℕ). n ≤ suc (suc (length t))) ((b == 13) && (c == 10)) _ _ (λ e. omega arith) (λ e. omega arith))

-- a splice is part of its text
pub splice_short : (t : List ℕ) → splice_length t ≤ length t
unfolding splice_length
splice_short [] = omega arith
splice_short (c ∷ t) = let h = line_end_short t in
    decide (λ (n : ℕ). n ≤ suc (length t)) ((c == 92) && nat_lt 0 (line_end_length t)) _ _ (λ e. omega arith) (λ e. omega arith)

-- the line end at the beginning of a text is that of each longer text
line_end_more : (t rest : List ℕ) → 0 < line_end_length t → line_end_length (t ++ rest) ≡ line_end_length t
unfolding line_end_length
line_end_more [] rest some = absurd (omega arith)
line_end_more (b ∷ []) [] some = refl
line_end_more (b ∷ []) (r ∷ rs) some =
    elim (is_either (b == 10)) [ inl e ↦ rw e refl | inr e ↦ absurd (let h = rw e at some in omega (arith, h)) ]
line_end_more (b ∷ c ∷ t) rest some = refl

-- and of the prefix that holds it
line_end_front : (t rest : List ℕ) → 0 < line_end_length (t ++ rest) → line_end_length (t ++ rest) ≤ length t → line_end_length t ≡ line_end_length (t ++ rest)
unfolding line_end_length
line_end_front [] rest some short = absurd (omega arith)
line_end_front (b ∷ []) [] some short = refl
line_end_front (b ∷ []) (r ∷ rs) some short =
    elim (is_either (b == 10)) [
      | inl e ↦ rw e refl
      | inr e ↦ absurd (elim (is_either ((b == 13) && (r == 10))) [
        | inl f ↦ (let h = rw (e, f) at short in omega (arith, h))
        | inr f ↦ (let h = rw (e, f) at some in omega (arith, h))
      ])
    ]
line_end_front (b ∷ c ∷ t) rest some short = refl

-- no splice stands in an empty text
pub no_text : splice_length [] ≡ 0
unfolding splice_length
no_text = refl

-- a number above 0 by its test
pub positive : (n : ℕ) → nat_lt 0 n ≡ true → 0 < n
positive n e = grind (arith, nat_tests)

-- the test of a number above 0
pub positive_test : (n : ℕ) → 0 < n → nat_lt 0 n ≡ true
positive_test n e = grind (arith, nat_tests)

-- a number that is not above 0
pub none_test : (n : ℕ) → nat_lt 0 n ≡ false → n ≡ 0
none_test n e = grind (arith, nat_tests)

-- a splice at the beginning of a text is one of each longer text
pub splice_more : (t rest : List ℕ) → 0 < splice_length t → splice_length (t ++ rest) ≡ splice_length t
unfolding splice_length
splice_more [] rest some = absurd (omega arith)
splice_more (c ∷ t) rest some =
    elim (is_either ((c == 92) && nat_lt 0 (line_end_length t))) [
      | inl e ↦ (let (a, b) = and_both (c == 92) (nat_lt 0 (line_end_length t)) e in rw (line_end_more t rest (positive _ b)) refl)
      | inr e ↦ absurd (let h = rw e at some in omega (arith, h))
    ]

-- and of the prefix that holds it
pub splice_front : (c : ℕ) (t rest : List ℕ) → 0 < splice_length (c ∷ (t ++ rest)) → splice_length (c ∷ (t ++ rest)) ≤ suc (length t)
    → splice_length (c ∷ t) ≡ splice_length (c ∷ (t ++ rest))
unfolding splice_length
splice_front c t rest some short =
    elim (is_either ((c == 92) && nat_lt 0 (line_end_length (t ++ rest)))) [
      | inl e ↦ (let (a, b) = and_both (c == 92) (nat_lt 0 (line_end_length (t ++ rest))) e in
          let h = rw e at short in
          rw (line_end_front t rest (positive _ b) (omega (arith, h))) refl)
      | inr e ↦ absurd (let h = rw e at some in omega (arith, h))
    ]

-- a splice begins with a backslash
pub no_splice : (c : ℕ) (t : List ℕ) → c ≢ 92 → splice_length (c ∷ t) ≡ 0
unfolding splice_length
no_splice c t h = rw (other_number c 92 h) refl

-- a literal ends at its closing quote
pub literal_again : (q : ℕ) → q ≢ 10 → q ≢ 13 → q ≢ 92 → (skip : ℕ) (escaped : Bool) (inside rest : List ℕ)
    → is_quotable q escaped (joined_after skip inside) ≡ true → skip ≤ length inside → after_literal q skip escaped (inside ++ q ∷ rest) ≡ Some rest
unfolding after_literal joined_after is_quotable
literal_again q a b d zero true [] rest is short = absurd (cc)
literal_again q a b d zero false [] rest is short = rw (no_splice q rest d, other_number q 10 a, number_same q q refl) refl
literal_again q a b d (suc skip) escaped [] rest is short = absurd (omega arith)
literal_again q a b d (suc skip) escaped (c ∷ inside) rest is short = literal_again q a b d skip escaped inside rest is (omega arith)
literal_again q a b d zero true (c ∷ inside) rest is short =
    let same = splice_before q a b c inside rest in
    elim (is_either (nat_lt 0 (splice_length (c ∷ inside)))) [
      | inl e ↦ rw (same, e) (literal_again q a b d (splice_length (c ∷ inside) - 1) true inside rest (rw e at is) (omega (arith, splice_short (c ∷ inside))))
      | inr e ↦
          (let h = rw e at is in
          let (x, y) = and_both (not (c == 10)) (is_quotable q false (joined_after 0 inside)) h in
          rw (same, e, not_true (c == 10) x) (literal_again q a b d 0 false inside rest y (omega arith)))
    ]
literal_again q a b d zero false (c ∷ inside) rest is short =
    let same = splice_before q a b c inside rest in
    elim (is_either (nat_lt 0 (splice_length (c ∷ inside)))) [
      | inl e ↦ rw (same, e) (literal_again q a b d (splice_length (c ∷ inside) - 1) false inside rest (rw e at is) (omega (arith, splice_short (c ∷ inside))))
      | inr e ↦
          (let h = rw e at is in
          let (x, y) = and_both (not (c == 10)) (not (c == q) && is_quotable q (c == 92) (joined_after 0 inside)) h in
          let (z, w) = and_both (not (c == q)) (is_quotable q (c == 92) (joined_after 0 inside)) y in
          rw (same, e, not_true (c == 10) x, not_true (c == q) z) (literal_again q a b d 0 (c == 92) inside rest w (omega arith)))
    ]

-- what stands before the closing quote
pub record IsInside (q skip : ℕ) (escaped : Bool) (text rest : List ℕ) : Type 0 where
  pub inside : List ℕ
  pub parts : text ≡ inside ++ q ∷ rest
  pub quotable : is_quotable q escaped (joined_after skip inside) ≡ true
  pub short : skip ≤ length inside

-- the closing quote that was found closes the literal
pub literal_takes : (q : ℕ) → q ≢ 10 → q ≢ 13 → (skip : ℕ) (escaped : Bool) (text rest : List ℕ)
    → after_literal q skip escaped text ≡ Some rest → IsInside q skip escaped text rest
unfolding after_literal joined_after is_quotable
literal_takes q a b zero escaped [] rest e = absurd (cc)
literal_takes q a b (suc skip) escaped [] rest e = absurd (cc)
literal_takes q a b (suc skip) escaped (c ∷ t) rest e =
    let h = literal_takes q a b skip escaped t rest e in
    record { inside = c ∷ h.inside; parts = ap (λ (x : List ℕ). c ∷ x) h.parts; quotable = h.quotable; short = omega (arith, h.short) }
literal_takes q a b zero true (c ∷ t) rest e =
    elim (is_either (nat_lt 0 (splice_length (c ∷ t)))) [
      | inl f ↦
          (let h = literal_takes q a b (splice_length (c ∷ t) - 1) true t rest (rw f at e) in
          let same : splice_length (c ∷ t) ≡ splice_length (c ∷ h.inside) = ap (λ (x : List ℕ). splice_length (c ∷ x)) h.parts ∙ splice_before q a b c h.inside rest in
          record { inside = c ∷ h.inside; parts = ap (λ (x : List ℕ). c ∷ x) h.parts; quotable = rw (sym same, f) h.quotable; short = omega arith })
      | inr f ↦
          (let g = rw f at e in
          decide (λ (r : Option (List ℕ)). r ≡ Some rest → IsInside q 0 true (c ∷ t) rest) (c == 10) _ _
          (λ k l. absurd (cc))
          (λ k l.
          let h = literal_takes q a b 0 false t rest l in
          let same : splice_length (c ∷ t) ≡ splice_length (c ∷ h.inside) = ap (λ (x : List ℕ). splice_length (c ∷ x)) h.parts ∙ splice_before q a b c h.inside rest in
          record { inside = c ∷ h.inside; parts = ap (λ (x : List ℕ). c ∷ x) h.parts; quotable = rw (sym same, f, k) h.quotable; short = omega arith })
          g)
    ]
literal_takes q a b zero false (c ∷ t) rest e =
    elim (is_either (nat_lt 0 (splice_length (c ∷ t)))) [
      | inl f ↦
          (let h = literal_takes q a b (splice_length (c ∷ t) - 1) false t rest (rw f at e) in
          let same : splice_length (c ∷ t) ≡ splice_length (c ∷ h.inside) = ap (λ (x : List ℕ). splice_length (c ∷ x)) h.parts ∙ splice_before q a b c h.inside rest in
          record { inside = c ∷ h.inside; parts = ap (λ (x : List ℕ). c ∷ x) h.parts; quotable = rw (sym same, f) h.quotable; short = omega arith })
      | inr f ↦
          (let g = rw f at e in
          decide (λ (r : Option (List ℕ)). r ≡ Some rest → IsInside q 0 false (c ∷ t) rest) (c == 10) _ _
          (λ k l. absurd (cc))
          (λ k. decide (λ (r : Option (List ℕ)). r ≡ Some rest → IsInside q 0 false (c ∷ t) rest) (c == q) _ _
          (λ m l. let n : t ≡ rest = cc in
          record { inside = []; parts = ap (λ (x : ℕ). x ∷ t) (same_number c q m) ∙ ap (λ (x : List ℕ). q ∷ x) n; quotable = refl; short = omega arith })
          (λ m l.
          let h = literal_takes q a b 0 (c == 92) t rest l in
          let same : splice_length (c ∷ t) ≡ splice_length (c ∷ h.inside) = ap (λ (x : List ℕ). splice_length (c ∷ x)) h.parts ∙ splice_before q a b c h.inside rest in
          record { inside = c ∷ h.inside; parts = ap (λ (x : List ℕ). c ∷ x) h.parts; quotable = rw (sym same, f, k, m) h.quotable; short = omega arith }))
          g)
    ]

-- what stands before the first byte that is in no splice
pub record AreBefore (skip : ℕ) (text rest : List ℕ) : Type 0 where
  pub front : List ℕ
  pub parts : text ≡ front ++ rest
  pub only : joined_after skip front ≡ []
  pub stop : splice_length rest ≡ 0
  pub short : skip ≤ length front

-- the splices are before, and none follows
pub splices_takes : (skip : ℕ) (text : List ℕ) → skip ≤ length text → AreBefore skip text (after_splices skip text)
unfolding after_splices joined_after
splices_takes zero [] h = record { front = []; parts = refl; only = refl; stop = no_text; short = omega arith }
splices_takes (suc skip) [] h = absurd (omega arith)
splices_takes (suc skip) (c ∷ t) h =
    let b = splices_takes skip t (omega arith) in
    record { front = c ∷ b.front; parts = ap (λ (x : List ℕ). c ∷ x) b.parts; only = b.only; stop = b.stop; short = omega (arith, b.short) }
splices_takes zero (c ∷ t) h =
    decide (λ (r : List ℕ). AreBefore 0 (c ∷ t) r) (nat_lt 0 (splice_length (c ∷ t))) _ _
    (λ e.
    let b = splices_takes (splice_length (c ∷ t) - 1) t (omega (arith, splice_short (c ∷ t))) in
    let same : splice_length (c ∷ t) ≡ splice_length (c ∷ (b.front ++ after_splices (splice_length (c ∷ t) - 1) t)) = ap (λ (x : List ℕ). splice_length (c ∷ x)) b.parts in
    let some : 0 < splice_length (c ∷ t) = positive _ e in
    let there = splice_front c b.front (after_splices (splice_length (c ∷ t) - 1) t) (omega (arith, same)) (omega (arith, same, b.short)) in
    record { front = c ∷ b.front; parts = ap (λ (x : List ℕ). c ∷ x) b.parts; only = rw (there ∙ sym same, e) b.only; stop = b.stop; short = omega arith })
    (λ e. record { front = []; parts = refl; only = refl; stop = none_test _ e; short = omega arith })

-- splices are passed over
pub splices_again : (skip : ℕ) (front rest : List ℕ) → joined_after skip front ≡ [] → splice_length rest ≡ 0 → skip ≤ length front → after_splices skip (front ++ rest) ≡ rest
unfolding after_splices joined_after
splices_again zero [] [] only stop short = refl
splices_again zero [] (c ∷ t) only stop short = rw stop refl
splices_again (suc skip) [] rest only stop short = absurd (omega arith)
splices_again (suc skip) (c ∷ front) rest only stop short = splices_again skip front rest only stop (omega arith)
splices_again zero (c ∷ front) rest only stop short =
    elim (is_either (nat_lt 0 (splice_length (c ∷ front)))) [
      | inl e ↦
          (let same = splice_more (c ∷ front) rest (positive _ e) in
          rw (same, e) (splices_again (splice_length (c ∷ front) - 1) front rest (rw e at only) stop (omega (arith, splice_short (c ∷ front)))))
      | inr e ↦ (let h = rw e at only in absurd (cc))
    ]

-- Where splices and trigraphs stand in a piece.
use Rattle.std.proofs.Common.{◌≡◌, ℕ, zero, suc, ◌+◌, ◌-◌, ◌<◌, List, [], ◌∷◌, ◌++◌, length, take, drop, refl, sym, ◌∙◌, ap, subst, arith, Bool, true, false, ◌⊎◌, inl, inr}
use Rattle.std.specs.Prelude.{◌==◌, nat_lt, ◌&&◌, not, Option, Some, None}
use Rattle.std.specs.List.{list_all}
use Rattle.std.proofs.lemmas.List.{take-append-drop}
use Rattle.p10_lex.specs.declared.faults.Fault.{Fault}
use Rattle.p10_lex.specs.Bytes.{is_nondigit, is_digit, is_name_byte, is_sign}
use Rattle.p10_lex.specs.Splices.{line_end_length, splice_length, joined_after, joined}
use Rattle.p10_lex.specs.Lexemes.{goes_on_number, all_go_on_number, is_punctuator}
use Rattle.p10_lex.specs.Refusals.{begins_trigraph}
use Rattle.p10_lex.specs.private.Reading.{mark_at, fault_of}
use Rattle.p10_lex.proofs.Classes.{decide, and_both, both_and, same_number, number_same, not_true}
use Rattle.p10_lex.proofs.SpliceLaws.{is_either, positive, none_test, no_splice}
use Rattle.p10_lex.proofs.Punctuation.{punctuator_rest}
use Rattle.p10_base.specs.declared.codes.WordCode.TheVariants.{Trigraph, SpliceInWord}

-- no byte of the text begins a trigraph
abbrev pub HasNoMark : List ℕ → Type 0
HasNoMark text = list_all (λ d. not (d == 63)) text ≡ true

-- a trigraph begins with a question mark
pub trigraph_head : (c : ℕ) (t : List ℕ) → begins_trigraph (c ∷ t) ≡ true → c ≡ 63
unfolding begins_trigraph
trigraph_head c [] e = absurd (cc)
trigraph_head c (d ∷ []) e = absurd (cc)
trigraph_head c (d ∷ f ∷ t) e = same_number c 63 (and_both (c == 63) _ e).0

-- a splice begins with a backslash
pub splice_head : (c : ℕ) (t : List ℕ) → 0 < splice_length (c ∷ t) → c ≡ 92
splice_head c t some = elim (is_either (c == 92)) [
  | inl e ↦ same_number c 92 e
  | inr e ↦ absurd (let h = no_splice c t (λ x. let f = number_same c 92 x in cc) in omega arith)
]

-- no trigraph begins in a text without a question mark
pub no_trigraph : (text rest : List ℕ) (i : ℕ) → HasNoMark text → i < length text → begins_trigraph (drop i (text ++ rest)) ≡ true → ⊥
no_trigraph [] rest i all within e = omega arith
no_trigraph (c ∷ t) rest zero all within e =
    let (x, y) = and_both (not (c == 63)) (list_all (λ d. not (d == 63)) t) all in
    let f = number_same c 63 (trigraph_head c (t ++ rest) e) in
    let g = not_true (c == 63) x in cc
no_trigraph (c ∷ t) rest (suc i) all within e =
    let (x, y) = and_both (not (c == 63)) (list_all (λ d. not (d == 63)) t) all in
    no_trigraph t rest i y (omega arith) e

-- what cannot be is not
not_mark : (b : Bool) → (b ≡ true → ⊥) → not b ≡ true
not_mark true h = absurd (h refl)
not_mark false h = refl

-- a class without `?` has no mark
pub class_mark : (test : ℕ → Bool) (text : List ℕ) → test 63 ≡ false → list_all test text ≡ true → HasNoMark text
class_mark test [] e all = refl
class_mark test (c ∷ t) e all =
    let (x, y) = and_both (test c) (list_all test t) all in
    both_and _ _ (not_mark (c == 63) (λ h. let f = ap test (same_number c 63 h) in cc)) (class_mark test t e y)

-- no question mark goes on with a number
goes_on_mark : (old c : ℕ) → goes_on_number old c ≡ true → not (c == 63) ≡ true
unfolding goes_on_number is_name_byte is_nondigit is_digit is_sign
goes_on_mark old c e = not_mark (c == 63) (λ h. let f = same_number c 63 h in let g = ap (goes_on_number old) (sym f) ∙ e in cc)

-- a number has no question mark
pub number_mark : (old : ℕ) (text : List ℕ) → all_go_on_number old text ≡ true → HasNoMark text
unfolding all_go_on_number
number_mark old [] all = refl
number_mark old (c ∷ t) all =
    let (x, y) = and_both (goes_on_number old c) (all_go_on_number c t) all in
    both_and _ _ (goes_on_mark old c x) (number_mark c t y)

-- the bytes of a line's end are no marks
line_end_mark : (t : List ℕ) → HasNoMark (take (line_end_length t) t)
unfolding line_end_length
line_end_mark [] = refl
line_end_mark (b ∷ []) =
    decide (λ (n : ℕ). HasNoMark (take n (b ∷ []))) (b == 10) _ _ (λ e. let h = same_number b 10 e in rw h refl) (λ e. refl)
line_end_mark (b ∷ c ∷ t) =
    decide (λ (n : ℕ). HasNoMark (take n (b ∷ c ∷ t))) (b == 10) _ _ (λ e. let h = same_number b 10 e in rw h refl)
    (λ f. decide (λ (n : ℕ). HasNoMark (take n (b ∷ c ∷ t))) ((b == 13) && (c == 10)) _ _
    (λ e. let (x, y) = and_both (b == 13) (c == 10) e in let h = same_number b 13 x in let k = same_number c 10 y in rw (h, k) refl) (λ e. refl))

-- a splice is a backslash and the end of a line
after_backslash : (c : ℕ) (t : List ℕ) → 0 < splice_length (c ∷ t) → splice_length (c ∷ t) ≡ 1 + line_end_length t
unfolding splice_length
after_backslash c t some = elim (is_either ((c == 92) && nat_lt 0 (line_end_length t))) [
  | inl e ↦ rw e refl
  | inr e ↦ absurd (let h = rw e at some in omega (arith, h))
]

-- two texts without a question mark
both_marks : (xs ys : List ℕ) → HasNoMark xs → HasNoMark ys → HasNoMark (xs ++ ys)
both_marks [] ys a b = b
both_marks (x ∷ xs) ys a b =
    let (c, d) = and_both (not (x == 63)) (list_all (λ d. not (d == 63)) xs) a in both_and _ _ c (both_marks xs ys d b)

-- splices have no question mark
splices_mark : (skip : ℕ) (text : List ℕ) → joined_after skip text ≡ [] → HasNoMark (drop skip text)
unfolding joined_after
splices_mark zero [] e = refl
splices_mark (suc skip) [] e = refl
splices_mark (suc skip) (c ∷ t) e = splices_mark skip t e
splices_mark zero (c ∷ t) e = elim (is_either (nat_lt 0 (splice_length (c ∷ t)))) [
  | inl h ↦
      (let some : 0 < splice_length (c ∷ t) = positive (splice_length (c ∷ t)) h in
      let n : splice_length (c ∷ t) - 1 ≡ line_end_length t = omega (arith, after_backslash c t some) in
      let here : c ≡ 92 = splice_head c t some in
      let rest = splices_mark (splice_length (c ∷ t) - 1) t (rw h at e) in
      let behind : HasNoMark (drop (line_end_length t) t) = subst (λ (k : ℕ). HasNoMark (drop k t)) n rest in
      let all : HasNoMark (take (line_end_length t) t ++ drop (line_end_length t) t) = both_marks (take (line_end_length t) t) (drop (line_end_length t) t) (line_end_mark t) behind in
      let whole : HasNoMark t = subst (λ (x : List ℕ). HasNoMark x) (take-append-drop (line_end_length t) t) all in
      rw here whole)
  | inr h ↦ absurd (let f = rw h at e in cc)
]

-- nor has a text of splices alone
pub all_splices_mark : (text : List ℕ) → joined text ≡ [] → HasNoMark text
all_splices_mark text e = splices_mark 0 text e

-- after its first byte a punctuator has none
pub punctuator_mark : (c : ℕ) (t : List ℕ) → is_punctuator (c ∷ t) ≡ true → HasNoMark t
punctuator_mark c t e = punctuator_rest c t e

-- here or further on
at_or_past : (i c : ℕ) (t : List ℕ) → splice_length (c ∷ t) ≡ 0 → begins_trigraph (c ∷ t) ≡ false
    → ((j : ℕ) → i ≡ suc j → (splice_length (drop j t) ≡ 0) × (begins_trigraph (drop j t) ≡ false))
    → (splice_length (drop i (c ∷ t)) ≡ 0) × (begins_trigraph (drop i (c ∷ t)) ≡ false)
at_or_past zero c t a b more = (a, b)
at_or_past (suc j) c t a b more = more j refl

-- here or further on, below a bound
at_or_past_under : (i n c : ℕ) (t : List ℕ) → splice_length (c ∷ t) ≡ 0 → begins_trigraph (c ∷ t) ≡ false → i < suc n
    → ((j : ℕ) → j < n → (splice_length (drop j t) ≡ 0) × (begins_trigraph (drop j t) ≡ false))
    → (splice_length (drop i (c ∷ t)) ≡ 0) × (begins_trigraph (drop i (c ∷ t)) ≡ false)
at_or_past_under zero n c t a b h more = (a, b)
at_or_past_under (suc j) n c t a b h more = more j (omega arith)

-- what the search for splices and trigraphs found
pub record IsFirstMark (o k : ℕ) (t : List ℕ) (fault : Fault) : Type 0 where
  pub at : ℕ
  pub within : at < k
  pub is : ((fault_of SpliceInWord (o + at) 1 ≡ fault) × (0 < splice_length (drop at t))) ⊎ ((fault_of Trigraph (o + at) 3 ≡ fault) × (splice_length (drop at t) ≡ 0) × (begins_trigraph (drop at t) ≡ true))
  pub before : (j : ℕ) → j < at → (splice_length (drop j t) ≡ 0) × (begins_trigraph (drop j t) ≡ false)

-- where nothing is found, nothing stands
pub mark_none : (o k : ℕ) (t : List ℕ) → mark_at o k t ≡ None → (i : ℕ) → i < k → i < length t → (splice_length (drop i t) ≡ 0) × (begins_trigraph (drop i t) ≡ false)
unfolding mark_at
mark_none o zero t e i a b = absurd (omega arith)
mark_none o (suc k) [] e i a b = absurd (omega arith)
mark_none o (suc k) (c ∷ t) e i a b =
    decide (λ (r : Option Fault). r ≡ None → (splice_length (drop i (c ∷ t)) ≡ 0) × (begins_trigraph (drop i (c ∷ t)) ≡ false)) (nat_lt 0 (splice_length (c ∷ t))) _ _
    (λ h f. absurd (cc))
    (λ h. decide (λ (r : Option Fault). r ≡ None → (splice_length (drop i (c ∷ t)) ≡ 0) × (begins_trigraph (drop i (c ∷ t)) ≡ false)) (begins_trigraph (c ∷ t)) _ _
    (λ g f. absurd (cc))
    (λ g f. at_or_past i c t (none_test _ h) g (λ j p. mark_none (o + 1) k t f j (omega arith) (omega arith))))
    e

-- what is found is the first
pub mark_some : (o k : ℕ) (t : List ℕ) (fault : Fault) → mark_at o k t ≡ Some fault → IsFirstMark o k t fault
unfolding mark_at
mark_some o zero t fault e = absurd (cc)
mark_some o (suc k) [] fault e = absurd (cc)
mark_some o (suc k) (c ∷ t) fault e =
    decide (λ (r : Option Fault). r ≡ Some fault → IsFirstMark o (suc k) (c ∷ t) fault) (nat_lt 0 (splice_length (c ∷ t))) _ _
    (λ h f.
    let z : o + 0 ≡ o = omega arith in
    let p : fault_of SpliceInWord o 1 ≡ fault = cc in
    record { at = 0; within = omega arith; is = inl (ap (λ (x : ℕ). fault_of SpliceInWord x 1) z ∙ p, positive _ h); before = λ j q. absurd (omega arith) })
    (λ h. decide (λ (r : Option Fault). r ≡ Some fault → IsFirstMark o (suc k) (c ∷ t) fault) (begins_trigraph (c ∷ t)) _ _
    (λ g f.
    let z : o + 0 ≡ o = omega arith in
    let p : fault_of Trigraph o 3 ≡ fault = cc in
    record { at = 0; within = omega arith; is = inr (ap (λ (x : ℕ). fault_of Trigraph x 3) z ∙ p, none_test _ h, g); before = λ j q. absurd (omega arith) })
    (λ g f.
    let m = mark_some (o + 1) k t fault f in
    let z : o + suc m.at ≡ (o + 1) + m.at = omega arith in
    let m_within = m.within in
    record {
      at = suc m.at;
      within = omega arith;
      is = elim m.is [ inl (p, q) ↦ inl (ap (λ (x : ℕ). fault_of SpliceInWord x 1) z ∙ p, q) | inr (p, q, r) ↦ inr (ap (λ (x : ℕ). fault_of Trigraph x 3) z ∙ p, q, r) ];
      before = λ j q. at_or_past_under j m.at c t (none_test _ h) g q (λ i p. m.before i p);
    }))
    e

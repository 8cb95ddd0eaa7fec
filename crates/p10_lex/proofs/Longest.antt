-- Words are the longest lexemes at their places.
use Rattle.std.proofs.Common.{◌≡◌, ◌≢◌, ℕ, List, [], ◌∷◌, ◌++◌, refl, sym, ◌∙◌, ap, subst, arith, Bool, true, false, inl, inr, append_assoc}
use Rattle.std.specs.Prelude.{◌==◌, not, Option, Some}
use Rattle.std.specs.List.{list_all}
use Rattle.p10_base.specs.declared.word.Kind.{Kind}
use Rattle.p10_base.specs.declared.word.Kind.TheVariants.{Name, Number, Char, Str, Punct, Mark}
use Rattle.p10_lex.specs.Bytes.{is_blank, is_nondigit, is_quote, is_name_byte}
use Rattle.p10_lex.specs.Splices.{joined}
use Rattle.p10_lex.specs.Lexemes.{begins_digit, begins_number, all_go_on_number, is_quotable, is_header_byte, is_punctuator, IsLexeme}
use Rattle.p10_lex.specs.Characters.{begins_with}
use Rattle.p10_lex.specs.private.Runs.{after_literal, after_header}
use Rattle.p10_lex.proofs.Classes.{and_both, nondigit_is, number_head, number_not_blank, quote_is}
use Rattle.p10_lex.proofs.RunLaws.{all_both, header_again}
use Rattle.p10_lex.proofs.SpliceLaws.{literal_again}
use Rattle.p10_lex.proofs.Punctuation.{punctuator_head, punctuator_class, punctuator_second, no_angle}

-- nothing of what follows a run passes
run_stops : (test : ℕ → Bool) (rest more after : List ℕ) → rest ≡ more ++ after → begins_with test rest ≡ false → list_all test more ≡ true → more ≡ []
unfolding begins_with
run_stops test rest [] after e stop all = refl
run_stops test rest (d ∷ more) after e stop all =
    let (x, y) = and_both (test d) (list_all test more) all in
    let here : begins_with test rest ≡ test d = ap (begins_with test) e in
    absurd (cc)

-- a name is the longest lexeme where no byte of a name follows
pub name_longest : (b : Bool) (c : ℕ) (front rest : List ℕ) → is_nondigit c ≡ true → list_all is_name_byte front ≡ true → begins_with is_name_byte rest ≡ false
    → (other : Kind) (more after : List ℕ) → rest ≡ more ++ after → IsLexeme b other (c ∷ (front ++ more)) → more ≡ []
name_longest b c front rest here all stop Name more after e lexeme =
    run_stops is_name_byte rest more after e stop (all_both is_name_byte front more lexeme.1).1
name_longest b c front rest here all stop Number more after e lexeme =
    absurd (let f = (number_not_blank c (front ++ more) lexeme.0).1 in cc)
name_longest b c front rest here all stop Char more after e lexeme =
    absurd ((nondigit_is c here).0 (let p = lexeme.parts in cc))
name_longest b c front rest here all stop Str more after e (inl lexeme) =
    absurd ((nondigit_is c here).1 (let p = lexeme.parts in cc))
name_longest b c front rest here all stop Str more after e (inr (asked, lexeme)) =
    absurd ((nondigit_is c here).4 (let p = lexeme.parts in cc))
name_longest b c front rest here all stop Punct more after e lexeme =
    absurd (let f = (punctuator_class c (punctuator_head c (front ++ more) lexeme)).nondigit in cc)
name_longest b c front rest here all stop Mark more after e lexeme = absurd lexeme

-- no punctuator begins with a number
no_number : (c : ℕ) (front more : List ℕ) → begins_number (c ∷ front) ≡ true → is_punctuator (c ∷ (front ++ more)) ≡ true → ⊥
unfolding begins_digit
no_number c [] more here is = elim (number_head c [] here) [
  | inl h ↦ (let f = (punctuator_class c (punctuator_head c _ is)).digit in cc)
  | inr (h, k) ↦ cc
]
no_number c (d ∷ front) more here is = elim (number_head c (d ∷ front) here) [
  | inl h ↦ (let f = (punctuator_class c (punctuator_head c _ is)).digit in cc)
  | inr (h, k) ↦ (let f = punctuator_second c d (front ++ more) is in cc)
]

-- a number is the longest lexeme where no byte goes on with it
pub number_longest : (b : Bool) (c : ℕ) (front rest : List ℕ) → begins_number (c ∷ front) ≡ true
    → ((d : ℕ) (more after : List ℕ) → rest ≡ d ∷ after → all_go_on_number c (front ++ d ∷ more) ≡ true → ⊥)
    → (other : Kind) (more after : List ℕ) → rest ≡ more ++ after → IsLexeme b other (c ∷ (front ++ more)) → more ≡ []
number_longest b c front rest here stop Name more after e lexeme = absurd (let f = (number_not_blank c front here).1 in let g = lexeme.0 in cc)
number_longest b c front rest here stop Number [] after e lexeme = refl
number_longest b c front rest here stop Number (d ∷ more) after e lexeme = absurd (stop d more (more ++ after) e lexeme.1)
number_longest b c front rest here stop Char more after e lexeme = absurd ((number_not_blank c front here).2 (let p = lexeme.parts in cc))
number_longest b c front rest here stop Str more after e (inl lexeme) = absurd ((number_not_blank c front here).3 (let p = lexeme.parts in cc))
number_longest b c front rest here stop Str more after e (inr (asked, lexeme)) = absurd ((number_not_blank c front here).5 (let p = lexeme.parts in cc))
number_longest b c front rest here stop Punct more after e lexeme = absurd (no_number c front more here lexeme)
number_longest b c front rest here stop Mark more after e lexeme = absurd lexeme

-- what a quote is
pub record IsQuoteByte (q : ℕ) : Type 0 where
  pub lf : q ≢ 10
  pub cr : q ≢ 13
  pub backslash : q ≢ 92
  pub angle : q ≢ 60
  pub slash : q ≢ 47
  pub nondigit : is_nondigit q ≡ false
  pub blank : is_blank q ≡ false
  pub quote : is_quote q ≡ true

-- a single quote is one
pub single_quote : IsQuoteByte 39
unfolding is_nondigit is_blank is_quote
single_quote = record { lf = omega arith; cr = omega arith; backslash = omega arith; angle = omega arith; slash = omega arith; nondigit = refl; blank = refl; quote = refl }

-- a double quote is one
pub double_quote : IsQuoteByte 34
unfolding is_nondigit is_blank is_quote
double_quote = record { lf = omega arith; cr = omega arith; backslash = omega arith; angle = omega arith; slash = omega arith; nondigit = refl; blank = refl; quote = refl }

-- each quote is one
pub quote_byte : (q : ℕ) → is_quote q ≡ true → IsQuoteByte q
quote_byte q e = elim (quote_is q e) [ inl h ↦ subst IsQuoteByte (sym h) single_quote | inr h ↦ subst IsQuoteByte (sym h) double_quote ]

-- a literal has one end
quoted_only : (q : ℕ) → IsQuoteByte q → (inside other more : List ℕ) → is_quotable q false (joined inside) ≡ true → is_quotable q false (joined other) ≡ true
    → (inside ++ q ∷ []) ++ more ≡ other ++ q ∷ [] → more ≡ []
quoted_only q is inside other more here there e =
    let first = literal_again q is.lf is.cr is.backslash 0 false inside more here (omega arith) in
    let second = literal_again q is.lf is.cr is.backslash 0 false other [] there (omega arith) in
    let same : inside ++ q ∷ more ≡ other ++ q ∷ [] = sym (append_assoc inside (q ∷ []) more) ∙ e in
    let both : ◌≡◌ {A = Option (List ℕ)} (Some more) (Some []) = sym first ∙ (ap (after_literal q 0 false) same ∙ second) in
    cc

-- the tail of a text that is put together
pub tail_is : (a b : ℕ) (xs ys : List ℕ) → a ∷ xs ≡ b ∷ ys → xs ≡ ys
tail_is a b xs ys e = cc

-- the head of a text that is put together
pub head_is : (a b : ℕ) (xs ys : List ℕ) → a ∷ xs ≡ b ∷ ys → a ≡ b
head_is a b xs ys e = cc

-- a literal with its closing quote is the longest lexeme
pub quoted_longest : (b : Bool) (q : ℕ) (inside rest : List ℕ) → IsQuoteByte q → is_quotable q false (joined inside) ≡ true
    → (other : Kind) (more after : List ℕ) → rest ≡ more ++ after → IsLexeme b other (q ∷ ((inside ++ q ∷ []) ++ more)) → more ≡ []
quoted_longest b q inside rest is here Name more after e lexeme = absurd (let f = is.nondigit in let g = lexeme.0 in cc)
quoted_longest b q inside rest is here Number more after e lexeme =
    let (x, y, z, w, v, u) = number_not_blank q ((inside ++ q ∷ []) ++ more) lexeme.0 in
    absurd (elim (quote_is q is.quote) [ inl h ↦ z h | inr h ↦ w h ])
quoted_longest b q inside rest is here Char more after e lexeme =
    let h : q ≡ 39 = head_is _ _ _ _ lexeme.parts in
    quoted_only q is inside lexeme.inside more here (subst (λ (x : ℕ). is_quotable x false (joined lexeme.inside) ≡ true) (sym h) lexeme.quotable)
    (tail_is _ _ _ _ lexeme.parts ∙ ap (λ (x : ℕ). lexeme.inside ++ x ∷ []) (sym h))
quoted_longest b q inside rest is here Str more after e (inl lexeme) =
    let h : q ≡ 34 = head_is _ _ _ _ lexeme.parts in
    quoted_only q is inside lexeme.inside more here (subst (λ (x : ℕ). is_quotable x false (joined lexeme.inside) ≡ true) (sym h) lexeme.quotable)
    (tail_is _ _ _ _ lexeme.parts ∙ ap (λ (x : ℕ). lexeme.inside ++ x ∷ []) (sym h))
quoted_longest b q inside rest is here Str more after e (inr (asked, lexeme)) = absurd (is.angle (head_is _ _ _ _ lexeme.parts))
quoted_longest b q inside rest is here Punct more after e lexeme =
    absurd (let f = (punctuator_class q (punctuator_head q _ lexeme)).quote in let g = is.quote in cc)
quoted_longest b q inside rest is here Mark more after e lexeme = absurd lexeme

-- an include name has one end
pub header_longest : (b : Bool) (inside rest : List ℕ) → list_all is_header_byte inside ≡ true
    → (other : Kind) (more after : List ℕ) → rest ≡ more ++ after → IsLexeme b other (60 ∷ ((inside ++ 62 ∷ []) ++ more)) → more ≡ []
unfolding is_nondigit
header_longest b inside rest here Name more after e lexeme = absurd (let g = lexeme.0 in cc)
header_longest b inside rest here Number more after e lexeme =
    absurd ((number_not_blank 60 ((inside ++ 62 ∷ []) ++ more) lexeme.0).5 refl)
header_longest b inside rest here Char more after e lexeme = absurd (let h : 60 ≡ 39 = head_is _ _ _ _ lexeme.parts in omega arith)
header_longest b inside rest here Str more after e (inl lexeme) = absurd (let h : 60 ≡ 34 = head_is _ _ _ _ lexeme.parts in omega arith)
header_longest b inside rest here Str more after e (inr (asked, lexeme)) =
    let first = header_again inside more here in
    let second = header_again lexeme.inside [] lexeme.one_line in
    let same : inside ++ 62 ∷ more ≡ lexeme.inside ++ 62 ∷ [] = sym (append_assoc inside (62 ∷ []) more) ∙ tail_is _ _ _ _ lexeme.parts in
    let both : ◌≡◌ {A = Option (List ℕ)} (Some more) (Some []) = sym first ∙ (ap after_header same ∙ second) in
    cc
header_longest b inside rest here Punct more after e lexeme =
    let all = no_angle ((inside ++ 62 ∷ []) ++ more) lexeme in
    let front = (all_both (λ d. not (d == 62)) (inside ++ 62 ∷ []) more all).0 in
    let last = (all_both (λ d. not (d == 62)) inside (62 ∷ []) front).1 in
    absurd (cc)
header_longest b inside rest here Mark more after e lexeme = absurd lexeme

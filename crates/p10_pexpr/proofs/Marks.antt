-- What single words decide, from the conditions on trees.
use Rattle.std.proofs.Common.{◌≡◌, ◌<◌, ◌≤◌, List, [], ◌∷◌, Bool, true, false, ◌&&◌, ◌||◌, not, cond, refl, sym, ◌∙◌, ap, arith}
use Rattle.std.proofs.lemmas.Bool.{false≢true}
use Rattle.p10_syn.specs.declared.sign.Sign.{Sign}
use Rattle.p10_syn.specs.declared.sign.Sign.TheVariants as sign
use Rattle.p10_syn.specs.declared.setting.Setting.{Setting}
use Rattle.p10_syn.specs.declared.setting.Said.{Said}
use Rattle.p10_syn.specs.Signs.{same_sign}
use Rattle.p10_syn.specs.Symbols.{Symbol, Name, Number, Character, String, Fixed}
use Rattle.p10_syn.specs.Scopes.{Scope, is_type}
use Rattle.p10_syn.specs.Precedence.{binary_level, is_unary, is_step, is_assign}
use Rattle.p10_syn.specs.Forms.{is_storage, is_qualifier, is_inline, is_type_word, is_structure, is_specifier_word, may_store, says_no_name}
use Rattle.p10_pexpr.specs.declared.next.Next.{Next}
use Rattle.p10_pexpr.specs.declared.next.Next.TheVariants.{Joins, Sets, Asks, Lists, Counts, Ends}
use Rattle.p10_pexpr.specs.declared.next.Start.{Start}
use Rattle.p10_pexpr.specs.declared.next.Start.TheVariants.{Groups, Operates, Steps, Measures}
use Rattle.p10_pexpr.specs.declared.next.Start.TheVariants as start
use Rattle.p10_pexpr.specs.declared.next.Specifying.TheVariants.{Word, Structured, Enumerated, Other}
use Rattle.p10_pexpr.specs.Heads.{heads}
use Rattle.p10_pexpr.specs.Tables.{next_of_sign, next_at, pull, start_of, is_enumeration, is_specifier_start, begins_specifiers, specifying_sign, specifying_at, is_other}
use Rattle.p10_pexpr.proofs.SameSigns.{same_is}

-- ## After an expression

pub joins_again : (s : Sign) → 4 ≤ binary_level s → next_of_sign s ≡ Joins s
joins_again sign.OrOr h = refl
joins_again sign.AndAnd h = refl
joins_again sign.Bar h = refl
joins_again sign.Caret h = refl
joins_again sign.And h = refl
joins_again sign.Equal h = refl
joins_again sign.NotEqual h = refl
joins_again sign.Less h = refl
joins_again sign.Greater h = refl
joins_again sign.LessEqual h = refl
joins_again sign.GreaterEqual h = refl
joins_again sign.ShiftLeft h = refl
joins_again sign.ShiftRight h = refl
joins_again sign.Plus h = refl
joins_again sign.Minus h = refl
joins_again sign.Star h = refl
joins_again sign.Slash h = refl
joins_again sign.Percent h = refl
joins_again _ h = absurd (omega (arith, h))

pub sets_again : (s : Sign) → is_assign s ≡ true → next_of_sign s ≡ Sets s
sets_again sign.Assign h = refl
sets_again sign.StarAssign h = refl
sets_again sign.SlashAssign h = refl
sets_again sign.PercentAssign h = refl
sets_again sign.PlusAssign h = refl
sets_again sign.MinusAssign h = refl
sets_again sign.ShiftLeftAssign h = refl
sets_again sign.ShiftRightAssign h = refl
sets_again sign.AndAssign h = refl
sets_again sign.CaretAssign h = refl
sets_again sign.BarAssign h = refl
sets_again _ h = absurd (false≢true h)

pub counts_again : (s : Sign) → is_step s ≡ true → next_of_sign s ≡ Counts s
counts_again sign.Increment h = refl
counts_again sign.Decrement h = refl
counts_again _ h = absurd (false≢true h)

pub level_low : (s : Sign) → binary_level s ≤ 13
level_low sign.OrOr = omega arith
level_low sign.AndAnd = omega arith
level_low sign.Bar = omega arith
level_low sign.Caret = omega arith
level_low sign.And = omega arith
level_low sign.Equal = omega arith
level_low sign.NotEqual = omega arith
level_low sign.Less = omega arith
level_low sign.Greater = omega arith
level_low sign.LessEqual = omega arith
level_low sign.GreaterEqual = omega arith
level_low sign.ShiftLeft = omega arith
level_low sign.ShiftRight = omega arith
level_low sign.Plus = omega arith
level_low sign.Minus = omega arith
level_low sign.Star = omega arith
level_low sign.Slash = omega arith
level_low sign.Percent = omega arith
level_low _ = omega arith

-- nothing makes an expression of the level of casts or unary operators
pub pull_apart : (next : Next) → pull next < 16 → pull next < 14
pull_apart (Joins s) h = omega (arith, level_low s)
pull_apart (Sets s) h = omega arith
pull_apart Asks h = omega arith
pull_apart Lists h = omega arith
pull_apart Ends h = omega arith
pull_apart _ h = absurd (omega (arith, h))

comma_pulls : (s : Sign) → pull (next_of_sign s) < 1 → same_sign s sign.Comma ≡ false
comma_pulls sign.Comma h = absurd (omega (arith, h))
comma_pulls _ h = refl

pub no_comma : (symbols : List Symbol) → pull (next_at symbols) < 1 → heads sign.Comma symbols ≡ false
no_comma [] h = refl
no_comma (Fixed s ∷ rest) h = comma_pulls s h
no_comma (_ ∷ rest) h = refl

-- ## At the beginning of an operand

pub unary_again : (s : Sign) → is_unary s ≡ true → start_of s ≡ Operates s
unary_again sign.And h = refl
unary_again sign.Star h = refl
unary_again sign.Plus h = refl
unary_again sign.Minus h = refl
unary_again sign.Tilde h = refl
unary_again sign.Not h = refl
unary_again _ h = absurd (false≢true h)

pub step_again : (s : Sign) → is_step s ≡ true → start_of s ≡ Steps s
step_again sign.Increment h = refl
step_again sign.Decrement h = refl
step_again _ h = absurd (false≢true h)

abbrev pub is_start : Start → Bool
is_start start.Nothing = false
is_start _ = true

-- whether the words begin with that of an operand
abbrev pub begins_expression : Scope → List Symbol → Bool
begins_expression names [] = false
begins_expression names (Name x ∷ rest) = not (is_type names x)
begins_expression names (Number x ∷ rest) = true
begins_expression names (Character x ∷ rest) = true
begins_expression names (String x ∷ rest) = true
begins_expression names (Fixed s ∷ rest) = is_start (start_of s)
begins_expression names (_ ∷ rest) = false

pub unary_starts : (s : Sign) → is_unary s ≡ true → is_start (start_of s) ≡ true
unary_starts s h = ap is_start (unary_again s h)

pub step_starts : (s : Sign) → is_step s ≡ true → is_start (start_of s) ≡ true
step_starts s h = ap is_start (step_again s h)

pub unary_no_open : (s : Sign) → is_unary s ≡ true → same_sign s sign.Open ≡ false
unary_no_open sign.And h = refl
unary_no_open sign.Star h = refl
unary_no_open sign.Plus h = refl
unary_no_open sign.Minus h = refl
unary_no_open sign.Tilde h = refl
unary_no_open sign.Not h = refl
unary_no_open _ h = absurd (false≢true h)

pub step_no_open : (s : Sign) → is_step s ≡ true → same_sign s sign.Open ≡ false
step_no_open sign.Increment h = refl
step_no_open sign.Decrement h = refl
step_no_open _ h = absurd (false≢true h)

not_true : (b : Bool) → not b ≡ true → b ≡ false
not_true true h = absurd (false≢true h)
not_true false h = refl

start_no_specifier : (s : Sign) → is_start (start_of s) ≡ true → is_specifier_start s ≡ false
start_no_specifier sign.Open h = refl
start_no_specifier sign.And h = refl
start_no_specifier sign.Star h = refl
start_no_specifier sign.Plus h = refl
start_no_specifier sign.Minus h = refl
start_no_specifier sign.Tilde h = refl
start_no_specifier sign.Not h = refl
start_no_specifier sign.Increment h = refl
start_no_specifier sign.Decrement h = refl
start_no_specifier sign.Sizeof h = refl
start_no_specifier _ h = absurd (false≢true h)

-- no expression begins with a specifier
pub no_specifiers : (names : Scope) (symbols : List Symbol) → begins_expression names symbols ≡ true → begins_specifiers names symbols ≡ false
no_specifiers names [] h = refl
no_specifiers names (Name x ∷ rest) h = not_true (is_type names x) h
no_specifiers names (Fixed s ∷ rest) h = start_no_specifier s h
no_specifiers names (_ ∷ rest) h = refl

sign_apart : (s other : Sign) (b : Bool) → same_sign other s ≡ b → is_start (start_of other) ≡ true → is_start (start_of s) ≡ false → b ≡ false
sign_apart s other true same starts off = absurd (false≢true (sym off ∙ ap (λ x. is_start (start_of x)) (sym (same_is other s same)) ∙ starts))
sign_apart s other false same starts off = refl

-- and none begins with a sign that begins no operand
pub begins_no : (s : Sign) (names : Scope) (symbols : List Symbol) → begins_expression names symbols ≡ true → is_start (start_of s) ≡ false → heads s symbols ≡ false
begins_no s names [] h off = refl
begins_no s names (Fixed other ∷ rest) h off = sign_apart s other (same_sign other s) refl h off
begins_no s names (_ ∷ rest) h off = refl

-- ## Specifiers

pub word_again : (setting : Setting) (said : Said) (s : Sign) → is_specifier_word setting said s ≡ true → specifying_sign setting said s ≡ Word s
word_again setting said s h = ap (λ b. cond b (Word s) (cond (is_structure s && says_no_name said) (Structured s) (cond (is_enumeration s && says_no_name said) Enumerated Other))) h

pub structured_again : (setting : Setting) (said : Said) (s : Sign) → is_structure s ≡ true → says_no_name said ≡ true → specifying_sign setting said s ≡ Structured s
structured_again setting said sign.Struct h may = ap (λ b. cond b (Structured sign.Struct) Other) may
structured_again setting said sign.Union h may = ap (λ b. cond b (Structured sign.Union) Other) may
structured_again setting said _ h may = absurd (false≢true h)

pub enumerated_again : (setting : Setting) (said : Said) → says_no_name said ≡ true → specifying_sign setting said sign.Enum ≡ Enumerated
enumerated_again setting said may = ap (λ b. cond b Enumerated Other) may

words_begin : (a m b c d e f : Bool) → (a && m) || (b || (c || (d && e))) ≡ true → a || (b || (c || (d || f))) ≡ true
words_begin true m b c d e f h = refl
words_begin false m true c d e f h = refl
words_begin false m false true d e f h = refl
words_begin false m false false true e f h = refl
words_begin false m false false false e f h = absurd (false≢true h)

pub word_begins : (setting : Setting) (said : Said) (s : Sign) → is_specifier_word setting said s ≡ true → is_specifier_start s ≡ true
word_begins setting said s h = words_begin (is_storage s) (may_store setting) (is_qualifier s) (is_inline s) (is_type_word s) (says_no_name said) (is_structure s || is_enumeration s) h

pub structure_begins : (s : Sign) → is_structure s ≡ true → is_specifier_start s ≡ true
structure_begins sign.Struct h = refl
structure_begins sign.Union h = refl
structure_begins _ h = absurd (false≢true h)

start_apart : (s : Sign) → is_specifier_start s ≡ true → (same_sign s sign.Close ≡ false) × (same_sign s sign.OpenBrace ≡ false) × (same_sign s sign.CloseBrace ≡ false)
start_apart sign.Typedef h = (refl, refl, refl)
start_apart sign.Extern h = (refl, refl, refl)
start_apart sign.Static h = (refl, refl, refl)
start_apart sign.Auto h = (refl, refl, refl)
start_apart sign.Register h = (refl, refl, refl)
start_apart sign.Const h = (refl, refl, refl)
start_apart sign.Restrict h = (refl, refl, refl)
start_apart sign.Volatile h = (refl, refl, refl)
start_apart sign.Inline h = (refl, refl, refl)
start_apart sign.Void h = (refl, refl, refl)
start_apart sign.Char h = (refl, refl, refl)
start_apart sign.Short h = (refl, refl, refl)
start_apart sign.Int h = (refl, refl, refl)
start_apart sign.Long h = (refl, refl, refl)
start_apart sign.Float h = (refl, refl, refl)
start_apart sign.Double h = (refl, refl, refl)
start_apart sign.Signed h = (refl, refl, refl)
start_apart sign.Unsigned h = (refl, refl, refl)
start_apart sign.Bool h = (refl, refl, refl)
start_apart sign.Complex h = (refl, refl, refl)
start_apart sign.Imaginary h = (refl, refl, refl)
start_apart sign.Struct h = (refl, refl, refl)
start_apart sign.Union h = (refl, refl, refl)
start_apart sign.Enum h = (refl, refl, refl)
start_apart _ h = absurd (false≢true h)

-- what begins with a specifier begins with no bracket
pub specifiers_apart : (names : Scope) (symbols : List Symbol) → begins_specifiers names symbols ≡ true →
    (heads sign.Close symbols ≡ false) × (heads sign.OpenBrace symbols ≡ false) × (heads sign.CloseBrace symbols ≡ false)
specifiers_apart names [] h = absurd (false≢true h)
specifiers_apart names (Fixed s ∷ rest) h = start_apart s h
specifiers_apart names (_ ∷ rest) h = (refl, refl, refl)

start_no_dots : (s : Sign) → is_specifier_start s ≡ true → same_sign s sign.Ellipsis ≡ false
start_no_dots sign.Ellipsis h = absurd (false≢true h)
start_no_dots _ h = refl

pub specifiers_no_dots : (names : Scope) (symbols : List Symbol) → begins_specifiers names symbols ≡ true → heads sign.Ellipsis symbols ≡ false
specifiers_no_dots names [] h = refl
specifiers_no_dots names (Fixed s ∷ rest) h = start_no_dots s h
specifiers_no_dots names (_ ∷ rest) h = refl

-- ## The ends of declarators

abbrev pub ends_sign : Sign → Bool
ends_sign sign.Close = true
ends_sign sign.Comma = true
ends_sign sign.Semicolon = true
ends_sign sign.Colon = true
ends_sign sign.Assign = true
ends_sign sign.OpenBrace = true
ends_sign _ = false

-- whether the words begin with one that may stand after a declarator
abbrev pub ends_declarator : List Symbol → Bool
ends_declarator [] = false
ends_declarator (Fixed s ∷ rest) = ends_sign s
ends_declarator (_ ∷ rest) = false

-- what such a word isn't
pub record IsEnd (names : Scope) (symbols : List Symbol) : Type 0 where
  pub no_star : heads sign.Star symbols ≡ false
  pub no_square : heads sign.OpenSquare symbols ≡ false
  pub no_open : heads sign.Open symbols ≡ false
  pub no_specifier : (setting : Setting) (said : Said) → is_other (specifying_at names setting said symbols) ≡ true

end_sign : (names : Scope) (s : Sign) (rest : List Symbol) → ends_sign s ≡ true → IsEnd names (Fixed s ∷ rest)
end_sign names sign.Close rest h = record { no_star = refl; no_square = refl; no_open = refl; no_specifier = λ setting said. refl }
end_sign names sign.Comma rest h = record { no_star = refl; no_square = refl; no_open = refl; no_specifier = λ setting said. refl }
end_sign names sign.Semicolon rest h = record { no_star = refl; no_square = refl; no_open = refl; no_specifier = λ setting said. refl }
end_sign names sign.Colon rest h = record { no_star = refl; no_square = refl; no_open = refl; no_specifier = λ setting said. refl }
end_sign names sign.Assign rest h = record { no_star = refl; no_square = refl; no_open = refl; no_specifier = λ setting said. refl }
end_sign names sign.OpenBrace rest h = record { no_star = refl; no_square = refl; no_open = refl; no_specifier = λ setting said. refl }
end_sign names _ rest h = absurd (false≢true h)

pub end_is : (names : Scope) (symbols : List Symbol) → ends_declarator symbols ≡ true → IsEnd names symbols
end_is names [] h = absurd (false≢true h)
end_is names (Fixed s ∷ rest) h = end_sign names s rest h
end_is names (_ ∷ rest) h = absurd (false≢true h)

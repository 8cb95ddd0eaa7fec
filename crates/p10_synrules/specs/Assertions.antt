-- Assertions, which state what holds where they stand (Holzmann's rule 5).
use Rattle.std.specs.Prelude.{Bool, true, false, ◌||◌, ◌&&◌, not, Option, Some, None, codes, bytes_eq}
use Rattle.std.specs.List.{list_any}
use Rattle.p10_base.specs.Words.{Text}
use Rattle.p10_base.specs.declared.at.At.{At}
use Rattle.p10_syn.specs.declared.sign.Sign.{Sign}
use Rattle.p10_syn.specs.declared.sign.Sign.TheVariants as sign
use Rattle.p10_syn.specs.Trees.{Expression, expression, Name, Unary, Binary, Call, Expressions, NoExpressions, MoreExpressions}
use Rattle.p10_synrules.specs.Parts.{Part, ExpressionPart, NamePart, expression_parts}

-- whether an expression is this name, also in parentheses
abbrev pub is_named : Text → Expression At → Bool
is_named text (expression p n (Name x)) = bytes_eq x.name text
is_named text t = false

-- whether an expression is `c_assert`, a library function of this project
abbrev pub is_c_assert : Expression At → Bool
is_c_assert t = is_named (codes "c_assert") t

-- whether an expression is `assert` (C99 7.2.1.1) or `c_assert`
abbrev pub is_assert_name : Expression At → Bool
is_assert_name t = is_named (codes "assert") t || is_c_assert t

-- whether an expression is a call (C99 6.5.2.2)
abbrev pub is_call : Expression At → Bool
is_call (expression p n (Call f ts)) = true
is_call t = false

-- whether an expression is a call of `assert` or of `c_assert`: an assertion
abbrev pub is_assertion : Expression At → Bool
is_assertion (expression p n (Call f ts)) = is_assert_name f
is_assertion t = false

-- whether an expression is a call of `c_assert`
abbrev pub calls_c_assert : Expression At → Bool
calls_c_assert (expression p n (Call f ts)) = is_c_assert f
calls_c_assert t = false

-- the only one of these expressions, if there is exactly one
abbrev pub only_one : Expressions At → Option (Expression At)
only_one (MoreExpressions t NoExpressions) = Some t
only_one ts = None

-- the only one of these arguments, where the name before them is one of an assertion
abbrev pub stated_if : Bool → Expressions At → Option (Expression At)
stated_if true ts = only_one ts
stated_if false ts = None

-- what an assertion states: its only argument
abbrev pub stated_by : Expression At → Option (Expression At)
stated_by (expression p n (Call f ts)) = stated_if (is_assert_name f) ts
stated_by t = None

-- whether a part is a call
abbrev pub is_call_part : Part → Bool
is_call_part (ExpressionPart within t) = is_call t
is_call_part part = false

-- whether a part is a word that is a name
abbrev pub is_name_part : Part → Bool
is_name_part (NamePart x) = true
is_name_part part = false

-- whether a call stands in an expression
abbrev pub has_call : Expression At → Bool
has_call t = list_any is_call_part (expression_parts false t)

-- whether a name stands in an expression
abbrev pub has_any_name : Expression At → Bool
has_any_name t = list_any is_name_part (expression_parts false t)

-- whether an operator with one operand gives a truth value: `!` (C99 6.5.3.3)
abbrev pub is_negation : Sign → Bool
is_negation sign.Not = true
is_negation _ = false

-- whether an operator with two operands gives a truth value: `< > <= >= == != && ||` (C99 6.5.8, 6.5.9, 6.5.13, 6.5.14)
abbrev pub is_comparison : Sign → Bool
is_comparison sign.Less = true
is_comparison sign.Greater = true
is_comparison sign.LessEqual = true
is_comparison sign.GreaterEqual = true
is_comparison sign.Equal = true
is_comparison sign.NotEqual = true
is_comparison sign.AndAnd = true
is_comparison sign.OrOr = true
is_comparison _ = false

-- whether the top operator of an expression, parentheses aside, gives a truth value
abbrev pub is_test : Expression At → Bool
is_test (expression p n (Unary word t)) = is_negation word
is_test (expression p n (Binary word l r)) = is_comparison word
is_test t = false

-- whether there is an operand, and the test holds of it
abbrev pub holds_of : (Expression At → Bool) → Option (Expression At) → Bool
holds_of test None = false
holds_of test (Some operand) = test operand

-- whether an assertion has a call in what it states
abbrev pub states_call : Expression At → Bool
states_call t = holds_of has_call (stated_by t)

-- whether an assertion states something whose top operator gives no truth value
abbrev pub states_no_test : Expression At → Bool
states_no_test t = holds_of (λ operand. not (is_test operand)) (stated_by t)

-- whether an assertion is constant: no name stands in what it states
abbrev pub is_constant : Expression At → Bool
is_constant t = holds_of (λ operand. not (has_any_name operand)) (stated_by t)

-- whether a part is an assertion that isn't constant
abbrev pub is_sound_assertion : Part → Bool
is_sound_assertion (ExpressionPart within t) = is_assertion t && not (is_constant t)
is_sound_assertion part = false

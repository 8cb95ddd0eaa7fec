-- How tightly the forms of expressions hold together (C99 6.5).
use Rattle.std.specs.Prelude.{ℕ, zero, suc, Bool, true, false}
use Rattle.p10_syn.specs.declared.sign.Sign.{Sign}
use Rattle.p10_syn.specs.declared.sign.Sign.TheVariants as sign
use Rattle.p10_syn.specs.declared.place.Side.TheVariants.{Before, After}
use Rattle.p10_syn.specs.Trees.{Expression, expression, Form, Name, Number, Character, Strings, Unary, Step, Binary, Assign, Conditional, Call, Index, Member, Arrow, Cast, SizeofExpression, SizeofType, Comma}

-- the level of an operator between two operands, from 4 to 13; 0 for any other sign (C99 6.5.5 to 6.5.14)
abbrev pub binary_level : Sign → ℕ
binary_level sign.OrOr = 4
binary_level sign.AndAnd = 5
binary_level sign.Bar = 6
binary_level sign.Caret = 7
binary_level sign.And = 8
binary_level sign.Equal = 9
binary_level sign.NotEqual = 9
binary_level sign.Less = 10
binary_level sign.Greater = 10
binary_level sign.LessEqual = 10
binary_level sign.GreaterEqual = 10
binary_level sign.ShiftLeft = 11
binary_level sign.ShiftRight = 11
binary_level sign.Plus = 12
binary_level sign.Minus = 12
binary_level sign.Star = 13
binary_level sign.Slash = 13
binary_level sign.Percent = 13
binary_level _ = 0

-- whether a sign is an operator before its one operand, a cast (C99 6.5.3)
abbrev pub is_unary : Sign → Bool
is_unary sign.And = true
is_unary sign.Star = true
is_unary sign.Plus = true
is_unary sign.Minus = true
is_unary sign.Tilde = true
is_unary sign.Not = true
is_unary _ = false

-- whether a sign is `++` or `--` (C99 6.5.2.4, 6.5.3.1)
abbrev pub is_step : Sign → Bool
is_step sign.Increment = true
is_step sign.Decrement = true
is_step _ = false

-- whether a sign is an assignment operator (C99 6.5.16)
abbrev pub is_assign : Sign → Bool
is_assign sign.Assign = true
is_assign sign.StarAssign = true
is_assign sign.SlashAssign = true
is_assign sign.PercentAssign = true
is_assign sign.PlusAssign = true
is_assign sign.MinusAssign = true
is_assign sign.ShiftLeftAssign = true
is_assign sign.ShiftRightAssign = true
is_assign sign.AndAssign = true
is_assign sign.CaretAssign = true
is_assign sign.BarAssign = true
is_assign _ = false

-- the level of a form: 1 comma, 2 assignment, 3 `?:`, 4 to 13 operators between operands, 14 casts, 15 unary, 16 postfix
abbrev pub form_level : {P : Type 0} → Form P → ℕ
form_level (Name x) = 16
form_level (Number x) = 16
form_level (Character x) = 16
form_level (Strings xs) = 16
form_level (Unary s t) = 15
form_level (Step Before s t) = 15
form_level (Step After s t) = 16
form_level (Binary s l r) = binary_level s
form_level (Assign s l r) = 2
form_level (Conditional a b c) = 3
form_level (Call f ts) = 16
form_level (Index l r) = 16
form_level (Member t x) = 16
form_level (Arrow t x) = 16
form_level (Cast k t) = 14
form_level (SizeofExpression t) = 15
form_level (SizeofType k) = 15
form_level (Comma ts) = 1

-- a form in parentheses is a postfix expression
abbrev pub level_in : {P : Type 0} → ℕ → Form P → ℕ
level_in zero f = form_level f
level_in (suc n) f = 16

-- the level of an expression
abbrev pub level_of : {P : Type 0} → Expression P → ℕ
level_of (expression p n f) = level_in n f

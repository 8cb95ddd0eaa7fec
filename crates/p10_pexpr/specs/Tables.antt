-- What the next word decides.
use Rattle.std.specs.Prelude.{ℕ, nat_le, List, [], ◌∷◌, Bool, true, false, ◌&&◌, ◌||◌, cond}
use Rattle.p10_syn.specs.declared.sign.Sign.{Sign}
use Rattle.p10_syn.specs.declared.sign.Sign.TheVariants as sign
use Rattle.p10_syn.specs.declared.setting.Setting.{Setting}
use Rattle.p10_syn.specs.Symbols.{Symbol, Name, String, Fixed}
use Rattle.p10_syn.specs.Scopes.{Scope, is_type}
use Rattle.p10_syn.specs.Precedence.{binary_level}
use Rattle.p10_syn.specs.declared.setting.Said.{Said}
use Rattle.p10_syn.specs.Forms.{is_storage, is_qualifier, is_inline, is_type_word, is_structure, is_specifier_word, says_nothing, says_no_name}
use Rattle.p10_pexpr.specs.Heads.{heads}
use Rattle.p10_pexpr.specs.declared.next.Next.{Next}
use Rattle.p10_pexpr.specs.declared.next.Next.TheVariants.{Joins, Sets, Asks, Lists, Indexes, Calls, Selects, Points, Counts, Quotes, Ends}
use Rattle.p10_pexpr.specs.declared.next.Start.{Start}
use Rattle.p10_pexpr.specs.declared.next.Start.TheVariants.{Groups, Operates, Steps, Measures, Nothing}
use Rattle.p10_pexpr.specs.declared.next.Specifying.{Specifying}
use Rattle.p10_pexpr.specs.declared.next.Specifying.TheVariants.{Word, Structured, Enumerated, Renamed, Other}

-- ## After an expression

-- what a keyword or punctuator is to an expression before it (C99 6.5.2, 6.5.5 to 6.5.17)
abbrev pub next_of_sign : Sign → Next
next_of_sign sign.OrOr = Joins sign.OrOr
next_of_sign sign.AndAnd = Joins sign.AndAnd
next_of_sign sign.Bar = Joins sign.Bar
next_of_sign sign.Caret = Joins sign.Caret
next_of_sign sign.And = Joins sign.And
next_of_sign sign.Equal = Joins sign.Equal
next_of_sign sign.NotEqual = Joins sign.NotEqual
next_of_sign sign.Less = Joins sign.Less
next_of_sign sign.Greater = Joins sign.Greater
next_of_sign sign.LessEqual = Joins sign.LessEqual
next_of_sign sign.GreaterEqual = Joins sign.GreaterEqual
next_of_sign sign.ShiftLeft = Joins sign.ShiftLeft
next_of_sign sign.ShiftRight = Joins sign.ShiftRight
next_of_sign sign.Plus = Joins sign.Plus
next_of_sign sign.Minus = Joins sign.Minus
next_of_sign sign.Star = Joins sign.Star
next_of_sign sign.Slash = Joins sign.Slash
next_of_sign sign.Percent = Joins sign.Percent
next_of_sign sign.Assign = Sets sign.Assign
next_of_sign sign.StarAssign = Sets sign.StarAssign
next_of_sign sign.SlashAssign = Sets sign.SlashAssign
next_of_sign sign.PercentAssign = Sets sign.PercentAssign
next_of_sign sign.PlusAssign = Sets sign.PlusAssign
next_of_sign sign.MinusAssign = Sets sign.MinusAssign
next_of_sign sign.ShiftLeftAssign = Sets sign.ShiftLeftAssign
next_of_sign sign.ShiftRightAssign = Sets sign.ShiftRightAssign
next_of_sign sign.AndAssign = Sets sign.AndAssign
next_of_sign sign.CaretAssign = Sets sign.CaretAssign
next_of_sign sign.BarAssign = Sets sign.BarAssign
next_of_sign sign.Question = Asks
next_of_sign sign.Comma = Lists
next_of_sign sign.OpenSquare = Indexes
next_of_sign sign.Open = Calls
next_of_sign sign.Dot = Selects
next_of_sign sign.Arrow = Points
next_of_sign sign.Increment = Counts sign.Increment
next_of_sign sign.Decrement = Counts sign.Decrement
next_of_sign _ = Ends

-- what any word is to an expression before it; a string would be a part of the strings before it
abbrev pub next_of : Symbol → Next
next_of (Fixed s) = next_of_sign s
next_of (String x) = Quotes
next_of _ = Ends

-- what the next word is to an expression before it; where no word is left, the expression ends
abbrev pub next_at : List Symbol → Next
next_at [] = Ends
next_at (x ∷ rest) = next_of x

-- the level of the expression that the next word makes; that of a string is over all levels, since it would be a part
-- of the strings before it
abbrev pub pull : Next → ℕ
pull (Joins s) = binary_level s
pull (Sets s) = 2
pull Asks = 3
pull Lists = 1
pull Quotes = 17
pull Ends = 0
pull _ = 16

-- the level that the expression before the next word must have at least; none has that of a string
abbrev pub need : Next → ℕ
need (Joins s) = binary_level s
need (Sets s) = 15
need Asks = 4
need Lists = 2
need Quotes = 18
need Ends = 18
need _ = 16

-- whether the expression goes on with the next word, where one of this level at least is read and one of that level was
abbrev pub goes_on : ℕ → ℕ → Next → Bool
goes_on level held next = nat_le level (pull next) && nat_le (need next) held

-- ## At the beginning of an operand

-- what a keyword or punctuator begins where an operand is read (C99 6.5.1, 6.5.3, 6.5.4)
abbrev pub start_of : Sign → Start
start_of sign.Open = Groups
start_of sign.And = Operates sign.And
start_of sign.Star = Operates sign.Star
start_of sign.Plus = Operates sign.Plus
start_of sign.Minus = Operates sign.Minus
start_of sign.Tilde = Operates sign.Tilde
start_of sign.Not = Operates sign.Not
start_of sign.Increment = Steps sign.Increment
start_of sign.Decrement = Steps sign.Decrement
start_of sign.Sizeof = Measures
start_of _ = Nothing

-- ## Specifiers

-- the first word of enumerations (C99 6.7.2.2)
abbrev pub is_enumeration : Sign → Bool
is_enumeration sign.Enum = true
is_enumeration _ = false

-- whether a keyword begins specifiers
abbrev pub is_specifier_start : Sign → Bool
is_specifier_start s = is_storage s || (is_qualifier s || (is_inline s || (is_type_word s || (is_structure s || is_enumeration s))))

-- whether specifiers begin with this word
abbrev pub begins_specifier : Scope → Symbol → Bool
begins_specifier names (Name x) = is_type names x
begins_specifier names (Fixed s) = is_specifier_start s
begins_specifier names _ = false

-- whether the words begin with a specifier
abbrev pub begins_specifiers : Scope → List Symbol → Bool
begins_specifiers names [] = false
begins_specifiers names (x ∷ rest) = begins_specifier names x

-- what a keyword is after specifiers that said this of the type
abbrev pub specifying_sign : Setting → Said → Sign → Specifying
specifying_sign setting said s =
    cond (is_specifier_word setting said s) (Word s)
    (cond (is_structure s && says_no_name said) (Structured s)
    (cond (is_enumeration s && says_no_name said) Enumerated Other))

-- what any word is there
abbrev pub specifying_by : Scope → Setting → Said → Symbol → Specifying
specifying_by names setting said (Name x) = cond (is_type names x && says_nothing said) Renamed Other
specifying_by names setting said (Fixed s) = specifying_sign setting said s
specifying_by names setting said _ = Other

-- what the next word is there
abbrev pub specifying_at : Scope → Setting → Said → List Symbol → Specifying
specifying_at names setting said [] = Other
specifying_at names setting said (x ∷ rest) = specifying_by names setting said x

-- whether the next word is no specifier there
abbrev pub is_other : Specifying → Bool
is_other Other = true
is_other _ = false

-- whether the words open the parameters of a declarator without a name, and no declarator in parentheses
abbrev pub opens_parameters : Scope → List Symbol → Bool
opens_parameters names symbols = heads sign.Close symbols || begins_specifiers names symbols

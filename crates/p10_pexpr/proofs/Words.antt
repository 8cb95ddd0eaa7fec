-- From what the next word decides back to the word.
use Rattle.std.proofs.Common.{◌≡◌, ◌≤◌, List, [], ◌∷◌, drop, Bool, true, false, ◌&&◌, cond, refl, ap, arith}
use Rattle.std.proofs.lemmas.Bool.{false≢true, and_parts}
use Rattle.p10_base.specs.Words.{Text}
use Rattle.p10_syn.specs.declared.sign.Sign.{Sign}
use Rattle.p10_syn.specs.declared.sign.Sign.TheVariants as sign
use Rattle.p10_syn.specs.declared.setting.Setting.{Setting}
use Rattle.p10_syn.specs.declared.setting.Said.{Said}
use Rattle.p10_syn.specs.Symbols.{Symbol, Name, String, Fixed}
use Rattle.p10_syn.specs.Scopes.{Scope, is_type}
use Rattle.p10_syn.specs.Precedence.{binary_level, is_unary, is_step, is_assign}
use Rattle.p10_syn.specs.Forms.{is_structure, is_specifier_word, says_nothing, says_no_name}
use Rattle.p10_pexpr.specs.declared.next.Next.{Next}
use Rattle.p10_pexpr.specs.declared.next.Next.TheVariants.{Joins, Sets, Asks, Lists, Indexes, Calls, Selects, Points, Counts, Quotes, Ends}
use Rattle.p10_pexpr.specs.declared.next.Start.{Start}
use Rattle.p10_pexpr.specs.declared.next.Start.TheVariants.{Groups, Operates, Steps, Measures, Nothing}
use Rattle.p10_pexpr.specs.declared.next.Specifying.{Specifying}
use Rattle.p10_pexpr.specs.declared.next.Specifying.TheVariants.{Word, Structured, Enumerated, Renamed, Other}
use Rattle.p10_pexpr.specs.Tables.{next_of_sign, next_at, start_of, is_enumeration, begins_specifiers, specifying_at}

-- ## After an expression

-- the words begin with this sign
abbrev pub Begins : Sign → List Symbol → Type 0
Begins s symbols = symbols ≡ Fixed s ∷ drop 1 symbols

abbrev pub Went : List Symbol → Next → Type 0
Went symbols (Joins s) = Begins s symbols × (4 ≤ binary_level s)
Went symbols (Sets s) = Begins s symbols × (is_assign s ≡ true)
Went symbols Asks = Begins sign.Question symbols
Went symbols Lists = Begins sign.Comma symbols
Went symbols Indexes = Begins sign.OpenSquare symbols
Went symbols Calls = Begins sign.Open symbols
Went symbols Selects = Begins sign.Dot symbols
Went symbols Points = Begins sign.Arrow symbols
Went symbols (Counts s) = Begins s symbols × (is_step s ≡ true)
Went symbols Quotes = Unit {0}
Went symbols Ends = Unit {0}

went_sign : (s : Sign) (rest : List Symbol) → Went (Fixed s ∷ rest) (next_of_sign s)
went_sign sign.OrOr rest = (refl, omega arith)
went_sign sign.AndAnd rest = (refl, omega arith)
went_sign sign.Bar rest = (refl, omega arith)
went_sign sign.Caret rest = (refl, omega arith)
went_sign sign.And rest = (refl, omega arith)
went_sign sign.Equal rest = (refl, omega arith)
went_sign sign.NotEqual rest = (refl, omega arith)
went_sign sign.Less rest = (refl, omega arith)
went_sign sign.Greater rest = (refl, omega arith)
went_sign sign.LessEqual rest = (refl, omega arith)
went_sign sign.GreaterEqual rest = (refl, omega arith)
went_sign sign.ShiftLeft rest = (refl, omega arith)
went_sign sign.ShiftRight rest = (refl, omega arith)
went_sign sign.Plus rest = (refl, omega arith)
went_sign sign.Minus rest = (refl, omega arith)
went_sign sign.Star rest = (refl, omega arith)
went_sign sign.Slash rest = (refl, omega arith)
went_sign sign.Percent rest = (refl, omega arith)
went_sign sign.Assign rest = (refl, refl)
went_sign sign.StarAssign rest = (refl, refl)
went_sign sign.SlashAssign rest = (refl, refl)
went_sign sign.PercentAssign rest = (refl, refl)
went_sign sign.PlusAssign rest = (refl, refl)
went_sign sign.MinusAssign rest = (refl, refl)
went_sign sign.ShiftLeftAssign rest = (refl, refl)
went_sign sign.ShiftRightAssign rest = (refl, refl)
went_sign sign.AndAssign rest = (refl, refl)
went_sign sign.CaretAssign rest = (refl, refl)
went_sign sign.BarAssign rest = (refl, refl)
went_sign sign.Increment rest = (refl, refl)
went_sign sign.Decrement rest = (refl, refl)
went_sign sign.Question rest = refl
went_sign sign.Comma rest = refl
went_sign sign.OpenSquare rest = refl
went_sign sign.Open rest = refl
went_sign sign.Dot rest = refl
went_sign sign.Arrow rest = refl
went_sign _ rest = tt

pub went : (symbols : List Symbol) → Went symbols (next_at symbols)
went [] = tt
went (Fixed s ∷ rest) = went_sign s rest
went (String x ∷ rest) = tt
went (_ ∷ rest) = tt

-- ## At the beginning of an operand

abbrev pub Began : Sign → Start → Type 0
Began s Groups = s ≡ sign.Open
Began s (Operates u) = (s ≡ u) × (is_unary u ≡ true)
Began s (Steps u) = (s ≡ u) × (is_step u ≡ true)
Began s Measures = s ≡ sign.Sizeof
Began s Nothing = Unit {0}

pub began : (s : Sign) → Began s (start_of s)
began sign.Open = refl
began sign.Sizeof = refl
began sign.And = (refl, refl)
began sign.Star = (refl, refl)
began sign.Plus = (refl, refl)
began sign.Minus = (refl, refl)
began sign.Tilde = (refl, refl)
began sign.Not = (refl, refl)
began sign.Increment = (refl, refl)
began sign.Decrement = (refl, refl)
began _ = tt

-- ## Specifiers

abbrev pub Specified : Scope → Setting → Said → List Symbol → Specifying → Type 0
Specified names setting said symbols (Word s) = Begins s symbols × (is_specifier_word setting said s ≡ true)
Specified names setting said symbols (Structured s) = Begins s symbols × (is_structure s ≡ true) × (says_no_name said ≡ true)
Specified names setting said symbols Enumerated = Begins sign.Enum symbols × (says_no_name said ≡ true)
Specified names setting said symbols Renamed = (begins_specifiers names symbols ≡ true) × (says_nothing said ≡ true)
Specified names setting said symbols Other = Unit {0}

enumeration_is : (s : Sign) → is_enumeration s ≡ true → s ≡ sign.Enum
enumeration_is sign.Enum h = refl
enumeration_is _ h = absurd (false≢true h)

specified_sign : (names : Scope) (setting : Setting) (said : Said) (s : Sign) (rest : List Symbol) (a b c : Bool) → is_specifier_word setting said s ≡ a →
    is_structure s && says_no_name said ≡ b → is_enumeration s && says_no_name said ≡ c →
    Specified names setting said (Fixed s ∷ rest) (cond a (Word s) (cond b (Structured s) (cond c Enumerated Other)))
specified_sign names setting said s rest true b c word structured enumerated = (refl, word)
specified_sign names setting said s rest false true c word structured enumerated = let h = and_parts _ _ structured in (refl, h.0, h.1)
specified_sign names setting said s rest false false true word structured enumerated =
    let h = and_parts _ _ enumerated in (ap (λ x. Fixed x ∷ rest) (enumeration_is s h.0), h.1)
specified_sign names setting said s rest false false false word structured enumerated = tt

specified_name : (names : Scope) (setting : Setting) (said : Said) (x : Text) (rest : List Symbol) (b : Bool) → is_type names x && says_nothing said ≡ b →
    Specified names setting said (Name x ∷ rest) (cond b Renamed Other)
specified_name names setting said x rest true is = and_parts _ _ is
specified_name names setting said x rest false is = tt

pub specified : (names : Scope) (setting : Setting) (said : Said) (symbols : List Symbol) → Specified names setting said symbols (specifying_at names setting said symbols)
specified names setting said [] = tt
specified names setting said (Name x ∷ rest) = specified_name names setting said x rest _ refl
specified names setting said (Fixed s ∷ rest) = specified_sign names setting said s rest _ _ _ refl refl refl
specified names setting said (_ ∷ rest) = tt

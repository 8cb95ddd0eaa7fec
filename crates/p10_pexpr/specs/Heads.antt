-- The first of the words that are left.
use Rattle.std.specs.Prelude.{List, [], ◌∷◌, drop, Bool, false, Option, Some, None, cond, option_map}
use Rattle.p10_base.specs.Words.{Text}
use Rattle.p10_syn.specs.declared.sign.Sign.{Sign}
use Rattle.p10_syn.specs.Signs.{same_sign}
use Rattle.p10_syn.specs.Symbols.{Symbol, Name, Fixed}

-- what was read, and the words after it
abbrev pub Read : Type 0 → Type 0
Read A = Option (A × List Symbol)

-- whether a word is this keyword or punctuator
abbrev pub is_sign : Sign → Symbol → Bool
is_sign s (Fixed other) = same_sign other s
is_sign s _ = false

-- whether the first word is this sign
abbrev pub heads : Sign → List Symbol → Bool
heads s [] = false
heads s (x ∷ rest) = is_sign s x

-- the words after this sign
abbrev pub expected : Sign → List Symbol → Option (List Symbol)
expected s symbols = cond (heads s symbols) (Some (drop 1 symbols)) None

-- what was read before this sign, which closes it, and the words after the sign
abbrev pub closed_by : {A : Type 0} → Sign → A → List Symbol → Read A
closed_by s a symbols = option_map (λ rest. (a, rest)) (expected s symbols)

-- a name, whatever it stands for
abbrev pub name_at : List Symbol → Read Text
name_at [] = None
name_at (Name x ∷ rest) = Some (x, rest)
name_at (_ ∷ rest) = None

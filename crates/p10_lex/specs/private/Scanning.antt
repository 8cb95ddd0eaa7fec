-- How literals are read, one character at a time.
use Rattle.std.specs.Prelude.{◌≡◌, ℕ, ◌==◌, ◌-◌, ◌<◌, ◌||◌, Bool, true, if◌then◌else◌, [], ◌∷◌, length, take, Option, Some, None, is_some, option_map, option_and_then, ◌+◌, ◌*◌, ◌&&◌}
use Rattle.p10_base.specs.Words.{Text}
use Rattle.p10_lex.specs.declared.characters.Mode.{Mode}
use Rattle.p10_lex.specs.declared.characters.Next.{Next}
use Rattle.p10_lex.specs.declared.characters.Next.TheVariants.{Value, Last, Bad}
use Rattle.p10_lex.specs.declared.characters.Place.{Place}
use Rattle.p10_lex.specs.Literals.{last_values, one_of, values_from, values_of, inside}
use Rattle.p10_lex.specs.Splices.{joined}

-- the values of the characters from a place on
abbrev pub place_values : ℕ → Place → Option Text
place_values quote place = values_from quote place.mode (joined place.rest.now)

-- the value of the last character, if there is one
abbrev pub last_text : Option ℕ → Text
last_text None = []
last_text (Some value) = value ∷ []

-- this comes next from a place on: a character and a later place, the last character or none, or no values
abbrev pub IsNext : ℕ → Place → Next → Type 0
IsNext quote place (Value value after) =
    (place_values quote place ≡ option_map (λ values. value ∷ values) (place_values quote after)) × (length after.rest.now < length place.rest.now)
IsNext quote place (Last value) = place_values quote place ≡ Some (last_text value)
IsNext quote place Bad = place_values quote place ≡ None

-- this comes where the bytes end, by what stands before the end
abbrev pub IsLast : Mode → Next → Type 0
IsLast mode (Value value after) = ⊥
IsLast mode (Last value) = last_values mode ≡ Some (last_text value)
IsLast mode Bad = last_values mode ≡ None

-- the value of a character, where nothing comes after it
abbrev pub lone_value : ℕ → Next → Option ℕ
lone_value value (Last None) = Some value
lone_value value _ = None

-- whether what stands between quotes is well formed: one character, or those of a string
unfoldable pub is_quoted_constant : ℕ → Text → Bool
is_quoted_constant quote text = if quote == 39 then is_some (option_and_then one_of (values_of quote text)) else is_some (values_of quote text)

-- whether a character constant, a string or an include name is well formed
unfoldable pub is_literal_constant : Text → Bool
is_literal_constant [] = true
is_literal_constant (quote ∷ rest) = (quote == 60) || is_quoted_constant quote (take (length rest - 1) rest)

-- the values of the characters of a literal with this quote
abbrev pub literal_values : ℕ → Text → Option Text
literal_values quote text = option_and_then (values_of quote) (inside quote quote text)

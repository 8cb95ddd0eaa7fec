-- Which command lines are which commands: the words after the program's name.
use Rattle.std.specs.Prelude.{◌≡◌, ◌≢◌, ℕ, ◌^◌, ◌≤◌, ◌⊎◌, List, [], ◌∷◌, ◌++◌, Bool, true, false, ◌==◌, codes, decimal, find, bytes_eq, Option, Some, None, option_map}
use Rattle.std.specs.List.{list_any, slice_split}
use Rattle.p10_base.specs.Words.{Text}

-- a file, a directory or a value of an option: a text that isn't empty and doesn't begin with `-`
abbrev pub IsName : Text → Type 0
IsName [] = ⊥
IsName (first ∷ others) = first ≢ 45

abbrev pub AreNames : List Text → Type 0
AreNames [] = Unit {0}
AreNames (word ∷ words) = IsName word × AreNames words

-- an option as it was given: its name, without the hyphens, and its value
abbrev pub Given : Type 0
Given = Text × Text

-- the word of an option
abbrev pub dashed : Text → Text
dashed name = codes "--" ++ name

-- the word of an option with its value
abbrev pub joined : Text → Text → Text
joined name value = codes "--" ++ (name ++ (codes "=" ++ value))

abbrev pub IsAmong : List Text → Text → Type 0
IsAmong names name = list_any (λ n. bytes_eq n name) names ≡ true

-- the options that are flags: they are given without a value
abbrev pub flags : List Text
flags = codes "clean" ∷ codes "diff" ∷ []

abbrev pub is_flag : Text → Bool
is_flag name = list_any (λ n. bytes_eq n name) flags

-- options of these names and files, in any order: `--x v` and `--x=v` are the same, a flag that is given counts as `true`, and after `--` each word is a file
pub data Splits (names : List Text) : List Text → List Given → List Text → Type 0 where
  no_words : Splits names [] [] []
  file : {word : Text} {words : List Text} {options : List Given} {files : List Text} →
      IsName word → Splits names words options files → Splits names (word ∷ words) options (word ∷ files)
  option : {name value : Text} {words : List Text} {options : List Given} {files : List Text} →
      IsAmong names name → is_flag name ≡ false → IsName value → Splits names words options files → Splits names (dashed name ∷ value ∷ words) ((name, value) ∷ options) files
  option_joined : {name value : Text} {words : List Text} {options : List Given} {files : List Text} →
      IsAmong names name → is_flag name ≡ false → IsName value → Splits names words options files → Splits names (joined name value ∷ words) ((name, value) ∷ options) files
  flag : {name : Text} {words : List Text} {options : List Given} {files : List Text} →
      IsAmong names name → is_flag name ≡ true → Splits names words options files → Splits names (dashed name ∷ words) ((name, codes "true") ∷ options) files
  ended : {words : List Text} → AreNames words → Splits names (codes "--" ∷ words) [] words

-- the value that an option was given first
abbrev pub value_of : List Given → Text → Option Text
value_of options name = option_map (λ o. o.1) (find (λ o. bytes_eq o.0 name) options)

-- no option is given twice; `before` are those that were given before these
abbrev pub AreGivenOnce : List Given → List Given → Type 0
AreGivenOnce before [] = Unit {0}
AreGivenOnce before (o ∷ options) = (value_of before o.0 ≡ None) × AreGivenOnce (before ++ o ∷ []) options

-- the directories in a value, which is cut at each `:`
abbrev pub cut : Text → List Text
cut value = slice_split (λ byte. byte == 58) value

-- the directories of `--include`, none where it isn't given
abbrev pub directories_in : Option Text → List Text
directories_in None = []
directories_in (Some value) = cut value

-- the value is a number of at most 10^18 in decimal digits without a leading zero
pub record IsNumber (value : Text) (n : ℕ) : Type 0 where
  pub digits : value ≡ decimal n
  pub small : n ≤ 10 ^ 18

-- the number of an option, or its default where it isn't given
abbrev pub HasNumber : Option Text → ℕ → ℕ → Type 0
HasNumber None standard n = n ≡ standard
HasNumber (Some value) standard n = IsNumber value n

-- whether the format that is asked for is JSON: it is `json`, or `text`, which is meant where none is given
abbrev pub HasFormat : Option Text → Bool → Type 0
HasFormat None json = json ≡ false
HasFormat (Some value) json = (value ≡ codes "text") × (json ≡ false) ⊎ (value ≡ codes "json") × (json ≡ true)

-- the version of a certificate's text that is asked for: it is 1 or 2, or 1, which is meant where none is given
abbrev pub HasVersion : Option Text → ℕ → Type 0
HasVersion None version = version ≡ 1
HasVersion (Some value) version = (value ≡ codes "1") × (version ≡ 1) ⊎ (value ≡ codes "2") × (version ≡ 2)

-- whether ranks by differences are looked for, and the version of the text: with `--diff`, which excludes a version, they are and it is 2
abbrev pub HasForm : Option Text → Bool → ℕ → Bool → Type 0
HasForm version false n diff = HasVersion version n × (diff ≡ false)
HasForm version true n diff = (version ≡ None) × (n ≡ 2) × (diff ≡ true)

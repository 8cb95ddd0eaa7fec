-- Words as options and files, read one after the other: which of them are names is tested apart.
use Rattle.std.specs.Prelude.{◌==◌, List, [], ◌∷◌, Bool, false, not, ◌&&◌, codes, bytes_eq, Option, Some, None, if◌then◌else◌}
use Rattle.std.specs.List.{list_all, list_any}
use Rattle.clap.specs.Lexer.{long_of}
use Rattle.p10_base.specs.Words.{Text}
use Rattle.p10_words.specs.CommandLines.{Given, is_flag}

-- options and files, in their order
pub record Split : Type 0 where
  pub options : List Given
  pub files : List Text

abbrev pub with_option : Text → Text → Option Split → Option Split
with_option name value None = None
with_option name value (Some s) = Some (record s { options = (name, value) ∷ s.options })

abbrev pub with_file : Text → Option Split → Option Split
with_file word None = None
with_file word (Some s) = Some (record s { files = word ∷ s.files })

abbrev pub is_among : List Text → Text → Bool
is_among names name = list_any (λ n. bytes_eq n name) names

-- what a word that isn't `--` is: a flag, an option with its value, an option that waits for it, or else a file
abbrev pub scan_long : Text → Option Text → Option Split → (Text → Option Split) → Option Split
scan_long name (Some value) next waiting = if is_flag name then None else with_option name value next
scan_long name None next waiting = if is_flag name then with_option name (codes "true") next else waiting name

abbrev pub scan_word : List Text → Text → Option (Text × Option Text) → Option Split → (Text → Option Split) → Option Split
scan_word names word None next waiting = with_file word next
scan_word names word (Some p) next waiting = if is_among names p.0 then scan_long p.0 p.1 next waiting else None

-- the value of an option in a word of its own
abbrev pub scan_value : Text → Text → Option (Text × Option Text) → Option Split → Option Split
scan_value name word None next = if bytes_eq word (codes "--") then None else with_option name word next
scan_value name word (Some p) next = None

-- the words, where an option waits for its value or none does
unfoldable pub scan : List Text → Option Text → List Text → Option Split
scan names None [] = Some (record { options = []; files = [] })
scan names (Some name) [] = None
scan names (Some name) (word ∷ words) = scan_value name word (long_of word) (scan names None words)
scan names None (word ∷ words) =
    if bytes_eq word (codes "--")
    then Some (record { options = []; files = words })
    else scan_word names word (long_of word) (scan names None words) (λ name. scan names (Some name) words)

abbrev pub is_name : Text → Bool
is_name [] = false
is_name (first ∷ others) = not (first == 45)

-- each value and each file is a name
abbrev pub has_names : Split → Bool
has_names s = list_all (λ (o : Given). is_name o.1) s.options && list_all is_name s.files

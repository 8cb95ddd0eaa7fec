-- Names in the order in which they came, each once, and the places at which they stand.
use Rattle.std.specs.Prelude.{ℕ, List, [], ◌∷◌, ◌++◌, Option, if◌then◌else◌, bytes_eq, position}
use Rattle.std.specs.List.{list_any}
use Rattle.p10_base.specs.Words.{Text}

-- the names after one more came
abbrev pub with_name : List Text → Text → List Text
with_name names name = if list_any (bytes_eq name) names then names else names ++ name ∷ []

-- the place of a name among the names
abbrev pub place_in : List Text → Text → Option ℕ
place_in names name = position (bytes_eq name) names

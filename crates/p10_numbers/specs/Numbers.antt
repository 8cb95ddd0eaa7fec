-- Numbers in the order in which they came, each once.
use Rattle.std.specs.Prelude.{ℤ, List, [], ◌∷◌, ◌++◌, if◌then◌else◌}
use Rattle.std.specs.List.{list_any}
use Rattle.std.specs.Ordering.{int_eq}

-- the numbers after one more came
abbrev pub with_number : List ℤ → ℤ → List ℤ
with_number numbers z = if list_any (int_eq z) numbers then numbers else numbers ++ z ∷ []

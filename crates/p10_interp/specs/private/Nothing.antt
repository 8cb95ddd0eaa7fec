-- Whether there is nothing.
use Rattle.std.specs.Prelude.{Bool, true, false, List, [], ◌∷◌}

-- a list has no items
abbrev pub is_nil : {A : Type 0} → List A → Bool
is_nil [] = true
is_nil (x ∷ xs) = false

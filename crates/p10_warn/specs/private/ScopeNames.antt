-- The names in scope as the code keeps them.
use Rattle.std.specs.Prelude.{List, map}
use Rattle.p10_base.specs.Words.{Text}
use Rattle.p10_bindings.specs.declared.bindings.Bindings.{Bindings}
use Rattle.p10_bindings.specs.Bound.{bound_in}

-- the names of a table
abbrev pub names_in : {T : Type 0} → Bindings T → List Text
names_in b = map (λ x. x.0) (bound_in b)

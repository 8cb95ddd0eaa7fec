-- Names that were taken out of a table.
use Rattle.std.specs.Prelude.{List, map}
use Rattle.p10_base.specs.Words.{Text}
use Rattle.p10_bindings.specs.declared.bound.Bound.{Bound}

-- names that were taken out, each with what it stood for
abbrev pub names_of : {T : Type 0} → List (Bound T) → List (Text × T)
names_of names = map (λ b. (b.name.now, b.what)) names

-- Scopes of the code as the definitions speak of them.
use Rattle.std.specs.Prelude.{true}
use Rattle.p10_bindings.specs.Bound.{bound_in}
use Rattle.p10_core.specs.Views.{plain_types}
use Rattle.p10_elabx.specs.declared.scope.Scope.{Scope}
use Rattle.p10_elabx.specs.declared.situation.Situation.{Situation}
use Rattle.p10_elabx.specs.Scopes.{PlainScope}
use Rattle.p10_elabx.specs.Views.{bindings_of}

-- what a scope of the code is
abbrev pub plain_scope : Scope → PlainScope
plain_scope s = record { structures = plain_types s.types; names = bindings_of (bound_in s.names); tags = bindings_of (bound_in s.tags); floors = s.floors.items; evaluated = true }

-- what an expression of the code stands in
abbrev pub scope_in : Situation → PlainScope
scope_in x = record (plain_scope x.scope.now) { evaluated = x.evaluated }

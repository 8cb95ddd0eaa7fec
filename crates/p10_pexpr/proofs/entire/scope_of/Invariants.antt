use Rattle.std.proofs.Common.{◌≡◌, map, take}
use Rattle.p10_syn.specs.Scopes.{typedefs}
use Rattle.p10_pexpr.proofs.entire.scope_of.Given as goal

-- the names so far
abbrev pub invariant-loop-name : goal.invariant-loop-name
invariant-loop-name l = l.scope ≡ typedefs (map (λ name. name.now) (take l.name-index l.names))

use Rattle.std.proofs.Common.{◌≡◌, drop}
use Rattle.p10_elabx.specs.Literals.{first_type}
use Rattle.p10_elabx.proofs.literals.first_type.Given as goal

abbrev pub invariant-loop-kind : goal.invariant-loop-kind
invariant-loop-kind l = first_type l.kinds l.value ≡ first_type (drop l.kind-index l.kinds) l.value

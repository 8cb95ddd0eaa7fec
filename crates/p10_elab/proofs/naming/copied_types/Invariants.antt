use Rattle.std.proofs.Common.{◌≡◌, map, take}
use Rattle.p10_core.specs.Types.{plain_type}
use Rattle.p10_elab.proofs.naming.copied_types.Given as goal

abbrev pub invariant-loop-ty : goal.invariant-loop-ty
invariant-loop-ty l = map plain_type l.copies.items ≡ map plain_type (take l.ty-index l.types)

use Rattle.std.proofs.Common.{◌≡◌, drop}
use Rattle.std.specs.Prelude.{Ok, None, map}
use Rattle.p10_syn.specs.Trees.{specifier_row}
use Rattle.p10_syn.specs.Built.{specifier_of}
use Rattle.p10_elabx.specs.First.{only_first, lift}
use Rattle.p10_elabx.specs.PlainScopes.{plain_scope}
use Rattle.p10_elabx.specs.TypeNames.{specifiers_found}
use Rattle.p10_elabx.specs.Built.{ruled_named}
use Rattle.p10_elabx.proofs.type_names.specifiers_found.Given as goal

abbrev pub invariant-loop-spec : goal.invariant-loop-spec
invariant-loop-spec l =
    specifiers_found only_first (plain_scope l.scope) (lift (ruled_named l.found)) (specifier_row (map specifier_of (drop l.spec-index l.specs)))
    ≡ specifiers_found only_first (plain_scope l.scope) (Ok None) (specifier_row (map specifier_of l.specs))

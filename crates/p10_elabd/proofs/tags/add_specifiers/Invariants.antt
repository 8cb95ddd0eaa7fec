use Rattle.std.proofs.Common.{◌≡◌, map, drop}
use Rattle.p10_syn.specs.Trees.{specifier_row}
use Rattle.p10_syn.specs.Built.{specifier_of}
use Rattle.p10_elabx.specs.PlainScopes.{plain_scope}
use Rattle.p10_elabd.specs.Tags.{tags_of, with_tags}
use Rattle.p10_elabd.proofs.tags.add_specifiers.Given as goal

abbrev pub invariant-loop-spec : goal.invariant-loop-spec
invariant-loop-spec l =
    with_tags (plain_scope l.scope) (tags_of (specifier_row (map specifier_of (drop l.spec-index l.specs))))
    ≡ with_tags (plain_scope l.initial.scope) (tags_of (specifier_row (map specifier_of l.specs)))

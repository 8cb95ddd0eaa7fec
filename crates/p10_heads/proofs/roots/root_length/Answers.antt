use Rattle.std.proofs.Common.{◌+◌, ◌∙◌, ap, map, refl}
use Rattle.p10_syn.specs.BuiltStatements.{external_of}
use Rattle.p10_heads.specs.private.Cut.{inside_length}
use Rattle.p10_heads.proofs.CutRoots.{long_root}
use Rattle.p10_heads.proofs.roots.root_length.Goals as goal

pub returns-clause-value : goal.returns-clause-value
returns-clause-value c =
    long_root c.args.units.now c.inside_length.result (c.inside_length.result + 1) (c.inside_length.ensures.value ∙ ap (λ us. inside_length (map external_of us)) c.rest_from.ensures) refl

use Rattle.std.proofs.Common.{map, ◌∙◌, ap, subst}
use Rattle.p10_base.specs.Words.{plain_word}
use Rattle.p10_direct.specs.Form.{plain_definition}
use Rattle.p10_expand.specs.declared.expanded.Obeyed.{Obeyed}
use Rattle.p10_pprules.specs.private.Gathering.{Gathers}
use Rattle.p10_pprules.proofs.Gathered.{defined_more, all_defined}
use Rattle.p10_pprules.proofs.definitions.definitions_of.Goals as goal

pub loop-line-preserved : goal.loop-line-preserved
loop-line-preserved c =
    defined_more c.args.obeyed.now c.loop-line.line-index c.line-item.result _ _ c.loop-line-test.true c.loop-line.invariant
    (subst (λ words. Gathers (map plain_word words) (map plain_definition c.loop-line.definitions.items) (map plain_definition c.push_definition.new.definitions.items))
    (c.as_slice.ensures ∙ ap (λ (line : Obeyed). line.words) c.line-item.is) c.in_ok-push_definition.ensures)

pub returns : goal.returns
returns c = all_defined c.args.obeyed.now _ _ c.loop-line-test.false c.loop-line.invariant

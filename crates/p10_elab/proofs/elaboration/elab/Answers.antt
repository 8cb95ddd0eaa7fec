use Rattle.std.proofs.Common.{◌≡◌, map, length, sym, ◌∙◌, ap, subst}
use Rattle.std.proofs.lemmas.List.{length-map}
use Rattle.p10_syn.specs.BuiltStatements.{external_of}
use Rattle.p10_heads.specs.HeadViews.{plain_head}
use Rattle.p10_heads.specs.PlainHeads.{plain_heads}
use Rattle.p10_elab.specs.Answers.{IsElaborated}
use Rattle.p10_elab.specs.KnownViews.{plain_known}
use Rattle.p10_elab.specs.Programs.{elaborated}
use Rattle.p10_elab.proofs.Stages.{out_of_memory}
use Rattle.p10_elab.proofs.KnownTogether.{elaborated_is}
use Rattle.p10_elab.proofs.elaboration.elab.Goals as goal

pub returns-clause-elaborated : goal.returns-clause-elaborated
returns-clause-elaborated c =
    c.whole_alone.ensures.same (elaborated (map external_of c.args.units.now))
    (subst (λ e. IsElaborated e c.settle.result)
    (elaborated_is (plain_heads c.in_ok-heads.heads) (map external_of c.args.units.now) (plain_known c.in_ok-known.known) (length c.objects.result.now) c.in_ok-heads.ensures
    c.in_ok-known.ensures (sym (length-map c.objects.result.now plain_head) ∙ ap length c.objects.ensures))
    c.settle.ensures)

pub returns-in_err-heads-clause-elaborated : goal.returns-in_err-heads-clause-elaborated
returns-in_err-heads-clause-elaborated c = out_of_memory _ c.from_residual.result c.from_residual.ensures.1

pub returns-in_err-known-clause-elaborated : goal.returns-in_err-known-clause-elaborated
returns-in_err-known-clause-elaborated c = out_of_memory _ c.from_residual-in_err-known.result c.from_residual-in_err-known.ensures.1

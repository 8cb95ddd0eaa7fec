use Rattle.std.proofs.Common.{not, ap, ◌∙◌}
use Rattle.p10_base.specs.declared.codes.SubsetCode.TheVariants as subset
use Rattle.p10_syn.specs.Built.{identifier_of}
use Rattle.p10_elabx.specs.First.{only_first}
use Rattle.p10_elabd.specs.Standing.{refusing}
use Rattle.p10_elabs.specs.Locals.{unknown_in}
use Rattle.p10_elab.specs.Knowledge.{Known}
use Rattle.p10_elab.specs.KnownViews.{plain_known}
use Rattle.p10_elab.proofs.definitions.refuse_body.Goals as goal

pub returns : goal.returns
returns c =
    let k : Known = plain_known c.args.known.now in
    let standing =
    c.in_ok-unknown_in.ensures ∙ ap (unknown_in only_first (identifier_of c.args.name)) (c.refuse_where.ensures ∙ (λ i. refusing only_first (not (c.has_parameters-bare.ensures i)) subset.NoPrototype (c.declarator_place-at.ensures i) k.standing)) in
    λ i. record k { standing = standing i; mains = c.in_ok-note_main.ensures i }

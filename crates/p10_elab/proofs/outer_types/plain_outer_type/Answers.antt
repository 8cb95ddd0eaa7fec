use Rattle.std.proofs.Common.{◌||◌, not, sym, ◌∙◌}
use Rattle.p10_syn.specs.Built.{identifier_of}
use Rattle.p10_syn.specs.BuiltStatements.{initial_of}
use Rattle.p10_core.specs.Types.{plain_type}
use Rattle.p10_elabd.specs.Views.{plain_standing}
use Rattle.p10_elab.proofs.OuterTypes.{type_kept, type_refused, static_is}
use Rattle.p10_elab.proofs.outer_types.plain_outer_type.Goals as goal

pub returns-then-kept : goal.returns-then-kept
returns-then-kept c = λ brackets before.
    type_kept (identifier_of c.args.name) brackets c.args.storage (initial_of c.args.initial.now) before (plain_type c.args.ty) (plain_standing c.args.standing.now)
    (sym (λ i. c.is_complete.ensures i || not (c.is_written.ensures i || ((c.is_static.ensures ∙ static_is c.args.storage) i || c.is_void.ensures i))) ∙ c.if-kept.true)

pub returns-else-kept : goal.returns-else-kept
returns-else-kept c = λ brackets before.
    type_refused (identifier_of c.args.name) brackets c.args.storage (initial_of c.args.initial.now) before (plain_type c.args.ty) (plain_standing c.args.standing.now) _
    (sym (λ i. c.is_complete.ensures i || not (c.is_written.ensures i || ((c.is_static.ensures ∙ static_is c.args.storage) i || c.is_void.ensures i))) ∙ c.if-kept.false) c.refuse.ensures

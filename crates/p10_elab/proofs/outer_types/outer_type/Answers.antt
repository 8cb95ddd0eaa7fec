use Rattle.std.proofs.Common.{option_copied, option_map, sym, ap, ◌∙◌}
use Rattle.p10_syn.specs.Built.{identifier_of, declarator_of}
use Rattle.p10_syn.specs.BuiltStatements.{initial_of}
use Rattle.p10_elabx.specs.First.{only_first}
use Rattle.p10_elabd.specs.Views.{plain_standing, plain_declared}
use Rattle.p10_elabs.specs.Locals.{brackets_of}
use Rattle.p10_linkage.specs.LinkedViews.{linked_of_name}
use Rattle.p10_elab.specs.Outer.{outer_type}
use Rattle.p10_elab.proofs.outer_types.outer_type.Goals as goal

pub returns-in-Plain : goal.returns-in-Plain
returns-in-Plain c =
    let brackets = brackets_of (declarator_of c.args.d.now.declarator) in
    let before = option_map linked_of_name (option_copied c.args.manner.before) in
    c.plain_outer_type.ensures brackets before
    ∙ ap (λ d. outer_type only_first (identifier_of c.args.manner.name) brackets c.args.manner.storage (initial_of c.args.d.now.init) before (plain_declared d) (plain_standing c.args.standing.now)) (sym c.in-Plain.is)

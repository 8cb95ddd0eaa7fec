use Rattle.std.proofs.Common.{option_map, sym, ap, ◌∙◌}
use Rattle.p10_syn.specs.Built.{identifier_of, declarator_of}
use Rattle.p10_syn.specs.BuiltStatements.{init_declarator_of}
use Rattle.p10_core.specs.Types.{plain_type}
use Rattle.p10_elabx.specs.First.{only_first}
use Rattle.p10_elabd.specs.Declaring.{declarator_passed}
use Rattle.p10_elabd.specs.Views.{plain_standing}
use Rattle.p10_heads.specs.PlainHeads.{plain_heads}
use Rattle.p10_elab.specs.KnownViews.{plain_known}
use Rattle.p10_elab.proofs.OuterDeclarators.{named_typedef, named_other}
use Rattle.p10_elab.proofs.outer_declarations.name_declared.Goals as goal

pub returns-in_ok-typedef_outside : goal.returns-in_ok-typedef_outside
returns-in_ok-typedef_outside c =
    let k = plain_known c.args.known.now in
    named_typedef (plain_heads c.args.setting.now.heads.now) c.args.shared.storage c.args.shared.sensor (option_map plain_type c.args.ty.now) k _ (init_declarator_of c.args.d.now) (identifier_of c.args.name) _
    (c.in_ok-declared.ensures ∙ ap (λ o. declarator_passed only_first c.args.name.at (record { made = o; after = k.standing }) (declarator_of c.args.d.now.declarator)) c.in_ok-base.ensures)
    (sym c.is_typedef.ensures ∙ c.if-is_typedef.true) c.in_ok-typedef_outside.ensures

pub returns-in_ok-by_type_outside : goal.returns-in_ok-by_type_outside
returns-in_ok-by_type_outside c =
    let k = plain_known c.args.known.now in
    named_other (plain_heads c.args.setting.now.heads.now) c.args.shared.storage c.args.shared.sensor (option_map plain_type c.args.ty.now) k _ (init_declarator_of c.args.d.now) (identifier_of c.args.name) _
    (c.in_ok-declared.ensures ∙ ap (λ o. declarator_passed only_first c.args.name.at (record { made = o; after = k.standing }) (declarator_of c.args.d.now.declarator)) c.in_ok-base.ensures)
    (sym c.is_typedef.ensures ∙ c.if-is_typedef.false) c.in_ok-by_type_outside.ensures

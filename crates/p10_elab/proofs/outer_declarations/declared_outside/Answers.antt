use Rattle.std.proofs.Common.{◌++◌, map, option_map, ap, ◌∙◌}
use Rattle.p10_syn.specs.Trees.{specifier_row}
use Rattle.p10_syn.specs.Built.{specifier_of}
use Rattle.p10_syn.specs.BuiltStatements.{init_declarator_of, declaration_of}
use Rattle.p10_core.specs.Types.{PlainType, plain_type}
use Rattle.p10_elabx.specs.First.{only_first}
use Rattle.p10_elabd.specs.Standing.{Passed}
use Rattle.p10_elabd.specs.Words.{storage_of}
use Rattle.p10_elabd.specs.Views.{plain_standing}
use Rattle.p10_heads.specs.PlainHeads.{plain_heads}
use Rattle.p10_elabs.specs.Addresses.{constants_of}
use Rattle.p10_elabs.specs.Locals.{makes_sensors}
use Rattle.p10_elab.specs.Knowledge.{Known}
use Rattle.p10_elab.specs.Outer.{main_constants, outer_declarators, declared_outside}
use Rattle.p10_elab.specs.KnownViews.{plain_known}
use Rattle.p10_elab.proofs.outer_declarations.declared_outside.Goals as goal

pub returns : goal.returns
unfolding declared_outside
returns c =
    let k : Known = plain_known c.args.known.now in
    let heads = plain_heads c.args.setting.now.heads.now in
    let d = declaration_of c.args.d.now in
    let of_specs = λ (specs : _). specifier_row (map specifier_of specs) in
    let mains = c.in_ok-note_constants.ensures ∙ ap (λ specs. k.mains ++ main_constants (constants_of (of_specs specs))) c.deref.ensures.value in
    let storage = c.storage_of.ensures ∙ ap (λ specs. storage_of (of_specs specs)) c.deref-2.ensures.value in
    c.in_ok-outer_declarators.ensures
    ∙ (λ i. outer_declarators only_first heads (storage i) (c.makes_sensors.ensures i) (option_map plain_type c.in_ok-ty.ty) (record k { standing = plain_standing c.specified_in.new.standing; mains = mains i }) (map init_declarator_of (c.deref-3.ensures.value i)))
    ∙ ap (λ (t : Passed PlainType). outer_declarators only_first heads (storage_of d.specifiers) (makes_sensors d) t.made (record k { standing = t.after; mains = k.mains ++ main_constants (constants_of d.specifiers) }) d.declarators) c.in_ok-ty.ensures

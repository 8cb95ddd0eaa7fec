use Rattle.std.proofs.Common.{false, ◌++◌, map, option_map, ap, ◌∙◌}
use Rattle.p10_syn.specs.Trees.{specifier_row}
use Rattle.p10_syn.specs.Built.{specifier_of}
use Rattle.p10_syn.specs.BuiltStatements.{definition_of}
use Rattle.p10_core.specs.Types.{PlainType, plain_type}
use Rattle.p10_elabx.specs.First.{only_first}
use Rattle.p10_elabd.specs.Standing.{Passed}
use Rattle.p10_elabd.specs.Declaring.{specified}
use Rattle.p10_elabd.specs.Shapes.{name_in}
use Rattle.p10_elabd.specs.declared.site.Site.TheVariants as site_is
use Rattle.p10_elabd.specs.Views.{plain_standing}
use Rattle.p10_heads.specs.PlainHeads.{plain_heads}
use Rattle.p10_elabs.specs.Addresses.{constants_of}
use Rattle.p10_elab.specs.Knowledge.{Known}
use Rattle.p10_elab.specs.Outer.{main_constants, function_named, defined_outside}
use Rattle.p10_elab.specs.KnownViews.{plain_known}
use Rattle.p10_elab.proofs.definitions.defined_outside.Goals as goal

pub returns : goal.returns
unfolding defined_outside
returns c =
    let k : Known = plain_known c.args.known.now in
    let heads = plain_heads c.args.setting.now.heads.now in
    let d = definition_of c.args.f.now in
    let of_specs = λ (specs : _). specifier_row (map specifier_of specs) in
    let mains = c.in_ok-note_constants.ensures ∙ ap (λ specs. k.mains ++ main_constants (constants_of (of_specs specs))) c.deref-2.ensures.value in
    let ty = c.in_ok-ty.ensures ∙ (λ i. specified only_first site_is.OfDefinition (c.allowed_at_definition.ensures i) false k.standing (of_specs (c.deref.ensures.value i))) in
    c.in_ok-function_named.ensures
    ∙ (λ i. function_named only_first heads d (record k { standing = plain_standing c.specified.new.standing; mains = mains i }) (option_map plain_type c.in_ok-ty.ty) (name_in d.declarator))
    ∙ ap (λ (t : Passed PlainType). function_named only_first heads d (record k { standing = t.after; mains = k.mains ++ main_constants (constants_of d.specifiers) }) t.made (name_in d.declarator)) ty

use Rattle.std.proofs.Common.{◌∙◌, ap, map}
use Rattle.std.specs.Prelude.{option_map}
use Rattle.p10_syn.specs.Built.{specifier_of}
use Rattle.p10_syn.specs.BuiltStatements.{declaration_of}
use Rattle.p10_syn.specs.Trees.{specifier_row}
use Rattle.p10_core.specs.Types.{plain_type}
use Rattle.p10_elabx.specs.First.{only_first}
use Rattle.p10_elabd.specs.Declaring.{specified}
use Rattle.p10_elabd.specs.Views.{plain_standing, told}
use Rattle.p10_elabs.proofs.DeclaredObjects.{specifiers_noted}
use Rattle.p10_elabs.specs.Locals.{declares_sensors, volatile_noted}
use Rattle.p10_elabs.proofs.locals.specified_in.Goals as goal

pub returns : goal.returns
returns c =
    specifiers_noted only_first c.args.outside c.args.site (declaration_of c.args.d.now) (plain_standing c.args.standing.now) (plain_standing c.volatile_noted.new.standing) _ _ _ (told (option_map plain_type c.in_ok-ty.ty) c.specified.new.standing)
    c.allowed_by.ensures c.is_alone.ensures (c.in_ok-ty.ensures ∙ ap (λ xs. specified only_first c.args.site c.allowed_by.result c.is_alone.result (plain_standing c.args.standing.now) (specifier_row (map specifier_of xs))) c.deref.ensures.value)
    (c.declares_sensors-may.ensures ∙ ap (λ o. declares_sensors c.args.outside (option_map plain_type o) (declaration_of c.args.d.now)) c.as_ref.ensures.value)
    (c.volatile_noted.ensures ∙ ap (λ xs. volatile_noted only_first c.declares_sensors-may.result (specifier_row (map specifier_of xs)) (plain_standing c.specified.new.standing)) c.deref-2.ensures.value)

use Rattle.std.proofs.Common.{◌∷◌, [], ◌∙◌, map, Some, option_map, ap, sym}
use Rattle.std.proofs.lemmas.List.{map-append}
use Rattle.p10_core.specs.Types.{plain_type}
use Rattle.p10_elabd.specs.declared.declaration.DeclaredParameter.{DeclaredParameter}
use Rattle.p10_elabd.specs.Views.{plain_parameter, plain_known}
use Rattle.p10_elabd.proofs.KnownParameters.{known_turn, known_lacking}
use Rattle.p10_elabd.proofs.parameters.known_parameters.Goals as goal

pub loop-one-preserved : goal.loop-one-preserved
loop-one-preserved c =
    let one : DeclaredParameter = record { at = c.one-item.result.at; name = c.one-item.result.name; ty = c.in_ok-ty-in-Some.ty } in
    known_turn c.args.all.now c.loop-one.one-index c.one-item.result (plain_known c.loop-one.known) (plain_known c.push.new.self) (plain_type c.in_ok-ty-in-Some.ty) _ c.loop-one-test.true c.one-item.is
    (ap (option_map plain_type) c.in-Some.is ∙ ap Some (sym c.in_ok-ty-in-Some.ensures))
    (ap (map plain_parameter) c.in_ok-push-in-Some.ensures.items ∙ map-append plain_parameter c.loop-one.known.items (one ∷ []))
    c.loop-one.invariant

pub returns-in-None : goal.returns-in-None
returns-in-None c =
    known_lacking c.args.all.now c.loop-one.one-index c.one-item.result (plain_known c.loop-one.known) _ c.loop-one-test.true c.one-item.is (ap (option_map plain_type) c.in-None.is) c.loop-one.invariant

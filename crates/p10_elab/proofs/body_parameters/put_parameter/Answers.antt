use Rattle.std.proofs.Common.{◌+◌, ◌++◌, ◌∷◌, [], map, option_map, ap, ◌∙◌}
use Rattle.std.proofs.lemmas.List.{map_push}
use Rattle.p10_syn.specs.Built.{identifier_of}
use Rattle.p10_core.specs.Views.{plain_variable}
use Rattle.p10_elabd.specs.Views.{plain_standing, plain_parameter}
use Rattle.p10_elabs.specs.FrameViews.{plain_frame}
use Rattle.p10_elab.specs.Outer.{parameter_variables}
use Rattle.p10_elab.proofs.Parameters.{one_put, none_put}
use Rattle.p10_elab.proofs.body_parameters.put_parameter.Goals as goal

pub returns-in_ok-push-in-Some : goal.returns-in_ok-push-in-Some
returns-in_ok-push-in-Some c = λ rest.
    let f = plain_frame c.args.frame.now in
    let s = plain_standing c.args.standing.now in
    let before = map plain_variable c.args.variables.now.items in
    ap (λ vs. map plain_variable vs ++ parameter_variables f s (c.args.number + 1) rest) c.in_ok-push-in-Some.ensures.items
    ∙ ap (λ vs. vs ++ parameter_variables f s (c.args.number + 1) rest) (map_push plain_variable c.args.variables.now.items c.in_ok-variable-in-Some.variable ∙ ap (λ v. before ++ v ∷ []) c.in_ok-variable-in-Some.ensures)
    ∙ one_put f s c.args.number (plain_parameter c.args.parameter.now) (identifier_of c.in-Some.name) before rest (ap (option_map identifier_of) c.in-Some.is)

pub returns-in-None : goal.returns-in-None
returns-in-None c = λ rest.
    none_put (plain_frame c.args.frame.now) (plain_standing c.args.standing.now) c.args.number (plain_parameter c.args.parameter.now) (map plain_variable c.args.variables.now.items) rest (ap (option_map identifier_of) c.in-None.is)

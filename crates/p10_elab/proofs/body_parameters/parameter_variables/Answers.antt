use Rattle.std.proofs.Common.{◌+◌, ◌++◌, ◌∷◌, map, drop, sym, ap, ◌∙◌}
use Rattle.p10_core.specs.Views.{plain_variable}
use Rattle.p10_elabd.specs.Views.{plain_standing, plain_parameter}
use Rattle.p10_heads.proofs.ListRows.{cut_list}
use Rattle.p10_elabs.specs.FrameViews.{plain_frame}
use Rattle.p10_elab.specs.Outer.{parameter_variables}
use Rattle.p10_elab.proofs.body_parameters.parameter_variables.Goals as goal

pub loop-place-preserved : goal.loop-place-preserved
loop-place-preserved c =
    let at = c.loop-place in
    let f = plain_frame c.args.frame.now in
    let s = plain_standing c.args.standing.now in
    let rest = map plain_parameter (drop (at.place + 1) c.args.parameters.now) in
    let put = c.in_ok-put_parameter.ensures rest in
    ap (λ n. map plain_variable c.put_parameter.new.variables.items ++ parameter_variables f s (n + 1) rest) (sym c.in_ok-number_of.ensures)
    ∙ put
    ∙ ap (λ n. map plain_variable at.variables.items ++ parameter_variables f s n (plain_parameter c.index-parameters-place.result ∷ rest)) c.in_ok-number_of.ensures
    ∙ ap (λ ps. map plain_variable at.variables.items ++ parameter_variables f s at.place (map plain_parameter ps)) (sym (cut_list c.args.parameters.now at.place c.index-parameters-place.result c.loop-place-test.true c.index-parameters-place.is))
    ∙ at.invariant

use Rattle.std.proofs.Common.{map, sym, ap, ◌∙◌}
use Rattle.std.proofs.lemmas.List.{length-map}
use Rattle.p10_elabd.specs.Standing.{PlainStanding}
use Rattle.p10_elabd.specs.Views.{plain_standing, plain_parameter}
use Rattle.p10_elabs.specs.FrameViews.{plain_frame}
use Rattle.p10_elabs.specs.LocalViews.{numbered_object}
use Rattle.p10_elab.specs.Outer.{parameter_variables}
use Rattle.p10_elab.proofs.bodies.body_begun.Goals as goal

pub returns : goal.returns
returns c =
    let s : PlainStanding = plain_standing c.args.standing in
    let variables = c.in_ok-variables.ensures ∙ ap (λ ps. parameter_variables (plain_frame c.args.frame.now) s 0 (map plain_parameter ps)) c.deref.ensures.value in
    let count = c.in_ok-count.ensures ∙ c.len.ensures ∙ c.args.function.parameters.ok.0 ∙ sym (length-map c.args.function.parameters.items plain_parameter) in
    λ i. record { standing = record s { scope = c.in_ok-open_body.ensures i }; count = count i; variables = variables i; objects = map numbered_object (c.new.ensures.items i); loops = 0 }

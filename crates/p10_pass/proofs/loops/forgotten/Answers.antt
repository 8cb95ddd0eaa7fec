use Rattle.std.proofs.Common.{◌≤◌, ◌∙◌, ap, map, length, Some, arith}
use Rattle.std.proofs.lemmas.List.{length-map}
use Rattle.p10_core.specs.Views.{plain_variable, plain_statement}
use Rattle.p10_absx.specs.Trails.{Branching}
use Rattle.p10_pass.specs.Scopes.{assigns}
use Rattle.p10_pass.specs.Passing.{reached}
use Rattle.p10_pass.proofs.Restoring.{forgot}
use Rattle.p10_pass.proofs.loops.forgotten.Goals as goal

pub returns : goal.returns
returns c =
    let few : length (map plain_variable c.args.m.now.variables.now) ≤ length c.args.m.now.variables.now = omega (arith, length-map c.args.m.now.variables.now plain_variable) in
    c.reached.ensures ∙ ap (λ e. reached (Some e)) (ap (λ (b : Branching). b.values) c.in_ok-renew_each.ensures ∙
    forgot (λ n. assigns n (plain_statement c.args.s.now)) c.in_ok-marks.marks.items c.as_slice.result.now (length c.args.m.now.variables.now) (map plain_variable c.args.m.now.variables.now) c.args.env.values
    c.as_slice.ensures.value c.in_ok-marks.ensures few)

-- The call counts, and the request is made.
use Rattle.std.proofs.Common.{◌∙◌, ap}
use Rattle.p10_core.specs.Types.{plain_type}
use Rattle.p10_core.specs.Views.{plain_program}
use Rattle.p10_meaning.specs.States.{counted}
use Rattle.p10_meaning.specs.Values.{pointee, requested}
use Rattle.p10_machine.specs.Releasing.{cells_by}
use Rattle.p10_machine.specs.Views.{state_of}
use Rattle.p10_machine.proofs.Requested.{gives_as}
use Rattle.p10_machine.proofs.allocating.allocate.Goals as goal

pub returns : goal.returns
returns c = λ left io.
    gives_as (requested (plain_program c.args.p.now) (plain_type c.pointee_of.result.now) c.args.asked (cells_by c.args.zero) (state_of left c.count_call.new.outside io)) (requested (plain_program c.args.p.now) (pointee (plain_type c.args.t.now)) c.args.asked (cells_by c.args.zero) (counted (state_of left c.args.outside.now io))) c.request.result (state_of left c.request.new.outside io)
    (ap (λ t. requested (plain_program c.args.p.now) t c.args.asked (cells_by c.args.zero) (state_of left c.count_call.new.outside io)) c.pointee_of.ensures ∙ ap (λ w. requested (plain_program c.args.p.now) (pointee (plain_type c.args.t.now)) c.args.asked (cells_by c.args.zero) w) (c.in_ok-count_call.ensures left io)) (c.request.ensures left io)

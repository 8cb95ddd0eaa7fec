use Rattle.std.proofs.Common.{◌≡◌, ◌<◌, ◌≤◌, true, length, rules}
use Rattle.p10_whole.specs.private.Surroundings.{surroundings_in}
use Rattle.p10_whole.proofs.Calling.{one_fits, none_left}
use Rattle.p10_whole.proofs.calls.arguments_fit.Goals as goal

pub loop-i-preserved : goal.loop-i-preserved
loop-i-preserved c = λ rest.
    let low : c.loop-i.i < length c.args.parameters.now = search rules in
    let high : c.loop-i.i < length c.args.arguments.now = search rules in
    let yes : c.are_compatible.result ≡ true = search rules in
    c.loop-i.invariant
    (one_fits (surroundings_in c.args.around.now) c.args.parameters.now c.args.arguments.now c.loop-i.i low high c.index-parameters-i.result c.index-arguments-i.result (c.are_compatible.ensures.shows yes) rest)

pub returns : goal.returns
returns c =
    let even : length c.args.parameters.now ≡ length c.args.arguments.now = search rules in
    let past : length c.args.arguments.now ≤ c.loop-i.i = search rules in
    record { shows = λ e. c.loop-i.invariant (none_left (surroundings_in c.args.around.now) c.args.parameters.now c.args.arguments.now c.loop-i.i even past) }

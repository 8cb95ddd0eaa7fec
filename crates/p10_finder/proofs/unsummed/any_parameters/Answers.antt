use Rattle.std.proofs.Common.{◌≡◌, ◌<◌, length, min, ◌∙◌, ap, sym, arith}
use Rattle.p10_core.specs.declared.program.Variable.{Variable}
use Rattle.p10_core.specs.Types.{plain_type}
use Rattle.p10_finder.specs.Functions.{any_value}
use Rattle.p10_finder.proofs.Judging.{params_put, types_all}
use Rattle.p10_finder.proofs.unsummed.any_parameters.Goals as goal

pub loop-k-preserved : goal.loop-k-preserved
loop-k-preserved c =
    let count : c.min-count.result ≡ min (length c.as_slice-variables.result.now) c.args.function.now.params = c.min-count.ensures in
    let low : c.loop-k.k < c.min-count.result = c.loop-k-test.true in
    params_put c.loop-k.params.items c.push.new.self.items c.as_slice-variables.result.now c.loop-k.k c.any_value.result c.index-variables-k.result (omega (arith, count, low)) c.index-variables-k.is
    (c.any_value.ensures ∙ ap (λ (v : Variable). any_value (plain_type v.ty)) (sym c.index-variables-k.is))
    c.in_ok-push.ensures.items c.loop-k.invariant

pub returns : goal.returns
returns c =
    c.loop-k.invariant
    ∙ types_all c.args.function.now c.as_slice-variables.result.now c.min-count.result c.loop-k.k c.as_slice-variables.ensures c.min-count.ensures c.loop-k-test.false c.loop-k.auto.k-end

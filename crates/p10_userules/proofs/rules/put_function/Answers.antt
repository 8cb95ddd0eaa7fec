use Rattle.std.proofs.Common.{◌∙◌, ap, length, slice_range}
use Rattle.p10_userules.specs.declared.spreads.Kind.TheVariants.{Variables}
use Rattle.p10_userules.proofs.Collected.{few_parameters}
use Rattle.p10_userules.proofs.rules.put_function.Goals as goal

pub put_parameters-requires : goal.put_parameters-requires
put_parameters-requires c =
    few_parameters c.parameters_of.result.now c.args.f.now.params (length c.as_slice.result.now) c.args.stretch.start c.args.f.now.vars Variables (slice_range c.args.uses.now.all.now c.args.stretch.start c.args.stretch.end) c.as_slice-3.result.now
    c.parameters_of.ensures (ap length c.as_slice.ensures) (c.as_slice-3.ensures.value ∙ c.in_ok-variables.ensures)

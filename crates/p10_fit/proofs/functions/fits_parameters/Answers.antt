-- The parameters are the first variables.
use Rattle.p10_cert.specs.Claims.{value_of}
use Rattle.std.proofs.Common.{map}
use Rattle.p10_fit.proofs.Heading.{parameters_told}
use Rattle.p10_fit.proofs.functions.fits_parameters.Goals as goal

pub returns : goal.returns
returns c =
    parameters_told c.args.function.now.params c.min-count.result c.as_slice-variables.result.now c.args.function.now.vars (map value_of c.args.claims.now) c.fits_types.result
    c.min-count.ensures c.as_slice-variables.ensures c.fits_types.ensures

-- A difference modulo 2 ^ 32.
use Rattle.std.proofs.Common.{◌∙◌, sym, ap, Ok}
use Rattle.std.specs.Int.{w128}
use Rattle.std.proofs.lemmas.Int.{to_z-of_z}
use Rattle.p10_interp.proofs.Naturals.{fitted_difference}
use Rattle.p10_interp.proofs.numbers_at_once.difference_of.Goals as goal

pub returns : goal.returns
returns c = fitted_difference c.args.a c.args.b c.ranges.b.fits ∙ ap Ok (sym c.from.ensures ∙ sym (to_z-of_z w128 c.from.result (record { sfits = c.from.type_inv })))

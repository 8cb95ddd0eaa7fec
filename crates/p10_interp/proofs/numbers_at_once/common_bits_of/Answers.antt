-- The bits that both have.
use Rattle.std.proofs.Common.{◌∙◌, sym, ap, Ok}
use Rattle.std.specs.Int.{w128}
use Rattle.std.proofs.lemmas.Int.{to_z-of_z}
use Rattle.std.specs.Prelude.{bit_and}
use Rattle.p10_interp.proofs.Naturals.{bits_of_naturals, common_below}
use Rattle.p10_interp.proofs.numbers_at_once.common_bits_of.Goals as goal

pub returns : goal.returns
returns c = ap Ok (bits_of_naturals bit_and c.args.a c.args.b c.ranges.a.fits c.ranges.b.fits (common_below c.args.a c.args.b c.ranges.a.fits) ∙ (sym c.from.ensures ∙ sym (to_z-of_z w128 c.from.result (record { sfits = c.from.type_inv }))))

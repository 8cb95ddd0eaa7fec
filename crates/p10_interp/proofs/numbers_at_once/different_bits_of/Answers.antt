-- The bits that exactly one of them has.
use Rattle.std.proofs.Common.{◌∙◌, sym, ap, Ok}
use Rattle.std.specs.Int.{w128}
use Rattle.std.proofs.lemmas.Int.{to_z-of_z}
use Rattle.std.proofs.lemmas.Nat.{xor_lt}
use Rattle.std.specs.Prelude.{bit_xor}
use Rattle.p10_interp.proofs.Naturals.{bits_of_naturals}
use Rattle.p10_interp.proofs.numbers_at_once.different_bits_of.Goals as goal

pub returns : goal.returns
returns c = ap Ok (bits_of_naturals bit_xor c.args.a c.args.b c.ranges.a.fits c.ranges.b.fits (xor_lt 32 c.args.a c.args.b c.ranges.a.fits c.ranges.b.fits) ∙ (sym c.from.ensures ∙ sym (to_z-of_z w128 c.from.result (record { sfits = c.from.type_inv }))))

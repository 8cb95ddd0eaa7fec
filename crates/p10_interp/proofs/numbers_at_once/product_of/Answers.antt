-- A product modulo 2 ^ 32.
use Rattle.std.proofs.Common.{◌∙◌, sym, ap, ◌*◌, Ok}
use Rattle.std.specs.Int.{w128}
use Rattle.std.proofs.lemmas.Int.{to_z-of_z}
use Rattle.p10_interp.proofs.Naturals.{fitted_natural}
use Rattle.p10_interp.proofs.numbers_at_once.product_of.Goals as goal

pub returns : goal.returns
returns c = fitted_natural (c.args.a * c.args.b) ∙ ap Ok (sym c.from.ensures ∙ sym (to_z-of_z w128 c.from.result (record { sfits = c.from.type_inv })))

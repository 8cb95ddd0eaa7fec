use Rattle.std.proofs.Common.{◌∙◌, sym, arith}
use Rattle.p10_int.specs.declared.operators.Stop.TheVariants.{U1}
use Rattle.p10_int.proofs.Products.{signed_fits, carried_product, unsigned_product, carried_signed_fits, carried_unsigned_fits}
use Rattle.p10_int.proofs.arithmetic.multiply.Goals as goal

pub returns-then-is_signed : goal.returns-then-is_signed
returns-then-is_signed c =
    carried_product c.args.t U1 c.args.a c.args.b _ c.ranges.a c.ranges.b
    (signed_fits c.args.t c.args.a c.args.b (sym c.is_signed.ensures ∙ c.if-is_signed.true) c.requires.left c.requires.right) c.fit.ensures

pub returns-else-is_signed : goal.returns-else-is_signed
returns-else-is_signed c =
    unsigned_product c.args.t c.args.a c.args.b c.modulus.result c.ranges.a c.ranges.b (record { sfits = omega (arith, c.modulus.type_inv) })
    (sym c.is_signed.ensures ∙ c.if-is_signed.false) c.requires.left c.requires.right c.modulus.ensures

pub overflow_mul-a : goal.overflow_mul-a
overflow_mul-a c =
    carried_signed_fits c.args.t c.args.a c.args.b c.ranges.a c.ranges.b (sym c.is_signed.ensures ∙ c.if-is_signed.true) c.requires.left c.requires.right

pub overflow_mul-result : goal.overflow_mul-result
overflow_mul-result c = carried_unsigned_fits c.args.t c.args.a c.args.b c.ranges.a c.ranges.b c.requires.left c.requires.right

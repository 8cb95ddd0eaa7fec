use Rattle.std.proofs.Common.{◌∙◌}
use Rattle.p10_int.proofs.Products.{signed_fits, carried_signed_fits}
use Rattle.p10_range.specs.Ranges.{interval_of}
use Rattle.p10_range.proofs.Small.{ends_of, fits_in}
use Rattle.p10_range.proofs.Carried.{spreads, back_product}
use Rattle.p10_range.proofs.arithmetic.signed_product.Goals as goal

pub overflow_mul-a : goal.overflow_mul-a
overflow_mul-a c =
    let a = ends_of c.args.t (interval_of c.args.a) c.args.a.ordered c.requires.left in
    let b = ends_of c.args.t (interval_of c.args.b) c.args.b.ordered c.requires.right in
    carried_signed_fits c.args.t c.args.a.lo c.args.b.lo (fits_in _ _ a.0) (fits_in _ _ b.0) c.requires.signed a.0 b.0

pub overflow_mul-a-2 : goal.overflow_mul-a-2
overflow_mul-a-2 c =
    let a = ends_of c.args.t (interval_of c.args.a) c.args.a.ordered c.requires.left in
    let b = ends_of c.args.t (interval_of c.args.b) c.args.b.ordered c.requires.right in
    carried_signed_fits c.args.t c.args.a.lo c.args.b.hi (fits_in _ _ a.0) (fits_in _ _ b.1) c.requires.signed a.0 b.1

pub overflow_mul-a-3 : goal.overflow_mul-a-3
overflow_mul-a-3 c =
    let a = ends_of c.args.t (interval_of c.args.a) c.args.a.ordered c.requires.left in
    let b = ends_of c.args.t (interval_of c.args.b) c.args.b.ordered c.requires.right in
    carried_signed_fits c.args.t c.args.a.hi c.args.b.lo (fits_in _ _ a.1) (fits_in _ _ b.0) c.requires.signed a.1 b.0

pub overflow_mul-a-4 : goal.overflow_mul-a-4
overflow_mul-a-4 c =
    let a = ends_of c.args.t (interval_of c.args.a) c.args.a.ordered c.requires.left in
    let b = ends_of c.args.t (interval_of c.args.b) c.args.b.ordered c.requires.right in
    carried_signed_fits c.args.t c.args.a.hi c.args.b.hi (fits_in _ _ a.1) (fits_in _ _ b.1) c.requires.signed a.1 b.1

pub returns : goal.returns
returns c =
    let a = ends_of c.args.t (interval_of c.args.a) c.args.a.ordered c.requires.left in
    let b = ends_of c.args.t (interval_of c.args.b) c.args.b.ordered c.requires.right in
    let s = c.requires.signed in
    c.spread.ensures
    ∙ spreads _ _ _ _ _ _ _ _
    (back_product c.args.a.lo c.args.b.lo (fits_in _ _ a.0) (fits_in _ _ b.0) (signed_fits c.args.t _ _ s a.0 b.0))
    (back_product c.args.a.lo c.args.b.hi (fits_in _ _ a.0) (fits_in _ _ b.1) (signed_fits c.args.t _ _ s a.0 b.1))
    (back_product c.args.a.hi c.args.b.lo (fits_in _ _ a.1) (fits_in _ _ b.0) (signed_fits c.args.t _ _ s a.1 b.0))
    (back_product c.args.a.hi c.args.b.hi (fits_in _ _ a.1) (fits_in _ _ b.1) (signed_fits c.args.t _ _ s a.1 b.1))

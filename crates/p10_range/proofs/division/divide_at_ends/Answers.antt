use Rattle.std.proofs.Common.{◌≡◌, ◌∙◌, ap, rules, FitsSigned, ℤ, pos, ◌≤ℤ◌}
use Rattle.std.proofs.lemmas.Int.{to_z-of_z}
use Rattle.std.specs.Prelude.{int_div}
use Rattle.std.specs.Int.{w128, int_max}
use Rattle.p10_range.specs.Ranges.{from_to, interval_of}
use Rattle.p10_range.specs.Rows.{at_ends}
use Rattle.p10_range.proofs.Carried.{spreads, back_quotient}
use Rattle.p10_range.proofs.division.divide_at_ends.Goals as goal

pub returns : goal.returns
returns c =
    let al : FitsSigned w128 c.args.a.lo = search rules in
    let ah : FitsSigned w128 c.args.a.hi = search rules in
    let bl : FitsSigned w128 c.args.b.lo = search rules in
    let bh : FitsSigned w128 c.args.b.hi = search rules in
    let l : FitsSigned w128 c.max-least.result = record { sfits = c.max-least.type_inv } in
    let p : pos 1 ≤ℤ c.max-least.result = c.max-least.ensures.other_bound in
    let is : c.max-least.result ≡ int_max c.args.b.lo (pos 1) = rw (to_z-of_z w128 c.args.b.lo bl) at c.max-least.ensures.value in
    c.spread.ensures
    ∙ spreads _ _ _ _ _ _ _ _ (back_quotient c.args.a.lo _ al l p) (back_quotient c.args.a.lo _ al bh c.requires.positive)
    (back_quotient c.args.a.hi _ ah l p) (back_quotient c.args.a.hi _ ah bh c.requires.positive)
    ∙ ap (λ (d : ℤ). at_ends int_div (interval_of c.args.a) (from_to d c.args.b.hi)) is

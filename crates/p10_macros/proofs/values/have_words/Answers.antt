use Rattle.std.proofs.Common.{◌<◌, length, ap, arith, below_more}
use Rattle.std.proofs.lemmas.Bool.Decides.{nat_tests}
use Rattle.std.proofs.lemmas.List.{get_or-map, length-map}
use Rattle.p10_macros.proofs.values.have_words.Goals as goal

pub loop-value-preserved : goal.loop-value-preserved
loop-value-preserved c = λ none.
    below_more _ _ (λ k less. c.loop-value.invariant none k less)
    (let less : c.loop-value.value-index < length c.args.values.now = omega arith in
    let there = ap length (get_or-map (λ value. value.items) c.args.values.now c.loop-value.value-index c.value-item.result none less) in
    let same = ap (λ value. length value.items) c.value-item.is in
    let counted = c.value-item.result.ok.0 in
    let empty = c.is_empty.ensures in
    let is = c.if-is_empty.false in
    grind (arith, nat_tests, there, same, counted, empty, is))

pub returns-then-is_empty : goal.returns-then-is_empty
returns-then-is_empty c = (
  (λ no. absurd cc),
  (λ have.
      let less : c.loop-value.value-index < length c.args.values.now = omega arith in
      let there = ap length (get_or-map (λ value. value.items) c.args.values.now c.loop-value.value-index c.value-item.result c.value-item.result.items less) in
      let same = ap (λ value. length value.items) c.value-item.is in
      let counted = c.value-item.result.ok.0 in
      let empty = c.is_empty.ensures in
      let is = c.if-is_empty.true in
      let more = have c.loop-value.value-index c.value-item.result.items (omega (arith, length-map c.args.values.now (λ value. value.items))) in
      absurd (grind (arith, nat_tests, there, same, counted, empty, is, more))),
)

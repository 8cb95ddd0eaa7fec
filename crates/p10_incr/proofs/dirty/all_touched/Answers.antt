use Rattle.std.proofs.Common.{◌≡◌, ◌∙◌, suc, ◌+◌, [], ◌∷◌, ◌++◌, map, sym, ap, arith}
use Rattle.p10_core.specs.WholePrograms.{numbers_from}
use Rattle.p10_incr.specs.Edits.{is_touched}
use Rattle.p10_incr.specs.private.Entries.{known_edit}
use Rattle.p10_incr.proofs.Marks.{one_number_more}
use Rattle.p10_incr.proofs.dirty.all_touched.Goals as goal

pub loop-number-preserved : goal.loop-number-preserved
loop-number-preserved c =
    let here : c.loop-number.number ≡ 0 + c.loop-number.number = omega arith in
    let more : suc c.loop-number.number ≡ c.loop-number.number + 1 = omega arith in
    c.in_ok-push.ensures.items
    ∙ ap (λ xs. xs ++ c.is_touched.result ∷ []) c.loop-number.invariant
    ∙ ap (λ b. map (is_touched (known_edit c.args.edit)) (numbers_from 0 c.loop-number.number) ++ b ∷ []) (c.is_touched.ensures ∙ ap (is_touched (known_edit c.args.edit)) here)
    ∙ one_number_more (is_touched (known_edit c.args.edit)) 0 c.loop-number.number
    ∙ ap (λ k. map (is_touched (known_edit c.args.edit)) (numbers_from 0 k)) more

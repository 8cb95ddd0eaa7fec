use Rattle.std.proofs.Common.{◌+◌, Bool, ◌||◌, List, map, drop, sym, ◌∙◌, ap}
use Rattle.p10_heads.specs.Heads.{Head}
use Rattle.p10_heads.specs.HeadViews.{plain_head}
use Rattle.p10_linkage.specs.Between.{is_defined_before}
use Rattle.p10_linkage.specs.private.Grouping.{rows_at}
use Rattle.p10_linkage.specs.private.Agreeing.{is_defined_row}
use Rattle.p10_linkage.proofs.Turns.{defined_on}
use Rattle.p10_linkage.proofs.between.is_defined_among.Goals as goal

pub returns-then-is_defined_row : goal.returns-then-is_defined_row
returns-then-is_defined_row c =
    let all : List Head = map plain_head c.args.heads.now in
    let next : Bool = is_defined_before (rows_at (drop (c.loop-place.place-index + 1) c.args.before.now) all) (plain_head c.args.head.now) in
    let row = c.is_defined_row.ensures ∙ ap (λ o. is_defined_row o (plain_head c.args.head.now)) c.head_at.ensures in
    sym (ap (λ t. t || next) (sym row ∙ c.if-is_defined_row.true))
    ∙ sym (defined_on c.args.before.now c.loop-place.place-index all (plain_head c.args.head.now) c.loop-place-test.true)
    ∙ c.loop-place.invariant

pub loop-place-preserved : goal.loop-place-preserved
loop-place-preserved c =
    let all : List Head = map plain_head c.args.heads.now in
    let next : Bool = is_defined_before (rows_at (drop (c.loop-place.place-index + 1) c.args.before.now) all) (plain_head c.args.head.now) in
    let row = c.is_defined_row.ensures ∙ ap (λ o. is_defined_row o (plain_head c.args.head.now)) c.head_at.ensures in
    sym (ap (λ t. t || next) (sym row ∙ c.if-is_defined_row.false))
    ∙ sym (defined_on c.args.before.now c.loop-place.place-index all (plain_head c.args.head.now) c.loop-place-test.true)
    ∙ c.loop-place.invariant

use Rattle.p10_nesting.proofs.Counting.{first_and_rest, over_now, stands_next, told}
use Rattle.p10_nesting.proofs.nested.is_too_nested.Goals as goal

pub returns-then-branch : goal.returns-then-branch
returns-then-branch c =
    told _ _ (over_now _ c.loop-rest.rest.now _ _ _ _ _ _ c.in-len1-up.len_at_least c.role_of-role.ensures c.loop-rest.invariant c.in_ok-meet.ensures c.if-branch.true)

pub loop-rest-preserved : goal.loop-rest-preserved
loop-rest-preserved c =
    stands_next _ c.loop-rest.rest.now _ _ _ _ _ _ _ _ _ _ _ (first_and_rest _ c.loop-rest.rest.now c.in-len1-up.len_at_least) c.role_of-role.ensures
    c.loop-rest.invariant c.in_ok-meet.ensures c.if-branch.false c.is_inside-inside.ensures c.goes_on.ensures c.settle.ensures c.is_string-after_string.ensures

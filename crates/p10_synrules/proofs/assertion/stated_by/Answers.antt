use Rattle.p10_synrules.proofs.Putting.{stated_put}
use Rattle.p10_synrules.proofs.assertion.stated_by.Goals as goal

pub returns-then-is_assert_name : goal.returns-then-is_assert_name
returns-then-is_assert_name c =
    stated_put c.args.e.now c.in-Call.f c.in-Call.all c.deref.result.now c.deref-then-is_assert_name.result.now c.is_assert_name.result _
    c.in-Call.is c.deref.ensures c.deref-then-is_assert_name.ensures.value c.is_assert_name.ensures c.if-is_assert_name.true c.only_one.ensures

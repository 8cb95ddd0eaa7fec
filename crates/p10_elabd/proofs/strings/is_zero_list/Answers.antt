use Rattle.std.proofs.Common.{◌∙◌, ap, sym, option_copied}
use Rattle.p10_elabd.proofs.ItemRows.{many_items}
use Rattle.p10_elabd.proofs.strings.is_zero_list.Goals as goal

pub returns-else-all-eq1 : goal.returns-else-all-eq1
returns-else-all-eq1 c = many_items c.args.all.now c.in-Some.one.now (sym (ap option_copied c.in-Some.is) ∙ c.first.ensures.value) c.if-all-eq1.false

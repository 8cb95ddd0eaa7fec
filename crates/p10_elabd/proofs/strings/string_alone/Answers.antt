use Rattle.std.proofs.Common.{◌∙◌, ap, sym, option_copied}
use Rattle.p10_elabd.proofs.ItemRows.{many_strings}
use Rattle.p10_elabd.proofs.strings.string_alone.Goals as goal

pub returns-else-all-eq1 : goal.returns-else-all-eq1
returns-else-all-eq1 c = many_strings c.args.characters c.args.all.now c.in-Some.one.now (sym (ap option_copied c.in-Some.is) ∙ c.first.ensures.value) c.if-all-eq1.false

use Rattle.std.proofs.Common.{sym}
use Rattle.p10_elabd.specs.Views.{plain_standing}
use Rattle.p10_linkage.proofs.together.note_all.Goals as goal

pub returns : goal.returns
returns c = sym (c.in_ok-standing.ensures (plain_standing c.args.standing.now))

-- What takes no step comes first.
use Rattle.std.proofs.Common.{[]}
use Rattle.p10_core.specs.Views.{plain_program}
use Rattle.p10_interp.specs.private.Machines.{Around}
use Rattle.p10_interp.proofs.Hastened.{goes_from, fewer_after}
use Rattle.p10_interp.proofs.hastening.hasten_once.Goals as goal

nothing : Around
nothing = record { out = []; rest = [] }

pub returns-in-Ok-clause-ok : goal.returns-in-Ok-clause-ok
returns-in-Ok-clause-ok c = goes_from (plain_program c.args.p.now) c.do_top.result c.args.stacks.now c.settle.new.stacks c.do_top.new.stacks c.args.outside.now c.settle.new.outside c.do_top.new.outside c.in-Ok.ensures.ok c.do_top.ensures.ok

pub returns-in-Ok-clause-fewer : goal.returns-in-Ok-clause-fewer
returns-in-Ok-clause-fewer c = fewer_after c.do_top.result c.args.outside.now.left c.settle.new.outside.left c.do_top.new.outside.left (c.in-Ok.ensures.ok nothing).few c.do_top.ensures.fewer

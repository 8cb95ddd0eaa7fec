-- One place of the list changes.
use Rattle.std.proofs.Common.{reverse}
use Rattle.p10_interp.specs.private.Standing.{held_of}
use Rattle.p10_interp.proofs.OpenedCalls.{held_set, held_kept}
use Rattle.p10_interp.proofs.calls.Calls.set_held.Goals as goal

pub index_mut-requires : goal.index_mut-requires
index_mut-requires c = c.in-Some.ensures.within

pub returns-in-Some : goal.returns-in-Some
returns-in-Some c = held_set (reverse c.args.self.now.bases.items) c.args.self.now.held.items c.args.self.now.marks.items c.args.variable c.in-Some.place c.args.held c.in-Some.ensures.here

pub returns-in-None : goal.returns-in-None
returns-in-None c = held_kept (reverse c.args.self.now.bases.items) c.args.self.now.held.items c.args.self.now.marks.items c.args.variable (held_of c.args.held) c.in-None.ensures.here

-- One more free slot is added.
use Rattle.std.proofs.Common.{◌+◌, refl, arith}
use Rattle.p10_machine.specs.Views.{config_of}
use Rattle.p10_machine.proofs.Framing.{absent_first, absent_next, absent_all}
use Rattle.p10_machine.proofs.machine.Machine.add_absent.Goals as goal

pub loop-i-init : goal.loop-i-init
loop-i-init c = λ s io. absent_first (config_of s c.args.self.now io)

pub loop-i-preserved : goal.loop-i-preserved
loop-i-preserved c = λ s io. absent_next c.loop-i.i (c.loop-i.i + 1) (config_of s c.args.self.now io) (config_of s c.loop-i.self io) (config_of s c.add.new.self io) refl (c.loop-i.invariant s io) (c.in_ok-add.ensures s io)

pub returns : goal.returns
returns c = λ s io. absent_all c.loop-i.i c.args.room (config_of s c.args.self.now io) (config_of s c.loop-i.self io) (omega (arith, c.loop-i-test.false)) (omega (arith, c.loop-i.auto.i-end)) (c.loop-i.invariant s io)

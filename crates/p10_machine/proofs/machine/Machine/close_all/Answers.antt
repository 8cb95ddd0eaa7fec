-- The next block is closed.
use Rattle.std.proofs.Common.{◌≡◌, ◌+◌, ◌-◌, ap, refl, arith}
use Rattle.p10_code.specs.Machine.{close_blocks}
use Rattle.p10_machine.specs.Views.{config_of}
use Rattle.p10_machine.proofs.Closing.{one_closed, all_blocks_closed}
use Rattle.p10_machine.proofs.machine.Machine.close_all.Goals as goal

pub loop-i-init : goal.loop-i-init
loop-i-init c = λ s io. let e : c.args.count - 0 ≡ c.args.count = omega arith in ap (λ n. close_blocks n (config_of s c.args.self.now io)) e

pub loop-i-preserved : goal.loop-i-preserved
loop-i-preserved c = λ s io. one_closed c.loop-i.i (c.loop-i.i + 1) c.args.count (config_of s c.loop-i.self io) (config_of s c.close.new.self io) _ c.loop-i-test.true refl (c.close.ensures s io) (c.loop-i.invariant s io)

pub returns : goal.returns
returns c = λ s io. all_blocks_closed c.loop-i.i c.args.count (config_of s c.loop-i.self io) _ (omega (arith, c.loop-i-test.false)) (c.loop-i.invariant s io)

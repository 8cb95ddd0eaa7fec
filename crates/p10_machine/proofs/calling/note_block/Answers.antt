-- The block begins and has opened the objects, or there is none.
use Rattle.p10_machine.specs.Views.{config_of}
use Rattle.p10_machine.proofs.Entered.{block_done, no_block_noted}
use Rattle.p10_machine.proofs.calling.note_block.Goals as goal

pub returns-then-not-tracked : goal.returns-then-not-tracked
returns-then-not-tracked c = λ s io. no_block_noted c.args.tracked _ (config_of s c.args.m.now io) c.if-not-tracked.true

pub returns : goal.returns
returns c =
    block_done c.note_all.result c.args.tracked c.args.first c.opened-past.result c.args.m.now.outside.store.opened (λ s io. config_of s c.args.m.now io) (λ s io. config_of s c.begin.new.self io) (λ s io. config_of s c.note_all.new.m io)
    c.if-not-tracked.false c.opened-past.ensures c.in_ok-begin.ensures c.note_all.ensures

-- The scalar is in the slot, or in the object that is opened.
use Rattle.std.proofs.Common.{[], ◌∷◌, ap, refl, arith}
use Rattle.p10_meaning.specs.Pointers.{holding}
use Rattle.p10_meaning.specs.Objects.{declared}
use Rattle.p10_machine.specs.Views.{config_of}
use Rattle.p10_machine.proofs.Entered.{argument_in_cell, argument_in_object}
use Rattle.p10_machine.proofs.Requested.{opened_is}
use Rattle.p10_machine.proofs.calling.hold_argument.Goals as goal

pub returns-then-frame : goal.returns-then-frame
returns-then-frame c = argument_in_cell c.add_scalar.result c.args.frame c.args.x (λ s io. config_of s c.args.m.now io) (λ s io. config_of s c.add_scalar.new.self io) c.if-frame.true c.add_scalar.ensures

pub returns-in-Ok-open : goal.returns-in-Ok-open
returns-in-Ok-open c =
    argument_in_object c.add.result c.args.frame c.args.x c.in-Ok.object c.opened-number.result (λ s io. config_of s c.args.m.now io) (λ s io. config_of s (record c.args.m.now { outside = record c.args.m.now.outside { store = c.open.new.self } }) io) (λ s io. config_of s c.add.new.self io)
    c.if-frame.false (omega (arith, c.in-Ok.ensures)) (λ s io. c.opened-number.ensures)
    (λ s io. ap (λ w. record (config_of s c.args.m.now io) { state = w }) (opened_is _ c.args.m.now.outside.store c.open.new.self 1 1 declared (holding c.args.x ∷ []) (config_of s c.args.m.now io).state c.in-Ok-open.ensures.ok refl refl refl refl)) c.add.ensures

-- The scalar is in its slot, and the next operation follows.
use Rattle.std.proofs.Common.{◌+◌, ◌∙◌, ap}
use Rattle.std.specs.Prelude.{slice_set}
use Rattle.p10_meaning.specs.Pointers.{holding}
use Rattle.p10_meaning.specs.Values.{holds}
use Rattle.p10_code.specs.Machine.{on, put}
use Rattle.p10_machine.specs.declared.machine.Spot.{Spot}
use Rattle.p10_machine.specs.Views.{config_of}
use Rattle.p10_machine.proofs.Doing.{next_done}
use Rattle.p10_machine.proofs.machine.Machine.put.Goals as goal

pub returns : goal.returns
returns c =
    let there : Spot = record { pc = c.args.s.pc + 1; left = c.args.s.left } in
    next_done c.next.result c.args.s c.hold.new.self (λ io. on (put c.args.k (holds (holding c.args.x)) (config_of c.args.s c.args.self.now io))) c.next.ensures
    (λ io. ap on (c.in_ok-hold.ensures there io) ∙ ap (λ place. on (record (config_of there c.args.self.now io) { slots = slice_set (config_of there c.args.self.now io).slots place (holds (holding c.args.x)) })) c.place-place.ensures)

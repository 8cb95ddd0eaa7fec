-- A frame variable holds the cell, or a cell of an object is set.
use Rattle.std.proofs.Common.{refl, sym, ◌∙◌, ap, subst}
use Rattle.p10_meaning.specs.Pointers.{holding}
use Rattle.p10_meaning.specs.States.{gives}
use Rattle.p10_meaning.specs.Statements.{write_target}
use Rattle.p10_interp.specs.private.Operations.{leaves_done}
use Rattle.p10_interp.specs.private.OpenCalls.{calls_in}
use Rattle.p10_interp.specs.private.Views.{Answers, left_with, target_of}
use Rattle.p10_interp.specs.private.Machines.{state_of}
use Rattle.p10_interp.proofs.Pointed.{element_written}
use Rattle.p10_interp.proofs.accesses.write_target.Goals as goal

pub returns-in-Variable : goal.returns-in-Variable
returns-in-Variable c = λ io operands f around e.
    ap (λ target. leaves_done operands f around (write_target c.args.span (target_of target) (holding c.args.x) f.frame (state_of c.args.outside.now io))) c.in-Variable.is ∙
    ap (λ calls. gives (left_with operands calls) (state_of c.args.outside.now io)) (sym (c.set_held.ensures f around e))

pub returns-in-Sensor : goal.returns-in-Sensor
returns-in-Sensor c = λ io operands f around e.
    ap (λ target. leaves_done operands f around (write_target c.args.span (target_of target) (holding c.args.x) f.frame (state_of c.args.outside.now io))) c.in-Sensor.is ∙
    ap (λ calls. gives (left_with operands calls) (state_of c.args.outside.now io)) (sym e)

pub returns-in-Element : goal.returns-in-Element
returns-in-Element c = λ io operands f around e.
    subst (λ target. Answers (leaves_done operands f around (write_target c.args.span (target_of target) (holding c.args.x) f.frame (state_of c.args.outside.now io))) c.write_element.result (left_with operands (calls_in c.args.calls.now)) (record (state_of c.args.outside.now io) { objects = c.write_element.new.store.objects; opened = c.write_element.new.store.opened })) (sym c.in-Element.is)
    (element_written operands c.args.span c.in-Element.pointer (holding c.args.x) f around (calls_in c.args.calls.now) (state_of c.args.outside.now io) c.args.outside.now.store c.write_element.new.store c.write_element.result refl refl e c.write_element.ensures)

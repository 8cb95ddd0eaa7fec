-- A frame variable, a sensor, or a cell of an object.
use Rattle.std.proofs.Common.{◌∙◌, sym, ap, subst, slice_get}
use Rattle.p10_core.specs.Types.{plain_type}
use Rattle.p10_meaning.specs.Pointers.{read_of}
use Rattle.p10_meaning.specs.Objects.{on_ok, cell_at}
use Rattle.p10_meaning.specs.Values.{held_cell, read_target}
use Rattle.p10_interp.specs.private.OpenCalls.{innermost_held}
use Rattle.p10_interp.specs.private.Views.{Finds, Gives, target_of}
use Rattle.p10_interp.specs.private.Machines.{state_of}
use Rattle.p10_interp.proofs.Pointed.{finds_gives}
use Rattle.p10_interp.proofs.accesses.read_target.Goals as goal

pub returns-in-Variable : goal.returns-in-Variable
returns-in-Variable c = λ io f around e.
    subst (λ target. Gives (read_target c.args.span (plain_type c.args.t.now) f.frame.held (target_of target) (state_of c.args.outside.now io)) c.held_scalar.result (state_of c.args.outside.now io)) (sym c.in-Variable.is)
    (finds_gives (read_of (held_cell (slice_get f.frame.held c.in-Variable.number))) c.args.span c.held_scalar.result (state_of c.args.outside.now io)
    (subst (λ held. Finds (read_of (held_cell held)) c.args.span c.held_scalar.result) (c.held.ensures ∙ ap (λ calls. slice_get (innermost_held calls) c.in-Variable.number) e) c.held_scalar.ensures))

pub returns-in-Element : goal.returns-in-Element
returns-in-Element c = λ io f around e.
    subst (λ target. Gives (read_target c.args.span (plain_type c.args.t.now) f.frame.held (target_of target) (state_of c.args.outside.now io)) c.element_scalar.result (state_of c.args.outside.now io)) (sym c.in-Element.is)
    (finds_gives (on_ok (cell_at c.args.outside.now.store.objects c.in-Element.pointer) read_of) c.args.span c.element_scalar.result (state_of c.args.outside.now io) c.element_scalar.ensures)

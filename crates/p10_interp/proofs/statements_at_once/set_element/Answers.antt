-- The place is an element of an array that is an object as a whole.
use Rattle.std.proofs.Common.{◌∙◌, ap, sym, subst}
use Rattle.p10_core.specs.declared.typed.Value.{Value}
use Rattle.p10_core.specs.Types.{plain_type}
use Rattle.p10_core.specs.Typed.{place, index, set}
use Rattle.p10_core.specs.Views.{plain_program, plain_value, plain_place_form}
use Rattle.p10_interp.specs.private.OpenCalls.{calls_in}
use Rattle.p10_interp.specs.private.Machines.{state_of}
use Rattle.p10_interp.specs.private.Executing.{Executes}
use Rattle.p10_interp.proofs.statements_at_once.set_element.Goals as goal

pub returns-in-Some-clause-done : goal.returns-in-Some-clause-done
returns-in-Some-clause-done c = λ io f around e.
    subst (λ form. Executes (plain_program c.args.p.now) (set (place c.args.place.now.at (plain_type c.args.place.now.ty) form) (plain_value c.args.value.now)) c.set_from.result f around (state_of c.args.outside.now io) (calls_in c.args.calls.now) (state_of c.set_from.new.outside io))
    (sym (ap plain_place_form c.in-Index.is ∙ (ap (λ (a : Value). index (plain_value a) (plain_value c.in-Index.number.value)) (sym c.deref.ensures) ∙ ap (λ (b : Value). index (plain_value c.deref.result.now) (plain_value b)) (sym c.deref-in-Some.ensures))))
    (c.set_from.ensures.done (plain_value c.deref.result.now) c.args.place.now.at (plain_type c.args.place.now.ty) io f around (λ s same. c.in-Some.ensures s f around same e) e)

-- The request isn't denied, and the object is opened.
use Rattle.std.proofs.Common.{◌∙◌, sym, ap}
use Rattle.p10_core.specs.Sizes.{repeated}
use Rattle.p10_core.specs.Types.{plain_type}
use Rattle.p10_core.specs.Views.{plain_program}
use Rattle.p10_meaning.specs.Pointers.{first_of}
use Rattle.p10_meaning.specs.Values.{scalars, width, is_denied}
use Rattle.p10_machine.specs.Releasing.{cells_by}
use Rattle.p10_machine.specs.Views.{state_of}
use Rattle.p10_machine.proofs.Requested.{granted_is}
use Rattle.p10_machine.proofs.allocating.grant.Goals as goal

pub returns : goal.returns
returns c = λ left io.
    granted_is (width (plain_program c.args.p.now) (plain_type c.args.t.now)) c.args.count (cells_by c.args.zero (repeated c.args.count (scalars (plain_program c.args.p.now) (plain_type c.args.t.now)))) (state_of left c.args.outside.now io) (state_of left c.open_allocated.new.outside io) c.first_of.result
    (ap (λ denied. is_denied denied c.args.outside.now.requests) (sym c.as_slice.ensures.value) ∙ (sym c.is_denied.ensures ∙ c.if-is_denied.false))
    (c.first_of.ensures ∙ (ap (λ object. first_of object c.in-Some.scalars c.args.count) c.opened-object.ensures ∙ ap (λ stride. first_of c.args.outside.now.store.opened stride c.args.count) c.in-Some.ensures)) (c.in_ok-open_allocated.ensures left io)

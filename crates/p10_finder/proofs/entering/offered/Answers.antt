-- Nothing is offered, or what guards offer.
use Rattle.std.proofs.Common.{◌≡◌, Bool, ap, sym, subst}
use Rattle.std.specs.Prelude.{IfOk}
use Rattle.std.specs.Option.{option_map}
use Rattle.p10_core.specs.Views.{plain_function, plain_statement}
use Rattle.p10_turns.specs.LoopParts.{parts_of}
use Rattle.p10_candidates.specs.Offering.{entry_by}
use Rattle.p10_approach.specs.Approaching.{approached_of}
use Rattle.p10_approach.specs.Offers.{offers_if}
use Rattle.p10_finder.proofs.entering.offered.Goals as goal

pub returns-then-s : goal.returns-then-s
returns-then-s c =
    let s = c.args.s.now in
    let parts = c.args.parts.now in
    subst (λ (b : Bool). IfOk c.first_approach.result (λ a. option_map approached_of a ≡ offers_if b s.number (plain_function s.function.now) parts.head.number s.depth (parts_of (plain_statement parts.looped.now)) (entry_by c.args.l.now)))
    (sym c.if-s.true) c.first_approach.ensures.is

pub returns-else-s : goal.returns-else-s
returns-else-s c =
    let s = c.args.s.now in
    let parts = c.args.parts.now in
    ap (λ (b : Bool). offers_if b s.number (plain_function s.function.now) parts.head.number s.depth (parts_of (plain_statement parts.looped.now)) (entry_by c.args.l.now)) (sym c.if-s.false)

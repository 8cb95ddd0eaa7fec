use Rattle.std.proofs.Common.{List, sym, ap, ◌∙◌, arith}
use Rattle.p10_macros.specs.declared.sets.Part.{Part}
use Rattle.p10_macros.specs.private.Sets as sets
use Rattle.p10_macros.proofs.SetsOfMacros.{has_no_macro, absent_at, present_at}
use Rattle.p10_macros.proofs.origin.Origins.has.Goals as goal

pub returns-then-set-eq0 : goal.returns-then-set-eq0
returns-then-set-eq0 c = sym (has_no_macro c.args.self.now c.args.set c.args.name.now (omega (arith, c.if-set-eq0.true)))

pub returns-in-None : goal.returns-in-None
returns-in-None c = sym (absent_at c.args.self.now c.args.set c.args.name.now c.in-None.ensures)

pub returns-in-Some : goal.returns-in-Some
returns-in-Some c =
    c.contains.ensures ∙ ap (λ (l : List Part). sets.has l c.args.set c.in-Some.number) c.as_slice.ensures.value
    ∙ sym (present_at c.args.self.now c.args.set c.args.name.now c.in-Some.number c.in-Some.ensures)

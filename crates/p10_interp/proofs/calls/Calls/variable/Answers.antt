-- The innermost call is the last.
use Rattle.std.proofs.Common.{◌≡◌, ◌∷◌, sym, ◌∙◌, ap, subst, reverse, length, ◌-◌, Some, slice_get, map, option_copied, List}
use Rattle.p10_core.specs.Views.{plain_variable}
use Rattle.p10_interp.specs.declared.base.Base.{Base}
use Rattle.p10_interp.proofs.OpenedCalls.{last_first, variable_at}
use Rattle.p10_interp.proofs.calls.Calls.variable.Goals as goal

pub returns-in-Some : goal.returns-in-Some
returns-in-Some c =
    let e : slice_get c.args.self.now.bases.items (length c.args.self.now.bases.items - 1) ≡ Some c.in-Some.base.now =
    subst (λ l. slice_get l (length l - 1) ≡ Some c.in-Some.base.now) c.deref.ensures.value (sym c.last.ensures.value ∙ ap option_copied c.in-Some.is) in
    let f : (rest : List Base) × (reverse c.args.self.now.bases.items ≡ c.in-Some.base.now ∷ rest) = last_first c.args.self.now.bases.items c.in-Some.base.now e in
    c.variable_in.ensures ∙
    (ap (λ vs. slice_get (map plain_variable vs) c.args.number) c.as_slice.ensures ∙
    sym (variable_at (reverse c.args.self.now.bases.items) c.in-Some.base.now f.0 c.args.self.now.held.items c.args.self.now.marks.items c.args.number f.1))

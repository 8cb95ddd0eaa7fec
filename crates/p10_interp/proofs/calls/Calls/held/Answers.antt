-- The innermost call is the last.
use Rattle.std.proofs.Common.{◌≡◌, ◌∷◌, ◌+◌, sym, ◌∙◌, ap, subst, reverse, length, ◌-◌, Some, slice_get, option_map, option_copied, List}
use Rattle.p10_interp.specs.declared.base.Base.{Base}
use Rattle.p10_interp.specs.private.Standing.{held_of}
use Rattle.p10_interp.proofs.OpenedCalls.{last_first, held_at}
use Rattle.p10_interp.proofs.calls.Calls.held.Goals as goal

pub returns-in-Some : goal.returns-in-Some
returns-in-Some c =
    let e : slice_get c.args.self.now.bases.items (length c.args.self.now.bases.items - 1) ≡ Some c.in-Some.base.now =
    subst (λ l. slice_get l (length l - 1) ≡ Some c.in-Some.base.now) c.deref.ensures.value (sym c.last.ensures.value ∙ ap option_copied c.in-Some.is) in
    let f : (rest : List Base) × (reverse c.args.self.now.bases.items ≡ c.in-Some.base.now ∷ rest) = last_first c.args.self.now.bases.items c.in-Some.base.now e in
    ap (λ o. option_map held_of o) (c.held_at.ensures ∙ ap (λ l. slice_get l (c.in-Some.base.now.held + c.args.variable)) c.deref-in-Some.ensures.value) ∙
    sym (held_at (reverse c.args.self.now.bases.items) c.in-Some.base.now f.0 c.args.self.now.held.items c.args.self.now.marks.items c.args.variable f.1)

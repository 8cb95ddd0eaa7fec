-- K1 is the first of the failing conditions that speak of no values and sums exactly where it fails.
use Rattle.std.proofs.Common.{◌≡◌, ◌∙◌, ℕ, nat_eq, Bool, false, List, [], ◌∷◌, ◌++◌, Option, Some, None, sym, ap, refl}
use Rattle.std.specs.Prelude.{if◌then◌else◌}
use Rattle.p10_base.specs.declared.span.Span.{Span}
use Rattle.p10_core.specs.Typed.{PlainProgram}
use Rattle.p10_cert.specs.Claims.{Claims}
use Rattle.p10_fit.specs.Fits.{unfit}
use Rattle.p10_flowrules.specs.declared.calls.AnyCall.{AnyCall}
use Rattle.p10_pass.specs.Passing.{Failing}
use Rattle.p10_check.specs.Places.{name_at}
use Rattle.p10_check.specs.Shapes.{rising_calls, wrong_main, hidden_effects, low_total}
use Rattle.p10_check.specs.Conditions.{failing_at_each, after_fitting, shape_failures, AreShapeFailures}
use Rattle.p10_incr.specs.private.Misfits.{misfit_in}

-- K1 of a certificate, where it fails
pub record IsMisfit (p : PlainProgram) (c : Claims) (e : Failing) : Type 0 where
  pub number : ℕ
  pub there : unfit p c ≡ Some number
  pub is : e ≡ record { k = 1; at = name_at p number }

another : (b : Bool) (e : Failing) → b ≡ false → (if b then Some e else None) ≡ None
another b e differs = ap (λ x. if x then Some e else None) differs

others : (k : ℕ) (places : List Span) (rest : List Failing) → nat_eq k 1 ≡ false → misfit_in rest ≡ None → misfit_in (failing_at_each k places ++ rest) ≡ None
others k [] rest differs none = none
others k (at ∷ places) rest differs none = another (nat_eq k 1) (record { k = k; at = at }) differs

last_others : (k : ℕ) (places : List Span) → nat_eq k 1 ≡ false → misfit_in (failing_at_each k places) ≡ None
last_others k [] differs = refl
last_others k (at ∷ places) differs = another (nat_eq k 1) (record { k = k; at = at }) differs

-- the others have other numbers
none_of_shape : (p : PlainProgram) (c : Claims) (late : List AnyCall) → misfit_in (shape_failures p c late) ≡ None
none_of_shape p c late =
    others 2 (rising_calls p c.funcs) _ refl (others 4 (wrong_main p c.funcs) _ refl (others 13 (hidden_effects p c.funcs late) _ refl (last_others 14 (low_total p c) refl)))

module _ (p : PlainProgram) (c : Claims) (shape : List Failing) (are : AreShapeFailures p c shape) where
  by_fit : (o : Option ℕ) → unfit p c ≡ o → misfit_in shape ≡ misfit_in (after_fitting p o (shape_failures p c are.late))
  by_fit o fit = ap misfit_in are.are ∙ ap (λ x. misfit_in (after_fitting p x (shape_failures p c are.late))) fit

  pub fits : misfit_in shape ≡ None → unfit p c ≡ None
  fits none = fitting (unfit p c) refl
    where
      some_not : (e : Failing) → Some e ≡ None → ⊥
      some_not e is = cc

      fitting : (o : Option ℕ) → unfit p c ≡ o → unfit p c ≡ None
      fitting None fit = fit
      fitting (Some n) fit = absurd (some_not (record { k = 1; at = name_at p n }) (sym (by_fit (Some n) fit) ∙ none))

  pub misfit_is : (e : Failing) → misfit_in shape ≡ Some e → IsMisfit p c e
  misfit_is e found = misfit (unfit p c) refl
    where
      none_not : None ≡ Some e → ⊥
      none_not is = cc

      only : (a b : Failing) → Some a ≡ Some b → a ≡ b
      only a b same = cc

      misfit : (o : Option ℕ) → unfit p c ≡ o → IsMisfit p c e
      misfit None fit = absurd (none_not (sym (none_of_shape p c are.late) ∙ sym (by_fit None fit) ∙ found))
      misfit (Some n) fit = record { number = n; there = fit; is = only e (record { k = 1; at = name_at p n }) (sym found ∙ by_fit (Some n) fit) }

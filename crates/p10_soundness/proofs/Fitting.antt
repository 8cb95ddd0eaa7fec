-- Where claims fit a program (K1), what is claimed of a function's loops fits them.
use Rattle.std.proofs.Common.{◌≡◌, ℕ, zero, suc, ◌+◌, Bool, true, false, List, [], ◌∷◌, refl, subst, arith, Some, None, slice_get}
use Rattle.std.specs.Prelude.{if◌then◌else◌}
use Rattle.std.proofs.lemmas.Option.{same_Some, none-some}
use Rattle.p10_core.specs.Typed.{PlainFunction, PlainProgram}
use Rattle.p10_cert.specs.Claims.{Func, Claims}
use Rattle.p10_sums.specs.Counting.{loops_claimed}
use Rattle.p10_evaluation.proofs.Operating.{both_true}
use Rattle.p10_fit.specs.Sites.{loop_sites, task_loop_number}
use Rattle.p10_fit.specs.Fits.{fits_heading, fits_loops, fits_function, unfit_from, unfit}

-- what is claimed of the loops of the function with a number fits them
abbrev FitsLoops : PlainProgram → ℕ → PlainFunction → List Func → ℕ → Type 0
FitsLoops p n f claims k = fits_loops f (task_loop_number p n f) (loop_sites f) (loops_claimed (slice_get claims k)) ≡ true

loops_fit_from : (p : PlainProgram) (n : ℕ) (functions : List PlainFunction) (claims : List Func) → unfit_from p n functions claims ≡ None → (k : ℕ) (f : PlainFunction) → slice_get functions k ≡ Some f → FitsLoops p (n + k) f claims k
loops_fit_from p n [] claims e k f there = absurd (none-some _ there)
loops_fit_from p n (g ∷ functions) [] e k f there = absurd cc
loops_fit_from p n (g ∷ functions) (claim ∷ claims) e k f there = case (fits_function p n g claim) refl e k there (λ e k there. loops_fit_from p (n + 1) functions claims e k f there)
  where
    here : (n : ℕ) → n ≡ n + 0
    here n = omega arith

    later : (n k : ℕ) → (n + 1) + k ≡ n + suc k
    later n k = omega arith

    case : (b : Bool) → fits_function p n g claim ≡ b → (if b then unfit_from p (n + 1) functions claims else Some n) ≡ None → (k : ℕ) → slice_get (g ∷ functions) k ≡ Some f →
        (unfit_from p (n + 1) functions claims ≡ None → (k : ℕ) → slice_get functions k ≡ Some f → FitsLoops p ((n + 1) + k) f claims k) → FitsLoops p (n + k) f (claim ∷ claims) k
    case false h e k there go = absurd cc
    case true h e zero there go =
        subst (λ j. FitsLoops p j f (claim ∷ claims) 0) (here n) (subst (λ h. FitsLoops p n h (claim ∷ claims) 0) (same_Some _ _ there)
        (both_true (fits_heading g claim) (fits_loops g (task_loop_number p n g) (loop_sites g) claim.loops) h).1)
    case true h e (suc k) there go = subst (λ j. FitsLoops p j f (claim ∷ claims) (suc k)) (later n k) (go e k there)

pub loops_fit : (p : PlainProgram) (c : Claims) → unfit p c ≡ None → (k : ℕ) (f : PlainFunction) → slice_get p.functions k ≡ Some f →
    fits_loops f (task_loop_number p k f) (loop_sites f) (loops_claimed (slice_get c.funcs k)) ≡ true
loops_fit p c e k f there = subst (λ j. FitsLoops p j f c.funcs k) (from_none k) (loops_fit_from p 0 p.functions c.funcs e k f there)
  where
    from_none : (k : ℕ) → 0 + k ≡ k
    from_none k = omega arith

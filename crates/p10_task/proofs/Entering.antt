-- Where a run enters `main`: nothing is known of its variables, none of which has been declared.
use Rattle.std.proofs.Common.{◌≡◌, ℕ, zero, suc, ◌+◌, ◌-◌, ◌<◌, ◌≤◌, ltb, Bool, true, false, List, [], ◌∷◌, length, refl, sym, ◌∙◌, ap, subst, arith, Option, Some, None, slice_get}
use Rattle.std.specs.Prelude.{nat_eq, ◌||◌, is_some}
use Rattle.std.proofs.lemmas.Option.{none-some}
use Rattle.std.proofs.lemmas.Bool.Decides.{nat_tests}
use Rattle.p10_core.specs.Typed.{PlainVariable, PlainFunction, PlainProgram}
use Rattle.p10_core.specs.WholePrograms.{is_among, numbers_from, declared_of, IsWholeFunction}
use Rattle.p10_cert.specs.Claims.{Value, Claims}
use Rattle.p10_meaning.specs.States.{State}
use Rattle.p10_meaning.specs.Values.{stands}
use Rattle.p10_meaning.specs.Calling.{Depth, raised, Entered, entered}
use Rattle.p10_meaning.specs.Sound.{Kind, Sound}
use Rattle.p10_meaning.proofs.AgreeingCalls.{IsEntry, entered_is}
use Rattle.p10_meaning.proofs.SoundCalls.{EntryFits, no_arguments}
use Rattle.p10_absx.specs.Abstract.{Abstract}
use Rattle.p10_absx.specs.Environments.{known}
use Rattle.p10_absx.specs.Entering.{claims_on, entry_for, entries_from, entry_of, entry_at}
use Rattle.p10_absx.specs.Describing.{Describes}
use Rattle.p10_execution.specs.Scoping.{AreOnce, IsBefore}
use Rattle.p10_execution.specs.Standing.{StandsSoundly}

-- ## Nothing is known

no_entry : (n : ℕ) (claims : List Value) (v : PlainVariable) → entry_for n 0 claims v ≡ None
no_entry n claims v = at (ltb n 0) refl
  where
    none_below : (n : ℕ) → n < 0 → ⊥
    none_below n l = omega (arith, l)

    at : (b : Bool) → ltb n 0 ≡ b → entry_for n 0 claims v ≡ None
    at true e = absurd (none_below n (grind (arith, nat_tests, e)))
    at false e = search (e)

nothing_from : (n : ℕ) (claims : List Value) (vs : List PlainVariable) (k : ℕ) → known (entries_from n 0 claims vs) k ≡ None
nothing_from n claims [] k = refl
nothing_from n claims (v ∷ vs) zero = no_entry n claims v
nothing_from n claims (v ∷ vs) (suc k) = nothing_from (suc n) claims vs k

-- nothing is known at the entry of a function without parameters
pub nothing_known : (p : PlainProgram) (c : Claims) (f : PlainFunction) → slice_get p.functions p.main ≡ Some f → f.parameters ≡ 0 → (k : ℕ) → known (entry_at p c p.main) k ≡ None
nothing_known p c f there none k =
    ap (λ o. known (entry_of (slice_get c.funcs p.main) o) k) there
    ∙ (ap (λ n. known (entries_from 0 n (claims_on (slice_get c.funcs p.main)) f.variables) k) none ∙ nothing_from 0 (claims_on (slice_get c.funcs p.main)) f.variables k)

-- ## Each variable is declared once

not_from : (count from n : ℕ) → n < from → is_among n (numbers_from from count) ≡ false
not_from zero from n l = refl
not_from (suc count) from n l = step (nat_eq n from) refl (not_from count (from + 1) n (omega (arith, l)))
  where
    step : (b : Bool) → nat_eq n from ≡ b → is_among n (numbers_from (from + 1) count) ≡ false → (nat_eq n from || is_among n (numbers_from (from + 1) count)) ≡ false
    step true e h = absurd (apart (grind (arith, nat_tests, e)))
      where
        apart : n ≡ from → ⊥
        apart q = omega (arith, l, q)
    step false e h = ap (λ b. b || is_among n (numbers_from (from + 1) count)) e ∙ h

pub once_from : (count from : ℕ) → AreOnce (numbers_from from count)
once_from zero from = tt
once_from (suc count) from = (not_from count (from + 1) from (omega arith), once_from count (from + 1))

-- before the body of `main`
pub before_main : (p : PlainProgram) (c : Claims) (f : PlainFunction) → IsWholeFunction p p.main f → slice_get p.functions p.main ≡ Some f → f.parameters ≡ 0 → IsBefore f.variables (declared_of f.body) (entry_at p c p.main)
before_main p c f function there none = record {
  knows = record { each = λ n e. absurd (unknown (known (entry_at p c p.main) n) (nothing_known p c f there none n) e) };
  once = subst (λ ns. AreOnce ns) (sym function.declared_in_order) (once_from (length f.variables - f.parameters) f.parameters);
  fresh = λ n e. ap is_some (nothing_known p c f there none n);
}
  where
    unknown : (o : Option Abstract) → o ≡ None → is_some o ≡ true → ⊥
    unknown o q e = let no : is_some o ≡ false = ap is_some q in absurd cc

-- ## The frame

no_objects : (vs : List PlainVariable) (w : State) (n o : ℕ) → slice_get (entered vs [] w).frame.held n ≡ Some (stands o) → ⊥
no_objects [] w n o e = none-some _ e
no_objects (v ∷ vs) w zero o e = absurd cc
no_objects (v ∷ vs) w (suc n) o e = no_objects vs w n o e

-- where it is entered, a state stands soundly, and what is known there describes the frame
pub record EntersSoundly (p : PlainProgram) (c : Claims) (f : PlainFunction) (n : ℕ) (start : Entered) : Type 0 where
  pub ready : StandsSoundly p f.variables n start.frame start.state
  pub describes : Describes f.variables (entry_at p c p.main) start.frame.held start.frame.held

pub enters_soundly : (p : PlainProgram) (c : Claims) (f : PlainFunction) → slice_get p.functions p.main ≡ Some f → f.parameters ≡ 0 → (depth : Depth) (n : ℕ) (w : State) (ks : List Kind) → Sound p ks w → w.left ≤ n → EntersSoundly p c f n (entered f.variables [] (raised depth w))
enters_soundly p c f there none depth n w ks so l =
    let start : Entered = entered f.variables [] (raised depth w) in
    let fits : EntryFits p ks f.variables start = no_arguments p f.variables (raised depth w) ks so in
    let is : IsEntry (raised depth w) start = entered_is f.variables [] (raised depth w) in
    record {
      ready = record {
        kinds = fits.kinds;
        sound = fits.sound;
        fits = fits.frame;
        in_frame = record { no_object = λ k v o at frame_is e. no_objects f.variables (raised depth w) k o e };
        left = subst (λ k. k ≤ n) (sym is.left) l;
      };
      describes = record { each = λ k a e. absurd (none-some _ (sym (nothing_known p c f there none k) ∙ e)) };
    }

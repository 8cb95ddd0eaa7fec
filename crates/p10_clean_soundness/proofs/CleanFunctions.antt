-- What a clean certificate says of each function of its program.
use Rattle.std.proofs.Common.{◌≡◌, ℕ, zero, suc, ◌+◌, ◌&&◌, not, Bool, true, false, List, [], ◌∷◌, refl, subst, arith, Some, slice_get}
use Rattle.std.specs.Bool.{nat_eq}
use Rattle.std.proofs.lemmas.Option.{none-some}
use Rattle.p10_core.specs.Rows.{is_void}
use Rattle.p10_core.specs.Typed.{PlainFunction, PlainProgram}
use Rattle.p10_cert.specs.Claims.{Claims}
use Rattle.p10_absx.specs.Entering.{entry_at}
use Rattle.p10_pass.specs.Passing.{manner_of}
use Rattle.p10_warn.specs.Ends.{reach_end, lacks_return}
use Rattle.p10_clean.specs.declared.flaw.Flaw.{Flaw}
use Rattle.p10_clean.specs.declared.flaw.Clean.TheVariants.{Yes}
use Rattle.p10_clean.specs.Settings.{set_at_entry}
use Rattle.p10_clean.specs.Values.{flaw_if}
use Rattle.p10_clean.specs.Statements.{flaws_in_statements}
use Rattle.p10_clean.specs.Clean.{flaws_in_function, flaws_in_functions, flaws_of, first_flaw, said_of, cleanness}
use Rattle.p10_clean_soundness.proofs.Flawless.{parts_empty, no_flaw}

-- a function has no flaws: it returns a value if it has a result and may be called, and its body is clean from its entry on
pub record IsCleanFunction (p : PlainProgram) (c : Claims) (k : ℕ) (f : PlainFunction) : Type 0 where
  pub returns : nat_eq k p.main ≡ false → is_void f.result ≡ false → reach_end f.body ≡ false
  pub body : flaws_in_statements (manner_of f (Some c) k) f.body (set_at_entry f) (entry_at p c k) ≡ []

-- nothing is said of no flaws alone
none_said : (fs : List Flaw) → said_of (first_flaw fs) ≡ Yes → fs ≡ []
none_said [] e = refl
none_said (f ∷ fs) e = absurd cc

at_function : (p : PlainProgram) (c : Claims) (n : ℕ) (fs : List PlainFunction) → flaws_in_functions p c n fs ≡ [] → (k : ℕ) (f : PlainFunction) → slice_get fs k ≡ Some f → flaws_in_function p c (n + k) f ≡ []
at_function p c n [] e k f h = absurd (none-some _ h)
at_function p c n (g ∷ fs) e zero f h =
    let parts = parts_empty (flaws_in_function p c n g) (flaws_in_functions p c (suc n) fs) e in
    let same : g ≡ f = cc in
    subst (λ f. flaws_in_function p c (n + 0) f ≡ []) same (subst (λ k. flaws_in_function p c k g ≡ []) (plus_zero n) parts.0)
  where
    plus_zero : (n : ℕ) → n ≡ n + 0
    plus_zero n = omega arith
at_function p c n (g ∷ fs) e (suc k) f h =
    let parts = parts_empty (flaws_in_function p c n g) (flaws_in_functions p c (suc n) fs) e in
    subst (λ j. flaws_in_function p c j f ≡ []) (shifted n k) (at_function p c (suc n) fs parts.1 k f h)
  where
    shifted : (n k : ℕ) → suc n + k ≡ n + suc k
    shifted n k = omega arith

function_flaws : (p : PlainProgram) (c : Claims) → cleanness p c ≡ Yes → (k : ℕ) (f : PlainFunction) → slice_get p.functions k ≡ Some f → flaws_in_function p c k f ≡ []
function_flaws p c e k f h = subst (λ k. flaws_in_function p c k f ≡ []) (zero_plus k) (at_function p c 0 p.functions (none_said (flaws_of p c) e) k f h)
  where
    zero_plus : (k : ℕ) → 0 + k ≡ k
    zero_plus k = omega arith

returns_of : (is_main lacks reaches : Bool) → (not is_main && (not lacks && reaches)) ≡ false → is_main ≡ false → lacks ≡ false → reaches ≡ false
returns_of true l r e m v = absurd cc
returns_of false true r e m v = absurd cc
returns_of false false r e m v = e

pub clean_function : (p : PlainProgram) (c : Claims) → cleanness p c ≡ Yes → (k : ℕ) (f : PlainFunction) → slice_get p.functions k ≡ Some f → IsCleanFunction p c k f
clean_function p c e k f h =
    let parts = parts_empty (flaw_if (lacks_return p.main k f) 7 f.span) (flaws_in_statements (manner_of f (Some c) k) f.body (set_at_entry f) (entry_at p c k)) (function_flaws p c e k f h) in
    record {
      returns = returns_of (nat_eq k p.main) (is_void f.result) (reach_end f.body) (no_flaw (lacks_return p.main k f) 7 f.span parts.0);
      body = parts.1;
    }

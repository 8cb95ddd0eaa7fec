-- Certificates that differ from a program at no function, and those that speak of a program.
use Rattle.std.proofs.Common.{◌≡◌, ◌∙◌, ℕ, zero, suc, ◌+◌, Bool, true, false, List, [], ◌∷◌, length, slice_get, Option, Some, None, if◌then◌else◌, sym, ap, refl, arith}
use Rattle.p10_cert.specs.Claims.{Func}
use Rattle.p10_core.specs.Typed.{PlainFunction, PlainProgram}
use Rattle.p10_fit.specs.Fits.{fits_function, unfit_from}
use Rattle.p10_fit.specs.Laws.{FitSpeaks, SpeakingFits}

-- claims speak of the functions from a number on
record SpeaksFrom (p : PlainProgram) (n : ℕ) (functions : List PlainFunction) (claims : List Func) : Type 0 where
  count : length claims ≡ length functions
  each : (k : ℕ) (f : PlainFunction) (claim : Func) → slice_get functions k ≡ Some f → slice_get claims k ≡ Some claim → fits_function p (n + k) f claim ≡ true

-- a test that leaves nothing was passed
passed : (b : Bool) (o : Option ℕ) (n : ℕ) → (if b then o else Some n) ≡ None → (b ≡ true) × (o ≡ None)
passed true o n h = (refl, h)
passed false o n h = cc

-- of one function and those after it
from_both : (p : PlainProgram) (n : ℕ) (f : PlainFunction) (claim : Func) (functions : List PlainFunction) (claims : List Func)
    → fits_function p n f claim ≡ true → SpeaksFrom p (n + 1) functions claims → SpeaksFrom p n (f ∷ functions) (claim ∷ claims)
from_both p n f claim functions claims here rest = record {
  count = ap suc rest.count;
  each = each;
}
  where
    each : (k : ℕ) (g : PlainFunction) (other : Func) → slice_get (f ∷ functions) k ≡ Some g → slice_get (claim ∷ claims) k ≡ Some other → fits_function p (n + k) g other ≡ true
    each zero g other e h =
        let same : f ≡ g = cc in
        let alike : claim ≡ other = cc in
        (λ i. fits_function p ((let z : n + 0 ≡ n = omega arith in z) i) (sym same i) (sym alike i)) ∙ here
    each (suc k) g other e h = ap (λ m. fits_function p m g other) (omega arith) ∙ rest.each k g other e h

speaks_from : (p : PlainProgram) (n : ℕ) (functions : List PlainFunction) (claims : List Func) → unfit_from p n functions claims ≡ None → SpeaksFrom p n functions claims
speaks_from p n [] [] h = record { count = refl; each = λ k f claim e g. cc }
speaks_from p n [] (claim ∷ claims) h = cc
speaks_from p n (f ∷ functions) [] h = cc
speaks_from p n (f ∷ functions) (claim ∷ claims) h =
    let both : (fits_function p n f claim ≡ true) × (unfit_from p (n + 1) functions claims ≡ None) = passed (fits_function p n f claim) (unfit_from p (n + 1) functions claims) n h in
    from_both p n f claim functions claims both.0 (speaks_from p (n + 1) functions claims both.1)

none_from : (p : PlainProgram) (n : ℕ) (functions : List PlainFunction) (claims : List Func) → SpeaksFrom p n functions claims → unfit_from p n functions claims ≡ None
none_from p n [] [] s = refl
none_from p n [] (claim ∷ claims) s = let no : ⊥ = omega (arith, s.count) in absurd no
none_from p n (f ∷ functions) [] s = let no : ⊥ = omega (arith, s.count) in absurd no
none_from p n (f ∷ functions) (claim ∷ claims) s =
    ap (λ b. if b then unfit_from p (n + 1) functions claims else Some n) (ap (λ m. fits_function p m f claim) (omega arith) ∙ s.each 0 f claim refl refl)
    ∙ none_from p (n + 1) functions claims (record {
      count = omega (arith, s.count);
      each = λ k g other e h. ap (λ m. fits_function p m g other) (omega arith) ∙ s.each (suc k) g other e h;
    })

pub fit_speaks : FitSpeaks
fit_speaks p c none =
    let s : SpeaksFrom p 0 p.functions c.funcs = speaks_from p 0 p.functions c.funcs none in
    record { count = s.count; each = λ n f claim e h. ap (λ m. fits_function p m f claim) (omega arith) ∙ s.each n f claim e h }

pub speaking_fits : SpeakingFits
speaking_fits p c s =
    none_from p 0 p.functions c.funcs (record { count = s.count; each = λ n f claim e h. ap (λ m. fits_function p m f claim) (omega arith) ∙ s.each n f claim e h })

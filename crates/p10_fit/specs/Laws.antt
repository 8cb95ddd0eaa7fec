-- What follows from the definitions.
use Rattle.std.specs.Prelude.{◌≡◌, ℕ, true, length, Some, None, slice_get}
use Rattle.p10_cert.specs.Claims.{Func, Claims}
use Rattle.p10_core.specs.Typed.{PlainFunction, PlainProgram}
use Rattle.p10_fit.specs.Fits.{fits_function, unfit}

-- a certificate that differs from the program at no function has as many claims as there are functions, and each speaks of its function
pub record SpeaksOf (p : PlainProgram) (c : Claims) : Type 0 where
  pub count : length c.funcs ≡ length p.functions
  pub each : (n : ℕ) (f : PlainFunction) (claim : Func) → slice_get p.functions n ≡ Some f → slice_get c.funcs n ≡ Some claim → fits_function p n f claim ≡ true

-- a certificate that differs from the program at no function speaks of it
abbrev pub FitSpeaks : Type 0
FitSpeaks = (p : PlainProgram) (c : Claims) → unfit p c ≡ None → SpeaksOf p c

-- a certificate that speaks of the program differs from it at no function
abbrev pub SpeakingFits : Type 0
SpeakingFits = (p : PlainProgram) (c : Claims) → SpeaksOf p c → unfit p c ≡ None

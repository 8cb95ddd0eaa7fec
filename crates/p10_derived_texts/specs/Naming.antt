-- What the text of a certificate asks of a program's names.
use Rattle.std.specs.Prelude.{◌≡◌, ℕ, true, Some, slice_get, codes}
use Rattle.p10_core.specs.Typed.{PlainFunction, PlainProgram}
use Rattle.p10_cert.specs.Lines.{is_name}

-- each function has a name of C (C99 6.4.2.1), and the one where the program begins is called `main` (C99 5.1.2.2.1)
pub record AreNamed (p : PlainProgram) : Type 0 where
  pub names : (n : ℕ) (f : PlainFunction) → slice_get p.functions n ≡ Some f → is_name f.name ≡ true
  pub main_is : (f : PlainFunction) → slice_get p.functions p.main ≡ Some f → f.name ≡ codes "main"

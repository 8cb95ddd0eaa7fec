-- Clean certificates: at every place to which the pass comes, with what it knows there, conditions C1 to C8 hold. What they exclude is every
-- operation that C99 leaves undefined.
use Rattle.std.specs.Prelude.{ℕ, suc, nat_lt, if◌then◌else◌, List, [], ◌∷◌, ◌++◌, Option, Some, None}
use Rattle.p10_core.specs.Typed.{PlainFunction, PlainProgram}
use Rattle.p10_cert.specs.Claims.{Claims}
use Rattle.p10_absx.specs.Entering.{entry_at}
use Rattle.p10_pass.specs.Passing.{manner_of}
use Rattle.p10_warn.specs.Ends.{lacks_return}
use Rattle.p10_clean.specs.declared.flaw.Flaw.{Flaw}
use Rattle.p10_clean.specs.declared.flaw.Clean.{Clean}
use Rattle.p10_clean.specs.declared.flaw.Clean.TheVariants.{Yes, No}
use Rattle.p10_clean.specs.Settings.{set_at_entry}
use Rattle.p10_clean.specs.Values.{flaw_if}
use Rattle.p10_clean.specs.Statements.{flaws_in_statements}

-- the flaws in the function with a number: C7 at its name, and those of its body, from the claims on its parameters on
abbrev pub flaws_in_function : PlainProgram → Claims → ℕ → PlainFunction → List Flaw
flaws_in_function p c n f =
    flaw_if (lacks_return p.main n f) 7 f.span ++ flaws_in_statements (manner_of f (Some c) n) f.body (set_at_entry f) (entry_at p c n)

-- the flaws in functions from number n on, one after the other
abbrev pub flaws_in_functions : PlainProgram → Claims → ℕ → List PlainFunction → List Flaw
flaws_in_functions p c n [] = []
flaws_in_functions p c n (f ∷ functions) = flaws_in_function p c n f ++ flaws_in_functions p c (suc n) functions

-- all flaws of a certificate for a program, in program order and then in text order
abbrev pub flaws_of : PlainProgram → Claims → List Flaw
flaws_of p c = flaws_in_functions p c 0 p.functions

-- the one of two flaws that counts first: the second only where its number is lower
abbrev pub first_of : Flaw → Option Flaw → Flaw
first_of f None = f
first_of f (Some g) = if nat_lt g.c f.c then g else f

-- the first flaw by number, then in the order of the list
abbrev pub first_flaw : List Flaw → Option Flaw
first_flaw [] = None
first_flaw (f ∷ flaws) = Some (first_of f (first_flaw flaws))

-- what is said by the first flaw
abbrev pub said_of : Option Flaw → Clean
said_of None = Yes
said_of (Some f) = No f.c f.at

-- what is said of a certificate for a program: it is clean, or the first condition that doesn't hold
abbrev pub cleanness : PlainProgram → Claims → Clean
cleanness p c = said_of (first_flaw (flaws_of p c))

-- The conditions on a function ask for its view, for what is claimed of it and of those that it calls, and for evidence about its loops.
use Rattle.std.specs.Prelude.{◌≡◌, ℕ, [], Some, slice_get}
use Rattle.p10_core.specs.Typed.{PlainFunction, PlainProgram}
use Rattle.p10_core.specs.WholePrograms.{IsWholeProgram}
use Rattle.p10_cert.specs.Claims.{Claims}
use Rattle.p10_check.specs.Passes.{Standing}
use Rattle.p10_check.specs.Conditions.{function_failures}
use Rattle.p10_views.specs.Views.{view_of, AgreeAbout}

-- functions of two whole programs with one number and one view, of which the same is claimed, and about whose loops evidence says the same:
-- where no condition on the one fails, none on the other does
abbrev pub ViewsDecide : Type 0
ViewsDecide =
    (old new : Standing) (p q : PlainProgram) → IsWholeProgram p → IsWholeProgram q → (c d : Claims) (n : ℕ) (f g : PlainFunction)
    → slice_get p.functions n ≡ Some f → slice_get q.functions n ≡ Some g → view_of p n f ≡ view_of q n g
    → AgreeAbout c.funcs d.funcs n g → old n ≡ new n
    → function_failures old p c n f ≡ [] → function_failures new q d n g ≡ []

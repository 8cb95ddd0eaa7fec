-- The evidence of differences asks for the view of a function.
use Rattle.std.specs.Prelude.{◌≡◌, ℕ, List, Some, slice_get}
use Rattle.p10_core.specs.Typed.{PlainFunction, PlainProgram}
use Rattle.p10_diff.specs.Evidence.{Rank, stands_by_differences}
use Rattle.p10_views.specs.Views.{view_of}

-- for functions of two programs with one number and one view the evidence of the same ranks stands for the same loops, entries and claims
abbrev pub DifferencesStandByView : Type 0
DifferencesStandByView =
    (ranks : List Rank) (p q : PlainProgram) (n : ℕ) (f g : PlainFunction) → slice_get p.functions n ≡ Some f → slice_get q.functions n ≡ Some g → view_of p n f ≡ view_of q n g
    → stands_by_differences ranks p n ≡ stands_by_differences ranks q n

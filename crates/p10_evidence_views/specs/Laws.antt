-- Evidence asks for the view of a function.
use Rattle.std.specs.Prelude.{◌≡◌, ℕ, Some, slice_get}
use Rattle.p10_core.specs.Typed.{PlainFunction, PlainProgram}
use Rattle.p10_turns.specs.Evidence.{stands_by_ranges}
use Rattle.p10_views.specs.Views.{view_of}

-- for functions of two programs with one number and one view the evidence of ranges stands for the same loops, entries and claims
abbrev pub RangesStandByView : Type 0
RangesStandByView =
    (p q : PlainProgram) (n : ℕ) (f g : PlainFunction) → slice_get p.functions n ≡ Some f → slice_get q.functions n ≡ Some g → view_of p n f ≡ view_of q n g → stands_by_ranges p n ≡ stands_by_ranges q n

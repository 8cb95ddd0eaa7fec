-- Functions that are the same but for places and numbers have one view.
use Rattle.std.specs.Prelude.{◌≡◌, ℕ, Bool, true}
use Rattle.p10_core.specs.Types.{structure}
use Rattle.p10_core.specs.Typed.{PlainFunction, PlainProgram}
use Rattle.p10_sums.specs.Counting.{task_of}
use Rattle.p10_views.specs.Erased.{own_width}
use Rattle.p10_views.specs.Views.{view_of}
use Rattle.p10_renaming.specs.Renaming.{Pairing, SameFunction}

-- structures that are paired have as many scalars of their own
abbrev pub HasWidths : Pairing → PlainProgram → PlainProgram → Type 0
HasWidths R p q = (c : Bool) (n m : ℕ) → R.used n m ≡ true → own_width p (structure c n) ≡ own_width q (structure c m)

-- functions with one number that are the same have one view, where the task loop stands at the same place
abbrev pub RenamedHaveOneView : Type 0
RenamedHaveOneView =
    (R : Pairing) (p q : PlainProgram) → HasWidths R p q → (n : ℕ) (f g : PlainFunction) → SameFunction R f g → task_of p n ≡ task_of q n → view_of p n f ≡ view_of q n g

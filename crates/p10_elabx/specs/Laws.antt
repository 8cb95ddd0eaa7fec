-- What holds of what is found in expressions.
use Rattle.std.specs.Prelude.{◌≡◌, Ok, Err, [], ◌∷◌}
use Rattle.p10_base.specs.declared.at.At.{At}
use Rattle.p10_syn.specs.Trees.{Expression}
use Rattle.p10_elabx.specs.First.{IsFirst, Found, Judged, every, only_first}
use Rattle.p10_elabx.specs.Scopes.{PlainScope}
use Rattle.p10_elabx.specs.Operands.{PlainOperand}
use Rattle.p10_elabx.specs.Judging.{judge}

-- the same thing is found; or no row holds in either; or the row that is kept is the first of all that hold
abbrev pub IsKept : {A : Type 0} → Found A → Found A → Type 0
IsKept (Ok a) (Ok b) = a ≡ b
IsKept (Err all) (Err []) = all ≡ []
IsKept (Err all) (Err (r ∷ [])) = IsFirst r all
IsKept (Err all) (Err (r ∷ q ∷ rs)) = ⊥
IsKept (Ok a) (Err rs) = ⊥
IsKept (Err all) (Ok b) = ⊥

-- the same, with what counts for the order of evaluation
pub record Tied (A : Type 0) (j k : Judged A) : Type 0 where
  pub found : IsKept j.found k.found
  pub acts : j.acts ≡ k.acts
  pub reads : j.reads ≡ k.reads

-- keeping only the first row at each tree keeps the first of all rows that hold in an expression
abbrev pub TheFirstIsKept : Type 0
TheFirstIsKept = (s : PlainScope) (e : Expression At) → Tied PlainOperand (judge every s e) (judge only_first s e)

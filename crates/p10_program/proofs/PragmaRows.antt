-- Pragmas of the function with a number.
use Rattle.std.proofs.Common.{◌≡◌, ℕ, zero, suc, List, [], ◌∷◌, Some, slice_get, refl}
use Rattle.p10_core.specs.declared.statements.MarkKind.{MarkKind}
use Rattle.p10_core.specs.Typed.{PlainFunction}
use Rattle.p10_program.specs.Pragmas.{pragma_in}
use Rattle.p10_program.specs.private.Marked.{pragma_of}

pub pragma_at : (kind : MarkKind) (n : ℕ) (all : List PlainFunction) → pragma_of kind (slice_get all n) ≡ pragma_in kind (Some n) all
pragma_at kind n [] = refl
pragma_at kind zero (f ∷ rest) = refl
pragma_at kind (suc n) (f ∷ rest) = pragma_at kind n rest

-- The parameters of a function: none, or several.
use Rattle.std.specs.Prelude.{◌≡◌, true, List, [], ◌∷◌, Option, Some, None, map, length, slice_get, refl}
use Rattle.p10_base.specs.declared.at.At.{At}
use Rattle.p10_base.specs.declared.codes.SubsetCode.TheVariants as subset
use Rattle.p10_syn.specs.declared.tree.Parameter.{Parameter}
use Rattle.p10_syn.specs.Trees.{parameter_row}
use Rattle.p10_syn.specs.Built.{parameter_of}
use Rattle.p10_elabx.specs.First.{only_first}
use Rattle.p10_elabd.specs.Standing.{PlainStanding, refusing}
use Rattle.p10_elabd.specs.Declaring.{Listing, none_listed, all_parameters_passed, parameters_passed}

-- no parameter
pub no_parameter : (s : PlainStanding) (at : At) (all : List Parameter) → None ≡ slice_get all 0 →
    none_listed (refusing only_first true subset.NoPrototype at s) ≡ all_parameters_passed only_first s at (parameter_row (map parameter_of all))
no_parameter s at [] e = refl
no_parameter s at (x ∷ rest) e = absurd cc

-- several parameters
pub several : (s : PlainStanding) (at : At) (all : List Parameter) (x : Parameter) (p : Listing) → Some x ≡ slice_get all 0 → (length all ≡ 1 → ⊥) →
    p ≡ parameters_passed only_first 0 (none_listed s) (parameter_row (map parameter_of all)) → p ≡ all_parameters_passed only_first s at (parameter_row (map parameter_of all))
several s at [] x p e more ep = absurd cc
several s at (y ∷ []) x p e more ep = absurd (more refl)
several s at (y ∷ z ∷ rest) x p e more ep = ep

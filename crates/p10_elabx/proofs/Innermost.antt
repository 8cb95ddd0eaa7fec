-- Declared names of the innermost block of the code as the definitions see them.
use Rattle.std.specs.Prelude.{◌≡◌, ℕ, zero, suc, None, option_map, List, [], ◌∷◌, drop, refl}
use Rattle.std.proofs.Common.{ap, ◌∙◌}
use Rattle.p10_base.specs.Words.{Text}
use Rattle.p10_bindings.specs.Lookup.{last_bound}
use Rattle.p10_elabx.specs.declared.named.Named.{Named}
use Rattle.p10_elabx.specs.Scopes.{last_named}
use Rattle.p10_elabx.specs.Views.{meaning_of, bindings_of}
use Rattle.p10_elabx.proofs.Bound.{found_is}

-- all but the first of the names
pub rest_are : (n : ℕ) (bindings : List (Text × Named)) → bindings_of (drop n bindings) ≡ drop n (bindings_of bindings)
rest_are zero [] = refl
rest_are zero (b ∷ rest) = refl
rest_are (suc n) [] = refl
rest_are (suc n) (b ∷ rest) = rest_are n rest

-- what a name stands for, without the first of the names
pub found_here : (n : ℕ) (name : Text) (bindings : List (Text × Named)) →
    option_map meaning_of (last_bound name (drop n bindings)) ≡ last_named None name (drop n (bindings_of bindings))
found_here n name bindings = found_is None name (drop n bindings) ∙ ap (last_named None name) (rest_are n bindings)

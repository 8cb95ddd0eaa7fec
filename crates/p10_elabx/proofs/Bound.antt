-- Declared names of the code as the definitions see them.
use Rattle.std.specs.Prelude.{◌≡◌, ℕ, zero, suc, Bool, true, false, Option, Some, option_map, List, [], ◌∷◌, ◌++◌, take, length, bytes_eq, if◌then◌else◌, refl}
use Rattle.std.proofs.Common.{ap, ◌∙◌}
use Rattle.p10_base.specs.Words.{Text}
use Rattle.p10_bindings.specs.Lookup.{last_after}
use Rattle.p10_elabx.specs.declared.named.Named.{Named}
use Rattle.p10_elabx.specs.Scopes.{last_named}
use Rattle.p10_elabx.specs.Views.{meaning_of, binding_of, bindings_of}

mapped_if : (b : Bool) (n : Named) (o : Option Named) → option_map meaning_of (if b then Some n else o) ≡ (if b then Some (meaning_of n) else option_map meaning_of o)
mapped_if true n o = refl
mapped_if false n o = refl

-- what a name stands for
pub found_is : (found : Option Named) (name : Text) (bindings : List (Text × Named)) →
    option_map meaning_of (last_after found name bindings) ≡ last_named (option_map meaning_of found) name (bindings_of bindings)
found_is found name [] = refl
found_is found name ((text, what) ∷ rest) =
    found_is (if bytes_eq text name then Some what else found) name rest
    ∙ ap (λ o. last_named o name (bindings_of rest)) (mapped_if (bytes_eq text name) what found)

-- how many names there are
pub as_many : (bindings : List (Text × Named)) → length (bindings_of bindings) ≡ length bindings
as_many [] = refl
as_many (b ∷ rest) = ap suc (as_many rest)

-- the first of the names
pub kept_are : (n : ℕ) (bindings : List (Text × Named)) → bindings_of (take n bindings) ≡ take n (bindings_of bindings)
kept_are zero [] = refl
kept_are zero (b ∷ rest) = refl
kept_are (suc n) [] = refl
kept_are (suc n) (b ∷ rest) = ap (λ bs. binding_of b ∷ bs) (kept_are n rest)

-- one name more
pub one_more : (bindings : List (Text × Named)) (name : Text) (what : Named) →
    bindings_of (bindings ++ (name, what) ∷ []) ≡ bindings_of bindings ++ record { name = name; what = meaning_of what } ∷ []
one_more [] name what = refl
one_more (b ∷ rest) name what = ap (λ bs. binding_of b ∷ bs) (one_more rest name what)

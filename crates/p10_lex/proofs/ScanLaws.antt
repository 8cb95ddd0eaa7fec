-- What comes next in a literal, and the values of all of it.
use Rattle.std.proofs.Common.{◌≡◌, ℕ, [], ◌∷◌, ◌++◌, refl, sym, ◌∙◌, ap}
use Rattle.std.specs.Prelude.{Option, Some, None, is_some, option_map, option_and_then}
use Rattle.std.proofs.lemmas.List.{append_assoc}
use Rattle.p10_base.specs.Words.{Text}
use Rattle.p10_lex.specs.declared.characters.Mode.{Mode}
use Rattle.p10_lex.specs.declared.characters.Mode.TheVariants.{Plain}
use Rattle.p10_lex.specs.declared.characters.Next.{Next}
use Rattle.p10_lex.specs.declared.characters.Next.TheVariants.{Value, Last, Bad}
use Rattle.p10_lex.specs.declared.characters.Place.{Place}
use Rattle.p10_lex.specs.Splices.{joined}
use Rattle.p10_lex.specs.Literals.{one_of, values_from, values_of}
use Rattle.p10_lex.specs.private.Scanning.{IsNext, last_text, lone_value, place_values}

-- the values from the beginning on
pub from_beginning : (quote : ℕ) (place : Place) (inside : Text) → place.mode ≡ Plain None → place.rest.now ≡ inside → place_values quote place ≡ values_of quote inside
from_beginning quote place inside mode rest =
    ap (λ (m : Mode). values_from quote m (joined place.rest.now)) mode ∙ ap (λ (t : Text). values_from quote (Plain None) (joined t)) rest

-- one value more leaves it whether there are any
pub some_after : (value : ℕ) (o : Option Text) → is_some (option_map (λ values. value ∷ values) o) ≡ is_some o
some_after value None = refl
some_after value (Some values) = refl

-- one value more after those so far
pub pushed : (so : Text) (value : ℕ) (o : Option Text) → option_map (λ values. (so ++ value ∷ []) ++ values) o ≡ option_map (λ values. so ++ values) (option_map (λ values. value ∷ values) o)
pushed so value None = refl
pushed so value (Some values) = ap (λ (vs : Text). let o : Option Text = Some vs in o) (append_assoc so (value ∷ []) values)

-- the only value, where it ends the literal
pub single_last : (value : Option ℕ) (o : Option Text) → o ≡ Some (last_text value) → value ≡ option_and_then one_of o
single_last None o is = sym (ap (option_and_then one_of) is)
single_last (Some value) o is = sym (ap (option_and_then one_of) is)

two_values : (value other : ℕ) (o : Option Text) → None ≡ option_and_then one_of (option_map (λ values. value ∷ values) (option_map (λ values. other ∷ values) o))
two_values value other None = refl
two_values value other (Some values) = refl

-- the only value, where something comes after it
pub single_value : (quote value : ℕ) (whole : Option Text) (after : Place) (next : Next) → whole ≡ option_map (λ values. value ∷ values) (place_values quote after)
    → IsNext quote after next → lone_value value next ≡ option_and_then one_of whole
single_value quote value whole after (Last None) is comes = sym (ap (option_and_then one_of) (is ∙ ap (option_map (λ values. value ∷ values)) comes))
single_value quote value whole after (Last (Some other)) is comes = sym (ap (option_and_then one_of) (is ∙ ap (option_map (λ values. value ∷ values)) comes))
single_value quote value whole after (Value other later) is comes =
    two_values value other (place_values quote later) ∙ sym (ap (option_and_then one_of) (is ∙ ap (option_map (λ values. value ∷ values)) comes.0))
single_value quote value whole after Bad is comes = sym (ap (option_and_then one_of) (is ∙ ap (option_map (λ values. value ∷ values)) comes))

-- The bytes of strings are those that are read.
use Rattle.std.proofs.Common.{◌≡◌, ℕ, refl, sym, ◌∙◌, ap}
use Rattle.std.specs.Prelude.{Option, Some, None, IfSome, IfNone, IfOk, Result, Ok, Err, Vec, option_map, option_and_then}
use Rattle.std.specs.declared.alloc.Global.{Global}
use Rattle.p10_base.specs.Words.{Text}
use Rattle.p10_lex.specs.Splices.{joined}
use Rattle.p10_lex.specs.Characters.{IsString}
use Rattle.p10_lex.specs.Literals.{inside, values_of}
use Rattle.p10_lex.proofs.CharacterLaws.{agains, reads}
use Rattle.p10_lex.proofs.Enclosing.{inside_takes, inside_again}
use Rattle.p10_elabx.specs.Literals.{string_value}

-- a string has its bytes
string_again : (text values : Text) → IsString text values → Some values ≡ string_value text
string_again text values is =
    sym (ap (option_and_then (values_of 34)) (ap (inside 34 34) is.parts ∙ inside_again 34 34 is.inside) ∙ agains 34 (joined is.inside) values is.characters)

-- what has bytes is a string
string_takes : (text values : Text) → string_value text ≡ Some values → IsString text values
string_takes text values e = by (inside 34 34 text) refl e
  where
    by : (within : Option Text) → inside 34 34 text ≡ within → option_and_then (values_of 34) within ≡ Some values → IsString text values
    by None there e = absurd (cc)
    by (Some within) there e =
        record { inside = within; parts = inside_takes 34 34 text within there; characters = reads 34 (joined within) values e }

-- a text that is no string has none
no_string : (text : Text) → ((values : Text) → IsString text values → ⊥) → None ≡ string_value text
no_string text none = by (string_value text) refl
  where
    by : (found : Option Text) → string_value text ≡ found → None ≡ found
    by None e = refl
    by (Some values) e = absurd (none values (string_takes text values e))

-- the clauses of what reads a string
pub string_is : {E : Type 0} (text : Text) (r : Result (Option (Vec ℕ Global)) E) → IfOk r (λ found. IfSome found (λ bytes. IsString text bytes.items)) →
    IfOk r (λ found. IfNone found ((values : Text) → IsString text values → ⊥)) → IfOk r (λ found. option_map (λ bytes. bytes.items) found ≡ string_value text)
string_is text (Ok None) found none = no_string text none
string_is text (Ok (Some bytes)) found none = string_again text bytes.items found
string_is text (Err e) found none = tt

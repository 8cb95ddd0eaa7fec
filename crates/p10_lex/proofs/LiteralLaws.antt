-- The values of literals are read exactly.
use Rattle.std.proofs.Common.{◌≡◌, ℕ, [], ◌∷◌, refl, sym, ◌∙◌, ap}
use Rattle.std.specs.Prelude.{ℤ, Option, Some, None, IfSome, IfNone, IfOk, Result, Ok, Err, Vec, option_map, option_and_then}
use Rattle.std.specs.declared.alloc.Global.{Global}
use Rattle.std.proofs.lemmas.Option.{none-some}
use Rattle.p10_base.specs.Words.{Text}
use Rattle.p10_lex.specs.Splices.{joined}
use Rattle.p10_lex.specs.Characters.{IsLiteral, IsCharacter, IsString, char_value}
use Rattle.p10_lex.specs.Literals.{character_value, inside, one_of, values_of}
use Rattle.p10_lex.specs.private.Scanning.{literal_values}
use Rattle.p10_lex.proofs.CharacterLaws.{agains, one_is, reads}
use Rattle.p10_lex.proofs.Enclosing.{inside_takes, inside_again}

-- a literal is read
literal_again : (quote : ℕ) (text values : Text) → IsLiteral quote text values → (within : Text) × (inside quote quote text ≡ Some within) × (values_of quote within ≡ Some values)
literal_again quote text values is =
    (is.inside, ap (inside quote quote) is.parts ∙ inside_again quote quote is.inside, agains quote (joined is.inside) values is.characters)

-- what is read is a literal
literal_takes : (quote : ℕ) (text within values : Text) → inside quote quote text ≡ Some within → values_of quote within ≡ Some values → IsLiteral quote text values
literal_takes quote text within values e read =
    record { inside = within; parts = inside_takes quote quote text within e; characters = reads quote (joined within) values read }

-- the value that is read is that of a character constant
character_takes : (text : Text) (value : ℤ) → character_value text ≡ Some value → IsCharacter text value
unfolding character_value
character_takes text value e = by_inside (inside 39 39 text) refl e
  where
    by_one : (within : Text) (found : Option ℕ) → inside 39 39 text ≡ Some within → option_and_then one_of (values_of 39 within) ≡ found → option_map char_value found ≡ Some value → IsCharacter text value
    by_one within None there is e = absurd (cc)
    by_one within (Some byte) there is e =
        let same : char_value byte ≡ value = cc in
        record { byte = byte; literal = literal_takes 39 text within (byte ∷ []) there (one_is (values_of 39 within) byte is); is_value = sym same }

    by_inside : (within : Option Text) → inside 39 39 text ≡ within → option_map char_value (option_and_then (λ t. option_and_then one_of (values_of 39 t)) within) ≡ Some value → IsCharacter text value
    by_inside None there e = absurd (cc)
    by_inside (Some within) there e = by_one within (option_and_then one_of (values_of 39 within)) there refl e

-- a character constant is read
character_again : (text : Text) (value : ℤ) → IsCharacter text value → character_value text ≡ Some value
unfolding character_value
character_again text value is =
    let (within, there, read) = literal_again 39 text (is.byte ∷ []) is.literal in
    ap (λ (o : Option Text). option_map char_value (option_and_then (λ t. option_and_then one_of (values_of 39 t)) o)) there
    ∙ ap (λ (o : Option Text). option_map char_value (option_and_then one_of o)) read ∙ ap (λ (v : ℤ). let o : Option ℤ = Some v in o) (sym is.is_value)

-- the clauses of `character_value`
pub character_found : (text : Text) (result : Option ℤ) → result ≡ character_value text → IfSome result (IsCharacter text)
character_found text None is = tt
character_found text (Some value) is = character_takes text value (sym is)

pub character_none : (text : Text) (result : Option ℤ) → result ≡ character_value text → IfNone result ((value : ℤ) → IsCharacter text value → ⊥)
character_none text None is = λ value character. none-some value (is ∙ character_again text value character)
character_none text (Some value) is = tt

-- the values that are read are those of a literal
values_take : (quote : ℕ) (text values : Text) → literal_values quote text ≡ Some values → IsLiteral quote text values
values_take quote text values e = by (inside quote quote text) refl e
  where
    by : (within : Option Text) → inside quote quote text ≡ within → option_and_then (values_of quote) within ≡ Some values → IsLiteral quote text values
    by None there e = absurd (cc)
    by (Some within) there e = literal_takes quote text within values there e

-- a literal is read
values_again : (quote : ℕ) (text values : Text) → IsLiteral quote text values → literal_values quote text ≡ Some values
values_again quote text values is =
    let (within, there, read) = literal_again quote text values is in ap (option_and_then (values_of quote)) there ∙ read

-- the clauses of `string_bytes`
pub string_found : {E : Type 0} (text : Text) (r : Result (Option (Vec ℕ Global)) E) → IfOk r (λ found. option_map (λ bytes. bytes.items) found ≡ literal_values 34 text)
    → IfOk r (λ found. IfSome found (λ bytes. IsString text bytes.items))
string_found text (Ok None) is = tt
string_found text (Ok (Some bytes)) is = values_take 34 text bytes.items (sym is)
string_found text (Err e) is = tt

pub string_none : {E : Type 0} (text : Text) (r : Result (Option (Vec ℕ Global)) E) → IfOk r (λ found. option_map (λ bytes. bytes.items) found ≡ literal_values 34 text)
    → IfOk r (λ found. IfNone found ((values : Text) → IsString text values → ⊥))
string_none text (Ok None) is = λ values string. none-some values (is ∙ values_again 34 text values string)
string_none text (Ok (Some bytes)) is = tt
string_none text (Err e) is = tt

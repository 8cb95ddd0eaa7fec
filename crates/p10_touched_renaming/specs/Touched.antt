-- A function that stands at two places, with a body of its own at each.
use Rattle.std.specs.Prelude.{◌≡◌, ℕ, ◌+◌, ◌<◌, true, false, length, Option, Some, None}
use Rattle.p10_base.specs.declared.at.At.{At}
use Rattle.p10_syn.specs.Trees.{Identifier, Absent, Present, Declarator, Named, Unnamed, Pointer, Parenthesised, Array, Function, Definition, Statements}
use Rattle.p10_core.specs.Types.{PlainType}
use Rattle.p10_elabx.specs.First.{Keep}
use Rattle.p10_elabd.specs.Standing.{PlainStanding, Passed}
use Rattle.p10_elabd.specs.declared.site.Site.TheVariants as site_is
use Rattle.p10_elabd.specs.Shapes.{DeclaredType, pointer_declared, element_declared, array_inside, open_declared, array_declared, name_in}
use Rattle.p10_elabd.specs.Declaring.{specified, declarator_passed, based}
use Rattle.p10_heads.specs.Heads.{Heads}
use Rattle.p10_elab.specs.Knowledge.{Known}
use Rattle.p10_elab.specs.Outer.{allowed_at_definition, defined_outside}
use Rattle.p10_renaming.specs.Renaming.{Pairing}
use Rattle.p10_expression_renaming.specs.MappedStatements.{mapped_definition}

-- the function at its first place, and at its second one, with a body
abbrev pub first_with : Definition (At × At) → Statements At → Definition At
first_with d body = record (mapped_definition (λ p. p.0) d) { body = body }

abbrev pub second_with : Definition (At × At) → Statements At → Definition At
second_with d body = record (mapped_definition (λ p. p.1) d) { body = body }

-- ## Before its parameters

-- what a declarator made of a type where the parameters of its function begin
abbrev pub up_to_parameters : Keep → At → Passed DeclaredType → Declarator At → Passed DeclaredType
up_to_parameters h name_at p (Named name) = p
up_to_parameters h name_at p (Unnamed at) = p
up_to_parameters h name_at p (Pointer at qualifiers d) = up_to_parameters h name_at (pointer_declared h at name_at qualifiers p.made p.after) d
up_to_parameters h name_at p (Parenthesised at d) = up_to_parameters h name_at p d
up_to_parameters h name_at p (Array at d brackets Absent) =
    up_to_parameters h name_at (open_declared (element_declared h name_at p.made (array_inside h name_at true d p.after))) d
up_to_parameters h name_at p (Array at d brackets (Present e)) =
    up_to_parameters h name_at (array_declared h e (element_declared h name_at p.made (array_inside h name_at false d p.after))) d
up_to_parameters h name_at p (Function at d parentheses all more) = p

-- what it made of the type of its specifiers, if it has a name
abbrev pub declarator_begun : Keep → Option PlainType → PlainStanding → Declarator At → Option (Identifier At) → Passed DeclaredType
declarator_begun h t s d None = record { made = None; after = s }
declarator_begun h t s d (Some name) = up_to_parameters h name.place (based t s) d

-- what its head made there
abbrev pub head_begun : Keep → Known → Definition At → Passed DeclaredType
head_begun h k d =
    let t : Passed PlainType = specified h site_is.OfDefinition (allowed_at_definition d) false k.standing d.specifiers in
    declarator_begun h t.made t.after d.declarator (name_in d.declarator)

-- how many structures there are before its parameters
abbrev pub before_parameters : Keep → Known → Definition At → ℕ
before_parameters h k d = length (head_begun h k d).after.scope.structures

-- ## Before its body

-- what its declarator makes of the type of its specifiers, if it has a name
abbrev pub declarator_made : Keep → Option PlainType → PlainStanding → Declarator At → Option (Identifier At) → Passed DeclaredType
declarator_made h t s d None = record { made = None; after = s }
declarator_made h t s d (Some name) = declarator_passed h name.place (based t s) d

-- what its head declares
abbrev pub head_passed : Keep → Known → Definition At → Passed DeclaredType
head_passed h k d =
    let t : Passed PlainType = specified h site_is.OfDefinition (allowed_at_definition d) false k.standing d.specifiers in
    declarator_made h t.made t.after d.declarator (name_in d.declarator)

-- how many structures there are before its body
abbrev pub before_body : Keep → Known → Definition At → ℕ
before_body h k d = length (head_passed h k d).after.scope.structures

-- ## After its body

-- how many structures there are after it
abbrev pub after_body : Keep → Heads → Known → Definition At → ℕ
after_body h heads k d = length (defined_outside h heads k d).standing.scope.structures

-- it becomes a function
abbrev pub IsMade : Keep → Heads → Known → Definition At → Type 0
IsMade h heads k d = length (defined_outside h heads k d).functions ≡ length k.functions + 1

-- of the structures that are used, the second pairs those before a number alone; of those that types of parameters name it pairs all that the
-- first does
pub record Narrows (S R : Pairing) (from : ℕ) : Type 0 where
  pub used : (n m : ℕ) → R.used n m ≡ true → n < from
  pub passed : (n m : ℕ) → S.passed n m ≡ true → R.passed n m ≡ true

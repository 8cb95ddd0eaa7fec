-- Names that declarations declare are the same in both programs.
use Rattle.std.proofs.Common.{refl, ℕ, Bool, true, false, [], Option, Some, None}
use Rattle.p10_base.specs.Words.{Text}
use Rattle.p10_base.specs.declared.at.At.{At}
use Rattle.p10_base.specs.declared.codes.SubsetCode.{SubsetCode}
use Rattle.p10_base.specs.declared.codes.SubsetCode.TheVariants as subset
use Rattle.p10_syn.specs.Trees.{Identifier, Declarator, Named, Unnamed, Pointer, Parenthesised, Array, Function}
use Rattle.p10_elabx.specs.First.{Keep}
use Rattle.p10_elabx.specs.Scopes.{Meaning}
use Rattle.p10_elabd.specs.Standing.{PlainStanding, refusing}
use Rattle.p10_elabd.specs.Words.{by_row}
use Rattle.p10_elabd.specs.Blocks.{is_taken, with_name, declaring}
use Rattle.p10_elabd.specs.Shapes.{name_in}
use Rattle.p10_renaming.specs.Renaming.{Pairing}
use Rattle.p10_expression_renaming.specs.Mapped.{mapped_declarator}
use Rattle.p10_expression_renaming.specs.Knowing.{SameMeaning}
use Rattle.p10_expression_renaming.proofs.Sameness.{SameName, same_no_name, same_name}
use Rattle.p10_expression_renaming.proofs.TypeNames.{left, right}
use Rattle.p10_declaration_renaming.specs.Standings.{SameStanding, AreQuiet, SameNames}
use Rattle.p10_declaration_renaming.proofs.Growing.{grows_declaring, never_joined}
use Rattle.p10_declaration_renaming.proofs.Scopes.{declared_same}
use Rattle.p10_declaration_renaming.proofs.Alike.{Alike, alike_on, never_left, never_right}

-- a name with these letters at a place
abbrev pub at_place : At → Text → Identifier At
at_place at name = record { place = at; name = name }

named_after : (R : Pairing) (last : ℕ) (h : Keep) (b c : Bool) (code : SubsetCode) (at to : At) (name : Text) {what other : Meaning} → SameMeaning R what other → (s t : PlainStanding) → SameStanding R last s t
    → AreQuiet last (with_name (refusing h b code at s) name what) (with_name (refusing h c code to t) name other) → SameStanding R last (with_name (refusing h b code at s) name what) (with_name (refusing h c code to t) name other)
named_after R last h false false code at to name k s t know q = declared_same R last s.scope t.scope know name k
named_after R last h false true code at to name k s t know q = absurd (never_joined h t.problems (record { code = code; at = to }) [] q.right)
named_after R last h true c code at to name k s t know q = absurd (never_joined h s.problems (record { code = code; at = at }) [] q.left)

pub declaring_same : (R : Pairing) (last : ℕ) (h : Keep) (name : Text) (at to : At) {what other : Meaning} → SameMeaning R what other → (s t : PlainStanding) → SameStanding R last s t
    → AreQuiet last (declaring h (at_place at name) what s) (declaring h (at_place to name) other t) → SameStanding R last (declaring h (at_place at name) what s) (declaring h (at_place to name) other t)
declaring_same R last h name at to k s t know q = named_after R last h (is_taken s.scope name) (is_taken t.scope name) subset.DefinedTwice at to name k s t know q

-- a name that may be declared once
pub alike_declaring : {B : Type 0} (R : Pairing) (last : ℕ) (h : Keep) (name : Text) (at to : At) (what other : Meaning) (s t : PlainStanding) → (B → SameMeaning R what other) → Alike B R last s t
    → Alike B R last (declaring h (at_place at name) what s) (declaring h (at_place to name) other t)
alike_declaring R last h name at to what other s t k a =
    alike_on R last s t (declaring h (at_place at name) what s) (declaring h (at_place to name) other t) (grows_declaring h (at_place at name) what s) (grows_declaring h (at_place to name) other t)
    (λ b know q. declaring_same R last h name at to (k b) s t know q) a

-- a row on a word
pub alike_row : {B : Type 0} (R : Pairing) (last : ℕ) (h : Keep) (o q : Option SubsetCode) (at to : At) (s t : PlainStanding) → Alike B R last s t → Alike B R last (by_row h o at s) (by_row h q to t)
alike_row R last h None None at to s t a = a
alike_row R last h None (Some code) at to s t a = λ quiet. never_right last h code to s t quiet
alike_row R last h (Some code) q at to s t a = λ quiet. never_left last h code at s (by_row h q to t) quiet

-- the name of a declarator that stands at two places
pub name_in_same : (d : Declarator (At × At)) → SameName (name_in (mapped_declarator left d)) (name_in (mapped_declarator right d))
name_in_same (Named x) = same_name
name_in_same (Unnamed at) = same_no_name
name_in_same (Pointer at qualifiers d) = name_in_same d
name_in_same (Parenthesised at d) = name_in_same d
name_in_same (Array at d brackets length) = name_in_same d
name_in_same (Function at d parentheses all more) = name_in_same d

pub same_letters : {a b : Option (Identifier At)} → SameName a b → SameNames a b
same_letters same_no_name = tt
same_letters same_name = refl

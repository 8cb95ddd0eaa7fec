-- Expressions where declarations stand, and constants, are the same in both programs.
use Rattle.std.proofs.Common.{◌≡◌, ℕ, ℤ, subst, Option, Some, None, Result, Ok, Err}
use Rattle.p10_base.specs.declared.at.At.{At}
use Rattle.p10_syn.specs.Trees.{Expression}
use Rattle.p10_core.specs.Typed.{PlainValue, type_of}
use Rattle.p10_core.specs.Rows.{is_integer}
use Rattle.p10_core.specs.Constants.{inconstant_part, fold}
use Rattle.p10_elabx.specs.First.{Keep, Ruled, on}
use Rattle.p10_elabx.specs.Judging.{judge}
use Rattle.p10_elabd.specs.Standing.{PlainStanding}
use Rattle.p10_elabd.specs.Tags.{tags_in, with_tags}
use Rattle.p10_elabd.specs.Expressions.{for_expression, value_found, value_by, folded_number, number_or_part, constant_number}
use Rattle.p10_renaming.specs.Renaming.{Pairing, SameValue}
use Rattle.p10_expression_renaming.specs.Mapped.{mapped_expression}
use Rattle.p10_expression_renaming.specs.Knowing.{Together, Ruling, IsOneToOne}
use Rattle.p10_expression_renaming.proofs.Finding.{none_right, when_both, on_both}
use Rattle.p10_expression_renaming.proofs.Values.{Folded, fold_both}
use Rattle.p10_expression_renaming.proofs.Operands.{as_value_both}
use Rattle.p10_expression_renaming.proofs.TypeNames.{left, right}
use Rattle.p10_expression_renaming.proofs.Judging.{expressions_renamed}
use Rattle.p10_declaration_renaming.specs.Standings.{Both, SameWholeScope, SameStanding}
use Rattle.p10_declaration_steps.proofs.Steps.{over_noted}
use Rattle.p10_declaration_renaming.proofs.Growing.{grows_expression, grown}
use Rattle.p10_declaration_renaming.proofs.TreeTags.{tags_same}
use Rattle.p10_declaration_renaming.proofs.Scopes.{scope_same, expression_tags_same}
use Rattle.p10_declaration_renaming.proofs.Alike.{Alike, alike_on, alike_ends, ends_noted}

-- ## What stands, and what is found

-- the tags of an expression are declared
pub alike_expression : {B : Type 0} (R : Pairing) → IsOneToOne R → (last : ℕ) (e : Expression (At × At)) (s t : PlainStanding) → Alike B R last s t
    → Alike B R last (for_expression s (mapped_expression left e)) (for_expression t (mapped_expression right e))
alike_expression R one last e s t a =
    let these : Expression At = mapped_expression left e in
    let others : Expression At = mapped_expression right e in
    alike_on R last s t (for_expression s these) (for_expression t others) (grows_expression s these) (grows_expression t others)
    (λ b know q. subst (λ names. SameWholeScope R last (with_tags s.scope (tags_in these)) (with_tags t.scope names)) (tags_same e) (expression_tags_same R one last s.scope t.scope know (tags_in these) q.few)) a

pub value_found_both : (R : Pairing) → IsOneToOne R → (last : ℕ) (h : Keep) (e : Expression (At × At)) (s t : PlainStanding) → SameStanding R last (for_expression s (mapped_expression left e)) (for_expression t (mapped_expression right e))
    → Together (SameValue R) (value_found h s (mapped_expression left e)) (value_found h t (mapped_expression right e))
value_found_both R one last h e s t know =
    let x : PlainStanding = for_expression s (mapped_expression left e) in
    let y : PlainStanding = for_expression t (mapped_expression right e) in
    as_value_both R x.scope.structures y.scope.structures (judge h x.scope (mapped_expression left e)) (judge h y.scope (mapped_expression right e)) (expressions_renamed R one h x.scope y.scope (scope_same R last x.scope y.scope know) e)

-- a value, of which a row asks more
pub alike_value : {A B : Type 0} (R : Pairing) → IsOneToOne R → (last : ℕ) (h : Keep) (P : A → A → Type 0) (e : Expression (At × At)) (go went : PlainValue → Ruled A) (s t : PlainStanding)
    → (B → (v w : PlainValue) → SameValue R v w → Ruling P (go v) (went w)) → Alike B R last s t
    → Alike (B × Both P (value_by h s (mapped_expression left e) go).made (value_by h t (mapped_expression right e) went).made) R last
    (value_by h s (mapped_expression left e) go).after (value_by h t (mapped_expression right e) went).after
alike_value R one last h P e go went s t each a =
    let these : Expression At = mapped_expression left e in
    let others : Expression At = mapped_expression right e in
    let x : PlainStanding = for_expression s these in
    let y : PlainStanding = for_expression t others in
    alike_ends R last P x y (value_by h s these go) (value_by h t others went) (grown (over_noted h (on (value_found h s these) go) x)) (grown (over_noted h (on (value_found h t others) went) y))
    (λ b know. ends_noted R last P h (on (value_found h s these) go) (on (value_found h t others) went) x y
    (on_both (SameValue R) P (value_found h s these) (value_found h t others) go went (value_found_both R one last h e s t know) (each b)) know)
    (alike_expression R one last e s t a)

-- ## Constants

abbrev pub SameNumber : ℤ → ℤ → Type 0
SameNumber x y = x ≡ y

folded_number_both : (f g : Result ℤ At) → Folded f g → Ruling SameNumber (folded_number f) (folded_number g)
folded_number_both (Ok x) (Ok y) e = e
folded_number_both (Ok x) (Err r) e = tt
folded_number_both (Err r) g e = tt

number_or_part_both : (R : Pairing) (v w : PlainValue) → SameValue R v w → (o q : Option At) → Ruling SameNumber (number_or_part v o) (number_or_part w q)
number_or_part_both R v w k None None = when_both SameNumber (is_integer (type_of v)) (is_integer (type_of w)) (folded_number (fold v)) (folded_number (fold w)) _ _ (folded_number_both (fold v) (fold w) (fold_both R k))
number_or_part_both R v w k None (Some r) = none_right SameNumber (number_or_part v None) _
number_or_part_both R v w k (Some r) q = tt

pub constant_number_both : (R : Pairing) (v w : PlainValue) → SameValue R v w → Ruling SameNumber (constant_number v) (constant_number w)
constant_number_both R v w k = number_or_part_both R v w k (inconstant_part v) (inconstant_part w)

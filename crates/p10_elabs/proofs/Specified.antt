-- Specifiers and declarators of a declaration, one after the other.
use Rattle.std.specs.Prelude.{◌≡◌, ℕ, ◌+◌, Bool, true, false, ◌&&◌, ◌||◌, List, [], ◌∷◌, map, refl}
use Rattle.std.proofs.Common.{◌∙◌, ap, sym, drop}
use Rattle.p10_base.specs.declared.at.At.{At}
use Rattle.p10_syn.specs.declared.tree.Spec.{Spec}
use Rattle.p10_syn.specs.declared.tree.Structure.{Structure as CodeStructure, Structure'}
use Rattle.p10_syn.specs.declared.tree.Enumeration.{Enumeration as CodeEnumeration, Enumeration'}
use Rattle.p10_syn.specs.Trees.{Specifier, Keyword, Typedef, Structure, Enumeration, Specifiers, MoreSpecifiers, specifier_row, InitDeclarator}
use Rattle.p10_syn.specs.Built.{specifier_of, structure_of, enumeration_of}
use Rattle.p10_elabx.specs.First.{Keep}
use Rattle.p10_elabd.specs.Standing.{PlainStanding}
use Rattle.p10_elabd.specs.Words.{is_volatile, has_word}
use Rattle.p10_elabd.specs.Shapes.{declares_function, is_plain_name}
use Rattle.p10_elabs.specs.Locals.{are_all, names_other, volatile_noted}
use Rattle.p10_elabs.specs.declared.specifiers.Declares.TheVariants.{Plainly, Functions}
use Rattle.p10_elabs.specs.private.Specifying.{are_so, names_other_one, has_volatile, volatile_one}

-- ## Structures and enumerations of the code

pub structure_names_other : (s : CodeStructure) → names_other_one (structure_of s) ≡ true
structure_names_other (Structure' at w tag shape all) = refl

pub enumeration_names_none : (e : CodeEnumeration) → names_other_one (enumeration_of e) ≡ false
enumeration_names_none (Enumeration' at tag shape all comma) = refl

pub structure_is_none : (s : CodeStructure) → has_volatile (structure_of s) ≡ false
structure_is_none (Structure' at w tag shape all) = refl

pub enumeration_is_none : (e : CodeEnumeration) → has_volatile (enumeration_of e) ≡ false
enumeration_is_none (Enumeration' at tag shape all comma) = refl

pub structure_notes_none : (h : Keep) (may : Bool) (s : CodeStructure) (p : PlainStanding) → volatile_one h may (structure_of s) p ≡ p
structure_notes_none h may (Structure' at w tag shape all) p = refl

pub enumeration_notes_none : (h : Keep) (may : Bool) (e : CodeEnumeration) (p : PlainStanding) → volatile_one h may (enumeration_of e) p ≡ p
enumeration_notes_none h may (Enumeration' at tag shape all comma) p = refl

-- ## The first specifier

pub other_first : (one : Specifier At) (rest : Specifiers At) → names_other (MoreSpecifiers one rest) ≡ (names_other_one one || names_other rest)
other_first (Keyword at word) rest = refl
other_first (Typedef name) rest = refl
other_first (Structure at word tag _) rest = refl
other_first (Enumeration at tag all comma) rest = refl

pub volatile_first : (one : Specifier At) (rest : Specifiers At) → has_word is_volatile (MoreSpecifiers one rest) ≡ (has_volatile one || has_word is_volatile rest)
volatile_first (Keyword at word) rest = refl
volatile_first (Typedef name) rest = refl
volatile_first (Structure at word tag _) rest = refl
volatile_first (Enumeration at tag all comma) rest = refl

noted_first : (h : Keep) (may : Bool) (one : Specifier At) (rest : Specifiers At) (s : PlainStanding) →
    volatile_noted h may (MoreSpecifiers one rest) s ≡ volatile_noted h may rest (volatile_one h may one s)
noted_first h may (Keyword at word) rest s = refl
noted_first h may (Typedef name) rest s = refl
noted_first h may (Structure at word tag _) rest s = refl
noted_first h may (Enumeration at tag all comma) rest s = refl

-- one specifier is noted
pub step_volatile : (h : Keep) (may : Bool) (i : ℕ) (all : List Spec) (one : Spec) (old new whole : PlainStanding) → drop i all ≡ one ∷ drop (i + 1) all →
    new ≡ volatile_one h may (specifier_of one) old → volatile_noted h may (specifier_row (map specifier_of (drop i all))) old ≡ whole →
    volatile_noted h may (specifier_row (map specifier_of (drop (i + 1) all))) new ≡ whole
step_volatile h may i all one old new whole cut is holds =
    ap (volatile_noted h may (specifier_row (map specifier_of (drop (i + 1) all)))) is
    ∙ sym (noted_first h may (specifier_of one) (specifier_row (map specifier_of (drop (i + 1) all))) old)
    ∙ sym (ap (λ xs. volatile_noted h may (specifier_row (map specifier_of xs)) old) cut) ∙ holds

-- ## Declarators

and_true : (b : Bool) → b ≡ (b && true)
and_true true = refl
and_true false = refl

pub are_plain : (all : List (InitDeclarator At)) → are_so Plainly all ≡ are_all (λ i. is_plain_name i.declarator) all
are_plain [] = refl
are_plain (d ∷ []) = sym (and_true (is_plain_name d.declarator))
are_plain (d ∷ e ∷ rest) = ap (λ b. is_plain_name d.declarator && b) (are_plain (e ∷ rest))

pub are_functions : (all : List (InitDeclarator At)) → are_so Functions all ≡ are_all (λ i. declares_function i.declarator) all
are_functions [] = refl
are_functions (d ∷ []) = sym (and_true (declares_function d.declarator))
are_functions (d ∷ e ∷ rest) = ap (λ b. declares_function d.declarator && b) (are_functions (e ∷ rest))

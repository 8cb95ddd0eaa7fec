-- Structures and enumerations among specifiers of the code.
use Rattle.std.specs.Prelude.{◌≡◌, suc, ◌+◌, ◌-◌, Some, None, List, [], ◌∷◌, map, length, slice_get, refl}
use Rattle.std.proofs.Common.{ap, sym, ◌∙◌, arith}
use Rattle.p10_base.specs.declared.at.At.{At}
use Rattle.p10_syn.specs.declared.tree.Spec.{Spec}
use Rattle.p10_syn.specs.Trees.{specifier_row}
use Rattle.p10_syn.specs.declared.tree.Structure.{Structure, Structure', out-Structure}
use Rattle.p10_syn.specs.declared.tree.Enumeration.{Enumeration, Enumeration', out-Enumeration}
use Rattle.p10_syn.specs.Built.{tag_of, specifier_of, structure_of, enumeration_of}
use Rattle.p10_elabx.specs.declared.words.Said.{Said}
use Rattle.p10_elabx.specs.Scopes.{PlainScope}
use Rattle.p10_elabx.specs.TypeNames.{said_by, tag_rule, enum_rule, specifier_rule, specifier_at, last_specifier_at, from_to, specifiers_at}

pub structure_place : (s : Structure) → specifier_at (structure_of s) ≡ (out-Structure s).at
unfolding out-Structure denote.Hole.Carrier.out
structure_place (Structure' at w tag shape all) = refl

pub enumeration_place : (e : Enumeration) → specifier_at (enumeration_of e) ≡ (out-Enumeration e).at
unfolding out-Enumeration denote.Hole.Carrier.out
enumeration_place (Enumeration' at tag shape all comma) = refl

pub structure_says : (s : Structure) (said : Said) → said_by (structure_of s) said ≡ record said { names = said.names + 1 }
structure_says (Structure' at w tag shape all) said = refl

pub enumeration_says : (e : Enumeration) (said : Said) → said_by (enumeration_of e) said ≡ record said { names = said.names + 1 }
enumeration_says (Enumeration' at tag shape all comma) said = refl

pub structure_names : (p : PlainScope) (s : Structure) → specifier_rule p (structure_of s) ≡ tag_rule (out-Structure s).at (out-Structure s).sign p (tag_of (out-Structure s).tag)
unfolding out-Structure denote.Hole.Carrier.out
structure_names p (Structure' at w tag shape all) = refl

pub enumeration_names : (p : PlainScope) (e : Enumeration) → specifier_rule p (enumeration_of e) ≡ enum_rule (out-Enumeration e).at p (tag_of (out-Enumeration e).tag)
unfolding out-Enumeration denote.Hole.Carrier.out
enumeration_names p (Enumeration' at tag shape all comma) = refl

-- ## Rows

-- the last specifier of a row
last_is : (all : List Spec) (s : Spec) (at : At) → Some s ≡ slice_get all (length all - 1) → last_specifier_at at (specifier_row (map specifier_of all)) ≡ specifier_at (specifier_of s)
last_is [] s at e = absurd cc
last_is (t ∷ []) s at e = let same : t ≡ s = cc in ap (λ x. specifier_at (specifier_of x)) same
last_is (t ∷ u ∷ rest) s at e =
    let one : length (t ∷ u ∷ rest) - 1 ≡ suc (length (u ∷ rest) - 1) = omega arith in
    last_is (u ∷ rest) s (specifier_at (specifier_of t)) (e ∙ ap (slice_get (t ∷ u ∷ rest)) one)

-- a row stands from its first specifier to its last
pub row_place : (all : List Spec) (s t : Spec) (at : At) → Some s ≡ slice_get all 0 → Some t ≡ slice_get all (length all - 1) →
    from_to (specifier_at (specifier_of s)) (specifier_at (specifier_of t)) ≡ specifiers_at at (specifier_row (map specifier_of all))
row_place [] s t at e f = absurd cc
row_place (x ∷ rest) s t at e f =
    let same : s ≡ x = cc in
    ap (λ y. from_to (specifier_at (specifier_of y)) (specifier_at (specifier_of t))) same
    ∙ ap (from_to (specifier_at (specifier_of x))) (sym (last_is (x ∷ rest) t (specifier_at (specifier_of x)) f))

-- no specifiers stand where they are said to
pub no_row_place : (all : List Spec) (at : At) → None ≡ slice_get all 0 → at ≡ specifiers_at at (specifier_row (map specifier_of all))
no_row_place [] at e = refl
no_row_place (x ∷ rest) at e = absurd cc

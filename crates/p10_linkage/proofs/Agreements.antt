-- When declarations of one name agree.
use Rattle.std.specs.Prelude.{◌≡◌, ℕ, ◌*◌, Bool, true, false, ◌&&◌, ◌||◌, if◌then◌else◌, List, [], length, Option, Some, None, is_some, refl}
use Rattle.std.specs.Bool.{beq}
use Rattle.std.proofs.Common.{ap, ◌∙◌, eq-eqb}
use Rattle.p10_core.specs.Types.{PlainType, void, integer, pointer, array, structure, PlainStructure}
use Rattle.p10_core.specs.Rows.{same_integer, number_of}
use Rattle.p10_linkage.specs.Linkage.{Linked}
use Rattle.p10_linkage.specs.Between.{is_other, linked_united, unless_compatible}
use Rattle.p10_linkage.specs.Compatible.{Pairs, were_met, types_compatible, compatible_within, are_compatible}
use Rattle.p10_linkage.specs.Laws.{CompatibleDeclarationsAgree, TypesAreCompatibleWithThemselves, UnitedTypesAreOne, StructuresAreCompared, ListsAreCompared}
use Rattle.p10_linkage.proofs.Comparisons.{within_settled}
use Rattle.p10_linkage.proofs.OneType.{united_kept, built_stands, united_built}

pub same_flag : (b : Bool) → beq b b ≡ true
same_flag true = refl
same_flag false = refl

some_after : (before now : Linked) (ss : List PlainStructure) (found : Option (List PlainStructure)) → are_compatible ss before now ≡ true → is_some (unless_compatible before now ss found) ≡ true
some_after before now ss (Some after) e = refl
some_after before now ss None e = ap (λ b. is_some (if b then Some ss else None)) e

by_root : (before now : Linked) (ss : List PlainStructure) (other : Bool) (found : Option (List PlainStructure)) → is_some found ≡ true → is_some (if other then found else Some ss) ≡ true
by_root before now ss true found e = e
by_root before now ss false found e = refl

pub compatible_declarations_agree : CompatibleDeclarationsAgree
compatible_declarations_agree before now ss marks fit =
    let found : Option (List PlainStructure) = unless_compatible before now ss (linked_united before now ss) in
    by_root before now ss (is_other before now) (if beq before.sensor now.sensor then found else None)
    (ap (λ b. is_some (if beq b now.sensor then found else None)) marks ∙ ap (λ b. is_some (if b then found else None)) (same_flag now.sensor) ∙ some_after before now ss (linked_united before now ss) fit)

-- ## Compatible types

compared_with_itself : (compare : ℕ → ℕ → Pairs → Option Pairs) → ((m : ℕ) (ps : Pairs) → compare m m ps ≡ Some ps) → (t : PlainType) (ps : Pairs) → types_compatible compare t t ps ≡ Some ps
compared_with_itself compare h (void c) ps = ap (λ b. if b then Some ps else None) (same_flag c)
compared_with_itself compare h (integer c i) ps =
    ap (λ b. if b && same_integer i i then Some ps else None) (same_flag c) ∙ ap (λ b. if b then Some ps else None) (eq-eqb (number_of i) (number_of i) refl)
compared_with_itself compare h (pointer c t) ps = ap (λ b. if b then types_compatible compare t t ps else None) (same_flag c) ∙ compared_with_itself compare h t ps
compared_with_itself compare h (array c t n) ps = ap (λ b. if b then types_compatible compare t t ps else None) (eq-eqb n n refl) ∙ compared_with_itself compare h t ps
compared_with_itself compare h (structure c m) ps = ap (λ b. if b then compare m m ps else None) (same_flag c) ∙ h m ps

pub types_are_compatible_with_themselves : TypesAreCompatibleWithThemselves
types_are_compatible_with_themselves ss t =
    ap is_some (compared_with_itself (compatible_within (length ss * length ss) ss)
    (λ m ps. within_settled (length ss * length ss) m m ss ps (ap (λ b. b || were_met m m ps) (eq-eqb m m refl))) t [])

pub united_types_are_one : UnitedTypesAreOne
united_types_are_one t u before after built e =
    (united_built t u before after built e, (united_kept t u before after (built_stands before built) e).1)

pub structures_are_compared : StructuresAreCompared
structures_are_compared = record {
  incomplete_first = refl;
  incomplete_second = refl;
  complete = refl;
  other_tag = refl;
  incomplete_other_tag = refl;
  itself = refl;
  circular = refl;
  targets = refl;
  marks = refl;
}

pub lists_are_compared : ListsAreCompared
lists_are_compared = record {
  variadic = refl;
  both_variadic = refl;
  empty_beside_int = refl;
  empty_beside_char = refl;
  empty_definition = refl;
  empty_before = refl;
  counts_differ = refl;
  unknown_fits = refl;
  known_differ = refl;
}

-- Structures that are the same, with one more and with one that is completed.
use Rattle.std.proofs.Common.{◌≡◌, ◌∙◌, sym, refl, ap, ℕ, zero, suc, inl, inr, true, not, ◌&&◌, nat_lt, nat_le, List, [], ◌∷◌, ◌++◌, length, Option, Some, None, option_map, is_some, slice_get}
use Rattle.std.proofs.lemmas.Bool.{cases_eq, eqb-true, eq-eqb, lt-ltb, le-ltb, leb-true}
use Rattle.std.proofs.lemmas.Option.{slice_get_cases}
use Rattle.p10_base.specs.Words.{Text}
use Rattle.p10_core.specs.Types.{PlainType, PlainMember, PlainBody, PlainStructure, members_in, body_of}
use Rattle.p10_core.specs.Rows.{is_complete}
use Rattle.p10_core.specs.WholePrograms.{most_bytes}
use Rattle.p10_core.specs.Completing.{incomplete_structure, with_structure, complete_count, member_layout, body_with, with_body, completed, is_whole_type, is_object_type, are_objects, is_open_in, takes_members}
use Rattle.p10_core.proofs.Completing.{one_more_is_built, completed_are_built}
use Rattle.p10_core.proofs.MemberLayouts.{may_by_test}
use Rattle.p10_renaming.specs.Renaming.{Pairing, SameType, same_void, same_integer, same_pointer, same_array, same_structure}
use Rattle.p10_expression_renaming.specs.Knowing.{SameMembers, same_no_members, same_more_members, SameStructures, IsOneToOne}
use Rattle.p10_expression_renaming.proofs.Types.{is_void_same, used_numbers}
use Rattle.p10_declaration_renaming.specs.Standings.{Both, SameStructure, SameTables}
use Rattle.p10_declaration_renaming.proofs.Boths.{both_by, both_map, both_are}
use Rattle.p10_declaration_renaming.proofs.Lying.{bodies_both, lies_same}

-- ## What expressions ask for

members_by : (R : Pairing) (o p : Option PlainBody) → Both (λ b d. SameMembers R b.members d.members) o p → SameMembers R (members_in o) (members_in p)
members_by R None None h = same_no_members
members_by R (Some b) (Some d) h = h
members_by R None (Some d) h = absurd h
members_by R (Some b) None h = absurd h

pub structures_same : (R : Pairing) (these others : List PlainStructure) → SameTables R these others → SameStructures R these others
structures_same R these others know = record {
  members = λ n m paired. members_by R (body_of these n) (body_of others m) (bodies_both R these others know n m paired);
  sizes = λ c n m paired. (lies_same R these others know (same_structure {c = c} {n = n} {m = m} paired)).bytes;
}

-- ## Tests

pub complete_same : (R : Pairing) (these others : List PlainStructure) → SameTables R these others → {t u : PlainType} → SameType R t u → is_complete these t ≡ is_complete others u
complete_same R these others know same_void = refl
complete_same R these others know same_integer = refl
complete_same R these others know (same_pointer h) = refl
complete_same R these others know (same_array h) = complete_same R these others know h
complete_same R these others know (same_structure {n = n} {m = m} paired) = both_are (λ b d. SameMembers R b.members d.members) (body_of these n) (body_of others m) (bodies_both R these others know n m paired)

there_is : (ss : List PlainStructure) (n : ℕ) → is_some (slice_get ss n) ≡ nat_lt n (length ss)
there_is ss n = elim (slice_get_cases ss n).1 [
  | inl p ↦ ap is_some p.2 ∙ sym (lt-ltb n (length ss) p.1)
  | inr p ↦ ap is_some p.1 ∙ sym (le-ltb n (length ss) p.0)
]

there_same : (R : Pairing) (these others : List PlainStructure) → SameTables R these others → (n m : ℕ) → R.used n m ≡ true → nat_lt n (length these) ≡ nat_lt m (length others)
there_same R these others know n m paired = sym (there_is these n) ∙ both_are (SameStructure R) (slice_get these n) (slice_get others m) (know.entries n m paired) ∙ there_is others m

whole_same : (R : Pairing) (these others : List PlainStructure) → SameTables R these others → {t u : PlainType} → SameType R t u → is_whole_type these t ≡ is_whole_type others u
whole_same R these others know same_void = refl
whole_same R these others know same_integer = refl
whole_same R these others know (same_pointer h) = λ i. not (is_void_same R h i) && whole_same R these others know h i
whole_same R these others know (same_array {c = c} {n = n} h) =
    λ i. (complete_same R these others know h i && whole_same R these others know h i) && (nat_le 1 n && nat_le ((lies_same R these others know (same_array {c = c} {n = n} h)).bytes i) most_bytes)
whole_same R these others know (same_structure {n = n} {m = m} paired) = there_same R these others know n m paired

pub object_same : (R : Pairing) (these others : List PlainStructure) → SameTables R these others → {t u : PlainType} → SameType R t u → is_object_type these t ≡ is_object_type others u
object_same R these others know h = λ i. complete_same R these others know h i && whole_same R these others know h i

objects_same : (R : Pairing) (these others : List PlainStructure) → SameTables R these others → {ms ks : List PlainMember} → SameMembers R ms ks → are_objects these ms ≡ are_objects others ks
objects_same R these others know same_no_members = refl
objects_same R these others know (same_more_members h rest) = λ i. object_same R these others know h i && objects_same R these others know rest i

lengths_same : (R : Pairing) {ms ks : List PlainMember} → SameMembers R ms ks → length ms ≡ length ks
lengths_same R same_no_members = refl
lengths_same R (same_more_members h rest) = ap suc (lengths_same R rest)

open_same : (R : Pairing) → IsOneToOne R → (n m : ℕ) → R.used n m ≡ true → (o p : Option PlainStructure) → Both (SameStructure R) o p → is_open_in n o ≡ is_open_in m p
open_same R one n m paired None None h = refl
open_same R one n m paired (Some x) (Some y) h =
    λ i. not (both_are (λ b d. SameMembers R b.members d.members) x.body y.body h.members i) && used_numbers R one x.representative n y.representative m h.representatives paired i
open_same R one n m paired None (Some y) h = absurd h
open_same R one n m paired (Some x) None h = absurd h

pub takes_same : (R : Pairing) → IsOneToOne R → (these others : List PlainStructure) → SameTables R these others → (n m : ℕ) → R.used n m ≡ true → {ms ks : List PlainMember} → SameMembers R ms ks
    → takes_members these n ms ≡ takes_members others m ks
takes_same R one these others know n m paired h =
    λ i. (open_same R one n m paired (slice_get these n) (slice_get others m) (know.entries n m paired) i && nat_lt 0 (lengths_same R h i)) && objects_same R these others know h i

-- ## One structure more

last_at : (ss : List PlainStructure) (x : PlainStructure) → slice_get (ss ++ x ∷ []) (length ss) ≡ Some x
last_at [] x = refl
last_at (y ∷ ss) x = last_at ss x

other_at : (ss : List PlainStructure) (x : PlainStructure) (n : ℕ) → (n ≡ length ss → ⊥) → slice_get (ss ++ x ∷ []) n ≡ slice_get ss n
other_at [] x zero h = absurd (h refl)
other_at [] x (suc n) h = refl
other_at (y ∷ ss) x zero h = refl
other_at (y ∷ ss) x (suc n) h = other_at ss x n (λ e. h (ap suc e))

-- pairs agree on which numbers are one
to_right : (R : Pairing) → IsOneToOne R → (n m i j : ℕ) → R.used n i ≡ true → R.used m j ≡ true → n ≡ m → i ≡ j
to_right R one n m i j p q e = eqb-true i j (sym (used_numbers R one n m i j p q) ∙ eq-eqb n m e)

to_left : (R : Pairing) → IsOneToOne R → (n m i j : ℕ) → R.used n i ≡ true → R.used m j ≡ true → i ≡ j → n ≡ m
to_left R one n m i j p q e = eqb-true n m (used_numbers R one n m i j p q ∙ eq-eqb i j e)

at_end : (ss : List PlainStructure) (x : PlainStructure) (n : ℕ) → n ≡ length ss → slice_get (ss ++ x ∷ []) n ≡ Some x
at_end ss x n e = ap (slice_get (ss ++ x ∷ [])) e ∙ last_at ss x

pub tables_more : (R : Pairing) → IsOneToOne R → (these others : List PlainStructure) → SameTables R these others → R.used (length these) (length others) ≡ true → (tag : Option Text)
    → SameTables R (with_structure these tag) (with_structure others tag)
tables_more R one these others know new tag = record {
  entries = λ n m paired. elim (cases_eq n (length these)) [
    | inl e ↦ both_by (SameStructure R) (at_end these x n e) (at_end others y m (to_right R one n (length these) m (length others) paired new e)) (record { tags = refl; members = tt; representatives = new })
    | inr e ↦ both_by (SameStructure R) (other_at these x n e) (other_at others y m (λ d. e (to_left R one n (length these) m (length others) paired new d))) (know.entries n m paired)
  ];
  built = one_more_is_built these tag know.built;
  other_built = one_more_is_built others tag know.other_built;
}
  where
    x : PlainStructure
    x = incomplete_structure (length these) tag

    y : PlainStructure
    y = incomplete_structure (length others) tag

-- ## One that is completed

-- a structure with a body
given_body : PlainBody → PlainStructure → PlainStructure
given_body b s = record s { body = Some b }

completed_at : (ss : List PlainStructure) (n : ℕ) (b : PlainBody) → slice_get (with_body ss n b) n ≡ option_map (given_body b) (slice_get ss n)
unfolding given_body
completed_at [] n b = refl
completed_at (s ∷ ss) zero b = refl
completed_at (s ∷ ss) (suc n) b = completed_at ss n b

left_at : (ss : List PlainStructure) (n : ℕ) (b : PlainBody) (k : ℕ) → (k ≡ n → ⊥) → slice_get (with_body ss n b) k ≡ slice_get ss k
left_at [] n b k h = refl
left_at (s ∷ ss) zero b zero h = absurd (h refl)
left_at (s ∷ ss) zero b (suc k) h = refl
left_at (s ∷ ss) (suc n) b zero h = refl
left_at (s ∷ ss) (suc n) b (suc k) h = left_at ss n b k (λ e. h (ap suc e))

at_completed : (ss : List PlainStructure) (n : ℕ) (b : PlainBody) (k : ℕ) → k ≡ n → slice_get (with_body ss n b) k ≡ option_map (given_body b) (slice_get ss k)
at_completed ss n b k e = ap (slice_get (with_body ss n b)) e ∙ completed_at ss n b ∙ ap (λ j. option_map (given_body b) (slice_get ss j)) (sym e)

given_both : (R : Pairing) (b d : PlainBody) → SameMembers R b.members d.members → (x y : PlainStructure) → SameStructure R x y → SameStructure R (given_body b x) (given_body d y)
unfolding given_body
given_both R b d h x y k = record { tags = k.tags; members = h; representatives = k.representatives }

pub tables_completed : (R : Pairing) → IsOneToOne R → (these others : List PlainStructure) → SameTables R these others → (n m : ℕ) → R.used n m ≡ true → (ms ks : List PlainMember) → SameMembers R ms ks
    → takes_members these n ms ≡ true → takes_members others m ks ≡ true → nat_le (member_layout these ms).bytes most_bytes ≡ true → nat_le (member_layout others ks).bytes most_bytes ≡ true
    → SameTables R (completed these n ms) (completed others m ks)
tables_completed R one these others know n m paired ms ks h takes other_takes small other_small = record {
  entries = λ k j also. elim (cases_eq k n) [
    | inl e ↦ both_by (SameStructure R) (at_completed these n b k e) (at_completed others m d j (to_right R one k n j m also paired e))
        (both_map (SameStructure R) (SameStructure R) (given_body b) (given_body d) (given_both R b d h) (slice_get these k) (slice_get others j) (know.entries k j also))
    | inr e ↦ both_by (SameStructure R) (left_at these n b k e) (left_at others m d j (λ is. e (to_left R one k n j m also paired is))) (know.entries k j also)
  ];
  built = completed_are_built these n ms know.built (may_by_test these n ms takes) (leb-true _ _ small);
  other_built = completed_are_built others m ks know.other_built (may_by_test others m ks other_takes) (leb-true _ _ other_small);
}
  where
    b : PlainBody
    b = body_with these (complete_count these) ms

    d : PlainBody
    d = body_with others (complete_count others) ks

-- Trees that are the same but for bodies stand in both programs.
use Rattle.std.proofs.Common.{◌≡◌, ℕ, zero, suc, ◌+◌, ◌<◌, min, nat_eq, false, List, [], ◌∷◌, ◌++◌, map, length, refl, sym, ap, ◌∙◌, arith}
use Rattle.std.specs.Prelude.{slice_get}
use Rattle.std.specs.List.{AllByRecursion, flat_map}
use Rattle.std.proofs.lemmas.Bool.Decides.{nat_tests}
use Rattle.std.proofs.lemmas.Option.{same_Some}
use Rattle.p10_base.specs.declared.at.At.{At}
use Rattle.p10_syn.specs.Counts.{count_specifiers, count_declaration, count_statements, count_head, count_definition}
use Rattle.p10_syn.specs.Places.{Source, place_at, landmarks_at, locate_specifiers, locate_declarator, locate_declaration, locate_statements, locate_definition, locate_externals}
use Rattle.p10_syn.specs.Trees.{Bare, Declaration, NoStatements, Statements, Landmarks, Definition, External, Outer, Defines}
use Rattle.p10_spelling_laws.specs.Outside.{functions_in, bodiless, without_body}
use Rattle.p10_spelling_laws.specs.Counterparts.{Counterparts, declared_in_both, defined_in_both, in_first, in_second, IsSameBody, HasSameBody, BeginTogether, RootTrees, locate_roots}
use Rattle.p10_spelling_laws.proofs.Aligning.{some_words}
use Rattle.p10_spelling_laws.proofs.Both.{both_specifiers, both_declarator, both_declaration, both_statements}
use Rattle.p10_spelling_laws.proofs.First.{first_specifiers, first_declarator, first_declaration, first_statements}
use Rattle.p10_spelling_laws.proofs.Second.{second_specifiers, second_declarator, second_declaration, second_statements}

-- these trees and those of the other program, of which each list has these functions
pub record ArePaired (these others : List (External At)) (ds es : List (Definition Bare)) : Type 0 where
  pub all : List Counterparts
  pub first : these ≡ map in_first all
  pub second : others ≡ map in_second all
  pub begin : AllByRecursion BeginTogether all
  pub same : (n : ℕ) → slice_get ds n ≡ slice_get es n → HasSameBody n all

none_paired : ArePaired [] [] [] []
none_paired = record { all = []; first = refl; second = refl; begin = tt; same = λ n same. tt }

-- ## A declaration

same_declaration : (p q : Bare) (d e : Declaration Bare) → ◌≡◌ {A = External Bare} (Outer p d) (Outer q e) → d ≡ e
same_declaration p q d e same = cc

no_zero : (n : ℕ) → 0 < n → nat_eq n 0 ≡ false
no_zero n some = grind (arith, nat_tests)

-- where a tree stands in its root
abbrev in_root : Source → Source
in_root s = record { words = s.words; before = 0 }

-- a tree begins its root where no word of it stands before
begins : (s : Source) (n k : ℕ) → nat_eq (place_at (in_root s) n k).first 0 ≡ nat_eq n 0
unfolding place_at
begins s zero k = refl
begins s (suc n) k = no_zero (min (0 + suc n) 4294967295) (omega arith) ∙ sym (no_zero (suc n) (omega arith))

begin_both : (s : Source) (n k : ℕ) (o : Source) (h l : ℕ) → nat_eq n 0 ≡ nat_eq h 0 → nat_eq (place_at (in_root s) n k).first 0 ≡ nat_eq (place_at (in_root o) h l).first 0
begin_both s n k o h l together = begins s n k ∙ together ∙ sym (begins o h l)

-- after words no tree begins its root
both_after : (n k h l : ℕ) → 0 < k → 0 < l → nat_eq (n + k) 0 ≡ nat_eq (h + l) 0
both_after n k h l some more = no_zero (n + k) (omega (arith, some)) ∙ sym (no_zero (h + l) (omega (arith, more)))

with_declaration : (s : Source) (n : ℕ) (o : Source) (h : ℕ) (p q : Bare) (d e : Declaration Bare) (these others : List (External At)) (ds es : List (Definition Bare)) → nat_eq n 0 ≡ nat_eq h 0 → d ≡ e → ArePaired these others ds es
    → ArePaired (Outer (place_at (in_root s) n (count_declaration d)) (locate_declaration s n d) ∷ these) (Outer (place_at (in_root o) h (count_declaration e)) (locate_declaration o h e) ∷ others) ds es
with_declaration s n o h p q d e these others ds es together same more = record {
  all = declared_in_both (place_at (in_root s) n (count_declaration d), place_at (in_root o) h (count_declaration e)) (both_declaration s n o h d) ∷ more.all;
  first = λ i. Outer (place_at (in_root s) n (count_declaration d)) (sym (first_declaration s n o h d) i) ∷ more.first i;
  second = λ i. Outer (place_at (in_root o) h (count_declaration e)) ((ap (locate_declaration o h) (sym same) ∙ sym (second_declaration s n o h d)) i) ∷ more.second i;
  begin = (begin_both s n (count_declaration d) o h (count_declaration e) together, more.begin);
  same = more.same;
}

-- ## A function

definitions : (d e : Definition Bare) → Defines d ≡ Defines e → d ≡ e
definitions d e same = cc

module _ (s : Source) (n : ℕ) (o : Source) (h : ℕ) (d e : Definition Bare) where
  abbrev both_landmarks : Landmarks (At × At)
  both_landmarks = record {
    whole = ((landmarks_at s n d).whole, (landmarks_at o h e).whole);
    first_word = ((landmarks_at s n d).first_word, (landmarks_at o h e).first_word);
    brace = ((landmarks_at s n d).brace, (landmarks_at o h e).brace);
    last_word = ((landmarks_at s n d).last_word, (landmarks_at o h e).last_word);
  }

  -- the head of a function that stands in both
  abbrev both_head : Definition (At × At)
  both_head = record {
    place = (place_at s n (count_definition d), place_at o h (count_definition e));
    landmarks = both_landmarks;
    specifiers = both_specifiers s n o h d.specifiers;
    declarator = both_declarator s (n + count_specifiers d.specifiers) o (h + count_specifiers d.specifiers) d.declarator;
    body_place = (place_at s (n + count_head d) (1 + count_statements d.body + 1), place_at o (h + count_head e) (1 + count_statements e.body + 1));
    body = NoStatements;
  }

  abbrev first_body : Statements At
  first_body = locate_statements s (n + count_head d + 1) d.body

  abbrev second_body : Statements At
  second_body = locate_statements o (h + count_head e + 1) e.body

  abbrev both_defined : Counterparts
  both_defined = defined_in_both both_head first_body second_body

  first_defined : Defines (locate_definition s n d) ≡ in_first both_defined
  first_defined = λ i. Defines (record {
    place = place_at s n (count_definition d);
    landmarks = landmarks_at s n d;
    specifiers = sym (first_specifiers s n o h d.specifiers) i;
    declarator = sym (first_declarator s (n + count_specifiers d.specifiers) o (h + count_specifiers d.specifiers) d.declarator) i;
    body_place = place_at s (n + count_head d) (1 + count_statements d.body + 1);
    body = first_body;
  })

  second_defined : bodiless d ≡ bodiless e → Defines (locate_definition o h e) ≡ in_second both_defined
  second_defined same = λ i. Defines (record {
    place = place_at o h (count_definition e);
    landmarks = landmarks_at o h e;
    specifiers = ((λ j. locate_specifiers o h (sym same j).specifiers) ∙ sym (second_specifiers s n o h d.specifiers)) i;
    declarator = ((λ j. locate_declarator o (h + count_specifiers (sym same j).specifiers) (sym same j).declarator) ∙ sym (second_declarator s (n + count_specifiers d.specifiers) o (h + count_specifiers d.specifiers) d.declarator)) i;
    body_place = place_at o (h + count_head e) (1 + count_statements e.body + 1);
    body = second_body;
  })

  body_same : d ≡ e → IsSameBody first_body second_body
  body_same same = record {
    body = both_statements s (n + count_head d + 1) o (h + count_head e + 1) d.body;
    first = sym (first_statements s (n + count_head d + 1) o (h + count_head e + 1) d.body);
    second = (λ j. locate_statements o (h + count_head e + 1) (sym same j).body) ∙ sym (second_statements s (n + count_head d + 1) o (h + count_head e + 1) d.body);
  }

  module _ (these others : List (External At)) (ds es : List (Definition Bare)) (more : ArePaired these others ds es) where
    same_with : (k : ℕ) → slice_get (d ∷ ds) k ≡ slice_get (e ∷ es) k → HasSameBody k (both_defined ∷ more.all)
    same_with zero same = body_same (same_Some d e same)
    same_with (suc k) same = more.same k same

    pub with_function : nat_eq n 0 ≡ nat_eq h 0 → bodiless d ≡ bodiless e → ArePaired (Defines (locate_definition s n d) ∷ these) (Defines (locate_definition o h e) ∷ others) (d ∷ ds) (e ∷ es)
    with_function together same = record {
      all = both_defined ∷ more.all;
      first = λ i. first_defined i ∷ more.first i;
      second = λ i. second_defined same i ∷ more.second i;
      begin = (begin_both s n (count_definition d) o h (count_definition e) together, more.begin);
      same = same_with;
    }

-- ## A root

no_trees : (f : External Bare) (fs : List (External Bare)) → [] ≡ f ∷ fs → ⊥
no_trees f fs same = cc

same_trees : (e f : External Bare) (es fs : List (External Bare)) → e ∷ es ≡ f ∷ fs → (e ≡ f) × (es ≡ fs)
same_trees e f es fs same = (cc, cc)

not_both : (p : Bare) (d : Declaration Bare) (e : Definition Bare) → ◌≡◌ {A = External Bare} (Outer p d) (Defines e) → ⊥
not_both p d e same = cc

some_brace : (d : Definition Bare) → 0 < count_definition d
some_brace d = let total : count_definition d ≡ count_head d + 1 + count_statements d.body + 1 = refl in omega (arith, total)

-- the trees of a root before those of others
root_paired : (es fs : List (External Bare)) (s : Source) (n : ℕ) (o : Source) (h : ℕ) (these others : List (External At)) (ds gs : List (Definition Bare)) → nat_eq n 0 ≡ nat_eq h 0 → map without_body es ≡ map without_body fs
    → ArePaired these others ds gs → ArePaired (locate_externals s n es ++ these) (locate_externals o h fs ++ others) (functions_in es ++ ds) (functions_in fs ++ gs)
root_paired [] [] s n o h these others ds gs together alike more = more
root_paired [] (f ∷ fs) s n o h these others ds gs together alike more = absurd (no_trees (without_body f) (map without_body fs) alike)
root_paired (e ∷ es) [] s n o h these others ds gs together alike more = absurd (no_trees (without_body e) (map without_body es) (sym alike))
root_paired (Outer p d ∷ es) (Outer q e ∷ fs) s n o h these others ds gs together alike more =
    let (first, rest) = same_trees _ _ _ _ alike in
    with_declaration s n o h p q d e _ _ _ _ together (same_declaration p q d e first)
    (root_paired es fs s (n + count_declaration d) o (h + count_declaration e) these others ds gs (both_after n (count_declaration d) h (count_declaration e) (some_words d) (some_words e)) rest more)
root_paired (Outer p d ∷ es) (Defines e ∷ fs) s n o h these others ds gs together alike more = absurd (not_both p d (bodiless e) (same_trees _ _ _ _ alike).0)
root_paired (Defines d ∷ es) (Outer q e ∷ fs) s n o h these others ds gs together alike more = absurd (not_both q e (bodiless d) (sym (same_trees _ _ _ _ alike).0))
root_paired (Defines d ∷ es) (Defines e ∷ fs) s n o h these others ds gs together alike more =
    let (first, rest) = same_trees _ _ _ _ alike in
    with_function s n o h d e _ _ _ _
    (root_paired es fs s (n + count_definition d) o (h + count_definition e) these others ds gs (both_after n (count_definition d) h (count_definition e) (some_brace d) (some_brace e)) rest more)
    together (definitions (bodiless d) (bodiless e) first)

-- ## All roots

-- the functions of a root
abbrev pub part_functions : RootTrees → List (Definition Bare)
part_functions root = functions_in root.trees

-- the trees of a root but for bodies
abbrev pub part_heads : RootTrees → List (External Bare)
part_heads root = map without_body root.trees

no_heads : (x : List (External Bare)) (xs : List (List (External Bare))) → [] ≡ x ∷ xs → ⊥
no_heads x xs same = cc

same_heads : (x y : List (External Bare)) (xs ys : List (List (External Bare))) → x ∷ xs ≡ y ∷ ys → (x ≡ y) × (xs ≡ ys)
same_heads x y xs ys same = (cc, cc)

-- roots whose trees are the same but for bodies
pub roots_paired : (xs ys : List RootTrees) (number from : ℕ) → map part_heads xs ≡ map part_heads ys → ArePaired (locate_roots number xs) (locate_roots from ys) (flat_map part_functions xs) (flat_map part_functions ys)
roots_paired [] [] number from alike = none_paired
roots_paired [] (y ∷ ys) number from alike = absurd (no_heads (part_heads y) (map part_heads ys) alike)
roots_paired (x ∷ xs) [] number from alike = absurd (no_heads (part_heads x) (map part_heads xs) (sym alike))
roots_paired (x ∷ xs) (y ∷ ys) number from alike =
    let (first, rest) = same_heads _ _ _ _ alike in
    root_paired x.trees y.trees (record { words = x.words; before = number }) 0 (record { words = y.words; before = from }) 0 _ _ _ _ refl first
    (roots_paired xs ys (number + length x.words) (from + length y.words) rest)

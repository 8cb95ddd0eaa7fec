-- Counterparts are the same roots in both programs.
use Rattle.std.proofs.Common.{◌≡◌, List, [], ◌∷◌, map, Bool, true, false, if◌then◌else◌, refl, ap, ◌∙◌, sym}
use Rattle.std.specs.List.{AllByRecursion, flat_map}
use Rattle.p10_base.specs.declared.at.At.{At}
use Rattle.p10_syn.specs.Trees.{External}
use Rattle.p10_heads.specs.Roots.{begins_root, root_follows, with_first, roots_of}
use Rattle.p10_spelling_laws.specs.Counterparts.{Counterparts, declared_in_both, defined_in_both, in_first, in_second, BeginTogether}
use Rattle.p10_head_renaming.specs.Laws.{AreRootsOf, RootsTogether}

begin_is : (c : Counterparts) → BeginTogether c → begins_root (in_first c) ≡ begins_root (in_second c)
begin_is (declared_in_both at d) together = together
begin_is (defined_in_both d one other) together = together

follow_is : (all : List Counterparts) → AllByRecursion BeginTogether all → root_follows (map in_first all) ≡ root_follows (map in_second all)
follow_is [] together = refl
follow_is (c ∷ all) together = begin_is c together.0

-- roots, of which the first one has one more at its beginning
abbrev onto : Counterparts → List (List Counterparts) → List (List Counterparts)
onto c [] = (c ∷ []) ∷ []
onto c (root ∷ roots) = (c ∷ root) ∷ roots

onto_joined : (c : Counterparts) (roots : List (List Counterparts)) → flat_map (λ root. root) (onto c roots) ≡ c ∷ flat_map (λ root. root) roots
onto_joined c [] = refl
onto_joined c (root ∷ roots) = refl

onto_mapped : (f : Counterparts → External At) (c : Counterparts) (roots : List (List Counterparts)) → with_first (f c) (map (map f) roots) ≡ map (map f) (onto c roots)
onto_mapped f c [] = refl
onto_mapped f c (root ∷ roots) = refl

-- what comes of a tree before roots, by whether one follows
choose : (e : External At) (rest : List (External At)) (b : Bool) → root_follows rest ≡ b → roots_of (e ∷ rest) ≡ (if b then (e ∷ []) ∷ roots_of rest else with_first e (roots_of rest))
choose e rest b is = ap (λ b. if b then (e ∷ []) ∷ roots_of rest else with_first e (roots_of rest)) is

with_one : (c : Counterparts) (all : List Counterparts) (b : Bool) → root_follows (map in_first all) ≡ b → root_follows (map in_second all) ≡ b → AreRootsOf all → AreRootsOf (c ∷ all)
with_one c all true one two r = record {
  roots = (c ∷ []) ∷ r.roots;
  joined = ap (λ rest. c ∷ rest) r.joined;
  first = choose (in_first c) (map in_first all) true one ∙ ap (λ rest. (in_first c ∷ []) ∷ rest) r.first;
  second = choose (in_second c) (map in_second all) true two ∙ ap (λ rest. (in_second c ∷ []) ∷ rest) r.second;
}
with_one c all false one two r = record {
  roots = onto c r.roots;
  joined = onto_joined c r.roots ∙ ap (λ rest. c ∷ rest) r.joined;
  first = choose (in_first c) (map in_first all) false one ∙ ap (with_first (in_first c)) r.first ∙ onto_mapped in_first c r.roots;
  second = choose (in_second c) (map in_second all) false two ∙ ap (with_first (in_second c)) r.second ∙ onto_mapped in_second c r.roots;
}

pub roots_together : RootsTogether
roots_together [] together = record { roots = []; joined = refl; first = refl; second = refl }
roots_together (c ∷ all) together = with_one c all (root_follows (map in_first all)) refl (sym (follow_is all together.1)) (roots_together all together.1)

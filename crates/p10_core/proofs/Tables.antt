-- Tables of structures that grow.
use Rattle.std.proofs.Common.{◌≡◌, ℕ, zero, suc, ◌+◌, ◌<◌, ◌≤◌, Bool, true, false, if◌then◌else◌, List, [], ◌∷◌, ◌++◌, map, length, Option, Some, refl, sym, ◌∙◌, ap, subst, arith, length-append, slice_index_or, slice_set}
use Rattle.std.proofs.lemmas.List.{map-append, length-map, length-set}
use Rattle.p10_core.specs.declared.structures.Structure.{Structure}
use Rattle.p10_core.specs.declared.structures.Body.{Body}
use Rattle.p10_core.specs.Types.{PlainMember, PlainStructure, plain_structure, plain_body}
use Rattle.p10_core.specs.WholePrograms.{most_bytes}
use Rattle.p10_core.specs.Completing.{incomplete_structure, complete_count, member_layout, body_with, with_body, completed, AreBuilt, MayComplete, takes_members}
use Rattle.p10_core.proofs.Completing.{one_more, fewer_than_all, one_more_is_built, count_pushed, completed_are_built}
use Rattle.p10_core.proofs.MemberLayouts.{may_by_test}

-- what a table keeps of its structures
pub record IsTable (ss : List Structure) (bodies : ℕ) : Type 0 where
  pub few : length ss ≤ 4294967296
  pub counted : bodies ≡ complete_count (map plain_structure ss)
  pub built : AreBuilt (map plain_structure ss)

-- one structure more, or none where memory runs out
pub pushed_is_table : (ok : Bool) (ss ts : List Structure) (x : Structure) (bodies : ℕ) (tag : Option (List ℕ)) → IsTable ss bodies →
    plain_structure x ≡ incomplete_structure (length (map plain_structure ss)) tag → length (map plain_structure ss) < 4294967296 → ts ≡ (if ok then ss ++ x ∷ [] else ss) → IsTable ts bodies
pushed_is_table false ss ts x bodies tag t new room e = subst (λ ts. IsTable ts bodies) (sym e) t
pushed_is_table true ss ts x bodies tag t new room e =
    let plain : map plain_structure (ss ++ x ∷ []) ≡ map plain_structure ss ++ incomplete_structure (length (map plain_structure ss)) tag ∷ [] =
    map-append plain_structure ss (x ∷ []) ∙ ap (λ s. map plain_structure ss ++ s ∷ []) new in
    let pushed : IsTable (ss ++ x ∷ []) bodies = record {
      few = omega (arith, room, length-map ss plain_structure, length-append ss (x ∷ []));
      counted = t.counted ∙ sym (ap complete_count plain ∙ count_pushed (map plain_structure ss) (incomplete_structure (length (map plain_structure ss)) tag) refl);
      built = subst AreBuilt (sym plain) (one_more_is_built (map plain_structure ss) tag t.built);
    } in
    subst (λ ts. IsTable ts bodies) (sym e) pushed

-- ## A structure that is completed

pub bodies_few : (ss : List Structure) (bodies n : ℕ) (members : List PlainMember) → IsTable ss bodies → takes_members (map plain_structure ss) n members ≡ true → bodies < 4294967296
bodies_few ss bodies n members t h =
    let may : MayComplete (map plain_structure ss) n members = may_by_test (map plain_structure ss) n members h in
    omega (arith, t.few, t.counted, fewer_than_all (map plain_structure ss) n may.there may.incomplete, length-map ss plain_structure)

pub number_there : (ss : List Structure) (n : ℕ) (members : List PlainMember) → takes_members (map plain_structure ss) n members ≡ true → n < length ss
number_there ss n members h = omega (arith, (may_by_test (map plain_structure ss) n members h).there, length-map ss plain_structure)

body_put : (ss : List Structure) (n : ℕ) (s : Structure) (b : Body) → n < length ss → s ≡ slice_index_or ss n s →
    map plain_structure (slice_set ss n (record s { body = Some b })) ≡ with_body (map plain_structure ss) n (plain_body b)
body_put [] n s b h e = absurd (omega (arith, h))
body_put (x ∷ ss) zero s b h e = λ i. plain_structure (record (e i) { body = Some b }) ∷ map plain_structure ss
body_put (x ∷ ss) (suc n) s b h e = ap (λ rest. plain_structure x ∷ rest) (body_put ss n s b (omega (arith, h)) e)

-- what a table is after a structure got its body
pub record IsCompleted (ss ts : List Structure) (bodies n : ℕ) (members : List PlainMember) : Type 0 where
  pub same : map plain_structure ts ≡ completed (map plain_structure ss) n members
  pub table : IsTable ts (bodies + 1)

pub put_is_table : (ss : List Structure) (bodies n : ℕ) (s : Structure) (b : Body) (members : List PlainMember) → IsTable ss bodies → takes_members (map plain_structure ss) n members ≡ true →
    (member_layout (map plain_structure ss) members).bytes ≤ most_bytes → s ≡ slice_index_or ss n s → plain_body b ≡ body_with (map plain_structure ss) (complete_count (map plain_structure ss)) members →
    IsCompleted ss (slice_set ss n (record s { body = Some b })) bodies n members
put_is_table ss bodies n s b members t h small at is =
    let plain : List PlainStructure = map plain_structure ss in
    let may : MayComplete plain n members = may_by_test plain n members h in
    let ts : List Structure = slice_set ss n (record s { body = Some b }) in
    let same : map plain_structure ts ≡ completed plain n members = body_put ss n s b (number_there ss n members h) at ∙ ap (with_body plain n) is in
    record {
      same = same;
      table = record {
        few = omega (arith, t.few, length-set ss n (record s { body = Some b }));
        counted = ap (λ k. k + 1) t.counted ∙ sym (ap complete_count same ∙ one_more plain n (body_with plain (complete_count plain) members) may.there may.incomplete ∙ after (complete_count plain));
        built = subst AreBuilt (sym same) (completed_are_built plain n members t.built may small);
      };
    }
  where
    after : (k : ℕ) → suc k ≡ k + 1
    after k = omega arith

-- Tags, structures and enumerations are the same in both programs.
use Rattle.std.proofs.Common.{◌≡◌, arith, subst, ℕ, ◌+◌, ◌<◌, Bool, true, false, List, length, nat_le, Option, Some, None, option_map}
use Rattle.std.specs.Prelude.{if◌then◌else◌}
use Rattle.p10_base.specs.Words.{Text}
use Rattle.p10_base.specs.declared.at.At.{At}
use Rattle.p10_base.specs.declared.codes.SubsetCode.TheVariants as subset
use Rattle.p10_syn.specs.declared.sign.Sign.{Sign}
use Rattle.p10_syn.specs.declared.sign.Sign.TheVariants as sign
use Rattle.p10_syn.specs.Trees.{Identifier}
use Rattle.p10_core.specs.Types.{PlainType, PlainMember, structure}
use Rattle.p10_core.specs.Rows.{int_type}
use Rattle.p10_core.specs.WholePrograms.{most_bytes}
use Rattle.p10_core.specs.Completing.{complete_count, member_layout, body_with, completed, takes_members}
use Rattle.p10_elabx.specs.First.{Keep}
use Rattle.p10_elabx.specs.Scopes.{Meaning, PlainScope, tagged_type, tagged}
use Rattle.p10_elabx.specs.Innermost.{tagged_here}
use Rattle.p10_elabd.specs.declared.known_tag.KnownTag.{KnownTag}
use Rattle.p10_elabd.specs.declared.known_tag.KnownTag.TheVariants as tag_is
use Rattle.p10_elabd.specs.Standing.{PlainStanding, Passed, nothing_made, refusing}
use Rattle.p10_elabd.specs.Tagged.{known_tag, structure_by_tag, enumeration_by_tag, Begun, begun_anew, begun_twice, begun_known, may_complete, begun_by_tag, begun_for, begun, ended, completed_small, completed_by, with_unknown_tag, structure_made, with_enumeration, is_tag_taken, enumeration_begun}
use Rattle.p10_elabd.specs.Declaring.{unless_union, tag_passed, enumeration_by_name, begun_with}
use Rattle.p10_renaming.specs.Renaming.{Pairing, SameType, same_void, same_integer, same_pointer, same_array, same_structure}
use Rattle.p10_expression_renaming.specs.Mapped.{mapped_identifier}
use Rattle.p10_expression_renaming.specs.Knowing.{SameMeaning, same_local, same_object, same_callable, same_number, same_named_type, same_tagged_type, same_unknown_name, same_unknown_tag, SameMembers, IsOneToOne}
use Rattle.p10_expression_renaming.proofs.Sameness.{SameNamed, same_nothing_named, same_one_named}
use Rattle.p10_expression_renaming.proofs.TypeNames.{left, right}
use Rattle.p10_declaration_renaming.specs.Standings.{Both, SameWholeScope, SameStanding, AreQuiet}
use Rattle.p10_declaration_steps.proofs.Declaring.{over_tag_passed}
use Rattle.p10_declaration_steps.proofs.Members.{over_by_name}
use Rattle.p10_declaration_steps.proofs.Tagging.{over_begun}
use Rattle.p10_declaration_renaming.proofs.Growing.{as_before, grows_made, count_more, count_kept, grown}
use Rattle.p10_declaration_renaming.proofs.Tables.{takes_same, tables_completed}
use Rattle.p10_declaration_renaming.proofs.Scopes.{tagged_same, tagged_here_same, declared_same, hidden_same, next_now, structure_more_same, with_tag_same}
use Rattle.p10_declaration_renaming.proofs.Alike.{Alike, Ends, alike_on, alike_ends, quiet_before, never_left, never_right, alike_refusing, ends_nothing, ends_passed, ends_where, ends_unless}

-- the tag of a tree that stands at two places
abbrev pub left_name : Option (Identifier (At × At)) → Option (Identifier At)
left_name = option_map (mapped_identifier left)

abbrev pub right_name : Option (Identifier (At × At)) → Option (Identifier At)
right_name = option_map (mapped_identifier right)

-- ## What tags stand for

data SameTag (R : Pairing) : KnownTag → KnownTag → Type 0 where
  same_nothing : SameTag R tag_is.Nothing tag_is.Nothing
  same_tag_of_structure : {c : Bool} {n m : ℕ} → R.used n m ≡ true → SameTag R (tag_is.Structure c n) (tag_is.Structure c m)
  same_enumeration : SameTag R tag_is.Enumeration tag_is.Enumeration
  same_other_type : SameTag R tag_is.OtherType tag_is.OtherType
  same_refused : SameTag R tag_is.Refused tag_is.Refused
  same_no_tag : SameTag R tag_is.NoTag tag_is.NoTag

tag_of_type : (R : Pairing) {t u : PlainType} → SameType R t u → SameTag R (known_tag (Some (tagged_type t))) (known_tag (Some (tagged_type u)))
tag_of_type R same_void = same_other_type
tag_of_type R same_integer = same_enumeration
tag_of_type R (same_pointer h) = same_other_type
tag_of_type R (same_array h) = same_other_type
tag_of_type R (same_structure paired) = same_tag_of_structure paired

tag_of_meaning : (R : Pairing) {a b : Meaning} → SameMeaning R a b → SameTag R (known_tag (Some a)) (known_tag (Some b))
tag_of_meaning R (same_local h) = same_no_tag
tag_of_meaning R (same_object h) = same_no_tag
tag_of_meaning R (same_callable ts h) = same_no_tag
tag_of_meaning R same_number = same_no_tag
tag_of_meaning R (same_named_type h) = same_no_tag
tag_of_meaning R (same_tagged_type h) = tag_of_type R h
tag_of_meaning R same_unknown_name = same_no_tag
tag_of_meaning R same_unknown_tag = same_refused

tag_of_name : (R : Pairing) {a b : Option Meaning} → SameNamed R a b → SameTag R (known_tag a) (known_tag b)
tag_of_name R same_nothing_named = same_nothing
tag_of_name R (same_one_named h) = tag_of_meaning R h

-- in its block alone, or anywhere
tag_where : (R : Pairing) (last : ℕ) (s t : PlainScope) → SameWholeScope R last s t → (alone : Bool) (name : Text)
    → SameTag R (known_tag (if alone then tagged_here s name else tagged s name)) (known_tag (if alone then tagged_here t name else tagged t name))
tag_where R last s t know true name = tag_of_name R (tagged_here_same R last s t know name)
tag_where R last s t know false name = tag_of_name R (tagged_same R last s t know name)

-- ## A tag without a body

structure_by_tag_ends : (R : Pairing) → IsOneToOne R → (last : ℕ) (h : Keep) (x : Identifier (At × At)) (s t : PlainStanding) → SameStanding R last s t → {k l : KnownTag} → SameTag R k l
    → Ends R last (SameType R) (structure_by_tag h k (mapped_identifier left x) s) (structure_by_tag h l (mapped_identifier right x) t)
structure_by_tag_ends R one last h x s t know same_nothing = λ q.
    let low : length s.scope.structures < last = omega (arith, count_more s.scope.structures (Some x.name), q.few) in
    (same_structure (next_now R last s.scope t.scope know low), with_tag_same R one last s.scope t.scope know low x.name)
structure_by_tag_ends R one last h x s t know (same_tag_of_structure {c = c} {n = n} {m = m} paired) = ends_passed R last (SameType R) (structure c n) (structure c m) s t (same_structure paired) know
structure_by_tag_ends R one last h x s t know same_refused = ends_nothing R last (SameType R) s t know
structure_by_tag_ends R one last h x s t know same_enumeration = λ quiet. never_left last h subset.DefinedTwice x.place.0 s _ quiet
structure_by_tag_ends R one last h x s t know same_other_type = λ quiet. never_left last h subset.DefinedTwice x.place.0 s _ quiet
structure_by_tag_ends R one last h x s t know same_no_tag = λ quiet. never_left last h subset.DefinedTwice x.place.0 s _ quiet

tag_passed_ends : (R : Pairing) → IsOneToOne R → (last : ℕ) (h : Keep) (alone : Bool) (at to : At) (word : Sign) (tag : Option (Identifier (At × At))) (s t : PlainStanding) → SameStanding R last s t
    → Ends R last (SameType R) (tag_passed h alone at word (left_name tag) s) (tag_passed h alone to word (right_name tag) t)
tag_passed_ends R one last h alone at to sign.Union tag s t know = λ quiet. never_left last h subset.UnionOrBitField at s _ quiet
tag_passed_ends R one last h alone at to word None s t know = ends_nothing R last (SameType R) s t know
tag_passed_ends R one last h alone at to word (Some x) s t know = structure_by_tag_ends R one last h x s t know (tag_where R last s.scope t.scope know alone x.name)

pub alike_tag_passed : {B : Type 0} (R : Pairing) → IsOneToOne R → (last : ℕ) (h : Keep) (alone : Bool) (at to : At) (word : Sign) (tag : Option (Identifier (At × At))) (s t : PlainStanding) → Alike B R last s t
    → Alike (B × Both (SameType R) (tag_passed h alone at word (left_name tag) s).made (tag_passed h alone to word (right_name tag) t).made) R last
    (tag_passed h alone at word (left_name tag) s).after (tag_passed h alone to word (right_name tag) t).after
alike_tag_passed R one last h alone at to word tag s t a =
    alike_ends R last (SameType R) s t (tag_passed h alone at word (left_name tag) s) (tag_passed h alone to word (right_name tag) t) (grown (over_tag_passed h alone at word (left_name tag) s))
    (grown (over_tag_passed h alone to word (right_name tag) t)) (λ b know. tag_passed_ends R one last h alone at to word tag s t know) a

enumeration_by_tag_ends : (R : Pairing) (last : ℕ) (h : Keep) (at to : At) (x : Identifier (At × At)) (s t : PlainStanding) → SameStanding R last s t → {k l : KnownTag} → SameTag R k l
    → Ends R last (SameType R) (enumeration_by_tag h at k (mapped_identifier left x) s) (enumeration_by_tag h to l (mapped_identifier right x) t)
enumeration_by_tag_ends R last h at to x s t know same_enumeration = ends_passed R last (SameType R) int_type int_type s t same_integer know
enumeration_by_tag_ends R last h at to x s t know (same_tag_of_structure paired) = λ quiet. never_left last h subset.DefinedTwice x.place.0 s _ quiet
enumeration_by_tag_ends R last h at to x s t know same_other_type = λ quiet. never_left last h subset.DefinedTwice x.place.0 s _ quiet
enumeration_by_tag_ends R last h at to x s t know same_refused = ends_nothing R last (SameType R) s t know
enumeration_by_tag_ends R last h at to x s t know same_nothing = λ quiet. never_left last h subset.UnknownName at s _ quiet
enumeration_by_tag_ends R last h at to x s t know same_no_tag = λ quiet. never_left last h subset.UnknownName at s _ quiet

by_name_ends : (R : Pairing) (last : ℕ) (h : Keep) (at to : At) (tag : Option (Identifier (At × At))) (s t : PlainStanding) → SameStanding R last s t
    → Ends R last (SameType R) (enumeration_by_name h at (left_name tag) s) (enumeration_by_name h to (right_name tag) t)
by_name_ends R last h at to None s t know = ends_nothing R last (SameType R) s t know
by_name_ends R last h at to (Some x) s t know = enumeration_by_tag_ends R last h at to x s t know (tag_of_name R (tagged_same R last s.scope t.scope know x.name))

pub alike_by_name : {B : Type 0} (R : Pairing) (last : ℕ) (h : Keep) (at to : At) (tag : Option (Identifier (At × At))) (s t : PlainStanding) → Alike B R last s t
    → Alike (B × Both (SameType R) (enumeration_by_name h at (left_name tag) s).made (enumeration_by_name h to (right_name tag) t).made) R last
    (enumeration_by_name h at (left_name tag) s).after (enumeration_by_name h to (right_name tag) t).after
alike_by_name R last h at to tag s t a =
    alike_ends R last (SameType R) s t (enumeration_by_name h at (left_name tag) s) (enumeration_by_name h to (right_name tag) t) (grown (over_by_name h at (left_name tag) s)) (grown (over_by_name h to (right_name tag) t))
    (λ b know. by_name_ends R last h at to tag s t know) a

-- ## A structure with a body

-- where its members begin, the numbers are paired and the same stands
abbrev Begins : Pairing → ℕ → Begun → Begun → Type 0
Begins R last b c = AreQuiet last b.standing c.standing → (R.used b.number c.number ≡ true) × SameStanding R last b.standing c.standing

anew_begins : (R : Pairing) → IsOneToOne R → (last : ℕ) (tag : Option Text) (s t : PlainStanding) → SameStanding R last s t → Begins R last (begun_anew tag s) (begun_anew tag t)
anew_begins R one last tag s t know q =
    let low : length s.scope.structures < last = omega (arith, count_more s.scope.structures tag, q.few) in
    (next_now R last s.scope t.scope know low, structure_more_same R one last s.scope t.scope know low tag)

twice_left : (R : Pairing) (last : ℕ) (h : Keep) (tag : Identifier At) (s : PlainStanding) (c : Begun) → Begins R last (begun_twice h tag s) c
twice_left R last h tag s c q =
    let r : PlainStanding = refusing h true subset.DefinedTwice tag.place s in
    never_left last h subset.DefinedTwice tag.place s c.standing (record { left = q.left; right = q.right; few = omega (arith, count_more r.scope.structures (Some tag.name), q.few) })

twice_right : (R : Pairing) (last : ℕ) (h : Keep) (tag : Identifier At) (b : Begun) (t : PlainStanding) → Begins R last b (begun_twice h tag t)
twice_right R last h tag b t q = never_right last h subset.DefinedTwice tag.place b.standing t (record { left = q.left; right = q.right; few = q.few })

known_begins : (R : Pairing) (last : ℕ) (h : Keep) (may might : Bool) (n m : ℕ) → R.used n m ≡ true → (tag other : Identifier At) (s t : PlainStanding) → SameStanding R last s t
    → Begins R last (begun_known h may n tag s) (begun_known h might m other t)
known_begins R last h true true n m paired tag other s t know = λ q. (paired, know)
known_begins R last h true false n m paired tag other s t know = twice_right R last h other (record { number = n; standing = s }) t
known_begins R last h false might n m paired tag other s t know = twice_left R last h tag s (begun_known h might m other t)

by_tag_begins : (R : Pairing) → IsOneToOne R → (last : ℕ) (h : Keep) (x : Identifier (At × At)) (s t : PlainStanding) → SameStanding R last s t → {k l : KnownTag} → SameTag R k l
    → Begins R last (begun_by_tag h k (mapped_identifier left x) s) (begun_by_tag h l (mapped_identifier right x) t)
by_tag_begins R one last h x s t know same_nothing = λ q.
    let low : length s.scope.structures < last = omega (arith, count_more s.scope.structures (Some x.name), q.few) in
    (next_now R last s.scope t.scope know low, with_tag_same R one last s.scope t.scope know low x.name)
by_tag_begins R one last h x s t know (same_tag_of_structure {n = n} {m = m} paired) =
    known_begins R last h (may_complete s n) (may_complete t m) n m paired (mapped_identifier left x) (mapped_identifier right x) s t know
by_tag_begins R one last h x s t know same_enumeration = twice_left R last h (mapped_identifier left x) s _
by_tag_begins R one last h x s t know same_other_type = twice_left R last h (mapped_identifier left x) s _
by_tag_begins R one last h x s t know same_refused = twice_left R last h (mapped_identifier left x) s _
by_tag_begins R one last h x s t know same_no_tag = twice_left R last h (mapped_identifier left x) s _

for_begins : (R : Pairing) → IsOneToOne R → (last : ℕ) (h : Keep) (tag : Option (Identifier (At × At))) (s t : PlainStanding) → SameStanding R last s t → Begins R last (begun_for h (left_name tag) s) (begun_for h (right_name tag) t)
for_begins R one last h None s t know = anew_begins R one last None s t know
for_begins R one last h (Some x) s t know = by_tag_begins R one last h x s t know (tag_of_name R (tagged_here_same R last s.scope t.scope know x.name))

-- that its members are being declared is noted
opened_begins : (R : Pairing) (last : ℕ) (h : Keep) (tag : Option (Identifier (At × At))) (s t : PlainStanding) → Begins R last (begun_for h (left_name tag) s) (begun_for h (right_name tag) t)
    → Begins R last (begun h (left_name tag) s) (begun h (right_name tag) t)
opened_begins R last h tag s t go q = go (record { left = q.left; right = q.right; few = q.few })

with_begins : (R : Pairing) → IsOneToOne R → (last : ℕ) (h : Keep) (word : Sign) (tag : Option (Identifier (At × At))) (s t : PlainStanding) → SameStanding R last s t
    → Begins R last (begun_with h word (left_name tag) s) (begun_with h word (right_name tag) t)
with_begins R one last h sign.Union tag s t know = anew_begins R one last None s t know
with_begins R one last h word tag s t know = opened_begins R last h tag s t (for_begins R one last h tag s t know)

pub alike_begun : {B : Type 0} (R : Pairing) → IsOneToOne R → (last : ℕ) (h : Keep) (word : Sign) (tag : Option (Identifier (At × At))) (s t : PlainStanding) → Alike B R last s t
    → Alike (B × (R.used (begun_with h word (left_name tag) s).number (begun_with h word (right_name tag) t).number ≡ true)) R last
    (begun_with h word (left_name tag) s).standing (begun_with h word (right_name tag) t).standing
alike_begun R one last h word tag s t a q =
    let x = a (quiet_before last s t _ _ (grown (over_begun h word (left_name tag) s)) (grown (over_begun h word (right_name tag) t)) q) in
    let y = with_begins R one last h word tag s t x.1 q in
    ((x.0, y.0), y.1)

-- the members of the innermost one are declared
pub alike_ended : {B : Type 0} (R : Pairing) (last : ℕ) (s t : PlainStanding) → Alike B R last s t → Alike B R last (ended s) (ended t)
alike_ended R last s t a = alike_on R last s t (ended s) (ended t) (as_before s) (as_before t) (λ b know q. know) a

-- ## Its end

completed_same : (R : Pairing) → IsOneToOne R → (last : ℕ) (s t : PlainScope) → SameWholeScope R last s t → (n m : ℕ) → R.used n m ≡ true → (ms ks : List PlainMember) → SameMembers R ms ks
    → takes_members s.structures n ms ≡ true → takes_members t.structures m ks ≡ true → nat_le (member_layout s.structures ms).bytes most_bytes ≡ true → nat_le (member_layout t.structures ks).bytes most_bytes ≡ true
    → SameWholeScope R last (record s { structures = completed s.structures n ms }) (record t { structures = completed t.structures m ks })
completed_same R one last s t know n m paired ms ks h takes other_takes small other_small = record {
  tables = tables_completed R one s.structures t.structures know.tables n m paired ms ks h takes other_takes small other_small;
  names = know.names;
  tags = know.tags;
  floors = know.floors;
  next = λ i below. next_kept i (know.next i (omega (arith, below, count_kept s.structures n (body_with s.structures (complete_count s.structures) ms))));
}
  where
    these_kept : length s.structures ≡ length (completed s.structures n ms)
    these_kept = omega (arith, count_kept s.structures n (body_with s.structures (complete_count s.structures) ms))

    others_kept : length t.structures ≡ length (completed t.structures m ks)
    others_kept = omega (arith, count_kept t.structures m (body_with t.structures (complete_count t.structures) ks))

    next_kept : (i : ℕ) → R.used (i + length s.structures) (i + length t.structures) ≡ true → R.used (i + length (completed s.structures n ms)) (i + length (completed t.structures m ks)) ≡ true
    next_kept i e = subst (λ x. R.used (i + x) (i + length (completed t.structures m ks)) ≡ true) these_kept (subst (λ y. R.used (i + length s.structures) (i + y) ≡ true) others_kept e)

completed_ends : (R : Pairing) → IsOneToOne R → (last : ℕ) (h : Keep) (at to : At) (n m : ℕ) → R.used n m ≡ true → (ms ks : List PlainMember) → SameMembers R ms ks → (s t : PlainStanding) → SameStanding R last s t
    → Ends R last (SameType R) (completed_by h at n ms s) (completed_by h to m ks t)
completed_ends R one last h at to n m paired ms ks same s t know =
    ends_where R last (SameType R) (takes_members s.scope.structures n ms) (takes_members t.scope.structures m ks) (completed_small h at n ms s) (nothing_made s) (completed_small h to m ks t) (nothing_made t)
    (takes_same R one s.scope.structures t.scope.structures know.tables n m paired same)
    (λ takes other_takes. ends_unless R last (SameType R) h subset.BadLength subset.BadLength at to (nat_le (member_layout s.scope.structures ms).bytes most_bytes) (nat_le (member_layout t.scope.structures ks).bytes most_bytes) _ _ s t
    (λ small other_small q. (same_structure paired, completed_same R one last s.scope t.scope know n m paired ms ks same takes other_takes small other_small)))
    (ends_nothing R last (SameType R) s t know)

unknown_tag_same : (R : Pairing) (last : ℕ) (tag : Option (Identifier (At × At))) (s t : PlainStanding) → SameStanding R last s t → SameStanding R last (with_unknown_tag (left_name tag) s) (with_unknown_tag (right_name tag) t)
unknown_tag_same R last None s t know = know
unknown_tag_same R last (Some x) s t know = declared_same R last s.scope t.scope know x.name same_unknown_tag

structure_made_ends : (R : Pairing) → IsOneToOne R → (last : ℕ) (h : Keep) (at to : At) (tag : Option (Identifier (At × At))) (n m : ℕ) → R.used n m ≡ true → (o p : Option (List PlainMember)) → Both (SameMembers R) o p
    → (s t : PlainStanding) → SameStanding R last s t → Ends R last (SameType R) (structure_made h at (left_name tag) n o s) (structure_made h to (right_name tag) m p t)
structure_made_ends R one last h at to tag n m paired None None same s t know = λ q. (tt, unknown_tag_same R last tag s t know)
structure_made_ends R one last h at to tag n m paired (Some ms) (Some ks) same s t know = completed_ends R one last h at to n m paired ms ks same s t know
structure_made_ends R one last h at to tag n m paired None (Some ks) same s t know = absurd same
structure_made_ends R one last h at to tag n m paired (Some ms) None same s t know = absurd same

pub alike_structure_made : {B : Type 0} (R : Pairing) → IsOneToOne R → (last : ℕ) (h : Keep) (at to : At) (tag : Option (Identifier (At × At))) (n m : ℕ) (o p : Option (List PlainMember)) (s t : PlainStanding)
    → (B → R.used n m ≡ true) → (B → Both (SameMembers R) o p) → Alike B R last s t
    → Alike (B × Both (SameType R) (structure_made h at (left_name tag) n o s).made (structure_made h to (right_name tag) m p t).made) R last
    (structure_made h at (left_name tag) n o s).after (structure_made h to (right_name tag) m p t).after
alike_structure_made R one last h at to tag n m o p s t paired same a =
    alike_ends R last (SameType R) s t (structure_made h at (left_name tag) n o s) (structure_made h to (right_name tag) m p t) (grows_made h at (left_name tag) n o s) (grows_made h to (right_name tag) m p t)
    (λ b know. structure_made_ends R one last h at to tag n m (paired b) o p (same b) s t know) a

pub alike_unless_union : {B : Type 0} (R : Pairing) (last : ℕ) (h : Keep) (at to : At) (word : Sign) (p q : Passed PlainType) → Alike (B × Both (SameType R) p.made q.made) R last p.after q.after
    → Alike (B × Both (SameType R) (unless_union h at word p).made (unless_union h to word q).made) R last (unless_union h at word p).after (unless_union h to word q).after
alike_unless_union R last h at to sign.Union p q a = λ quiet. never_left last h subset.UnionOrBitField at p.after _ quiet
alike_unless_union R last h at to word p q a = a

-- ## An enumeration with constants

pub alike_with_enumeration : {B : Type 0} (R : Pairing) (last : ℕ) (tag : Option (Identifier (At × At))) (s t : PlainStanding) → Alike B R last s t → Alike B R last (with_enumeration (left_name tag) s) (with_enumeration (right_name tag) t)
alike_with_enumeration R last None s t a = a
alike_with_enumeration R last (Some x) s t a =
    alike_on R last s t _ _ (as_before s) (as_before t) (λ b know q. declared_same R last s.scope t.scope know x.name (same_tagged_type same_integer)) a

pub alike_enumeration_begun : {B : Type 0} (R : Pairing) (last : ℕ) (h : Keep) (tag : Option (Identifier (At × At))) (s t : PlainStanding) → Alike B R last s t
    → Alike B R last (enumeration_begun h (left_name tag) s) (enumeration_begun h (right_name tag) t)
alike_enumeration_begun R last h None s t a = a
alike_enumeration_begun R last h (Some x) s t a =
    let b : Bool = is_tag_taken (left_name (Some x)) s in
    let c : Bool = is_tag_taken (right_name (Some x)) t in
    let r : PlainStanding = refusing h b subset.DefinedTwice x.place.0 s in
    let q : PlainStanding = refusing h c subset.DefinedTwice x.place.1 t in
    alike_on R last r q _ _ (as_before r) (as_before q) (λ b know quiet. hidden_same R last r.scope q.scope know x.name) (alike_refusing R last h b c subset.DefinedTwice subset.DefinedTwice x.place.0 x.place.1 s t a)

-- Tags, structures, enumerations and members where what stands is alike.
use Rattle.std.proofs.Common.{◌≡◌, ℕ, ℤ, ◌-◌, Bool, true, false, if◌then◌else◌, nat_le, length, take, ◌++◌, Option, Some, None, is_some, List, [], ◌∷◌, refl, ap}
use Rattle.p10_base.specs.Words.{Text}
use Rattle.p10_base.specs.declared.at.At.{At}
use Rattle.p10_base.specs.declared.codes.SubsetCode.TheVariants as subset
use Rattle.p10_int.specs.declared.types.IntType.TheVariants.{Int}
use Rattle.p10_int.specs.Types.{holds}
use Rattle.p10_syn.specs.Trees.{Identifier, Optional, Absent, Present}
use Rattle.p10_core.specs.Types.{PlainType, structure, PlainMember}
use Rattle.p10_core.specs.Rows.{int_type, is_complete}
use Rattle.p10_core.specs.WholePrograms.{most_bytes}
use Rattle.p10_core.specs.Completing.{with_structure, member_layout, completed, takes_members}
use Rattle.p10_elabx.specs.declared.problem.Problem.{Problem}
use Rattle.p10_elabx.specs.First.{every, only_first}
use Rattle.p10_elabx.specs.Scopes.{PlainScope, tagged_type, unknown_tag, tagged, declared}
use Rattle.p10_elabx.specs.Innermost.{tagged_here, hidden}
use Rattle.p10_elabd.specs.declared.known_tag.KnownTag.{KnownTag}
use Rattle.p10_elabd.specs.declared.known_tag.KnownTag.TheVariants as tag_is
use Rattle.p10_elabd.specs.Laws.{AreKept}
use Rattle.p10_elabd.specs.Standing.{PlainStanding, Passed}
use Rattle.p10_elabd.specs.Blocks.{declaring}
use Rattle.p10_elabd.specs.Expressions.{constant_number}
use Rattle.p10_elabd.specs.Tags.{with_tag}
use Rattle.p10_elabd.specs.Tagged.{known_tag, structure_by_tag, structure_named, enumeration_by_tag, enumeration_named, Begun, begun_anew, begun_with_tag, begun_twice, begun_known, may_complete, begun_by_tag, begun_for, opened, begun, ended, completed_small, completed_by, with_unknown_tag, structure_made, with_hidden_tag, with_enumeration, enumeration_begun}
use Rattle.p10_elabd.specs.Shapes.{DeclaredType, of_type, of_open_array, of_function, of_part_function}
use Rattle.p10_elabd.specs.Members.{member_type, member_declared, with_width, member_added, is_member, with_member, enumerator_value, int_value, enumerator_meaning, value_after, enumerator_passed}
use Rattle.p10_refusals.proofs.Alike.{Alike, AlikePassed, with_kept, for_alike, followed, alike_passed, alike_nothing, alike_made, alike_refusing, alike_refusing_by, alike_refusing_in, alike_where, alike_where_in, alike_scoped}
use Rattle.p10_refusals.proofs.Values.{alike_value}
use Rattle.p10_refusals.proofs.Shaping.{alike_declaring}

-- ## A tag without a body

alike_by_tag : (known : KnownTag) (tag : Identifier At) (s : PlainStanding) (ps : List Problem) → AreKept s.problems ps →
    AlikePassed PlainType (structure_by_tag every known tag s) (structure_by_tag only_first known tag (record s { problems = ps }))
alike_by_tag (tag_is.Structure c n) tag s ps k = alike_passed (structure c n) (with_kept s ps k)
alike_by_tag tag_is.Refused tag s ps k = alike_nothing (with_kept s ps k)
alike_by_tag tag_is.Nothing tag s ps k = alike_passed (structure false (length s.scope.structures)) (alike_scoped (λ x. with_tag x tag.name) (with_kept s ps k))
alike_by_tag known tag s ps k = alike_nothing (alike_refusing true subset.DefinedTwice tag.place (with_kept s ps k))

pub alike_structure_named : {s t : PlainStanding} (alone : Bool) (tag : Identifier At) → Alike s t → AlikePassed PlainType (structure_named every alone tag s) (structure_named only_first alone tag t)
alike_structure_named {s = s} {t = t} alone tag a =
    for_alike (λ t. AlikePassed PlainType (structure_named every alone tag s) (structure_named only_first alone tag t)) s t
    (λ ps k. alike_by_tag (known_tag (if alone then tagged_here s.scope tag.name else tagged s.scope tag.name)) tag s ps k) a

alike_enumeration_by : {s t : PlainStanding} (at : At) (known : KnownTag) (tag : Identifier At) → Alike s t →
    AlikePassed PlainType (enumeration_by_tag every at known tag s) (enumeration_by_tag only_first at known tag t)
alike_enumeration_by at tag_is.Enumeration tag a = alike_passed int_type a
alike_enumeration_by at (tag_is.Structure c n) tag a = alike_nothing (alike_refusing true subset.DefinedTwice tag.place a)
alike_enumeration_by at tag_is.OtherType tag a = alike_nothing (alike_refusing true subset.DefinedTwice tag.place a)
alike_enumeration_by at tag_is.Refused tag a = alike_nothing a
alike_enumeration_by at known tag a = alike_nothing (alike_refusing true subset.UnknownName at a)

pub alike_enumeration_named : {s t : PlainStanding} (at : At) (tag : Identifier At) → Alike s t → AlikePassed PlainType (enumeration_named every at tag s) (enumeration_named only_first at tag t)
alike_enumeration_named {s = s} {t = t} at tag a =
    for_alike (λ t. AlikePassed PlainType (enumeration_named every at tag s) (enumeration_named only_first at tag t)) s t
    (λ ps k. alike_enumeration_by at (known_tag (tagged s.scope tag.name)) tag (with_kept s ps k)) a

-- ## A structure with a body

pub record AlikeBegun (b c : Begun) : Type 0 where
  pub number : b.number ≡ c.number
  pub standing : Alike b.standing c.standing

pub alike_anew : {s t : PlainStanding} (tag : Option Text) → Alike s t → AlikeBegun (begun_anew tag s) (begun_anew tag t)
alike_anew tag a = record {
  number = ap (λ (x : PlainScope). length x.structures) a.scope;
  standing = alike_scoped (λ x. record x { structures = with_structure x.structures tag }) a;
}

alike_with_tag : {s t : PlainStanding} (tag : Text) → Alike s t → AlikeBegun (begun_with_tag tag s) (begun_with_tag tag t)
alike_with_tag tag a = record { number = ap (λ (x : PlainScope). length x.structures) a.scope; standing = alike_scoped (λ x. with_tag x tag) a }

alike_twice : {s t : PlainStanding} (tag : Identifier At) → Alike s t → AlikeBegun (begun_twice every tag s) (begun_twice only_first tag t)
alike_twice tag a = alike_anew (Some tag.name) (alike_refusing true subset.DefinedTwice tag.place a)

alike_known : {s t : PlainStanding} (may : Bool) (n : ℕ) (tag : Identifier At) → Alike s t → AlikeBegun (begun_known every may n tag s) (begun_known only_first may n tag t)
alike_known true n tag a = record { number = refl; standing = a }
alike_known false n tag a = alike_twice tag a

alike_begun_by : (known : KnownTag) (tag : Identifier At) (s : PlainStanding) (ps : List Problem) → AreKept s.problems ps →
    AlikeBegun (begun_by_tag every known tag s) (begun_by_tag only_first known tag (record s { problems = ps }))
alike_begun_by (tag_is.Structure c n) tag s ps k = alike_known (may_complete s n) n tag (with_kept s ps k)
alike_begun_by tag_is.Nothing tag s ps k = alike_with_tag tag.name (with_kept s ps k)
alike_begun_by known tag s ps k = alike_twice tag (with_kept s ps k)

alike_begun_for : {s t : PlainStanding} (tag : Option (Identifier At)) → Alike s t → AlikeBegun (begun_for every tag s) (begun_for only_first tag t)
alike_begun_for None a = alike_anew None a
alike_begun_for {s = s} {t = t} (Some tag) a =
    for_alike (λ t. AlikeBegun (begun_for every (Some tag) s) (begun_for only_first (Some tag) t)) s t
    (λ ps k. alike_begun_by (known_tag (tagged_here s.scope tag.name)) tag s ps k) a

alike_opened : {b c : Begun} → AlikeBegun b c → AlikeBegun (opened b) (opened c)
alike_opened a = record {
  number = a.number;
  standing = record {
    scope = a.standing.scope;
    open_structures = λ i. a.standing.open_structures i ++ a.number i ∷ [];
    problems = a.standing.problems;
  };
}

pub alike_begun : {s t : PlainStanding} (tag : Option (Identifier At)) → Alike s t → AlikeBegun (begun every tag s) (begun only_first tag t)
alike_begun tag a = alike_opened (alike_begun_for tag a)

pub alike_ended : {s t : PlainStanding} → Alike s t → Alike (ended s) (ended t)
alike_ended a = record {
  scope = a.scope;
  open_structures = ap (λ (xs : List ℕ). take (length xs - 1) xs) a.open_structures;
  problems = a.problems;
}

-- ## Its end

alike_completed_small : (at : At) (n : ℕ) (members : List PlainMember) (s : PlainStanding) (ps : List Problem) → AreKept s.problems ps →
    AlikePassed PlainType (completed_small every at n members s) (completed_small only_first at n members (record s { problems = ps }))
alike_completed_small at n members s ps k =
    alike_where (nat_le (member_layout s.scope.structures members).bytes most_bytes)
    (alike_passed (structure false n) (alike_scoped (λ x. record x { structures = completed x.structures n members }) (with_kept s ps k)))
    (alike_nothing (alike_refusing true subset.BadLength at (with_kept s ps k)))

alike_completed : {s t : PlainStanding} (at : At) (n : ℕ) (members : List PlainMember) → Alike s t →
    AlikePassed PlainType (completed_by every at n members s) (completed_by only_first at n members t)
alike_completed {s = s} {t = t} at n members a =
    for_alike (λ t. AlikePassed PlainType (completed_by every at n members s) (completed_by only_first at n members t)) s t
    (λ ps k. alike_where (takes_members s.scope.structures n members) (alike_completed_small at n members s ps k) (alike_nothing (with_kept s ps k))) a

alike_unknown_tag : {s t : PlainStanding} (tag : Option (Identifier At)) → Alike s t → Alike (with_unknown_tag tag s) (with_unknown_tag tag t)
alike_unknown_tag None a = a
alike_unknown_tag (Some tag) a = alike_scoped (λ x. declared x tag.name unknown_tag) a

pub alike_structure_made : {s t : PlainStanding} (at : At) (tag : Option (Identifier At)) (n : ℕ) (members : Option (List PlainMember)) → Alike s t →
    AlikePassed PlainType (structure_made every at tag n members s) (structure_made only_first at tag n members t)
alike_structure_made at tag n None a = alike_nothing (alike_unknown_tag tag a)
alike_structure_made at tag n (Some members) a = alike_completed at n members a

-- ## Enumerations

alike_hidden_tag : {s t : PlainStanding} (tag : Option (Identifier At)) → Alike s t → Alike (with_hidden_tag tag s) (with_hidden_tag tag t)
alike_hidden_tag None a = a
alike_hidden_tag (Some tag) a = alike_scoped (λ x. hidden x tag.name) a

pub alike_with_enumeration : {s t : PlainStanding} (tag : Option (Identifier At)) → Alike s t → Alike (with_enumeration tag s) (with_enumeration tag t)
alike_with_enumeration None a = a
alike_with_enumeration (Some tag) a = alike_scoped (λ x. declared x tag.name (tagged_type int_type)) a

pub alike_enumeration_begun : {s t : PlainStanding} (tag : Option (Identifier At)) → Alike s t → Alike (enumeration_begun every tag s) (enumeration_begun only_first tag t)
alike_enumeration_begun None a = a
alike_enumeration_begun (Some tag) a = alike_hidden_tag (Some tag) (alike_refusing_in (λ x. is_some (tagged_here x tag.name)) subset.DefinedTwice tag.place a)

-- ## Members

alike_member_type : {s t : PlainStanding} (name_at : At) (d : DeclaredType) → Alike s t → AlikePassed PlainType (member_type every name_at d s) (member_type only_first name_at d t)
alike_member_type name_at (of_type u) a =
    alike_where_in (λ x. is_complete x.structures u) a (alike_passed u a) (alike_nothing (alike_refusing true subset.IncompleteType name_at a))
alike_member_type name_at (of_open_array u) a = alike_nothing a
alike_member_type name_at (of_function f) a = alike_nothing a
alike_member_type name_at (of_part_function f) a = alike_nothing a

pub alike_member : {s t : PlainStanding} (name_at : At) (o : Option DeclaredType) → Alike s t → AlikePassed PlainType (member_declared every name_at o s) (member_declared only_first name_at o t)
alike_member name_at None a = alike_nothing a
alike_member name_at (Some d) a = alike_member_type name_at d a

pub alike_width : {s t : PlainStanding} (at : At) (width : Optional At) → Alike s t → Alike (with_width every at width s) (with_width only_first at width t)
alike_width at Absent a = a
alike_width at (Present e) a = (alike_value constant_number e (alike_refusing true subset.UnionOrBitField at a)).after

pub alike_with_member : {p q : Passed PlainType} (name_at : At) (members others : Option (List PlainMember)) (name : Option (Identifier At)) → members ≡ others → AlikePassed PlainType p q →
    AlikePassed (List PlainMember) (with_member every name_at members name p) (with_member only_first name_at others name q)
alike_with_member name_at members others name e a = record {
  made = λ i. member_added (e i) name (a.made i);
  after = alike_refusing_by (is_member members name) (is_member others name) subset.DefinedTwice name_at (ap (λ m. is_member m name) e) a.after;
}

-- ## Constants of enumerations

alike_enumerator_value : {s t : PlainStanding} (next : Option ℤ) (value : Optional At) → Alike s t → AlikePassed ℤ (enumerator_value every next value s) (enumerator_value only_first next value t)
alike_enumerator_value next Absent a = alike_made next a
alike_enumerator_value next (Present e) a = alike_value constant_number e a

alike_int : {s t : PlainStanding} (at : At) (o : Option ℤ) → Alike s t → AlikePassed ℤ (int_value every at o s) (int_value only_first at o t)
alike_int at None a = alike_nothing a
alike_int at (Some z) a = alike_where (holds Int z) (alike_passed z a) (alike_nothing (alike_refusing true subset.ConstantStops at a))

pub alike_enumerator : {s t : PlainStanding} (next : Option ℤ) (name : Identifier At) (value : Optional At) → Alike s t →
    AlikePassed ℤ (enumerator_passed every next name value s) (enumerator_passed only_first next name value t)
alike_enumerator next name value a =
    let w = alike_enumerator_value next value a in
    let f = followed (AlikePassed ℤ) (int_value every name.place) (int_value only_first name.place) w (λ m. alike_int name.place m w.after) in
    record {
      made = ap value_after f.made;
      after = followed Alike (λ m s. declaring every name (enumerator_meaning m) s) (λ m s. declaring only_first name (enumerator_meaning m) s) f (λ m. alike_declaring name (enumerator_meaning m) f.after);
    }

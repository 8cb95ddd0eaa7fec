-- Tags, and structures with their members, by steps.
use Rattle.std.proofs.Common.{◌≡◌, ℕ, Bool, true, false, List, [], ◌∷◌, Option, Some, None, nat_le}
use Rattle.std.specs.Prelude.{if◌then◌else◌, ◌++◌}
use Rattle.p10_base.specs.declared.at.At.{At}
use Rattle.p10_base.specs.declared.codes.SubsetCode.TheVariants as subset
use Rattle.p10_syn.specs.declared.sign.Sign.{Sign}
use Rattle.p10_syn.specs.declared.sign.Sign.TheVariants as sign
use Rattle.p10_syn.specs.Trees.{Identifier}
use Rattle.p10_core.specs.Types.{PlainType, structure, PlainMember}
use Rattle.p10_core.specs.WholePrograms.{most_bytes}
use Rattle.p10_core.specs.Completing.{member_layout, takes_members, completed}
use Rattle.p10_elabx.specs.First.{Keep}
use Rattle.p10_elabx.specs.Scopes.{unknown_name, tagged, tagged_type, unknown_tag}
use Rattle.p10_elabx.specs.Innermost.{tagged_here}
use Rattle.p10_elabd.specs.declared.known_tag.KnownTag.{KnownTag}
use Rattle.p10_elabd.specs.declared.known_tag.KnownTag.TheVariants as tag_is
use Rattle.p10_elabd.specs.Standing.{PlainStanding, Passed, passed, refusing, nothing_made}
use Rattle.p10_elabd.specs.Tagged.{known_tag, structure_by_tag, structure_named, enumeration_by_tag, begun_twice, begun_known, begun_by_tag, begun_for, may_complete, completed_small, with_unknown_tag, structure_made, is_tag_taken, with_enumeration, enumeration_begun, Begun}
use Rattle.p10_elabd.specs.Declaring.{begun_with}
use Rattle.p10_core.specs.Rows.{int_type}
use Rattle.p10_declaration_steps.specs.Steps.{Steps, same, followed, tag_more, structure_more, structure_tagged, bodies_open, members_taken}
use Rattle.p10_declaration_steps.proofs.Steps.{over_refusing, test_either}

pub over_by_tag : (h : Keep) (k : KnownTag) (tag : Identifier At) (s : PlainStanding) → Steps h s (structure_by_tag h k tag s).after
over_by_tag h (tag_is.Structure c n) tag s = same s
over_by_tag h tag_is.Refused tag s = same s
over_by_tag h tag_is.Nothing tag s = structure_tagged tag.name s
over_by_tag h tag_is.Enumeration tag s = over_refusing h true subset.DefinedTwice tag.place s
over_by_tag h tag_is.OtherType tag s = over_refusing h true subset.DefinedTwice tag.place s
over_by_tag h tag_is.NoTag tag s = over_refusing h true subset.DefinedTwice tag.place s

pub over_structure_named : (h : Keep) (alone : Bool) (tag : Identifier At) (s : PlainStanding) → Steps h s (structure_named h alone tag s).after
over_structure_named h alone tag s = over_by_tag h (known_tag (if alone then tagged_here s.scope tag.name else tagged s.scope tag.name)) tag s

pub over_enumeration_by_tag : (h : Keep) (at : At) (k : KnownTag) (tag : Identifier At) (s : PlainStanding) → Steps h s (enumeration_by_tag h at k tag s).after
over_enumeration_by_tag h at tag_is.Enumeration tag s = same s
over_enumeration_by_tag h at (tag_is.Structure c n) tag s = over_refusing h true subset.DefinedTwice tag.place s
over_enumeration_by_tag h at tag_is.OtherType tag s = over_refusing h true subset.DefinedTwice tag.place s
over_enumeration_by_tag h at tag_is.Refused tag s = same s
over_enumeration_by_tag h at tag_is.Nothing tag s = over_refusing h true subset.UnknownName at s
over_enumeration_by_tag h at tag_is.NoTag tag s = over_refusing h true subset.UnknownName at s

pub over_twice : (h : Keep) (tag : Identifier At) (s : PlainStanding) → Steps h s (begun_twice h tag s).standing
over_twice h tag s =
    let r : PlainStanding = refusing h true subset.DefinedTwice tag.place s in
    followed (over_refusing h true subset.DefinedTwice tag.place s) (structure_more (Some tag.name) r)

pub over_known : (h : Keep) (may : Bool) (n : ℕ) (tag : Identifier At) (s : PlainStanding) → Steps h s (begun_known h may n tag s).standing
over_known h true n tag s = same s
over_known h false n tag s = over_twice h tag s

pub over_begun_by : (h : Keep) (k : KnownTag) (tag : Identifier At) (s : PlainStanding) → Steps h s (begun_by_tag h k tag s).standing
over_begun_by h (tag_is.Structure c n) tag s = over_known h (may_complete s n) n tag s
over_begun_by h tag_is.Nothing tag s = structure_tagged tag.name s
over_begun_by h tag_is.Refused tag s = over_twice h tag s
over_begun_by h tag_is.Enumeration tag s = over_twice h tag s
over_begun_by h tag_is.OtherType tag s = over_twice h tag s
over_begun_by h tag_is.NoTag tag s = over_twice h tag s

pub over_begun_for : (h : Keep) (tag : Option (Identifier At)) (s : PlainStanding) → Steps h s (begun_for h tag s).standing
over_begun_for h None s = structure_more None s
over_begun_for h (Some tag) s = over_begun_by h (known_tag (tagged_here s.scope tag.name)) tag s

pub over_begun : (h : Keep) (word : Sign) (tag : Option (Identifier At)) (s : PlainStanding) → Steps h s (begun_with h word tag s).standing
over_begun h sign.Union tag s = structure_more None s
over_begun h word tag s = followed (over_begun_for h tag s) (bodies_open ((begun_for h tag s).standing.open_structures ++ (begun_for h tag s).number ∷ []) (begun_for h tag s).standing)

-- members that may complete the structure that a body began with
over_small : (h : Keep) (at : At) (word : Sign) (tag : Option (Identifier At)) (members : List PlainMember) (s t : PlainStanding) → Steps h (begun_with h word tag s).standing t → takes_members t.scope.structures (begun_with h word tag s).number members ≡ true
    → Steps h s (completed_small h at (begun_with h word tag s).number members t).after
over_small h at word tag members s t x takes =
    let b : Begun = begun_with h word tag s in
    test_either (λ (p : Passed PlainType). Steps h s p.after) (nat_le (member_layout t.scope.structures members).bytes most_bytes)
    (passed (structure false b.number) (record t { scope = record t.scope { structures = completed t.scope.structures b.number members } })) (nothing_made (refusing h true subset.BadLength at t))
    (members_taken word tag s t members (over_begun h word tag s) x takes) (λ e. followed (over_begun h word tag s) (followed x (over_refusing h true subset.BadLength at t)))

over_unknown_tag : (h : Keep) (tag : Option (Identifier At)) (s : PlainStanding) → Steps h s (with_unknown_tag tag s)
over_unknown_tag h None s = same s
over_unknown_tag h (Some tag) s = tag_more tag.name unknown_tag s tt

-- a structure with its members, from before its body on
pub over_made : (h : Keep) (at : At) (word : Sign) (tag : Option (Identifier At)) (members : Option (List PlainMember)) (s t : PlainStanding) → Steps h (begun_with h word tag s).standing t
    → Steps h s (structure_made h at tag (begun_with h word tag s).number members t).after
over_made h at word tag None s t x = followed (over_begun h word tag s) (followed x (over_unknown_tag h tag t))
over_made h at word tag (Some members) s t x =
    let b : Begun = begun_with h word tag s in
    test_either (λ (p : Passed PlainType). Steps h s p.after) (takes_members t.scope.structures b.number members) (completed_small h at b.number members t) (nothing_made t)
    (over_small h at word tag members s t x) (λ e. followed (over_begun h word tag s) x)

pub over_with_enumeration : (h : Keep) (tag : Option (Identifier At)) (s : PlainStanding) → Steps h s (with_enumeration tag s)
over_with_enumeration h None s = same s
over_with_enumeration h (Some tag) s = tag_more tag.name (tagged_type int_type) s tt

pub over_enumeration_begun : (h : Keep) (tag : Option (Identifier At)) (s : PlainStanding) → Steps h s (enumeration_begun h tag s)
over_enumeration_begun h None s = same s
over_enumeration_begun h (Some tag) s =
    let r : PlainStanding = refusing h (is_tag_taken (Some tag) s) subset.DefinedTwice tag.place s in
    followed (over_refusing h (is_tag_taken (Some tag) s) subset.DefinedTwice tag.place s) (tag_more tag.name unknown_name r tt)

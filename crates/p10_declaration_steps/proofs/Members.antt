-- Members and constants of enumerations, by steps.
use Rattle.std.proofs.Common.{ℤ, true, Option, Some, None}
use Rattle.p10_base.specs.declared.at.At.{At}
use Rattle.p10_base.specs.declared.codes.SubsetCode.TheVariants as subset
use Rattle.p10_syn.specs.Trees.{Identifier, Optional, Absent, Present, Enumerators, NoEnumerators, MoreEnumerators, Enumerator, enumerator}
use Rattle.p10_int.specs.declared.types.IntType.TheVariants.{Int}
use Rattle.p10_int.specs.Types.{holds}
use Rattle.p10_core.specs.Rows.{is_complete}
use Rattle.p10_elabx.specs.First.{Keep}
use Rattle.p10_elabx.specs.Scopes.{tagged}
use Rattle.p10_elabd.specs.Standing.{PlainStanding, Passed, passed, refusing, nothing_made}
use Rattle.p10_elabd.specs.Expressions.{constant_number}
use Rattle.p10_elabd.specs.Tagged.{known_tag, enumeration_begun}
use Rattle.p10_elabd.specs.Members.{member_type, member_declared, with_width, enumerator_value, int_value, enumerator_meaning, enumerator_passed}
use Rattle.p10_elabd.specs.Shapes.{DeclaredType, of_type, of_open_array, of_function, of_part_function}
use Rattle.p10_elabd.specs.Declaring.{enumeration_by_name, one_enumerator_passed, enumerators_passed, first_constant, enumeration_passed}
use Rattle.p10_declaration_steps.specs.Steps.{NamesNoType, Steps, same, followed}
use Rattle.p10_declaration_steps.proofs.Steps.{over_refusing, over_declaring, over_value, test_either, either_way}
use Rattle.p10_declaration_steps.proofs.Tagging.{over_enumeration_by_tag, over_with_enumeration, over_enumeration_begun}

pub over_member_type : (h : Keep) (name_at : At) (d : DeclaredType) (s : PlainStanding) → Steps h s (member_type h name_at d s).after
over_member_type h name_at (of_type t) s = either_way (is_complete s.scope.structures t) s _ _ (same s) (over_refusing h true subset.IncompleteType name_at s)
over_member_type h name_at (of_open_array t) s = same s
over_member_type h name_at (of_function f) s = same s
over_member_type h name_at (of_part_function f) s = same s

pub over_member : (h : Keep) (name_at : At) (o : Option DeclaredType) (s : PlainStanding) → Steps h s (member_declared h name_at o s).after
over_member h name_at None s = same s
over_member h name_at (Some d) s = over_member_type h name_at d s

pub over_width : (h : Keep) (at : At) (width : Optional At) (s : PlainStanding) → Steps h s (with_width h at width s)
over_width h at Absent s = same s
over_width h at (Present e) s = followed (over_refusing h true subset.UnionOrBitField at s) (over_value h (refusing h true subset.UnionOrBitField at s) e constant_number)

pub over_enumerator_value : (h : Keep) (next : Option ℤ) (value : Optional At) (s : PlainStanding) → Steps h s (enumerator_value h next value s).after
over_enumerator_value h next Absent s = same s
over_enumerator_value h next (Present e) s = over_value h s e constant_number

pub over_int : (h : Keep) (at : At) (o : Option ℤ) (s : PlainStanding) → Steps h s (int_value h at o s).after
over_int h at None s = same s
over_int h at (Some z) s = either_way (holds Int z) s _ _ (same s) (over_refusing h true subset.ConstantStops at s)

-- what the name of a constant stands for is a value of `int`, or unknown
constant_plain : (h : Keep) (at : At) (o : Option ℤ) (s : PlainStanding) → NamesNoType (enumerator_meaning (int_value h at o s).made)
constant_plain h at None s = tt
constant_plain h at (Some z) s =
    test_either (λ (p : Passed ℤ). NamesNoType (enumerator_meaning p.made)) (holds Int z) (passed z s) (nothing_made (refusing h true subset.ConstantStops at s)) (λ e. e) (λ e. tt)

pub over_enumerator : (h : Keep) (next : Option ℤ) (name : Identifier At) (value : Optional At) (s : PlainStanding) → Steps h s (enumerator_passed h next name value s).after
over_enumerator h next name value s =
    let written : Passed ℤ = enumerator_value h next value s in
    let found : Passed ℤ = int_value h name.place written.made written.after in
    followed (over_enumerator_value h next value s)
    (followed (over_int h name.place written.made written.after) (over_declaring h name (enumerator_meaning found.made) found.after (constant_plain h name.place written.made written.after)))

pub over_one_enumerator : (h : Keep) (p : Passed ℤ) (e : Enumerator At) → Steps h p.after (one_enumerator_passed h p e).after
over_one_enumerator h p (enumerator at name value) = over_enumerator h p.made name value p.after

pub over_enumerators : (h : Keep) (p : Passed ℤ) (all : Enumerators At) → Steps h p.after (enumerators_passed h p all).after
over_enumerators h p NoEnumerators = same p.after
over_enumerators h p (MoreEnumerators e rest) = followed (over_one_enumerator h p e) (over_enumerators h (one_enumerator_passed h p e) rest)

pub over_by_name : (h : Keep) (at : At) (tag : Option (Identifier At)) (s : PlainStanding) → Steps h s (enumeration_by_name h at tag s).after
over_by_name h at None s = same s
over_by_name h at (Some tag) s = over_enumeration_by_tag h at (known_tag (tagged s.scope tag.name)) tag s

pub over_enumeration : (h : Keep) (at : At) (tag : Option (Identifier At)) (s : PlainStanding) (all : Enumerators At) → Steps h s (enumeration_passed h at tag s all).after
over_enumeration h at tag s NoEnumerators = over_by_name h at tag s
over_enumeration h at tag s (MoreEnumerators e rest) =
    let p : Passed ℤ = first_constant (enumeration_begun h tag s) in
    followed (over_enumeration_begun h tag s)
    (followed (over_enumerators h p (MoreEnumerators e rest)) (over_with_enumeration h tag (enumerators_passed h p (MoreEnumerators e rest)).after))

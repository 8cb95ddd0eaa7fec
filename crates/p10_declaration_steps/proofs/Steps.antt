-- What every part of a declaration does where it stands, by steps.
use Rattle.std.proofs.Common.{◌≡◌, refl, Bool, true, false, List, [], ◌∷◌, Option, Some, None, Ok, Err}
use Rattle.std.specs.Prelude.{if◌then◌else◌}
use Rattle.p10_base.specs.Words.{Text}
use Rattle.p10_base.specs.declared.at.At.{At}
use Rattle.p10_base.specs.declared.codes.SubsetCode.{SubsetCode}
use Rattle.p10_base.specs.declared.codes.SubsetCode.TheVariants as subset
use Rattle.p10_syn.specs.Trees.{Identifier, Expression}
use Rattle.p10_core.specs.Typed.{PlainValue}
use Rattle.p10_elabx.specs.First.{Keep, Found, Ruled, on}
use Rattle.p10_elabx.specs.Scopes.{Meaning, tagged, tagged_type, unknown_tag}
use Rattle.p10_elabd.specs.Standing.{PlainStanding, Passed, refusing, noted}
use Rattle.p10_elabd.specs.Expressions.{value_found, value_by, for_expression}
use Rattle.p10_elabd.specs.Words.{by_row}
use Rattle.p10_elabd.specs.Tags.{tags_in, with_unknown, with_tags}
use Rattle.p10_elabd.specs.Blocks.{is_taken, with_name, declaring}
use Rattle.p10_elabd.specs.Declaring.{Listing}
use Rattle.p10_declaration_steps.specs.Steps.{NamesNoType, Steps, same, followed, told, name_more, structure_tagged}

pub over_refusing : (h : Keep) (b : Bool) (code : SubsetCode) (at : At) (s : PlainStanding) → Steps h s (refusing h b code at s)
over_refusing h true code at s = told (record { code = code; at = at } ∷ []) s
over_refusing h false code at s = same s

pub over_noted : {A : Type 0} (h : Keep) (f : Found A) (s : PlainStanding) → Steps h s (noted h f s).after
over_noted h (Ok x) s = same s
over_noted h (Err rs) s = told rs s

-- a name that stands for no type
pub over_named : (h : Keep) (name : Text) (what : Meaning) (s : PlainStanding) → NamesNoType what → Steps h s (with_name s name what)
over_named h name (tagged_type t) s m = absurd m
over_named h name unknown_tag s m = absurd m
over_named h name what s m = name_more name what s m

pub over_declaring : (h : Keep) (name : Identifier At) (what : Meaning) (s : PlainStanding) → NamesNoType what → Steps h s (declaring h name what s)
over_declaring h name what s m =
    followed (over_refusing h (is_taken s.scope name.name) subset.DefinedTwice name.place s)
    (over_named h name.name what (refusing h (is_taken s.scope name.name) subset.DefinedTwice name.place s) m)

-- the structures that an expression is the first to name
over_unknown : (h : Keep) (found : Option Meaning) (s : PlainStanding) (name : Text) → Steps h s (record s { scope = with_unknown found s.scope name })
over_unknown h None s name = structure_tagged name s
over_unknown h (Some what) s name = same s

over_tags : (h : Keep) (s : PlainStanding) (names : List Text) → Steps h s (record s { scope = with_tags s.scope names })
over_tags h s [] = same s
over_tags h s (name ∷ rest) =
    followed (over_unknown h (tagged s.scope name) s name) (over_tags h (record s { scope = with_unknown (tagged s.scope name) s.scope name }) rest)

pub over_expression : (h : Keep) (s : PlainStanding) (e : Expression At) → Steps h s (for_expression s e)
over_expression h s e = over_tags h s (tags_in e)

pub over_value : {A : Type 0} (h : Keep) (s : PlainStanding) (e : Expression At) (go : PlainValue → Ruled A) → Steps h s (value_by h s e go).after
over_value h s e go = followed (over_expression h s e) (over_noted h (on (value_found h s e) go) (for_expression s e))

-- ## Both ways of a test

pub test_either : {A : Type 0} (Q : A → Type 0) (b : Bool) (x y : A) → (b ≡ true → Q x) → (b ≡ false → Q y) → Q (if b then x else y)
test_either Q true x y h k = h refl
test_either Q false x y h k = k refl

pub either_way : {A : Type 0} {h : Keep} (b : Bool) (s : PlainStanding) (p q : Passed A) → Steps h s p.after → Steps h s q.after → Steps h s (if b then p else q).after
either_way true s p q g k = g
either_way false s p q g k = k

pub listed_either : {h : Keep} (b : Bool) (s : PlainStanding) (p q : Listing) → Steps h s p.after → Steps h s q.after → Steps h s (if b then p else q).after
listed_either true s p q g k = g
listed_either false s p q g k = k

pub over_row : (h : Keep) (o : Option SubsetCode) (at : At) (s : PlainStanding) → Steps h s (by_row h o at s)
over_row h None at s = same s
over_row h (Some code) at s = over_refusing h true code at s

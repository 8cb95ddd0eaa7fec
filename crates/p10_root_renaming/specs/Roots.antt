-- What is known of the roots of two programs that is the same but for places and for the numbers of objects, literals and structures.
use Rattle.std.specs.Prelude.{◌≡◌, ℕ, Bool, List, [], ◌∷◌, map, Option}
use Rattle.p10_base.specs.Words.{Text}
use Rattle.p10_core.specs.Types.{PlainType}
use Rattle.p10_core.specs.Typed.{PlainFunction}
use Rattle.p10_heads.specs.Heads.{Heads, number_in}
use Rattle.p10_linkage.specs.Linkage.{PartType, LinkedType, a_function, an_object, a_part_function, unknown_object, Linked}
use Rattle.p10_elab.specs.Knowledge.{Known}
use Rattle.p10_renaming.specs.Renaming.{Pairing, passing, SameType, SameFunction}
use Rattle.p10_expression_renaming.specs.Knowing.{SameParameterTypes}
use Rattle.p10_declaration_renaming.specs.Standings.{Both, SameStanding, AreQuiet}

-- ## Names with linkage

-- types, as far as they are known
pub data SameKnownTypes (R : Pairing) : List (Option PlainType) → List (Option PlainType) → Type 0 where
  same_none_known : SameKnownTypes R [] []
  same_more_known : {t u : Option PlainType} {ts us : List (Option PlainType)} → Both (SameType R) t u → SameKnownTypes R ts us → SameKnownTypes R (t ∷ ts) (u ∷ us)

-- functions that are refused in part
pub record SamePart (R : Pairing) (p q : PartType) : Type 0 where
  pub parameters : SameKnownTypes R p.parameters q.parameters
  pub list : p.list ≡ q.list
  pub result : Both (SameType R) p.result q.result

pub data SameLinkedType (R : Pairing) : LinkedType → LinkedType → Type 0 where
  same_a_function : {ts us : List PlainType} {t u : PlainType} → SameParameterTypes (passing R) ts us → SameType R t u → SameLinkedType R (a_function ts t) (a_function us u)
  same_an_object : {t u : PlainType} → SameType R t u → SameLinkedType R (an_object t) (an_object u)
  same_a_part_function : {p q : PartType} → SamePart R p q → SameLinkedType R (a_part_function p) (a_part_function q)
  same_unknown_object : SameLinkedType R unknown_object unknown_object

pub record SameLinked (R : Pairing) (l m : Linked) : Type 0 where
  pub root : l.root ≡ m.root
  pub name : l.name ≡ m.name
  pub type : SameLinkedType R l.type m.type
  pub internal : l.internal ≡ m.internal
  pub defines : l.defines ≡ m.defines
  pub sensor : l.sensor ≡ m.sensor

pub data SameLinkeds (R : Pairing) : List Linked → List Linked → Type 0 where
  same_no_linked : SameLinkeds R [] []
  same_more_linked : {l m : Linked} {ls ms : List Linked} → SameLinked R l m → SameLinkeds R ls ms → SameLinkeds R (l ∷ ls) (m ∷ ms)

-- functions have the same numbers; those of objects are free
pub record SameHeads (heads others : Heads) : Type 0 where
  pub functions : (root : ℕ) (internal : Bool) (name : Text) → number_in heads.functions root internal name ≡ number_in others.functions root internal name

-- ## What is known

-- the names of functions, in program order
abbrev pub function_names : List PlainFunction → List Text
function_names functions = map (λ f. f.name) functions

-- the same stands in a root with the same number, after the same declarations with linkage and functions with the same names; objects and
-- what else is known of them are free
pub record SameKnown (R : Pairing) (last : ℕ) (k j : Known) : Type 0 where
  pub standing : SameStanding R last k.standing j.standing
  pub root : k.root ≡ j.root
  pub linked : SameLinkeds R k.linked j.linked
  pub functions : function_names k.functions ≡ function_names j.functions

pub data SameFunctions (R : Pairing) : List PlainFunction → List PlainFunction → Type 0 where
  same_no_functions : SameFunctions R [] []
  same_more_functions : {f g : PlainFunction} {fs gs : List PlainFunction} → SameFunction R f g → SameFunctions R fs gs → SameFunctions R (f ∷ fs) (g ∷ gs)

-- where nothing is refused up to the end of something in both roots, nothing was up to its start; and then something holds, and the same is
-- known at the end
abbrev pub KnownLeads : Pairing → ℕ → Type 0 → Known → Known → Known → Known → Type 0
KnownLeads R last B k j m n =
    (AreQuiet last k.standing j.standing → SameKnown R last k j) → AreQuiet last m.standing n.standing → AreQuiet last k.standing j.standing × (B × SameKnown R last m n)

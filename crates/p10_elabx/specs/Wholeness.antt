-- When what is found in an expression is whole in the scope of the expression.
use Rattle.std.specs.Prelude.{◌≡◌, ℕ, ◌<◌, ℤ, Bool, true, false, Ok, None, Some, Option, List, [], ◌∷◌, All}
use Rattle.p10_base.specs.Words.{Text}
use Rattle.p10_base.specs.declared.at.At.{At}
use Rattle.p10_int.specs.declared.types.IntType.TheVariants.{Int}
use Rattle.p10_int.specs.Types.{InRange}
use Rattle.p10_syn.specs.Trees.{Expression, expression, Form, Name, Character, Strings, Unary, Step, Binary, Assign, Conditional, Call, Index, Member, Arrow, Cast, Comma, Expressions, NoExpressions, MoreExpressions}
use Rattle.p10_core.specs.Types.{PlainType}
use Rattle.p10_core.specs.Typed.{PlainValue}
use Rattle.p10_core.specs.Rows.{is_scalar, is_integer}
use Rattle.p10_core.specs.Whole.{Surroundings, SeenVariable, SeenObject, IsWholeValue}
use Rattle.p10_elabx.specs.First.{every}
use Rattle.p10_elabx.specs.Scopes.{PlainScope, Meaning, local, object, callable, number, named}
use Rattle.p10_elabx.specs.Operands.{as_value}
use Rattle.p10_elabx.specs.Judging.{is_and, judge}

-- what the names of a scope stand for is there: variables, objects and functions with their types, and numbers of `int`. Each
-- frame variable is a scalar, and each sensor an integer
pub record Stands (c : Surroundings) (s : PlainScope) : Type 0 where
  pub structures_are : c.structures ≡ s.structures
  pub literals_unknown : c.literals ≡ None
  pub variables : (name : Text) (n : ℕ) (t : PlainType) (frame : Bool) →
      named s name ≡ Some (local n t frame) → c.variable_at n ≡ Some (record { type = t; frame = frame })
  pub objects : (name : Text) (n : ℕ) (t : PlainType) (sensor : Bool) →
      named s name ≡ Some (object n t sensor) → c.object_at n ≡ Some (record { type = t; sensor = sensor })
  pub functions : (name : Text) (n : ℕ) (parameters : List PlainType) (result : PlainType) →
      named s name ≡ Some (callable n parameters result) → c.function_at n ≡ Some (record { parameters = parameters; result = result })
  pub numbers : (name : Text) (z : ℤ) → named s name ≡ Some (number z) → InRange Int z
  pub frames : (n : ℕ) (v : SeenVariable) → c.variable_at n ≡ Some v → v.frame ≡ true → is_scalar v.type ≡ true
  pub sensors : (n : ℕ) (o : SeenObject) → c.object_at n ≡ Some o → o.sensor ≡ true → is_integer o.type ≡ true

-- whether a name stands for a frame variable
abbrev pub is_frame_meaning : Option Meaning → Bool
is_frame_meaning (Some (local n t frame)) = frame
is_frame_meaning what = false

-- whether a tree is the name of a frame variable
abbrev pub is_frame_name : PlainScope → Expression At → Bool
is_frame_name s (expression at n (Name x)) = is_frame_meaning (named s x.name)
is_frame_name s e = false

-- a text is bytes
abbrev pub AreBytes : Text → Type 0
AreBytes text = All (λ b. b < 256) text

-- each text is bytes
abbrev pub AllAreBytes : List Text → Type 0
AllAreBytes [] = Unit {0}
AllAreBytes (text ∷ rest) = AreBytes text × AllAreBytes rest

-- what is asked of a tree by itself: that `&` isn't applied to the name of a frame variable, and that literals are bytes
abbrev pub IsAllowed : PlainScope → Expression At → Type 0
IsAllowed s (expression at n (Unary word e)) = is_and word ≡ true → is_frame_name s e ≡ false
IsAllowed s (expression at n (Character text)) = AreBytes text
IsAllowed s (expression at n (Strings texts)) = AllAreBytes texts
IsAllowed s e = Unit {0}

abbrev mutual
  -- it is asked of each expression that is evaluated with one: operands of `sizeof` aren't (C99 6.5.3.4p2)
  pub AreAllowed : PlainScope → Expression At → Type 0
  AreAllowed s (expression at n f) = IsAllowed s (expression at n f) × OperandsAllowed s f

  -- of the operands of a form
  pub OperandsAllowed : PlainScope → Form At → Type 0
  OperandsAllowed s (Unary word e) = AreAllowed s e
  OperandsAllowed s (Step side word e) = AreAllowed s e
  OperandsAllowed s (Binary word a b) = AreAllowed s a × AreAllowed s b
  OperandsAllowed s (Assign word a b) = AreAllowed s a × AreAllowed s b
  OperandsAllowed s (Conditional c a b) = AreAllowed s c × AreAllowed s a × AreAllowed s b
  OperandsAllowed s (Call e all) = AreAllowed s e × EachAllowed s all
  OperandsAllowed s (Index a i) = AreAllowed s a × AreAllowed s i
  OperandsAllowed s (Member e name) = AreAllowed s e
  OperandsAllowed s (Arrow e name) = AreAllowed s e
  OperandsAllowed s (Cast t e) = AreAllowed s e
  OperandsAllowed s (Comma all) = EachAllowed s all
  OperandsAllowed s f = Unit {0}

  -- of each of the expressions
  pub EachAllowed : PlainScope → Expressions At → Type 0
  EachAllowed s NoExpressions = Unit {0}
  EachAllowed s (MoreExpressions e rest) = AreAllowed s e × EachAllowed s rest

-- a typed tree that is found is whole where the scope's names stand for what is there
abbrev pub ValuesAreWhole : Type 0
ValuesAreWhole = (c : Surroundings) (s : PlainScope) (e : Expression At) (v : PlainValue) → Stands c s → AreAllowed s e →
    (as_value s.structures (judge every s e)).found ≡ Ok v → IsWholeValue c v

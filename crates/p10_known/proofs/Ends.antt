-- Ends of statements whose ranges are of their types: the rules for parts in order.
use Rattle.std.proofs.Common.{Bool, true, false, List, Option, Some, None}
use Rattle.std.specs.Prelude.{if◌then◌else◌, IfSome}
use Rattle.std.specs.Option.{option_map}
use Rattle.p10_base.specs.declared.span.Span.{Span}
use Rattle.p10_range.specs.Ranges.{Interval}
use Rattle.p10_range.specs.Laws.{IsOfType}
use Rattle.p10_core.specs.Types.{PlainType}
use Rattle.p10_core.specs.Typed.{PlainStatements, PlainVariable}
use Rattle.p10_core.specs.Constants.{integer_of}
use Rattle.p10_absx.specs.Environments.{Environment}
use Rattle.p10_pass.specs.Scopes.{left_scope}
use Rattle.p10_pass.specs.Passing.{Left, nowhere, reached, where_going, hull_range, followed, and_then_pass, beside, with_calls, as_block}
use Rattle.p10_known.specs.Typing.{AreOfTypes, MaybeOfTypes, EndsOfTypes}
use Rattle.p10_known.proofs.Ranges.{hull_of_type}
use Rattle.p10_known.proofs.Environments.{left_types, reached_types}

module _ (variables : List PlainVariable) (result : PlainType) where
  abbrev Ends : Left → Type 0
  Ends a = EndsOfTypes variables result a

  pub nowhere_ends : EndsOfTypes variables result nowhere
  nowhere_ends = record { normal = tt; breaks = tt; continues = tt; returns = tt; returned = tt }

  pub reached_ends : (o : Option Environment) → MaybeOfTypes variables o → EndsOfTypes variables result (reached o)
  reached_ends o h = record { normal = h; breaks = tt; continues = tt; returns = tt; returned = tt }

  range_hull : (a b : Option Interval) → IfSome a (IsOfType (integer_of result)) → IfSome b (IsOfType (integer_of result)) → IfSome (hull_range a b) (IsOfType (integer_of result))
  range_hull None b h k = k
  range_hull (Some r) None h k = h
  range_hull (Some r) (Some s) h k = hull_of_type (integer_of result) r s h k

  pub followed_ends : (a b : Left) → Ends a → Ends b → EndsOfTypes variables result (followed a b)
  followed_ends a b h k = record {
    normal = k.normal;
    breaks = reached_types variables a.breaks b.breaks h.breaks k.breaks;
    continues = reached_types variables a.continues b.continues h.continues k.continues;
    returns = reached_types variables a.returns b.returns h.returns k.returns;
    returned = range_hull a.returned b.returned h.returned k.returned;
  }

  pub beside_ends : (a b : Left) → Ends a → Ends b → EndsOfTypes variables result (beside a b)
  beside_ends a b h k = record {
    normal = reached_types variables a.normal b.normal h.normal k.normal;
    breaks = reached_types variables a.breaks b.breaks h.breaks k.breaks;
    continues = reached_types variables a.continues b.continues h.continues k.continues;
    returns = reached_types variables a.returns b.returns h.returns k.returns;
    returned = range_hull a.returned b.returned h.returned k.returned;
  }

  pub calls_ends : (names : List Span) (a : Left) → Ends a → EndsOfTypes variables result (with_calls names a)
  calls_ends names a h = record { normal = h.normal; breaks = h.breaks; continues = h.continues; returns = h.returns; returned = h.returned }

  pub going_ends : (o : Option Environment) (go : Environment → Left) → MaybeOfTypes variables o → ((e : Environment) → AreOfTypes variables e → Ends (go e)) → EndsOfTypes variables result (where_going o go)
  going_ends None go h k = nowhere_ends
  going_ends (Some e) go h k = k e h

  pub then_ends : (a : Left) (go : Environment → Left) → Ends a → ((e : Environment) → AreOfTypes variables e → Ends (go e)) → EndsOfTypes variables result (and_then_pass a go)
  then_ends a go h k = followed_ends a (where_going a.normal go) h (going_ends a.normal go h.normal k)

  pub map_types : (f : Environment → Environment) (o : Option Environment) → ((e : Environment) → AreOfTypes variables e → AreOfTypes variables (f e)) → MaybeOfTypes variables o → MaybeOfTypes variables (option_map f o)
  map_types f None k h = tt
  map_types f (Some e) k h = k e h

  pub block_ends : (xs : PlainStatements) (a : Left) → Ends a → EndsOfTypes variables result (as_block xs a)
  block_ends xs a h = record {
    normal = map_types (left_scope xs) a.normal (left_types variables xs) h.normal;
    breaks = map_types (left_scope xs) a.breaks (left_types variables xs) h.breaks;
    continues = map_types (left_scope xs) a.continues (left_types variables xs) h.continues;
    returns = map_types (left_scope xs) a.returns (left_types variables xs) h.returns;
    returned = h.returned;
  }

  pub if_types : (b : Bool) (x y : Option Environment) → MaybeOfTypes variables x → MaybeOfTypes variables y → MaybeOfTypes variables (if b then x else y)
  if_types true x y h k = h
  if_types false x y h k = k

  pub if_ends : (b : Bool) (x y : Left) → Ends x → Ends y → EndsOfTypes variables result (if b then x else y)
  if_ends true x y h k = h
  if_ends false x y h k = k

-- Pointers that are followed, and declarators of pointers (Holzmann's rule 9).
use Rattle.std.specs.Prelude.{Bool, true, false, ◌||◌, ◌&&◌}
use Rattle.p10_base.specs.declared.at.At.{At}
use Rattle.p10_syn.specs.declared.sign.Sign.{Sign}
use Rattle.p10_syn.specs.declared.sign.Sign.TheVariants as sign
use Rattle.p10_syn.specs.Trees.{Expression, expression, Form, Unary, Binary, Index, Member, Arrow, Cast, Declarator, Named, Unnamed, Pointer, Parenthesised, Array, Function}

-- whether an operator is `*`
abbrev pub is_star : Sign → Bool
is_star sign.Star = true
is_star _ = false

-- whether an operator with two operands is `+` or `-`, which take pointers (C99 6.5.6)
abbrev pub is_additive : Sign → Bool
is_additive sign.Plus = true
is_additive sign.Minus = true
is_additive _ = false

-- whether a pointer, followed through `.`, what is indexed, casts and the operands of `+` and `-`, meets a `*` or `->`
abbrev mutual
  pub meets_dereference : Expression At → Bool
  meets_dereference (expression p n f) = form_meets_dereference f

  pub form_meets_dereference : Form At → Bool
  form_meets_dereference (Unary word t) = is_star word
  form_meets_dereference (Arrow t x) = true
  form_meets_dereference (Member t x) = meets_dereference t
  form_meets_dereference (Index l r) = meets_dereference l
  form_meets_dereference (Cast k t) = meets_dereference t
  form_meets_dereference (Binary word l r) = is_additive word && (meets_dereference l || meets_dereference r)
  form_meets_dereference f = false

-- whether an expression is a `*` or `->` whose pointer meets another one (C99 6.5.2.3, 6.5.3.2)
abbrev pub dereferences_twice : Expression At → Bool
dereferences_twice (expression p n (Unary word t)) = is_star word && meets_dereference t
dereferences_twice (expression p n (Arrow t x)) = meets_dereference t
dereferences_twice t = false

-- whether `*` stands in a declarator itself or in its parts in parentheses (C99 6.7.5.1)
abbrev pub has_star : Declarator At → Bool
has_star (Named x) = false
has_star (Unnamed p) = false
has_star (Pointer p qs d) = true
has_star (Parenthesised p d) = has_star d
has_star (Array p d b size) = has_star d
has_star (Function p d b ps ellipsis) = has_star d

-- whether a declarator says pointer last of its name, read outward
abbrev pub ends_as_pointer : Declarator At → Bool
ends_as_pointer (Pointer p qs d) = true
ends_as_pointer (Parenthesised p d) = ends_as_pointer d
ends_as_pointer d = false

-- whether a declarator says of its name, or of what its name leads to, that it is a pointer to a function (C99 6.7.5.3)
abbrev pub points_to_function : Declarator At → Bool
points_to_function (Named x) = false
points_to_function (Unnamed p) = false
points_to_function (Pointer p qs d) = points_to_function d
points_to_function (Parenthesised p d) = points_to_function d
points_to_function (Array p d b size) = points_to_function d
points_to_function (Function p d b ps ellipsis) = ends_as_pointer d || points_to_function d

-- where a declarator stands, with all of its words
abbrev pub declarator_place : Declarator At → At
declarator_place (Named x) = x.place
declarator_place (Unnamed p) = p
declarator_place (Pointer p qs d) = p
declarator_place (Parenthesised p d) = p
declarator_place (Array p d b size) = p
declarator_place (Function p d b ps ellipsis) = p

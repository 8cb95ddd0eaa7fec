-- Domains: what may be known of a function's variables, as a record of what is done with it.
use Rattle.std.specs.Prelude.{ℕ, Bool, true, false, Option}
use Rattle.p10_core.specs.Typed.{PlainValue, PlainStatementForm, set, update, copy, evaluate, asserts, declare, declare_static, empty, mark, PlainStatements}

-- the operations of a domain (Cousot and Cousot, "Abstract interpretation", 1977): each gives what is known afterwards, or nothing where
-- no state comes there
pub record Operations (K : Type 0) : Type 0 where
  -- a statement without parts is executed
  pub after : PlainStatementForm → K → Option K
  -- a value is true, or false
  pub assume : Bool → PlainValue → K → Option K
  -- whether a value has any number at all
  pub has_value : PlainValue → K → Bool
  -- one of two is known
  pub hull : K → K → K
  -- the variables that statements declare themselves, not in a block in them, go out of scope
  pub left_scope : PlainStatements → K → K
  -- marked variables may have changed
  pub forget : (ℕ → Bool) → K → K

-- whether a statement has no parts and goes on with the next one: an expression, a declaration, the empty statement or a mark (C99 6.8.3)
abbrev pub is_simple : PlainStatementForm → Bool
is_simple (set p v) = true
is_simple (update kind op t p v) = true
is_simple (copy p q) = true
is_simple (evaluate v) = true
is_simple (asserts call v) = true
is_simple (declare n initializer) = true
is_simple (declare_static n) = true
is_simple empty = true
is_simple (mark kind) = true
is_simple form = false

-- Reading a condition from the left, by precedence climbing: an operand, then operators that bind tightly enough with
-- their right operands, then `?:`.
use Rattle.std.specs.Prelude.{ℤ, ℕ, zero, suc, ◌-◌, nat_le, max, List, [], ◌∷◌, drop, Bool, true, false, Option, Some, None, option_map, option_and_then, if◌then◌else◌, codes}
use Rattle.p10_int.specs.declared.operators.UnOp.{UnOp}
use Rattle.p10_direct.specs.declared.operator.Binary.{Binary}
use Rattle.p10_direct.specs.Tokens.{Token}
use Rattle.p10_direct.specs.private.Signs.{is_mark, sign_of, binary_of}
use Rattle.p10_direct.specs.Operators.{level_of_binary}
use Rattle.p10_direct.specs.Constants.{Constant, constant_of}
use Rattle.p10_direct.specs.Values.{Value, constant_value, applied, joined, chosen}

-- what to make of the forms of a condition
pub record Algebra (A : Type 0) : Type 0 where
  pub single : Token → Constant → A
  pub grouped : A → A
  pub apply : UnOp → A → A
  pub join : Binary → A → A → A
  pub choose : A → A → A → A

-- their values
abbrev pub values : Algebra Value
values = record { single = λ token constant. constant_value constant; grouped = λ v. v; apply = applied; join = joined; choose = chosen }

-- what was read, its depth, and what stands after it
pub record Found (A : Type 0) : Type 0 where
  pub what : A
  pub depth : ℕ
  pub rest : List Token

-- the first word of an operand
pub data Start : Type 0 where
  -- `(`
  Group : Start
  -- an operator before its operand
  Sign : UnOp → Start
  -- a constant, which is the whole operand
  Lone : Constant → Start
  -- none of these
  Nothing : Start

-- how an operand begins with a word, by the constant that the word is, if any
abbrev pub lone_or_nothing : Option Constant → Start
lone_or_nothing (Some constant) = Lone constant
lone_or_nothing None = Nothing

-- how it begins with a word, by the operator before an operand that the word is, or else by its constant
abbrev pub sign_or_lone : Option UnOp → Option Constant → Start
sign_or_lone (Some op) constant = Sign op
sign_or_lone None constant = lone_or_nothing constant

-- how an operand begins with this word: `(`, an operator before an operand, or a constant (C99 6.5.1, 6.5.3)
abbrev pub start_of : Token → Start
start_of token = if is_mark (codes "(") token then Group else sign_or_lone (sign_of token) (constant_of token)

-- how an operand begins with the first of the words
abbrev pub start_at : List Token → Start
start_at [] = Nothing
start_at (token ∷ tokens) = start_of token

-- the first word is this punctuator
abbrev pub heads : List ℕ → List Token → Bool
heads text [] = false
heads text (token ∷ tokens) = is_mark text token

-- the operator, if it binds at least as tightly as the level says
abbrev pub if_level : ℕ → Option Binary → Option Binary
if_level level None = None
if_level level (Some op) = if nat_le level (level_of_binary op) then Some op else None

-- the first word is an operator between operands that binds at least as tightly as the level says
abbrev pub operator_at : ℕ → List Token → Option Binary
operator_at level [] = None
operator_at level (token ∷ tokens) = if_level level (binary_of token)

-- a reader of conditions of at least this level
abbrev pub Reader : Type 0 → Type 0
Reader A = ℕ → List Token → Option (Found A)

module _ {A : Type 0} (algebra : Algebra A) where
  -- an operand in parentheses, by what was read after its `(`: a `)` has to follow, and the depth is one more
  abbrev pub closed : Found A → Option (Found A)
  closed f = if heads (codes ")") f.rest then Some (record { what = algebra.grouped f.what; depth = suc f.depth; rest = drop 1 f.rest }) else None

  -- an operator before an operand that was read: the depth is one more
  abbrev pub signed : UnOp → Found A → Found A
  signed op f = record { what = algebra.apply op f.what; depth = suc f.depth; rest = f.rest }

  -- an operand by its first word, and how that begins one; `tokens` stand after it, and `inner` reads a whole condition
  -- after `(`, and after an operator another operand, whose level is 11
  abbrev pub begun : Reader A → Token → Start → List Token → Option (Found A)
  begun inner token Group tokens = option_and_then closed (inner 0 tokens)
  begun inner token (Sign op) tokens = option_map (signed op) (inner 11 tokens)
  begun inner token (Lone constant) tokens = Some (record { what = algebra.single token constant; depth = 1; rest = tokens })
  begun inner token Nothing tokens = None

  -- an operand
  abbrev pub operand : Reader A → List Token → Option (Found A)
  operand inner [] = None
  operand inner (token ∷ tokens) = begun inner token (start_of token) tokens

  -- an operator between two operands that were read: it is one deeper than the deeper of them
  abbrev pub both_sides : Binary → Found A → Found A → Found A
  both_sides op left right = record { what = algebra.join op left.what right.what; depth = suc (max left.depth right.depth); rest = right.rest }

  -- what is too deep is no condition
  abbrev pub kept : ℕ → (Found A → Option (Found A)) → Found A → Option (Found A)
  kept budget more f = if nat_le f.depth budget then more f else None

  -- a left operand with the operator after it, if there is one. Its right operand has to bind more tightly, so
  -- operators of one level group from the left; `more` goes on after both where they are at most `budget` deep
  abbrev pub chained : ℕ → (Found A → Option (Found A)) → Reader A → Found A → Option Binary → Option (Found A)
  chained budget more inner left None = Some left
  chained budget more inner left (Some op) = option_and_then (λ right. kept budget more (both_sides op left right)) (inner (suc (level_of_binary op)) (drop 1 left.rest))

  -- a left operand after which no operator may stand any more: nothing is read where one does
  abbrev pub ends_here : Found A → Option Binary → Option (Found A)
  ends_here left None = Some left
  ends_here left (Some op) = None

  -- the operators after a left operand, at most `n` of them, each with its right operand
  abbrev pub chain : ℕ → ℕ → ℕ → Reader A → Found A → Option (Found A)
  chain zero budget level inner left = ends_here left (operator_at level left.rest)
  chain (suc n) budget level inner left = chained budget (λ f. chain n budget level inner f) inner left (operator_at level left.rest)

  -- `?:` with a test and two branches that were read: it is one deeper than the deepest of them (C99 6.5.15)
  abbrev pub three_parts : Found A → Found A → Found A → Found A
  three_parts test first second = record { what = algebra.choose test.what first.what second.what; depth = suc (max test.depth (max first.depth second.depth)); rest = second.rest }

  -- `?:` from after its first branch on: a `:` has to follow and then the second branch, and the whole
  -- is at most `budget` deep
  abbrev pub second_branch : ℕ → Reader A → Found A → Found A → Option (Found A)
  second_branch budget inner test first =
      if heads (codes ":") first.rest
      then option_and_then (λ second. kept budget (λ f. Some f) (three_parts test first second)) (inner 0 (drop 1 first.rest))
      else None

  -- `?` and two branches, or nothing more
  abbrev pub choice : ℕ → Reader A → Found A → Option (Found A)
  choice budget inner test = if heads (codes "?") test.rest then option_and_then (second_branch budget inner test) (inner 0 (drop 1 test.rest)) else Some test

  -- what was read with its operators, and at level 0 with a `?` and its branches too, for `?:` binds least (C99 6.5.15)
  abbrev pub ended : ℕ → ℕ → Reader A → Found A → Option (Found A)
  ended budget zero inner f = choice budget inner f
  ended budget (suc level) inner f = Some f

  -- a condition of at least this level from after its first operand on; each operator makes it deeper, so no more of
  -- them follow than `budget` has depth left
  abbrev pub behind_left : ℕ → ℕ → Reader A → Found A → Option (Found A)
  behind_left budget level inner f = option_and_then (ended budget level inner) (chain (budget - f.depth) budget level inner f)

  -- a condition of at least this level and at most this depth, from the first word on
  unfoldable pub climb : ℕ → Reader A
  climb zero level tokens = None
  climb (suc budget) level tokens = option_and_then (behind_left (suc budget) level (climb budget)) (operand (climb budget) tokens)

-- whether there are no words
abbrev pub is_nil : List Token → Bool
is_nil [] = true
is_nil (token ∷ tokens) = false

-- the value of what was read, if nothing stands after it
abbrev pub number_of : Option (Found Value) → Option ℤ
number_of None = None
number_of (Some f) = if is_nil f.rest then f.what.value else None

-- The conditions of `#if`: trees, the words that spell them, their depth and their truth (C99 6.10.1, 6.6, 6.5.15).
use Rattle.std.specs.Prelude.{ℤ, ℕ, ◌≡◌, suc, max, ◌≤◌, ◌<◌, List, [], ◌∷◌, Bool, not, Some, codes}
use Rattle.p10_int.specs.declared.operators.UnOp.{UnOp}
use Rattle.p10_base.specs.Words.{PlainWord}
use Rattle.p10_direct.specs.declared.operator.Binary.{Binary}
use Rattle.p10_direct.specs.Tokens.{Token, tokens_of, sign_token}
use Rattle.p10_direct.specs.Operators.{sign_text, binary_text, level_of_binary}
use Rattle.p10_direct.specs.Constants.{Constant, constant_of}
use Rattle.p10_direct.specs.Values.{Value, constant_value, applied, joined, chosen, is_zero}

-- the tree of a condition
pub data Condition : Type 0 where
  -- a word, and the constant that it is
  Single : Token → Constant → Condition
  -- one in parentheses
  Grouped : Condition → Condition
  -- an operator before its operand
  Applied : UnOp → Condition → Condition
  -- an operator between its operands
  Joined : Binary → Condition → Condition → Condition
  -- `?:`
  Chosen : Condition → Condition → Condition → Condition

-- ## Spelling

-- how tightly a condition holds together: `?:` least, then the operators between operands, then all others
abbrev pub level_of : Condition → ℕ
level_of (Single token constant) = 11
level_of (Grouped inner) = 11
level_of (Applied op operand) = 11
level_of (Joined op left right) = level_of_binary op
level_of (Chosen test first second) = 0

-- the words of a condition, and then the rest
abbrev pub spell : Condition → List Token → List Token
spell (Single token constant) rest = token ∷ rest
spell (Grouped inner) rest = sign_token (codes "(") ∷ spell inner (sign_token (codes ")") ∷ rest)
spell (Applied op operand) rest = sign_token (sign_text op) ∷ spell operand rest
spell (Joined op left right) rest = spell left (sign_token (binary_text op) ∷ spell right rest)
spell (Chosen test first second) rest = spell test (sign_token (codes "?") ∷ spell first (sign_token (codes ":") ∷ spell second rest))

-- the tree has the form of the grammar: its words are constants; operators bind by their levels, and those of one level to the
-- left; the middle of `?:` may be any condition (C99 6.5.3, 6.5.5 to 6.5.15)
abbrev pub IsFormed : Condition → Type 0
IsFormed (Single token constant) = constant_of token ≡ Some constant
IsFormed (Grouped inner) = IsFormed inner
IsFormed (Applied op operand) = IsFormed operand × (11 ≤ level_of operand)
IsFormed (Joined op left right) = IsFormed left × IsFormed right × (level_of_binary op ≤ level_of left) × (level_of_binary op < level_of right)
IsFormed (Chosen test first second) = IsFormed test × IsFormed first × IsFormed second × (1 ≤ level_of test)

-- these words spell the condition
pub record SpellsCondition (words : List PlainWord) (tree : Condition) : Type 0 where
  pub formed : IsFormed tree
  pub spelled : tokens_of words ≡ spell tree []

-- ## Depth

-- 1 for a word, and one more than the deepest part for an operator or a pair of parentheses
abbrev pub depth_of : Condition → ℕ
depth_of (Single token constant) = 1
depth_of (Grouped inner) = suc (depth_of inner)
depth_of (Applied op operand) = suc (depth_of operand)
depth_of (Joined op left right) = suc (max (depth_of left) (depth_of right))
depth_of (Chosen test first second) = suc (max (depth_of test) (max (depth_of first) (depth_of second)))

-- ## Value and truth

-- the value of a condition, by the values of its parts (C99 6.10.1p4)
abbrev pub value_of : Condition → Value
value_of (Single token constant) = constant_value constant
value_of (Grouped inner) = value_of inner
value_of (Applied op operand) = applied op (value_of operand)
value_of (Joined op left right) = joined op (value_of left) (value_of right)
value_of (Chosen test first second) = chosen (value_of test) (value_of first) (value_of second)

-- the words are a condition of depth 512 at most, whose value doesn't stop and has this truth (C99 6.10.1p4)
pub record HasTruth (words : List PlainWord) (truth : Bool) : Type 0 where
  pub tree : Condition
  pub spells : SpellsCondition words tree
  pub shallow : depth_of tree ≤ 512
  pub number : ℤ
  pub value : (value_of tree).value ≡ Some number
  pub truth_is : truth ≡ not (is_zero number)

-- words spell one condition at most
abbrev pub ConditionsAreUnique : Type 0
ConditionsAreUnique = (words : List PlainWord) (this that : Condition) → SpellsCondition words this → SpellsCondition words that → this ≡ that

-- Small trees, by which laws are worked out by hand. They stand nowhere.
use Rattle.std.specs.Prelude.{List, [], ◌∷◌, false, None, codes}
use Rattle.p10_base.specs.Words.{Text}
use Rattle.p10_base.specs.declared.at.At.{At}
use Rattle.p10_syn.specs.declared.sign.Sign.{Sign}
use Rattle.p10_syn.specs.declared.sign.Sign.TheVariants as sign
use Rattle.p10_syn.specs.Places.{nowhere}
use Rattle.p10_syn.specs.Trees.{Identifier, Expression, expression, Form, Name, Number, Unary, Binary, Call, Member, Arrow, Absent, Present, MoreSpecifiers, NoSpecifiers, Specifiers, Keyword, Declarator, Named, Pointer, Parenthesised, Array, Function, NoParameters, Statement, Evaluate, For, Declare, statement_row, expression_row, External, Defines}

-- a name
abbrev pub identifier_tree : Text → Identifier At
identifier_tree text = record { place = nowhere; name = text }

-- an expression of this form, without parentheses
abbrev pub form_tree : Form At → Expression At
form_tree f = expression nowhere 0 f

-- `a`, `p`, `q`, `x`
abbrev pub name_tree : Text → Expression At
name_tree text = form_tree (Name (identifier_tree text))

-- `1`
abbrev pub one_tree : Expression At
one_tree = form_tree (Number (codes "1"))

-- a call of a name with arguments
abbrev pub called_tree : Text → List (Expression At) → Expression At
called_tree text arguments = form_tree (Call (name_tree text) (expression_row arguments))

-- `assert(t)`
abbrev pub assert_tree : Expression At → Expression At
assert_tree t = called_tree (codes "assert") (t ∷ [])

-- `c_assert(t)`
abbrev pub c_assert_tree : Expression At → Expression At
c_assert_tree t = called_tree (codes "c_assert") (t ∷ [])

-- an operator between two operands
abbrev pub binary_tree : Sign → Expression At → Expression At → Expression At
binary_tree word l r = form_tree (Binary word l r)

-- `*t`
abbrev pub star_tree : Expression At → Expression At
star_tree t = form_tree (Unary sign.Star t)

-- `t->x`
abbrev pub arrow_tree : Expression At → Expression At
arrow_tree t = form_tree (Arrow t (identifier_tree (codes "x")))

-- `t.x`
abbrev pub member_tree : Expression At → Expression At
member_tree t = form_tree (Member t (identifier_tree (codes "x")))

-- `int`
abbrev pub int_words : Specifiers At
int_words = MoreSpecifiers (Keyword nowhere sign.Int) NoSpecifiers

-- the declarator `p`
abbrev pub named_tree : Declarator At
named_tree = Named (identifier_tree (codes "p"))

-- `*d`
abbrev pub pointer_tree : Declarator At → Declarator At
pointer_tree d = Pointer nowhere [] d

-- `(d)`
abbrev pub grouped_tree : Declarator At → Declarator At
grouped_tree d = Parenthesised nowhere d

-- `d()`
abbrev pub function_tree : Declarator At → Declarator At
function_tree d = Function nowhere d nowhere NoParameters false

-- `d[1]`
abbrev pub array_tree : Declarator At → Declarator At
array_tree d = Array nowhere d nowhere (Present one_tree)

-- `t;`
abbrev pub evaluated_tree : Expression At → Statement At
evaluated_tree t = Evaluate nowhere t

-- `int p;`
abbrev pub declared_tree : Statement At
declared_tree = Declare (record { place = nowhere; specifiers = int_words; declarators = (record { place = nowhere; declarator = named_tree; initial = None }) ∷ [] })

-- `for (start; ; ) body`, or `for (start ; ) body` where the start is a declaration
abbrev pub for_tree : Statement At → Statement At → Statement At
for_tree start body = For nowhere nowhere start Absent Absent body

-- `int name() { .. }`
abbrev pub definition_tree : Text → List (Statement At) → External At
definition_tree text body = Defines (record {
  place = nowhere;
  landmarks = record { whole = nowhere; first_word = nowhere; brace = nowhere; last_word = nowhere };
  specifiers = int_words;
  declarator = function_tree (Named (identifier_tree text));
  body_place = nowhere;
  body = statement_row body;
})

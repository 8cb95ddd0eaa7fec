-- What declarations and statements begin with.
use Rattle.std.proofs.Common.{◌≡◌, zero, suc, ◌≤◌, List, [], ◌∷◌, Bool, true, false, ◌&&◌, not, cond, refl, sym, ◌∙◌, ap, arith, Option, Some, None}
use Rattle.std.proofs.lemmas.Bool.{false≢true}
use Rattle.p10_syn.specs.declared.sign.Sign.{Sign}
use Rattle.p10_syn.specs.declared.sign.Sign.TheVariants as sign
use Rattle.p10_syn.specs.declared.place.Side.TheVariants.{Before, After}
use Rattle.p10_syn.specs.declared.setting.Setting.TheVariants.{Outside}
use Rattle.p10_syn.specs.declared.setting.Said.{Said}
use Rattle.p10_syn.specs.declared.setting.Said.TheVariants.{Nothing}
use Rattle.p10_syn.specs.Signs.{same_sign}
use Rattle.p10_syn.specs.Symbols.{Symbol, Fixed}
use Rattle.p10_syn.specs.Symbols as symbol
use Rattle.p10_syn.specs.Scopes.{Scope, is_type}
use Rattle.p10_syn.specs.Precedence.{binary_level, is_step, is_assign}
use Rattle.p10_syn.specs.Spelling.{spell, spell_form, spell_specifiers, spell_declarator, spell_initial, spell_more_declarators, spell_declarators, spell_declaration, spell_statement, spell_statements}
use Rattle.p10_syn.specs.Forms.{HasSpecifiers, AreSpecifiers, IsExpression, IsForm}
use Rattle.p10_syn.specs.StatementForms.{IsDeclaration, Item, Part, IsStatement, AreItems}
use Rattle.p10_syn.specs.Trees.{Bare, Expression, expression, Form, Name, Number, Character, Strings, Unary, Step, Binary, Assign, Conditional, Call, Index, Member, Arrow, Cast, SizeofExpression, SizeofType, Comma, NoExpressions, MoreExpressions, Specifiers, NoSpecifiers, MoreSpecifiers, Keyword, Typedef, Structure, Enumeration, Declarator, Named, Unnamed, Pointer, Parenthesised, Array, Function, Initializer, InitDeclarator, Declaration, Statement, Empty, Evaluate, Block, If, IfElse, Switch, While, Do, For, Case, Default, Label, Goto, Break, Continue, Return, Declare, Pragma, Statements, NoStatements, MoreStatements}
use Rattle.p10_pexpr.specs.Heads.{heads}
use Rattle.p10_pexpr.specs.Tables.{start_of, is_specifier_start, begins_specifiers}
use Rattle.p10_pexpr.proofs.SameSigns.{same_is}
use Rattle.p10_pexpr.proofs.Tools.{and_false}
use Rattle.p10_pexpr.proofs.Marks.{is_start, begins_expression, begins_no, no_specifiers}
use Rattle.p10_pexpr.proofs.FirstWords.{first_is, specifiers_begin}
use Rattle.p10_parse.specs.declared.way.Way.TheVariants.{Labels, Values}
use Rattle.p10_parse.specs.Ways.{way_of_sign, is_label, way_at, begins_declaration}

-- ## Expressions

value_sign : (s : Sign) → is_start (start_of s) ≡ true → way_of_sign s ≡ Values
value_sign sign.Open h = refl
value_sign sign.And h = refl
value_sign sign.Star h = refl
value_sign sign.Plus h = refl
value_sign sign.Minus h = refl
value_sign sign.Tilde h = refl
value_sign sign.Not h = refl
value_sign sign.Increment h = refl
value_sign sign.Decrement h = refl
value_sign sign.Sizeof h = refl
value_sign _ h = absurd (false≢true h)

-- what begins as an expression and no label is a statement of an expression
pub value_way : (names : Scope) (symbols : List Symbol) → begins_expression names symbols ≡ true → is_label symbols ≡ false → way_at symbols ≡ Values
value_way names [] starts off = refl
value_way names (symbol.Name x ∷ rest) starts off = ap (λ b. cond b Labels Values) off
value_way names (Fixed s ∷ rest) starts off = value_sign s starts
value_way names (_ ∷ rest) starts off = refl

join_no_colon : (s : Sign) → 4 ≤ binary_level s → same_sign s sign.Colon ≡ false
join_no_colon sign.Colon h = absurd (omega (arith, h))
join_no_colon _ h = refl

assign_no_colon : (s : Sign) → is_assign s ≡ true → same_sign s sign.Colon ≡ false
assign_no_colon sign.Colon h = absurd (false≢true h)
assign_no_colon _ h = refl

step_no_colon : (s : Sign) → is_step s ≡ true → same_sign s sign.Colon ≡ false
step_no_colon sign.Colon h = absurd (false≢true h)
step_no_colon _ h = refl

-- the words of an expression begin with no label
mutual
  pub no_label : (t : Expression Bare) (names : Scope) (rest : List Symbol) → IsExpression names t → heads sign.Colon rest ≡ false → is_label (spell t rest) ≡ false
  no_label (expression p zero f) names rest h off = form_no_label f names rest h off
  no_label (expression p (suc n) f) names rest h off = refl

  form_no_label : (f : Form Bare) (names : Scope) (rest : List Symbol) → IsForm names f → heads sign.Colon rest ≡ false → is_label (spell_form f rest) ≡ false
  form_no_label (Name x) names rest h off = off
  form_no_label (Number x) names rest h off = refl
  form_no_label (Character x) names rest h off = refl
  form_no_label (Strings []) names rest h off = absurd h
  form_no_label (Strings (x ∷ xs)) names rest h off = refl
  form_no_label (Unary s t) names rest h off = refl
  form_no_label (Step Before s t) names rest h off = refl
  form_no_label (Step After s t) names rest h off = no_label t names _ h.1 (step_no_colon s h.0)
  form_no_label (Binary s l r) names rest h off = no_label l names _ h.1 (join_no_colon s h.0)
  form_no_label (Assign s l r) names rest h off = no_label l names _ h.1 (assign_no_colon s h.0)
  form_no_label (Conditional a b c) names rest h off = no_label a names _ h.0 refl
  form_no_label (Call f ts) names rest h off = no_label f names _ h.0 refl
  form_no_label (Index l r) names rest h off = no_label l names _ h.0 refl
  form_no_label (Member t x) names rest h off = no_label t names _ h.0 refl
  form_no_label (Arrow t x) names rest h off = no_label t names _ h.0 refl
  form_no_label (Cast k t) names rest h off = refl
  form_no_label (SizeofExpression t) names rest h off = refl
  form_no_label (SizeofType k) names rest h off = refl
  form_no_label (Comma NoExpressions) names rest h off = absurd h.1
  form_no_label (Comma (MoreExpressions t NoExpressions)) names rest h off = absurd h.1
  form_no_label (Comma (MoreExpressions t (MoreExpressions u us))) names rest h off = no_label t names _ h.0.0 refl

-- ## Declarations

specifier_apart : (s other : Sign) (b : Bool) → same_sign other s ≡ b → is_specifier_start other ≡ true → is_specifier_start s ≡ false → b ≡ false
specifier_apart s other true same starts off = absurd (false≢true (sym off ∙ ap is_specifier_start (sym (same_is other s same)) ∙ starts))
specifier_apart s other false same starts off = refl

-- specifiers begin with no sign that begins none
pub specifiers_no : (s : Sign) (names : Scope) (symbols : List Symbol) → begins_specifiers names symbols ≡ true → is_specifier_start s ≡ false → heads s symbols ≡ false
specifiers_no s names [] h off = refl
specifiers_no s names (Fixed other ∷ rest) h off = specifier_apart s other (same_sign other s) refl h off
specifiers_no s names (_ ∷ rest) h off = refl

declarator_no_colon : (d : Declarator Bare) (rest : List Symbol) → heads sign.Colon rest ≡ false → heads sign.Colon (spell_declarator d rest) ≡ false
declarator_no_colon (Named x) rest h = refl
declarator_no_colon (Unnamed p) rest h = h
declarator_no_colon (Pointer p qs d) rest h = refl
declarator_no_colon (Parenthesised p d) rest h = refl
declarator_no_colon (Array p d b length) rest h = declarator_no_colon d _ refl
declarator_no_colon (Function p d b ps ellipsis) rest h = declarator_no_colon d _ refl

initial_no_colon : (i : Option (Initializer Bare)) (ds : List (InitDeclarator Bare)) (rest : List Symbol) → heads sign.Colon (spell_initial i (spell_more_declarators ds rest)) ≡ false
initial_no_colon None [] rest = refl
initial_no_colon None (d ∷ ds) rest = refl
initial_no_colon (Some i) ds rest = refl

declarators_no_colon : (ds : List (InitDeclarator Bare)) (rest : List Symbol) → heads sign.Colon (spell_declarators ds rest) ≡ false
declarators_no_colon [] rest = refl
declarators_no_colon (d ∷ ds) rest = declarator_no_colon d.declarator _ (initial_no_colon d.initial ds rest)

second_no_colon : (ss : Specifiers Bare) (names : Scope) (said : Said) (ds : List (InitDeclarator Bare)) (rest : List Symbol) → AreSpecifiers names Outside said ss → heads sign.Colon (spell_specifiers ss (spell_declarators ds rest)) ≡ false
second_no_colon NoSpecifiers names said ds rest h = declarators_no_colon ds rest
second_no_colon (MoreSpecifiers s ss) names said ds rest h = specifiers_no sign.Colon names _ (specifiers_begin names Outside said (MoreSpecifiers s ss) _ h tt) refl

declaration_no_label : (ss : Specifiers Bare) (names : Scope) (ds : List (InitDeclarator Bare)) (rest : List Symbol) → AreSpecifiers names Outside Nothing ss → HasSpecifiers ss → is_label (spell_specifiers ss (spell_declarators ds rest)) ≡ false
declaration_no_label NoSpecifiers names ds rest h some = absurd some
declaration_no_label (MoreSpecifiers (Keyword p s) ss) names ds rest h some = refl
declaration_no_label (MoreSpecifiers (Typedef x) ss) names ds rest h some = second_no_colon ss names _ ds rest h.1
declaration_no_label (MoreSpecifiers (Structure p s tag ms) ss) names ds rest h some = refl
declaration_no_label (MoreSpecifiers (Enumeration p tag es comma) ss) names ds rest h some = refl

-- ## Statements

abbrev pub is_pragma : List Symbol → Bool
is_pragma (symbol.Pragma x ∷ rest) = true
is_pragma _ = false

expression_no_pragma : (names : Scope) (symbols : List Symbol) → begins_expression names symbols ≡ true → is_pragma symbols ≡ false
expression_no_pragma names [] h = refl
expression_no_pragma names (symbol.Pragma x ∷ rest) h = absurd (false≢true h)
expression_no_pragma names (_ ∷ rest) h = refl

specifiers_no_pragma : (names : Scope) (symbols : List Symbol) → begins_specifiers names symbols ≡ true → is_pragma symbols ≡ false
specifiers_no_pragma names [] h = refl
specifiers_no_pragma names (symbol.Pragma x ∷ rest) h = absurd (false≢true h)
specifiers_no_pragma names (_ ∷ rest) h = refl

-- what the words of a statement don't begin with
pub record IsFirst (names : Scope) (symbols : List Symbol) : Type 0 where
  pub no_declaration : begins_declaration names symbols ≡ false
  pub no_brace : heads sign.CloseBrace symbols ≡ false
  pub no_else : heads sign.Else symbols ≡ false
  pub no_pragma : is_pragma symbols ≡ false

value_first : (names : Scope) (symbols : List Symbol) → begins_expression names symbols ≡ true → IsFirst names symbols
value_first names symbols h = record {
  no_declaration = ap (λ b. b && not (is_label symbols)) (no_specifiers names symbols h);
  no_brace = begins_no sign.CloseBrace names symbols h refl;
  no_else = begins_no sign.Else names symbols h refl;
  no_pragma = expression_no_pragma names symbols h;
}

pub statement_first : (s : Statement Bare) (names : Scope) (rest : List Symbol) → IsStatement names Part s → IsFirst names (spell_statement s rest)
statement_first (Empty p) names rest h = record { no_declaration = refl; no_brace = refl; no_else = refl; no_pragma = refl }
statement_first (Evaluate p t) names rest h = value_first names _ (first_is names t _ h)
statement_first (Block p ss) names rest h = record { no_declaration = refl; no_brace = refl; no_else = refl; no_pragma = refl }
statement_first (If p t s) names rest h = record { no_declaration = refl; no_brace = refl; no_else = refl; no_pragma = refl }
statement_first (IfElse p t s u) names rest h = record { no_declaration = refl; no_brace = refl; no_else = refl; no_pragma = refl }
statement_first (Switch p k t s) names rest h = record { no_declaration = refl; no_brace = refl; no_else = refl; no_pragma = refl }
statement_first (While p k t s) names rest h = record { no_declaration = refl; no_brace = refl; no_else = refl; no_pragma = refl }
statement_first (Do p k s t) names rest h = record { no_declaration = refl; no_brace = refl; no_else = refl; no_pragma = refl }
statement_first (For p k start test step s) names rest h = record { no_declaration = refl; no_brace = refl; no_else = refl; no_pragma = refl }
statement_first (Case p t s) names rest h = record { no_declaration = refl; no_brace = refl; no_else = refl; no_pragma = refl }
statement_first (Default p s) names rest h = record { no_declaration = refl; no_brace = refl; no_else = refl; no_pragma = refl }
statement_first (Label p x s) names rest h = record { no_declaration = and_false (is_type names x.name); no_brace = refl; no_else = refl; no_pragma = refl }
statement_first (Goto p x) names rest h = record { no_declaration = refl; no_brace = refl; no_else = refl; no_pragma = refl }
statement_first (Break p) names rest h = record { no_declaration = refl; no_brace = refl; no_else = refl; no_pragma = refl }
statement_first (Continue p) names rest h = record { no_declaration = refl; no_brace = refl; no_else = refl; no_pragma = refl }
statement_first (Return p k t) names rest h = record { no_declaration = refl; no_brace = refl; no_else = refl; no_pragma = refl }
statement_first (Declare d) names rest h = absurd h.0
statement_first (Pragma p x) names rest h = absurd h

-- what the words of a declaration begin with
pub record IsDeclaring (names : Scope) (symbols : List Symbol) : Type 0 where
  pub specifiers : begins_specifiers names symbols ≡ true
  pub declaration : begins_declaration names symbols ≡ true
  pub no_brace : heads sign.CloseBrace symbols ≡ false
  pub no_else : heads sign.Else symbols ≡ false
  pub no_pragma : is_pragma symbols ≡ false

pub declaration_first : (d : Declaration Bare) (names : Scope) (rest : List Symbol) → IsDeclaration names d → IsDeclaring names (spell_declaration d rest)
declaration_first d names rest h =
    let symbols = spell_declaration d rest in
    let begins : begins_specifiers names symbols ≡ true = specifiers_begin names Outside Nothing d.specifiers (spell_declarators d.declarators rest) h.0 h.1 in
    record {
      specifiers = begins;
      declaration = ap (λ b. b && not (is_label symbols)) begins ∙ ap not (declaration_no_label d.specifiers names d.declarators rest h.0 h.1);
      no_brace = specifiers_no sign.CloseBrace names symbols begins refl;
      no_else = specifiers_no sign.Else names symbols begins refl;
      no_pragma = specifiers_no_pragma names symbols begins;
    }

item_no_else : (s : Statement Bare) (names : Scope) (rest : List Symbol) → IsStatement names Item s → heads sign.Else (spell_statement s rest) ≡ false
item_no_else (Declare d) names rest h = (declaration_first d names rest h.1).no_else
item_no_else (Pragma p x) names rest h = refl
item_no_else (Evaluate p t) names rest h = (statement_first (Evaluate p t) names rest h).no_else
item_no_else _ names rest h = refl

-- no item of a block, nor its `}`, is an `else`
pub items_no_else : (ss : Statements Bare) (names : Scope) (rest : List Symbol) → AreItems names ss → heads sign.Else (spell_statements ss (Fixed sign.CloseBrace ∷ rest)) ≡ false
items_no_else NoStatements names rest h = refl
items_no_else (MoreStatements s ss) names rest h = item_no_else s names _ h.0

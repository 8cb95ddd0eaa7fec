-- Declarations, statements and functions with other places: what stands for the place of each node is changed by a function.
use Rattle.std.specs.Prelude.{map, option_map}
use Rattle.p10_syn.specs.Trees.{Initializer, Value, Braced, Initializers, NoInitializers, MoreInitializers, InitDeclarator, Declaration, Statement, Empty, Evaluate, Block, If, IfElse, Switch, While, Do, For, Case, Default, Label, Goto, Break, Continue, Return, Declare, Pragma, Statements, NoStatements, MoreStatements, Landmarks, Definition, External, Outer, Defines}
use Rattle.p10_expression_renaming.specs.Mapped.{mapped_identifier, mapped_expression, mapped_optional, mapped_specifiers, mapped_declarator}

-- ## Declarations

abbrev mutual
  pub mapped_initializer : {P Q : Type 0} → (P → Q) → Initializer P → Initializer Q
  mapped_initializer f (Value e) = Value (mapped_expression f e)
  mapped_initializer f (Braced at all comma) = Braced (f at) (mapped_initializers f all) comma

  pub mapped_initializers : {P Q : Type 0} → (P → Q) → Initializers P → Initializers Q
  mapped_initializers f NoInitializers = NoInitializers
  mapped_initializers f (MoreInitializers one rest) = MoreInitializers (mapped_initializer f one) (mapped_initializers f rest)

abbrev pub mapped_init_declarator : {P Q : Type 0} → (P → Q) → InitDeclarator P → InitDeclarator Q
mapped_init_declarator f d = record { place = f d.place; declarator = mapped_declarator f d.declarator; initial = option_map (mapped_initializer f) d.initial }

abbrev pub mapped_declaration : {P Q : Type 0} → (P → Q) → Declaration P → Declaration Q
mapped_declaration f d = record { place = f d.place; specifiers = mapped_specifiers f d.specifiers; declarators = map (mapped_init_declarator f) d.declarators }

-- ## Statements

abbrev mutual
  pub mapped_statement : {P Q : Type 0} → (P → Q) → Statement P → Statement Q
  mapped_statement f (Empty at) = Empty (f at)
  mapped_statement f (Evaluate at e) = Evaluate (f at) (mapped_expression f e)
  mapped_statement f (Block at all) = Block (f at) (mapped_statements f all)
  mapped_statement f (If at e s) = If (f at) (mapped_expression f e) (mapped_statement f s)
  mapped_statement f (IfElse at e s t) = IfElse (f at) (mapped_expression f e) (mapped_statement f s) (mapped_statement f t)
  mapped_statement f (Switch at keyword e s) = Switch (f at) (f keyword) (mapped_expression f e) (mapped_statement f s)
  mapped_statement f (While at keyword e s) = While (f at) (f keyword) (mapped_expression f e) (mapped_statement f s)
  mapped_statement f (Do at keyword s e) = Do (f at) (f keyword) (mapped_statement f s) (mapped_expression f e)
  mapped_statement f (For at keyword start test step s) =
      For (f at) (f keyword) (mapped_statement f start) (mapped_optional f test) (mapped_optional f step) (mapped_statement f s)
  mapped_statement f (Case at e s) = Case (f at) (mapped_expression f e) (mapped_statement f s)
  mapped_statement f (Default at s) = Default (f at) (mapped_statement f s)
  mapped_statement f (Label at x s) = Label (f at) (mapped_identifier f x) (mapped_statement f s)
  mapped_statement f (Goto at x) = Goto (f at) (mapped_identifier f x)
  mapped_statement f (Break at) = Break (f at)
  mapped_statement f (Continue at) = Continue (f at)
  mapped_statement f (Return at keyword e) = Return (f at) (f keyword) (mapped_optional f e)
  mapped_statement f (Declare d) = Declare (mapped_declaration f d)
  mapped_statement f (Pragma at text) = Pragma (f at) text

  pub mapped_statements : {P Q : Type 0} → (P → Q) → Statements P → Statements Q
  mapped_statements f NoStatements = NoStatements
  mapped_statements f (MoreStatements s rest) = MoreStatements (mapped_statement f s) (mapped_statements f rest)

-- ## Declarations and functions outside of functions

abbrev pub mapped_landmarks : {P Q : Type 0} → (P → Q) → Landmarks P → Landmarks Q
mapped_landmarks f x = record { whole = f x.whole; first_word = f x.first_word; brace = f x.brace; last_word = f x.last_word }

abbrev pub mapped_definition : {P Q : Type 0} → (P → Q) → Definition P → Definition Q
mapped_definition f d = record {
  place = f d.place;
  landmarks = mapped_landmarks f d.landmarks;
  specifiers = mapped_specifiers f d.specifiers;
  declarator = mapped_declarator f d.declarator;
  body_place = f d.body_place;
  body = mapped_statements f d.body;
}

abbrev pub mapped_external : {P Q : Type 0} → (P → Q) → External P → External Q
mapped_external f (Outer at d) = Outer (f at) (mapped_declaration f d)
mapped_external f (Defines d) = Defines (mapped_definition f d)

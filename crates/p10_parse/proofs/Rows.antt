-- Rows of trees as lists, and back.
use Rattle.std.proofs.Common.{◌≡◌, List, [], ◌∷◌, refl, ap}
use Rattle.p10_syn.specs.Trees.{Bare, Initializer, Initializers, NoInitializers, MoreInitializers, Statement, Statements, NoStatements, MoreStatements, initializer_row, statement_row}

abbrev pub initializer_list : Initializers Bare → List (Initializer Bare)
initializer_list NoInitializers = []
initializer_list (MoreInitializers i is) = i ∷ initializer_list is

pub initializer_again : (is : Initializers Bare) → initializer_row (initializer_list is) ≡ is
initializer_again NoInitializers = refl
initializer_again (MoreInitializers i is) = ap (MoreInitializers i) (initializer_again is)

abbrev pub statement_list : Statements Bare → List (Statement Bare)
statement_list NoStatements = []
statement_list (MoreStatements s ss) = s ∷ statement_list ss

pub statement_again : (ss : Statements Bare) → statement_row (statement_list ss) ≡ ss
statement_again NoStatements = refl
statement_again (MoreStatements s ss) = ap (MoreStatements s) (statement_again ss)

-- The words that trees spell outside of the bodies of functions, and in each function.
use Rattle.std.specs.Prelude.{List, [], ◌∷◌}
use Rattle.p10_syn.specs.Symbols.{Symbol}
use Rattle.p10_syn.specs.Spelling.{spell_specifiers, spell_declarator, spell_declaration, spell_definition}
use Rattle.p10_syn.specs.Trees.{Bare, NoStatements, Definition, External, Outer, Defines}

-- the words of a function before its body
abbrev pub spell_head : Definition Bare → List Symbol → List Symbol
spell_head d rest = spell_specifiers d.specifiers (spell_declarator d.declarator rest)

-- the words before the first body, or all of them where there is none
abbrev pub first_run : List (External Bare) → List Symbol
first_run [] = []
first_run (Outer p d ∷ es) = spell_declaration d (first_run es)
first_run (Defines d ∷ es) = spell_head d []

-- the words between each body and the next, and after the last
abbrev pub other_runs : List (External Bare) → List (List Symbol)
other_runs [] = []
other_runs (Outer p d ∷ es) = other_runs es
other_runs (Defines d ∷ es) = first_run es ∷ other_runs es

-- the words of each function
abbrev pub function_words : List (External Bare) → List (List Symbol)
function_words [] = []
function_words (Outer p d ∷ es) = function_words es
function_words (Defines d ∷ es) = spell_definition d [] ∷ function_words es

-- the functions among declarations and functions
abbrev pub functions_in : {P : Type 0} → List (External P) → List (Definition P)
functions_in [] = []
functions_in (Outer p d ∷ es) = functions_in es
functions_in (Defines d ∷ es) = d ∷ functions_in es

-- a function with an empty body
abbrev pub bodiless : Definition Bare → Definition Bare
bodiless d = record d { body = NoStatements }

-- the same, where it is a function
abbrev pub without_body : External Bare → External Bare
without_body (Outer p d) = Outer p d
without_body (Defines d) = Defines (bodiless d)

-- Names in a walk over a function only become more, until a block ends.
use Rattle.std.specs.Prelude.{◌≡◌, ℕ, Bool, true, false, Option, Some, None, List, [], ◌∷◌, ◌++◌, length, take, refl}
use Rattle.std.proofs.Common.{◌∙◌, ap, sym}
use Rattle.std.proofs.lemmas.List.{append_assoc, append-nil}
use Rattle.p10_base.specs.Words.{Text}
use Rattle.p10_base.specs.declared.at.At.{At}
use Rattle.p10_syn.specs.Trees.{Identifier, InitDeclarator, Declaration, Statement, Empty, Evaluate, Block, If, IfElse, Switch, While, Do, For, Case, Default, Label, Goto, Break, Continue, Return, Declare, Pragma, Statements, NoStatements, MoreStatements}
use Rattle.p10_elabd.specs.Words.{storage_of}
use Rattle.p10_elabd.specs.Shapes.{name_in, declares_function}
use Rattle.p10_elabd.specs.declared.site.Storage.{Storage}
use Rattle.p10_elabd.specs.declared.site.Storage.TheVariants as storage_is
use Rattle.p10_elabs.specs.Addresses.{LocalNames, constants_of, with_others, taken_in, taken_in_initial, Walk, taking, walked_name, walked_declarator, walked_declarators, walked_declaration, walked, walked_all}

-- names after others
abbrev Grows : LocalNames → LocalNames → Type 0
Grows before after = (more : LocalNames) × (after ≡ before ++ more)

stay : (names : LocalNames) → Grows names names
stay names = ([], sym (append-nil names))

one_more : (names : LocalNames) (name : Text × Option ℕ) → Grows names (names ++ name ∷ [])
one_more names name = (name ∷ [], refl)

then_more : (a b c : LocalNames) → Grows a b → Grows b c → Grows a c
then_more a b c (xs, p) (ys, q) = (xs ++ ys, q ∙ ap (λ ns. ns ++ ys) p ∙ append_assoc a xs ys)

others_grow : (names : LocalNames) (all : List (Identifier At)) → Grows names (with_others names all)
others_grow names [] = stay names
others_grow names (x ∷ rest) =
    then_more names (names ++ (x.name, None) ∷ []) (with_others (names ++ (x.name, None) ∷ []) rest)
    (one_more names (x.name, None)) (others_grow (names ++ (x.name, None) ∷ []) rest)

name_grows : (w : Walk) (s : Storage) (function : Bool) (name : Text) → Grows w.names (walked_name w s function name).names
name_grows w storage_is.Unnamed false name = one_more w.names (name, Some w.variables)
name_grows w storage_is.Unnamed true name = one_more w.names (name, None)
name_grows w storage_is.Typedef function name = one_more w.names (name, None)
name_grows w storage_is.Extern function name = one_more w.names (name, None)
name_grows w storage_is.Static function name = one_more w.names (name, None)

declarator_grows : (w : Walk) (s : Storage) (d : InitDeclarator At) (name : Option (Identifier At)) → Grows w.names (walked_declarator w s d name).names
declarator_grows w s d None = stay w.names
declarator_grows w s d (Some name) = name_grows w s (declares_function d.declarator) name.name

declarators_grow : (w : Walk) (s : Storage) (all : List (InitDeclarator At)) → Grows w.names (walked_declarators w s all).names
declarators_grow w s [] = stay w.names
declarators_grow w s (d ∷ rest) =
    let v : Walk = walked_declarator w s d (name_in d.declarator) in
    let u : Walk = taking v (taken_in_initial v.names d.initial) in
    then_more w.names v.names (walked_declarators u s rest).names (declarator_grows w s d (name_in d.declarator)) (declarators_grow u s rest)

declaration_grows : (w : Walk) (d : Declaration At) → Grows w.names (walked_declaration w d).names
declaration_grows w d =
    let v : Walk = record w { names = with_others w.names (constants_of d.specifiers) } in
    then_more w.names v.names (walked_declaration w d).names (others_grow w.names (constants_of d.specifiers)) (declarators_grow v (storage_of d.specifiers) d.declarators)

mutual
  pub statement_grows : (w : Walk) (s : Statement At) → Grows w.names (walked w s).names
  statement_grows w (Empty at) = stay w.names
  statement_grows w (Evaluate at e) = stay w.names
  statement_grows w (Block at ss) = stay w.names
  statement_grows w (If at e s) = statement_grows (taking w (taken_in w.names e)) s
  statement_grows w (IfElse at e s t) =
      then_more w.names (walked (taking w (taken_in w.names e)) s).names (walked (walked (taking w (taken_in w.names e)) s) t).names
      (statement_grows (taking w (taken_in w.names e)) s) (statement_grows (walked (taking w (taken_in w.names e)) s) t)
  statement_grows w (Switch at k e s) = statement_grows (taking w (taken_in w.names e)) s
  statement_grows w (While at k e s) = statement_grows (taking w (taken_in w.names e)) s
  statement_grows w (Do at k s e) = statement_grows (taking w (taken_in w.names e)) s
  statement_grows w (For at k start test step s) = stay w.names
  statement_grows w (Case at e s) = statement_grows w s
  statement_grows w (Default at s) = statement_grows w s
  statement_grows w (Label at name s) = statement_grows w s
  statement_grows w (Goto at name) = stay w.names
  statement_grows w (Break at) = stay w.names
  statement_grows w (Continue at) = stay w.names
  statement_grows w (Return at k e) = stay w.names
  statement_grows w (Declare d) = declaration_grows w d
  statement_grows w (Pragma at text) = stay w.names

  pub statements_grow : (w : Walk) (ss : Statements At) → Grows w.names (walked_all w ss).names
  statements_grow w NoStatements = stay w.names
  statements_grow w (MoreStatements s rest) =
      then_more w.names (walked w s).names (walked_all (walked w s) rest).names (statement_grows w s) (statements_grow (walked w s) rest)

taken_whole : (xs ys : LocalNames) → take (length xs) (xs ++ ys) ≡ xs
taken_whole [] [] = refl
taken_whole [] (y ∷ ys) = refl
taken_whole (x ∷ xs) ys = ap (λ zs. x ∷ zs) (taken_whole xs ys)

-- names that were declared later are forgotten
pub forgotten : (before after : LocalNames) (count : ℕ) → count ≡ length before → Grows before after → take count after ≡ before
forgotten before after count same (more, is) =
    ap (λ n. take n after) same ∙ ap (take (length before)) is ∙ taken_whole before more

pub then_grows : (a b c : LocalNames) → Grows a b → Grows b c → Grows a c
then_grows a b c f g = then_more a b c f g

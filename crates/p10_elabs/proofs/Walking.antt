-- A walk over a function, one part after the other.
use Rattle.std.specs.Prelude.{◌≡◌, ℕ, ◌+◌, Option, List, [], ◌∷◌, ◌++◌, length, map, take, Vec}
use Rattle.std.specs.declared.alloc.Global.{Global}
use Rattle.std.proofs.Common.{◌∙◌, ap, sym, rules, drop, Box}
use Rattle.std.proofs.lemmas.List.{append_assoc}
use Rattle.p10_base.specs.declared.at.At.{At}
use Rattle.p10_syn.specs.declared.tree.Identifier.{Identifier as Name}
use Rattle.p10_syn.specs.declared.tree.Expr.{Expr}
use Rattle.p10_syn.specs.declared.statement.InitDeclarator.{InitDeclarator}
use Rattle.p10_syn.specs.declared.statement.Stmt.TheVariants as stmt
use Rattle.p10_syn.specs.declared.statement.Stmt.{Stmt}
use Rattle.p10_syn.specs.declared.statement.Stmt.TheViews.{the_lemmas}
use Rattle.p10_syn.specs.Trees.{Optional, Statement, Statements, For, statement_row}
use Rattle.p10_syn.specs.Built.{identifier_of}
use Rattle.p10_syn.specs.BuiltStatements.{optional_expression, init_declarator_of, statement_of}
use Rattle.p10_elabd.specs.Shapes.{name_in}
use Rattle.p10_elabd.specs.declared.site.Storage.{Storage}
use Rattle.p10_elabd.specs.declared.declaration.DeclaredParameter.{DeclaredParameter}
use Rattle.p10_elabd.specs.Views.{plain_parameter}
use Rattle.p10_elabs.specs.Addresses.{LocalNames, with_others, taken_in_optional, taken_in_initial, Walk, taking, walked_parameter, with_parameters, walked_declarator, walked_declarators, walked_out, walked, walked_all}
use Rattle.p10_heads.proofs.ListRows.{block_is}
use Rattle.p10_elabs.proofs.GrowingNames.{forgotten, then_grows, statement_grows, statements_grow}

-- ## Turns of loops

pub step_others : (i : ℕ) (all : List Name) (one : Name) (old new : LocalNames) → drop i all ≡ one ∷ drop (i + 1) all → new ≡ old ++ ((identifier_of one).name, Option.None) ∷ [] →
    with_others old (map identifier_of (drop i all)) ≡ with_others new (map identifier_of (drop (i + 1) all))
step_others i all one old new cut is =
    ap (λ xs. with_others old (map identifier_of xs)) cut ∙ ap (λ ns. with_others ns (map identifier_of (drop (i + 1) all))) (sym is)

pub step_parameters : (i : ℕ) (all : List DeclaredParameter) (one : DeclaredParameter) (old new : Walk) → drop i all ≡ one ∷ drop (i + 1) all → new ≡ walked_parameter old (plain_parameter one).name →
    with_parameters old (map plain_parameter (drop i all)) ≡ with_parameters new (map plain_parameter (drop (i + 1) all))
step_parameters i all one old new cut is =
    ap (λ xs. with_parameters old (map plain_parameter xs)) cut ∙ ap (λ w. with_parameters w (map plain_parameter (drop (i + 1) all))) (sym is)

pub step_declarators : (s : Storage) (i : ℕ) (all : List InitDeclarator) (one : InitDeclarator) (old mid new : Walk) → drop i all ≡ one ∷ drop (i + 1) all →
    mid ≡ walked_declarator old s (init_declarator_of one) (name_in (init_declarator_of one).declarator) →
    new ≡ taking mid (taken_in_initial mid.names (init_declarator_of one).initial) →
    walked_declarators old s (map init_declarator_of (drop i all)) ≡ walked_declarators new s (map init_declarator_of (drop (i + 1) all))
step_declarators s i all one old mid new cut first second =
    ap (λ xs. walked_declarators old s (map init_declarator_of xs)) cut
    ∙ ap (λ v. walked_declarators (taking v (taken_in_initial v.names (init_declarator_of one).initial)) s (map init_declarator_of (drop (i + 1) all))) (sym first)
    ∙ ap (λ w. walked_declarators w s (map init_declarator_of (drop (i + 1) all))) (sym second)

pub step_statements : (i : ℕ) (all : List Stmt) (one : Stmt) (old new : Walk) → drop i all ≡ one ∷ drop (i + 1) all → new ≡ walked old (statement_of one) →
    walked_all old (statement_row (map statement_of (drop i all))) ≡ walked_all new (statement_row (map statement_of (drop (i + 1) all)))
step_statements i all one old new cut is =
    ap (λ xs. walked_all old (statement_row (map statement_of xs))) cut ∙ ap (λ w. walked_all w (statement_row (map statement_of (drop (i + 1) all)))) (sym is)

-- ## Blocks

pub left_block : (w v new : Walk) (count : ℕ) (ss : Statements At) → count ≡ length w.names → v ≡ walked_all w ss → new ≡ record v { names = take count v.names } → new ≡ walked_out w (walked_all w ss)
left_block w v new count ss same is left =
    left ∙ ap (λ (u : Walk). record u { names = take count u.names }) is
    ∙ ap (λ (ns : LocalNames). record (walked_all w ss) { names = ns }) (forgotten w.names (walked_all w ss).names count same (statements_grow w ss))

pub walked_block : (w new : Walk) (s : Stmt) (at : At) (all : Vec Stmt Global) (items : List Stmt) → s ≡ stmt.Block at all → items ≡ all.items →
    new ≡ walked_out w (walked_all w (statement_row (map statement_of items))) → new ≡ walked w (statement_of s)
walked_block w new s at all items is listed walk =
    walk ∙ ap (λ xs. walked_out w (walked_all w (statement_row (map statement_of xs)))) listed ∙ ap (walked w) (sym (ap statement_of is ∙ block_is at all))

-- ## Loops

pub for_is : (at k : At) (start : Box Stmt Global) (test step : Option Expr) (body : Box Stmt Global) →
    statement_of (stmt.For at k start test step body) ≡ For at k (statement_of start.value) (optional_expression test) (optional_expression step) (statement_of body.value)
for_is at k start test step body = search (rules, the_lemmas)

for_taking : (v : Walk) (a b : List ℕ) → taking (taking v a) b ≡ taking v (a ++ b)
for_taking v a b = ap (λ (ns : List ℕ). record v { taken = ns }) (append_assoc v.taken a b)

-- the parts of a `for`, whose names end with it
pub walked_for : (w v1 v2 v3 v4 new : Walk) (count : ℕ) (at k : At) (start body : Statement At) (test step : Optional At) →
    count ≡ length w.names → v1 ≡ walked w start → v2 ≡ taking v1 (taken_in_optional v1.names test) → v3 ≡ taking v2 (taken_in_optional v2.names step) →
    v4 ≡ walked v3 body → new ≡ record v4 { names = take count v4.names } → new ≡ walked w (For at k start test step body)
walked_for w v1 v2 v3 v4 new count at k start body test step same first second third fourth left =
    let v : Walk = walked w start in
    let u : Walk = taking v (taken_in_optional v.names test ++ taken_in_optional v.names step) in
    let one : v2 ≡ taking v (taken_in_optional v.names test) = second ∙ ap (λ (x : Walk). taking x (taken_in_optional x.names test)) first in
    let two : v3 ≡ u =
    third ∙ ap (λ (x : Walk). taking x (taken_in_optional x.names step)) one ∙ for_taking v (taken_in_optional v.names test) (taken_in_optional v.names step) in
    let three : v4 ≡ walked u body = fourth ∙ ap (λ x. walked x body) two in
    left ∙ ap (λ (x : Walk). record x { names = take count x.names }) three
    ∙ ap (λ (ns : LocalNames). record (walked u body) { names = ns })
    (forgotten w.names (walked u body).names count same (then_grows w.names v.names (walked u body).names (statement_grows w start) (statement_grows u body)))

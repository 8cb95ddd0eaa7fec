-- Statements (C99 6.8): what they become, and where labels, jumps and pragmas may stand.
use Rattle.std.specs.Prelude.{ℕ, ◌+◌, ℤ, Bool, true, false, ◌&&◌, ◌||◌, if◌then◌else◌, List, [], ◌∷◌, ◌++◌, length, Option, Some, None, Ok}
use Rattle.std.specs.Ordering.{int_eq}
use Rattle.p10_base.specs.declared.at.At.{At}
use Rattle.p10_base.specs.declared.codes.SubsetCode.TheVariants as subset
use Rattle.p10_int.specs.Conversion.{converted as converted_to}
use Rattle.p10_syn.specs.Trees.{Expression, Optional, Absent, Present, Declaration, Statement, Empty, Evaluate, Block, If, IfElse, Switch, While, Do, For, Case, Default, Label, Goto, Break, Continue, Return, Declare, Pragma, Statements, NoStatements, MoreStatements}
use Rattle.p10_core.specs.declared.statements.LoopHead.{LoopHead}
use Rattle.p10_core.specs.declared.statements.LoopKeyword.{LoopKeyword}
use Rattle.p10_core.specs.declared.statements.LoopKeyword.TheVariants as loop_keyword
use Rattle.p10_core.specs.declared.statements.Label.{Label as CaseLabel}
use Rattle.p10_core.specs.Types.{PlainType}
use Rattle.p10_core.specs.Rows.{is_void}
use Rattle.p10_core.specs.Constants.{integer_of}
use Rattle.p10_core.specs.Typed.{PlainValue, type_of, PlainStatement, statement, PlainStatementForm, block, if_then, if_else, loop, switch, break, continue, return, empty, mark, statements_of_list}
use Rattle.p10_elabx.specs.First.{Keep, Ruled, ruled, refused, on}
use Rattle.p10_elabx.specs.Operators.{fitted}
use Rattle.p10_elabd.specs.Standing.{noted}
use Rattle.p10_elabd.specs.Expressions.{for_expression, value_found, constant_number}
use Rattle.p10_elabd.specs.declared.site.Site.TheVariants as site_is
use Rattle.p10_elabs.specs.Locals.{Frame, Local, Done, done_in, refusing_in, opened, closed}
use Rattle.p10_elabs.specs.LocalDeclarations.{Declaring, declared_locally}
use Rattle.p10_elabs.specs.Expressions.{expression_statement, clause_done, optional_clause, test_done, optional_test, switch_done, statement_added}
use Rattle.p10_elabs.specs.declared.round.Round.{Round}
use Rattle.p10_elabs.specs.declared.kind.Kind.{Kind}
use Rattle.p10_elabs.specs.declared.kind.Kind.TheVariants as item
use Rattle.p10_elabs.specs.Marks.{mark_of, test_kind}

-- ## What stands round a statement

-- nothing does
abbrev pub in_nothing : Round
in_nothing = record { in_loop = false; in_switch = false; at_labels = false }

-- inside of another statement
abbrev pub inside : Round → Round
inside r = record r { at_labels = false }

-- inside of a loop
abbrev pub inside_loop : Round → Round
inside_loop r = record r { in_loop = true; at_labels = false }

-- inside of a `switch`
abbrev pub inside_switch : Round → Round
inside_switch r = record r { in_switch = true; at_labels = false }

-- at the top level of the block of a `switch`
abbrev pub among_labels : Round → Round
among_labels r = record r { in_switch = true; at_labels = true }

-- ## Pieces

-- a statement of this form
abbrev pub made_at : At → PlainStatementForm → Local → Done PlainStatement
made_at at f l = record { made = Some (statement at f); after = l }

-- a row that refuses a statement, whatever its parts are
abbrev pub refused_statement : {A : Type 0} → Keep → At → Done A → Done PlainStatement
refused_statement h at d = record { made = None; after = refusing_in h true subset.BadJump at d.after }

-- a jump with something to leave
abbrev pub jump : Keep → Bool → At → PlainStatementForm → Local → Done PlainStatement
jump h may at f l = if may then made_at at f l else record { made = None; after = refusing_in h true subset.BadJump at l }

-- the value of a `return`: the function has a result, which it fits (C99 6.8.6.4)
abbrev pub returned : At → PlainType → PlainValue → Ruled PlainValue
returned at t v = if is_void t then refused subset.TypesDiffer at else fitted at v t

-- `return`: a function with a result gives one
abbrev pub return_done : Keep → Frame → At → At → Optional At → Local → Done PlainStatement
return_done h f at keyword Absent l =
    if is_void f.result then made_at at (return keyword.span None) l else record { made = None; after = refusing_in h true subset.TypesDiffer at l }
return_done h f at keyword (Present e) l = with_value (done_in l (noted h (on (value_found h l.standing e) (returned at f.result)) (for_expression l.standing e)))
  where
    as_return : Option PlainValue → Option PlainStatement
    as_return None = None
    as_return (Some v) = Some (statement at (return keyword.span (Some v)))

    with_value : Done PlainValue → Done PlainStatement
    with_value d = record { made = as_return d.made; after = d.after }

-- the next loop of the function, at its keyword
abbrev pub head_of : LoopKeyword → At → Local → LoopHead
head_of word keyword l = record { number = l.loops; keyword = word; span = keyword.span }

-- one loop more
abbrev pub with_loop : Local → Local
with_loop l = record l { loops = l.loops + 1 }

-- whether nothing is written before the `;`
abbrev pub is_empty : Statement At → Bool
is_empty (Empty at) = true
is_empty s = false

-- whether an expression is left out
abbrev pub is_absent : Optional At → Bool
is_absent Absent = true
is_absent (Present e) = false

-- a `for` with nothing in its parentheses may be the task loop
abbrev pub for_kind : Statement At → Optional At → Optional At → Kind
for_kind start test step = if is_empty start && (is_absent test && is_absent step) then item.Task else item.Other

-- what a statement that isn't a declaration is among the items of a body
abbrev pub kind_of : Keep → Local → Statement At → Kind
kind_of h l (Pragma at text) = item.Mark (mark_of text) at
kind_of h l (Return at k e) = item.Return
kind_of h l (While at k e body) = test_kind (test_done h (opened (with_loop l)) e).made
kind_of h l (For at k start test step body) = for_kind start test step
kind_of h l other = item.Other

-- statements in braces
abbrev pub block_of : At → Option (List PlainStatement) → Option PlainStatement
block_of at None = None
block_of at (Some ss) = Some (statement at (block (statements_of_list ss)))

-- `if` without `else`
abbrev pub if_of : At → Option PlainValue → Option PlainStatement → Option PlainStatement
if_of at (Some v) (Some s) = Some (statement at (if_then v s))
if_of at v s = None

-- `if` with `else`
abbrev pub if_else_of : At → Option PlainValue → Option PlainStatement → Option PlainStatement → Option PlainStatement
if_else_of at (Some v) (Some s) (Some t) = Some (statement at (if_else v s t))
if_else_of at v s t = None

-- a loop
abbrev pub loop_of : At → LoopHead → Option (List PlainStatement) → Option (Option PlainValue) → Option (List PlainStatement) → Option PlainStatement → Option PlainStatement
loop_of at head (Some first) (Some test) (Some third) (Some body) =
    Some (statement at (loop head (statements_of_list first) test (statements_of_list third) body))
loop_of at head first test third body = None

-- a loop with a test alone
abbrev pub tested_loop : At → LoopHead → Option PlainValue → Option PlainStatement → Option PlainStatement
tested_loop at head None body = None
tested_loop at head (Some v) body = loop_of at head (Some []) (Some (Some v)) (Some []) body

-- ## Items of a block

-- the items of a block so far, if none was refused; what they are for the pragmas; what the body has then
pub record Block' : Type 0 where
  pub made : Option (List PlainStatement)
  pub kinds : List Kind
  pub after : Local

-- before the first item
abbrev pub no_items_yet : Local → Block'
no_items_yet l = record { made = Some []; kinds = []; after = l }

-- items that a declaration becomes
abbrev pub items_added : Option (List PlainStatement) → List (Option PlainStatement) → Option (List PlainStatement)
items_added made [] = made
items_added made (s ∷ rest) = items_added (statement_added made s) rest

-- what a declaration becomes, after what was before
abbrev pub with_items : Block' → Declaring → Block'
with_items b d = record b { made = items_added b.made d.items; after = d.after }

-- a declaration after other items: it is one item, however many statements it becomes (C99 6.8.2)
abbrev pub with_declared : Block' → Declaring → Block'
with_declared b d = record (with_items b d) { kinds = b.kinds ++ item.Other ∷ [] }

-- a declaration makes nothing where it is refused as a whole; one that declares nothing may be refused too, and has a problem then
abbrev pub with_statement : Block' → Kind → Done PlainStatement → Block'
with_statement b k d = record { made = statement_added b.made d.made; kinds = b.kinds ++ k ∷ []; after = d.after }

-- a pragma where items stand: in the body of `main` it is judged with all of them, and elsewhere it is misplaced
abbrev pub pragma_done : Keep → Bool → At → PlainStatementForm → Local → Done PlainStatement
pragma_done h in_main at f l = if in_main then made_at at f l else record { made = None; after = refusing_in h true subset.MisplacedPragma at l }

-- ## Labels of a `switch`

-- the labels of a `switch` so far, if none was refused
pub record Labelled : Type 0 where
  pub cases : Option (List CaseLabel)
  pub otherwise : Option ℕ
  pub after : Local

-- whether a value is that of a label
abbrev pub is_labelled : ℤ → Option (List CaseLabel) → Bool
is_labelled z None = false
is_labelled z (Some []) = false
is_labelled z (Some (l ∷ rest)) = int_eq l.value z || is_labelled z (Some rest)

-- a label more, where nothing was refused
abbrev pub label_added : Option (List CaseLabel) → ℤ → ℕ → Option (List CaseLabel)
label_added None z n = None
label_added (Some ls) z n = Some (ls ++ record { value = z; place = n } ∷ [])

-- a `case` before an item, by its value in the type of the `switch`: no value stands twice (C99 6.8.4.2p3)
abbrev pub case_noted : Keep → At → ℕ → Labelled → Option ℤ → Local → Labelled
case_noted h at n k None l = record k { cases = None; after = l }
case_noted h at n k (Some z) l =
    if is_labelled z k.cases then record k { cases = None; after = refusing_in h true subset.BadJump at l }
    else record k { cases = label_added k.cases z n; after = l }

-- a number in the type of the `switch`, where that is known (C99 6.8.4.2p5)
abbrev pub number_for : Option PlainValue → Ruled ℤ → Ruled ℤ
number_for None found = found
number_for (Some on) found = ruled found (λ z. Ok (converted_to (integer_of (type_of on)) z))

-- the value of a `case`
abbrev pub case_value : Option PlainValue → PlainValue → Ruled ℤ
case_value on v = number_for on (constant_number v)

-- a `case` before an item
abbrev pub case_done : Keep → At → ℕ → Option PlainValue → Labelled → Expression At → Labelled
case_done h at n on' k e = noted_value (done_in k.after (noted h (on (value_found h k.after.standing e) (case_value on')) (for_expression k.after.standing e)))
  where
    noted_value : Done ℤ → Labelled
    noted_value d = case_noted h at n k d.made d.after

-- `default` before an item: it stands once at most
abbrev pub default_done : Keep → At → ℕ → Labelled → Labelled
default_done h at n k = by_before k.otherwise
  where
    by_before : Option ℕ → Labelled
    by_before None = record k { otherwise = Some n }
    by_before (Some m) = record k { cases = None; after = refusing_in h true subset.BadJump at k.after }

-- the labels that stand before an item; those of a label are its own
abbrev pub labels_noted : Keep → ℕ → Option PlainValue → Labelled → Statement At → Labelled
labels_noted h n on' k (Case at e s) = labels_noted h n on' (case_done h at n on' k e) s
labels_noted h n on' k (Default at s) = labels_noted h n on' (default_done h at n k) s
labels_noted h n on' k s = k

-- a `switch`
abbrev pub switch_of : At → At → Option PlainValue → Labelled → Option PlainStatement → Option PlainStatement
switch_of at keyword (Some v) k (Some body) = by_cases k.cases
  where
    by_cases : Option (List CaseLabel) → Option PlainStatement
    by_cases None = None
    by_cases (Some cases) = Some (statement at (switch keyword.span v (record { cases = cases; otherwise = k.otherwise }) body))
switch_of at keyword v k body = None

-- the items of a `switch` body, with the labels before them
pub record Switched : Type 0 where
  pub items : Block'
  pub labels : Labelled

-- before the first item
abbrev pub nothing_switched : Local → Switched
nothing_switched l = record { items = no_items_yet l; labels = record { cases = Some []; otherwise = None; after = l } }

-- the labels before the next item
abbrev pub with_labels : Keep → Option PlainValue → Switched → Statement At → Labelled
with_labels h on' w s = labels_noted h (length w.items.kinds) on' (record w.labels { after = w.items.after }) s

-- ## The first clause of a `for`

-- declarations, or expressions
abbrev pub start_done : Keep → Frame → Local → Statement At → Done (List PlainStatement)
start_done h f l (Declare d) =
    let p : Declaring = declared_locally h f site_is.InFor l d in
    record { made = items_added (Some []) p.items; after = p.after }
start_done h f l (Evaluate at e) = clause_done h l e
start_done h f l s = record { made = Some []; after = l }

-- a declaration where labels may stand: nothing is declared there
abbrev pub declared_at_labels : Keep → Frame → Local → Declaration At → Done PlainStatement
declared_at_labels h f l d =
    let p : Declaring = declared_locally h f site_is.InBlock l d in
    record { made = None; after = refusing_in h true subset.BadJump d.place p.after }

-- a label: at the top level of the block of a `switch` it stands before its statement
abbrev pub labelled : Keep → Round → At → Done PlainStatement → Done PlainStatement
labelled h r at d = if r.at_labels then d else refused_statement h at d

-- the constant of a `case`: at the top level of the block of a `switch` it is judged with the labels
abbrev pub constant_done : Keep → Round → Local → Expression At → Local
constant_done h r l e =
    if r.at_labels then l else (done_in l (noted h (on (value_found h l.standing e) constant_number) (for_expression l.standing e))).after

-- a part of a statement is a block of its own
abbrev pub part_ended : Done PlainStatement → Done PlainStatement
part_ended d = record { made = d.made; after = closed d.after }

-- ## The trees

abbrev mutual
  -- a statement
  pub done : Keep → Frame → Round → Local → Statement At → Done PlainStatement
  done h f r l (Empty at) = made_at at empty l
  done h f r l (Evaluate at e) = expression_statement h l at e
  done h f r l (Block at ss) =
      let b : Block' = items_done h f false (inside r) (no_items_yet (opened l)) ss in
      record { made = block_of at b.made; after = closed b.after }
  -- a selection and an iteration statement are blocks, and so are their parts (C99 6.8.4p3, 6.8.5p5)
  done h f r l (If at e s) =
      let v : Done PlainValue = test_done h (opened l) e in
      let d : Done PlainStatement = part_ended (done h f (inside r) (opened v.after) s) in
      record { made = if_of at v.made d.made; after = closed d.after }
  done h f r l (IfElse at e s t) =
      let v : Done PlainValue = test_done h (opened l) e in
      let d : Done PlainStatement = part_ended (done h f (inside r) (opened v.after) s) in
      let g : Done PlainStatement = part_ended (done h f (inside r) (opened d.after) t) in
      record { made = if_else_of at v.made d.made g.made; after = closed g.after }
  done h f r l (While at k e s) =
      let v : Done PlainValue = test_done h (opened (with_loop l)) e in
      let d : Done PlainStatement = part_ended (done h f (inside_loop r) (opened v.after) s) in
      record { made = tested_loop at (head_of loop_keyword.While k l) v.made d.made; after = closed d.after }
  done h f r l (Do at k s e) =
      let d : Done PlainStatement = part_ended (done h f (inside_loop r) (opened (opened (with_loop l))) s) in
      let v : Done PlainValue = test_done h d.after e in
      record { made = tested_loop at (head_of loop_keyword.Do k l) v.made d.made; after = closed v.after }
  done h f r l (For at k start test step s) =
      let a : Done (List PlainStatement) = start_done h f (opened (with_loop l)) start in
      let v : Done (Option PlainValue) = optional_test h a.after test in
      let c : Done (List PlainStatement) = optional_clause h v.after step in
      let d : Done PlainStatement = part_ended (done h f (inside_loop r) (opened c.after) s) in
      record { made = loop_of at (head_of loop_keyword.For k l) a.made v.made c.made d.made; after = closed d.after }
  done h f r l (Switch at k e (Block place ss)) =
      let v : Done PlainValue = switch_done h (opened l) e in
      let w : Switched = switched_done h f (among_labels r) v.made (nothing_switched (opened v.after)) ss in
      record { made = switch_of at k v.made w.labels (block_of place w.items.made); after = closed (closed w.items.after) }
  done h f r l (Switch at k e s) =
      let v : Done PlainValue = switch_done h (opened l) e in
      let d : Done PlainStatement = part_ended (done h f (inside_switch r) (opened v.after) s) in
      record { made = switch_of at k v.made (record { cases = Some []; otherwise = None; after = d.after }) d.made; after = closed d.after }
  -- labels stand at the top level of the block of a `switch` alone
  done h f r l (Case at e s) = labelled h r at (done h f r (constant_done h r l e) s)
  done h f r l (Default at s) = labelled h r at (done h f r l s)
  done h f r l (Label at name s) = refused_statement h at (done h f r l s)
  done h f r l (Goto at name) = record { made = None; after = refusing_in h true subset.BadJump at l }
  done h f r l (Break at) = jump h (r.in_loop || r.in_switch) at break l
  done h f r l (Continue at) = jump h r.in_loop at continue l
  done h f r l (Return at k e) = return_done h f at k e l
  -- declarations and pragmas are items of blocks, and stand in no block of a `switch`
  done h f r l (Declare d) = declared_at_labels h f l d
  done h f r l (Pragma at text) = pragma_done h false at (mark (mark_of text)) l

  -- items of a block after those before; those of the body of `main` may be pragmas
  pub items_done : Keep → Frame → Bool → Round → Block' → Statements At → Block'
  items_done h f in_main r b NoStatements = b
  items_done h f in_main r b (MoreStatements (Declare d) rest) =
      items_done h f in_main r (with_declared b (declared_locally h f site_is.InBlock b.after d)) rest
  items_done h f in_main r b (MoreStatements (Pragma at text) rest) =
      items_done h f in_main r (with_statement b (item.Mark (mark_of text) at) (pragma_done h in_main at (mark (mark_of text)) b.after)) rest
  items_done h f in_main r b (MoreStatements s rest) =
      items_done h f in_main r (with_statement b (kind_of h b.after s) (done h f r b.after s)) rest

  -- items of the block of a `switch`, each after its labels
  pub switched_done : Keep → Frame → Round → Option PlainValue → Switched → Statements At → Switched
  switched_done h f r on' w NoStatements = w
  switched_done h f r on' w (MoreStatements s rest) =
      let k : Labelled = with_labels h on' w s in
      switched_done h f r on' (record { items = with_statement w.items item.Other (done h f r k.after s); labels = k }) rest

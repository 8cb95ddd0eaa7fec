-- Statements are the same in both bodies where their parts are.
use Rattle.std.proofs.Common.{◌≡◌, ℕ, ◌+◌, Bool, true, false, List, [], ◌∷◌, ◌++◌, length, length-append, Option, Some, None, ◌∙◌, refl, sym, ap, subst}
use Rattle.std.specs.Prelude.{if◌then◌else◌}
use Rattle.p10_base.specs.Words.{Text}
use Rattle.p10_base.specs.declared.at.At.{At}
use Rattle.p10_base.specs.declared.codes.SubsetCode.{SubsetCode}
use Rattle.p10_base.specs.declared.codes.SubsetCode.TheVariants as subset
use Rattle.p10_syn.specs.Trees.{Expression, Optional, Absent, Present, Declaration, Statement, Evaluate, Declare}
use Rattle.p10_core.specs.declared.statements.LoopKeyword.TheVariants as loop_keyword
use Rattle.p10_core.specs.Types.{PlainType}
use Rattle.p10_core.specs.Rows.{is_void}
use Rattle.p10_core.specs.Typed.{PlainValue, PlainStatement, statement, PlainStatementForm, return, break, continue, mark}
use Rattle.p10_elabx.specs.First.{Keep, Ruled, refused}
use Rattle.p10_elabx.specs.Operators.{fitted}
use Rattle.p10_elabd.specs.Expressions.{value_by}
use Rattle.p10_elabd.specs.declared.site.Site.{Site}
use Rattle.p10_elabd.specs.declared.site.Site.TheVariants as site_is
use Rattle.p10_elabs.specs.Locals.{Frame, Local, Done, done_in, refusing_in, opened, closed}
use Rattle.p10_elabs.specs.LocalDeclarations.{Declaring, declared_locally}
use Rattle.p10_elabs.specs.Expressions.{test_done, optional_test, optional_clause, switch_done}
use Rattle.p10_elabs.specs.declared.kind.Kind.{Kind}
use Rattle.p10_elabs.specs.declared.kind.Kind.TheVariants as item
use Rattle.p10_elabs.specs.Marks.{mark_of}
use Rattle.p10_elabs.specs.Statements.{made_at, returned, return_done, refused_statement, jump, head_of, with_loop, block_of, if_of, if_else_of, loop_of, tested_loop, Block', with_declared, with_statement, pragma_done, Labelled, Switched, with_labels, labels_noted, switch_of, start_done, part_ended}
use Rattle.p10_renaming.specs.Renaming.{Pairing, SameType, SameValue, SameStatement, same_statement, SameStatementForm, same_return, same_break, same_continue, same_none, same_some, same_mark}
use Rattle.p10_expression_renaming.specs.Mapped.{mapped_expression, mapped_optional}
use Rattle.p10_expression_renaming.specs.MappedStatements.{mapped_declaration, mapped_statement}
use Rattle.p10_expression_renaming.specs.Knowing.{Ruling, IsOneToOne}
use Rattle.p10_expression_renaming.proofs.Finding.{none_right}
use Rattle.p10_expression_renaming.proofs.Operators.{fitted_both}
use Rattle.p10_expression_renaming.proofs.TypeNames.{left, right}
use Rattle.p10_declaration_renaming.specs.Standings.{Both, AreQuiet}
use Rattle.p10_statement_renaming.proofs.Values.{value_by_both}
use Rattle.p10_statement_renaming.specs.Bodies.{SameFrame, SameRow, same_no_row, SameParts, LocalLeads, Makes}
use Rattle.p10_statement_renaming.proofs.Quiet.{Quiet, Makes', so, also_loops, then_on, stands, whole, opened_both, closed_both, looped, refused_here, unless_refused}
use Rattle.p10_statement_renaming.proofs.Forms.{added, clause_both, optional_clause_both, test_both, optional_test_both, switch_both}
use Rattle.p10_statement_renaming.proofs.Made.{if_same, if_else_same, loop_same, tested_same, items_same, switch_same, block_same}
use Rattle.p10_statement_renaming.proofs.Labels.{SameLabels, Labels, labels_both}

-- statements by what a body has before them, which are the same
abbrev pub Each : Pairing → ℕ → (Local → Done PlainStatement) → (Local → Done PlainStatement) → Type 0
Each R last D G = (m n : Local) → Makes R last (SameStatement R) m n (D m) (G n)

-- declarations in the blocks of two functions, which are the same
abbrev pub Declared : Pairing → ℕ → Keep → Frame → Frame → Type 0
Declared R last h f g = (site : Site) (l k : Local) (d : Declaration (At × At))
    → LocalLeads R last (SameParts R (declared_locally h f site l (mapped_declaration left d)).items (declared_locally h g site k (mapped_declaration right d)).items) l k
    (declared_locally h f site l (mapped_declaration left d)).after (declared_locally h g site k (mapped_declaration right d)).after

-- a part of a statement
part_both : {B : Type 0} (R : Pairing) (last : ℕ) (D G : Local → Done PlainStatement) → Each R last D G → (l k : Local) → Quiet R last B l k → Makes' R last B (SameStatement R) (part_ended (D (opened l))) (part_ended (G (opened k)))
part_both R last D G each l k a =
    closed_both R last (D (opened l)).after (G (opened k)).after (then_on R last (opened l) (opened k) (D (opened l)).after (G (opened k)).after (opened_both R last l k a) (each (opened l) (opened k)))

-- ## Selection

abbrev pub if_done : Keep → At → Expression At → (Local → Done PlainStatement) → Local → Done PlainStatement
if_done h at e D l =
    let v : Done PlainValue = test_done h (opened l) e in
    let d : Done PlainStatement = part_ended (D (opened v.after)) in
    record { made = if_of at v.made d.made; after = closed d.after }

pub if_both : (R : Pairing) → IsOneToOne R → (last : ℕ) (h : Keep) (at to : At) (e : Expression (At × At)) (D G : Local → Done PlainStatement) → Each R last D G
    → Each R last (if_done h at (mapped_expression left e) D) (if_done h to (mapped_expression right e) G)
if_both R one last h at to e D G each l k =
    let v : Done PlainValue = test_done h (opened l) (mapped_expression left e) in
    let w : Done PlainValue = test_done h (opened k) (mapped_expression right e) in
    let d : Done PlainStatement = part_ended (D (opened v.after)) in
    let g : Done PlainStatement = part_ended (G (opened w.after)) in
    whole R last l k (closed d.after) (closed g.after)
    (λ a. closed_both R last d.after g.after (part_both R last D G each v.after w.after (test_both R one last h (opened l) (opened k) (opened_both R last l k a) e)))
    (λ b. (b.0.0, if_same R at to v.made w.made b.0.1 d.made g.made b.1))

abbrev pub if_else_done : Keep → At → Expression At → (Local → Done PlainStatement) → (Local → Done PlainStatement) → Local → Done PlainStatement
if_else_done h at e D E l =
    let v : Done PlainValue = test_done h (opened l) e in
    let d : Done PlainStatement = part_ended (D (opened v.after)) in
    let c : Done PlainStatement = part_ended (E (opened d.after)) in
    record { made = if_else_of at v.made d.made c.made; after = closed c.after }

pub if_else_both : (R : Pairing) → IsOneToOne R → (last : ℕ) (h : Keep) (at to : At) (e : Expression (At × At)) (D G E F : Local → Done PlainStatement) → Each R last D G → Each R last E F
    → Each R last (if_else_done h at (mapped_expression left e) D E) (if_else_done h to (mapped_expression right e) G F)
if_else_both R one last h at to e D G E F each all l k =
    let v : Done PlainValue = test_done h (opened l) (mapped_expression left e) in
    let w : Done PlainValue = test_done h (opened k) (mapped_expression right e) in
    let d : Done PlainStatement = part_ended (D (opened v.after)) in
    let g : Done PlainStatement = part_ended (G (opened w.after)) in
    let c : Done PlainStatement = part_ended (E (opened d.after)) in
    let b : Done PlainStatement = part_ended (F (opened g.after)) in
    whole R last l k (closed c.after) (closed b.after)
    (λ a. closed_both R last c.after b.after
    (part_both R last E F all d.after g.after (part_both R last D G each v.after w.after (test_both R one last h (opened l) (opened k) (opened_both R last l k a) e))))
    (λ x. (x.0.0.0, if_else_same R at to v.made w.made x.0.0.1 d.made g.made x.0.1 c.made b.made x.1))

-- ## Iteration

abbrev pub while_done : Keep → At → At → Expression At → (Local → Done PlainStatement) → Local → Done PlainStatement
while_done h at keyword e D l =
    let v : Done PlainValue = test_done h (opened (with_loop l)) e in
    let d : Done PlainStatement = part_ended (D (opened v.after)) in
    record { made = tested_loop at (head_of loop_keyword.While keyword l) v.made d.made; after = closed d.after }

pub while_both : (R : Pairing) → IsOneToOne R → (last : ℕ) (h : Keep) (at to keyword word : At) (e : Expression (At × At)) (D G : Local → Done PlainStatement) → Each R last D G
    → Each R last (while_done h at keyword (mapped_expression left e) D) (while_done h to word (mapped_expression right e) G)
while_both R one last h at to keyword word e D G each l k =
    let v : Done PlainValue = test_done h (opened (with_loop l)) (mapped_expression left e) in
    let w : Done PlainValue = test_done h (opened (with_loop k)) (mapped_expression right e) in
    let d : Done PlainStatement = part_ended (D (opened v.after)) in
    let g : Done PlainStatement = part_ended (G (opened w.after)) in
    whole R last l k (closed d.after) (closed g.after)
    (λ a. closed_both R last d.after g.after
    (part_both R last D G each v.after w.after
    (test_both R one last h (opened (with_loop l)) (opened (with_loop k)) (opened_both R last (with_loop l) (with_loop k) (looped R last l k (also_loops R last l k a))) e)))
    (λ b. (b.0.0.0, tested_same R at to l.loops k.loops b.0.0.1 loop_keyword.While keyword.span word.span v.made w.made b.0.1 d.made g.made b.1))

abbrev pub do_done : Keep → At → At → (Local → Done PlainStatement) → Expression At → Local → Done PlainStatement
do_done h at keyword D e l =
    let d : Done PlainStatement = part_ended (D (opened (opened (with_loop l)))) in
    let v : Done PlainValue = test_done h d.after e in
    record { made = tested_loop at (head_of loop_keyword.Do keyword l) v.made d.made; after = closed v.after }

pub do_both : (R : Pairing) → IsOneToOne R → (last : ℕ) (h : Keep) (at to keyword word : At) (D G : Local → Done PlainStatement) → Each R last D G → (e : Expression (At × At))
    → Each R last (do_done h at keyword D (mapped_expression left e)) (do_done h to word G (mapped_expression right e))
do_both R one last h at to keyword word D G each e l k =
    let d : Done PlainStatement = part_ended (D (opened (opened (with_loop l)))) in
    let g : Done PlainStatement = part_ended (G (opened (opened (with_loop k)))) in
    let v : Done PlainValue = test_done h d.after (mapped_expression left e) in
    let w : Done PlainValue = test_done h g.after (mapped_expression right e) in
    whole R last l k (closed v.after) (closed w.after)
    (λ a. closed_both R last v.after w.after
    (test_both R one last h d.after g.after
    (part_both R last D G each (opened (with_loop l)) (opened (with_loop k)) (opened_both R last (with_loop l) (with_loop k) (looped R last l k (also_loops R last l k a)))) e))
    (λ b. (b.0.0.0, tested_same R at to l.loops k.loops b.0.0.1 loop_keyword.Do keyword.span word.span v.made w.made b.1 d.made g.made b.0.1))

-- the first clause
start_both : {B : Type 0} (R : Pairing) → IsOneToOne R → (last : ℕ) (h : Keep) (f g : Frame) → Declared R last h f g → (l k : Local) → Quiet R last B l k → (s : Statement (At × At))
    → Makes' R last B (SameRow R) (start_done h f l (mapped_statement left s)) (start_done h g k (mapped_statement right s))
start_both R one last h f g declared l k a (Declare d) =
    let p : Declaring = declared_locally h f site_is.InFor l (mapped_declaration left d) in
    let q : Declaring = declared_locally h g site_is.InFor k (mapped_declaration right d) in
    so R last p.after q.after (λ b. (b.0, items_same R b.1 (Some []) (Some []) same_no_row)) (then_on R last l k p.after q.after a (declared site_is.InFor l k d))
start_both R one last h f g declared l k a (Evaluate at e) = clause_both R one last h l k a e
start_both R one last h f g declared l k a s = so R last l k (λ b. (b, same_no_row)) a

abbrev pub for_done : Keep → Frame → At → At → Statement At → Optional At → Optional At → (Local → Done PlainStatement) → Local → Done PlainStatement
for_done h f at keyword start test step D l =
    let a : Done (List PlainStatement) = start_done h f (opened (with_loop l)) start in
    let v : Done (Option PlainValue) = optional_test h a.after test in
    let c : Done (List PlainStatement) = optional_clause h v.after step in
    let d : Done PlainStatement = part_ended (D (opened c.after)) in
    record { made = loop_of at (head_of loop_keyword.For keyword l) a.made v.made c.made d.made; after = closed d.after }

pub for_both : (R : Pairing) → IsOneToOne R → (last : ℕ) (h : Keep) (f g : Frame) → Declared R last h f g → (at to keyword word : At) (start : Statement (At × At)) (test step : Optional (At × At)) (D G : Local → Done PlainStatement) → Each R last D G
    → Each R last (for_done h f at keyword (mapped_statement left start) (mapped_optional left test) (mapped_optional left step) D) (for_done h g to word (mapped_statement right start) (mapped_optional right test) (mapped_optional right step) G)
for_both R one last h f g declared at to keyword word start test step D G each l k =
    let a : Done (List PlainStatement) = start_done h f (opened (with_loop l)) (mapped_statement left start) in
    let b : Done (List PlainStatement) = start_done h g (opened (with_loop k)) (mapped_statement right start) in
    let v : Done (Option PlainValue) = optional_test h a.after (mapped_optional left test) in
    let w : Done (Option PlainValue) = optional_test h b.after (mapped_optional right test) in
    let c : Done (List PlainStatement) = optional_clause h v.after (mapped_optional left step) in
    let e : Done (List PlainStatement) = optional_clause h w.after (mapped_optional right step) in
    let d : Done PlainStatement = part_ended (D (opened c.after)) in
    let i : Done PlainStatement = part_ended (G (opened e.after)) in
    whole R last l k (closed d.after) (closed i.after)
    (λ q. closed_both R last d.after i.after
    (part_both R last D G each c.after e.after
    (optional_clause_both R one last h v.after w.after
    (optional_test_both R one last h a.after b.after
    (start_both R one last h f g declared (opened (with_loop l)) (opened (with_loop k)) (opened_both R last (with_loop l) (with_loop k) (looped R last l k (also_loops R last l k q))) start) test) step)))
    (λ x. (x.0.0.0.0.0, loop_same R at to l.loops k.loops x.0.0.0.0.1 loop_keyword.For keyword.span word.span a.made b.made x.0.0.0.1 v.made w.made x.0.0.1 c.made e.made x.0.1 d.made i.made x.1))

-- ## Labels and jumps

-- a statement after a label: it is refused unless labels may stand there
pub labelled_both : (R : Pairing) (last : ℕ) (h : Keep) (at to : At) (b : Bool) (l k x y : Local) (D G : Local → Done PlainStatement) → Each R last D G
    → Makes R last (SameStatement R) l k (if b then D (if b then l else x) else refused_statement h at (D (if b then l else x))) (if b then G (if b then k else y) else refused_statement h to (G (if b then k else y)))
labelled_both R last h at to true l k x y D G each = each l k
labelled_both R last h at to false l k x y D G each = λ a quiet. refused_here last h subset.BadJump at (D x).after (refusing_in h true subset.BadJump to (G y).after).standing quiet

pub default_both : (R : Pairing) (last : ℕ) (h : Keep) (at to : At) (b : Bool) (l k : Local) (D G : Local → Done PlainStatement) → Each R last D G
    → Makes R last (SameStatement R) l k (if b then D l else refused_statement h at (D l)) (if b then G k else refused_statement h to (G k))
default_both R last h at to true l k D G each = each l k
default_both R last h at to false l k D G each = λ a quiet. refused_here last h subset.BadJump at (D l).after (refusing_in h true subset.BadJump to (G k).after).standing quiet

-- a form where it may stand
form_where : (R : Pairing) (last : ℕ) (h : Keep) (b : Bool) (code : SubsetCode) (at to : At) (f : PlainStatementForm) (l k : Local) → SameStatementForm R f f
    → Makes R last (SameStatement R) l k (if b then made_at at f l else record { made = None; after = refusing_in h true code at l }) (if b then made_at to f k else record { made = None; after = refusing_in h true code to k })
form_where R last h b code at to f l k same =
    whole R last l k (if b then made_at at f l else record { made = None; after = refusing_in h true code at l }).after (if b then made_at to f k else record { made = None; after = refusing_in h true code to k }).after
    (λ a. unless_refused R last h b b code at to f f l k same a) (λ x. x)

pub break_both : (R : Pairing) (last : ℕ) (h : Keep) (b : Bool) (at to : At) (l k : Local) → Makes R last (SameStatement R) l k (jump h b at break l) (jump h b to break k)
break_both R last h b at to l k = form_where R last h b subset.BadJump at to break l k same_break

pub continue_both : (R : Pairing) (last : ℕ) (h : Keep) (b : Bool) (at to : At) (l k : Local) → Makes R last (SameStatement R) l k (jump h b at continue l) (jump h b to continue k)
continue_both R last h b at to l k = form_where R last h b subset.BadJump at to continue l k same_continue

pub pragma_both : (R : Pairing) (last : ℕ) (h : Keep) (in_main : Bool) (at to : At) (text : Text) (l k : Local) → Makes R last (SameStatement R) l k (pragma_done h in_main at (mark (mark_of text)) l) (pragma_done h in_main to (mark (mark_of text)) k)
pragma_both R last h in_main at to text l k = form_where R last h in_main subset.MisplacedPragma at to (mark (mark_of text)) l k same_mark

-- a statement that is refused
pub refused_both : {A : Type 0} (R : Pairing) (last : ℕ) (h : Keep) (P : A → A → Type 0) (at to : At) (l k m n : Local) → Makes R last P l k (record { made = None; after = refusing_in h true subset.BadJump at m }) (record { made = None; after = refusing_in h true subset.BadJump to n })
refused_both R last h P at to l k m n a quiet = refused_here last h subset.BadJump at m (refusing_in h true subset.BadJump to n).standing quiet

-- ## `return`

unless_both : {A : Type 0} (P : A → A → Type 0) (b c : Bool) (f g : Ruled A) (code : SubsetCode) (at to : At) → Ruling P f g → Ruling P (if b then refused code at else f) (if c then refused code to else g)
unless_both P false false f g code at to h = h
unless_both P false true f g code at to h = none_right P f (record { code = code; at = to })
unless_both P true c f g code at to h = tt

returned_both : (R : Pairing) → IsOneToOne R → (at to : At) (t u : PlainType) → SameType R t u → (v w : PlainValue) → SameValue R v w → Ruling (SameValue R) (returned at t v) (returned to u w)
returned_both R one at to t u h v w k = unless_both (SameValue R) (is_void t) (is_void u) (fitted at v t) (fitted to w u) subset.TypesDiffer at to (fitted_both R one at to v w t u k h)

abbrev return_with : At → At → Option PlainValue → Option PlainStatement
return_with at keyword None = None
return_with at keyword (Some v) = Some (statement at (return keyword.span (Some v)))

return_same : (R : Pairing) (at to keyword word : At) (m n : Option PlainValue) → Both (SameValue R) m n → Both (SameStatement R) (return_with at keyword m) (return_with to word n)
return_same R at to keyword word None None a = tt
return_same R at to keyword word (Some v) (Some w) a = same_statement (same_return (same_some a))
return_same R at to keyword word None (Some w) a = absurd a
return_same R at to keyword word (Some v) None a = absurd a

pub return_both : (R : Pairing) → IsOneToOne R → (last : ℕ) (h : Keep) (f g : Frame) → SameFrame R f g → (at to keyword word : At) (e : Optional (At × At))
    → Each R last (return_done h f at keyword (mapped_optional left e)) (return_done h g to word (mapped_optional right e))
return_both R one last h f g same at to keyword word Absent l k =
    whole R last l k (return_done h f at keyword Absent l).after (return_done h g to word Absent k).after
    (λ a. unless_refused R last h (is_void f.result) (is_void g.result) subset.TypesDiffer at to (return keyword.span None) (return word.span None) l k (same_return same_none) a) (λ b. b)
return_both R one last h f g same at to keyword word (Present e) l k =
    let d : Done PlainValue = done_in l (value_by h l.standing (mapped_expression left e) (returned at f.result)) in
    let c : Done PlainValue = done_in k (value_by h k.standing (mapped_expression right e) (returned to g.result)) in
    whole R last l k d.after c.after
    (λ a. stands R last l k d.after.standing c.after.standing a
    (value_by_both R one last h (SameValue R) l.standing k.standing e (returned at f.result) (returned to g.result) (returned_both R one at to f.result g.result same.result)))
    (λ b. (b.0, return_same R at to keyword word d.made c.made b.1))

-- ## Items of a block

-- the items so far, which are the same
abbrev pub Items : Pairing → ℕ → Type 0 → Block' → Block' → Type 0
Items R last B b c = Quiet R last (B × Both (SameRow R) b.made c.made) b.after c.after

pub item_both : {B : Type 0} (R : Pairing) (last : ℕ) (b c : Block') (i j : Kind) (d g : Done PlainStatement) → Makes' R last (B × Both (SameRow R) b.made c.made) (SameStatement R) d g → Items R last B (with_statement b i d) (with_statement c j g)
item_both R last b c i j d g a = so R last d.after g.after (λ x. (x.0.0, added R b.made c.made x.0.1 d.made g.made x.1)) a

pub declaration_both : {B : Type 0} (R : Pairing) (last : ℕ) (h : Keep) (f g : Frame) → Declared R last h f g → (b c : Block') → Items R last B b c → (d : Declaration (At × At))
    → Items R last B (with_declared b (declared_locally h f site_is.InBlock b.after (mapped_declaration left d))) (with_declared c (declared_locally h g site_is.InBlock c.after (mapped_declaration right d)))
declaration_both R last h f g declared b c a d =
    let p : Declaring = declared_locally h f site_is.InBlock b.after (mapped_declaration left d) in
    let q : Declaring = declared_locally h g site_is.InBlock c.after (mapped_declaration right d) in
    so R last p.after q.after (λ x. (x.0.0, items_same R x.1 b.made c.made x.0.1)) (then_on R last b.after c.after p.after q.after a (declared site_is.InBlock b.after c.after d))

-- ## Items of a `switch`

one_longer : {A : Type 0} (xs ys : List A) (x y : A) → length xs ≡ length ys → length (xs ++ x ∷ []) ≡ length (ys ++ y ∷ [])
one_longer xs ys x y e = length-append xs (x ∷ []) ∙ (ap (λ n. n + 1) e ∙ sym (length-append ys (y ∷ [])))

-- items and labels so far, which are the same
abbrev pub Switches : Pairing → ℕ → Type 0 → Switched → Switched → Type 0
Switches R last B w x = Quiet R last ((B × Both (SameRow R) w.items.made x.items.made) × SameLabels w.labels x.labels) w.items.after x.items.after

-- the labels before the next item
pub next_labels : {B : Type 0} (R : Pairing) → IsOneToOne R → (last : ℕ) (h : Keep) (o q : Option PlainValue) → (B → Both (SameValue R) o q) → (w x : Switched) → length w.items.kinds ≡ length x.items.kinds → Switches R last B w x → (s : Statement (At × At))
    → Labels R last (B × Both (SameRow R) w.items.made x.items.made) (with_labels h o w (mapped_statement left s)) (with_labels h q x (mapped_statement right s))
next_labels {B = B} R one last h o q see w x same a s =
    subst (λ n. Labels R last (B × Both (SameRow R) w.items.made x.items.made) (with_labels h o w (mapped_statement left s)) (labels_noted h n q (record x.labels { after = x.items.after }) (mapped_statement right s))) same
    (labels_both R one last h (length w.items.kinds) o q (λ b. see b.0) (record w.labels { after = w.items.after }) (record x.labels { after = x.items.after }) a s)

-- one item more
pub switched_item : {B : Type 0} (R : Pairing) (last : ℕ) (w x : Switched) (k j : Labelled) (D G : Local → Done PlainStatement) → Each R last D G → Labels R last (B × Both (SameRow R) w.items.made x.items.made) k j
    → Switches R last B (record { items = with_statement w.items item.Other (D k.after); labels = k }) (record { items = with_statement x.items item.Other (G j.after); labels = j })
switched_item R last w x k j D G each a =
    so R last (D k.after).after (G j.after).after (λ y. ((y.0.0.0, added R w.items.made x.items.made y.0.0.1 (D k.after).made (G j.after).made y.1), y.0.1))
    (then_on R last k.after j.after (D k.after).after (G j.after).after a (each k.after j.after))

pub longer : (w x : Switched) (d g : Done PlainStatement) → length w.items.kinds ≡ length x.items.kinds → length (with_statement w.items item.Other d).kinds ≡ length (with_statement x.items item.Other g).kinds
longer w x d g e = one_longer w.items.kinds x.items.kinds item.Other item.Other e

-- a `switch` whose body is no block
abbrev pub switch_plain : Keep → At → At → Expression At → (Local → Done PlainStatement) → Local → Done PlainStatement
switch_plain h at keyword e D l =
    let v : Done PlainValue = switch_done h (opened l) e in
    let d : Done PlainStatement = part_ended (D (opened v.after)) in
    record { made = switch_of at keyword v.made (record { cases = Some []; otherwise = None; after = d.after }) d.made; after = closed d.after }

pub plain_both : (R : Pairing) → IsOneToOne R → (last : ℕ) (h : Keep) (at to keyword word : At) (e : Expression (At × At)) (D G : Local → Done PlainStatement) → Each R last D G
    → Each R last (switch_plain h at keyword (mapped_expression left e) D) (switch_plain h to word (mapped_expression right e) G)
plain_both R one last h at to keyword word e D G each l k =
    let v : Done PlainValue = switch_done h (opened l) (mapped_expression left e) in
    let w : Done PlainValue = switch_done h (opened k) (mapped_expression right e) in
    let d : Done PlainStatement = part_ended (D (opened v.after)) in
    let g : Done PlainStatement = part_ended (G (opened w.after)) in
    whole R last l k (closed d.after) (closed g.after)
    (λ a. closed_both R last d.after g.after (part_both R last D G each v.after w.after (switch_both R one last h (opened l) (opened k) (opened_both R last l k a) e)))
    (λ b. (b.0.0, switch_same R at to keyword word (Some []) (Some []) refl None None refl d.after g.after v.made w.made b.0.1 d.made g.made b.1))

-- a `switch` with a block
abbrev pub switch_block : Keep → At → At → At → Expression At → (Option PlainValue → Local → Switched) → Local → Done PlainStatement
switch_block h at keyword place e S l =
    let v : Done PlainValue = switch_done h (opened l) e in
    let w : Switched = S v.made (opened v.after) in
    record { made = switch_of at keyword v.made w.labels (block_of place w.items.made); after = closed (closed w.items.after) }

-- items of both, by what is switched on and what a body has before them; what is known before them stays known
abbrev pub EachSwitched : Pairing → ℕ → Type 0 → (Option PlainValue → Local → Switched) → (Option PlainValue → Local → Switched) → Type 0
EachSwitched R last B S T = (o q : Option PlainValue) (l k : Local) → Quiet R last (B × Both (SameValue R) o q) l k → Switches R last (B × Both (SameValue R) o q) (S o l) (T q k)

pub block_both : (R : Pairing) → IsOneToOne R → (last : ℕ) (h : Keep) (at to keyword word place other : At) (e : Expression (At × At)) (S T : Option PlainValue → Local → Switched) (l k : Local)
    → EachSwitched R last (AreQuiet last l.standing k.standing) S T → Makes R last (SameStatement R) l k (switch_block h at keyword place (mapped_expression left e) S l) (switch_block h to word other (mapped_expression right e) T k)
block_both R one last h at to keyword word place other e S T l k each =
    let v : Done PlainValue = switch_done h (opened l) (mapped_expression left e) in
    let w : Done PlainValue = switch_done h (opened k) (mapped_expression right e) in
    let x : Switched = S v.made (opened v.after) in
    let y : Switched = T w.made (opened w.after) in
    whole R last l k (closed (closed x.items.after)) (closed (closed y.items.after))
    (λ a. closed_both R last (closed x.items.after) (closed y.items.after)
    (closed_both R last x.items.after y.items.after
    (each v.made w.made (opened v.after) (opened w.after) (opened_both R last v.after w.after (switch_both R one last h (opened l) (opened k) (opened_both R last l k a) e)))))
    (λ b. (
      b.0.0.0,
      switch_same R at to keyword word x.labels.cases y.labels.cases b.1.0 x.labels.otherwise y.labels.otherwise b.1.1 x.labels.after y.labels.after v.made w.made b.0.0.1 (block_of place x.items.made) (block_of other y.items.made)
          (block_same R place other x.items.made y.items.made b.0.1),
    ))

-- Statements of their parts: what the body of a function has after each part.
use Rattle.std.specs.Prelude.{◌≡◌, false, Option}
use Rattle.std.proofs.Common.{◌∙◌, ap}
use Rattle.p10_base.specs.declared.at.At.{At}
use Rattle.p10_syn.specs.Trees.{Expression, Optional, Statement, Evaluate, Block, If, IfElse, While, Do, For, Statements}
use Rattle.p10_core.specs.declared.statements.LoopHead.{LoopHead}
use Rattle.p10_core.specs.declared.statements.LoopKeyword.TheVariants as loop_keyword
use Rattle.p10_core.specs.Typed.{PlainValue, PlainStatement}
use Rattle.p10_elabx.specs.First.{only_first}
use Rattle.p10_elabs.specs.declared.kind.Kind.{Kind}
use Rattle.p10_elabs.specs.declared.round.Round.{Round}
use Rattle.p10_elabs.specs.Expressions.{expression_statement, test_done}
use Rattle.p10_elabs.specs.Locals.{Frame, Local, Done, opened, closed}
use Rattle.p10_elabs.specs.Marks.{test_kind}
use Rattle.p10_elabs.specs.Statements.{inside, inside_loop, with_loop, head_of, kind_of, Block', no_items_yet, block_of, if_of, if_else_of, loop_of, tested_loop, part_ended, done, items_done}
use Rattle.p10_elabs.specs.private.Steps.{ForClauses, clauses_done}

-- what a part makes, and what the body has then
abbrev pub as_done : {A : Type 0} → Option A → Local → Done A
as_done made l = record { made = made; after = l }

-- ## Parts

pub part_made : (f : Frame) (r : Round) (l0 l1 l2 l3 : Local) (s : Statement At) (made : Option PlainStatement) →
    l1 ≡ opened l0 → as_done made l2 ≡ done only_first f r l1 s → l3 ≡ closed l2 → as_done made l3 ≡ part_ended (done only_first f r (opened l0) s)
part_made f r l0 l1 l2 l3 s made enter inner close =
    ap (as_done made) close ∙ ap part_ended (inner ∙ ap (λ l. done only_first f r l s) enter)

pub block_made : (f : Frame) (r q : Round) (l0 l1 l3 : Local) (at : At) (ss : Statements At) (b0 b : Block') (made : Option PlainStatement) →
    q ≡ inside r → l1 ≡ opened l0 → b0 ≡ no_items_yet l1 → b ≡ items_done only_first f false q b0 ss → l3 ≡ closed b.after → made ≡ block_of at b.made →
    as_done made l3 ≡ done only_first f r l0 (Block at ss)
block_made f r q l0 l1 l3 at ss b0 b made round enter none items close is =
    ap (λ m. as_done m l3) is ∙ ap (as_done (block_of at b.made)) close
    ∙ ap (λ (x : Block'). as_done (block_of at x.made) (closed x.after)) (items ∙ ap (λ x. items_done only_first f false x b0 ss) round ∙ ap (λ x. items_done only_first f false (inside r) x ss) (none ∙ ap no_items_yet enter))

-- ## `if`

pub if_made : (f : Frame) (r q : Round) (l0 l1 l2 l3 l4 : Local) (at : At) (e : Expression At) (s : Statement At) (v : Option PlainValue) (b made : Option PlainStatement) →
    q ≡ inside r → l1 ≡ opened l0 → as_done v l2 ≡ test_done only_first l1 e → as_done b l3 ≡ part_ended (done only_first f q (opened l2) s) → l4 ≡ closed l3 → made ≡ if_of at v b →
    as_done made l4 ≡ done only_first f r l0 (If at e s)
if_made f r q l0 l1 l2 l3 l4 at e s v b made round enter test part close is =
    let d : Done PlainValue = test_done only_first (opened l0) e in
    let tested : as_done v l2 ≡ d = test ∙ ap (λ l. test_done only_first l e) enter in
    ap (λ m. as_done m l4) is ∙ ap (as_done (if_of at v b)) close
    ∙ ap (λ (x : Done PlainStatement). as_done (if_of at v x.made) (closed x.after)) (part ∙ ap (λ x. part_ended (done only_first f x (opened l2) s)) round)
    ∙ ap (λ (x : Done PlainValue). let p : Done PlainStatement = part_ended (done only_first f (inside r) (opened x.after) s) in as_done (if_of at x.made p.made) (closed p.after)) tested

pub if_else_made : (f : Frame) (r q : Round) (l0 l1 l2 l3 l4 l5 : Local) (at : At) (e : Expression At) (s t : Statement At) (v : Option PlainValue) (b c made : Option PlainStatement) →
    q ≡ inside r → l1 ≡ opened l0 → as_done v l2 ≡ test_done only_first l1 e → as_done b l3 ≡ part_ended (done only_first f q (opened l2) s) →
    as_done c l4 ≡ part_ended (done only_first f q (opened l3) t) → l5 ≡ closed l4 → made ≡ if_else_of at v b c →
    as_done made l5 ≡ done only_first f r l0 (IfElse at e s t)
if_else_made f r q l0 l1 l2 l3 l4 l5 at e s t v b c made round enter test part other close is =
    let d : Done PlainValue = test_done only_first (opened l0) e in
    let tested : as_done v l2 ≡ d = test ∙ ap (λ l. test_done only_first l e) enter in
    ap (λ m. as_done m l5) is ∙ ap (as_done (if_else_of at v b c)) close
    ∙ ap (λ (x : Done PlainStatement). as_done (if_else_of at v b x.made) (closed x.after)) (other ∙ ap (λ x. part_ended (done only_first f x (opened l3) t)) round)
    ∙ ap (λ (x : Done PlainStatement). let g : Done PlainStatement = part_ended (done only_first f (inside r) (opened x.after) t) in as_done (if_else_of at v x.made g.made) (closed g.after)) (part ∙ ap (λ x. part_ended (done only_first f x (opened l2) s)) round)
    ∙ ap (λ (x : Done PlainValue).
    let p : Done PlainStatement = part_ended (done only_first f (inside r) (opened x.after) s) in
    let q : Done PlainStatement = part_ended (done only_first f (inside r) (opened p.after) t) in
    as_done (if_else_of at x.made p.made q.made) (closed q.after)) tested

-- ## Loops

pub while_made : (f : Frame) (r q : Round) (l0 l1 l2 l3 l4 l5 : Local) (at k : At) (e : Expression At) (s : Statement At) (head : LoopHead) (v : Option PlainValue) (b made : Option PlainStatement) →
    q ≡ inside_loop r → head ≡ head_of loop_keyword.While k l0 → l1 ≡ with_loop l0 → l2 ≡ opened l1 → as_done v l3 ≡ test_done only_first l2 e →
    as_done b l4 ≡ part_ended (done only_first f q (opened l3) s) → l5 ≡ closed l4 → made ≡ tested_loop at head v b →
    as_done made l5 ≡ done only_first f r l0 (While at k e s)
while_made f r q l0 l1 l2 l3 l4 l5 at k e s head v b made round begun counted enter test part close is =
    let d : Done PlainValue = test_done only_first (opened (with_loop l0)) e in
    let tested : as_done v l3 ≡ d = test ∙ ap (λ l. test_done only_first l e) (enter ∙ ap opened counted) in
    ap (λ m. as_done m l5) is ∙ ap (λ h. as_done (tested_loop at h v b) l5) begun ∙ ap (as_done (tested_loop at (head_of loop_keyword.While k l0) v b)) close
    ∙ ap (λ (x : Done PlainStatement). as_done (tested_loop at (head_of loop_keyword.While k l0) v x.made) (closed x.after)) (part ∙ ap (λ x. part_ended (done only_first f x (opened l3) s)) round)
    ∙ ap (λ (x : Done PlainValue).
    let p : Done PlainStatement = part_ended (done only_first f (inside_loop r) (opened x.after) s) in
    as_done (tested_loop at (head_of loop_keyword.While k l0) x.made p.made) (closed p.after)) tested

pub while_kind : (l0 l1 l2 l3 : Local) (at k : At) (e : Expression At) (s : Statement At) (v : Option PlainValue) (kind : Kind) →
    l1 ≡ with_loop l0 → l2 ≡ opened l1 → as_done v l3 ≡ test_done only_first l2 e → kind ≡ test_kind v → kind ≡ kind_of only_first l0 (While at k e s)
while_kind l0 l1 l2 l3 at k e s v kind counted enter test is =
    is ∙ ap (λ (x : Done PlainValue). test_kind x.made) (test ∙ ap (λ l. test_done only_first l e) (enter ∙ ap opened counted))

pub do_made : (f : Frame) (r q : Round) (l0 l1 l2 l3 l4 l5 : Local) (at k : At) (e : Expression At) (s : Statement At) (head : LoopHead) (v : Option PlainValue) (b made : Option PlainStatement) →
    q ≡ inside_loop r → head ≡ head_of loop_keyword.Do k l0 → l1 ≡ with_loop l0 → l2 ≡ opened l1 → as_done b l3 ≡ part_ended (done only_first f q (opened l2) s) →
    as_done v l4 ≡ test_done only_first l3 e → l5 ≡ closed l4 → made ≡ tested_loop at head v b →
    as_done made l5 ≡ done only_first f r l0 (Do at k s e)
do_made f r q l0 l1 l2 l3 l4 l5 at k e s head v b made round begun counted enter part test close is =
    let d : Done PlainStatement = part_ended (done only_first f (inside_loop r) (opened (opened (with_loop l0))) s) in
    let parted : as_done b l3 ≡ d = part ∙ ap (λ x. part_ended (done only_first f x (opened l2) s)) round ∙ ap (λ l. part_ended (done only_first f (inside_loop r) (opened l) s)) (enter ∙ ap opened counted) in
    ap (λ m. as_done m l5) is ∙ ap (λ h. as_done (tested_loop at h v b) l5) begun ∙ ap (as_done (tested_loop at (head_of loop_keyword.Do k l0) v b)) close
    ∙ ap (λ (x : Done PlainValue). as_done (tested_loop at (head_of loop_keyword.Do k l0) x.made b) (closed x.after)) test
    ∙ ap (λ (x : Done PlainStatement).
    let t : Done PlainValue = test_done only_first x.after e in
    as_done (tested_loop at (head_of loop_keyword.Do k l0) t.made x.made) (closed t.after)) parted

pub for_made : (f : Frame) (r q : Round) (l0 l1 l2 l4 l5 : Local) (at k : At) (start s : Statement At) (test step : Optional At) (head : LoopHead) (c : ForClauses) (b made : Option PlainStatement) →
    q ≡ inside_loop r → head ≡ head_of loop_keyword.For k l0 → l1 ≡ with_loop l0 → l2 ≡ opened l1 → c ≡ clauses_done only_first f l2 start test step →
    as_done b l4 ≡ part_ended (done only_first f q (opened c.after) s) → l5 ≡ closed l4 → made ≡ loop_of at head c.first c.test c.third b →
    as_done made l5 ≡ done only_first f r l0 (For at k start test step s)
for_made f r q l0 l1 l2 l4 l5 at k start s test step head c b made round begun counted enter clauses part close is =
    let d : ForClauses = clauses_done only_first f (opened (with_loop l0)) start test step in
    let found : c ≡ d = clauses ∙ ap (λ l. clauses_done only_first f l start test step) (enter ∙ ap opened counted) in
    ap (λ m. as_done m l5) is ∙ ap (λ h. as_done (loop_of at h c.first c.test c.third b) l5) begun
    ∙ ap (as_done (loop_of at (head_of loop_keyword.For k l0) c.first c.test c.third b)) close
    ∙ ap (λ (x : Done PlainStatement). as_done (loop_of at (head_of loop_keyword.For k l0) c.first c.test c.third x.made) (closed x.after)) (part ∙ ap (λ x. part_ended (done only_first f x (opened c.after) s)) round)
    ∙ ap (λ (x : ForClauses).
    let p : Done PlainStatement = part_ended (done only_first f (inside_loop r) (opened x.after) s) in
    as_done (loop_of at (head_of loop_keyword.For k l0) x.first x.test x.third p.made) (closed p.after)) found

-- ## Expressions

pub expression_made : (f : Frame) (r : Round) (l : Local) (at : At) (e : Expression At) (x : Done PlainStatement) → x ≡ expression_statement only_first l at e → x ≡ done only_first f r l (Evaluate at e)
expression_made f r l at e x is = is

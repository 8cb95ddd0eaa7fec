-- Items of blocks, one after the other.
use Rattle.std.specs.Prelude.{◌≡◌, ℕ, ◌+◌, Bool, Option, List, ◌∷◌, length, map, refl}
use Rattle.std.specs.declared.alloc.Global.{Global}
use Rattle.std.proofs.Common.{◌∙◌, ap, sym, drop, Box}
use Rattle.p10_base.specs.declared.at.At.{At}
use Rattle.p10_base.specs.Words.{Text}
use Rattle.p10_syn.specs.declared.tree.Expr.{Expr}
use Rattle.p10_syn.specs.declared.statement.Stmt.TheVariants as stmt
use Rattle.p10_syn.specs.declared.statement.Stmt.{Stmt}
use Rattle.p10_syn.specs.Trees.{Expression, Statement, Empty, Evaluate, Block, If, IfElse, Switch, While, Do, For, Case, Default, Label, Goto, Break, Continue, Return, Declare, Pragma, Statements, NoStatements, MoreStatements, statement_row}
use Rattle.p10_syn.specs.BuiltStatements.{optional_expression, statement_of}
use Rattle.p10_core.specs.declared.statements.MarkKind.{MarkKind}
use Rattle.p10_core.specs.Typed.{PlainValue, PlainStatement, mark}
use Rattle.p10_elabx.specs.First.{only_first}
use Rattle.p10_elabs.specs.declared.kind.Kind.{Kind}
use Rattle.p10_elabs.specs.declared.kind.Kind.TheVariants as item
use Rattle.p10_elabs.specs.declared.round.Round.{Round}
use Rattle.p10_elabs.specs.Locals.{Frame, Local, Done}
use Rattle.p10_elabs.specs.Marks.{mark_of}
use Rattle.p10_elabs.specs.Statements.{kind_of, for_kind, Block', with_statement, pragma_done, Labelled, Switched, labels_noted, with_labels, done, items_done, switched_done}
use Rattle.p10_elabs.specs.private.Steps.{kept_item, item_done, switched_item, settled}
use Rattle.p10_elabs.proofs.StatementArms.{for_is}
use Rattle.p10_elabs.proofs.StatementParts.{as_done}

-- ## Items

-- the first item, and then the others
item_taken : (f : Frame) (m : Bool) (r : Round) (b : Block') (s : Statement At) (rest : Statements At) →
    items_done only_first f m r b (MoreStatements s rest) ≡ items_done only_first f m r (item_done only_first f m r b s) rest
item_taken f m r b (Empty at) rest = refl
item_taken f m r b (Evaluate at e) rest = refl
item_taken f m r b (Block at ss) rest = refl
item_taken f m r b (If at e s) rest = refl
item_taken f m r b (IfElse at e s t) rest = refl
item_taken f m r b (Switch at k e s) rest = refl
item_taken f m r b (While at k e s) rest = refl
item_taken f m r b (Do at k s e) rest = refl
item_taken f m r b (For at k start test step s) rest = refl
item_taken f m r b (Case at e s) rest = refl
item_taken f m r b (Default at s) rest = refl
item_taken f m r b (Label at name s) rest = refl
item_taken f m r b (Goto at name) rest = refl
item_taken f m r b (Break at) rest = refl
item_taken f m r b (Continue at) rest = refl
item_taken f m r b (Return at k e) rest = refl
item_taken f m r b (Declare d) rest = refl
item_taken f m r b (Pragma at text) rest = refl

pub step_items : (f : Frame) (m : Bool) (r : Round) (i : ℕ) (all : List Stmt) (one : Stmt) (old new : Block') → drop i all ≡ one ∷ drop (i + 1) all →
    new ≡ item_done only_first f m r old (statement_of one) →
    items_done only_first f m r old (statement_row (map statement_of (drop i all))) ≡ items_done only_first f m r new (statement_row (map statement_of (drop (i + 1) all)))
step_items f m r i all one old new cut is =
    ap (λ xs. items_done only_first f m r old (statement_row (map statement_of xs))) cut
    ∙ item_taken f m r old (statement_of one) (statement_row (map statement_of (drop (i + 1) all)))
    ∙ ap (λ b. items_done only_first f m r b (statement_row (map statement_of (drop (i + 1) all)))) (sym is)

pub kept_made : (f : Frame) (r : Round) (b0 b : Block') (l : Local) (kind : Kind) (s : Statement At) (made : Option PlainStatement) →
    as_done made l ≡ done only_first f r b0.after s → b ≡ with_statement b0 kind (as_done made l) → b ≡ kept_item only_first f r kind b0 s
kept_made f r b0 b l kind s made one is = is ∙ ap (with_statement b0 kind) one

pub while_item : (f : Frame) (m : Bool) (r : Round) (b0 b : Block') (l : Local) (kind : Kind) (at k : At) (e : Expression At) (s : Statement At) (made : Option PlainStatement) →
    kind ≡ kind_of only_first b0.after (While at k e s) → as_done made l ≡ done only_first f r b0.after (While at k e s) → b ≡ with_statement b0 kind (as_done made l) →
    b ≡ item_done only_first f m r b0 (While at k e s)
while_item f m r b0 b l kind at k e s made known one is =
    is ∙ ap (λ x. with_statement b0 x (as_done made l)) known ∙ ap (with_statement b0 (kind_of only_first b0.after (While at k e s))) one

pub mark_item : (f : Frame) (m : Bool) (r : Round) (b0 b : Block') (l : Local) (at : At) (text : Text) (k : MarkKind) (made : Option PlainStatement) →
    k ≡ mark_of text → as_done made l ≡ pragma_done only_first m at (mark k) b0.after → b ≡ with_statement b0 (item.Mark k at) (as_done made l) → b ≡ item_done only_first f m r b0 (Pragma at text)
mark_item f m r b0 b l at text k made known one is =
    is ∙ ap (with_statement b0 (item.Mark k at)) one ∙ ap (λ x. with_statement b0 (item.Mark x at) (pragma_done only_first m at (mark x) b0.after)) known

pub for_item : (f : Frame) (m : Bool) (r : Round) (b0 b : Block') (kind : Kind) (s : Stmt) (at k : At) (start : Box Stmt Global) (test step : Option Expr) (a : Box Stmt Global) (first : Stmt) →
    s ≡ stmt.For at k start test step a → first ≡ start.value → kind ≡ for_kind (statement_of first) (optional_expression test) (optional_expression step) →
    b ≡ kept_item only_first f r kind b0 (statement_of s) → b ≡ item_done only_first f m r b0 (statement_of s)
for_item f m r b0 b kind s at k start test step a first is one known e =
    let tree = ap statement_of is ∙ for_is at k start test step a in
    e ∙ ap (λ x. kept_item only_first f r x b0 (statement_of s)) (known ∙ ap (λ y. for_kind (statement_of y) (optional_expression test) (optional_expression step)) one)
    ∙ ap (kept_item only_first f r (for_kind (statement_of start.value) (optional_expression test) (optional_expression step)) b0) tree ∙ ap (item_done only_first f m r b0) (sym tree)

-- ## Items of the block of a `switch`

-- items with their labels, and what the body has after both
abbrev pub switched_of : Block' → Labelled → Local → Switched
switched_of b k l = record { items = b; labels = record k { after = l } }

-- what the body has after the labels doesn't count
settled_alike : (f : Frame) (r : Round) (v : Option PlainValue) (w : Switched) (ss : Statements At) →
    settled (switched_done only_first f r v w ss) ≡ settled (switched_done only_first f r v (settled w) ss)
settled_alike f r v w NoStatements = refl
settled_alike f r v w (MoreStatements s rest) = refl

pub step_switched : (f : Frame) (r : Round) (v : Option PlainValue) (i : ℕ) (all : List Stmt) (one : Stmt) (old new : Switched) → drop i all ≡ one ∷ drop (i + 1) all →
    new ≡ settled (switched_item only_first f r v old (statement_of one)) →
    settled (switched_done only_first f r v old (statement_row (map statement_of (drop i all)))) ≡ settled (switched_done only_first f r v new (statement_row (map statement_of (drop (i + 1) all))))
step_switched f r v i all one old new cut is =
    ap (λ xs. settled (switched_done only_first f r v old (statement_row (map statement_of xs)))) cut
    ∙ settled_alike f r v (switched_item only_first f r v old (statement_of one)) (statement_row (map statement_of (drop (i + 1) all)))
    ∙ ap (λ w. settled (switched_done only_first f r v w (statement_row (map statement_of (drop (i + 1) all))))) (sym is)

pub switched_made : (f : Frame) (r : Round) (v : Option PlainValue) (w : Switched) (n : ℕ) (k : Labelled) (l : Local) (made : Option PlainStatement) (b : Block') (s : Statement At) →
    n ≡ length w.items.kinds → k ≡ labels_noted only_first n v (record w.labels { after = w.items.after }) s → as_done made l ≡ done only_first f r k.after s →
    b ≡ with_statement w.items item.Other (as_done made l) → switched_of b k l ≡ settled (switched_item only_first f r v w s)
switched_made f r v w n k l made b s counted noted one is =
    let all : Labelled = with_labels only_first v w s in
    let known : k ≡ all = noted ∙ ap (λ x. labels_noted only_first x v (record w.labels { after = w.items.after }) s) counted in
    let stands : as_done made l ≡ done only_first f r all.after s = one ∙ ap (λ (x : Labelled). done only_first f r x.after s) known in
    ap (λ x. switched_of x k l) is
    ∙ ap (λ (x : Labelled). switched_of (with_statement w.items item.Other (as_done made l)) x l) known
    ∙ ap (λ (d : Done PlainStatement). switched_of (with_statement w.items item.Other d) all d.after) stands

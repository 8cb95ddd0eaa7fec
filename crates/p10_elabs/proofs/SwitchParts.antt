-- A `switch` of its parts.
use Rattle.std.specs.Prelude.{◌≡◌, ℕ, Option, Some, None, List, [], refl}
use Rattle.std.proofs.Common.{◌∙◌, ap, sym}
use Rattle.p10_base.specs.declared.at.At.{At}
use Rattle.p10_syn.specs.Trees.{Expression, Statement, Empty, Evaluate, Block, If, IfElse, Switch, While, Do, For, Case, Default, Label, Goto, Break, Continue, Return, Declare, Pragma, Statements}
use Rattle.p10_core.specs.declared.statements.Label.{Label as CaseLabel}
use Rattle.p10_core.specs.Typed.{PlainValue, PlainStatement}
use Rattle.p10_elabx.specs.First.{only_first}
use Rattle.p10_elabs.specs.declared.round.Round.{Round}
use Rattle.p10_elabs.specs.Expressions.{switch_done}
use Rattle.p10_elabs.specs.Locals.{Frame, Local, Done, opened, closed}
use Rattle.p10_elabs.specs.Statements.{inside_switch, among_labels, Labelled, Switched, nothing_switched, block_of, switch_of, part_ended, done, switched_done}
use Rattle.p10_elabs.specs.private.Steps.{SwitchBody, plain_body, block_body, body_done, settled, settled_body}
use Rattle.p10_elabs.proofs.StatementParts.{as_done}

-- the labels of a body, what it makes, and what the function's body has then
abbrev pub body_of : Labelled → Option PlainStatement → Local → SwitchBody
body_of k made l = record { labels = record k { after = l }; made = made; after = l }

-- no labels
abbrev without_labels : Local → Labelled
without_labels l = record { cases = Some []; otherwise = None; after = l }

-- ## Bodies

pub plain_made : (f : Frame) (r q : Round) (l0 l1 : Local) (s : Statement At) (k : Labelled) (made : Option PlainStatement) →
    q ≡ inside_switch r → as_done made l1 ≡ part_ended (done only_first f q (opened l0) s) → k ≡ without_labels l1 → body_of k made l1 ≡ settled_body (plain_body only_first f r l0 s)
plain_made f r q l0 l1 s k made round part none =
    ap (λ x. body_of x made l1) none ∙ ap (λ (d : Done PlainStatement). body_of (without_labels d.after) d.made d.after) (part ∙ ap (λ x. part_ended (done only_first f x (opened l0) s)) round)

pub block_made : (f : Frame) (r q : Round) (l0 l1 l3 : Local) (v : Option PlainValue) (place : At) (ss : Statements At) (w0 w : Switched) (made : Option PlainStatement) →
    q ≡ among_labels r → l1 ≡ opened l0 → w0 ≡ nothing_switched l1 → w ≡ settled (switched_done only_first f q v w0 ss) → l3 ≡ closed w.items.after → made ≡ block_of place w.items.made →
    body_of w.labels made l3 ≡ settled_body (block_body only_first f r l0 v place ss)
block_made f r q l0 l1 l3 v place ss w0 w made round enter none items close is =
    ap (λ m. body_of w.labels m l3) is ∙ ap (body_of w.labels (block_of place w.items.made)) close
    ∙ ap (λ (x : Switched). body_of x.labels (block_of place x.items.made) (closed x.items.after))
    (items ∙ ap (λ x. settled (switched_done only_first f x v w0 ss)) round ∙ ap (λ x. settled (switched_done only_first f (among_labels r) v x ss)) (none ∙ ap nothing_switched enter))

-- ## The whole

-- a `switch` by its body
abbrev switched_by : Frame → Round → Local → At → At → Expression At → Statement At → Done PlainStatement
switched_by f r l at k e s =
    let v : Done PlainValue = switch_done only_first (opened l) e in
    let b : SwitchBody = body_done only_first f r v.after v.made s in
    as_done (switch_of at k v.made b.labels b.made) (closed b.after)

switch_is : (f : Frame) (r : Round) (l : Local) (at k : At) (e : Expression At) (s : Statement At) → done only_first f r l (Switch at k e s) ≡ switched_by f r l at k e s
switch_is f r l at k e (Empty a) = refl
switch_is f r l at k e (Evaluate a x) = refl
switch_is f r l at k e (Block a ss) = refl
switch_is f r l at k e (If a x s) = refl
switch_is f r l at k e (IfElse a x s t) = refl
switch_is f r l at k e (Switch a j x s) = refl
switch_is f r l at k e (While a j x s) = refl
switch_is f r l at k e (Do a j s x) = refl
switch_is f r l at k e (For a j start test step s) = refl
switch_is f r l at k e (Case a x s) = refl
switch_is f r l at k e (Default a s) = refl
switch_is f r l at k e (Label a name s) = refl
switch_is f r l at k e (Goto a name) = refl
switch_is f r l at k e (Break a) = refl
switch_is f r l at k e (Continue a) = refl
switch_is f r l at k e (Return a j x) = refl
switch_is f r l at k e (Declare d) = refl
switch_is f r l at k e (Pragma a text) = refl

switch_made : (f : Frame) (r : Round) (l0 l1 l2 l3 l4 : Local) (at k : At) (e : Expression At) (s : Statement At) (v : Option PlainValue) (labels : Labelled) (b made : Option PlainStatement) →
    l1 ≡ opened l0 → as_done v l2 ≡ switch_done only_first l1 e → body_of labels b l3 ≡ settled_body (body_done only_first f r l2 v s) → l4 ≡ closed l3 →
    ((m : Local) → made ≡ switch_of at k v (record labels { after = m }) b) → as_done made l4 ≡ done only_first f r l0 (Switch at k e s)
switch_made f r l0 l1 l2 l3 l4 at k e s v labels b made enter value body close is =
    let d : Done PlainValue = switch_done only_first (opened l0) e in
    let found : as_done v l2 ≡ d = value ∙ ap (λ l. switch_done only_first l e) enter in
    let w : SwitchBody = body_done only_first f r d.after d.made s in
    let stands : body_of labels b l3 ≡ settled_body w = body ∙ ap (λ (x : Done PlainValue). settled_body (body_done only_first f r x.after x.made s)) found in
    ap (λ m. as_done m l4) (is w.labels.after) ∙ ap (as_done (switch_of at k v (record labels { after = w.labels.after }) b)) close
    ∙ ap (λ (x : SwitchBody). as_done (switch_of at k v (record x.labels { after = w.labels.after }) x.made) (closed x.after)) stands
    ∙ ap (λ (x : Done PlainValue). as_done (switch_of at k x.made w.labels w.made) (closed w.after)) found
    ∙ sym (switch_is f r l0 at k e s)

-- the labels so far
abbrev pub labels_of : Option (List CaseLabel) → Option ℕ → Local → Labelled
labels_of cases otherwise l = record { cases = cases; otherwise = otherwise; after = l }

pub switch_found : (f : Frame) (r : Round) (l0 l1 l2 l3 l4 : Local) (at k : At) (e : Expression At) (s : Statement At) (v : Option PlainValue) (cases : Option (List CaseLabel)) (o : Option ℕ) (b made : Option PlainStatement) →
    l1 ≡ opened l0 → as_done v l2 ≡ switch_done only_first l1 e → body_of (labels_of cases o l3) b l3 ≡ settled_body (body_done only_first f r l2 v s) → l4 ≡ closed l3 →
    ((m : Local) → made ≡ switch_of at k v (labels_of cases o m) b) → as_done made l4 ≡ done only_first f r l0 (Switch at k e s)
switch_found f r l0 l1 l2 l3 l4 at k e s v cases o b made enter given body close is =
    switch_made f r l0 l1 l2 l3 l4 at k e s v (labels_of cases o l3) b made enter given body close is

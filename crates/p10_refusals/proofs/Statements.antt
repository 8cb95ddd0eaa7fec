-- Statements where what stands is alike.
use Rattle.std.proofs.Common.{◌≡◌, ◌∙◌, ℕ, ◌+◌, ℤ, Bool, true, false, not, ◌||◌, if◌then◌else◌, List, [], ◌∷◌, ◌++◌, length, Option, Some, None, refl, ap, subst}
use Rattle.p10_base.specs.declared.at.At.{At}
use Rattle.p10_base.specs.declared.codes.SubsetCode.TheVariants as subset
use Rattle.p10_syn.specs.Trees.{Expression, Optional, Absent, Present, Declaration, Statement, Empty, Evaluate, Block, If, IfElse, Switch, While, Do, For, Case, Default, Label, Goto, Break, Continue, Return, Declare, Pragma, Statements, NoStatements, MoreStatements}
use Rattle.p10_core.specs.declared.statements.LoopKeyword.{LoopKeyword}
use Rattle.p10_core.specs.declared.statements.LoopKeyword.TheVariants as loop_keyword
use Rattle.p10_core.specs.declared.statements.Label.{Label as CaseLabel}
use Rattle.p10_core.specs.declared.statements.MarkKind.TheVariants.{InitDone, TaskLoop}
use Rattle.p10_core.specs.Rows.{is_void}
use Rattle.p10_core.specs.Typed.{PlainValue, PlainStatement, statement, PlainStatementForm, return, empty, mark, break, continue}
use Rattle.p10_elabx.specs.First.{on, every, only_first}
use Rattle.p10_elabx.proofs.Firsts.{kept_on}
use Rattle.p10_elabd.specs.Standing.{PlainStanding, refusing}
use Rattle.p10_elabd.specs.Expressions.{value_found, constant_number}
use Rattle.p10_elabd.specs.declared.site.Site.TheVariants as site_is
use Rattle.p10_elabs.specs.Locals.{Frame, Local, Done, refusing_in, opened, closed}
use Rattle.p10_elabs.specs.LocalDeclarations.{Declaring}
use Rattle.p10_elabs.specs.Expressions.{statement_added}
use Rattle.p10_elabs.specs.declared.round.Round.{Round}
use Rattle.p10_elabs.specs.declared.kind.Kind.{Kind}
use Rattle.p10_elabs.specs.declared.kind.Kind.TheVariants as item
use Rattle.p10_elabs.specs.Marks.{mark_of, test_kind, marks_noted, may_precede, no_more}
use Rattle.p10_elabs.specs.Statements.{inside, inside_loop, inside_switch, among_labels, refused_statement, jump, made_at, return_done, returned, head_of, with_loop, kind_of, block_of, if_of, if_else_of, loop_of, tested_loop, Block', no_items_yet, items_added, with_declared, with_statement, pragma_done, Labelled, is_labelled, label_added, case_noted, case_value, case_done, default_done, labels_noted, switch_of, Switched, nothing_switched, with_labels, start_done, declared_at_labels, labelled, constant_done, part_ended, done, items_done, switched_done}
use Rattle.p10_refusals.proofs.Alike.{Alike, alike_refusing, alike_noted}
use Rattle.p10_refusals.proofs.Values.{alike_expression, kept_value_at}
use Rattle.p10_refusals.proofs.Locals.{AlikeLocal, AlikeDone, AlikeDeclaring, done_followed, alike_done_in, alike_refusing_in, alike_opened, alike_closed, alike_declared}
use Rattle.p10_refusals.proofs.Forms.{alike_statement, alike_clause, alike_optional_clause, alike_test, alike_optional_test, alike_switch}

-- ## Pieces

alike_made_at : {l m : Local} (at : At) (f : PlainStatementForm) → AlikeLocal l m → AlikeDone PlainStatement (made_at at f l) (made_at at f m)
alike_made_at at f a = record { made = refl; after = a }

alike_none_made : {A : Type 0} {l m : Local} → AlikeLocal l m → AlikeDone A (record { made = None; after = l }) (record { made = None; after = m })
alike_none_made a = record { made = refl; after = a }

alike_choice : {A : Type 0} {d e x y : Done A} (b : Bool) → AlikeDone A d x → AlikeDone A e y → AlikeDone A (if b then d else e) (if b then x else y)
alike_choice true a b = a
alike_choice false a b = b

alike_refused : {A : Type 0} {d e : Done A} (at : At) → AlikeDone A d e → AlikeDone PlainStatement (refused_statement every at d) (refused_statement only_first at e)
alike_refused at a = record { made = refl; after = alike_refusing_in true subset.BadJump at a.after }

alike_jump : {l m : Local} (may : Bool) (at : At) (f : PlainStatementForm) → AlikeLocal l m → AlikeDone PlainStatement (jump every may at f l) (jump only_first may at f m)
alike_jump may at f a = alike_choice may (alike_made_at at f a) (alike_none_made (alike_refusing_in true subset.BadJump at a))

abbrev return_with : At → At → Option PlainValue → Option PlainStatement
return_with at keyword None = None
return_with at keyword (Some v) = Some (statement at (return keyword.span (Some v)))

alike_return : {l m : Local} (f : Frame) (at keyword : At) (e : Optional At) → AlikeLocal l m → AlikeDone PlainStatement (return_done every f at keyword e l) (return_done only_first f at keyword e m)
alike_return f at keyword Absent a =
    alike_choice (is_void f.result) (alike_made_at at (return keyword.span None) a) (alike_none_made (alike_refusing_in true subset.TypesDiffer at a))
alike_return {l = l} {m = m} f at keyword (Present e) a =
    let d = alike_done_in a (alike_noted (on (value_found every l.standing e) (returned at f.result)) (on (value_found only_first m.standing e) (returned at f.result))
    (kept_on (value_found every l.standing e) (value_found only_first m.standing e) (returned at f.result) (kept_value_at e a.standing)) (alike_expression e a.standing)) in
    record { made = ap (return_with at keyword) d.made; after = d.after }

alike_with_loop : {l m : Local} → AlikeLocal l m → AlikeLocal (with_loop l) (with_loop m)
alike_with_loop a = record { standing = a.standing; count = a.count; variables = a.variables; objects = a.objects; loops = ap (λ n. n + 1) a.loops }

alike_head : {l m : Local} (word : LoopKeyword) (keyword : At) → AlikeLocal l m → head_of word keyword l ≡ head_of word keyword m
alike_head word keyword a = λ i. record { number = a.loops i; keyword = word; span = keyword.span }

alike_kind : {l m : Local} (s : Statement At) → AlikeLocal l m → kind_of every l s ≡ kind_of only_first m s
alike_kind (Pragma at text) a = refl
alike_kind (Return at k e) a = refl
alike_kind (While at k e body) a = ap test_kind (alike_test e (alike_opened (alike_with_loop a))).made
alike_kind (For at k start test step body) a = refl
alike_kind other a = refl

alike_part : {d e : Done PlainStatement} → AlikeDone PlainStatement d e → AlikeDone PlainStatement (part_ended d) (part_ended e)
alike_part a = record { made = a.made; after = alike_closed a.after }

-- ## Items of a block

pub record AlikeBlock (b c : Block') : Type 0 where
  pub made : b.made ≡ c.made
  pub kinds : b.kinds ≡ c.kinds
  pub after : AlikeLocal b.after c.after

pub alike_no_items : {l m : Local} → AlikeLocal l m → AlikeBlock (no_items_yet l) (no_items_yet m)
alike_no_items a = record { made = refl; kinds = refl; after = a }

alike_with_declared : {b c : Block'} {d e : Declaring} → AlikeBlock b c → AlikeDeclaring d e → AlikeBlock (with_declared b d) (with_declared c e)
alike_with_declared a d = record {
  made = λ i. items_added (a.made i) (d.items i);
  kinds = λ i. a.kinds i ++ item.Other ∷ [];
  after = d.after;
}

alike_with_statement : {b c : Block'} {d e : Done PlainStatement} (k j : Kind) → k ≡ j → AlikeBlock b c → AlikeDone PlainStatement d e → AlikeBlock (with_statement b k d) (with_statement c j e)
alike_with_statement k j same a d = record {
  made = λ i. statement_added (a.made i) (d.made i);
  kinds = λ i. a.kinds i ++ same i ∷ [];
  after = d.after;
}

alike_pragma : {l m : Local} (in_main : Bool) (at : At) (f : PlainStatementForm) → AlikeLocal l m → AlikeDone PlainStatement (pragma_done every in_main at f l) (pragma_done only_first in_main at f m)
alike_pragma in_main at f a = alike_choice in_main (alike_made_at at f a) (alike_none_made (alike_refusing_in true subset.MisplacedPragma at a))

-- ## Labels

record AlikeLabelled (k j : Labelled) : Type 0 where
  cases : k.cases ≡ j.cases
  otherwise : k.otherwise ≡ j.otherwise
  after : AlikeLocal k.after j.after

alike_labels_choice : {k j x y : Labelled} (b : Bool) → AlikeLabelled k x → AlikeLabelled j y → AlikeLabelled (if b then k else j) (if b then x else y)
alike_labels_choice true a b = a
alike_labels_choice false a b = b

alike_case_noted : {k j : Labelled} {l m : Local} (at : At) (n : ℕ) (o : Option ℤ) → AlikeLabelled k j → AlikeLocal l m → AlikeLabelled (case_noted every at n k o l) (case_noted only_first at n j o m)
alike_case_noted at n None a b = record { cases = refl; otherwise = a.otherwise; after = b }
alike_case_noted {k = k} {j = j} {l = l} {m = m} at n (Some z) a b =
    subst (λ c. AlikeLabelled (case_noted every at n k (Some z) l)
    (if c then record j { cases = None; after = refusing_in only_first true subset.BadJump at m } else record j { cases = label_added j.cases z n; after = m }))
    (ap (is_labelled z) a.cases)
    (alike_labels_choice (is_labelled z k.cases) (record { cases = refl; otherwise = a.otherwise; after = alike_refusing_in true subset.BadJump at b })
    (record { cases = ap (λ ls. label_added ls z n) a.cases; otherwise = a.otherwise; after = b }))

alike_case : {k j : Labelled} (at : At) (n : ℕ) (on' : Option PlainValue) (e : Expression At) → AlikeLabelled k j → AlikeLabelled (case_done every at n on' k e) (case_done only_first at n on' j e)
alike_case {k = k} {j = j} at n on' e a =
    let d = alike_done_in a.after (alike_noted (on (value_found every k.after.standing e) (case_value on')) (on (value_found only_first j.after.standing e) (case_value on'))
    (kept_on (value_found every k.after.standing e) (value_found only_first j.after.standing e) (case_value on') (kept_value_at e a.after.standing)) (alike_expression e a.after.standing)) in
    done_followed AlikeLabelled (λ o l. case_noted every at n k o l) (λ o l. case_noted only_first at n j o l) d (λ o. alike_case_noted at n o a d.after)

alike_default_with : {l m : Local} (at : At) (n : ℕ) (cases others : Option (List CaseLabel)) (otherwise : Option ℕ) → cases ≡ others → AlikeLocal l m →
    AlikeLabelled (default_done every at n (record { cases = cases; otherwise = otherwise; after = l })) (default_done only_first at n (record { cases = others; otherwise = otherwise; after = m }))
alike_default_with at n cases others None e a = record { cases = e; otherwise = refl; after = a }
alike_default_with at n cases others (Some m) e a = record { cases = refl; otherwise = refl; after = alike_refusing_in true subset.BadJump at a }

alike_default : {k j : Labelled} (at : At) (n : ℕ) → AlikeLabelled k j → AlikeLabelled (default_done every at n k) (default_done only_first at n j)
alike_default {k = k} {j = j} at n a =
    subst (λ o. AlikeLabelled (default_done every at n k) (default_done only_first at n (record { cases = j.cases; otherwise = o; after = j.after }))) a.otherwise
    (alike_default_with at n k.cases j.cases k.otherwise a.cases a.after)

alike_labels : {k j : Labelled} (n : ℕ) (on' : Option PlainValue) (s : Statement At) → AlikeLabelled k j → AlikeLabelled (labels_noted every n on' k s) (labels_noted only_first n on' j s)
alike_labels {k = k} {j = j} n on' (Case at e s) a =
    alike_labels {k = case_done every at n on' k e} {j = case_done only_first at n on' j e} n on' s (alike_case {k = k} {j = j} at n on' e a)
alike_labels {k = k} {j = j} n on' (Default at s) a = alike_labels {k = default_done every at n k} {j = default_done only_first at n j} n on' s (alike_default {k = k} {j = j} at n a)
alike_labels n on' s a = a

record AlikeSwitched (w x : Switched) : Type 0 where
  items : AlikeBlock w.items x.items
  labels : AlikeLabelled w.labels x.labels

alike_nothing_switched : {l m : Local} → AlikeLocal l m → AlikeSwitched (nothing_switched l) (nothing_switched m)
alike_nothing_switched a = record { items = alike_no_items a; labels = record { cases = refl; otherwise = refl; after = a } }

alike_with_labels : {w x : Switched} (on' : Option PlainValue) (s : Statement At) → AlikeSwitched w x → AlikeLabelled (with_labels every on' w s) (with_labels only_first on' x s)
alike_with_labels {w = w} {x = x} on' s a =
    subst (λ ks. AlikeLabelled (with_labels every on' w s) (labels_noted only_first (length ks) on' (record x.labels { after = x.items.after }) s)) a.items.kinds
    (alike_labels (length w.items.kinds) on' s (record { cases = a.labels.cases; otherwise = a.labels.otherwise; after = a.items.after }))

-- ## Parts

no_statements : {l m : Local} → AlikeLocal l m → AlikeDone (List PlainStatement) (record { made = Some []; after = l }) (record { made = Some []; after = m })
no_statements a = record { made = refl; after = a }

alike_start : {l m : Local} (f : Frame) (s : Statement At) → AlikeLocal l m → AlikeDone (List PlainStatement) (start_done every f l s) (start_done only_first f m s)
alike_start f (Declare d) a =
    let p = alike_declared f site_is.InFor d a in
    record { made = ap (items_added (Some [])) p.items; after = p.after }
alike_start f (Evaluate at e) a = alike_clause e a
alike_start f s a = no_statements a

alike_at_labels : {l m : Local} (f : Frame) (d : Declaration At) → AlikeLocal l m → AlikeDone PlainStatement (declared_at_labels every f l d) (declared_at_labels only_first f m d)
alike_at_labels f d a = record { made = refl; after = alike_refusing_in true subset.BadJump d.place (alike_declared f site_is.InBlock d a).after }

alike_labelled : {d e : Done PlainStatement} (r : Round) (at : At) → AlikeDone PlainStatement d e → AlikeDone PlainStatement (labelled every r at d) (labelled only_first r at e)
alike_labelled r at a = alike_choice r.at_labels a (alike_refused at a)

alike_local_choice : {l m x y : Local} (b : Bool) → AlikeLocal l x → AlikeLocal m y → AlikeLocal (if b then l else m) (if b then x else y)
alike_local_choice true a b = a
alike_local_choice false a b = b

alike_constant : {l m : Local} (r : Round) (e : Expression At) → AlikeLocal l m → AlikeLocal (constant_done every r l e) (constant_done only_first r m e)
alike_constant {l = l} {m = m} r e a =
    alike_local_choice r.at_labels a
    (alike_done_in a (alike_noted (on (value_found every l.standing e) constant_number) (on (value_found only_first m.standing e) constant_number)
    (kept_on (value_found every l.standing e) (value_found only_first m.standing e) constant_number (kept_value_at e a.standing)) (alike_expression e a.standing))).after

-- ## Whole `switch` statements

-- what else is known of labels makes no difference
same_switch : (at keyword : At) (v : Option PlainValue) (cases : Option (List CaseLabel)) (otherwise : Option ℕ) (l m : Local) (b : Option PlainStatement) →
    switch_of at keyword v (record { cases = cases; otherwise = otherwise; after = l }) b ≡ switch_of at keyword v (record { cases = cases; otherwise = otherwise; after = m }) b
same_switch at keyword None cases otherwise l m b = refl
same_switch at keyword (Some v) cases otherwise l m None = refl
same_switch at keyword (Some v) None otherwise l m (Some b) = refl
same_switch at keyword (Some v) (Some ls) otherwise l m (Some b) = refl

alike_switch_of : {o p : Option PlainValue} {k j : Labelled} {b c : Option PlainStatement} (at keyword : At) → o ≡ p → AlikeLabelled k j → b ≡ c → switch_of at keyword o k b ≡ switch_of at keyword p j c
alike_switch_of {p = p} {k = k} {j = j} {c = c} at keyword e a f =
    (λ i. switch_of at keyword (e i) (record { cases = a.cases i; otherwise = a.otherwise i; after = k.after }) (f i))
    ∙ same_switch at keyword p j.cases j.otherwise k.after j.after c

-- a `switch` whose body is no block
abbrev switch_plain : At → At → Done PlainValue → Done PlainStatement → Done PlainStatement
switch_plain at keyword v d = record { made = switch_of at keyword v.made (record { cases = Some []; otherwise = None; after = d.after }) d.made; after = closed d.after }

alike_switch_plain : {v x : Done PlainValue} {d e : Done PlainStatement} (at keyword : At) → AlikeDone PlainValue v x → AlikeDone PlainStatement d e → AlikeDone PlainStatement (switch_plain at keyword v d) (switch_plain at keyword x e)
alike_switch_plain {v = v} {x = x} {d = d} {e = e} at keyword a b = record {
  made = alike_switch_of {o = v.made} {p = x.made} {k = record { cases = Some []; otherwise = None; after = d.after }} {j = record { cases = Some []; otherwise = None; after = e.after }} {b = d.made} {c = e.made} at keyword a.made
      (record { cases = refl; otherwise = refl; after = b.after }) b.made;
  after = alike_closed b.after;
}

-- a `switch` with a block
abbrev switch_block : At → At → At → Done PlainValue → Switched → Done PlainStatement
switch_block at keyword place v w = record { made = switch_of at keyword v.made w.labels (block_of place w.items.made); after = closed (closed w.items.after) }

alike_switch_block : {v x : Done PlainValue} {w y : Switched} (at keyword place : At) → AlikeDone PlainValue v x → AlikeSwitched w y → AlikeDone PlainStatement (switch_block at keyword place v w) (switch_block at keyword place x y)
alike_switch_block {v = v} {x = x} {w = w} {y = y} at keyword place a b = record {
  made = alike_switch_of {o = v.made} {p = x.made} {k = w.labels} {j = y.labels} {b = block_of place w.items.made} {c = block_of place y.items.made} at keyword a.made b.labels (ap (block_of place) b.items.made);
  after = alike_closed (alike_closed b.items.after);
}

-- ## The trees

mutual
  alike_done : {l m : Local} (f : Frame) (r : Round) (s : Statement At) → AlikeLocal l m → AlikeDone PlainStatement (done every f r l s) (done only_first f r m s)
  alike_done f r (Empty at) a = alike_made_at at empty a
  alike_done f r (Evaluate at e) a = alike_statement at e a
  alike_done f r (Block at ss) a =
      let b = alike_items f false (inside r) ss (alike_no_items (alike_opened a)) in
      record { made = ap (block_of at) b.made; after = alike_closed b.after }
  alike_done f r (If at e s) a =
      let v = alike_test e (alike_opened a) in
      let d = alike_part (alike_done f (inside r) s (alike_opened v.after)) in
      record { made = λ i. if_of at (v.made i) (d.made i); after = alike_closed d.after }
  alike_done f r (IfElse at e s t) a =
      let v = alike_test e (alike_opened a) in
      let d = alike_part (alike_done f (inside r) s (alike_opened v.after)) in
      let g = alike_part (alike_done f (inside r) t (alike_opened d.after)) in
      record { made = λ i. if_else_of at (v.made i) (d.made i) (g.made i); after = alike_closed g.after }
  alike_done f r (While at k e s) a =
      let v = alike_test e (alike_opened (alike_with_loop a)) in
      let d = alike_part (alike_done f (inside_loop r) s (alike_opened v.after)) in
      record { made = λ i. tested_loop at (alike_head loop_keyword.While k a i) (v.made i) (d.made i); after = alike_closed d.after }
  alike_done f r (Do at k s e) a =
      let d = alike_part (alike_done f (inside_loop r) s (alike_opened (alike_opened (alike_with_loop a)))) in
      let v = alike_test e d.after in
      record { made = λ i. tested_loop at (alike_head loop_keyword.Do k a i) (v.made i) (d.made i); after = alike_closed v.after }
  alike_done f r (For at k start test step s) a =
      let b = alike_start f start (alike_opened (alike_with_loop a)) in
      let v = alike_optional_test test b.after in
      let c = alike_optional_clause step v.after in
      let d = alike_part (alike_done f (inside_loop r) s (alike_opened c.after)) in
      record { made = λ i. loop_of at (alike_head loop_keyword.For k a i) (b.made i) (v.made i) (c.made i) (d.made i); after = alike_closed d.after }
  alike_done f r (Switch at k e (Block place ss)) a =
      let v = alike_switch e (alike_opened a) in
      alike_switch_block at k place v
      (done_followed AlikeSwitched (λ o x. switched_done every f (among_labels r) o (nothing_switched (opened x)) ss) (λ o x. switched_done only_first f (among_labels r) o (nothing_switched (opened x)) ss) v
      (λ o. alike_switched f (among_labels r) o ss (alike_nothing_switched (alike_opened v.after))))
  alike_done f r (Switch at k e s) a =
      let v = alike_switch e (alike_opened a) in
      alike_switch_plain at k v (alike_part (alike_done f (inside_switch r) s (alike_opened v.after)))
  alike_done f r (Case at e s) a = alike_labelled r at (alike_done f r s (alike_constant r e a))
  alike_done f r (Default at s) a = alike_labelled r at (alike_done f r s a)
  alike_done f r (Label at name s) a = alike_refused at (alike_done f r s a)
  alike_done f r (Goto at name) a = alike_none_made (alike_refusing_in true subset.BadJump at a)
  alike_done f r (Break at) a = alike_jump (r.in_loop || r.in_switch) at break a
  alike_done f r (Continue at) a = alike_jump r.in_loop at continue a
  alike_done f r (Return at k e) a = alike_return f at k e a
  alike_done f r (Declare d) a = alike_at_labels f d a
  alike_done f r (Pragma at text) a = alike_pragma false at (mark (mark_of text)) a

  pub alike_items : {b c : Block'} (f : Frame) (in_main : Bool) (r : Round) (ss : Statements At) → AlikeBlock b c → AlikeBlock (items_done every f in_main r b ss) (items_done only_first f in_main r c ss)
  alike_items f in_main r NoStatements a = a
  alike_items f in_main r (MoreStatements (Declare d) rest) a =
      alike_items f in_main r rest (alike_with_declared a (alike_declared f site_is.InBlock d a.after))
  alike_items f in_main r (MoreStatements (Pragma at text) rest) a =
      alike_items f in_main r rest (alike_with_statement (item.Mark (mark_of text) at) (item.Mark (mark_of text) at) refl a (alike_pragma in_main at (mark (mark_of text)) a.after))
  alike_items {b = b} {c = c} f in_main r (MoreStatements s rest) a =
      alike_items f in_main r rest (alike_with_statement (kind_of every b.after s) (kind_of only_first c.after s) (alike_kind s a.after) a (alike_done f r s a.after))

  alike_switched : {w x : Switched} (f : Frame) (r : Round) (on' : Option PlainValue) (ss : Statements At) → AlikeSwitched w x → AlikeSwitched (switched_done every f r on' w ss) (switched_done only_first f r on' x ss)
  alike_switched f r on' NoStatements a = a
  alike_switched f r on' (MoreStatements s rest) a =
      let k = alike_with_labels on' s a in
      alike_switched f r on' rest (record { items = alike_with_statement item.Other item.Other refl a.items (alike_done f r s k.after); labels = k })

-- ## Pragmas

pub alike_marks : {s t : PlainStanding} (first init task : Bool) (ks : List Kind) → Alike s t → Alike (marks_noted every first init task ks s) (marks_noted only_first first init task ks t)
alike_marks first init task [] a = a
alike_marks {s = s} {t = t} first init task (item.Mark InitDone at ∷ rest) a =
    let b : Bool = first || (no_more rest || (init || task)) in
    alike_marks {s = refusing every b subset.MisplacedPragma at s} {t = refusing only_first b subset.MisplacedPragma at t} false true task rest (alike_refusing b subset.MisplacedPragma at a)
alike_marks {s = s} {t = t} first init task (item.Mark TaskLoop at ∷ rest) a =
    let b : Bool = task || not (may_precede rest) in
    alike_marks {s = refusing every b subset.MisplacedPragma at s} {t = refusing only_first b subset.MisplacedPragma at t} false init true rest (alike_refusing b subset.MisplacedPragma at a)
alike_marks first init task (k ∷ rest) a = alike_marks false init task rest a

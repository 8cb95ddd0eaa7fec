-- In the same words statements are the same in both bodies.
use Rattle.std.proofs.Common.{◌≡◌, ℕ, Bool, false, ◌||◌, length, Option, refl}
use Rattle.p10_base.specs.declared.at.At.{At}
use Rattle.p10_syn.specs.Trees.{Statement, Empty, Evaluate, Block, If, IfElse, Switch, While, Do, For, Case, Default, Label, Goto, Break, Continue, Return, Declare, Pragma, Statements, NoStatements, MoreStatements}
use Rattle.p10_core.specs.Typed.{PlainValue, PlainStatement, mark}
use Rattle.p10_elabx.specs.First.{Keep}
use Rattle.p10_elabd.specs.Expressions.{constant_number, value_by}
use Rattle.p10_elabd.specs.declared.site.Site.TheVariants as site_is
use Rattle.p10_elabs.specs.Locals.{Frame, Local, Done, done_in, opened, closed}
use Rattle.p10_elabs.specs.LocalDeclarations.{declared_locally}
use Rattle.p10_elabs.specs.Expressions.{expression_statement}
use Rattle.p10_elabs.specs.declared.round.Round.{Round}
use Rattle.p10_elabs.specs.declared.kind.Kind.TheVariants as item
use Rattle.p10_elabs.specs.Marks.{mark_of}
use Rattle.p10_elabs.specs.Statements.{inside, inside_loop, inside_switch, among_labels, kind_of, Block', no_items_yet, with_declared, with_statement, pragma_done, Labelled, Switched, nothing_switched, with_labels, done, items_done, switched_done}
use Rattle.p10_renaming.specs.Renaming.{Pairing, SameValue, SameStatement, same_statement, same_empty}
use Rattle.p10_expression_renaming.specs.Mapped.{mapped_expression}
use Rattle.p10_expression_renaming.specs.MappedStatements.{mapped_declaration, mapped_statement, mapped_statements}
use Rattle.p10_expression_renaming.specs.Knowing.{IsOneToOne}
use Rattle.p10_expression_renaming.proofs.TypeNames.{left, right}
use Rattle.p10_declaration_renaming.specs.Standings.{Both, AreQuiet}
use Rattle.p10_statement_renaming.specs.Bodies.{SameFrame, SameRow, same_no_row, LocalLeads}
use Rattle.p10_statement_renaming.proofs.Quiet.{Quiet, so, then_on, whole, opened_both, closed_both}
use Rattle.p10_statement_renaming.proofs.Forms.{expression_both}
use Rattle.p10_statement_renaming.proofs.Made.{block_same}
use Rattle.p10_statement_renaming.proofs.Statements.{Each, Declared, if_both, if_else_both, while_both, do_both, for_both, labelled_both, default_both, break_both, continue_both, pragma_both, refused_both, return_both, Items, item_both, declaration_both, Switches, next_labels, switched_item, longer, plain_both, block_both}

-- statements of two functions with what is round them
abbrev left_of : Keep → Frame → Round → Statement (At × At) → Local → Done PlainStatement
left_of h f r s l = done h f r l (mapped_statement left s)

abbrev right_of : Keep → Frame → Round → Statement (At × At) → Local → Done PlainStatement
right_of h f r s l = done h f r l (mapped_statement right s)

-- nothing is switched yet
switched_yet : {B : Type 0} (R : Pairing) (last : ℕ) (l k : Local) → Quiet R last B l k → Switches R last B (nothing_switched l) (nothing_switched k)
switched_yet R last l k a = so R last l k (λ b. ((b, same_no_row), (refl, refl))) a

mutual
  pub statement_both : (R : Pairing) → IsOneToOne R → (last : ℕ) (h : Keep) (f g : Frame) → SameFrame R f g → Declared R last h f g → (r : Round) (s : Statement (At × At)) → Each R last (left_of h f r s) (right_of h g r s)
  statement_both R one last h f g same declared r (Empty at) l k = whole R last l k l k (λ a. a) (λ b. (b, same_statement same_empty))
  statement_both R one last h f g same declared r (Evaluate at e) l k =
      whole R last l k (expression_statement h l at.0 (mapped_expression left e)).after (expression_statement h k at.1 (mapped_expression right e)).after (λ a. expression_both R one last h l k a at.0 at.1 e) (λ b. b)
  statement_both R one last h f g same declared r (Block at all) l k =
      let b : Block' = items_done h f false (inside r) (no_items_yet (opened l)) (mapped_statements left all) in
      let c : Block' = items_done h g false (inside r) (no_items_yet (opened k)) (mapped_statements right all) in
      whole R last l k (closed b.after) (closed c.after)
      (λ a. closed_both R last b.after c.after
      (items_both R one last h f g same declared false (inside r) l k (no_items_yet (opened l)) (no_items_yet (opened k)) (so R last (opened l) (opened k) (λ q. (q, same_no_row)) (opened_both R last l k a)) all))
      (λ x. (x.0, block_same R at.0 at.1 b.made c.made x.1))
  statement_both R one last h f g same declared r (If at e s) l k =
      if_both R one last h at.0 at.1 e (left_of h f (inside r) s) (right_of h g (inside r) s) (statement_both R one last h f g same declared (inside r) s) l k
  statement_both R one last h f g same declared r (IfElse at e s t) l k =
      if_else_both R one last h at.0 at.1 e (left_of h f (inside r) s) (right_of h g (inside r) s) (left_of h f (inside r) t) (right_of h g (inside r) t)
      (statement_both R one last h f g same declared (inside r) s) (statement_both R one last h f g same declared (inside r) t) l k
  statement_both R one last h f g same declared r (While at keyword e s) l k =
      while_both R one last h at.0 at.1 keyword.0 keyword.1 e (left_of h f (inside_loop r) s) (right_of h g (inside_loop r) s) (statement_both R one last h f g same declared (inside_loop r) s) l k
  statement_both R one last h f g same declared r (Do at keyword s e) l k =
      do_both R one last h at.0 at.1 keyword.0 keyword.1 (left_of h f (inside_loop r) s) (right_of h g (inside_loop r) s) (statement_both R one last h f g same declared (inside_loop r) s) e l k
  statement_both R one last h f g same declared r (For at keyword start test step s) l k =
      for_both R one last h f g declared at.0 at.1 keyword.0 keyword.1 start test step (left_of h f (inside_loop r) s) (right_of h g (inside_loop r) s) (statement_both R one last h f g same declared (inside_loop r) s) l k
  statement_both R one last h f g same declared r (Switch at keyword e (Block place all)) l k =
      block_both R one last h at.0 at.1 keyword.0 keyword.1 place.0 place.1 e (λ o m. switched_done h f (among_labels r) o (nothing_switched m) (mapped_statements left all))
      (λ o m. switched_done h g (among_labels r) o (nothing_switched m) (mapped_statements right all)) l k
      (λ o q m n a. switched_both R one last h f g same declared (among_labels r) o q l k (nothing_switched m) (nothing_switched n) refl (switched_yet R last m n a) all)
  statement_both R one last h f g same declared r (Switch at keyword e s) l k =
      plain_both R one last h at.0 at.1 keyword.0 keyword.1 e (left_of h f (inside_switch r) s) (right_of h g (inside_switch r) s) (statement_both R one last h f g same declared (inside_switch r) s) l k
  statement_both R one last h f g same declared r (Case at e s) l k =
      labelled_both R last h at.0 at.1 r.at_labels l k (done_in l (value_by h l.standing (mapped_expression left e) constant_number)).after (done_in k (value_by h k.standing (mapped_expression right e) constant_number)).after
      (left_of h f r s) (right_of h g r s) (statement_both R one last h f g same declared r s)
  statement_both R one last h f g same declared r (Default at s) l k = default_both R last h at.0 at.1 r.at_labels l k (left_of h f r s) (right_of h g r s) (statement_both R one last h f g same declared r s)
  statement_both R one last h f g same declared r (Label at name s) l k = refused_both R last h (SameStatement R) at.0 at.1 l k (left_of h f r s l).after (right_of h g r s k).after
  statement_both R one last h f g same declared r (Goto at name) l k = refused_both R last h (SameStatement R) at.0 at.1 l k l k
  statement_both R one last h f g same declared r (Break at) l k = break_both R last h (r.in_loop || r.in_switch) at.0 at.1 l k
  statement_both R one last h f g same declared r (Continue at) l k = continue_both R last h r.in_loop at.0 at.1 l k
  statement_both R one last h f g same declared r (Return at keyword e) l k = return_both R one last h f g same at.0 at.1 keyword.0 keyword.1 e l k
  statement_both R one last h f g same declared r (Declare d) l k =
      refused_both R last h (SameStatement R) d.place.0 d.place.1 l k (declared_locally h f site_is.InBlock l (mapped_declaration left d)).after (declared_locally h g site_is.InBlock k (mapped_declaration right d)).after
  statement_both R one last h f g same declared r (Pragma at text) l k = pragma_both R last h false at.0 at.1 text l k

  -- the items that follow others since what both bodies had at a start
  pub items_both : (R : Pairing) → IsOneToOne R → (last : ℕ) (h : Keep) (f g : Frame) → SameFrame R f g → Declared R last h f g → (in_main : Bool) (r : Round) (l k : Local) (b c : Block') → Items R last (AreQuiet last l.standing k.standing) b c
      → (all : Statements (At × At)) → Items R last (AreQuiet last l.standing k.standing) (items_done h f in_main r b (mapped_statements left all)) (items_done h g in_main r c (mapped_statements right all))
  items_both R one last h f g same declared in_main r l k b c a NoStatements = a
  items_both R one last h f g same declared in_main r l k b c a (MoreStatements (Declare d) rest) =
      items_both R one last h f g same declared in_main r l k (with_declared b (declared_locally h f site_is.InBlock b.after (mapped_declaration left d))) (with_declared c (declared_locally h g site_is.InBlock c.after (mapped_declaration right d)))
      (declaration_both R last h f g declared b c a d) rest
  items_both R one last h f g same declared in_main r l k b c a (MoreStatements (Pragma at text) rest) =
      let d : Done PlainStatement = pragma_done h in_main at.0 (mark (mark_of text)) b.after in
      let e : Done PlainStatement = pragma_done h in_main at.1 (mark (mark_of text)) c.after in
      items_both R one last h f g same declared in_main r l k (with_statement b (item.Mark (mark_of text) at.0) d) (with_statement c (item.Mark (mark_of text) at.1) e)
      (item_both R last b c (item.Mark (mark_of text) at.0) (item.Mark (mark_of text) at.1) d e
      (then_on R last b.after c.after d.after e.after a (pragma_both R last h in_main at.0 at.1 text b.after c.after))) rest
  items_both R one last h f g same declared in_main r l k b c a (MoreStatements s rest) =
      let d : Done PlainStatement = left_of h f r s b.after in
      let e : Done PlainStatement = right_of h g r s c.after in
      items_both R one last h f g same declared in_main r l k (with_statement b (kind_of h b.after (mapped_statement left s)) d) (with_statement c (kind_of h c.after (mapped_statement right s)) e)
      (item_both R last b c (kind_of h b.after (mapped_statement left s)) (kind_of h c.after (mapped_statement right s)) d e
      (then_on R last b.after c.after d.after e.after a (statement_both R one last h f g same declared r s b.after c.after))) rest

  switched_both : (R : Pairing) → IsOneToOne R → (last : ℕ) (h : Keep) (f g : Frame) → SameFrame R f g → Declared R last h f g → (r : Round) (o q : Option PlainValue) (l i : Local) (w x : Switched)
      → length w.items.kinds ≡ length x.items.kinds → Switches R last (AreQuiet last l.standing i.standing × Both (SameValue R) o q) w x → (all : Statements (At × At))
      → Switches R last (AreQuiet last l.standing i.standing × Both (SameValue R) o q) (switched_done h f r o w (mapped_statements left all)) (switched_done h g r q x (mapped_statements right all))
  switched_both R one last h f g same declared r o q l i w x e a NoStatements = a
  switched_both R one last h f g same declared r o q l i w x e a (MoreStatements s rest) =
      let k : Labelled = with_labels h o w (mapped_statement left s) in
      let j : Labelled = with_labels h q x (mapped_statement right s) in
      switched_both R one last h f g same declared r o q l i
      (record { items = with_statement w.items item.Other (left_of h f r s k.after); labels = k }) (record { items = with_statement x.items item.Other (right_of h g r s j.after); labels = j })
      (longer w x (left_of h f r s k.after) (right_of h g r s j.after) e)
      (switched_item R last w x k j (left_of h f r s) (right_of h g r s) (statement_both R one last h f g same declared r s) (next_labels R one last h o q (λ b. b.1) w x e a s)) rest

pub body_both : (R : Pairing) → IsOneToOne R → (last : ℕ) (h : Keep) (f g : Frame) → SameFrame R f g → Declared R last h f g → (in_main : Bool) (r : Round) (l k : Local) (all : Statements (At × At))
    → LocalLeads R last (Both (SameRow R) (items_done h f in_main r (no_items_yet l) (mapped_statements left all)).made (items_done h g in_main r (no_items_yet k) (mapped_statements right all)).made) l k
    (items_done h f in_main r (no_items_yet l) (mapped_statements left all)).after (items_done h g in_main r (no_items_yet k) (mapped_statements right all)).after
body_both R one last h f g same declared in_main r l k all =
    let b : Block' = items_done h f in_main r (no_items_yet l) (mapped_statements left all) in
    let c : Block' = items_done h g in_main r (no_items_yet k) (mapped_statements right all) in
    whole R last l k b.after c.after (λ a. items_both R one last h f g same declared in_main r l k (no_items_yet l) (no_items_yet k) (so R last l k (λ q. (q, same_no_row)) a) all) (λ x. x)

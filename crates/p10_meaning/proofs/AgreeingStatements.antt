-- Statements agree, where calls do.
use Rattle.std.proofs.Common.{◌≡◌, ℕ, zero, suc, ◌+◌, ◌≤◌, Bool, true, List, [], ◌∷◌, ◌++◌, refl, sym, ◌∙◌, ap, subst, arith, Option, Some, None, slice_get}
use Rattle.std.specs.Prelude.{slice_set}
use Rattle.p10_base.specs.declared.span.Span.{Span}
use Rattle.p10_base.specs.declared.at.At.{At}
use Rattle.p10_core.specs.declared.statements.LoopKeyword.{LoopKeyword}
use Rattle.p10_core.specs.declared.statements.LoopKeyword.TheVariants.{While, Do, For}
use Rattle.p10_core.specs.declared.statements.MarkKind.TheVariants.{InitDone, TaskLoop}
use Rattle.p10_core.specs.Types.{PlainType}
use Rattle.p10_core.specs.Typed.{PlainValue, PlainPlace, place_at, place_type, PlainWritten, one_scalar, scalars_of_text, PlainItem, PlainInitializer, not_initialized, single, copied, listed, PlainStatement, statement, PlainStatementForm, set, update, copy, evaluate as expression, asserts, declare, declare_static, block, if_then, if_else, loop, switch, break, continue, return, empty, mark, PlainStatements, no_statements, more_statements, PlainVariable, PlainProgram}
use Rattle.p10_meaning.specs.declared.pointers.Ptr.{Ptr}
use Rattle.p10_meaning.specs.declared.pointers.Scalar.{Scalar}
use Rattle.p10_meaning.specs.declared.pointers.Cell.{Cell}
use Rattle.p10_meaning.specs.Pointers.{first_of}
use Rattle.p10_meaning.specs.Objects.{declared, all_closed}
use Rattle.p10_meaning.specs.States.{State, StepsSpent, Progress, ends}
use Rattle.p10_meaning.specs.Scalars.{is_true, number_of, unset_cells}
use Rattle.p10_meaning.specs.Values.{Calls, Setting, Held, stands, scalars, width, open_object, Target, Variable, Sensor, Element, pointer_to, evaluate, locate}
use Rattle.p10_meaning.specs.Statements.{Frame, Flow, normal, broken, continued, returned, Done, go_on, in_block, write_target, part_of, write_part, copy_scalars, written_scalars, listed_scalars, fill, initialize, declare_variable, test, next_turn, turns, loop_by, before_third, labelled, from_label, execute, execute_form, execute_from, enter, enter_form, round, looped}
use Rattle.p10_meaning.specs.Laws.{with_more}
use Rattle.p10_meaning.proofs.Following.{follows_objects, follows_open, follows_mark}
use Rattle.p10_meaning.proofs.Agreeing.{Agrees, CallsAgree, no_more, agrees_from, agrees_within, agrees_gives, agrees_here, agrees_spent, agrees_then, agrees_step, agrees_or, agrees_if}
use Rattle.p10_meaning.proofs.AgreeingValues.{more_than, read_agrees, asserted_agrees, evaluate_agrees, discard_agrees, locate_agrees}
use Rattle.p10_meaning.proofs.Spent.{test_none, turns_none}

-- ## Parts

pub go_agrees : (k m : ℕ) (flow : Flow) (frame : Frame) (w : State) (rest other : Frame → State → Progress Done) → w.left ≤ m →
    Agrees k m w (rest frame w) (other frame (with_more k w)) → Agrees k m w (go_on flow frame w rest) (go_on flow frame (with_more k w) other)
go_agrees k m normal frame w rest other l h = h
go_agrees k m broken frame w rest other l h = agrees_here k m _ w l
go_agrees k m continued frame w rest other l h = agrees_here k m _ w l
go_agrees k m (returned x) frame w rest other l h = agrees_here k m _ w l

block_agrees : (k m : ℕ) (run other : Frame → State → Progress Done) (frame : Frame) (w : State) →
    Agrees k m w (run (record frame { opened = [] }) w) (other (record frame { opened = [] }) (with_more k w)) → Agrees k m w (in_block run frame w) (in_block other frame (with_more k w))
block_agrees k m run other frame w h = agrees_then k m m w _ _ _ _ h
    (λ done w l. agrees_gives k m w _ (record w { objects = all_closed done.frame.opened w.objects }) l (follows_objects w _))

label_agrees : (k m : ℕ) (i : Option ℕ) (run other : ℕ → Frame → State → Progress Done) (frame : Frame) (w : State) → w.left ≤ m →
    ((i : ℕ) → Agrees k m w (run i (record frame { opened = [] }) w) (other i (record frame { opened = [] }) (with_more k w))) → Agrees k m w (from_label i run frame w) (from_label i other frame (with_more k w))
label_agrees k m None run other frame w l h = agrees_here k m _ w l
label_agrees k m (Some i) run other frame w l h = block_agrees k m (run i) (other i) frame w (h i)

write_agrees : (k m : ℕ) (span : Span) (target : Target) (cell : Cell) (frame : Frame) (w : State) → w.left ≤ m → Agrees k m w (write_target span target cell frame w) (write_target span target cell frame (with_more k w))
write_agrees k m span (Variable n) cell frame w l = agrees_here k m _ w l
write_agrees k m span Sensor cell frame w l = agrees_here k m _ w l
write_agrees k m span (Element q) cell frame w l = agrees_or k m _ span w _ _ (λ objects. agrees_gives k m w _ (record w { objects = objects }) l (follows_objects w objects))

copy_agrees : (k m n i : ℕ) (to_span : Span) (to : Ptr) (from_span : Span) (from : Ptr) (frame : Frame) (w : State) → w.left ≤ m →
    Agrees k m w (copy_scalars n i to_span to from_span from frame w) (copy_scalars n i to_span to from_span from frame (with_more k w))
copy_agrees k m zero i to_span to from_span from frame w l = agrees_here k m _ w l
copy_agrees k m (suc n) i to_span to from_span from frame w l = agrees_step k m w _ _ (more_than w.left m l) (λ j l.
    agrees_or {A = Cell} k m (part_of w.objects from i) from_span (record w { left = j }) _ _ (λ cell. agrees_or k m (write_part w.objects to i cell) to_span (record w { left = j }) _ _ (λ objects.
    agrees_from k m (record w { left = j }) (record w { left = j; objects = objects }) _ _ (follows_objects (record w { left = j }) objects)
    (copy_agrees k m n (suc i) to_span to from_span from frame (record w { left = j; objects = objects }) l))))

fill_agrees : (k m : ℕ) (span : Span) (xs : List (ℕ × Scalar)) (types : List PlainType) (i : ℕ) (q : Ptr) (frame : Frame) (w : State) → w.left ≤ m →
    Agrees k m w (fill span xs types i q frame w) (fill span xs types i q frame (with_more k w))
fill_agrees k m span xs [] i q frame w l = agrees_here k m _ w l
fill_agrees k m span xs (t ∷ types) i q frame w l = agrees_step k m w _ _ (more_than w.left m l) (λ j l.
    agrees_or k m _ span (record w { left = j }) _ _ (λ objects.
    agrees_from k m (record w { left = j }) (record w { left = j; objects = objects }) _ _ (follows_objects (record w { left = j }) objects)
    (fill_agrees k m span xs types (suc i) q frame (record w { left = j; objects = objects }) l)))

third_agrees : (k m : ℕ) (flow : Flow) (frame : Frame) (w : State) (third other : Frame → State → Progress Done) → w.left ≤ m →
    Agrees k m w (third frame w) (other frame (with_more k w)) → Agrees k m w (before_third flow frame w third) (before_third flow frame (with_more k w) other)
third_agrees k m normal frame w third other l h = h
third_agrees k m continued frame w third other l h = h
third_agrees k m broken frame w third other l h = agrees_here k m _ w l
third_agrees k m (returned x) frame w third other l h = agrees_here k m _ w l

next_agrees : (k m : ℕ) (flow : Flow) (frame : Frame) (w : State) (go other : Frame → State → Progress Done) → w.left ≤ m →
    Agrees k m w (go frame w) (other frame (with_more k w)) → Agrees k m w (next_turn flow frame w go) (next_turn flow frame (with_more k w) other)
next_agrees k m normal frame w go other l h = h
next_agrees k m continued frame w go other l h = h
next_agrees k m broken frame w go other l h = agrees_here k m _ w l
next_agrees k m (returned x) frame w go other l h = agrees_here k m _ w l

-- ## Loops

-- a test takes a step, and ends where none is left
pub record IsTest (k most : ℕ) (tested other : Frame → State → Progress Bool) : Type 0 where
  pub agree : (frame : Frame) (w : State) (m : ℕ) → m ≤ most → w.left ≤ suc m → Agrees k m w (tested frame w) (other frame (with_more k w))
  pub none : (frame : Frame) (w : State) → w.left ≡ 0 → tested frame w ≡ ends StepsSpent w
  pub none_other : (frame : Frame) (w : State) → w.left ≡ 0 → other frame w ≡ ends StepsSpent w

abbrev pub RunsAgree : ℕ → ℕ → (Frame → State → Progress Done) → (Frame → State → Progress Done) → Type 0
RunsAgree k most run other = (frame : Frame) (w : State) (m : ℕ) → m ≤ most → w.left ≤ m → Agrees k m w (run frame w) (other frame (with_more k w))

module _ (k most : ℕ) (tested other : Frame → State → Progress Bool) (body other_body : Frame → State → Progress Done) (t : IsTest k most tested other) (r : RunsAgree k most body other_body) where
  none_left : (o : ℕ) (frame : Frame) (w : State) → w.left ≡ 0 → k ≡ 0 → turns o other other_body frame (with_more k w) ≡ ends StepsSpent w
  none_left o frame w e d = turns_none o other other_body frame (with_more k w) (t.none_other frame (with_more k w) (zero_sum w.left k e d)) ∙ ap (λ w. ends StepsSpent w) (no_more w k d)
    where
      zero_sum : (a b : ℕ) → a ≡ 0 → b ≡ 0 → a + b ≡ 0
      zero_sum a b e d = omega (arith, e, d)

  none_agrees : (n o : ℕ) (frame : Frame) (w : State) (m : ℕ) → w.left ≡ 0 → Agrees k m w (turns n tested body frame w) (turns o other other_body frame (with_more k w))
  none_agrees n o frame w m e =
      subst (λ x. Agrees k m w x (turns o other other_body frame (with_more k w))) (sym (turns_none n tested body frame w (t.none frame w e)))
      (agrees_spent k m w _ (λ d. none_left o frame w e d))

  abbrev RunsUpTo : ℕ → ℕ → Type 0
  RunsUpTo n o = (frame : Frame) (w : State) (m : ℕ) → m ≤ most → w.left ≤ m → w.left ≤ n → w.left + k ≤ o →
      Agrees k m w (turns n tested body frame w) (turns o other other_body frame (with_more k w))

  turn_agrees : (n o : ℕ) → RunsUpTo n o → (l : ℕ) (frame : Frame) (w : State) (m : ℕ) → w.left ≡ l → m ≤ most → l ≤ m → l ≤ suc n → l + k ≤ suc o →
      Agrees k m w (turns (suc n) tested body frame w) (turns (suc o) other other_body frame (with_more k w))
  turn_agrees n o further zero frame w m e b lm ln lo = none_agrees (suc n) (suc o) frame w m e
  turn_agrees n o further (suc j) frame w m e b lm ln lo =
      let jb : j ≤ most = omega (arith, lm, b) in
      agrees_within k j m w _ _ (omega (arith, lm))
      (agrees_then k j j w _ _ _ _ (t.agree frame w j jb (omega (arith, e))) (λ more v c.
      agrees_if k j v more _ _ _ _
      (agrees_then k j j v _ _ _ _ (r frame v j jb c) (λ done u d.
      next_agrees k j done.flow done.frame u _ _ d (further done.frame u j jb d (omega (arith, d, ln)) (omega (arith, d, lo)))))
      (agrees_here k j _ v c)))

  pub turns_agree : (n o : ℕ) → RunsUpTo n o
  turns_agree zero o frame w m b lm ln lo = none_agrees zero o frame w m (omega (arith, ln))
  turns_agree (suc n) zero frame w m b lm ln lo = none_agrees (suc n) zero frame w m (omega (arith, lo))
  turns_agree (suc n) (suc o) frame w m b lm ln lo = turn_agrees n o (turns_agree n o) w.left frame w m refl b lm ln lo

  pub loop_agrees : (keyword : LoopKeyword) (n o : ℕ) (frame : Frame) (w : State) (m : ℕ) → m ≤ most → w.left ≤ m → most ≤ n → most + k ≤ o →
      Agrees k m w (loop_by keyword n tested body frame w) (loop_by keyword o other other_body frame (with_more k w))
  loop_agrees While n o frame w m b l bn bo = turns_agree n o frame w m b l (omega (arith, b, l, bn)) (omega (arith, b, l, bo))
  loop_agrees For n o frame w m b l bn bo = turns_agree n o frame w m b l (omega (arith, b, l, bn)) (omega (arith, b, l, bo))
  loop_agrees Do n o frame w m b l bn bo = agrees_then k m m w _ _ _ _ (r frame w m b l) (λ done w l.
      next_agrees k m done.flow done.frame w _ _ l (turns_agree n o done.frame w m b l (omega (arith, b, l, bn)) (omega (arith, b, l, bo))))

-- ## Statements

module _ (k most : ℕ) (p : PlainProgram) (variables : List PlainVariable) (call1 call2 : Calls) (n1 n2 : ℕ) (calls : CallsAgree k most call1 call2) (enough1 : most ≤ n1) (enough2 : most + k ≤ n2) where
  abbrev one : Setting
  one = record { program = p; variables = variables; call = call1; turns = n1 }

  abbrev two : Setting
  two = record { program = p; variables = variables; call = call2; turns = n2 }

  value_agrees : (held : List Held) (v : PlainValue) (w : State) (m : ℕ) → m ≤ most → w.left ≤ m → Agrees k m w (evaluate one held v w) (evaluate two held v (with_more k w))
  value_agrees held v w m b l = evaluate_agrees k most p variables call1 call2 n1 n2 calls held v w m b (more_than w.left m l)

  place_agrees : (held : List Held) (q : PlainPlace) (w : State) (m : ℕ) → m ≤ most → w.left ≤ m → Agrees k m w (locate one held q w) (locate two held q (with_more k w))
  place_agrees held q w m b l = locate_agrees k most p variables call1 call2 n1 n2 calls held q w m b l

  pub test_agrees : (tested : Option PlainValue) (frame : Frame) (w : State) (m : ℕ) → m ≤ most → w.left ≤ suc m → Agrees k m w (test one tested frame w) (test two tested frame (with_more k w))
  test_agrees None frame w m b l = agrees_step k m w _ _ l (λ n l. agrees_here k m true (record w { left = n }) l)
  test_agrees (Some v) frame w m b l = agrees_then k m m w _ _ _ _ (evaluate_agrees k most p variables call1 call2 n1 n2 calls frame.held v w m b l) (λ x w l. agrees_here k m (is_true x) w l)

  test_is : (tested : Option PlainValue) → IsTest k most (λ frame w. test one tested frame w) (λ frame w. test two tested frame w)
  test_is tested = record { agree = test_agrees tested; none = λ frame w e. test_none one tested frame w e; none_other = λ frame w e. test_none two tested frame w e }

  -- initialisers

  written_agrees : (held : List Held) (i : ℕ) (written : PlainWritten) (w : State) (m : ℕ) → m ≤ most → w.left ≤ m → Agrees k m w (written_scalars one held i written w) (written_scalars two held i written (with_more k w))
  written_agrees held i (one_scalar v) w m b l = agrees_then k m m w _ _ _ _ (value_agrees held v w m b l) (λ x w l. agrees_here k m _ w l)
  written_agrees held i (scalars_of_text bytes) w m b l = agrees_here k m _ w l

  pub listed_agree : (held : List Held) (items : List PlainItem) (w : State) (m : ℕ) → m ≤ most → w.left ≤ m → Agrees k m w (listed_scalars one held items w) (listed_scalars two held items (with_more k w))
  listed_agree held [] w m b l = agrees_here k m [] w l
  listed_agree held (item ∷ items) w m b l =
      agrees_then k m m w _ _ _ _ (written_agrees held item.scalar item.written w m b l) (λ xs w l.
      agrees_then k m m w _ _ _ _ (listed_agree held items w m b l) (λ ys w l. agrees_here k m (xs ++ ys) w l))

  initialize_agrees : (span : Span) (t : PlainType) (target : Target) (initializer : PlainInitializer) (frame : Frame) (w : State) (m : ℕ) → m ≤ most → w.left ≤ m →
      Agrees k m w (initialize one span t target initializer frame w) (initialize two span t target initializer frame (with_more k w))
  initialize_agrees span t target not_initialized frame w m b l = agrees_here k m _ w l
  initialize_agrees span t target (single v) frame w m b l = agrees_then k m m w _ _ _ _ (value_agrees frame.held v w m b l) (λ x w l. write_agrees k m span target _ frame w l)
  initialize_agrees span t target (copied q) frame w m b l = agrees_step k m w _ _ (more_than w.left m l) (λ n l.
      agrees_then k m m (record w { left = n }) _ _ _ _ (place_agrees frame.held q (record w { left = n }) m b l) (λ source w l.
      copy_agrees k m (width p t) 0 span (pointer_to target) (place_at q).span (pointer_to source) frame w l))
  initialize_agrees span t target (listed at items) frame w m b l =
      agrees_then k m m w _ _ _ _ (listed_agree frame.held items w m b l) (λ xs w l. fill_agrees k m span xs (scalars p t) 0 (pointer_to target) frame w l)

  declare_agrees : (span : Span) (n : ℕ) (v : Option PlainVariable) (initializer : PlainInitializer) (frame : Frame) (w : State) (m : ℕ) → m ≤ most → w.left ≤ m →
      Agrees k m w (declare_variable one span n v initializer frame w) (declare_variable two span n v initializer frame (with_more k w))
  declare_agrees span n None initializer frame w m b l = agrees_here k m _ w l
  declare_agrees span n (Some v) initializer frame w m b l = agrees_if k m w v.frame _ _ _ _
      (initialize_agrees span v.type (Variable n) initializer _ w m b l)
      (agrees_from k m w (open_object declared (unset_cells (scalars p v.type)) w) _ _ (follows_open w declared _)
      (initialize_agrees span v.type (Element (first_of w.opened (width p v.type) 1)) initializer (record { held = slice_set frame.held n (stands w.opened); opened = w.opened ∷ frame.opened }) (open_object declared (unset_cells (scalars p v.type)) w) m b l))

  -- statements

  mutual
    pub execute_agrees : (x : PlainStatement) (frame : Frame) (w : State) (m : ℕ) → m ≤ most → w.left ≤ m → Agrees k m w (execute one x frame w) (execute two x frame (with_more k w))
    execute_agrees (statement at form) frame w m b l = form_agrees at form frame w m b l

    form_agrees : (at : At) (form : PlainStatementForm) (frame : Frame) (w : State) (m : ℕ) → m ≤ most → w.left ≤ m → Agrees k m w (execute_form one at form frame w) (execute_form two at form frame (with_more k w))
    form_agrees at (declare n initializer) frame w m b l = agrees_step k m w _ _ (more_than w.left m l) (λ j l.
        declare_agrees at.span n (slice_get variables n) initializer frame (record w { left = j }) m b l)
    form_agrees at (set q v) frame w m b l = agrees_step k m w _ _ (more_than w.left m l) (λ j l.
        agrees_then k m m (record w { left = j }) _ _ _ _ (place_agrees frame.held q (record w { left = j }) m b l) (λ target w l.
        agrees_then k m m w _ _ _ _ (value_agrees frame.held v w m b l) (λ x w l. write_agrees k m (place_at q).span target _ frame w l)))
    form_agrees at (update kind op t q v) frame w m b l = agrees_step k m w _ _ (more_than w.left m l) (λ j l.
        agrees_then k m m (record w { left = j }) _ _ _ _ (place_agrees frame.held q (record w { left = j }) m b l) (λ target w l.
        agrees_step k m w _ _ (more_than w.left m l) (λ j l.
        agrees_then k m m (record w { left = j }) _ _ _ _ (read_agrees k m (place_at q).span (place_type q) frame.held target (record w { left = j }) l) (λ x w l.
        agrees_then k m m w _ _ _ _ (value_agrees frame.held v w m b l) (λ y w l.
        agrees_step k m w _ _ (more_than w.left m l) (λ j l.
        agrees_or k m _ at.span (record w { left = j }) _ _ (λ z. write_agrees k m (place_at q).span target _ frame (record w { left = j }) l)))))))
    form_agrees at (copy q r) frame w m b l = agrees_step k m w _ _ (more_than w.left m l) (λ j l.
        agrees_then k m m (record w { left = j }) _ _ _ _ (place_agrees frame.held q (record w { left = j }) m b l) (λ target w l.
        agrees_then k m m w _ _ _ _ (place_agrees frame.held r w m b l) (λ source w l.
        copy_agrees k m (width p (place_type q)) 0 (place_at q).span (pointer_to target) (place_at r).span (pointer_to source) frame w l)))
    form_agrees at (asserts call v) frame w m b l = agrees_step k m w _ _ (more_than w.left m l) (λ j l.
        agrees_then k m m (record w { left = j }) _ _ _ _ (value_agrees frame.held v (record w { left = j }) m b l) (λ x w l.
        agrees_then k m m w _ _ _ _ (asserted_agrees k m call.span x w l) (λ none w l. agrees_here k m _ w l)))
    form_agrees at (expression v) frame w m b l = agrees_step k m w _ _ (more_than w.left m l) (λ j l.
        agrees_then k m m (record w { left = j }) _ _ _ _ (discard_agrees k most p variables call1 call2 n1 n2 calls frame.held v (record w { left = j }) m b (more_than j m l)) (λ x w l. agrees_here k m _ w l))
    form_agrees at (if_then v a) frame w m b l = agrees_step k m w _ _ (more_than w.left m l) (λ j l.
        agrees_then k m m (record w { left = j }) _ _ _ _ (value_agrees frame.held v (record w { left = j }) m b l) (λ x w l.
        agrees_if k m w (is_true x) _ _ _ _ (execute_agrees a frame w m b l) (agrees_here k m _ w l)))
    form_agrees at (if_else v a c) frame w m b l = agrees_step k m w _ _ (more_than w.left m l) (λ j l.
        agrees_then k m m (record w { left = j }) _ _ _ _ (value_agrees frame.held v (record w { left = j }) m b l) (λ x w l.
        agrees_if k m w (is_true x) _ _ _ _ (execute_agrees a frame w m b l) (execute_agrees c frame w m b l)))
    form_agrees at (loop head first tested third body) frame w m b l = agrees_step k m w _ _ (more_than w.left m l) (λ j l.
        block_agrees k m (looped one head.keyword first tested third body) (looped two head.keyword first tested third body) frame (record w { left = j })
        (agrees_then k m m (record w { left = j }) _ _ _ _ (from_agrees 0 first (record frame { opened = [] }) (record w { left = j }) m b l) (λ done w l.
        go_agrees k m done.flow done.frame w (λ frame w. loop_by head.keyword n1 (test one tested) (round one third body) frame w) (λ frame w. loop_by head.keyword n2 (test two tested) (round two third body) frame w) l
        (loop_agrees k most (test one tested) (test two tested) (round one third body) (round two third body) (test_is tested)
        (λ frame w m b l. agrees_then k m m w _ _ _ _ (execute_agrees body frame w m b l) (λ done w l.
        third_agrees k m done.flow done.frame w (λ frame w. execute_from one 0 third frame w) (λ frame w. execute_from two 0 third frame w) l (from_agrees 0 third done.frame w m b l)))
        head.keyword n1 n2 done.frame w m b l enough1 enough2))))
    form_agrees at (switch keyword v labels body) frame w m b l = agrees_step k m w _ _ (more_than w.left m l) (λ j l.
        agrees_then k m m (record w { left = j }) _ _ _ _ (value_agrees frame.held v (record w { left = j }) m b l) (λ x w l.
        agrees_then k m m w _ _ _ _ (enter_agrees (labelled (number_of x) labels.cases labels.otherwise) body frame w m b l) (λ done w l. agrees_here k m _ w l)))
    form_agrees at (return keyword None) frame w m b l = agrees_step k m w _ _ (more_than w.left m l) (λ j l. agrees_here k m _ (record w { left = j }) l)
    form_agrees at (return keyword (Some v)) frame w m b l = agrees_step k m w _ _ (more_than w.left m l) (λ j l.
        agrees_then k m m (record w { left = j }) _ _ _ _ (value_agrees frame.held v (record w { left = j }) m b l) (λ x w l. agrees_here k m _ w l))
    form_agrees at break frame w m b l = agrees_step k m w _ _ (more_than w.left m l) (λ j l. agrees_here k m _ (record w { left = j }) l)
    form_agrees at continue frame w m b l = agrees_step k m w _ _ (more_than w.left m l) (λ j l. agrees_here k m _ (record w { left = j }) l)
    form_agrees at empty frame w m b l = agrees_step k m w _ _ (more_than w.left m l) (λ j l. agrees_here k m _ (record w { left = j }) l)
    form_agrees at (block statements) frame w m b l = block_agrees k m (execute_from one 0 statements) (execute_from two 0 statements) frame w (from_agrees 0 statements (record frame { opened = [] }) w m b l)
    form_agrees at (declare_static n) frame w m b l = agrees_here k m _ w l
    form_agrees at (mark InitDone) frame w m b l = agrees_gives k m w _ (record w { marked = true }) l (follows_mark w)
    form_agrees at (mark TaskLoop) frame w m b l = agrees_here k m _ w l

    pub from_agrees : (i : ℕ) (xs : PlainStatements) (frame : Frame) (w : State) (m : ℕ) → m ≤ most → w.left ≤ m → Agrees k m w (execute_from one i xs frame w) (execute_from two i xs frame (with_more k w))
    from_agrees i no_statements frame w m b l = agrees_here k m _ w l
    from_agrees zero (more_statements x rest) frame w m b l =
        agrees_then k m m w _ _ _ _ (execute_agrees x frame w m b l) (λ done w l. go_agrees k m done.flow done.frame w (λ frame w. execute_from one zero rest frame w) (λ frame w. execute_from two zero rest frame w) l (from_agrees zero rest done.frame w m b l))
    from_agrees (suc i) (more_statements x rest) frame w m b l = from_agrees i rest frame w m b l

    enter_agrees : (i : Option ℕ) (x : PlainStatement) (frame : Frame) (w : State) (m : ℕ) → m ≤ most → w.left ≤ m → Agrees k m w (enter one i x frame w) (enter two i x frame (with_more k w))
    enter_agrees i (statement at form) frame w m b l = enter_form_agrees i form frame w m b l

    enter_form_agrees : (i : Option ℕ) (form : PlainStatementForm) (frame : Frame) (w : State) (m : ℕ) → m ≤ most → w.left ≤ m → Agrees k m w (enter_form one i form frame w) (enter_form two i form frame (with_more k w))
    enter_form_agrees i (block statements) frame w m b l = label_agrees k m i (λ i frame w. execute_from one i statements frame w) (λ i frame w. execute_from two i statements frame w) frame w l (λ i. from_agrees i statements (record frame { opened = [] }) w m b l)
    enter_form_agrees i (declare n initializer) frame w m b l = agrees_here k m _ w l
    enter_form_agrees i (set q v) frame w m b l = agrees_here k m _ w l
    enter_form_agrees i (update kind op t q v) frame w m b l = agrees_here k m _ w l
    enter_form_agrees i (copy q r) frame w m b l = agrees_here k m _ w l
    enter_form_agrees i (asserts call v) frame w m b l = agrees_here k m _ w l
    enter_form_agrees i (expression v) frame w m b l = agrees_here k m _ w l
    enter_form_agrees i (if_then v a) frame w m b l = agrees_here k m _ w l
    enter_form_agrees i (if_else v a c) frame w m b l = agrees_here k m _ w l
    enter_form_agrees i (loop head first tested third body) frame w m b l = agrees_here k m _ w l
    enter_form_agrees i (switch keyword v labels body) frame w m b l = agrees_here k m _ w l
    enter_form_agrees i (return keyword v) frame w m b l = agrees_here k m _ w l
    enter_form_agrees i break frame w m b l = agrees_here k m _ w l
    enter_form_agrees i continue frame w m b l = agrees_here k m _ w l
    enter_form_agrees i empty frame w m b l = agrees_here k m _ w l
    enter_form_agrees i (declare_static n) frame w m b l = agrees_here k m _ w l
    enter_form_agrees i (mark kind) frame w m b l = agrees_here k m _ w l

  pub round_agrees : (third : PlainStatements) (body : PlainStatement) (frame : Frame) (w : State) (m : ℕ) → m ≤ most → w.left ≤ m → Agrees k m w (round one third body frame w) (round two third body frame (with_more k w))
  round_agrees third body frame w m b l = agrees_then k m m w _ _ _ _ (execute_agrees body frame w m b l) (λ done w l.
      third_agrees k m done.flow done.frame w (λ frame w. execute_from one 0 third frame w) (λ frame w. execute_from two 0 third frame w) l (from_agrees 0 third done.frame w m b l))

  -- the turns of a loop, under two bounds of their own
  pub these_turns_agree : (i j : ℕ) (tested : Option PlainValue) (third : PlainStatements) (body : PlainStatement) (frame : Frame) (w : State) (m : ℕ) → m ≤ most → w.left ≤ m → w.left ≤ i → w.left + k ≤ j →
      Agrees k m w (turns i (test one tested) (round one third body) frame w) (turns j (test two tested) (round two third body) frame (with_more k w))
  these_turns_agree i j tested third body frame w m b l li lj =
      turns_agree k most (test one tested) (test two tested) (round one third body) (round two third body) (test_is tested) (round_agrees third body) i j frame w m b l li lj

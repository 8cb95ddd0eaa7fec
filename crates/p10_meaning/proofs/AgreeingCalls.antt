-- Calls agree, whatever the bound, and so do the trees of every function.
use Rattle.std.proofs.Common.{◌≡◌, ℕ, zero, suc, ◌+◌, ◌≤◌, cond, Bool, true, false, List, [], ◌∷◌, refl, sym, ◌∙◌, ap, subst, arith, Option, Some, None, slice_get}
use Rattle.p10_core.specs.Typed.{PlainValue, PlainStatement, PlainVariable, PlainFunction, PlainProgram}
use Rattle.p10_meaning.specs.declared.pointers.Scalar.{Scalar}
use Rattle.p10_meaning.specs.Pointers.{holding}
use Rattle.p10_meaning.specs.Objects.{declared, all_closed}
use Rattle.p10_meaning.specs.States.{State, AssertionFailed, Undefined, StepsSpent, Progress, gives, ends, and_then}
use Rattle.p10_meaning.specs.Values.{Calls, Held, holds, stands, absent, open_object, evaluate}
use Rattle.p10_meaning.specs.Statements.{Frame, test, turns, execute, execute_from, round}
use Rattle.p10_meaning.specs.Calling.{Depth, deeper, raised, Entered, with_variable, entered, leave_call, setting_of, enter_call, call_at}
use Rattle.p10_meaning.specs.Laws.{Follows, EndsAfter, with_more, SameWithMore, CallsRun, StatementsRun, ValuesRun, LoopsHaveNoBound}
use Rattle.p10_meaning.proofs.Following.{follows_same, follows_trans, follows_objects, follows_open, follows_raised}
use Rattle.p10_meaning.proofs.Agreeing.{IsSame, Agrees, CallsAgree, no_more, agrees_from, agrees_within, agrees_gives, agrees_here, agrees_spent, agrees_then, agrees_step}
use Rattle.p10_meaning.proofs.AgreeingValues.{more_than, evaluate_agrees}
use Rattle.p10_meaning.proofs.AgreeingStatements.{execute_agrees, from_agrees, these_turns_agree}
use Rattle.p10_meaning.proofs.Spent.{step_none}

-- ## Entry

-- a new frame doesn't depend on the steps that are left
pub entered_more : (k : ℕ) (vs : List PlainVariable) (xs : List Scalar) (w : State) →
    entered vs xs (with_more k w) ≡ record { frame = (entered vs xs w).frame; state = with_more k (entered vs xs w).state }
entered_more k [] xs w = refl
entered_more k (v ∷ vs) [] w = ap (λ (r : Entered). with_variable absent r.frame.opened r) (entered_more k vs [] w)
entered_more k (v ∷ vs) (x ∷ xs) w = case (entered_more k vs xs w) (entered_more k vs xs (open_object declared (holding x ∷ []) w)) v.frame
  where
    case : entered vs xs (with_more k w) ≡ record { frame = (entered vs xs w).frame; state = with_more k (entered vs xs w).state } →
        entered vs xs (open_object declared (holding x ∷ []) (with_more k w)) ≡ record {
          frame = (entered vs xs (open_object declared (holding x ∷ []) w)).frame;
          state = with_more k (entered vs xs (open_object declared (holding x ∷ []) w)).state;
        } →
        (b : Bool) →
        cond b (with_variable (holds (holding x)) (entered vs xs (with_more k w)).frame.opened (entered vs xs (with_more k w)))
        (with_variable (stands w.opened) (w.opened ∷ (entered vs xs (open_object declared (holding x ∷ []) (with_more k w))).frame.opened) (entered vs xs (open_object declared (holding x ∷ []) (with_more k w)))) ≡
        record {
          frame = (cond b (with_variable (holds (holding x)) (entered vs xs w).frame.opened (entered vs xs w))
              (with_variable (stands w.opened) (w.opened ∷ (entered vs xs (open_object declared (holding x ∷ []) w)).frame.opened) (entered vs xs (open_object declared (holding x ∷ []) w)))).frame;
          state = with_more k (cond b (with_variable (holds (holding x)) (entered vs xs w).frame.opened (entered vs xs w))
              (with_variable (stands w.opened) (w.opened ∷ (entered vs xs (open_object declared (holding x ∷ []) w)).frame.opened) (entered vs xs (open_object declared (holding x ∷ []) w)))).state;
        }
    case e d true = ap (λ (r : Entered). with_variable (holds (holding x)) r.frame.opened r) e
    case e d false = ap (λ (r : Entered). with_variable (stands w.opened) (w.opened ∷ r.frame.opened) r) d

pub record IsEntry (w : State) (start : Entered) : Type 0 where
  pub left : start.state.left ≡ w.left
  pub follows : Follows w start.state

pub entered_is : (vs : List PlainVariable) (xs : List Scalar) (w : State) → IsEntry w (entered vs xs w)
entered_is [] xs w = record { left = refl; follows = follows_same w }
entered_is (v ∷ vs) [] w = let h : IsEntry w (entered vs [] w) = entered_is vs [] w in record { left = h.left; follows = h.follows }
entered_is (v ∷ vs) (x ∷ xs) w = case (entered_is vs xs w) (entered_is vs xs (open_object declared (holding x ∷ []) w)) v.frame
  where
    case : IsEntry w (entered vs xs w) → IsEntry (open_object declared (holding x ∷ []) w) (entered vs xs (open_object declared (holding x ∷ []) w)) →
        (b : Bool) → IsEntry w (cond b (with_variable (holds (holding x)) (entered vs xs w).frame.opened (entered vs xs w))
        (with_variable (stands w.opened) (w.opened ∷ (entered vs xs (open_object declared (holding x ∷ []) w)).frame.opened) (entered vs xs (open_object declared (holding x ∷ []) w))))
    case h g true = record { left = h.left; follows = h.follows }
    case h g false = record { left = g.left; follows = follows_trans w (open_object declared (holding x ∷ []) w) _ (follows_open w declared (holding x ∷ [])) g.follows }

-- ## Calls

module _ (k most : ℕ) (p : PlainProgram) (n o : ℕ) (call other : Depth → Calls) (calls : (depth : Depth) → CallsAgree k most (call depth) (other depth)) (enough : most ≤ n) (enough_other : most + k ≤ o) where
  enter_some : (depth : Depth) (f : PlainFunction) (xs : List Scalar) (w : State) → w.left ≤ most → (start : Entered) → IsEntry (raised (deeper f depth) w) start →
      Agrees k most w (and_then (execute_from (setting_of p n call (deeper f depth) f) 0 f.body start.frame start.state) leave_call)
      (and_then (execute_from (setting_of p o other (deeper f depth) f) 0 f.body start.frame (with_more k start.state)) leave_call)
  enter_some depth f xs w l start e =
      let there : Depth = deeper f depth in
      agrees_from k most w start.state _ _ (follows_trans w (raised there w) start.state (follows_raised w there) e.follows)
      (agrees_then k most most start.state _ _ _ _
      (from_agrees k most p f.variables (call there) (other there) n o (calls there) enough enough_other 0 f.body start.frame start.state most (omega arith) (subst (λ i. i ≤ most) (sym e.left) l))
      (λ done w l. agrees_gives k most w _ (record w { objects = all_closed done.frame.opened w.objects }) l (follows_objects w _)))

  pub enter_agrees : (depth : Depth) (f : Option PlainFunction) (xs : List Scalar) (w : State) → w.left ≤ most → Agrees k most w (enter_call p n call depth f xs w) (enter_call p o other depth f xs (with_more k w))
  enter_agrees depth None xs w l = agrees_here k most None w l
  enter_agrees depth (Some f) xs w l =
      subst (λ (start : Entered). Agrees k most w (enter_call p n call depth (Some f) xs w)
      (and_then (execute_from (setting_of p o other (deeper f depth) f) 0 f.body start.frame start.state) leave_call))
      (sym (entered_more k f.variables xs (raised (deeper f depth) w)))
      (enter_some depth f xs w l (entered f.variables xs (raised (deeper f depth) w)) (entered_is f.variables xs (raised (deeper f depth) w)))

pub call_none : (o : ℕ) (p : PlainProgram) (depth : Depth) (f : ℕ) (xs : List Scalar) (w : State) → w.left ≡ 0 → call_at o p depth f xs w ≡ ends StepsSpent w
call_none zero p depth f xs w e = refl
call_none (suc o) p depth f xs w e = step_none w _ e

zero_sum : (a b : ℕ) → a ≡ 0 → b ≡ 0 → a + b ≡ 0
zero_sum a b e d = omega (arith, e, d)

none_agrees : (k m n o : ℕ) (p : PlainProgram) (depth : Depth) (f : ℕ) (xs : List Scalar) (w : State) → w.left ≡ 0 → Agrees k m w (call_at n p depth f xs w) (call_at o p depth f xs (with_more k w))
none_agrees k m n o p depth f xs w e =
    subst (λ x. Agrees k m w x (call_at o p depth f xs (with_more k w))) (sym (call_none n p depth f xs w e))
    (agrees_spent k m w _ (λ d. call_none o p depth f xs (with_more k w) (zero_sum w.left k e d) ∙ ap (λ w. ends StepsSpent w) (no_more w k d)))

abbrev CallsUpTo : ℕ → ℕ → ℕ → PlainProgram → Type 0
CallsUpTo k n o p = (most : ℕ) → most ≤ n → most + k ≤ o → (depth : Depth) → CallsAgree k most (call_at n p depth) (call_at o p depth)

call_agrees : (k n o : ℕ) (p : PlainProgram) → CallsUpTo k n o p → (l m : ℕ) (depth : Depth) (f : ℕ) (xs : List Scalar) (w : State) → w.left ≡ l → l ≤ m → m ≤ suc n → m + k ≤ suc o →
    Agrees k m w (call_at (suc n) p depth f xs w) (call_at (suc o) p depth f xs (with_more k w))
call_agrees k n o p deeper_ones zero m depth f xs w e lm mn mo = none_agrees k m (suc n) (suc o) p depth f xs w e
call_agrees k n o p deeper_ones (suc j) m depth f xs w e lm mn mo =
    let jn : j ≤ n = omega (arith, lm, mn) in
    let jo : j + k ≤ o = omega (arith, lm, mo) in
    agrees_within k j m w _ _ (omega (arith, lm))
    (agrees_step k j w _ _ (omega (arith, e)) (λ i l.
    enter_agrees k j p n o (call_at n p) (call_at o p) (deeper_ones j jn jo) jn jo depth (slice_get p.functions f) xs (record w { left = i }) l))

pub calls_agree : (k n o : ℕ) (p : PlainProgram) → CallsUpTo k n o p
calls_agree k zero o p most mn mo depth = record { agree = λ f xs w m b l. none_agrees k m zero o p depth f xs w (omega (arith, mn, b, l)) }
calls_agree k (suc n) zero p most mn mo depth = record { agree = λ f xs w m b l. none_agrees k m (suc n) zero p depth f xs w (omega (arith, mo, b, l)) }
calls_agree k (suc n) (suc o) p most mn mo depth = record {
  agree = λ f xs w m b l.
      call_agrees k n o p (calls_agree k n o p) w.left m depth f xs w refl l (omega (arith, b, mn)) (omega (arith, b, mo));
}

-- ## The laws

same_of : {A : Type 0} (o other : Progress A) → IsSame 0 o other → o ≡ other
same_of (gives a w) other e = ap (λ w. gives a w) (sym (no_more w 0 refl)) ∙ sym e
same_of (ends (AssertionFailed span) w) other e = ap (λ w. ends (AssertionFailed span) w) (sym (no_more w 0 refl)) ∙ sym e
same_of (ends (Undefined stop span) w) other e = ap (λ w. ends (Undefined stop span) w) (sym (no_more w 0 refl)) ∙ sym e
same_of (ends StepsSpent w) other e = sym (e refl)

pub more_of : {A : Type 0} (k : ℕ) (o other : Progress A) → IsSame k o other → SameWithMore k o other
more_of k (gives a w) other e = e
more_of k (ends (AssertionFailed span) w) other e = e
more_of k (ends (Undefined stop span) w) other e = e
more_of k (ends StepsSpent w) other e = tt

bounds : (a b : ℕ) → a ≤ b → a + 0 ≤ b
bounds a b l = omega (arith, l)

at_most : (a : ℕ) → a ≤ a
at_most a = omega arith

pub calls_run : (p : PlainProgram) (depth : Depth) (f : ℕ) (xs : List Scalar) (w : State) → CallsRun p depth f xs w
calls_run p depth f xs w = record { follows = follows; bound = bound; plain = λ n l. bound n (suc n) l (omega (arith, l)); more = more }
  where
    agree : (k n o : ℕ) → w.left ≤ n → w.left + k ≤ o → Agrees k w.left w (call_at n p depth f xs w) (call_at o p depth f xs (with_more k w))
    agree k n o ln lo = let c : CallsAgree k w.left (call_at n p depth) (call_at o p depth) = calls_agree k n o p w.left ln lo depth in c.agree f xs w w.left (at_most w.left) (at_most w.left)

    follows : (n : ℕ) → w.left ≤ n → EndsAfter w (call_at n p depth f xs w)
    follows n l = (agree 0 n n l (bounds w.left n l)).follows

    bound : (n m : ℕ) → w.left ≤ n → w.left ≤ m → call_at n p depth f xs w ≡ call_at m p depth f xs w
    bound n m ln lm = same_of (call_at n p depth f xs w) (call_at m p depth f xs (with_more 0 w)) (agree 0 n m ln (bounds w.left m lm)).same ∙ ap (λ w. call_at m p depth f xs w) (no_more w 0 refl)

    more : (n m k : ℕ) → w.left ≤ n → w.left + k ≤ m → SameWithMore k (call_at n p depth f xs w) (call_at m p depth f xs (with_more k w))
    more n m k ln lm = more_of k _ _ (agree k n m ln lm).same

pub statements_run : (p : PlainProgram) (depth : Depth) (f : PlainFunction) (x : PlainStatement) (frame : Frame) (w : State) → StatementsRun p depth f x frame w
statements_run p depth f x frame w = record { follows = follows; bound = bound; more = more }
  where
    agree : (k n o : ℕ) → w.left ≤ n → w.left + k ≤ o →
        Agrees k w.left w (execute (setting_of p n (call_at n p) depth f) x frame w) (execute (setting_of p o (call_at o p) depth f) x frame (with_more k w))
    agree k n o ln lo = execute_agrees k w.left p f.variables (call_at n p depth) (call_at o p depth) n o (calls_agree k n o p w.left ln lo depth) ln lo x frame w w.left (at_most w.left) (at_most w.left)

    follows : (n : ℕ) → w.left ≤ n → EndsAfter w (execute (setting_of p n (call_at n p) depth f) x frame w)
    follows n l = (agree 0 n n l (bounds w.left n l)).follows

    bound : (n m : ℕ) → w.left ≤ n → w.left ≤ m → execute (setting_of p n (call_at n p) depth f) x frame w ≡ execute (setting_of p m (call_at m p) depth f) x frame w
    bound n m ln lm = same_of (execute (setting_of p n (call_at n p) depth f) x frame w) (execute (setting_of p m (call_at m p) depth f) x frame (with_more 0 w)) (agree 0 n m ln (bounds w.left m lm)).same ∙
        ap (λ w. execute (setting_of p m (call_at m p) depth f) x frame w) (no_more w 0 refl)

    more : (n m k : ℕ) → w.left ≤ n → w.left + k ≤ m →
        SameWithMore k (execute (setting_of p n (call_at n p) depth f) x frame w) (execute (setting_of p m (call_at m p) depth f) x frame (with_more k w))
    more n m k ln lm = more_of k _ _ (agree k n m ln lm).same

pub values_run : (p : PlainProgram) (depth : Depth) (f : PlainFunction) (v : PlainValue) (held : List Held) (w : State) → ValuesRun p depth f v held w
values_run p depth f v held w = record { follows = follows; bound = bound; more = more }
  where
    agree : (k n o : ℕ) → w.left ≤ n → w.left + k ≤ o →
        Agrees k w.left w (evaluate (setting_of p n (call_at n p) depth f) held v w) (evaluate (setting_of p o (call_at o p) depth f) held v (with_more k w))
    agree k n o ln lo = evaluate_agrees k w.left p f.variables (call_at n p depth) (call_at o p depth) n o (calls_agree k n o p w.left ln lo depth) held v w w.left (at_most w.left) (more_than w.left w.left (at_most w.left))

    follows : (n : ℕ) → w.left ≤ n → EndsAfter w (evaluate (setting_of p n (call_at n p) depth f) held v w)
    follows n l = (agree 0 n n l (bounds w.left n l)).follows

    bound : (n m : ℕ) → w.left ≤ n → w.left ≤ m → evaluate (setting_of p n (call_at n p) depth f) held v w ≡ evaluate (setting_of p m (call_at m p) depth f) held v w
    bound n m ln lm = same_of (evaluate (setting_of p n (call_at n p) depth f) held v w) (evaluate (setting_of p m (call_at m p) depth f) held v (with_more 0 w)) (agree 0 n m ln (bounds w.left m lm)).same ∙
        ap (λ w. evaluate (setting_of p m (call_at m p) depth f) held v w) (no_more w 0 refl)

    more : (n m k : ℕ) → w.left ≤ n → w.left + k ≤ m →
        SameWithMore k (evaluate (setting_of p n (call_at n p) depth f) held v w) (evaluate (setting_of p m (call_at m p) depth f) held v (with_more k w))
    more n m k ln lm = more_of k _ _ (agree k n m ln lm).same

pub loops_have_no_bound : LoopsHaveNoBound
loops_have_no_bound p depth f tested third body frame w n m i j ln lm li lj =
    let agree : Agrees 0 w.left w (turns i (test (setting_of p n (call_at n p) depth f) tested) (round (setting_of p n (call_at n p) depth f) third body) frame w)
    (turns j (test (setting_of p m (call_at m p) depth f) tested) (round (setting_of p m (call_at m p) depth f) third body) frame (with_more 0 w)) =
    these_turns_agree 0 w.left p f.variables (call_at n p depth) (call_at m p depth) n m (calls_agree 0 n m p w.left ln (bounds w.left m lm) depth) ln (bounds w.left m lm)
    i j tested third body frame w w.left (at_most w.left) (at_most w.left) li (bounds w.left j lj) in
    same_of (turns i (test (setting_of p n (call_at n p) depth f) tested) (round (setting_of p n (call_at n p) depth f) third body) frame w)
    (turns j (test (setting_of p m (call_at m p) depth f) tested) (round (setting_of p m (call_at m p) depth f) third body) frame (with_more 0 w)) agree.same ∙
    ap (λ w. turns j (test (setting_of p m (call_at m p) depth f) tested) (round (setting_of p m (call_at m p) depth f) third body) frame w) (no_more w 0 refl)

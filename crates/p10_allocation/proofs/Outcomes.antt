-- What holds of the mark and of the count after it, at the end of a piece: the rules for a step, for one piece after another and for stops; and trees
-- of which all nodes are so.
use Rattle.std.proofs.Common.{◌≡◌, ℕ, zero, suc, cond, Bool, true, false, List, [], ◌∷◌, ◌++◌, Result, Ok, Err}
use Rattle.std.specs.Prelude.{if◌then◌else◌}
use Rattle.p10_base.specs.declared.span.Span.{Span}
use Rattle.p10_base.specs.declared.at.At.{At}
use Rattle.p10_int.specs.declared.operators.Stop.{Stop}
use Rattle.p10_core.specs.declared.typed.Library.{Library}
use Rattle.p10_core.specs.declared.statements.LoopKeyword.{LoopKeyword}
use Rattle.p10_core.specs.declared.statements.LoopKeyword.TheVariants.{While, Do, For}
use Rattle.p10_core.specs.declared.statements.MarkKind.TheVariants.{InitDone}
use Rattle.p10_core.specs.Types.{PlainType}
use Rattle.p10_core.specs.Typed.{value, call, built_in, PlainValues, statement, mark}
use Rattle.p10_core.specs.Nodes.{PlainNode, a_statement, a_value, in_loop_order}
use Rattle.p10_core.specs.Uses.{manages_memory}
use Rattle.p10_meaning.specs.declared.pointers.Scalar.{Scalar}
use Rattle.p10_meaning.specs.States.{State, Progress, gives, ends, step_at, step, and_then, or_undefined}
use Rattle.p10_meaning.specs.Values.{Calls}

-- ## Nodes

module _ (N : PlainNode → Type 0) where
  -- each of the nodes is so
  abbrev pub Each : List PlainNode → Type 0
  Each [] = Unit {0}
  Each (n ∷ ns) = N n × Each ns

  pub each_left : (xs ys : List PlainNode) → Each (xs ++ ys) → Each xs
  each_left [] ys h = tt
  each_left (x ∷ xs) ys h = (h.0, each_left xs ys h.1)

  pub each_right : (xs ys : List PlainNode) → Each (xs ++ ys) → Each ys
  each_right [] ys h = h
  each_right (x ∷ xs) ys h = each_right xs ys h.1

  pub each_both : (xs ys : List PlainNode) → Each xs → Each ys → Each (xs ++ ys)
  each_both [] ys g h = h
  each_both (x ∷ xs) ys g h = (g.0, each_both xs ys g.1 h)

  -- the parts of a loop
  pub record EachInLoop (first test third body : List PlainNode) : Type 0 where
    pub first_each : Each first
    pub test_each : Each test
    pub third_each : Each third
    pub body_each : Each body

  in_text_order : (a b c d : List PlainNode) → Each (a ++ (b ++ (c ++ d))) → EachInLoop a b c d
  in_text_order a b c d h =
      let tail : Each (b ++ (c ++ d)) = each_right a (b ++ (c ++ d)) h in
      let last : Each (c ++ d) = each_right b (c ++ d) tail in
      record {
        first_each = each_left a (b ++ (c ++ d)) h;
        test_each = each_left b (c ++ d) tail;
        third_each = each_left c d last;
        body_each = each_right c d last;
      }

  pub each_in_loop : (keyword : LoopKeyword) (a b c d : List PlainNode) → Each (in_loop_order keyword a b c d) → EachInLoop a b c d
  each_in_loop While a b c d h = in_text_order a b c d h
  each_in_loop For a b c d h = in_text_order a b c d h
  each_in_loop Do a b c d h =
      let o : EachInLoop a d b c = in_text_order a d b c h in
      record { first_each = o.first_each; test_each = o.third_each; third_each = o.body_each; body_each = o.test_each }

  pub loop_of_each : (keyword : LoopKeyword) (a b c d : List PlainNode) → EachInLoop a b c d → Each (in_loop_order keyword a b c d)
  loop_of_each While a b c d h = each_both a (b ++ (c ++ d)) h.first_each (each_both b (c ++ d) h.test_each (each_both c d h.third_each h.body_each))
  loop_of_each For a b c d h = each_both a (b ++ (c ++ d)) h.first_each (each_both b (c ++ d) h.test_each (each_both c d h.third_each h.body_each))
  loop_of_each Do a b c d h = each_both a (d ++ (b ++ c)) h.first_each (each_both d (b ++ c) h.body_each (each_both b c h.test_each h.third_each))

-- ## Outcomes

-- something holds of whether the mark was passed and of the count, at the end of a piece
abbrev pub LeavesBy : {A : Type 0} → (Bool → ℕ → Type 0) → Progress A → Type 0
LeavesBy P (gives a w) = P w.marked w.after_mark
LeavesBy P (ends end w) = P w.marked w.after_mark

-- the same as a record, from which the piece is known
pub record Leaves {A : Type 0} (P : Bool → ℕ → Type 0) (o : Progress A) : Type 0 where
  pub state : LeavesBy P o

-- nodes that keep what holds, where calls have a meaning: those that allocate or free, the mark, and calls of functions
pub record Keeps (P : Bool → ℕ → Type 0) (N : PlainNode → Type 0) (meaning : Calls) : Type 0 where
  pub memory : (at : At) (t : PlainType) (name : Span) (f : Library) (arguments : PlainValues) → N (a_value (value at t (built_in name f arguments))) → manages_memory f ≡ true →
      (marked : Bool) (count : ℕ) → P marked count → P marked (if marked then suc count else count)
  pub passes : (at : At) → N (a_statement (statement at (mark InitDone))) → (marked : Bool) (count : ℕ) → P marked count → P true count
  pub calls : (at : At) (t : PlainType) (name : Span) (f : ℕ) (arguments : PlainValues) → N (a_value (value at t (call name f arguments))) →
      (xs : List Scalar) (w : State) → P w.marked w.after_mark → Leaves P (meaning f xs w)

module _ (P : Bool → ℕ → Type 0) where
  pub leaves_here : {A : Type 0} (a : A) (w : State) → P w.marked w.after_mark → Leaves P (gives a w)
  leaves_here a w e = record { state = e }

  leaves_step_at : {A : Type 0} (l : ℕ) (w : State) (go : State → Progress A) → P w.marked w.after_mark → ((m : ℕ) → Leaves P (go (record w { left = m }))) → Leaves P (step_at l w go)
  leaves_step_at zero w go e h = record { state = e }
  leaves_step_at (suc m) w go e h = h m

  pub leaves_step : {A : Type 0} (w : State) (go : State → Progress A) → P w.marked w.after_mark → ((m : ℕ) → Leaves P (go (record w { left = m }))) → Leaves P (step w go)
  leaves_step w go e h = leaves_step_at w.left w go e h

  pub leaves_then : {A B : Type 0} (o : Progress A) (go : A → State → Progress B) → Leaves P o → ((a : A) (w : State) → P w.marked w.after_mark → Leaves P (go a w)) → Leaves P (and_then o go)
  leaves_then (gives a w) go e h = h a w e.state
  leaves_then (ends end w) go e h = record { state = e.state }

  pub leaves_or : {A B : Type 0} (r : Result A Stop) (span : Span) (w : State) (go : A → Progress B) → P w.marked w.after_mark → ((a : A) → Leaves P (go a)) → Leaves P (or_undefined r span w go)
  leaves_or (Ok a) span w go e h = h a
  leaves_or (Err stop) span w go e h = record { state = e }

  pub leaves_if : {A : Type 0} (b : Bool) (x y : Progress A) → Leaves P x → Leaves P y → Leaves P (cond b x y)
  leaves_if true x y f g = f
  leaves_if false x y f g = g

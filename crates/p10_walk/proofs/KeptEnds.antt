-- What is left by parts in order, by one of two parts, by blocks and by `switch`, over any domain.
use Rattle.std.proofs.Common.{◌≡◌, Bool, true, false, List, refl, sym, subst, Option, Some, None}
use Rattle.std.specs.Prelude.{is_none, if◌then◌else◌}
use Rattle.std.specs.Option.{option_map}
use Rattle.p10_core.specs.Typed.{PlainLabels, PlainStatements, PlainFunction, PlainProgram}
use Rattle.p10_meaning.specs.Values.{Held}
use Rattle.p10_meaning.specs.States.{State}
use Rattle.p10_meaning.specs.Statements.{Frame, Flow, normal, broken, continued, returned, Done, after_switch}
use Rattle.p10_meaning.specs.Calling.{Depth}
use Rattle.p10_sums.specs.Keeping.{HoldsOf}
use Rattle.p10_execution.proofs.Ends.{IsJump}
use Rattle.p10_walk.specs.Operations.{Operations}
use Rattle.p10_walk.specs.Walking.{Ends, hull_reached, where_going, followed, beside, as_block, switch_left}
use Rattle.p10_walk.specs.Soundness.{Maybe, LeavesAs, IsSound}

module _ (p : PlainProgram) (n : _) (depth : Depth) (number : _) (f : PlainFunction) (K : Type 0) (o : Operations K) (D : K → List Held → List Held → Type 0) (law : IsSound p n depth number f K o D) (head : List Held) where
  pub left_kept : (a b : Option K) (held : List Held) → Maybe D a head held → Maybe D (hull_reached o a b) head held
  left_kept None b held d = absurd d
  left_kept (Some a) None held d = d
  left_kept (Some a) (Some b) held d = law.hull_left a b head held d

  pub right_kept : (a b : Option K) (held : List Held) → Maybe D b head held → Maybe D (hull_reached o a b) head held
  right_kept None b held d = d
  right_kept (Some a) None held d = absurd d
  right_kept (Some a) (Some b) held d = law.hull_right a b head held d

  abbrev pub As : Ends K → Flow → List Held → Type 0
  As a flow held = LeavesAs D a head flow held

  -- a jump out of the first of two parts, and each end of the second
  pub followed_left : (a b : Ends K) (flow : Flow) (held : List Held) → IsJump flow → As a flow held → As (followed o a b) flow held
  followed_left a b normal held j h = absurd j
  followed_left a b broken held j h = left_kept a.breaks b.breaks held h
  followed_left a b continued held j h = left_kept a.continues b.continues held h
  followed_left a b (returned x) held j h = tt

  pub followed_right : (a b : Ends K) (flow : Flow) (held : List Held) → As b flow held → As (followed o a b) flow held
  followed_right a b normal held h = h
  followed_right a b broken held h = right_kept a.breaks b.breaks held h
  followed_right a b continued held h = right_kept a.continues b.continues held h
  followed_right a b (returned x) held h = tt

  -- each end of one of two parts
  pub beside_left : (a b : Ends K) (flow : Flow) (held : List Held) → As a flow held → As (beside o a b) flow held
  beside_left a b normal held h = left_kept a.normal b.normal held h
  beside_left a b broken held h = left_kept a.breaks b.breaks held h
  beside_left a b continued held h = left_kept a.continues b.continues held h
  beside_left a b (returned x) held h = tt

  pub beside_right : (a b : Ends K) (flow : Flow) (held : List Held) → As b flow held → As (beside o a b) flow held
  beside_right a b normal held h = right_kept a.normal b.normal held h
  beside_right a b broken held h = right_kept a.breaks b.breaks held h
  beside_right a b continued held h = right_kept a.continues b.continues held h
  beside_right a b (returned x) held h = tt

  -- ## Blocks

  left_maybe : (ss : PlainStatements) (e : Option K) (held : List Held) → Maybe D e head held → Maybe D (option_map (o.left_scope ss) e) head held
  left_maybe ss None held d = absurd d
  left_maybe ss (Some e) held d = law.left ss e head held d

  pub block_as : (ss : PlainStatements) (a : Ends K) (flow : Flow) (held : List Held) → As a flow held → As (as_block o ss a) flow held
  block_as ss a normal held h = left_maybe ss a.normal held h
  block_as ss a broken held h = left_maybe ss a.breaks held h
  block_as ss a continued held h = left_maybe ss a.continues held h
  block_as ss a (returned x) held h = tt

  -- ## `switch`

  abbrev past : PlainLabels → K → Option K
  past labels e = if is_none labels.otherwise then Some e else None

  pub after_as : (labels : PlainLabels) (e : K) (a : Ends K) (flow : Flow) (frame : Frame) (w : State) → As a flow frame.held →
      HoldsOf (λ (d : Done) w. As (switch_left o labels e a) d.flow d.frame.held) (after_switch (record { flow = flow; frame = frame }) w)
  after_as labels e a normal frame w h = left_kept (hull_reached o a.normal a.breaks) (past labels e) frame.held (left_kept a.normal a.breaks frame.held h)
  after_as labels e a broken frame w h = left_kept (hull_reached o a.normal a.breaks) (past labels e) frame.held (right_kept a.normal a.breaks frame.held h)
  after_as labels e a continued frame w h = h
  after_as labels e a (returned x) frame w h = tt

  -- the body isn't entered
  pub past_as : (labels : PlainLabels) (e : K) (a : Ends K) → is_none labels.otherwise ≡ true → (held : List Held) → D e head held → As (switch_left o labels e a) normal held
  past_as labels e a q held d = right_kept (hull_reached o a.normal a.breaks) (past labels e) held (subst (λ b. Maybe D (if b then Some e else None) head held) (sym q) d)

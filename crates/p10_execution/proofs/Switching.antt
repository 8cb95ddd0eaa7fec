-- Where a `switch` enters its body, and what is left after it.
use Rattle.std.proofs.Common.{◌≡◌, ℕ, ◌<◌, Bool, true, false, List, [], ◌∷◌, refl, ◌∙◌, ap, sym, subst, Option, Some, None, ℤ, arith}
use Rattle.std.specs.Prelude.{is_none, if◌then◌else◌, ◌||◌, nat_eq, IfSome}
use Rattle.std.specs.Ordering.{int_eq}
use Rattle.std.proofs.lemmas.Bool.Decides.{nat_tests}
use Rattle.std.proofs.lemmas.Option.{same_Some, none-some}
use Rattle.p10_int.specs.declared.types.IntType.{IntType}
use Rattle.p10_core.specs.declared.statements.Label.{Label}
use Rattle.p10_core.specs.Typed.{PlainLabels, PlainVariable}
use Rattle.p10_core.specs.WholePrograms.{AreCases}
use Rattle.p10_cert.specs.Claims.{Loop}
use Rattle.p10_meaning.specs.declared.pointers.Scalar.{Scalar}
use Rattle.p10_meaning.specs.States.{State}
use Rattle.p10_meaning.specs.Values.{Held}
use Rattle.p10_meaning.specs.Statements.{Frame, Flow, normal, broken, continued, returned, Done, labelled, after_switch}
use Rattle.p10_sums.specs.Keeping.{HoldsOf}
use Rattle.p10_absx.specs.Environments.{Environment, hull_reached}
use Rattle.p10_absx.specs.Describing.{Describes, MaybeDescribes}
use Rattle.p10_pass.specs.Passing.{Left, Manner, is_case, is_labelled, switch_left}
use Rattle.p10_evaluation.proofs.Hulls.{reached_left, reached_right}
use Rattle.p10_execution.specs.Leaving.{ReturnsAs, LeavesAs}

-- ## Labels

-- the item with a number is labelled, and there
pub record IsEntry (labels : PlainLabels) (count k : ℕ) : Type 0 where
  pub labelled_is : is_labelled k labels ≡ true
  pub there : k < count

-- whether `default` stands before item k
abbrev is_default : ℕ → Option ℕ → Bool
is_default k None = false
is_default k (Some n) = nat_eq n k

nat_eq_itself : (k : ℕ) → nat_eq k k ≡ true
nat_eq_itself k = grind (arith, nat_tests)

-- one more case
more_cases : (l : Label) (cases : List Label) (otherwise : Option ℕ) (count k : ℕ) → IsEntry (record { cases = cases; otherwise = otherwise }) count k → IsEntry (record { cases = l ∷ cases; otherwise = otherwise }) count k
more_cases l cases otherwise count k e = record { labelled_is = widened (nat_eq l.place k) (is_case k cases) _ e.labelled_is; there = e.there }
  where
    widened : (a b c : Bool) → (b || c) ≡ true → ((a || b) || c) ≡ true
    widened true b c h = refl
    widened false b c h = h

pub entry_is : (kind : IntType) (from count : ℕ) (seen : List ℤ) (cases : List Label) (otherwise : Option ℕ) (z : ℤ) (k : ℕ) → AreCases kind from count seen cases → IfSome otherwise (λ n. n < count) → labelled z cases otherwise ≡ Some k → IsEntry (record { cases = cases; otherwise = otherwise }) count k
entry_is kind from count seen [] None z k c o e = absurd (none-some _ e)
entry_is kind from count seen [] (Some n) z k c o e =
    let same : n ≡ k = same_Some _ _ e in
    record { labelled_is = ap (λ j. nat_eq n j) (sym same) ∙ nat_eq_itself n; there = subst (λ j. j < count) same o }
entry_is kind from count seen (l ∷ cases) otherwise z k c o e = by_case (int_eq l.value z) e (λ e. entry_is kind l.place count (l.value ∷ seen) cases otherwise z k c.4 o e)
  where
    by_case : (b : Bool) → (if b then Some l.place else labelled z cases otherwise) ≡ Some k → (labelled z cases otherwise ≡ Some k → IsEntry (record { cases = cases; otherwise = otherwise }) count k) → IsEntry (record { cases = l ∷ cases; otherwise = otherwise }) count k
    by_case true e h =
        let same : l.place ≡ k = same_Some _ _ e in
        record { labelled_is = ap (λ t. (t || is_case k cases) || is_default k otherwise) (ap (λ j. nat_eq l.place j) (sym same) ∙ nat_eq_itself l.place); there = subst (λ j. j < count) same c.2 }
    by_case false e h = more_cases l cases otherwise count k (h e)

-- without an entry there is no `default`
pub no_entry : (cases : List Label) (otherwise : Option ℕ) (z : ℤ) → labelled z cases otherwise ≡ None → is_none otherwise ≡ true
no_entry [] otherwise z e = ap is_none e
no_entry (l ∷ cases) otherwise z e = by_case (int_eq l.value z) e (λ e. no_entry cases otherwise z e)
  where
    by_case : (b : Bool) → (if b then Some l.place else labelled z cases otherwise) ≡ None → (labelled z cases otherwise ≡ None → is_none otherwise ≡ true) → is_none otherwise ≡ true
    by_case true e h = absurd cc
    by_case false e h = h e

-- ## After it

module _ (variables : List PlainVariable) (m : Manner) (labels : PlainLabels) (env : Environment) (a : Left) (head : List Held) where
  after_returns : (held : List Held) (x : Option Scalar) (o : Option (List Loop)) → ReturnsAs variables m a head held x o → ReturnsAs variables m (switch_left labels env a) head held x o
  after_returns held x None h = tt
  after_returns held x (Some ls) h = h

  abbrev past : Option Environment
  past = if is_none labels.otherwise then Some env else None

  pub after_says : (flow : Flow) (frame : Frame) (w : State) → LeavesAs variables m a head flow frame.held →
      HoldsOf (λ (d : Done) w. LeavesAs variables m (switch_left labels env a) head d.flow d.frame.held) (after_switch (record { flow = flow; frame = frame }) w)
  after_says normal frame w h = reached_left variables (hull_reached a.normal a.breaks) past head frame.held (reached_left variables a.normal a.breaks head frame.held h)
  after_says broken frame w h = reached_left variables (hull_reached a.normal a.breaks) past head frame.held (reached_right variables a.normal a.breaks head frame.held h)
  after_says continued frame w h = h
  after_says (returned x) frame w h = after_returns frame.held x m.loops h

  -- the body isn't entered
  pub past_says : is_none labels.otherwise ≡ true → (held : List Held) → Describes variables env head held → LeavesAs variables m (switch_left labels env a) head normal held
  past_says e held d = reached_right variables (hull_reached a.normal a.breaks) past head held (subst (λ b. MaybeDescribes variables (if b then Some env else None) head held) (sym e) d)

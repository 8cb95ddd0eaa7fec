-- What was settled comes to an answer.
use Rattle.std.proofs.Common.{◌≡◌, ℕ, ◌≤◌, ◌<◌, ◌⊎◌, inl, inr, List, sym, ◌∙◌, ap, subst, Option, Result, Ok, Err, IfOk, IfErr, IsErrOf, arith}
use Rattle.std.proofs.Math.Nat.{eq-or-lt_of_le}
use Rattle.p10_world.specs.Faults.{last_count, Rose}
use Rattle.p10_meaning.specs.States.{State, AssertionFailed as HasFailed, Undefined as IsUndefined, StepsSpent as HasSpent, Progress, ends}
use Rattle.p10_meaning.specs.Statements.{Frame}
use Rattle.p10_interp.specs.Stages.{Stage}
use Rattle.p10_interp.specs.declared.broken.Broken.{Broken}
use Rattle.p10_interp.specs.declared.broken.Broken.TheVariants.{Failed, Undefined as Stopped, Spent, Read as Unread, Write as Unwritten, Memory as WantsMemory}
use Rattle.p10_interp.specs.declared.ended.Ended.{Ended}
use Rattle.p10_interp.specs.declared.ended.Ended.TheVariants.{AssertionFailed, Undefined, StepsSpent}
use Rattle.p10_interp.specs.declared.ended.RunFault.{RunFault}
use Rattle.p10_interp.specs.declared.ended.RunFault.TheVariants.{Read, Write, Memory}
use Rattle.p10_interp.specs.private.Serving.{Moment, Serves, Loses, Comes}
use Rattle.p10_interp.specs.private.Parts.{stage_of}
use Rattle.p10_interp.specs.private.Placing.{IsAnswer}
use Rattle.p10_interp.specs.private.Settling.{answered_by, settled}

-- ## Counts of faults

pub rose_later : (a b c : ℕ) → a ≤ b → Rose b c → Rose a c
rose_later a b c l (inl r) = inl (omega (arith, l, r))
rose_later a b c l (inr e) = inr e

last_or_more : (a b c : ℕ) → a ≤ b → b ≡ last_count → (b ≡ c) ⊎ (b < c) → Rose a c
last_or_more a b c l e (inl d) = inr (sym d ∙ e)
last_or_more a b c l e (inr d) = inl (omega (arith, l, d))

pub rose_on : (a b c : ℕ) → a ≤ b → Rose a b → b ≤ c → Rose a c
rose_on a b c m (inl r) l = inl (omega (arith, r, l))
rose_on a b c m (inr e) l = last_or_more a b c m e (eq-or-lt_of_le l)

-- ## Answers

abbrev answer : Ended → Result Ended RunFault
answer x = Ok x

abbrev fault : RunFault → Result Ended RunFault
fault f = Err f

ok_same : (x y : Ended) → answer x ≡ answer y → x ≡ y
ok_same x y e = cc

not_ok : {A : Type 0} (f : RunFault) (y : Ended) → fault f ≡ answer y → A
not_ok f y e = absurd cc

not_err : {A : Type 0} (x : Ended) (f : RunFault) → answer x ≡ fault f → A
not_err x f e = absurd cc

module _ (from : State → Progress Stage) (old new : Moment) (frame : Frame) where
  -- the part came to an end
  pub settled_ok : (came : Result Ended Broken) (ended : Ended) → settled came ≡ Ok ended → Comes from old came (λ ended. stage_of ended frame) new → Serves from old (stage_of ended frame) new
  settled_ok (Ok x) ended e c = subst (λ x. Serves from old (stage_of x frame) new) (ok_same x ended e) c
  settled_ok (Err (Failed span)) ended e c = subst (λ x. Serves from old (stage_of x frame) new) (ok_same (AssertionFailed span) ended e) c
  settled_ok (Err (Stopped stop span)) ended e c = subst (λ x. Serves from old (stage_of x frame) new) (ok_same (Undefined stop span) ended e) c
  settled_ok (Err Spent) ended e c = subst (λ x. Serves from old (stage_of x frame) new) (ok_same StepsSpent ended e) c
  settled_ok (Err Unread) ended e c = not_ok Read ended e
  settled_ok (Err Unwritten) ended e c = not_ok Write ended e
  settled_ok (Err WantsMemory) ended e c = not_ok Memory ended e

  -- the call was given up
  pub settled_err : (came : Result Ended Broken) (f : RunFault) → settled came ≡ Err f → Comes from old came (λ ended. stage_of ended frame) new → Loses from old new.left new.taken
  settled_err (Ok x) f e c = not_err x f e
  settled_err (Err (Failed span)) f e c = not_err (AssertionFailed span) f e
  settled_err (Err (Stopped stop span)) f e c = not_err (Undefined stop span) f e
  settled_err (Err Spent) f e c = not_err StepsSpent f e
  settled_err (Err Unread) f e c = c
  settled_err (Err Unwritten) f e c = c
  settled_err (Err WantsMemory) f e c = c

answered_fits : (loop : Ended) (b : Broken) (ended : Ended) → answered_by b ≡ Ok ended → IsAnswer loop ended
answered_fits loop (Failed span) ended e = subst (IsAnswer loop) (ok_same (AssertionFailed span) ended e) tt
answered_fits loop (Stopped stop span) ended e = subst (IsAnswer loop) (ok_same (Undefined stop span) ended e) tt
answered_fits loop Spent ended e = subst (IsAnswer loop) (ok_same StepsSpent ended e) tt
answered_fits loop Unread ended e = not_ok Read ended e
answered_fits loop Unwritten ended e = not_ok Write ended e
answered_fits loop WantsMemory ended e = not_ok Memory ended e

pub settled_fits : (loop : Ended) (came : Result Ended Broken) (ended : Ended) → settled came ≡ Ok ended → IfOk came (IsAnswer loop) → IsAnswer loop ended
settled_fits loop (Ok x) ended e a = subst (IsAnswer loop) (ok_same x ended e) a
settled_fits loop (Err b) ended e a = answered_fits loop b ended e

pub fits_last : (loop ended : Ended) (r : Result Ended RunFault) → IsAnswer loop ended → IfOk r (λ answer. answer ≡ ended) → IfOk r (IsAnswer loop)
fits_last loop ended (Ok x) a e = subst (IsAnswer loop) (sym e) a
fits_last loop ended (Err f) a e = tt

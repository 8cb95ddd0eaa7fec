-- The objects of a block are closed one after the other.
use Rattle.std.proofs.Common.{◌≡◌, ℕ, List, [], ◌∷◌, refl, sym, ◌∙◌, ap, Option, Some, None, Result, Ok, Err, OnOk, IfErr}
use Rattle.p10_meaning.specs.declared.pointers.Scalar.{Scalar}
use Rattle.p10_meaning.specs.Objects.{Object, closed, all_closed}
use Rattle.p10_meaning.specs.States.{State, gives}
use Rattle.p10_meaning.specs.Statements.{Flow, normal}
use Rattle.p10_store.specs.Stores.{Held, Closes, Ends}
use Rattle.p10_interp.specs.declared.work.Halt.{Halt}
use Rattle.p10_interp.specs.declared.work.Halt.TheVariants.{Failed, Undefined, Spent, Memory}
use Rattle.p10_interp.specs.private.Tasks.{Task, Operand, evaluated, Open}
use Rattle.p10_interp.specs.private.Operations.{after_block, block_closed}
use Rattle.p10_interp.specs.private.Views.{Answers}
use Rattle.p10_interp.specs.private.OpenCalls.{owning_all, TakesOwn}
use Rattle.p10_interp.specs.private.Acts.{goes_on, goes_back}
use Rattle.p10_interp.specs.private.Leaving.{ClosesOwn}

-- some of the objects are closed, and the others are left to be
pub record IsClosing (f : Open) (calls now : List Open) (old new : Held) : Type 0 where
  pub rest : List ℕ
  pub here : now ≡ owning_all f rest ∷ calls
  pub objects : all_closed rest new.objects ≡ all_closed f.frame.opened old.objects
  pub opened : new.opened ≡ old.opened

pub closing_starts : (f : Open) (calls now : List Open) (store : Held) → now ≡ f ∷ calls → IsClosing f calls now store store
closing_starts f calls now store e = record { rest = f.frame.opened; here = e; objects = refl; opened = refl }

pub closing_more : (f : Open) (calls now fewer : List Open) (old mid new : Held) (object : ℕ) → IsClosing f calls now old mid →
    ((f : Open) (calls : List Open) → now ≡ f ∷ calls → TakesOwn f calls (Some object) fewer) → new.objects ≡ closed object mid.objects → new.opened ≡ mid.opened → IsClosing f calls fewer old new
closing_more f calls now fewer old mid new object h go objects opened =
    let t : TakesOwn (owning_all f h.rest) calls (Some object) fewer = go (owning_all f h.rest) calls h.here in
    record {
      rest = t.0;
      here = t.1.1;
      objects = ap (λ os. all_closed t.0 os) objects ∙ (sym (ap (λ ns. all_closed ns mid.objects) t.1.0) ∙ h.objects);
      opened = opened ∙ h.opened;
    }

pub closing_ends : (f : Open) (calls now fewer : List Open) (old new : Held) → IsClosing f calls now old new → ((f : Open) (calls : List Open) → now ≡ f ∷ calls → TakesOwn f calls None fewer) → ClosesOwn f calls fewer old new
closing_ends f calls now fewer old new h go =
    let t : TakesOwn (owning_all f h.rest) calls None fewer = go (owning_all f h.rest) calls h.here in
    record {
      here = t.1 ∙ ap (λ ns. owning_all f ns ∷ calls) t.0;
      objects = sym (ap (λ ns. all_closed ns new.objects) t.0) ∙ h.objects;
      opened = h.opened;
    }

-- the count of opens stays
pub ends_opened : (n : ℕ) (o : Option Object) (old new : Held) → Ends n o old new → new.opened ≡ old.opened
ends_opened n None old new e = ap (λ (v : Held). v.opened) e
ends_opened n (Some object) old new e = let k : Closes n old new = e in k.opened

state_closed : (f : Open) (calls now : List Open) (old new : Held) (w : State) → w.objects ≡ old.objects → w.opened ≡ old.opened → ClosesOwn f calls now old new →
    block_closed f w ≡ record w { objects = new.objects; opened = new.opened }
state_closed f calls now old new w same number h =
    ap (λ os. record w { objects = os }) (ap (λ os. all_closed f.frame.opened os) same ∙ sym h.objects) ∙ ap (λ n. record w { objects = new.objects; opened = n }) (number ∙ sym h.opened)

pub block_left : (flow : Flow) (k : List Task) (operands : List Operand) (f : Open) (calls mid now : List Open) (old new : Held) (w : State) → w.objects ≡ old.objects → w.opened ≡ old.opened → ClosesOwn f calls mid old new →
    ((f : Open) (calls : List Open) → mid ≡ f ∷ calls → f.frame.opened ≡ [] → now ≡ after_block f ∷ calls) →
    goes_back flow k operands (after_block f ∷ calls) (block_closed f w) ≡ gives (record { flow = flow; tasks = k; operands = operands; calls = now }) (record w { objects = new.objects; opened = new.opened })
block_left flow k operands f calls mid now old new w same number h go =
    ap (λ calls. goes_back flow k operands calls (block_closed f w)) (sym (go (owning_all f []) calls h.here refl)) ∙ ap (λ w. goes_back flow k operands now w) (state_closed f calls mid old new w same number h)

pub call_ended : {B : Type 0} (r : Result B Halt) (k : List Task) (operands given : List Operand) (x : Option Scalar) (f : Open) (calls mid now : List Open) (old new : Held) (w : State) → w.objects ≡ old.objects → w.opened ≡ old.opened → ClosesOwn f calls mid old new →
    ((f : Open) (calls : List Open) → mid ≡ f ∷ calls → now ≡ calls) → OnOk r (given ≡ evaluated x ∷ operands) → IfErr r (λ e. e ≡ Memory) →
    Answers (goes_on k (evaluated x ∷ operands) calls (block_closed f w)) r (record { flow = normal; tasks = k; operands = given; calls = now }) (record w { objects = new.objects; opened = new.opened })
call_ended (Ok done) k operands given x f calls mid now old new w same number h go put e =
    ap (λ operands. goes_on k operands calls (block_closed f w)) (sym put) ∙
    (ap (λ calls. goes_on k given calls (block_closed f w)) (sym (go (owning_all f []) calls h.here)) ∙ ap (λ w. goes_on k given now w) (state_closed f calls mid old new w same number h))
call_ended (Err Memory) k operands given x f calls mid now old new w same number h go put e = tt
call_ended (Err (Failed span)) k operands given x f calls mid now old new w same number h go put e = absurd cc
call_ended (Err (Undefined stop span)) k operands given x f calls mid now old new w same number h go put e = absurd cc
call_ended (Err Spent) k operands given x f calls mid now old new w same number h go put e = absurd cc

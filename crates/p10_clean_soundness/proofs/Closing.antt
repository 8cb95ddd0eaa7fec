-- The objects of a block die at its end, and all others stay as they are.
use Rattle.std.proofs.Common.{◌≡◌, ℕ, true, false, List, [], ◌∷◌, refl, ◌∙◌, ap, sym, Some, None}
use Rattle.std.specs.Prelude.{nat_eq, Bool}
use Rattle.std.proofs.lemmas.Bool.{eqb-true, eqb-false}
use Rattle.std.proofs.lemmas.Option.{none-some}
use Rattle.p10_core.specs.Typed.{PlainProgram}
use Rattle.p10_core.specs.WholePrograms.{is_among}
use Rattle.p10_meaning.specs.Objects.{Origin, Object, find, closed, all_closed}
use Rattle.p10_meaning.specs.States.{State, Progress}
use Rattle.p10_meaning.specs.Statements.{Frame, Done, in_block, leave_block}
use Rattle.p10_meaning.specs.Sound.{Kind, AllObjects, Sound}
use Rattle.p10_meaning.specs.Apart.{ClosesOne}
use Rattle.p10_meaning.proofs.Fitting.{closed_fits, sound_with}
use Rattle.p10_meaning.proofs.StayApart.{closes_one}
use Rattle.p10_clean_soundness.specs.private.Stays.{Stays}
use Rattle.p10_clean_soundness.specs.private.Objects.{IsLive, Settled, Survives, Survive, LeavesClean}
use Rattle.p10_clean_soundness.proofs.Staying.{stays_then}
use Rattle.p10_clean_soundness.proofs.Frames.{out_of_both}

-- ## Objects that stay alive

pub survive_same : (objects : List Object) → Survive objects objects
survive_same objects = record { each = λ o x e. record { object = x; there = e; origin_is = refl } }

pub survive_trans : (a b c : List Object) → Survive a b → Survive b c → Survive a c
survive_trans a b c h k = record {
  each = λ o x e.
      let first : Survives o x b = h.each o x e in
      let second : Survives o first.object c = k.each o first.object first.there in
      record { object = second.object; there = second.there; origin_is = second.origin_is ∙ first.origin_is };
}

pub live_on : (origin : Origin) (opening : List ℕ) (before after : List Object) (o : ℕ) → Survive before after → IsLive origin opening before o → IsLive origin opening after o
live_on origin opening before after o h l =
    let s : Survives o l.object after = h.each o l.object l.there in record { object = s.object; there = s.there; origin_is = s.origin_is ∙ l.origin_is; apart = l.apart }

pub started_on : (opening : List ℕ) (before after : List Object) → Survive before after → ((o : ℕ) → is_among o opening ≡ true → (x : Object) × (find o before ≡ Some x)) → (o : ℕ) → is_among o opening ≡ true → (x : Object) × (find o after ≡ Some x)
started_on opening before after h started o e =
    let x : (x : Object) × (find o before ≡ Some x) = started o e in
    let s : Survives o x.0 after = h.each o x.0 x.1 in (s.object, s.there)

-- nothing happens
pub leaves_same : (p : PlainProgram) (opening : List ℕ) (w : State) → Settled p opening w.objects → LeavesClean p opening w.objects w
leaves_same p opening w s = record { settled = s; survive = survive_same w.objects }

-- one piece after another
pub leaves_then : (p : PlainProgram) (opening : List ℕ) (a : List Object) (b c : State) → LeavesClean p opening a b → LeavesClean p opening b.objects c → LeavesClean p opening a c
leaves_then p opening a b c h k = record { settled = k.settled; survive = survive_trans a b.objects c.objects h.survive k.survive }

-- ## The end of a block

-- no object that was live before is among those that a block opened
pub record OpensNew (before : List Object) (opened : List ℕ) (d : Done) : Type 0 where
  pub each : (o : ℕ) (x : Object) → find o before ≡ Some x → is_among o d.frame.opened ≡ true → is_among o opened ≡ true

not_among : (o : ℕ) (ns : List ℕ) → (is_among o ns ≡ true → ⊥) → is_among o ns ≡ false
not_among o ns h = of (is_among o ns) refl
  where
    of : (b : Bool) → is_among o ns ≡ b → is_among o ns ≡ false
    of true e = absurd (h e)
    of false e = e

module _ (p : PlainProgram) (ks : List Kind) (w : State) (sound : Sound p ks w) where
  closes : (objects : List Object) → AllObjects p ks objects → (n : ℕ) → ClosesOne objects n
  closes objects all n = closes_one p ks (record w { objects = objects }) (sound_with p ks w.objects objects w.opened w.input w.sensors sound all) n

  stays_live : (ns : List ℕ) (objects : List Object) → AllObjects p ks objects → (m : ℕ) → is_among m ns ≡ false → find m (all_closed ns objects) ≡ find m objects
  stays_live [] objects all m out = refl
  stays_live (n ∷ ns) objects all m out =
      let h : (nat_eq m n ≡ false) × (is_among m ns ≡ false) = out_of_both (nat_eq m n) (is_among m ns) out in
      stays_live ns (closed n objects) (closed_fits p ks n objects all) m h.1 ∙ (closes objects all n).others m (eqb-false m n h.0)

  was_live : (ns : List ℕ) (objects : List Object) → AllObjects p ks objects → (m : ℕ) (x : Object) → find m (all_closed ns objects) ≡ Some x → find m objects ≡ Some x
  was_live [] objects all m x e = e
  was_live (n ∷ ns) objects all m x e = of (nat_eq m n) refl (was_live ns (closed n objects) (closed_fits p ks n objects all) m x e)
    where
      of : (b : Bool) → nat_eq m n ≡ b → find m (closed n objects) ≡ Some x → find m objects ≡ Some x
      of true q e =
          let same : n ≡ m = sym (eqb-true m n q) in
          let none : find m (closed n objects) ≡ None = ap (λ k. find k (closed n objects)) (sym same) ∙ (closes objects all n).dead in absurd (none-some x (sym none ∙ e))
      of false q e = sym ((closes objects all n).others m (eqb-false m n q)) ∙ e

  pub closing_leaves : (opening : List ℕ) (before : List Object) (ns : List ℕ) → Settled p opening before → LeavesClean p opening before w → ((o : ℕ) (x : Object) → find o before ≡ Some x → is_among o ns ≡ false) →
      LeavesClean p opening before (record w { objects = all_closed ns w.objects })
  closing_leaves opening before ns settled h out =
      let lives : Survive before (all_closed ns w.objects) = record {
        each = λ o x e.
            let s : Survives o x w.objects = h.survive.each o x e in
            record { object = s.object; there = stays_live ns w.objects sound.all o (out o x e) ∙ s.there; origin_is = s.origin_is };
      } in
      record {
        settled = record {
          filled = λ o x e apart. h.settled.filled o x (was_live ns w.objects sound.all o x e) apart;
          started = started_on opening before (all_closed ns w.objects) lives settled.started;
          statics = λ k object e isnt. live_on _ opening before (all_closed ns w.objects) k lives (settled.statics k object e isnt);
          literals = λ k l e. live_on _ opening before (all_closed ns w.objects) _ lives (settled.literals k l e);
        };
        survive = lives;
      }

-- some piece leaves a sound state
pub record IsSound (p : PlainProgram) (w : State) : Type 0 where
  pub kinds : List Kind
  pub sound : Sound p kinds w

-- a block whose inside leaves a clean state and opens new objects alone
pub block_clean : (p : PlainProgram) (opening : List ℕ) (run : Frame → State → Progress Done) (frame : Frame) (w : State) → Settled p opening w.objects →
    Stays (λ d u. IsSound p u × LeavesClean p opening w.objects u × OpensNew w.objects [] d) (run (record frame { opened = [] }) w) → Stays (λ d u. LeavesClean p opening w.objects u) (in_block run frame w)
block_clean p opening run frame w settled h =
    stays_then (λ d u. IsSound p u × LeavesClean p opening w.objects u × OpensNew w.objects [] d) (λ d u. LeavesClean p opening w.objects u) (run (record frame { opened = [] }) w) (λ done w. leave_block frame.opened done w) h (λ d u k.
    closing_leaves p k.0.kinds u k.0.sound opening w.objects d.frame.opened settled k.1 (λ o x e. not_among o d.frame.opened (λ a. never o (k.2.each o x e a))))
  where
    never : (o : ℕ) → is_among o [] ≡ true → ⊥
    never o e = absurd cc

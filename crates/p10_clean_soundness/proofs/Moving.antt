-- What a statement leaves besides a clean state: live objects for the variables in scope after it, in a frame whose block opened new objects
-- alone.
use Rattle.std.proofs.Common.{◌≡◌, ℕ, zero, suc, ◌<◌, Bool, true, false, List, [], ◌∷◌, length, refl, ◌∙◌, ap, sym, subst, arith, inl, inr, Option, Some, None, slice_get}
use Rattle.std.specs.Prelude.{nat_eq, ◌||◌, ◌⊎◌}
use Rattle.std.proofs.lemmas.Bool.{eqb-true}
use Rattle.std.proofs.lemmas.Option.{none-some}
use Rattle.p10_core.specs.Typed.{PlainStatement, statement, declare, declare_static, PlainVariable, PlainProgram}
use Rattle.p10_core.specs.WholePrograms.{Region, is_among, declared_in, IsWholeStatement}
use Rattle.p10_meaning.specs.Objects.{declared, Object, find}
use Rattle.p10_meaning.specs.States.{State, Progress, gives, ends}
use Rattle.p10_meaning.specs.Values.{Setting, Held, holds, stands, absent}
use Rattle.p10_meaning.specs.Statements.{Frame, Done, execute}
use Rattle.p10_meaning.specs.Sound.{Kind, Sound, FrameFits}
use Rattle.p10_meaning.proofs.Fitting.{get_below, IsFound, find_is}
use Rattle.p10_meaning.proofs.SoundStatements.{scope_after}
use Rattle.p10_sums.specs.Keeping.{HoldsOf}
use Rattle.p10_clean.specs.Settings.{Settings}
use Rattle.p10_pass.specs.Marks.{is_marked}
use Rattle.p10_execution.specs.Standing.{AreInFrame, StandsSoundly}
use Rattle.p10_execution.proofs.Giving.{holds_weaker}
use Rattle.p10_execution.proofs.TopDeclarations.{declares_here}
use Rattle.p10_clean_soundness.specs.private.Setting.{StandsFor, SetUp, AreApart}
use Rattle.p10_clean_soundness.specs.private.Objects.{IsLive, AreLive, Survive}
use Rattle.p10_clean_soundness.proofs.Closing.{live_on, OpensNew}
use Rattle.p10_clean_soundness.proofs.Frames.{object_stays, Fine, Opened, OpenedOne, statement_opened, declare_opened}

-- ## New objects

-- the next object isn't live yet
pub not_opened : (p : PlainProgram) (ks : List Kind) (w : State) → Sound p ks w → (x : Object) → find w.opened w.objects ≡ Some x → ⊥
not_opened p ks w sound x e =
    let found : IsFound p ks w.opened x = subst (λ o. elim o as (λ o. Type 0) [ None ↦ Unit {0} | Some x ↦ IsFound p ks w.opened x ]) e (find_is p ks w.opened w.objects sound.all) in
    let below : x.number < length ks = get_below ks x.number found.fits.kind found.fits.opened in
    let same : x.number ≡ w.opened = found.number in
    let count : length ks ≡ w.opened = sound.count in
    omega (arith, below, same, count)

opens_same : (before : List Object) (opened : List ℕ) (d : Done) → d.frame.opened ≡ opened → OpensNew before opened d
opens_same before opened d e = record { each = λ o x f a. subst (λ ns. is_among o ns ≡ true) e a }

opens_one : (p : PlainProgram) (ks : List Kind) (w : State) → Sound p ks w → (opened : List ℕ) (d : Done) → d.frame.opened ≡ w.opened ∷ opened → OpensNew w.objects opened d
opens_one p ks w sound opened d e = record { each = λ o x f a. of o x f (nat_eq o w.opened) refl (subst (λ ns. is_among o ns ≡ true) e a) }
  where
    of : (o : ℕ) (x : Object) → find o w.objects ≡ Some x → (b : Bool) → nat_eq o w.opened ≡ b → b || is_among o opened ≡ true → is_among o opened ≡ true
    of o x f true q a = absurd (not_opened p ks w sound x (ap (λ k. find k w.objects) (sym (eqb-true o w.opened q)) ∙ f))
    of o x f false q a = a

pub opens_new : (p : PlainProgram) (s : Setting) (x : PlainStatement) (r : Region) → IsWholeStatement r x → (ks : List Kind) (frame : Frame) (w : State) → Sound p ks w → HoldsOf (λ d u. OpensNew w.objects frame.opened d) (execute s x frame w)
opens_new p s (statement at (declare m initializer)) r i ks frame w sound =
    holds_weaker (OpenedOne s frame.opened w.opened) (λ d u. OpensNew w.objects frame.opened d) (execute s (statement at (declare m initializer)) frame w) (declare_opened s at m initializer frame w) (λ d u h.
    elim h [ inl e ↦ opens_same w.objects frame.opened d e | inr e ↦ opens_one p ks w sound frame.opened d e ])
opens_new p s (statement at (declare_static k)) r i ks frame w sound = record { each = λ o x f a. a }
opens_new p s x r i ks frame w sound =
    holds_weaker (Opened s frame.opened) (λ d u. OpensNew w.objects frame.opened d) (execute s x frame w) (statement_opened s x r i refl frame w) (λ d u e. opens_same w.objects frame.opened d e)

-- one part of a block after another
pub opens_then : (a b : List Object) (opened : List ℕ) (d e : Done) → Survive a b → OpensNew a opened d → OpensNew b d.frame.opened e → OpensNew a opened e
opens_then a b opened d e h k j = record { each = λ o x f i. k.each o x f (j.each o (h.each o x f).object (h.each o x f).there i) }

-- ## Live objects

-- what is in scope after a statement was before it, or is declared by it
new_or_before : (x : PlainStatement) (scope : List ℕ) (n : ℕ) → is_among n (scope_after x scope) ≡ true → (is_among n scope ≡ true) ⊎ (declares_here n x ≡ true)
new_or_before (statement at (declare m initializer)) scope n e = of (nat_eq n m) refl e
  where
    of : (b : Bool) → nat_eq n m ≡ b → b || is_among n scope ≡ true → (is_among n scope ≡ true) ⊎ (nat_eq n m ≡ true)
    of true q e = inr q
    of false q e = inl e
new_or_before x scope n e = inl e

-- the object of a variable that a statement declares is live
abbrev pub NewLive : PlainStatement → List ℕ → List Held → List Object → Type 0
NewLive x opening held objects = (n object : ℕ) → declares_here n x ≡ true → slice_get held n ≡ Some (stands object) → IsLive declared opening objects object

-- the objects of variables that it doesn't declare stay
abbrev pub ObjectsStay : PlainStatement → List Held → List Held → Type 0
ObjectsStay x before after = (n object : ℕ) → is_among n (declared_in x) ≡ false → slice_get before n ≡ Some (stands object) → slice_get after n ≡ Some (stands object)

pub objects_stay : (s : Setting) (x : PlainStatement) (r : Region) → IsWholeStatement r x → (frame : Frame) (w : State) → HoldsOf (λ d u. ObjectsStay x frame.held d.frame.held) (execute s x frame w)
objects_stay s x r i frame w = of (execute s x frame w) (λ n object out e. object_stays s n object x r i out frame w e)
  where
    of : (o : Progress Done) → ((n object : ℕ) → is_among n (declared_in x) ≡ false → slice_get frame.held n ≡ Some (stands object) → HoldsOf (Fine s n object) o) → HoldsOf (λ d u. ObjectsStay x frame.held d.frame.held) o
    of (gives d u) h = h
    of (ends end u) h = tt

-- a frame that fits has a variable for each thing that stands in it
variable_of : (p : PlainProgram) (ks : List Kind) (vs : List PlainVariable) (hs : List Held) (n : ℕ) (h : Held) → FrameFits p ks vs hs → slice_get hs n ≡ Some h → (v : PlainVariable) × (slice_get vs n ≡ Some v)
variable_of p ks vs [] n h fits e = absurd (none-some _ e)
variable_of p ks [] (x ∷ hs) n h fits e = absurd fits
variable_of p ks (v ∷ vs) (x ∷ hs) zero h fits e = (v, refl)
variable_of p ks (v ∷ vs) (x ∷ hs) (suc n) h fits e = variable_of p ks vs hs n h fits.1 e

module _ (p : PlainProgram) (variables : List PlainVariable) (n : ℕ) where
  -- what stands for a variable after a statement that doesn't declare it, where an object does, stood for it before
  stood : (ks : List Kind) (v : PlainVariable) (k object : ℕ) (marked : Bool) (before after : List Held) → AreInFrame variables after → slice_get variables k ≡ Some v →
      ((o : ℕ) → slice_get before k ≡ Some (stands o) → slice_get after k ≡ Some (stands o)) → slice_get after k ≡ Some (stands object) → (h : Option Held) → slice_get before k ≡ h → StandsFor v.frame marked h → slice_get before k ≡ Some (stands object)
  stood ks v k object marked before after in_frame there stay e (Some (holds cell)) was h = absurd (in_frame.no_object k v object there h.0 e)
  stood ks v k object marked before after in_frame there stay e (Some (stands o)) was h =
      let now : slice_get after k ≡ Some (stands o) = stay o was in
      let same : o ≡ object = cc in
      was ∙ ap (λ o. Some (stands o)) same
  stood ks v k object marked before after in_frame there stay e (Some absent) was h = absurd h
  stood ks v k object marked before after in_frame there stay e None was h = absurd h

  -- the objects that stand for variables in scope are live after a statement
  pub live_after : (x : PlainStatement) (scope opening : List ℕ) (settings : Settings) (before after : List Held) (old : List Object) (u : State) (frame : Frame) → frame.held ≡ after → StandsSoundly p variables n frame u → SetUp variables scope settings before →
      AreApart scope (declared_in x) → AreLive opening scope before old → Survive old u.objects → ObjectsStay x before after → NewLive x opening after u.objects → AreLive opening (scope_after x scope) after u.objects
  live_after x scope opening None before after old u frame is ready set_up apart live survive stay new = absurd set_up
  live_after x scope opening (Some marks) before after old u frame is ready set_up apart live survive stay new = record {
    each = λ k object e there. elim (new_or_before x scope k e) [ inl h ↦ from_before k object h there | inr h ↦ new k object h there ];
  }
    where
      from_before : (k object : ℕ) → is_among k scope ≡ true → slice_get after k ≡ Some (stands object) → IsLive declared opening u.objects object
      from_before k object h there =
          let v : (v : PlainVariable) × (slice_get variables k ≡ Some v) = variable_of p ready.kinds variables frame.held k (stands object) ready.fits (ap (λ held. slice_get held k) is ∙ there) in
          live_on declared opening old u.objects object survive (live.each k object h
          (stood ready.kinds v.0 k object (is_marked marks k) before after (subst (λ held. AreInFrame variables held) is ready.in_frame) v.1 (λ o e. stay k o (apart.each k h) e) there (slice_get before k) refl (set_up.each k v.0 h v.1)))

-- Writes at places that are reached: a scalar is assigned, and a structure is copied.
use Rattle.std.proofs.Common.{◌≡◌, ℕ, Bool, true, false, List, length, refl, ◌∙◌, ap, sym, subst, arith, ◌+◌, Some, slice_get}
use Rattle.std.proofs.lemmas.Option.{same_Some}
use Rattle.p10_base.specs.declared.span.Span.{Span}
use Rattle.p10_core.specs.Types.{PlainType, void, integer, pointer, array, structure, bare, unqualified, PlainStructure}
use Rattle.p10_core.specs.Rows.{is_scalar, is_integer}
use Rattle.p10_core.specs.Sizes.{scalars_of}
use Rattle.p10_core.specs.Typed.{PlainPlace, PlainVariable, PlainProgram}
use Rattle.p10_meaning.specs.declared.pointers.Window.{Window}
use Rattle.p10_meaning.specs.declared.pointers.Ptr.TheVariants.{Null, To}
use Rattle.p10_meaning.specs.declared.pointers.Scalar.{Scalar}
use Rattle.p10_meaning.specs.Pointers.{holding}
use Rattle.p10_meaning.specs.Objects.{Object, put}
use Rattle.p10_meaning.specs.States.{State}
use Rattle.p10_meaning.specs.Values.{scalars, width, Target, Variable, Sensor, Element, pointer_to}
use Rattle.p10_meaning.specs.Statements.{Frame, write_target, copy_scalars}
use Rattle.p10_meaning.specs.Sound.{Kind, IsAt, Sound}
use Rattle.p10_meaning.proofs.Geometry.{IsLaidOut}
use Rattle.p10_meaning.proofs.Fitting.{bare_unqualified}
use Rattle.p10_meaning.proofs.SoundParts.{TargetFits}
use Rattle.p10_clean.specs.Literals.{lies_in_literal}
use Rattle.p10_clean_soundness.specs.private.Stays.{Stays}
use Rattle.p10_clean_soundness.specs.private.Objects.{Settled, Survives, Survive, LeavesClean, ReachesElement, IsReached}
use Rattle.p10_clean_soundness.proofs.Staying.{stays_or, stays_weaker}
use Rattle.p10_clean_soundness.proofs.Closing.{leaves_same}
use Rattle.p10_clean_soundness.proofs.SettingUp.{holding_filled}
use Rattle.p10_clean_soundness.proofs.Writing.{writes_leave, put_writes, HasParts, MayWrite, write_ok}
use Rattle.p10_clean_soundness.proofs.WritingParts.{WritesFrom, copy_writes}
use Rattle.p10_clean_soundness.proofs.WritingPlaces.{parts_there, cell_there}

-- ## Places that stay reached

pub reaches_on : (in_literal : Bool) (opening : List ℕ) (before after : List Object) (o : ℕ) (window : Window) (n : ℕ) → Survive before after → ReachesElement in_literal opening before o window n → ReachesElement in_literal opening after o window n
reaches_on in_literal opening before after o window n h r =
    let s : Survives o r.object after = h.each o r.object r.there in
    record { object = s.object; there = s.there; apart = r.apart; inside = r.inside; within = r.within; declared_is = λ e. s.origin_is ∙ r.declared_is e }

pub reached_on : (q : PlainPlace) (opening : List ℕ) (before after : List Object) (target : Target) → Survive before after → IsReached q opening before target → IsReached q opening after target
reached_on q opening before after (Variable k) h r = r
reached_on q opening before after Sensor h r = r
reached_on q opening before after (Element Null) h r = r
reached_on q opening before after (Element (To o window n)) h r = reaches_on (lies_in_literal q) opening before after o window n h r

-- ## Types

-- a variable of the frame is a scalar
abbrev pub IsScalarTarget : List PlainVariable → Target → Type 0
IsScalarTarget variables (Variable k) = (v : PlainVariable) → slice_get variables k ≡ Some v → is_scalar v.type ≡ true
IsScalarTarget variables target = Unit {0}

pub bare_scalar : (ss : List PlainStructure) (t : PlainType) → is_scalar (bare ss t) ≡ is_scalar t
bare_scalar ss (void c) = refl
bare_scalar ss (integer c i) = refl
bare_scalar ss (pointer c t) = refl
bare_scalar ss (array c t n) = refl
bare_scalar ss (structure c n) = refl

no_scalar : (t : PlainType) (k : ℕ) → unqualified t ≡ structure false k → is_scalar t ≡ false
no_scalar (void c) k e = refl
no_scalar (integer c i) k e = absurd cc
no_scalar (pointer c t) k e = absurd cc
no_scalar (array c t n) k e = refl
no_scalar (structure c n) k e = refl

integer_scalar : (t : PlainType) → is_integer t ≡ true → is_scalar t ≡ true
integer_scalar (void c) e = absurd cc
integer_scalar (integer c i) e = refl
integer_scalar (pointer c t) e = refl
integer_scalar (array c t n) e = absurd cc
integer_scalar (structure c n) e = absurd cc

module _ (p : PlainProgram) (out : IsLaidOut p) (opening : List ℕ) where
  -- structures of one number have the same scalars
  pub same_scalars : (t u : PlainType) (k : ℕ) → unqualified t ≡ structure false k → unqualified u ≡ structure false k → scalars p t ≡ scalars p u
  same_scalars t u k a b = ap (λ t. scalars_of p.structures t) (sym (bare_unqualified p.structures t) ∙ (ap (bare p.structures) (a ∙ sym b) ∙ bare_unqualified p.structures u))

  -- ## Elements

  pub element_parts : (in_literal : Bool) (ks : List Kind) (w : State) → Sound p ks w → (t : PlainType) (o : ℕ) (window : Window) (n : ℕ) → IsAt p ks t o window n → ReachesElement in_literal opening w.objects o window n → HasParts w.objects o window n (width p t)
  element_parts in_literal ks w so t o window n at r = parts_there p out ks w so t o window n at r.inside r.within r.object r.there

  pub element_writes : (ks : List Kind) (w : State) → Sound p ks w → (t : PlainType) (o : ℕ) (window : Window) (n : ℕ) → IsAt p ks t o window n → ReachesElement false opening w.objects o window n → MayWrite w.objects o window n (width p t)
  element_writes ks w so t o window n at r =
      record { parts = element_parts false ks w so t o window n at r; declared_is = λ x e. ap (λ (x : Object). x.origin) (same_Some _ _ (sym e ∙ r.there)) ∙ r.declared_is refl }

  -- ## Assignments

  pub write_clean : (variables : List PlainVariable) (q : PlainPlace) (t : PlainType) (ks : List Kind) (span : Span) (target : Target) (x : Scalar) (frame : Frame) (w : State) → Sound p ks w → TargetFits p variables t ks target → is_scalar t ≡ true → lies_in_literal q ≡ false → Settled p opening w.objects → IsReached q opening w.objects target →
      Stays (λ d u. LeavesClean p opening w.objects u) (write_target span target (holding x) frame w)
  write_clean variables q t ks span (Variable k) x frame w so fits scalar isnt s r = leaves_same p opening w s
  write_clean variables q t ks span Sensor x frame w so fits scalar isnt s r = leaves_same p opening w s
  write_clean variables q t ks span (Element Null) x frame w so fits scalar isnt s r = absurd r
  write_clean variables q t ks span (Element (To o window n)) x frame w so fits scalar isnt s r =
      let c = cell_there p out ks w so t o window n fits r.inside r.within r.object r.there scalar in
      let now : List Object = put w.objects o (window.start + n) (holding x) in
      stays_or (λ d u. LeavesClean p opening w.objects u) _ now span w _ (write_ok w.objects o window n (holding x) c.0 r.object r.there r.inside r.within c.1 (r.declared_is isnt))
      (writes_leave p opening w.objects (record w { objects = now }) (put_writes p opening w.objects o (window.start + n) (holding x) r.object r.there (holding_filled x) (record w { objects = now }) refl s))

  -- ## Copies of structures

  pub no_variable : (variables : List PlainVariable) (t : PlainType) (ks : List Kind) (number k : ℕ) → unqualified t ≡ structure false number → TargetFits p variables t ks (Variable k) → IsScalarTarget variables (Variable k) → ⊥
  no_variable variables t ks number k is fits scalar =
      let yes : is_scalar fits.variable.type ≡ true = scalar fits.variable fits.there in
      let no : is_scalar fits.variable.type ≡ false = sym (bare_scalar p.structures fits.variable.type) ∙ (ap is_scalar fits.same ∙ (bare_scalar p.structures t ∙ no_scalar t number is)) in
      absurd cc

  pub no_sensor : (t : PlainType) (number : ℕ) → unqualified t ≡ structure false number → is_integer t ≡ true → ⊥
  no_sensor t number is integers = let yes : is_scalar t ≡ true = integer_scalar t integers in let no : is_scalar t ≡ false = no_scalar t number is in absurd cc

  pub copy_clean : (variables : List PlainVariable) (q r : PlainPlace) (t u : PlainType) (number : ℕ) → unqualified t ≡ structure false number → unqualified u ≡ structure false number → (ks : List Kind) (to_span from_span : Span) (target source : Target) (frame : Frame) (w : State) → Sound p ks w →
      TargetFits p variables t ks target → TargetFits p variables u ks source → IsScalarTarget variables target → IsScalarTarget variables source → lies_in_literal q ≡ false → Settled p opening w.objects → IsReached q opening w.objects target → IsReached r opening w.objects source →
      Stays (λ d u. LeavesClean p opening w.objects u) (copy_scalars (width p t) 0 to_span (pointer_to target) from_span (pointer_to source) frame w)
  copy_clean variables q r t u number is it ks to_span from_span (Variable k) source frame w so ft fu st su isnt s rt ru = absurd (no_variable variables t ks number k is ft st)
  copy_clean variables q r t u number is it ks to_span from_span Sensor source frame w so ft fu st su isnt s rt ru = absurd (no_sensor t number is ft)
  copy_clean variables q r t u number is it ks to_span from_span (Element Null) source frame w so ft fu st su isnt s rt ru = absurd rt
  copy_clean variables q r t u number is it ks to_span from_span (Element (To o window n)) (Variable k) frame w so ft fu st su isnt s rt ru = absurd (no_variable variables u ks number k it fu su)
  copy_clean variables q r t u number is it ks to_span from_span (Element (To o window n)) Sensor frame w so ft fu st su isnt s rt ru = absurd (no_sensor u number it fu)
  copy_clean variables q r t u number is it ks to_span from_span (Element (To o window n)) (Element Null) frame w so ft fu st su isnt s rt ru = absurd ru
  copy_clean variables q r t u number is it ks to_span from_span (Element (To o window n)) (Element (To from wide m)) frame w so ft fu st su isnt s rt ru =
      let all : width p u ≡ width p t = ap length (same_scalars u t number it is) in
      let target_is : MayWrite w.objects o window n (width p t) = element_writes ks w so t o window n ft (subst (λ b. ReachesElement b opening w.objects o window n) isnt rt) in
      let source_is : HasParts w.objects from wide m (width p t) = subst (λ k. HasParts w.objects from wide m k) all (element_parts (lies_in_literal r) ks w so u from wide m fu ru) in
      let none : 0 + width p t ≡ width p t = omega arith in
      stays_weaker (λ d v. WritesFrom p opening o window n (width p t) 0 w.objects v) (λ d v. LeavesClean p opening w.objects v) (copy_scalars (width p t) 0 to_span (To o window n) from_span (To from wide m) frame w)
      (copy_writes p opening o window n (width p t) from wide m ru.apart to_span from_span (width p t) 0 frame w none s target_is source_is) (λ d v h. writes_leave p opening w.objects v h.0)

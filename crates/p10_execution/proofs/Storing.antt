-- What a write to a place leaves known.
use Rattle.std.proofs.Common.{◌≡◌, ℕ, Bool, true, false, List, refl, ◌∙◌, ap, sym, subst, Option, Some, None, ℤ}
use Rattle.std.specs.Prelude.{slice_get, slice_set, is_some, if◌then◌else◌}
use Rattle.std.proofs.lemmas.Option.{same_Some}
use Rattle.p10_base.specs.declared.span.Span.{Span}
use Rattle.p10_base.specs.declared.at.At.{At}
use Rattle.p10_core.specs.Types.{PlainType, bare}
use Rattle.p10_core.specs.Rows.{is_integer}
use Rattle.p10_core.specs.Typed.{PlainPlace, place, place_type, variable, global, literal, index, member, dereference, PlainVariable, PlainObject, PlainProgram}
use Rattle.p10_meaning.specs.declared.pointers.Ptr.{Ptr}
use Rattle.p10_meaning.specs.declared.pointers.Scalar.TheVariants.{Int}
use Rattle.p10_meaning.specs.declared.pointers.Cell.{Cell}
use Rattle.p10_meaning.specs.Pointers.{holding, first_of}
use Rattle.p10_meaning.specs.Objects.{reach, shift, inner, write_at}
use Rattle.p10_meaning.specs.States.{State, gives, or_undefined}
use Rattle.p10_meaning.specs.Scalars.{number_of, pointer_of}
use Rattle.p10_meaning.specs.Values.{Setting, Held, holds, stands, absent, Target, Variable, Sensor, Element, variable_target, global_target, literal_target, pointer_to, width, scalars_before, evaluate, locate}
use Rattle.p10_meaning.specs.Statements.{Frame, Done, write_target}
use Rattle.p10_meaning.specs.Sound.{Kind, FrameFits}
use Rattle.p10_meaning.proofs.SoundParts.{HasType, integer_alike}
use Rattle.p10_sums.specs.Keeping.{HoldsOf}
use Rattle.p10_absx.specs.Abstract.{Abstract}
use Rattle.p10_absx.specs.Environments.{Environment, known, learned}
use Rattle.p10_absx.specs.Describing.{HoldsNumber, Describes}
use Rattle.p10_pass.specs.Passing.{stored}
use Rattle.p10_execution.specs.Scoping.{IsNumber, KnowsNumbers}
use Rattle.p10_execution.specs.Standing.{AreInFrame}
use Rattle.p10_execution.proofs.Giving.{holds_step, holds_after, holds_or}
use Rattle.p10_execution.proofs.InFrame.{cell_set}
use Rattle.p10_execution.proofs.Frames.{held_there, unknown_set, learned_set}
use Rattle.p10_execution.proofs.Ends.{GoesAs}

-- ## Where places are

-- where a place is in a frame: the variable that it is, or the object that stands for it; else no variable
abbrev pub Points : List Held → PlainPlace → Target → Type 0
Points held (place at t (variable n)) (Variable k) = k ≡ n
Points held (place at t (variable n)) Sensor = ⊥
Points held (place at t (variable n)) (Element q) = (o : ℕ) × (slice_get held n ≡ Some (stands o))
Points held (place at t form) (Variable k) = ⊥
Points held (place at t form) target = Unit {0}

variable_points : (held : List Held) (at : At) (t : PlainType) (n scalars : ℕ) (h : Option Held) (span : Span) (w : State) → slice_get held n ≡ h →
    HoldsOf (λ target w. Points held (place at t (variable n)) target) (or_undefined (variable_target n scalars h) span w (λ target. gives target w))
variable_points held at t n scalars None span w e = tt
variable_points held at t n scalars (Some absent) span w e = tt
variable_points held at t n scalars (Some (holds cell)) span w e = refl
variable_points held at t n scalars (Some (stands object)) span w e = (object, e)

sensor_points : (held : List Held) (at : At) (t : PlainType) (m : ℕ) (b : Bool) (q : Ptr) → Points held (place at t (global m)) (if b then Sensor else Element q)
sensor_points held at t m true q = tt
sensor_points held at t m false q = tt

global_points : (held : List Held) (at : At) (t : PlainType) (m scalars : ℕ) (object : Option PlainObject) (span : Span) (w : State) →
    HoldsOf (λ target w. Points held (place at t (global m)) target) (or_undefined (global_target m scalars object) span w (λ target. gives target w))
global_points held at t m scalars None span w = tt
global_points held at t m scalars (Some object) span w = sensor_points held at t m object.sensor (first_of m scalars 1)

literal_points : (held : List Held) (at : At) (t : PlainType) (m : ℕ) (bytes : List ℕ) (scalars : ℕ) (object : Option ℕ) (span : Span) (w : State) →
    HoldsOf (λ target w. Points held (place at t (literal m bytes)) target) (or_undefined (literal_target scalars object) span w (λ target. gives target w))
literal_points held at t m bytes scalars None span w = tt
literal_points held at t m bytes scalars (Some object) span w = tt

pub locate_points : (s : Setting) (held : List Held) (q : PlainPlace) (w : State) → HoldsOf (λ target w. Points held q target) (locate s held q w)
locate_points s held (place at t (variable n)) w = variable_points held at t n _ (slice_get held n) at.span w refl
locate_points s held (place at t (global m)) w = global_points held at t m _ (slice_get s.program.objects m) at.span w
locate_points s held (place at t (literal m bytes)) w = literal_points held at t m bytes _ _ at.span w
locate_points s held (place at t (index a i)) w =
    let P : Target → State → Type 0 = λ target w. Points held (place at t (index a i)) target in
    holds_step P w _ (λ left _. holds_after P (evaluate s held a (record w { left = left })) _ (λ x w. holds_after P (evaluate s held i w) _ (λ y w. holds_or P (shift w.objects (pointer_of x) (number_of y)) at.span w _ (λ q _. tt))))
locate_points s held (place at t (member p m)) w =
    let P : Target → State → Type 0 = λ target w. Points held (place at t (member p m)) target in
    holds_step P w _ (λ left _. holds_after P (locate s held p (record w { left = left })) _ (λ target w. holds_or P
    (inner w.objects (pointer_to target) (scalars_before s.program (bare s.program.structures (place_type p)) m) (width s.program t) 1) at.span w _ (λ q _. tt)))
locate_points s held (place at t (dereference v)) w =
    let P : Target → State → Type 0 = λ target w. Points held (place at t (dereference v)) target in
    holds_step P w _ (λ left _. holds_after P (evaluate s held v (record w { left = left })) _ (λ x w. holds_or P (reach w.objects (pointer_of x)) at.span w _ (λ object _. tt)))

-- ## Writes

-- execution goes on with a frame that an environment describes
abbrev pub Goes : List PlainVariable → List Held → Option Environment → Done → State → Type 0
Goes variables head o d w = GoesAs variables head d.frame.held o d.flow

pub goes_element : (variables : List PlainVariable) (head : List Held) (env : Environment) (span : Span) (q : Ptr) (cell : Cell) (frame : Frame) (w : State) → Describes variables env head frame.held →
    HoldsOf (Goes variables head (Some env)) (write_target span (Element q) cell frame w)
goes_element variables head env span q cell frame w d = holds_or (Goes variables head (Some env)) (write_at w.objects q cell) span w _ (λ objects _. d)

module _ (p : PlainProgram) (ks : List Kind) (variables : List PlainVariable) (head : List Held) (env : Environment) (knows : KnowsNumbers variables env) (span : Span) (frame : Frame) (in_frame : AreInFrame variables frame.held) (fits : FrameFits p ks variables frame.held) (d : Describes variables env head frame.held) where
  -- a number is written to a variable
  number_written : (n : ℕ) (z : ℤ) (a : Abstract) → HoldsNumber head a z → Describes variables (if is_some (known env n) then learned env n a else env) head (slice_set frame.held n (holds (holding (Int z))))
  number_written n z a h = by_case (is_some (known env n)) refl
    where
      by_case : (b : Bool) → is_some (known env n) ≡ b → Describes variables (if b then learned env n a else env) head (slice_set frame.held n (holds (holding (Int z))))
      by_case true e =
          let number : IsNumber variables n = knows.each n e in
          learned_set variables env head frame.held n (holds (holding (Int z))) a number (cell_set variables frame.held n (holding (Int z)) in_frame)
          (held_there p ks variables frame.held n number.variable fits number.there) h d
      by_case false e = unknown_set variables env head frame.held n (holds (holding (Int z))) e d

  -- an object that stands for a variable is no variable of which something is known
  object_stored : (n : ℕ) (a : Abstract) (o : ℕ) → slice_get frame.held n ≡ Some (stands o) → Describes variables (if is_some (known env n) then learned env n a else env) head frame.held
  object_stored n a o e = by_case (is_some (known env n)) refl
    where
      by_case : (b : Bool) → is_some (known env n) ≡ b → Describes variables (if b then learned env n a else env) head frame.held
      by_case true q = let number : IsNumber variables n = knows.each n q in absurd (in_frame.no_object n number.variable o number.there number.frame_is e)
      by_case false q = d

  -- a number is written to a place
  pub store_number : (q : PlainPlace) (target : Target) (z : ℤ) (a : Abstract) (w : State) → Points frame.held q target → HoldsNumber head a z → HoldsOf (Goes variables head (Some (stored q a env))) (write_target span target (holding (Int z)) frame w)
  store_number (place at t (variable n)) (Variable k) z a w e h =
      subst (λ (k : ℕ). HoldsOf (Goes variables head (Some (stored (place at t (variable n)) a env))) (write_target span (Variable k) (holding (Int z)) frame w)) (sym e) (number_written n z a h)
  store_number (place at t (variable n)) Sensor z a w e h = absurd e
  store_number (place at t (variable n)) (Element q) z a w e h = goes_element variables head (stored (place at t (variable n)) a env) span q (holding (Int z)) frame w (object_stored n a e.0 e.1)
  store_number (place at t form) (Variable k) z a w e h = absurd e
  store_number (place at t form) Sensor z a w e h = d
  store_number (place at t form) (Element q) z a w e h = goes_element variables head env span q (holding (Int z)) frame w d

  -- something that is no number is written to a place
  pub store_other : (q : PlainPlace) (target : Target) (cell : Cell) (w : State) → is_integer (place_type q) ≡ false → ((k : ℕ) → target ≡ Variable k → HasType p variables k (place_type q)) → HoldsOf (Goes variables head (Some env)) (write_target span target cell frame w)
  store_other q (Variable k) cell w e typed = by_case (is_some (known env k)) refl
    where
      by_case : (b : Bool) → is_some (known env k) ≡ b → Describes variables env head (slice_set frame.held k (holds cell))
      by_case true s =
          let number : IsNumber variables k = knows.each k s in
          let type : HasType p variables k (place_type q) = typed k refl in
          let same : type.variable ≡ number.variable = same_Some _ _ (sym type.there ∙ number.there) in
          let alike : bare p.structures (place_type q) ≡ bare p.structures number.variable.type = sym type.same ∙ ap (λ (v : PlainVariable). bare p.structures v.type) same in
          let yes : is_integer (place_type q) ≡ true = integer_alike p (place_type q) number.variable.type alike number.integer_is in
          absurd cc
      by_case false s = unknown_set variables env head frame.held k (holds cell) s d
  store_other q Sensor cell w e typed = d
  store_other q (Element r) cell w e typed = goes_element variables head env span r cell frame w d

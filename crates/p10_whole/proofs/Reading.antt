-- What is read from places, by tests.
use Rattle.std.specs.Prelude.{◌≡◌, ℕ, [], Bool, true, false, not, ◌&&◌, Option, Some, None, option_map, slice_get, map, if◌then◌else◌, refl}
use Rattle.std.proofs.Common.{ap, sym, ◌∙◌}
use Rattle.p10_core.specs.Types.{PlainType, pointer, array, unqualified}
use Rattle.p10_core.specs.Typed.{PlainPlace, PlainPlaceForm, variable, global, literal, index, member, dereference, place_type, PlainVariable, PlainObject}
use Rattle.p10_core.specs.Views.{plain_program, plain_variable}
use Rattle.p10_core.specs.Rows.{is_array, is_complete}
use Rattle.p10_core.specs.Whole.{SeenVariable, SeenObject, Surroundings, Reads, IsAddress, Decays, is_frame, is_sensor, form_of}
use Rattle.p10_core.specs.WholePrograms.{is_among, seen_variable, seen_object}
use Rattle.p10_whole.specs.declared.around.Around.{Around}
use Rattle.p10_whole.specs.private.Places.{variable_in, object_in}
use Rattle.p10_whole.specs.private.Shows.{Shows}
use Rattle.p10_whole.specs.private.Surroundings.{scope_of, surroundings_in}
use Rattle.p10_whole.proofs.Showing.{both_true}

not_true : (b : Bool) → not b ≡ true → b ≡ false
not_true true e = absurd cc
not_true false e = refl

pub reads_shown : (c : Surroundings) (t : PlainType) (p : PlainPlace) (x y z w : Bool) → Shows x (t ≡ unqualified (place_type p)) → y ≡ is_array (place_type p) → z ≡ is_complete c.structures (place_type p) →
    Shows w (is_sensor c (form_of p) ≡ false) → Shows (x && (not y && (z && w))) (Reads c t p)
reads_shown c t p x y z w f e g k = record {
  shows = λ h.
      let a = both_true x (not y && (z && w)) h in
      let b = both_true (not y) (z && w) a.1 in
      let d = both_true z w b.1 in
      record { type_is = f.shows a.0; no_array = sym e ∙ not_true y b.0; complete = sym g ∙ d.0; no_sensor = k.shows d.1 };
}

pub address_shown : (c : Surroundings) (t : PlainType) (p : PlainPlace) (x y z : Bool) → Shows x (t ≡ pointer false (place_type p)) → Shows y (is_frame c (form_of p) ≡ false) →
    Shows z (is_sensor c (form_of p) ≡ false) → Shows (x && (y && z)) (IsAddress c t p)
address_shown c t p x y z f g k = record {
  shows = λ h.
      let a = both_true x (y && z) h in
      let b = both_true y z a.1 in
      record { type_is = f.shows a.0; no_frame = g.shows b.0; no_sensor = k.shows b.1 };
}

pub decays_shown : (c : Surroundings) (t element : PlainType) (p : PlainPlace) (mark : Bool) (count : ℕ) (x y : Bool) → place_type p ≡ array mark element count → Shows x (t ≡ pointer false element) →
    Shows y (is_frame c (form_of p) ≡ false) → Shows (x && y) (Decays c t p)
decays_shown c t element p mark count x y e f g = record {
  shows = λ h. let a = both_true x y h in record { mark = mark; element = element; count = count; place_is = e; type_is = f.shows a.0; no_frame = g.shows a.1 };
}

-- ## Frame variables and sensors

same : (m n : ℕ) → Some n ≡ Some m → m ≡ n
same m n e = cc

pub frame_by : (c : Surroundings) (f : PlainPlaceForm) (n : ℕ) (x : Bool) → Some n ≡ variable_in f → Shows x (is_frame c (variable n) ≡ false) → Shows x (is_frame c f ≡ false)
frame_by c (variable m) n x e h = record { shows = λ k. ap (λ i. is_frame c (variable i)) (same m n e) ∙ h.shows k }
frame_by c (global m) n x e h = absurd cc
frame_by c (literal m bytes) n x e h = absurd cc
frame_by c (index a i) n x e h = absurd cc
frame_by c (member p m) n x e h = absurd cc
frame_by c (dereference v) n x e h = absurd cc

pub frame_none : (c : Surroundings) (f : PlainPlaceForm) → None ≡ variable_in f → Shows true (is_frame c f ≡ false)
frame_none c (variable m) e = absurd cc
frame_none c (global m) e = record { shows = λ k. refl }
frame_none c (literal m bytes) e = record { shows = λ k. refl }
frame_none c (index a i) e = record { shows = λ k. refl }
frame_none c (member p m) e = record { shows = λ k. refl }
frame_none c (dereference v) e = record { shows = λ k. refl }

pub sensor_by : (c : Surroundings) (f : PlainPlaceForm) (n : ℕ) (x : Bool) → Some n ≡ object_in f → Shows x (is_sensor c (global n) ≡ false) → Shows x (is_sensor c f ≡ false)
sensor_by c (global m) n x e h = record { shows = λ k. ap (λ i. is_sensor c (global i)) (same m n e) ∙ h.shows k }
sensor_by c (variable m) n x e h = absurd cc
sensor_by c (literal m bytes) n x e h = absurd cc
sensor_by c (index a i) n x e h = absurd cc
sensor_by c (member p m) n x e h = absurd cc
sensor_by c (dereference v) n x e h = absurd cc

pub sensor_none : (c : Surroundings) (f : PlainPlaceForm) → None ≡ object_in f → Shows true (is_sensor c f ≡ false)
sensor_none c (global m) e = absurd cc
sensor_none c (variable m) e = record { shows = λ k. refl }
sensor_none c (literal m bytes) e = record { shows = λ k. refl }
sensor_none c (index a i) e = record { shows = λ k. refl }
sensor_none c (member p m) e = record { shows = λ k. refl }
sensor_none c (dereference v) e = record { shows = λ k. refl }

-- whether what is seen of a variable is a frame variable, and whether what is seen of an object is a sensor
abbrev seeing : Option SeenVariable → Option SeenObject → Surroundings
seeing v o = record { structures = []; literals = None; variable_at = λ n. v; object_at = λ n. o; function_at = λ n. None }

abbrev frame_of : Option SeenVariable → Bool
frame_of v = is_frame (seeing v None) (variable 0)

abbrev sensor_of : Option SeenObject → Bool
sensor_of o = is_sensor (seeing None o) (global 0)

frame_case : (b : Bool) (o : Option SeenVariable) (v : PlainVariable) → o ≡ Some (seen_variable v) → v.frame ≡ false → frame_of (if b then o else None) ≡ false
frame_case true o v e h = ap frame_of e ∙ h
frame_case false o v e h = refl

no_frame_case : (b : Bool) (o : Option SeenVariable) → o ≡ None → frame_of (if b then o else None) ≡ false
no_frame_case true o e = ap frame_of e
no_frame_case false o e = refl

pub frame_some : (a : Around) (n : ℕ) (v : PlainVariable) → Some v ≡ slice_get (map plain_variable a.variables.now) n → Shows (not v.frame) (is_frame (surroundings_in a) (variable n) ≡ false)
frame_some a n v e = record {
  shows = λ h. frame_case (is_among n (scope_of a.parameters a.scope.now)) (option_map seen_variable (slice_get (map plain_variable a.variables.now) n)) v (ap (option_map seen_variable) (sym e)) (not_true v.frame h);
}

pub frame_absent : (a : Around) (n : ℕ) → None ≡ slice_get (map plain_variable a.variables.now) n → Shows true (is_frame (surroundings_in a) (variable n) ≡ false)
frame_absent a n e = record {
  shows = λ h. no_frame_case (is_among n (scope_of a.parameters a.scope.now)) (option_map seen_variable (slice_get (map plain_variable a.variables.now) n)) (ap (option_map seen_variable) (sym e));
}

pub sensor_some : (a : Around) (n : ℕ) (o : PlainObject) → Some o ≡ slice_get (plain_program a.program.now).objects n → Shows (not o.sensor) (is_sensor (surroundings_in a) (global n) ≡ false)
sensor_some a n o e = record { shows = λ h. ap sensor_of (ap (option_map seen_object) (sym e)) ∙ not_true o.sensor h }

pub sensor_absent : (a : Around) (n : ℕ) → None ≡ slice_get (plain_program a.program.now).objects n → Shows true (is_sensor (surroundings_in a) (global n) ≡ false)
sensor_absent a n e = record { shows = λ h. ap sensor_of (ap (option_map seen_object) (sym e)) }

-- What numbers name, by what is found.
use Rattle.std.specs.Prelude.{◌≡◌, ℕ, Bool, true, false, ◌&&◌, Option, Some, None, option_map, slice_get, map, if◌then◌else◌, refl}
use Rattle.std.proofs.Common.{ap, sym, ◌∙◌}
use Rattle.p10_int.specs.declared.types.IntType.{IntType}
use Rattle.p10_core.specs.Types.{PlainType, PlainMember, integer, pointer, structure, qualified, bare, members_of}
use Rattle.p10_core.specs.Typed.{PlainVariable, PlainObject}
use Rattle.p10_core.specs.Views.{plain_program, plain_variable}
use Rattle.p10_core.specs.Rows.{is_complete}
use Rattle.p10_core.specs.Whole.{SeenVariable, Surroundings, IsVariable, IsObject, IsSensor, IsMember, IsElement}
use Rattle.p10_core.specs.WholePrograms.{is_among, seen_variable, seen_object}
use Rattle.p10_whole.specs.declared.around.Around.{Around}
use Rattle.p10_whole.specs.private.Shows.{Shows}
use Rattle.p10_whole.specs.private.Surroundings.{scope_of, surroundings_in}
use Rattle.p10_whole.proofs.Showing.{both_true}

seen_in_scope : (b : Bool) (o : Option SeenVariable) (s : SeenVariable) → b ≡ true → o ≡ Some s → (if b then o else None) ≡ Some s
seen_in_scope true o s e h = h
seen_in_scope false o s e h = absurd cc

pub variable_shown : (a : Around) (n : ℕ) (t : PlainType) (v : PlainVariable) (x y : Bool) → Some v ≡ slice_get (map plain_variable a.variables.now) n →
    Shows x (is_among n (scope_of a.parameters a.scope.now) ≡ true) → Shows y (t ≡ v.type) → Shows (x && y) (IsVariable (surroundings_in a) n t)
variable_shown a n t v x y e p q = record {
  shows = λ h.
      let b = both_true x y h in
      record {
        seen = seen_variable v;
        there = seen_in_scope (is_among n (scope_of a.parameters a.scope.now)) (option_map seen_variable (slice_get (map plain_variable a.variables.now) n)) (seen_variable v) (p.shows b.0) (ap (option_map seen_variable) (sym e));
        type_is = q.shows b.1;
      };
}

pub object_shown : (a : Around) (n : ℕ) (t : PlainType) (o : PlainObject) (x : Bool) → Some o ≡ slice_get (plain_program a.program.now).objects n →
    Shows x (bare (plain_program a.program.now).structures t ≡ bare (plain_program a.program.now).structures o.type) → Shows x (IsObject (surroundings_in a) n t)
object_shown a n t o x e p = record {
  shows = λ h. record { seen = seen_object o; there = ap (option_map seen_object) (sym e); type_is = p.shows h };
}

pub sensor_shown : (a : Around) (n : ℕ) (t : PlainType) (o : PlainObject) (x y : Bool) → Some o ≡ slice_get (plain_program a.program.now).objects n →
    Shows x ((kind : IntType) × (t ≡ integer false kind)) → Shows y (bare (plain_program a.program.now).structures o.type ≡ bare (plain_program a.program.now).structures t) →
    Shows (o.sensor && (x && y)) (IsSensor (surroundings_in a) n t)
sensor_shown a n t o x y e p q = record {
  shows = λ h.
      let b = both_true o.sensor (x && y) h in
      let d = both_true x y b.1 in
      let k = p.shows d.0 in
      record {
        seen = seen_object o;
        there = ap (option_map seen_object) (sym e);
        sensor_is = b.0;
        kind = k.0;
        type_is = k.1;
        same_type = q.shows d.1 ∙ ap (bare (plain_program a.program.now).structures) k.1 ∙ sym k.1;
      };
}

-- the type of a structure
pub at_structure : (c : Surroundings) (w s t : PlainType) (m : ℕ) (x : Bool) → s ≡ w → Shows x (IsMember c w t m) → Shows x (IsMember c s t m)
at_structure c w s t m x e p = record {
  shows = λ h.
      let k = p.shows h in
      record { mark = k.mark; number = k.number; whole_is = e ∙ k.whole_is; entry = k.entry; there = k.there; type_is = k.type_is };
}

pub member_shown : (c : Surroundings) (mark : Bool) (n m : ℕ) (t : PlainType) (entry : PlainMember) (x : Bool) → Some entry ≡ slice_get (members_of c.structures n) m →
    Shows x (t ≡ qualified mark entry.type) → Shows x (IsMember c (structure mark n) t m)
member_shown c mark n m t entry x e p = record {
  shows = λ h. record { mark = mark; number = n; whole_is = refl; entry = entry; there = sym e; type_is = p.shows h };
}

pub element_shown : (c : Surroundings) (p i t : PlainType) (x y z : Bool) → Shows x (p ≡ pointer false t) → Shows y ((kind : IntType) × (i ≡ integer false kind)) → z ≡ is_complete c.structures t →
    Shows (x && (y && z)) (IsElement c p i t)
element_shown c p i t x y z f g e = record {
  shows = λ h.
      let b = both_true x (y && z) h in
      let d = both_true y z b.1 in
      let k = g.shows d.0 in
      record { kind = k.0; pointer_is = f.shows b.0; integer_is = k.1; complete = sym e ∙ d.1 };
}

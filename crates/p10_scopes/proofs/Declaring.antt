-- A declaration ends normally alone, and then its variable is known, if it is an integer that is held in the frame.
use Rattle.std.proofs.Common.{◌≡◌, ℕ, ◌<◌, Bool, true, false, List, [], ◌∷◌, length, Option, Some, None, refl, sym, ap, ◌∙◌, subst}
use Rattle.std.specs.Prelude.{is_some, ◌&&◌, if◌then◌else◌}
use Rattle.std.specs.Option.{option_map}
use Rattle.p10_int.specs.declared.types.IntType.{IntType}
use Rattle.p10_core.specs.Rows.{is_integer}
use Rattle.p10_core.specs.Constants.{integer_of}
use Rattle.p10_core.specs.Typed.{PlainItem, PlainWritten, one_scalar, scalars_of_text, PlainInitializer, not_initialized, single, copied, listed, PlainVariable}
use Rattle.p10_absx.specs.Abstract.{Abstract, whole_type}
use Rattle.p10_absx.specs.Environments.{Environment, known, learned, hull_reached}
use Rattle.p10_absx.specs.Assessing.{abstract_value}
use Rattle.p10_pass.specs.Passing.{Left, Manner, reached, where_going, and_then_pass, value_passed, items_passed, integer_declared, other_declared, declared}
use Rattle.p10_known.proofs.Environments.{learned_places}
use Rattle.p10_scopes.proofs.Scopes.{learned_there}

-- nothing ends but normally
pub record EndsNormally (a : Left) : Type 0 where
  pub no_break : a.breaks ≡ None
  pub no_continue : a.continues ≡ None
  pub no_return : a.returns ≡ None

hull_none : (a b : Option Environment) → a ≡ None → b ≡ None → hull_reached a b ≡ None
hull_none a b e f = ap (λ x. hull_reached x b) e ∙ f

then_normally : (a : Left) (go : Environment → Left) → EndsNormally a → ((e : Environment) → EndsNormally (go e)) → EndsNormally (and_then_pass a go)
then_normally a go h k = at a.normal
  where
    at : (o : Option Environment) → EndsNormally (record (and_then_pass a go) { breaks = hull_reached a.breaks (where_going o go).breaks; continues = hull_reached a.continues (where_going o go).continues; returns = hull_reached a.returns (where_going o go).returns })
    at None = record { no_break = hull_none a.breaks None h.no_break refl; no_continue = hull_none a.continues None h.no_continue refl; no_return = hull_none a.returns None h.no_return refl }
    at (Some e) = record { no_break = hull_none a.breaks (go e).breaks h.no_break (k e).no_break; no_continue = hull_none a.continues (go e).continues h.no_continue (k e).no_continue; no_return = hull_none a.returns (go e).returns h.no_return (k e).no_return }

module _ (m : Manner) where
  items_normally : (items : List PlainItem) (env : Environment) → EndsNormally (items_passed m items env)
  items_normally [] env = record { no_break = refl; no_continue = refl; no_return = refl }
  items_normally (item ∷ items) env = first item.written (λ e. items_normally items e)
    where
      first : (written : PlainWritten) → ((e : Environment) → EndsNormally (items_passed m items e)) → EndsNormally (items_passed m (record item { written = written } ∷ items) env)
      first (one_scalar v) rest = then_normally (value_passed m v env) (λ env. items_passed m items env) (record { no_break = refl; no_continue = refl; no_return = refl }) rest
      first (scalars_of_text bytes) rest = then_normally (reached (Some env)) (λ env. items_passed m items env) (record { no_break = refl; no_continue = refl; no_return = refl }) rest

  integer_normally : (n : ℕ) (kind : IntType) (initializer : PlainInitializer) (env : Environment) → EndsNormally (integer_declared m n kind initializer env)
  integer_normally n kind (single v) env = record { no_break = refl; no_continue = refl; no_return = refl }
  integer_normally n kind not_initialized env = record { no_break = refl; no_continue = refl; no_return = refl }
  integer_normally n kind (copied p) env = record { no_break = refl; no_continue = refl; no_return = refl }
  integer_normally n kind (listed at items) env = record { no_break = refl; no_continue = refl; no_return = refl }

  other_normally : (initializer : PlainInitializer) (env : Environment) → EndsNormally (other_declared m initializer env)
  other_normally not_initialized env = record { no_break = refl; no_continue = refl; no_return = refl }
  other_normally (single v) env = record { no_break = refl; no_continue = refl; no_return = refl }
  other_normally (copied p) env = record { no_break = refl; no_continue = refl; no_return = refl }
  other_normally (listed at items) env = items_normally items env

  pub declared_normally : (n : ℕ) (o : Option PlainVariable) (initializer : PlainInitializer) (env : Environment) → EndsNormally (declared m n o initializer env)
  declared_normally n None initializer env = record { no_break = refl; no_continue = refl; no_return = refl }
  declared_normally n (Some v) initializer env = by_test (v.frame && is_integer v.type)
    where
      by_test : (b : Bool) → EndsNormally (if b then integer_declared m n (integer_of v.type) initializer env else other_declared m initializer env)
      by_test true = integer_normally n (integer_of v.type) initializer env
      by_test false = other_normally initializer env

  -- what is known of the variable then
  abbrev pub IsThere : ℕ → Option Environment → Type 0
  IsThere n None = Unit {0}
  IsThere n (Some e) = is_some (known e n) ≡ true

  whole_there : (n : ℕ) (kind : IntType) (env : Environment) → n < length env → is_some (known (learned env n (whole_type kind)) n) ≡ true
  whole_there n kind env low = learned_there env n (whole_type kind) low

  pub integer_there : (n : ℕ) (kind : IntType) (initializer : PlainInitializer) (env : Environment) → n < length env → IsThere n (integer_declared m n kind initializer env).normal
  integer_there n kind (single v) env low = by_value (abstract_value m.calls (learned env n (whole_type kind)) v)
    where
      by_value : (o : Option Abstract) → IsThere n (option_map (learned (learned env n (whole_type kind)) n) o)
      by_value None = tt
      by_value (Some a) = learned_there (learned env n (whole_type kind)) n a (subst (λ k. n < k) (sym (learned_places env n (Some (whole_type kind)))) low)
  integer_there n kind not_initialized env low = whole_there n kind env low
  integer_there n kind (copied p) env low = whole_there n kind env low
  integer_there n kind (listed at items) env low = whole_there n kind env low

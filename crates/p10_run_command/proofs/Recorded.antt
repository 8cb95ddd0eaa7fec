-- The values of a file of sensor values, by what was loaded of it.
use Rattle.std.proofs.Common.{◌≡◌, ℕ, ℤ, List, refl, sym, ◌∙◌, ap, subst, arith, Option, Some, None, IsSome}
use Rattle.std.proofs.lemmas.Option.{none-some, same_Some}
use Rattle.p10_base.specs.Words.{Text}
use Rattle.p10_world.specs.Files.{Named}
use Rattle.p10_sensors.specs.Laws.{TextsTellValues, OneFirstOther, OtherIsNoText}
use Rattle.p10_command.specs.Loading.{Gives, IsHeld}
use Rattle.p10_command.proofs.Files.{all_of, longer, given_is_held, given_once}
use Rattle.p10_run_command.specs.declared.sensors.NoValues.{NoValues}
use Rattle.p10_run_command.specs.declared.sensors.NoValues.TheVariants.{TooLong, OtherLine}
use Rattle.p10_run_command.specs.Sensors.{HasValues, HoldsNone, HoldsValues, LacksValues, sensor_limit}
use Rattle.p10_run_command.specs.private.Granting.{IsSensorFile}
use Rattle.p10_run_command.specs.private.Recording.{GivesNone, GivesValues}

-- ## What was loaded

-- the file that was asked for is there
pub sensors_held : (held : Option (List Named)) (sensors : Option Text) (file : Option (List ℕ)) → IsSensorFile held sensors file → (name : Text) → sensors ≡ Some name → IsHeld held name
sensors_held held None file is name same = absurd (none-some name same)
sensors_held held (Some called) None is name same = absurd is
sensors_held held (Some called) (Some bytes) is name same = given_is_held held name is.whole (subst (λ (n : Text). Gives held n is.whole) (same_Some called name same) is.given)

-- its values are those of the bytes that were loaded
pub values_of : (held : Option (List Named)) (sensors : Option Text) (file : Option (List ℕ)) (values : List ℤ) → IsSensorFile held sensors file → GivesValues file values → HasValues held sensors values
values_of held None None values is gives = gives
values_of held (Some name) (Some bytes) values is gives = (is.whole, is.given, subst (λ (b : List ℕ). HoldsValues b values) (all_of sensor_limit is.whole bytes is.front gives.short) gives)
values_of held None (Some bytes) values is gives = absurd is
values_of held (Some name) None values is gives = absurd is

none_in_whole : (whole bytes : List ℕ) (why : NoValues) → bytes ≡ whole → HoldsNone bytes why → HoldsNone whole why
none_in_whole whole bytes why same holds = subst (λ (b : List ℕ). HoldsNone b why) same holds

-- and where those give none, it gives none
pub no_values_of : (held : Option (List Named)) (sensors : Option Text) (file : Option (List ℕ)) (why : NoValues) → IsSensorFile held sensors file → GivesNone file why → LacksValues held sensors why
no_values_of held (Some name) (Some bytes) TooLong is gives = (is.whole, is.given, longer sensor_limit is.whole bytes is.front gives)
no_values_of held (Some name) (Some bytes) (OtherLine line) is gives = (is.whole, is.given, none_in_whole is.whole bytes (OtherLine line) (all_of sensor_limit is.whole bytes is.front gives.short) gives)
no_values_of held sensors None why is gives = absurd gives
no_values_of held None (Some bytes) why is gives = absurd is

-- ## A file comes to one thing

-- the laws of the crate below: a text has one list of values, or one first line of another form
pub record Laws : Type 0 where
  pub values : TextsTellValues
  pub line : OneFirstOther
  pub other : OtherIsNoText

-- bytes that give no values give none for one reason
one_reason : Laws → (bytes : List ℕ) (this that : NoValues) → HoldsNone bytes this → HoldsNone bytes that → this ≡ that
one_reason laws bytes TooLong TooLong long long' = refl
one_reason laws bytes TooLong (OtherLine line) long holds = absurd (omega (arith, long, holds.short))
one_reason laws bytes (OtherLine line) TooLong holds long = absurd (omega (arith, long, holds.short))
one_reason laws bytes (OtherLine m) (OtherLine n) this that = ap OtherLine (laws.line bytes m n this.other that.other)

values_or_none : Laws → (bytes : List ℕ) (values : List ℤ) (why : NoValues) → HoldsValues bytes values → HoldsNone bytes why → ⊥
values_or_none laws bytes values TooLong holds long = omega (arith, long, holds.short)
values_or_none laws bytes values (OtherLine line) holds none = laws.other bytes line values none.other holds.text

module _ (laws : Laws) (held : Option (List Named)) (told : IsSome held) where
  pub one_values : (sensors : Option Text) (values others : List ℤ) → HasValues held sensors values → HasValues held sensors others → values ≡ others
  one_values None values others this that = this ∙ sym that
  one_values (Some name) values others (bytes, given, holds) (bytes', given', holds') =
      laws.values bytes' values others (subst (λ (b : List ℕ). HoldsValues b values) (given_once held told name bytes bytes' given given') holds).text holds'.text

  pub one_lack : (sensors : Option Text) (this that : NoValues) → LacksValues held sensors this → LacksValues held sensors that → this ≡ that
  one_lack None this that lacks lacks' = absurd lacks
  one_lack (Some name) this that (bytes, given, holds) (bytes', given', holds') =
      one_reason laws bytes' this that (none_in_whole bytes' bytes this (given_once held told name bytes bytes' given given') holds) holds'

  pub values_or_lack : (sensors : Option Text) (values : List ℤ) (why : NoValues) → HasValues held sensors values → LacksValues held sensors why → ⊥
  values_or_lack None values why has lacks = lacks
  values_or_lack (Some name) values why (bytes, given, holds) (bytes', given', holds') =
      values_or_none laws bytes values why holds (none_in_whole bytes bytes' why (given_once held told name bytes' bytes given' given) holds')

-- ## A file that gives values or none is there

pub values_held : (held : Option (List Named)) (sensors : Option Text) (values : List ℤ) → HasValues held sensors values → (name : Text) → sensors ≡ Some name → IsHeld held name
values_held held None values has name same = absurd (none-some name same)
values_held held (Some called) values (bytes, given, holds) name same = given_is_held held name bytes (subst (λ (n : Text). Gives held n bytes) (same_Some called name same) given)

pub lack_held : (held : Option (List Named)) (sensors : Option Text) (why : NoValues) → LacksValues held sensors why → (name : Text) → sensors ≡ Some name → IsHeld held name
lack_held held None why lacks name same = absurd lacks
lack_held held (Some called) why (bytes, given, holds) name same = given_is_held held name bytes (subst (λ (n : Text). Gives held n bytes) (same_Some called name same) given)

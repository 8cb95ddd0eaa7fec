-- The rows of statements that hold no others, as the code comes to them.
use Rattle.std.specs.Prelude.{ℕ, if◌then◌else◌, true, false, List, ◌++◌, Some}
use Rattle.p10_base.specs.declared.span.Span.{Span}
use Rattle.p10_int.specs.declared.types.IntType.{IntType}
use Rattle.p10_int.specs.declared.operators.BinOp.{BinOp}
use Rattle.p10_core.specs.Rows.{is_integer}
use Rattle.p10_core.specs.Typed.{PlainValue, PlainPlace, place_type, PlainInitializer, PlainVariable}
use Rattle.p10_absx.specs.Environments.{Environment}
use Rattle.p10_absx.specs.Operators.{converted_abstract}
use Rattle.p10_absx.specs.Assessing.{abstract_value}
use Rattle.p10_pass.specs.Passing.{Manner, before_update}
use Rattle.p10_clean.specs.declared.flaw.Flaw.{Flaw}
use Rattle.p10_clean.specs.Settings.{Settings, marked_as}
use Rattle.p10_clean.specs.Values.{flaw_if, operands_flaws, read_flaws, flaws_in_value, flaws_in_place}
use Rattle.p10_clean.specs.Statements.{target_flaws, lacks_value, flaws_in_initializer, declaring}

-- `P = e;`
abbrev pub set_flaws : Manner → Settings → PlainPlace → PlainValue → Environment → List Flaw
set_flaws m before p v env = target_flaws p ++ (flaws_in_place m before p env ++ flaws_in_value m before v env)

-- a structure's copy
abbrev pub copy_flaws : Manner → Settings → PlainPlace → PlainPlace → Environment → List Flaw
copy_flaws m before p q env = target_flaws p ++ (flaws_in_place m before p env ++ flaws_in_place m before q env)

-- the operator of an update, at an integer type
abbrev pub operator_flaws : Manner → Span → BinOp → IntType → PlainPlace → PlainValue → Environment → List Flaw
operator_flaws m at op t p v env =
    if is_integer (place_type p)
    then operands_flaws at op t (Some (converted_abstract t (before_update p env))) (abstract_value m.calls env v)
    else flaw_if true 5 at

-- `P op= e;`
abbrev pub update_row : Manner → Settings → Span → BinOp → IntType → PlainPlace → PlainValue → Environment → List Flaw
update_row m before at op t p v env =
    target_flaws p ++ (read_flaws m before p ++ (operator_flaws m at op t p v env ++ (flaws_in_place m before p env ++ flaws_in_value m before v env)))

-- the declaration of a frame variable
abbrev pub frame_flaws : Manner → Settings → ℕ → PlainVariable → PlainInitializer → Environment → List Flaw
frame_flaws m before n v initializer env = flaws_in_initializer m (marked_as false n before) initializer (declaring n v env)

-- the declaration of an object
abbrev pub object_flaws : Manner → Settings → ℕ → PlainVariable → PlainInitializer → Environment → List Flaw
object_flaws m before n v initializer env = flaw_if (lacks_value n initializer) 6 v.span ++ flaws_in_initializer m before initializer env

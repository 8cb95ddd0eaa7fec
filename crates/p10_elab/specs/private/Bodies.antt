-- Bodies of functions, by what is known of a function before its body.
use Rattle.std.specs.Prelude.{ℕ, Bool, true, false, if◌then◌else◌, List, [], ◌∷◌, ◌++◌, length, Option, Some, None}
use Rattle.p10_base.specs.declared.at.At.{At}
use Rattle.p10_syn.specs.Trees.{Identifier, Statements}
use Rattle.p10_core.specs.Types.{PlainType}
use Rattle.p10_core.specs.Typed.{PlainVariable, PlainFunction, PlainStatement, statements_of_list}
use Rattle.p10_elabx.specs.First.{Keep}
use Rattle.p10_elabx.specs.Scopes.{left}
use Rattle.p10_elabd.specs.Standing.{PlainStanding}
use Rattle.p10_elabd.specs.Shapes.{PlainParameter, FunctionType}
use Rattle.p10_heads.specs.Heads.{Heads, number_in}
use Rattle.p10_linkage.specs.Linkage.{Linked, is_main_name}
use Rattle.p10_elabs.specs.declared.kind.Kind.{Kind}
use Rattle.p10_elabs.specs.Addresses.{addresses_taken}
use Rattle.p10_elabs.specs.Locals.{Frame}
use Rattle.p10_elabs.specs.Marks.{marks_noted}
use Rattle.p10_elabs.specs.Statements.{in_nothing, Block', no_items_yet, items_done}
use Rattle.p10_elab.specs.Knowledge.{Known}
use Rattle.p10_elab.specs.Outer.{names_noted, body_begun}

-- what is known of a function before its body: its name, its number, whether it is internal to its root, how many parameters it has, and
-- the type of its result
pub record PlainBodyHead : Type 0 where
  pub name : Identifier At
  pub number : ℕ
  pub internal : Bool
  pub parameters : ℕ
  pub result : PlainType

-- that of a function with linkage
abbrev pub head_of_linked : Heads → Linked → FunctionType → PlainBodyHead
head_of_linked heads l t = record {
  name = record { place = l.at; name = l.name };
  number = number_in heads.functions l.root l.internal l.name;
  internal = l.internal;
  parameters = length t.parameters;
  result = t.result;
}

-- what doesn't change in it
abbrev pub frame_for : Heads → PlainBodyHead → List PlainParameter → Statements At → Frame
frame_for heads x parameters body = record { heads = heads; taken = addresses_taken parameters body; number = x.number; result = x.result }

-- the items of its body
abbrev pub items_of_body : Keep → Heads → PlainBodyHead → FunctionType → Statements At → PlainStanding → Block'
items_of_body h heads x t body s =
    let f : Frame = frame_for heads x t.parameters body in
    items_done h f (is_main_name x.name.name) in_nothing (no_items_yet (body_begun f t (names_noted h t.parameters s))) body

-- the pragmas of `main` are judged
abbrev pub marks_where : Keep → Bool → List Kind → PlainStanding → PlainStanding
marks_where h in_main kinds s = if in_main then marks_noted h true false false kinds s else s

-- the function, if its body isn't refused
abbrev pub made_of : PlainBodyHead → List PlainVariable → Option (List PlainStatement) → List PlainFunction
made_of x variables None = []
made_of x variables (Some ss) = record {
  name = x.name.name;
  span = x.name.place.span;
  static = x.internal;
  parameters = x.parameters;
  result = x.result;
  variables = variables;
  body = statements_of_list ss;
} ∷ []

-- what is known after its items
abbrev pub body_ended : Keep → PlainBodyHead → Block' → Known → Known
body_ended h x b k =
    let s : PlainStanding = marks_where h (is_main_name x.name.name) b.kinds b.after.standing in
    record k {
      standing = record s { scope = left s.scope };
      functions = k.functions ++ made_of x b.after.variables b.made;
      block_objects = k.block_objects ++ b.after.objects;
    }

-- its body
abbrev pub body_by : Keep → Heads → PlainBodyHead → FunctionType → Statements At → Known → Known
body_by h heads x t body k = body_ended h x (items_of_body h heads x t body k.standing) k

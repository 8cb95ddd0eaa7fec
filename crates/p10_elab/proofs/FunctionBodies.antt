-- Functions with their bodies, by what is known on the way.
use Rattle.std.specs.Prelude.{◌≡◌, true, false, ◌++◌, List, Option, Some, None, refl}
use Rattle.std.proofs.Common.{ap, ◌∙◌}
use Rattle.p10_base.specs.declared.at.At.{At}
use Rattle.p10_syn.specs.Trees.{Definition, Identifier, Statements}
use Rattle.p10_core.specs.Typed.{PlainStatement, PlainFunction}
use Rattle.p10_elabx.specs.First.{only_first}
use Rattle.p10_elabx.specs.Scopes.{left}
use Rattle.p10_elabd.specs.Standing.{PlainStanding}
use Rattle.p10_elabd.specs.Shapes.{FunctionType, of_function}
use Rattle.p10_elabd.specs.declared.site.Storage.{Storage}
use Rattle.p10_heads.specs.Heads.{Heads}
use Rattle.p10_linkage.specs.Linkage.{Linked, is_main_name}
use Rattle.p10_elabs.specs.Locals.{Local}
use Rattle.p10_elabs.specs.Statements.{Block'}
use Rattle.p10_elab.specs.Knowledge.{Known, with_linked, linked_of}
use Rattle.p10_elab.specs.Outer.{function_type, function_made, body_done, function_by_type}
use Rattle.p10_elab.specs.private.Bodies.{PlainBodyHead, head_of_linked, marks_where, made_of, items_of_body, body_by}

function_is : (heads : Heads) (l : Linked) (t : FunctionType) (after : Local) (made : Option (List PlainStatement)) →
    made_of (head_of_linked heads l t) after.variables made ≡ function_made l t after made l.at
function_is heads l t after None = refl
function_is heads l t after (Some ss) = refl

-- a body, by what is known before it of a function with linkage
body_is : (heads : Heads) (l : Linked) (t : FunctionType) (body : Statements At) (k : Known) →
    body_by only_first heads (head_of_linked heads l t) t body k ≡ body_done only_first heads l t body k
body_is heads l t body k =
    let b : Block' = items_of_body only_first heads (head_of_linked heads l t) t body k.standing in
    let s : PlainStanding = marks_where only_first (is_main_name l.name) b.kinds b.after.standing in
    ap (λ (fs : List PlainFunction). record k { standing = record s { scope = left s.scope }; functions = k.functions ++ fs; block_objects = k.block_objects ++ b.after.objects }) (function_is heads l t b.after b.made)

-- a function that is declared, and then its body
pub defined_function : (heads : Heads) (s : Storage) (d : Definition At) (name : Identifier At) (t : FunctionType) (k m after : Known) (l : Linked) (x : PlainBodyHead) →
    l ≡ linked_of k name (function_type t) s true false → m ≡ with_linked only_first heads l k → x ≡ head_of_linked heads l t → after ≡ body_by only_first heads x t d.body m →
    after ≡ function_by_type only_first heads s d name k (Some (of_function t))
defined_function heads s d name t k m after l x l_is m_is x_is after_is =
    after_is
    ∙ (λ i. body_by only_first heads (x_is i) t d.body (m_is i))
    ∙ body_is heads l t d.body (with_linked only_first heads l k)
    ∙ ap (λ (y : Linked). body_done only_first heads y t d.body (with_linked only_first heads y k)) l_is

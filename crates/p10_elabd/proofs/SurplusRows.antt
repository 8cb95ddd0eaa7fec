-- Items for which there is nothing left to initialise, one at a time.
use Rattle.std.specs.Prelude.{◌≡◌, Bool, if◌then◌else◌, List, map, Option, None, is_some, Vec}
use Rattle.std.specs.declared.alloc.Global.{Global}
use Rattle.std.proofs.Common.{ap, sym, ◌∙◌}
use Rattle.p10_base.specs.declared.at.At.{At}
use Rattle.p10_syn.specs.declared.statement.Init.{Init}
use Rattle.p10_syn.specs.declared.statement.Init.TheVariants as init
use Rattle.p10_syn.specs.Trees.{Initializer, Initializers, MoreInitializers, initializer_row}
use Rattle.p10_syn.specs.BuiltStatements.{initializer_of}
use Rattle.p10_elabx.specs.First.{only_first}
use Rattle.p10_elabd.specs.Standing.{PlainStanding, Passed, passed}
use Rattle.p10_elabd.specs.Initializers.{place_if_made, unplaced, unplaced_items}
use Rattle.p10_elabd.proofs.ItemRows.{braced_is}

-- one item
pub step_unplaced : (p q : Passed At) (x : Initializer At) (all rest : Initializers At) (place : Option At) → all ≡ MoreInitializers x rest → q ≡ unplaced only_first p.after x →
    place ≡ (if is_some q.made then p.made else None) → unplaced_items only_first p all ≡ unplaced_items only_first (record { made = place; after = q.after }) rest
step_unplaced p q x all rest place cut e named =
    ap (unplaced_items only_first p) cut
    ∙ ap (λ r. unplaced_items only_first (place_if_made p r) rest) (sym e)
    ∙ ap (λ m. unplaced_items only_first (record { made = m; after = q.after }) rest) (sym named)

-- a list
pub unplaced_arm : (s : PlainStanding) (p : Passed At) (i : Init) (at : At) (all : Vec Init Global) (comma : Bool) (items : List Init) → i ≡ init.Braced at all comma → items ≡ all.items →
    p ≡ unplaced_items only_first (passed at s) (initializer_row (map initializer_of items)) → p ≡ unplaced only_first s (initializer_of i)
unplaced_arm s p i at all comma items is same e =
    e ∙ ap (λ xs. unplaced_items only_first (passed at s) (initializer_row (map initializer_of xs))) same
    ∙ ap (unplaced only_first s) (sym (braced_is at all comma)) ∙ ap (λ x. unplaced only_first s (initializer_of x)) (sym is)

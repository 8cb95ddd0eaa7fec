-- Objects that roots define, with their numbers.
use Rattle.std.proofs.Common.{◌≡◌, ℕ, List, [], ◌∷◌, ◌++◌, map, sym, ◌∙◌, ap, append_assoc}
use Rattle.std.proofs.lemmas.List.{map-append}
use Rattle.p10_core.specs.declared.program.Extent.{Extent}
use Rattle.p10_core.specs.declared.program.Global.{Global}
use Rattle.p10_core.specs.Types.{PlainStructure}
use Rattle.p10_core.specs.Typed.{PlainObject}
use Rattle.p10_core.specs.Views.{plain_object}
use Rattle.p10_program.specs.Numbered.{visible_at}
use Rattle.p10_elab.specs.declared.outer_object.OuterObject.{OuterObject}
use Rattle.p10_elab.specs.OuterViews.{plain_outer_object}
use Rattle.p10_elab.specs.Programs.{object_with, numbered_objects}

-- an object with its number
abbrev pub with_number : ℕ × Global → ℕ × PlainObject
with_number b = (b.0, plain_object b.1)

-- the next object
pub object_next : (structures : List PlainStructure) (visible : List (ℕ × Extent)) (d : OuterObject) (o : Global) (es : List Extent) (found new : List (ℕ × Global)) (before after : List OuterObject) →
    before ≡ d ∷ after → es ≡ visible_at d.number visible → plain_object o ≡ object_with structures es (plain_outer_object d) → new ≡ found ++ (d.number, o) ∷ [] →
    map with_number new ++ numbered_objects structures visible (map plain_outer_object after) ≡ map with_number found ++ numbered_objects structures visible (map plain_outer_object before)
object_next structures visible d o es found new before after p q r s =
    ap (λ all. map with_number all ++ numbered_objects structures visible (map plain_outer_object after)) s
    ∙ ap (λ all. all ++ numbered_objects structures visible (map plain_outer_object after)) (map-append with_number found ((d.number, o) ∷ []))
    ∙ append_assoc (map with_number found) ((d.number, plain_object o) ∷ []) (numbered_objects structures visible (map plain_outer_object after))
    ∙ ap (λ x. map with_number found ++ (d.number, x) ∷ numbered_objects structures visible (map plain_outer_object after)) (r ∙ ap (λ e. object_with structures e (plain_outer_object d)) q)
    ∙ ap (λ all. map with_number found ++ numbered_objects structures visible (map plain_outer_object all)) (sym p)

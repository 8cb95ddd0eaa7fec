-- Roots that follow one another are cut where they were joined.
use Rattle.std.proofs.Common.{◌≡◌, true, if◌then◌else◌, List, [], ◌∷◌, ◌++◌, refl, ◌∙◌, ap}
use Rattle.p10_base.specs.declared.at.At.{At}
use Rattle.p10_syn.specs.Trees.{External}
use Rattle.p10_heads.specs.Roots.{root_follows, with_first, roots_of}
use Rattle.p10_elab.specs.Laws.{AreInside, AreRoots, all_of, RootsAreFound}

one_found : (e : External At) (rest after : List (External At)) → AreInside rest → root_follows after ≡ true → roots_of (e ∷ (rest ++ after)) ≡ (e ∷ rest) ∷ roots_of after
one_found e [] after h next = ap (λ b. if b then (e ∷ []) ∷ roots_of after else with_first e (roots_of after)) next
one_found e (f ∷ rest) after h next =
    ap (λ b. if b then (e ∷ []) ∷ roots_of (f ∷ (rest ++ after)) else with_first e (roots_of (f ∷ (rest ++ after)))) h.0
    ∙ ap (with_first e) (one_found f rest after h.1 next)

next_begins : (roots : List (List (External At))) → AreRoots roots → root_follows (all_of roots) ≡ true
next_begins [] h = refl
next_begins ([] ∷ rest) h = absurd h.0
next_begins ((e ∷ root) ∷ rest) h = h.0.0

pub roots_are_found : RootsAreFound
roots_are_found [] h = refl
roots_are_found ([] ∷ rest) h = absurd h.0
roots_are_found ((e ∷ root) ∷ rest) h =
    one_found e root (all_of rest) h.0.1 (next_begins rest h.1) ∙ ap (λ roots. (e ∷ root) ∷ roots) (roots_are_found rest h.1)

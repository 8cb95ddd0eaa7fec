-- The digests and bodies of one tree more.
use Rattle.std.proofs.Common.{◌≡◌, ℕ, List, [], ◌∷◌, ◌++◌, refl, sym, ap, ◌∙◌, append_assoc}
use Rattle.p10_base.specs.declared.at.At.{At}
use Rattle.p10_base.specs.Words.{PlainWord}
use Rattle.p10_syn.specs.Trees.{External, Outer, Defines}
use Rattle.p10_digests.specs.Digests.{body_places, function_digests}

digests_split : (roots : List (List PlainWord)) (t : External At) (trees : List (External At)) → function_digests roots (t ∷ trees) ≡ function_digests roots (t ∷ []) ++ function_digests roots trees
digests_split roots (Outer at d) trees = refl
digests_split roots (Defines f) trees = refl

bodies_split : (t : External At) (trees : List (External At)) → body_places (t ∷ trees) ≡ body_places (t ∷ []) ++ body_places trees
bodies_split (Outer at d) trees = refl
bodies_split (Defines f) trees = refl

-- a tree whose digest was put, and those that are left
pub digests_more : (roots : List (List PlainWord)) (t : External At) (trees : List (External At)) (old new whole : List (List ℕ)) → new ≡ old ++ function_digests roots (t ∷ []) → old ++ function_digests roots (t ∷ trees) ≡ whole
    → new ++ function_digests roots trees ≡ whole
digests_more roots t trees old new whole put before =
    ap (λ ds. ds ++ function_digests roots trees) put ∙ append_assoc old (function_digests roots (t ∷ [])) (function_digests roots trees)
    ∙ ap (λ ds. old ++ ds) (sym (digests_split roots t trees)) ∙ before

pub bodies_more : (t : External At) (trees : List (External At)) (old new whole : List At) → new ≡ old ++ body_places (t ∷ []) → old ++ body_places (t ∷ trees) ≡ whole → new ++ body_places trees ≡ whole
bodies_more t trees old new whole put before =
    ap (λ bs. bs ++ body_places trees) put ∙ append_assoc old (body_places (t ∷ [])) (body_places trees) ∙ ap (λ bs. old ++ bs) (sym (bodies_split t trees)) ∙ before

-- Roots whose definitions all became functions, are regular.
use Rattle.std.proofs.Common.{◌≡◌, ◌∙◌, ℕ, suc, ◌+◌, ◌≤◌, List, [], ◌∷◌, length, length-append, sym, ap, subst, arith}
use Rattle.p10_base.specs.declared.at.At.{At}
use Rattle.p10_syn.specs.Trees.{External, Outer, Defines}
use Rattle.p10_digests.specs.Digests.{function_places}
use Rattle.p10_core.specs.Typed.{PlainFunction}
use Rattle.p10_core.specs.Completing.{AreBuilt}
use Rattle.p10_elabx.specs.First.{Keep}
use Rattle.p10_elabx.specs.Scopes.{PlainScope}
use Rattle.p10_heads.specs.Heads.{Heads}
use Rattle.p10_elab.specs.Knowledge.{Known}
use Rattle.p10_elab.specs.RootEnds.{known_after, known_after_all, root_begun, root_passed, roots_passed}
use Rattle.p10_definition_counts.specs.Laws.{AddsAtMost, definitions_of}
use Rattle.p10_definition_counts.proofs.Growing.{functions_follow}
use Rattle.p10_built_structures.proofs.BuildingOutside.{externals_stay_built}
use Rattle.p10_root_renaming.proofs.Keeping.{declaration_keeps}
use Rattle.p10_counterpart_renaming.specs.Runs.{AreRegular, RootsAreRegular}
use Rattle.p10_counterpart_renaming.proofs.Roots.{sizes_keep}

few_added : (n : ℕ) (k j : Known) → AddsAtMost n k j → length j.functions ≤ length k.functions + n
few_added n k j a =
    let e : length j.functions ≡ length k.functions + length a.made = ap (λ (fs : List PlainFunction). length fs) a.functions ∙ length-append k.functions a.made in
    omega (arith, e, a.few)

-- structures are built
abbrev Built : Known → Type 0
Built k = AreBuilt k.standing.scope.structures

module _ (h : Keep) (heads : Heads) where
  trees_regular : (k : Known) (trees : List (External At)) → Built k → length (known_after_all h heads k trees).functions ≡ length k.functions + length (function_places trees)
      → AreRegular h heads k trees × Built (known_after_all h heads k trees)
  trees_regular k [] built many = (tt, built)
  trees_regular k (Outer at d ∷ rest) built many =
      let a : Known = known_after h heads k (Outer at d) in
      let same : length a.functions ≡ length k.functions = ap (λ (fs : List PlainFunction). length fs) (declaration_keeps h heads k d) in
      trees_regular a rest (externals_stay_built h heads k (Outer at d) built) (many ∙ ap (λ n. n + length (function_places rest)) (sym same))
  trees_regular k (Defines d ∷ rest) built many =
      let a : Known = known_after h heads k (Defines d) in
      let here : length a.functions ≤ length k.functions + 1 = few_added 1 k a (functions_follow.trees h heads k (Defines d ∷ [])) in
      let there : length (known_after_all h heads a rest).functions ≤ length a.functions + length (function_places rest) = few_added (length (function_places rest)) a (known_after_all h heads a rest) (functions_follow.trees h heads a rest) in
      let total : length (known_after_all h heads a rest).functions ≡ length k.functions + suc (length (function_places rest)) = many in
      let made : length a.functions ≡ length k.functions + 1 = omega (arith, here, there, total) in
      let after : Built a = externals_stay_built h heads k (Defines d) built in
      let more = trees_regular a rest after (omega (arith, total, made)) in
      (((made, after), more.0), more.1)

  ended_built : (k : Known) (root : List (External At)) → Built (known_after_all h heads (root_begun k) root) → Built (root_passed h heads k root)
  ended_built k root built =
      let m : Known = known_after_all h heads (root_begun k) root in
      subst (λ (c : PlainScope). AreBuilt c.structures) (sym (sizes_keep h m.tentative m.standing)) built

  pub roots_regular : (k : Known) (roots : List (List (External At))) → Built k → length (roots_passed h heads k roots).functions ≡ length k.functions + definitions_of roots
      → RootsAreRegular h heads k roots
  roots_regular k [] built many = tt
  roots_regular k (root ∷ rest) built many =
      let m : Known = known_after_all h heads (root_begun k) root in
      let j : Known = root_passed h heads k root in
      let here : length m.functions ≤ length k.functions + length (function_places root) = few_added (length (function_places root)) (root_begun k) m (functions_follow.trees h heads (root_begun k) root) in
      let there : length (roots_passed h heads j rest).functions ≤ length m.functions + definitions_of rest = few_added (definitions_of rest) j (roots_passed h heads j rest) (functions_follow.roots h heads j rest) in
      let total : length (roots_passed h heads j rest).functions ≡ length k.functions + (length (function_places root) + definitions_of rest) = many in
      let first = trees_regular (root_begun k) root built (omega (arith, here, there, total)) in
      (first.0, roots_regular j rest (ended_built k root first.1) (omega (arith, here, there, total)))

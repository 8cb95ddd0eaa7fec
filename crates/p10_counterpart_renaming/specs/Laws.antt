-- After counterparts the same is known of both programs, and a function with the same body is the same.
use Rattle.std.specs.Prelude.{ℕ, ◌+◌, List, map, length, flat_map}
use Rattle.p10_elabx.specs.First.{Keep}
use Rattle.p10_heads.specs.Heads.{Heads}
use Rattle.p10_elab.specs.Knowledge.{Known}
use Rattle.p10_elab.specs.RootEnds.{known_after_all, roots_passed}
use Rattle.p10_renaming.specs.Renaming.{Pairing}
use Rattle.p10_declaration_renaming.specs.Standings.{AreQuiet}
use Rattle.p10_spelling_laws.specs.Counterparts.{Counterparts, in_first, in_second, HasSameBody}
use Rattle.p10_root_renaming.specs.Roots.{SameHeads}
use Rattle.p10_counterpart_renaming.specs.Runs.{structures_in, AreRegular, RootsAreRegular, SameSoFar, SameWithMore, FunctionsSameAt}

-- where no row holds up to the end of counterparts in either program, and each definition becomes a function, the same is known after them;
-- and functions with the number of a definition that has the same body in both are the same
pub record CounterpartsAreSame (n : ℕ) (R : Pairing) (k j after those : Known) : Type 0 where
  pub more : SameWithMore R after those
  pub function : FunctionsSameAt more.pairing (length k.functions + n) after.functions those.functions

abbrev pub CounterpartsRenamed : Type 0
CounterpartsRenamed =
    (h : Keep) (heads others : Heads) → SameHeads heads others → (R : Pairing) (k j : Known) → SameSoFar R k j → (n : ℕ) (all : List Counterparts) → HasSameBody n all
    → AreRegular h heads k (map in_first all) → AreRegular h others j (map in_second all)
    → AreQuiet (structures_in (known_after_all h heads k (map in_first all))) (known_after_all h heads k (map in_first all)).standing (known_after_all h others j (map in_second all)).standing
    → CounterpartsAreSame n R k j (known_after_all h heads k (map in_first all)) (known_after_all h others j (map in_second all))

-- so it is after roots of counterparts
abbrev pub RootsOfCounterpartsRenamed : Type 0
RootsOfCounterpartsRenamed =
    (h : Keep) (heads others : Heads) → SameHeads heads others → (R : Pairing) (k j : Known) → SameSoFar R k j → (n : ℕ) (roots : List (List Counterparts)) → HasSameBody n (flat_map (λ root. root) roots)
    → RootsAreRegular h heads k (map (map in_first) roots) → RootsAreRegular h others j (map (map in_second) roots)
    → AreQuiet (structures_in (roots_passed h heads k (map (map in_first) roots))) (roots_passed h heads k (map (map in_first) roots)).standing (roots_passed h others j (map (map in_second) roots)).standing
    → CounterpartsAreSame n R k j (roots_passed h heads k (map (map in_first) roots)) (roots_passed h others j (map (map in_second) roots))

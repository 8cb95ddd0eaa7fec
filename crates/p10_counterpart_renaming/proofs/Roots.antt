-- After roots of counterparts the same is known of both programs.
use Rattle.std.proofs.Common.{◌≡◌, ◌∙◌, ℕ, zero, suc, ◌+◌, ◌<◌, List, [], ◌∷◌, ◌++◌, map, length, le_refl, inl, inr, ◌⊎◌, ⊎_elim, refl, sym, ap, subst, arith, Bool, true, false}
use Rattle.std.specs.Prelude.{flat_map, slice_get}
use Rattle.p10_base.specs.declared.at.At.{At}
use Rattle.p10_base.specs.declared.codes.SubsetCode.TheVariants as subset
use Rattle.p10_syn.specs.Trees.{External}
use Rattle.p10_core.specs.Typed.{PlainFunction}
use Rattle.p10_elabx.specs.First.{Keep}
use Rattle.p10_elabx.specs.Scopes.{PlainScope}
use Rattle.p10_elabd.specs.Standing.{PlainStanding, refusing}
use Rattle.p10_heads.specs.Heads.{Heads}
use Rattle.p10_elab.specs.Knowledge.{Tentative, Known}
use Rattle.p10_elab.specs.RootEnds.{known_after, known_after_all, root_begun, lacks_size_at_end, sizes_noted, root_ended, roots_passed}
use Rattle.p10_renaming.specs.Renaming.{Pairing}
use Rattle.p10_expression_renaming.specs.MappedStatements.{mapped_declaration}
use Rattle.p10_expression_renaming.proofs.TypeNames.{left}
use Rattle.p10_declaration_renaming.specs.Standings.{AreQuiet}
use Rattle.p10_spelling_laws.specs.Counterparts.{Counterparts, declared_in_both, defined_in_both, in_first, in_second, HasSameBody}
use Rattle.p10_definition_counts.proofs.Growing.{functions_follow}
use Rattle.p10_pairing_laws.proofs.Trees.{functions_stay_same}
use Rattle.p10_root_renaming.specs.Roots.{SameHeads, SameKnown}
use Rattle.p10_root_renaming.proofs.Keeping.{declaration_keeps}
use Rattle.p10_root_renaming.proofs.GrowingOutside.{grows_sizes, grows_roots}
use Rattle.p10_root_renaming.proofs.Whole.{sizes_both, nameless_same}
use Rattle.p10_counterpart_renaming.specs.Runs.{structures_in, AreRegular, RootsAreRegular, SameSoFar, SameWithMore}
use Rattle.p10_counterpart_renaming.specs.Laws.{CounterpartsAreSame, RootsOfCounterpartsRenamed}
use Rattle.p10_counterpart_renaming.proofs.Counterparts.{within_itself, more_on, rest_same, within_list, at_moved, counterparts_renamed}
use Rattle.p10_counterpart_renaming.proofs.Steps.{names_many}

-- ## Where a root begins and ends

begun_so : (R : Pairing) (k j : Known) → SameSoFar R k j → SameSoFar R (root_begun k) (root_begun j)
begun_so R k j so = record {
  one = so.one;
  low = so.low;
  high = so.high;
  known = record {
    standing = nameless_same R (structures_in k) k.standing.scope j.standing.scope so.known.standing;
    root = so.known.root;
    linked = so.known.linked;
    functions = so.known.functions;
  };
}

refusing_keeps : (h : Keep) (b : Bool) (at : At) (s : PlainStanding) → (refusing h b subset.IncompleteType at s).scope ≡ s.scope
refusing_keeps h true at s = refl
refusing_keeps h false at s = refl

pub sizes_keep : (h : Keep) (ds : List Tentative) (s : PlainStanding) → (sizes_noted h ds s).scope ≡ s.scope
sizes_keep h [] s = refl
sizes_keep h (d ∷ rest) s =
    let b : Bool = lacks_size_at_end s.scope d.type in
    sizes_keep h rest (refusing h b subset.IncompleteType d.name.place s) ∙ refusing_keeps h b d.name.place s

ended_structures : (h : Keep) (k : Known) → structures_in (root_ended h k) ≡ structures_in k
ended_structures h k = ap (λ (s : PlainScope). length s.structures) (sizes_keep h k.tentative k.standing)

ended_so : (h : Keep) (R : Pairing) (k j : Known) → SameSoFar R k j → SameSoFar R (root_ended h k) (root_ended h j)
ended_so h R k j so = record {
  one = so.one;
  low = λ n m e. subst (λ z. n < z) (sym (ended_structures h k)) (so.low n m e);
  high = λ n m e. subst (λ z. m < z) (sym (ended_structures h j)) (so.high n m e);
  known = subst (λ z. SameKnown R z (root_ended h k) (root_ended h j)) (sym (ended_structures h k)) (record {
    standing = sizes_both R (structures_in k) h k.tentative j.tentative k.standing j.standing so.known.standing;
    root = ap (λ n. n + 1) so.known.root;
    linked = so.known.linked;
    functions = so.known.functions;
  });
}

abbrev ended_more : (h : Keep) (R : Pairing) (k j : Known) → SameWithMore R k j → SameWithMore R (root_ended h k) (root_ended h j)
ended_more h R k j more = record { pairing = more.pairing; within = more.within; same = ended_so h more.pairing k j more.same }

-- where no row holds up to the end of all roots, none does up to the end of the first
quiet_root : (h : Keep) (heads others : Heads) (k j : Known) (rest others_rest : List (List (External At)))
    → AreQuiet (structures_in (roots_passed h heads (root_ended h k) rest)) (roots_passed h heads (root_ended h k) rest).standing (roots_passed h others (root_ended h j) others_rest).standing
    → AreQuiet (structures_in k) k.standing j.standing
quiet_root h heads others k j rest others_rest quiet = record {
  left = (grows_sizes h k.tentative k.standing).quiet ((grows_roots h heads (root_ended h k) rest).quiet quiet.left);
  right = (grows_sizes h j.tentative j.standing).quiet ((grows_roots h others (root_ended h j) others_rest).quiet quiet.right);
  few = le_refl (structures_in k);
}

-- ## Roots whose bodies may differ

roots_rest : (h : Keep) (heads others : Heads) → SameHeads heads others → (R : Pairing) (k j : Known) → SameSoFar R k j → (roots : List (List Counterparts))
    → RootsAreRegular h heads k (map (map in_first) roots) → RootsAreRegular h others j (map (map in_second) roots)
    → AreQuiet (structures_in (roots_passed h heads k (map (map in_first) roots))) (roots_passed h heads k (map (map in_first) roots)).standing (roots_passed h others j (map (map in_second) roots)).standing
    → SameWithMore R (roots_passed h heads k (map (map in_first) roots)) (roots_passed h others j (map (map in_second) roots))
roots_rest h heads others same R k j so [] fine also quiet = record { pairing = R; within = within_itself R; same = so }
roots_rest h heads others same R k j so (root ∷ rest) fine also quiet =
    let a : Known = known_after_all h heads (root_begun k) (map in_first root) in
    let b : Known = known_after_all h others (root_begun j) (map in_second root) in
    let one : SameWithMore R (root_ended h a) (root_ended h b) =
    ended_more h R a b (rest_same h heads others same R (root_begun k) (root_begun j) (begun_so R k j so) root fine.0 also.0 (quiet_root h heads others a b (map (map in_first) rest) (map (map in_second) rest) quiet)) in
    more_on R (root_ended h a) (root_ended h b) (roots_passed h heads (root_ended h a) (map (map in_first) rest)) (roots_passed h others (root_ended h b) (map (map in_second) rest)) one
    (roots_rest h heads others same one.pairing (root_ended h a) (root_ended h b) one.same rest fine.1 also.1 quiet)

-- ## The function with a number

-- how many functions are defined
abbrev definitions_in : List Counterparts → ℕ
definitions_in [] = 0
definitions_in (declared_in_both at d ∷ rest) = definitions_in rest
definitions_in (defined_in_both d x y ∷ rest) = definitions_in rest + 1

-- a function past those of a root
record IsPast (n : ℕ) (all rest : List Counterparts) : Type 0 where
  number : ℕ
  past : n ≡ definitions_in all + number
  body : HasSameBody number rest

record IsInRoot (n : ℕ) (all : List Counterparts) : Type 0 where
  low : n < definitions_in all
  body : HasSameBody n all

which_root : (n : ℕ) (all rest : List Counterparts) → HasSameBody n (all ++ rest) → IsInRoot n all ⊎ IsPast n all rest
which_root n [] rest body = inr (record { number = n; past = omega arith; body = body })
which_root n (declared_in_both at d ∷ all) rest body =
    ⊎_elim (λ (p : IsInRoot n all). inl (record { low = p.low; body = p.body })) (λ (p : IsPast n all rest). inr (record { number = p.number; past = p.past; body = p.body })) (which_root n all rest body)
which_root zero (defined_in_both d x y ∷ all) rest body = inl (record { low = omega arith; body = body })
which_root (suc n) (defined_in_both d x y ∷ all) rest body =
    ⊎_elim (λ (p : IsInRoot n all). inl (record { low = omega (arith, p.low); body = p.body })) (λ (p : IsPast n all rest). inr (record { number = p.number; past = omega (arith, p.past); body = p.body })) (which_root n all rest body)

-- each of them becomes a function
made_many : (h : Keep) (heads : Heads) (k : Known) (all : List Counterparts) → AreRegular h heads k (map in_first all) → length (known_after_all h heads k (map in_first all)).functions ≡ length k.functions + definitions_in all
made_many h heads k [] fine = omega arith
made_many h heads k (declared_in_both at d ∷ rest) fine =
    made_many h heads (known_after h heads k (in_first (declared_in_both at d))) rest fine ∙ ap (λ (fs : List PlainFunction). length fs + definitions_in rest) (declaration_keeps h heads k (mapped_declaration left d))
made_many h heads k (defined_in_both d x y ∷ rest) fine =
    let more : length (known_after_all h heads (known_after h heads k (in_first (defined_in_both d x y))) (map in_first rest)).functions ≡ length (known_after h heads k (in_first (defined_in_both d x y))).functions + definitions_in rest =
    made_many h heads (known_after h heads k (in_first (defined_in_both d x y))) rest fine.1 in
    let one : length (known_after h heads k (in_first (defined_in_both d x y))).functions ≡ length k.functions + 1 = fine.0.0 in
    omega (arith, more, one)

-- functions that are there stay so
kept_in_roots : (h : Keep) (heads : Heads) (k : Known) (rest : List (List (External At))) (n : ℕ) → n < length k.functions → slice_get (roots_passed h heads k rest).functions n ≡ slice_get k.functions n
kept_in_roots h heads k rest n low =
    let more = functions_follow.roots h heads k rest in
    ap (λ (fs : List PlainFunction). slice_get fs n) more.functions ∙ within_list k.functions more.made n low

pub roots_of_counterparts_renamed : RootsOfCounterpartsRenamed
roots_of_counterparts_renamed h heads others same R k j so n [] body fine also quiet = counterparts_renamed h heads others same R k j so n [] body fine also quiet
roots_of_counterparts_renamed h heads others same R k j so n (root ∷ rest) body fine also quiet =
    let a : Known = known_after_all h heads (root_begun k) (map in_first root) in
    let b : Known = known_after_all h others (root_begun j) (map in_second root) in
    let later : Known = roots_passed h heads (root_ended h a) (map (map in_first) rest) in
    let those : Known = roots_passed h others (root_ended h b) (map (map in_second) rest) in
    let first : AreQuiet (structures_in a) a.standing b.standing = quiet_root h heads others a b (map (map in_first) rest) (map (map in_second) rest) quiet in
    let many : length a.functions ≡ length k.functions + definitions_in root = made_many h heads (root_begun k) root fine.0 in
    ⊎_elim
    (λ (p : IsInRoot n root).
    let one : CounterpartsAreSame n R (root_begun k) (root_begun j) a b = counterparts_renamed h heads others same R (root_begun k) (root_begun j) (begun_so R k j so) n root p.body fine.0 also.0 first in
    let ended : SameWithMore R (root_ended h a) (root_ended h b) = ended_more h R a b one.more in
    let r : SameWithMore one.more.pairing later those = roots_rest h heads others same one.more.pairing (root_ended h a) (root_ended h b) ended.same rest fine.1 also.1 quiet in
    let names : length a.functions ≡ length b.functions = names_many a.functions b.functions one.more.same.known.functions in
    let here : slice_get later.functions (length k.functions + n) ≡ slice_get a.functions (length k.functions + n) = kept_in_roots h heads (root_ended h a) (map (map in_first) rest) (length k.functions + n) (omega (arith, many, p.low)) in
    let there : slice_get those.functions (length k.functions + n) ≡ slice_get b.functions (length k.functions + n) =
    kept_in_roots h others (root_ended h b) (map (map in_second) rest) (length k.functions + n) (omega (arith, many, names, p.low)) in
    record {
      more = more_on R (root_ended h a) (root_ended h b) later those ended r;
      function = λ f g e d. functions_stay_same one.more.pairing r.pairing r.within f g (one.function f g (sym here ∙ e) (sym there ∙ d));
    })
    (λ (p : IsPast n root (flat_map (λ (x : List Counterparts). x) rest)).
    let one : SameWithMore R (root_ended h a) (root_ended h b) = ended_more h R a b (rest_same h heads others same R (root_begun k) (root_begun j) (begun_so R k j so) root fine.0 also.0 first) in
    let r : CounterpartsAreSame p.number one.pairing (root_ended h a) (root_ended h b) later those =
    roots_of_counterparts_renamed h heads others same one.pairing (root_ended h a) (root_ended h b) one.same p.number rest p.body fine.1 also.1 quiet in
    record {
      more = more_on R (root_ended h a) (root_ended h b) later those one r.more;
      function = at_moved r.more.pairing (length a.functions + p.number) (length k.functions + n) (omega (arith, many, p.past)) later.functions those.functions r.function;
    })
    (which_root n root (flat_map (λ (x : List Counterparts). x) rest) body)

-- The lines outside of bodies tell the trees there, and the lines of a function tell its body.
use Rattle.std.proofs.Common.{◌≡◌, ℕ, zero, suc, List, [], ◌∷◌, map, Option, Some, None, refl, sym, ap, ◌∙◌, arith}
use Rattle.std.specs.Prelude.{option_map, slice_get}
use Rattle.std.specs.List.{AllByRecursion, flat_map}
use Rattle.std.proofs.lemmas.Option.{same_Some, none-some}
use Rattle.p10_base.specs.declared.at.At.{At}
use Rattle.p10_base.specs.Words.{PlainWord}
use Rattle.p10_syn.specs.Symbols.{Symbol, symbols_of}
use Rattle.p10_syn.specs.Trees.{Bare, External}
use Rattle.p10_digests.specs.Bare.{bare_words}
use Rattle.p10_digests.specs.Digests.{function_places, body_places}
use Rattle.p10_digests.specs.Lines.{hashed_lines, tree_words, roots_outside}
use Rattle.p10_digests.specs.Parted.{PartedRoot, root_lines, runs_of}
use Rattle.p10_digests.proofs.Bodies.{bodies_are_lines}
use Rattle.p10_digests.proofs.OutsideTelling.{outside_tells_words}
use Rattle.p10_digests.proofs.Telling.{lines_tell_words}
use Rattle.p10_spelling_laws.specs.Outside.{first_run, other_runs}
use Rattle.p10_spelling_laws.specs.Lexed.{bare_symbol}
use Rattle.p10_spelling_laws.specs.Counterparts.{RootTrees, function_lines, HaveCounterparts}
use Rattle.p10_spelling_laws.specs.Laws.{SameWordsSameTrees}
use Rattle.p10_spelling_laws.proofs.Aligning.{Tell, runs_tell_trees, functions_before}
use Rattle.p10_spelling_laws.proofs.Symbols.{bare_symbols}
use Rattle.p10_spelling_laws.proofs.Parting.{AreGood, good_sound, good_program}
use Rattle.p10_spelling_laws.proofs.Roots.{root_runs, part_runs, part_words, AreFormed, ArePartedFrom, roots_parted}
use Rattle.p10_spelling_laws.proofs.Pairing.{part_functions, part_heads, roots_paired}

-- ## Heads

no_runs : (x : List (List Symbol)) (xs : List (List (List Symbol))) → [] ≡ x ∷ xs → ⊥
no_runs x xs same = cc

same_runs : (x y : List Symbol) (xs ys : List (List Symbol)) (more others : List (List (List Symbol))) → (x ∷ xs) ∷ more ≡ (y ∷ ys) ∷ others → (x ≡ y) × (xs ≡ ys) × (more ≡ others)
same_runs x y xs ys more others same = (cc, cc, cc)

-- roots with the same runs have the same trees but for bodies
roots_alike : (xs ys : List RootTrees) → AreFormed xs → AreFormed ys → map part_runs xs ≡ map part_runs ys → map part_heads xs ≡ map part_heads ys
roots_alike [] [] a b same = refl
roots_alike [] (y ∷ ys) a b same = absurd (no_runs (part_runs y) (map part_runs ys) same)
roots_alike (x ∷ xs) [] a b same = absurd (no_runs (part_runs x) (map part_runs xs) (sym same))
roots_alike (x ∷ xs) (y ∷ ys) a b same =
    let (first, others, more) = same_runs (first_run x.trees) (first_run y.trees) (other_runs x.trees) (other_runs y.trees) (map part_runs xs) (map part_runs ys) same in
    let here = runs_tell_trees [] x.trees y.trees a.0 b.0 first others in
    let rest = roots_alike xs ys a.1 b.1 more in
    λ i. here i ∷ rest i

no_heads : (x : List (External Bare)) (xs : List (List (External Bare))) → [] ≡ x ∷ xs → ⊥
no_heads x xs same = cc

same_heads : (x y : List (External Bare)) (xs ys : List (List (External Bare))) → x ∷ xs ≡ y ∷ ys → (x ≡ y) × (xs ≡ ys)
same_heads x y xs ys same = (cc, cc)

-- in such roots the words of a function tell it
roots_tell : (xs ys : List RootTrees) → AreFormed xs → AreFormed ys → map part_heads xs ≡ map part_heads ys
    → Tell (flat_map part_words xs) (flat_map part_words ys) (flat_map part_functions xs) (flat_map part_functions ys)
roots_tell [] [] a b alike = λ n same. refl
roots_tell [] (y ∷ ys) a b alike = absurd (no_heads (part_heads y) (map part_heads ys) alike)
roots_tell (x ∷ xs) [] a b alike = absurd (no_heads (part_heads x) (map part_heads xs) (sym alike))
roots_tell (x ∷ xs) (y ∷ ys) a b alike =
    let (first, rest) = same_heads _ _ _ _ alike in
    functions_before [] x.trees y.trees (flat_map part_words xs) (flat_map part_words ys) (flat_map part_functions xs) (flat_map part_functions ys) a.0 b.0 first (roots_tell xs ys a.1 b.1 rest)

-- ## Lines

map_after : (roots : List PartedRoot) → map root_runs roots ≡ map (map (map bare_symbol)) (map runs_of roots)
map_after [] = refl
map_after (root ∷ roots) = ap (λ rest. root_runs root ∷ rest) (map_after roots)

get_map : {A B : Type 0} (f : A → B) (xs : List A) (n : ℕ) → slice_get (map f xs) n ≡ option_map f (slice_get xs n)
get_map f [] n = refl
get_map f (x ∷ xs) zero = refl
get_map f (x ∷ xs) (suc n) = get_map f xs n

map_twice : {A B C : Type 0} (f : B → C) (g : A → B) (o : Option A) → option_map (λ x. f (g x)) o ≡ option_map f (option_map g o)
map_twice f g None = refl
map_twice f g (Some x) = refl

-- words with the same lines have the same symbols
lines_tell_symbols : (xs ys : List PlainWord) → AreGood xs → AreGood ys → hashed_lines xs ≡ hashed_lines ys → symbols_of xs ≡ symbols_of ys
lines_tell_symbols xs ys a b same =
    let bare : bare_words xs ≡ bare_words ys = (lines_tell_words xs ys (good_program xs a) (good_program ys b)).0 same in
    sym (bare_symbols xs (good_sound xs a)) ∙ ap (map bare_symbol) bare ∙ bare_symbols ys (good_sound ys b)

symbols_at : (fs gs : List (List PlainWord)) → AllByRecursion AreGood fs → AllByRecursion AreGood gs → (n : ℕ) → option_map hashed_lines (slice_get fs n) ≡ option_map hashed_lines (slice_get gs n)
    → slice_get (map symbols_of fs) n ≡ slice_get (map symbols_of gs) n
symbols_at [] [] a b n same = refl
symbols_at [] (g ∷ gs) a b zero same = absurd (none-some (hashed_lines g) same)
symbols_at [] (g ∷ gs) a b (suc n) same = symbols_at [] gs a b.1 n same
symbols_at (f ∷ fs) [] a b zero same = absurd (none-some (hashed_lines f) (sym same))
symbols_at (f ∷ fs) [] a b (suc n) same = symbols_at fs [] a.1 b n same
symbols_at (f ∷ fs) (g ∷ gs) a b zero same = ap Some (lines_tell_symbols f g a.0 b.0 (same_Some _ _ same))
symbols_at (f ∷ fs) (g ∷ gs) a b (suc n) same = symbols_at fs gs a.1 b.1 n same

-- ## Two programs

module _ (roots : List (List PlainWord)) (trees : List (External At)) (x : ArePartedFrom 0 roots trees) where
  outside_lines : roots_outside (body_places trees) 0 roots ≡ flat_map root_lines x.all
  outside_lines = (λ i. roots_outside (sym x.bodies i) 0 (sym x.words i)) ∙ bodies_are_lines x.all x.stand

  lines_are : (n : ℕ) → function_lines roots trees n ≡ option_map hashed_lines (slice_get x.functions n)
  lines_are n =
      map_twice hashed_lines (tree_words roots) (slice_get (function_places trees) n)
      ∙ ap (option_map hashed_lines) (sym (get_map (tree_words roots) (function_places trees) n) ∙ ap (λ ws. slice_get ws n) (x.there [] refl))

module _ (roots others : List (List PlainWord)) (trees those : List (External At)) (x : ArePartedFrom 0 roots trees) (y : ArePartedFrom 0 others those) where
  module _ (same : roots_outside (body_places trees) 0 roots ≡ roots_outside (body_places those) 0 others) where
    runs_same : map runs_of x.all ≡ map runs_of y.all
    runs_same = (outside_tells_words x.all y.all x.good y.good).0 (sym (outside_lines roots trees x) ∙ same ∙ outside_lines others those y)

    heads_same : map part_heads x.parts ≡ map part_heads y.parts
    heads_same = roots_alike x.parts y.parts x.formed y.formed (sym x.runs ∙ map_after x.all ∙ ap (map (map (map bare_symbol))) runs_same ∙ sym (map_after y.all) ∙ y.runs)

    function_told : (n : ℕ) → function_lines roots trees n ≡ function_lines others those n → slice_get (flat_map part_functions x.parts) n ≡ slice_get (flat_map part_functions y.parts) n
    function_told n lines =
        roots_tell x.parts y.parts x.formed y.formed heads_same n
        (ap (λ ws. slice_get ws n) (sym x.spelled)
        ∙ symbols_at x.functions y.functions x.functions_good y.functions_good n (sym (lines_are roots trees x n) ∙ lines ∙ lines_are others those y n)
        ∙ ap (λ ws. slice_get ws n) y.spelled)

    pub counterparts : HaveCounterparts roots others trees those
    counterparts =
        let pairs = roots_paired x.parts y.parts 0 0 heads_same in
        record { all = pairs.all; first = x.located ∙ pairs.first; second = y.located ∙ pairs.second; begin = pairs.begin; same = λ n lines. pairs.same n (function_told n lines) }

pub same_words_same_trees : SameWordsSameTrees
same_words_same_trees roots others trees those spells spell sound sounds small few same =
    counterparts roots others trees those (roots_parted 0 roots trees spells (omega (arith, small)) sound) (roots_parted 0 others those spell (omega (arith, few)) sounds) same

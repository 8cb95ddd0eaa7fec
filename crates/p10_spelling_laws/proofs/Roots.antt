-- All roots are parted at the bodies of functions, and the words of each function stand there.
use Rattle.std.proofs.Common.{◌≡◌, ℕ, ◌+◌, ◌≤◌, List, [], ◌∷◌, ◌++◌, map, length, refl, sym, ap, ◌∙◌, subst, arith, append_assoc, length-append}
use Rattle.std.specs.List.{AllByRecursion, flat_map}
use Rattle.p10_base.specs.declared.at.At.{At}
use Rattle.p10_base.specs.Words.{PlainWord}
use Rattle.p10_syn.specs.Symbols.{Symbol, symbols_of}
use Rattle.p10_syn.specs.Bare.{bare_externals}
use Rattle.p10_syn.specs.Spells.{SpellsRoot, SpellsFrom}
use Rattle.p10_syn.specs.StatementForms.{AreExternals}
use Rattle.p10_syn.specs.Places.{Source, locate_externals}
use Rattle.p10_syn.specs.Trees.{Bare, External, Outer, Defines}
use Rattle.p10_digests.specs.Digests.{function_places, body_places}
use Rattle.p10_digests.specs.Lines.{all_words}
use Rattle.p10_digests.specs.Parted.{PartedRoot, root_words, root_bodies, RootsStandFrom, runs_of, OutsideAreProgramWords}
use Rattle.p10_spelling_laws.specs.Outside.{first_run, other_runs, function_words}
use Rattle.p10_spelling_laws.specs.Lexed.{IsSound, AreSound, bare_symbol, HaveNoHash}
use Rattle.p10_spelling_laws.specs.Counterparts.{RootTrees, locate_roots}
use Rattle.p10_spelling_laws.proofs.NoHash.{fair_externals}
use Rattle.p10_spelling_laws.proofs.Symbols.{program_words}
use Rattle.p10_spelling_laws.proofs.Parting.{AreGood, good_both, words_at, IsParted, parted}

-- ## Places of trees one after the other

places_append : (these more : List (External At)) → function_places (these ++ more) ≡ function_places these ++ function_places more
places_append [] more = refl
places_append (Outer at d ∷ these) more = places_append these more
places_append (Defines f ∷ these) more = ap (λ ats. f.place ∷ ats) (places_append these more)

bodies_append : (these more : List (External At)) → body_places (these ++ more) ≡ body_places these ++ body_places more
bodies_append [] more = refl
bodies_append (Outer at d ∷ these) more = bodies_append these more
bodies_append (Defines f ∷ these) more = ap (λ ats. f.body_place ∷ ats) (bodies_append these more)

map_append : {A B : Type 0} (f : A → B) (these more : List A) → map f (these ++ more) ≡ map f these ++ map f more
map_append f [] more = refl
map_append f (x ∷ these) more = ap (λ rest. f x ∷ rest) (map_append f these more)

all_append : {A : Type 0} (P : A → Type 0) (these more : List A) → AllByRecursion P these → AllByRecursion P more → AllByRecursion P (these ++ more)
all_append P [] more a b = b
all_append P (x ∷ these) more a b = (a.0, all_append P these more a.1 b)

-- ## Roots

-- the runs of the trees of a root
abbrev pub tree_runs : List (External Bare) → List (List Symbol)
tree_runs es = first_run es ∷ other_runs es

-- the symbols of the runs of a root
abbrev pub root_runs : PartedRoot → List (List Symbol)
root_runs root = map (map bare_symbol) (runs_of root)

-- the same of a root with its trees
abbrev pub part_runs : RootTrees → List (List Symbol)
part_runs root = tree_runs root.trees

-- the words of the functions of a root
abbrev pub part_words : RootTrees → List (List Symbol)
part_words root = function_words root.trees

-- the trees of each root are those of the grammar
abbrev pub AreFormed : List RootTrees → Type 0
AreFormed parts = AllByRecursion (λ (root : RootTrees). AreExternals [] root.trees) parts

-- roots with their trees, of which the first has a number of words before it
pub record ArePartedFrom (number : ℕ) (roots : List (List PlainWord)) (trees : List (External At)) : Type 0 where
  pub parts : List RootTrees
  pub formed : AreFormed parts
  pub located : trees ≡ locate_roots number parts
  pub all : List PartedRoot
  pub words : map root_words all ≡ roots
  pub bodies : root_bodies all ≡ body_places trees
  pub stand : RootsStandFrom number all
  pub runs : map root_runs all ≡ map part_runs parts
  pub good : OutsideAreProgramWords all
  pub functions : List (List PlainWord)
  pub spelled : map symbols_of functions ≡ flat_map part_words parts
  pub there : (front : List PlainWord) → length front ≡ number → map (words_at (front ++ all_words roots)) (function_places trees) ≡ functions
  pub functions_good : AllByRecursion AreGood functions

no_roots : (number : ℕ) → ArePartedFrom number [] []
no_roots number = record {
  parts = [];
  formed = tt;
  located = refl;
  all = [];
  words = refl;
  bodies = refl;
  stand = tt;
  runs = refl;
  good = tt;
  functions = [];
  spelled = refl;
  there = λ front long. refl;
  functions_good = tt;
}

module _ (number : ℕ) (words : List PlainWord) (roots : List (List PlainWord)) (these others trees : List (External At)) where
  -- the first root
  abbrev source : Source
  source = record { words = words; before = number }

  first_parted : SpellsRoot number words these → number + length words ≤ 4294967295 → AllByRecursion IsSound words → IsParted source 0 number [] words (bare_externals these)
  first_parted root small sound =
      parted (bare_externals these) source 0 number [] words root.spelled (omega arith) (omega (arith, small))
      (good_both words sound (program_words words sound (subst HaveNoHash (sym root.spelled) (fair_externals [] (bare_externals these) [] root.formed tt))))

  -- a root before others
  pub with_root : trees ≡ these ++ others → SpellsRoot number words these → number + length words ≤ 4294967295 → AllByRecursion IsSound words
      → ArePartedFrom (number + length words) roots others → ArePartedFrom number (words ∷ roots) trees
  with_root whole root small sound more =
      let part = first_parted root small sound in
      let placed : these ≡ locate_externals source 0 (bare_externals these) = root.placed in
      record {
        parts = record { words = words; trees = bare_externals these } ∷ more.parts;
        formed = (root.formed, more.formed);
        located = whole ∙ (λ i. placed i ++ more.located i);
        all = part.root ∷ more.all;
        words = λ i. part.all i ∷ more.words i;
        bodies = (λ i. part.bodies i ++ more.bodies i) ∙ ap (λ ts. body_places ts ++ body_places others) (sym placed) ∙ sym (bodies_append these others) ∙ ap body_places (sym whole);
        stand = (part.stand, subst (λ n. RootsStandFrom n more.all) (ap (λ ws. number + length ws) (sym part.all)) more.stand);
        runs = λ i. part.runs i ∷ more.runs i;
        good = (part.good.0, part.good.1, more.good);
        functions = part.functions ++ more.functions;
        spelled = map_append symbols_of part.functions more.functions ∙ (λ i. part.spelled i ++ more.spelled i);
        there = λ front long.
            ap (map (words_at (front ++ (words ++ all_words roots)))) (ap function_places whole ∙ places_append these others)
            ∙ map_append (words_at (front ++ (words ++ all_words roots))) (function_places these) (function_places others)
            ∙ ap (λ ws. ws ++ map (words_at (front ++ (words ++ all_words roots))) (function_places others))
            (ap (λ ts. map (words_at (front ++ (words ++ all_words roots))) (function_places ts)) placed ∙ part.there front (all_words roots) (omega (arith, long)))
            ∙ ap (λ ws. part.functions ++ ws)
            (ap (λ ws. map (words_at ws) (function_places others)) (sym (append_assoc front words (all_words roots)))
            ∙ more.there (front ++ words) (omega (arith, long, length-append front words)));
        functions_good = all_append AreGood part.functions more.functions part.functions_good more.functions_good;
      }

-- roots that trees spell are parted
pub roots_parted : (number : ℕ) (roots : List (List PlainWord)) (trees : List (External At)) → SpellsFrom number roots trees → number + length (all_words roots) ≤ 4294967295 → AreSound roots → ArePartedFrom number roots trees
roots_parted number [] trees spells small sound = subst (ArePartedFrom number []) (sym spells) (no_roots number)
roots_parted number (words ∷ roots) trees (these, others, whole, root, more) small sound =
    with_root number words roots these others trees whole root (omega (arith, small, length-append words (all_words roots))) sound.0
    (roots_parted (number + length words) roots others more (omega (arith, small, length-append words (all_words roots))) sound.1)

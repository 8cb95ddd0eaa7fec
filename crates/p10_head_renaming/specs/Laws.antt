-- In the same words outside of bodies functions have the same numbers.
use Rattle.std.specs.Prelude.{◌≡◌, ℕ, ◌≤◌, Bool, List, map, length, Option, Some, slice_get}
use Rattle.std.specs.List.{AllByRecursion, flat_map, position_from}
use Rattle.p10_base.specs.declared.at.At.{At}
use Rattle.p10_base.specs.Words.{Text, PlainWord}
use Rattle.p10_syn.specs.Spells.{Spells}
use Rattle.p10_syn.specs.Trees.{External}
use Rattle.p10_digests.specs.Lines.{all_words}
use Rattle.p10_core.specs.Types.{PlainStructure}
use Rattle.p10_core.specs.Typed.{PlainFunction, PlainObject, PlainSeen}
use Rattle.p10_sums.specs.Counting.{task_of}
use Rattle.p10_linkage.specs.Linkage.{is_main_name}
use Rattle.p10_program.specs.Assembly.{program_with}
use Rattle.p10_renaming.specs.Renaming.{Pairing, SameFunction}
use Rattle.p10_heads.specs.Heads.{heads_of_roots, number_in}
use Rattle.p10_heads.specs.Roots.{roots_of}
use Rattle.p10_spelling_laws.specs.Counterparts.{Counterparts, in_first, in_second, BeginTogether}
use Rattle.p10_head_renaming.specs.Ascending.{Ascend, name_numbers}

-- counterparts by their roots, which both programs have
pub record AreRootsOf (all : List Counterparts) : Type 0 where
  pub roots : List (List Counterparts)
  pub joined : flat_map (λ root. root) roots ≡ all
  pub first : roots_of (map in_first all) ≡ map (map in_first) roots
  pub second : roots_of (map in_second all) ≡ map (map in_second) roots

-- counterparts are the same roots in both programs
abbrev pub RootsTogether : Type 0
RootsTogether = (all : List Counterparts) → AllByRecursion BeginTogether all → AreRootsOf all

-- the names that trees declare outside of functions stand one after the other
abbrev pub NamesAscend : Type 0
NamesAscend = (roots : List (List PlainWord)) (trees : List (External At)) → Spells roots trees → length (all_words roots) ≤ 4294967295 → Ascend 0 (name_numbers trees) (length (all_words roots))

-- functions have the same numbers in both programs
abbrev pub FunctionsKeepNumbers : Type 0
FunctionsKeepNumbers =
    (all : List Counterparts) (low high from to : ℕ) → AllByRecursion BeginTogether all → Ascend low (name_numbers (map in_first all)) high → Ascend from (name_numbers (map in_second all)) to
    → (root : ℕ) (internal : Bool) (name : Text)
    → number_in (heads_of_roots 0 (roots_of (map in_first all))).functions root internal name ≡ number_in (heads_of_roots 0 (roots_of (map in_second all))).functions root internal name

-- the number of `main` among functions
abbrev pub main_of : List PlainFunction → Option ℕ
main_of functions = position_from (λ (f : PlainFunction). is_main_name f.name) 0 functions

-- where functions have the same names, and that with a number is the same, its task loop stands at the same place
abbrev pub TaskStays : Type 0
TaskStays =
    (R : Pairing) (structures more : List PlainStructure) (objects those : List PlainObject) (functions others : List PlainFunction) (outside seen : List PlainSeen)
    → map (λ (f : PlainFunction). f.name) functions ≡ map (λ (f : PlainFunction). f.name) others
    → (n : ℕ) (f g : PlainFunction) → slice_get functions n ≡ Some f → slice_get others n ≡ Some g → SameFunction R f g
    → task_of (program_with structures objects functions (main_of functions) outside) n ≡ task_of (program_with more those others (main_of others) seen) n

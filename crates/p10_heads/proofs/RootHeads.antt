-- What the roots define, one after the other.
use Rattle.std.specs.Prelude.{◌≡◌, ℕ, ◌+◌, ◌<◌, max, true, List, [], ◌∷◌, ◌++◌, length, map, drop}
use Rattle.std.proofs.Common.{◌∙◌, ap, sym, add-one, arith, rules}
use Rattle.std.proofs.lemmas.List.{append-nil}
use Rattle.p10_base.specs.Words.{Text}
use Rattle.p10_base.specs.declared.at.At.{At}
use Rattle.p10_syn.specs.Trees.{External}
use Rattle.p10_heads.specs.declared.head.Head.{Head as CodeHead}
use Rattle.p10_heads.specs.declared.numbers.Whose.{Whose}
use Rattle.p10_heads.specs.declared.numbers.Whose.TheVariants.{Own}
use Rattle.p10_heads.specs.Heads.{Head, Heads, outlines, heads_from, object_heads_of, heads_of_roots}
use Rattle.p10_heads.specs.HeadViews.{plain_head}
use Rattle.p10_heads.specs.Roots.{roots_of}
use Rattle.p10_heads.specs.private.Cut.{split_root}
use Rattle.p10_heads.specs.private.Firsts.{firsts}
use Rattle.p10_heads.specs.private.Numbering.{number_among, numbers_among, first_numbers, tables_upto, roots_in}
use Rattle.p10_heads.proofs.CutRoots.{roots_are}
use Rattle.p10_heads.proofs.FirstNames.{more_first}
use Rattle.p10_heads.proofs.ListRows.{more_put}

-- one root more
pub functions_more : (n m : ℕ) (all root after : List (External At)) (before now whole : List Head) → 0 < length all → (root, after) ≡ split_root all → m ≡ n + 1 →
    now ≡ before ++ heads_from true n (outlines root) (outlines root) →
    before ++ (heads_of_roots n (roots_of all)).functions ≡ whole → now ++ (heads_of_roots m (roots_of after)).functions ≡ whole
functions_more n m all root after before now whole some is next put holds =
    ap (λ k. now ++ (heads_of_roots k (roots_of after)).functions) next
    ∙ more_put before (heads_from true n (outlines root) (outlines root)) (heads_of_roots (n + 1) (roots_of after)).functions (heads_of_roots n (roots_of all)).functions now whole put
    (ap (λ rs. (heads_of_roots n rs).functions) (roots_are all root after some is)) holds

pub objects_more : (n m : ℕ) (all root after : List (External At)) (before now whole : List Head) → 0 < length all → (root, after) ≡ split_root all → m ≡ n + 1 →
    now ≡ before ++ object_heads_of n (outlines root) root →
    before ++ (heads_of_roots n (roots_of all)).objects ≡ whole → now ++ (heads_of_roots m (roots_of after)).objects ≡ whole
objects_more n m all root after before now whole some is next put holds =
    ap (λ k. now ++ (heads_of_roots k (roots_of after)).objects) next
    ∙ more_put before (object_heads_of n (outlines root) root) (heads_of_roots (n + 1) (roots_of after)).objects (heads_of_roots n (roots_of all)).objects now whole put
    (ap (λ rs. (heads_of_roots n rs).objects) (roots_are all root after some is)) holds

-- all roots
pub all_heads : (n : ℕ) (functions objects : List Head) (left : List (List (External At))) (h whole : Heads) → h ≡ record { functions = functions; objects = objects } → left ≡ [] →
    functions ++ (heads_of_roots n left).functions ≡ whole.functions → objects ++ (heads_of_roots n left).objects ≡ whole.objects → h ≡ whole
all_heads n functions objects left h whole is none first second =
    let fs : functions ≡ whole.functions = sym (append-nil functions) ∙ sym (ap (λ rs. functions ++ (heads_of_roots n rs).functions) none) ∙ first in
    let os : objects ≡ whole.objects = sym (append-nil objects) ∙ sym (ap (λ rs. objects ++ (heads_of_roots n rs).objects) none) ∙ second in
    is ∙ ap (λ (xs : List Head). with_both xs objects) fs ∙ ap (λ (xs : List Head). with_both whole.functions xs) os
  where
    with_both : List Head → List Head → Heads
    with_both xs ys = record { functions = xs; objects = ys }

-- one definition more in a table
pub step_numbers : (whose : Whose) (i : ℕ) (all : List CodeHead) (one : CodeHead) (n m : ℕ) (old new whole : List (Text × ℕ)) → drop i all ≡ one ∷ drop (i + 1) all →
    new ≡ firsts old (number_among whose n (plain_head one)) → m ≡ n + 1 → firsts old (numbers_among whose n (map plain_head (drop i all))) ≡ whole →
    firsts new (numbers_among whose m (map plain_head (drop (i + 1) all))) ≡ whole
step_numbers whose i all one n m old new whole cut is next holds =
    ap (λ k. firsts new (numbers_among whose k (map plain_head (drop (i + 1) all)))) next
    ∙ more_first old (number_among whose n (plain_head one)) (numbers_among whose (n + 1) (map plain_head (drop (i + 1) all))) (numbers_among whose n (map plain_head (drop i all))) new whole is
    (ap (λ xs. numbers_among whose n (map plain_head xs)) cut) holds

-- the table of one root more
pub step_tables : (n : ℕ) (heads : List Head) (old new : List (List (Text × ℕ))) → new ≡ old ++ first_numbers (Own n) heads ∷ [] → old ≡ tables_upto n heads → new ≡ tables_upto (n + 1) heads
step_tables n heads old new put is =
    put ∙ ap (λ ts. ts ++ first_numbers (Own n) heads ∷ []) is ∙ ap (λ k. tables_upto k heads) (sym (add-one n))

max_assoc : (a b c : ℕ) → max (max a b) c ≡ max a (max b c)
max_assoc a b c = first_of (omega arith, grind arith, search rules)

-- the roots of one definition more
pub step_roots : (i : ℕ) (all : List CodeHead) (one : CodeHead) (old next new whole : ℕ) → drop i all ≡ one ∷ drop (i + 1) all → next ≡ one.root + 1 → new ≡ max old next →
    max old (roots_in (map plain_head (drop i all))) ≡ whole → max new (roots_in (map plain_head (drop (i + 1) all))) ≡ whole
step_roots i all one old next new whole cut more is holds =
    ap (λ k. max k (roots_in (map plain_head (drop (i + 1) all)))) (is ∙ ap (max old) more)
    ∙ max_assoc old (one.root + 1) (roots_in (map plain_head (drop (i + 1) all)))
    ∙ ap (λ xs. max old (roots_in (map plain_head xs))) (sym cut) ∙ holds

-- In the same words outside of bodies and in a function two programs have one view of it.
use Rattle.std.proofs.Common.{◌≡◌, ◌∙◌, ℕ, ◌+◌, false, List, [], ◌++◌, map, length, le_refl, refl, sym, ap, subst, arith, Some}
use Rattle.std.proofs.lemmas.List.{length-map}
use Rattle.std.specs.Prelude.{flat_map, slice_get}
use Rattle.p10_base.specs.declared.at.At.{At}
use Rattle.p10_base.specs.Gathered.{Gathered}
use Rattle.p10_syn.specs.Trees.{External}
use Rattle.p10_core.specs.Types.{PlainStructure}
use Rattle.p10_core.specs.Typed.{PlainFunction, PlainObject, PlainSeen, PlainProgram}
use Rattle.p10_core.specs.Completing.{AreBuilt}
use Rattle.p10_core.proofs.Completing.{none_are_built}
use Rattle.sha2.specs.Sha256.{sha256}
use Rattle.p10_digests.specs.Lines.{all_words, hashed_lines, tree_words}
use Rattle.p10_digests.specs.Digests.{function_places}
use Rattle.p10_elabx.specs.First.{only_first}
use Rattle.p10_elabd.specs.Standing.{PlainStanding}
use Rattle.p10_heads.specs.Heads.{Heads, heads_of_roots, number_in}
use Rattle.p10_heads.specs.Roots.{roots_of}
use Rattle.p10_linkage.specs.Between.{taken_together}
use Rattle.p10_elab.specs.Knowledge.{Known}
use Rattle.p10_elab.specs.RootEnds.{roots_passed, nothing_known}
use Rattle.p10_elab.specs.Programs.{program, elaborated, known_of, program_of, roots_elaborated, numbered_objects}
use Rattle.p10_program.specs.Assembly.{program_with}
use Rattle.p10_program.specs.Numbered.{objects_from}
use Rattle.p10_front.specs.Readings.{PlainReading}
use Rattle.p10_front.specs.Digests.{trees_in}
use Rattle.p10_sums.specs.Counting.{task_of}
use Rattle.p10_views.specs.Views.{view_of}
use Rattle.p10_renaming.specs.Renaming.{Pairing, SameFunction}
use Rattle.p10_renaming.specs.Laws.{HasWidths}
use Rattle.p10_renaming.proofs.Erasing.{renamed_have_one_view}
use Rattle.p10_expression_renaming.specs.Knowing.{same_no_bindings}
use Rattle.p10_root_renaming.specs.Roots.{same_no_linked, SameHeads, SameKnown}
use Rattle.p10_declaration_renaming.specs.Standings.{SameTables}
use Rattle.p10_linkage.proofs.Joining.{IsJoined}
use Rattle.p10_linkage.proofs.OneType.{built_stands}
use Rattle.p10_spelling_laws.proofs.Lexed.{expanded_are_sound}
use Rattle.p10_spelling_laws.specs.Counterparts.{Counterparts, in_first, in_second, HasSameBody, HaveCounterparts}
use Rattle.p10_head_renaming.specs.Ascending.{Ascend, name_numbers}
use Rattle.p10_head_renaming.specs.Laws.{AreRootsOf, main_of}
use Rattle.p10_head_renaming.proofs.Together.{roots_together}
use Rattle.p10_head_renaming.proofs.Names.{names_ascend}
use Rattle.p10_head_renaming.proofs.Numbers.{functions_keep_numbers}
use Rattle.p10_head_renaming.proofs.Task.{task_stays}
use Rattle.p10_definition_counts.specs.Laws.{definitions_of}
use Rattle.p10_definition_counts.proofs.Counting.{definitions_counted}
use Rattle.p10_counterpart_renaming.specs.Runs.{structures_in, RootsAreRegular, SameSoFar}
use Rattle.p10_counterpart_renaming.specs.Laws.{CounterpartsAreSame}
use Rattle.p10_counterpart_renaming.proofs.Counterparts.{at_moved}
use Rattle.p10_counterpart_renaming.proofs.Roots.{roots_of_counterparts_renamed}
use Rattle.p10_word_counterparts.specs.Laws.{IsTypedFrom}
use Rattle.p10_word_counterparts.proofs.Typing.{readings_are_typed, readings_have_counterparts}
use Rattle.p10_equal_words.specs.Comparable.{HasDigestEach}
use Rattle.p10_equal_words.specs.Laws.{EqualWordsHaveEqualViews}
use Rattle.p10_equal_words.proofs.Settled.{IsSettled, roots_settled}
use Rattle.p10_equal_words.proofs.Regular.{roots_regular}
use Rattle.p10_equal_words.proofs.Together.{Joins, joins_together}
use Rattle.p10_equal_words.proofs.Widths.{widths_same}

-- ## Before the first root

-- no structures are paired
abbrev no_pairs : Pairing
no_pairs = record { used = λ n m. false; passed = λ n m. false }

nothing_same : SameSoFar no_pairs nothing_known nothing_known
nothing_same = record {
  one = record { numbers = λ n m i j e d. absurd cc; within = λ n m e. absurd cc };
  low = λ n m e. absurd cc;
  high = λ n m e. absurd cc;
  known = record {
    standing = record {
      tables = record { entries = λ n m e. absurd cc; built = none_are_built; other_built = none_are_built };
      names = same_no_bindings;
      tags = same_no_bindings;
      floors = refl;
      next = λ i low. absurd (omega (arith, low));
    };
    root = refl;
    linked = same_no_linked;
    functions = refl;
  };
}

-- ## One program

-- what is known of roots
abbrev known : List (List (External At)) → Known
known roots = roots_passed only_first (heads_of_roots 0 roots) nothing_known roots

-- what stands after roots are taken together
abbrev together : List (List (External At)) → PlainStanding
together roots = taken_together only_first (heads_of_roots 0 roots) (known roots).linked (known roots).standing

-- roots in which no row holds come to a program: its functions are those that are known, and its structures those that stand after the roots
record IsOf (roots : List (List (External At))) (p : PlainProgram) : Type 0 where
  pub quiet : (known roots).standing.problems ≡ []
  pub joins : Joins (known roots).standing (together roots)
  pub functions : p.functions ≡ (known roots).functions
  pub objects : List PlainObject
  pub outside : List PlainSeen
  pub is : p ≡ program_with (together roots).scope.structures objects (known roots).functions (main_of (known roots).functions) outside

is_of : (all : List (External At)) (roots : List (List (External At))) (p : PlainProgram) → roots_elaborated only_first all roots ≡ program p → IsOf roots p
unfolding known_of
is_of all roots p e =
    let k : Known = known roots in
    let heads : Heads = heads_of_roots 0 roots in
    let s : PlainStanding = together roots in
    let j : Joins k.standing s = joins_together only_first heads k.linked k.standing in
    let x : IsSettled s (program_of (length heads.objects) s k) p = roots_settled only_first all roots p e in
    record {
      quiet = j.quiet x.quiet;
      joins = j;
      functions = ap (λ (z : PlainProgram). z.functions) x.is;
      objects = objects_from 0 (length heads.objects) (k.block_objects ++ numbered_objects s.scope.structures k.visible k.objects);
      outside = k.outside;
      is = x.is;
    }

-- its structures are those that are known, of which some have become one
joined : (roots : List (List (External At))) (p : PlainProgram) → IsOf roots p → AreBuilt (known roots).standing.scope.structures → IsJoined (known roots).standing.scope.structures p.structures
joined roots p x built =
    subst (λ (z : PlainProgram). IsJoined (known roots).standing.scope.structures z.structures) (sym x.is) (x.joins.kept (built_stands (known roots).standing.scope.structures built)).joined

-- with what is asked of a reading besides
record IsReady (roots : List (List (External At))) (p : PlainProgram) : Type 0 where
  pub of_roots : IsOf roots p
  pub many : length p.functions ≡ definitions_of roots

ready : (r : PlainReading) (p : PlainProgram) → HasDigestEach r p → elaborated (trees_in r.units) ≡ program p → (roots : List (List (External At))) → roots_of (trees_in r.units) ≡ roots → IsReady roots p
ready r p each is roots same = record {
  of_roots = is_of (trees_in r.units) roots p (subst (λ rs. roots_elaborated only_first (trees_in r.units) rs ≡ program p) same is);
  many = sym each ∙ length-map (function_places (trees_in r.units)) (λ at. sha256 (hashed_lines (tree_words r.expansion.roots at))) ∙ sym (definitions_counted (trees_in r.units)) ∙ ap definitions_of same;
}

regular : (roots : List (List (External At))) (p : PlainProgram) → IsReady roots p → RootsAreRegular only_first (heads_of_roots 0 roots) nothing_known roots
regular roots p a =
    let many : length (known roots).functions ≡ definitions_of roots = ap (λ (fs : List PlainFunction). length fs) (sym a.of_roots.functions) ∙ a.many in
    roots_regular only_first (heads_of_roots 0 roots) nothing_known roots none_are_built (omega (arith, many))

-- ## Both

views_same : (roots : List (List Counterparts)) (n : ℕ) → HasSameBody n (flat_map (λ root. root) roots)
    → SameHeads (heads_of_roots 0 (map (map in_first) roots)) (heads_of_roots 0 (map (map in_second) roots))
    → (p q : PlainProgram) → IsReady (map (map in_first) roots) p → IsReady (map (map in_second) roots) q → (f g : PlainFunction) → slice_get p.functions n ≡ Some f → slice_get q.functions n ≡ Some g
    → view_of p n f ≡ view_of q n g
views_same roots n body same p q a b f g f_is g_is =
    let firsts : List (List (External At)) = map (map in_first) roots in
    let seconds : List (List (External At)) = map (map in_second) roots in
    let k : Known = known firsts in
    let j : Known = known seconds in
    let x : IsOf firsts p = a.of_roots in
    let y : IsOf seconds q = b.of_roots in
    let r : CounterpartsAreSame n no_pairs nothing_known nothing_known k j =
    roots_of_counterparts_renamed only_first (heads_of_roots 0 firsts) (heads_of_roots 0 seconds) same no_pairs nothing_known nothing_known nothing_same n roots body (regular firsts p a) (regular seconds q b)
    (record { left = x.quiet; right = y.quiet; few = le_refl (structures_in k) }) in
    let R : Pairing = r.more.pairing in
    let know : SameKnown R (structures_in k) k j = r.more.same.known in
    let here : slice_get k.functions n ≡ Some f = ap (λ fs. slice_get fs n) (sym x.functions) ∙ f_is in
    let there : slice_get j.functions n ≡ Some g = ap (λ fs. slice_get fs n) (sym y.functions) ∙ g_is in
    let function : SameFunction R f g = at_moved R (length nothing_known.functions + n) n (omega arith) k.functions j.functions r.function f g here there in
    let these : List PlainStructure = (together firsts).scope.structures in
    let others : List PlainStructure = (together seconds).scope.structures in
    let tables : SameTables R k.standing.scope.structures j.standing.scope.structures = know.standing.tables in
    let widths : HasWidths R p q = widths_same R k.standing.scope.structures j.standing.scope.structures tables p q (joined firsts p x tables.built) (joined seconds q y tables.other_built) in
    let task : task_of p n ≡ task_of q n =
    ap (λ z. task_of z n) x.is
    ∙ task_stays R these others x.objects y.objects k.functions j.functions x.outside y.outside know.functions n f g here there function
    ∙ ap (λ z. task_of z n) (sym y.is) in
    renamed_have_one_view R p q widths n f g function task

-- ## Readings

-- the names of what trees declare outside of functions stand one after the other
ascending : (g : Gathered) (r : PlainReading) (p : PlainProgram) → IsTypedFrom g r p → (trees : List (External At)) → trees_in r.units ≡ trees → Ascend 0 (name_numbers trees) (length (all_words r.expansion.roots))
ascending g r p t trees e = subst (λ ts. Ascend 0 (name_numbers ts) (length (all_words r.expansion.roots))) e (names_ascend r.expansion.roots (trees_in r.units) t.spells (expanded_are_sound g r.expansion t.expands).1)

pub equal_words_have_equal_views : EqualWordsHaveEqualViews
equal_words_have_equal_views g h r s p q reads other a b same n f k lines f_is k_is =
    let t : IsTypedFrom g r p = readings_are_typed g r p reads in
    let u : IsTypedFrom h s q = readings_are_typed h s q other in
    let c : HaveCounterparts r.expansion.roots s.expansion.roots (trees_in r.units) (trees_in s.units) = readings_have_counterparts g h r s p q reads other same in
    let by_roots : AreRootsOf c.all = roots_together c.all c.begin in
    let firsts : List (List (External At)) = map (map in_first) by_roots.roots in
    let seconds : List (List (External At)) = map (map in_second) by_roots.roots in
    let heads : SameHeads (heads_of_roots 0 firsts) (heads_of_roots 0 seconds) = record {
      functions = λ root internal name.
          ap (λ rs. number_in (heads_of_roots 0 rs).functions root internal name) (sym by_roots.first)
          ∙ functions_keep_numbers c.all 0 (length (all_words r.expansion.roots)) 0 (length (all_words s.expansion.roots)) c.begin (ascending g r p t (map in_first c.all) c.first) (ascending h s q u (map in_second c.all) c.second) root internal name
          ∙ ap (λ rs. number_in (heads_of_roots 0 rs).functions root internal name) by_roots.second;
    } in
    let first : roots_of (trees_in r.units) ≡ firsts = ap roots_of c.first ∙ by_roots.first in
    let second : roots_of (trees_in s.units) ≡ seconds = ap roots_of c.second ∙ by_roots.second in
    views_same by_roots.roots n (subst (HasSameBody n) (sym by_roots.joined) (c.same n lines)) heads p q
    (ready r p a t.is firsts first) (ready s q b u.is seconds second) f k f_is k_is

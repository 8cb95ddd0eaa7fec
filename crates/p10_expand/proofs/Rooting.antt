-- From one root to the next.
use Rattle.std.proofs.Common.{◌≡◌, ℕ, ◌+◌, ◌-◌, ◌<◌, ◌≤◌, Vec, List, [], ◌∷◌, ◌++◌, drop, map, length, length-drop, replicate, slice_index_or, false, Some, None, Result, Ok, Err, refl, sym, ◌∙◌, ap, subst, add-one, arith}
use Rattle.std.proofs.Math.Seq.{drop-cons}
use Rattle.std.proofs.Math.ListN.{drop_of_length-le}
use Rattle.std.proofs.lemmas.List.{map-append}
use Rattle.std.specs.declared.alloc.Global.{Global}
use Rattle.p10_base.specs.declared.word.Word.{Word}
use Rattle.p10_base.specs.declared.report.Refusal.{Refusal}
use Rattle.p10_base.specs.declared.report.Limit.{Limit}
use Rattle.p10_base.specs.Gathered.{Gathered}
use Rattle.p10_base.specs.Words.{PlainWord, plain_word}
use Rattle.p10_expand.specs.declared.expanded.Obeyed.{Obeyed}
use Rattle.p10_expand.specs.declared.expanded.Expanded.{Expanded}
use Rattle.p10_expand.specs.declared.expansion.fault.ExpandFault.{ExpandFault}
use Rattle.p10_expand.specs.declared.expansion.fault.ExpandFault.TheVariants.{Over, Memory}
use Rattle.p10_expand.specs.declared.expansion.state.State.{State as CodedState}
use Rattle.p10_expand.specs.Obeying.{PlainObeyed, State, RefusedBy, PassedLimit, Ended, Finished, Stopped}
use Rattle.p10_expand.specs.Expands.{Expansion, FileEnds, RootsEnd, no_roots, root_finished, root_refused, limit_passed, ExpandsTo, fresh, no_words}
use Rattle.p10_expand.specs.private.Steps.{Reaches, state_of}
use Rattle.p10_expand.specs.Answers.{IsExpansion, IsFault, lists_of, plain_obeyed, expansion_of}

-- roots without words, by their number
pub none_of : (numbers : List ℕ) → no_words numbers ≡ replicate (length numbers) []
none_of [] = refl
none_of (number ∷ numbers) = ap (λ lists. [] ∷ lists) (none_of numbers)

-- the words of one root more
pub one_root_more : (old new : List (Vec Word Global)) (words : Vec Word Global) → new ≡ old ++ words ∷ [] → map (map plain_word) (lists_of new) ≡ map (map plain_word) (lists_of old) ++ map plain_word words.items ∷ []
one_root_more old new words more =
    ap (λ (all : List (Vec Word Global)). map (map plain_word) (lists_of all)) more
    ∙ ap (map (map plain_word)) (map-append (λ (v : Vec Word Global). v.items) old (words ∷ []))
    ∙ map-append (map plain_word) (lists_of old) (words.items ∷ [])

module _ (g : Gathered) (place : ℕ) (there : place < length g.roots) (roots : List (List PlainWord)) (obeyed : List PlainObeyed) (left : ℕ)
    (leads : (answer : Result Expansion Limit) → RootsEnd g (drop place g.roots) roots obeyed left answer → ExpandsTo g answer)
    (number : ℕ) (start : State) (root_is : number ≡ slice_index_or g.roots place 0) (begins : start ≡ fresh obeyed left) where
  -- this root, and those after it
  here : drop place g.roots ≡ slice_index_or g.roots place 0 ∷ drop (place + 1) g.roots
  here = rw add-one (drop-cons g.roots place 0 there)

  root_ends : (ended : Ended) → FileEnds g 64 number false start ended → FileEnds g 64 (slice_index_or g.roots place 0) false (fresh obeyed left) ended
  root_ends ended ends = subst (λ (n : ℕ). FileEnds g 64 n false (fresh obeyed left) ended) root_is (subst (λ (s : State). FileEnds g 64 number false s ended) begins ends)

  from_here : (answer : Result Expansion Limit) → RootsEnd g (slice_index_or g.roots place 0 ∷ drop (place + 1) g.roots) roots obeyed left answer → ExpandsTo g answer
  from_here answer ends = leads answer (subst (λ (numbers : List ℕ). RootsEnd g numbers roots obeyed left answer) (sym here) ends)

  -- the end of the root is reached
  pub root_goes : (s : CodedState) (new : List (List PlainWord)) → Reaches (FileEnds g 64 number false start) (Ok None) s → new ≡ roots ++ map plain_word s.words.items ∷ [] →
      (answer : Result Expansion Limit) → RootsEnd g (drop (place + 1) g.roots) new (map plain_obeyed s.obeyed) s.left answer → ExpandsTo g answer
  root_goes s new ends more answer others =
      from_here answer (root_finished (root_ends (Finished (state_of s)) ends) (subst (λ (all : List (List PlainWord)). RootsEnd g (drop (place + 1) g.roots) all (map plain_obeyed s.obeyed) s.left answer) more others))

  -- the root is refused
  pub root_refuses : (s : CodedState) (refusal : Refusal) (new : List (List PlainWord)) (others : ℕ) (expanded : Expanded) →
      Reaches (FileEnds g 64 number false start) (Ok (Some refusal)) s → new ≡ roots ++ map plain_word s.words.items ∷ [] → others ≡ length g.roots - place - 1 →
      expansion_of expanded ≡ record { roots = new ++ replicate others []; obeyed = map plain_obeyed s.obeyed; refusal = Some refusal } → IsExpansion g expanded
  root_refuses s refusal new others expanded ends more many is =
      let count : others ≡ length (drop (place + 1) g.roots) = simp length-drop (omega (arith, many)) in
      let empty : replicate others [] ≡ no_words (drop (place + 1) g.roots) = rw count (sym (none_of (drop (place + 1) g.roots))) in
      rw (is, more, empty) (from_here _ (root_refused (root_ends (Stopped (RefusedBy (state_of s) refusal)) ends)))

  -- no words are given
  pub root_fails : (fault : ExpandFault) (s : CodedState) → Reaches (FileEnds g 64 number false start) (Err fault) s → IsFault g fault
  root_fails (Over limit) s ends = from_here (Err limit) (limit_passed (root_ends (Stopped (PassedLimit limit)) ends))
  root_fails Memory s ends = tt

-- the end of the last root is reached
pub roots_done : (g : Gathered) (place : ℕ) (roots kept : List (Vec Word Global)) (obeyed : List Obeyed) (left : ℕ) → length g.roots ≤ place → kept ≡ roots →
    ((answer : Result Expansion Limit) → RootsEnd g (drop place g.roots) (map (map plain_word) (lists_of roots)) (map plain_obeyed obeyed) left answer → ExpandsTo g answer) →
    IsExpansion g (record { roots = kept; obeyed = obeyed; refusal = None })
roots_done g place roots kept obeyed left past same leads =
    let answer : List (Vec Word Global) → Result Expansion Limit = λ all. Ok (record { roots = map (map plain_word) (lists_of all); obeyed = map plain_obeyed obeyed; refusal = None }) in
    leads (answer kept)
    (subst (λ (numbers : List ℕ). RootsEnd g numbers (map (map plain_word) (lists_of roots)) (map plain_obeyed obeyed) left (answer kept)) (sym (drop_of_length-le g.roots past))
    (subst (λ (all : List (Vec Word Global)). RootsEnd g [] (map (map plain_word) (lists_of roots)) (map plain_obeyed obeyed) left (answer all)) (sym same) no_roots))

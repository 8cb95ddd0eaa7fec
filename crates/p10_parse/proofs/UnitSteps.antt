-- Root after root, as the loop over them takes them.
use Rattle.std.proofs.Common.{◌≡◌, ℕ, ◌+◌, ◌-◌, ◌≤◌, ◌++◌, List, [], ◌∷◌, length, map, take, take_all, drop, get_or, refl, sym, ◌∙◌, ap, subst, inl, inr, arith, Vec}
use Rattle.std.specs.declared.alloc.Global.{Global}
use Rattle.std.proofs.lemmas.List.{append_assoc, append-nil, length-map, map-append}
use Rattle.p10_base.specs.declared.at.At.{At}
use Rattle.p10_base.specs.declared.word.Word.{Word}
use Rattle.p10_base.specs.Words.{PlainWord, plain_word, plain_words}
use Rattle.p10_syn.specs.Trees.{Bare, External}
use Rattle.p10_syn.specs.declared.statement.Unit as whole
use Rattle.p10_syn.specs.Bare.{bare_external, bare_externals}
use Rattle.p10_syn.specs.BuiltStatements.{external_of, bare_external_of}
use Rattle.p10_syn.specs.Symbols.{Symbol, symbol_of, symbols_of}
use Rattle.p10_syn.specs.Spelling.{spell_externals}
use Rattle.p10_syn.specs.StatementForms.{AreExternals}
use Rattle.p10_syn.specs.Places.{locate_externals}
use Rattle.p10_place.specs.Roots.{count_externals}
use Rattle.p10_place.proofs.Counting.{counts_external}
use Rattle.p10_syn.specs.Spells.{Spells, SpellsFrom, SpellsRoot}
use Rattle.p10_pexpr.specs.declared.fault.ParseFault.{ParseFault}
use Rattle.p10_pexpr.specs.declared.fault.ParseFault.TheVariants.{Refused, Over, Memory}
use Rattle.p10_parse.specs.Units.{FitNesting, HasFault, FirstFault, HaveFault, AllFit}
use Rattle.p10_parse.specs.private.Root.{AreRead, IsUnread}
use Rattle.p10_parse.proofs.UnitLaws.{root_spelled}

-- ## The places of one root

externals_row : (us : List whole.Unit) → bare_externals (map external_of us) ≡ map bare_external_of us
unfolding bare_external_of
externals_row [] = refl
externals_row (u ∷ us) = ap (λ es. bare_external (external_of u) ∷ es) (externals_row us)

counted : (es : List (External Bare)) (rest : List Symbol) → length (spell_externals es rest) ≡ count_externals es + length rest
counted [] rest = omega arith
counted (e ∷ es) rest = omega (arith, counts_external e (spell_externals es rest), counted es rest)

-- the trees of a root have as many words as it
pub as_many : (words : List Word) (us : List whole.Unit) → AreRead (plain_words words) (map bare_external_of us) → count_externals (bare_externals (map external_of us)) ≡ length words
as_many words us read =
    omega (
      arith,
      ap count_externals (externals_row us),
      counted (map bare_external_of us) [],
      ap length read.spelled,
      length-map (plain_words words) symbol_of,
      length-map words plain_word,
    )

-- trees that were read, in their places
pub root_placed : (words : List PlainWord) (n : ℕ) (old new : List whole.Unit) → AreRead words (map bare_external_of old) → map external_of new ≡ locate_externals (record { words = words; before = n }) 0 (bare_externals (map external_of old)) →
    bare_externals (map external_of new) ≡ bare_externals (map external_of old) → SpellsRoot n words (map external_of new)
root_placed words n old new read placed same =
    let bare_new : bare_externals (map external_of new) ≡ map bare_external_of old = same ∙ externals_row old in
    record {
      formed = subst (AreExternals []) (sym bare_new) read.formed;
      spelled = read.spelled ∙ ap (λ es. spell_externals es []) (sym bare_new);
      placed = placed ∙ ap (locate_externals (record { words = words; before = n }) 0) (sym same);
    }

-- a root within the limit that wasn't read
pub root_unread : (words : List PlainWord) (f : ParseFault) → FitNesting words → IsUnread words f → HasFault words f
root_unread words Memory fits h = tt
root_unread words (Refused r) fits h = (fits, h)
root_unread words (Over limit) fits h = absurd h

-- ## All roots

-- the words of roots of the code
abbrev pub words_of : List (Vec Word Global) → List (List PlainWord)
words_of roots = map (λ root. plain_words root.items) roots

pub first_root : (d x : Vec Word Global) (roots : List (Vec Word Global)) (words : List Word) → 1 ≤ length roots → x ≡ get_or roots 0 d → words ≡ x.items → words_of roots ≡ plain_words words ∷ words_of (take (length roots - 1) (drop 1 roots))
first_root d x [] words some is same = absurd (omega (arith, some))
first_root d x (root ∷ roots) words some is same =
    ap (λ items. plain_words items ∷ words_of roots) (ap (λ r. r.items) (sym is) ∙ sym same) ∙ ap (λ rest. plain_words words ∷ words_of rest) (sym (take_all (length (root ∷ roots) - 1) roots (omega arith)))

pub more_trees : (all these new : List whole.Unit) → new ≡ all ++ these → map external_of new ≡ map external_of all ++ map external_of these
more_trees all these new e = ap (map external_of) e ∙ map-append external_of all these

pub no_root : (roots : List (Vec Word Global)) → length roots ≤ 0 → words_of roots ≡ []
no_root [] none = refl
no_root (root ∷ roots) none = absurd (omega (arith, none))

-- these trees of the first roots were read, and the rest of the roots is left, before which this many words stand
pub record Done (roots rest : List (List PlainWord)) (before : ℕ) (all : List (External At)) : Type 0 where
  pub found : (more : List (External At)) → SpellsFrom before rest more → Spells roots (all ++ more)
  pub within : AllFit rest → AllFit roots
  pub fault : (f : ParseFault) → FirstFault rest f → FirstFault roots f

pub done_first : (roots : List (List PlainWord)) → Done roots roots 0 []
done_first roots = record { found = λ more h. h; within = λ h. h; fault = λ f h. h }

-- one more root
pub done_next : (roots rest others : List (List PlainWord)) (words : List Word) (n m : ℕ) (all these new : List (External At)) → rest ≡ plain_words words ∷ others → Done roots rest n all → SpellsRoot n (plain_words words) these → FitNesting (plain_words words) → new ≡ all ++ these →
    m ≡ n + length words → Done roots others m new
done_next roots rest others words n m all these new parts old root fits items after =
    let done : Done roots (plain_words words ∷ others) n all = subst (λ rs. Done roots rs n all) parts old in
    let count : n + length (plain_words words) ≡ m = omega (arith, after, length-map words plain_word) in
    record {
      found = λ more h.
          subst (Spells roots) (sym (append_assoc all these more) ∙ ap (λ es. es ++ more) (sym items))
          (done.found (these ++ more) (these, more, refl, root, subst (λ k. SpellsFrom k others more) (sym count) h));
      within = λ h. done.within (fits, h);
      fault = λ f h. done.fault f (inr (fits, root_spelled n (plain_words words) these root, h));
    }

-- no root is left
pub done_spells : (roots rest : List (List PlainWord)) (n : ℕ) (all : List (External At)) → rest ≡ [] → Done roots rest n all → Spells roots all
done_spells roots rest n all none old =
    let done : Done roots [] n all = subst (λ rs. Done roots rs n all) none old in
    subst (Spells roots) (append-nil all) (done.found [] refl)

pub done_fits : (roots rest : List (List PlainWord)) (n : ℕ) (all : List (External At)) → rest ≡ [] → Done roots rest n all → AllFit roots
done_fits roots rest n all none old = let done : Done roots [] n all = subst (λ rs. Done roots rs n all) none old in done.within tt

-- the fault of the next root decides
pub done_decides : (roots rest others : List (List PlainWord)) (words : List PlainWord) (n : ℕ) (all : List (External At)) (f : ParseFault) → rest ≡ words ∷ others → Done roots rest n all → HasFault words f → HaveFault roots f
done_decides roots rest others words n all Memory parts old h = tt
done_decides roots rest others words n all (Refused r) parts old h = let done : Done roots (words ∷ others) n all = subst (λ rs. Done roots rs n all) parts old in done.fault (Refused r) (inl h)
done_decides roots rest others words n all (Over limit) parts old h = let done : Done roots (words ∷ others) n all = subst (λ rs. Done roots rs n all) parts old in done.fault (Over limit) (inl h)

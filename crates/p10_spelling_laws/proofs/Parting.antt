-- A root is parted at the bodies of its functions, and the words of each function stand there.
use Rattle.std.proofs.Common.{◌≡◌, ℕ, suc, ◌+◌, ◌-◌, ◌≤◌, List, [], ◌∷◌, ◌++◌, map, length, take, drop, refl, sym, ap, ◌∙◌, subst, arith, append_assoc, length-append}
use Rattle.std.specs.List.{AllByRecursion}
use Rattle.std.proofs.lemmas.List.{take_at, drop_at, length-map}
use Rattle.p10_base.specs.declared.at.At.{At}
use Rattle.p10_base.specs.Words.{PlainWord}
use Rattle.p10_syn.specs.declared.sign.Sign.TheVariants as sign
use Rattle.p10_syn.specs.Symbols.{Symbol, Fixed, symbol_of, symbols_of}
use Rattle.p10_syn.specs.Spelling.{spell_declarator, spell_declaration, spell_statements, spell_externals}
use Rattle.p10_syn.specs.Counts.{count_specifiers, count_declarator, count_declaration, count_statements, count_head, count_definition}
use Rattle.p10_syn.specs.Places.{Source, place_at, locate_externals}
use Rattle.p10_syn.specs.Trees.{Bare, Declaration, Definition, External, Outer, Defines}
use Rattle.p10_place.proofs.Counting.{counts_specifiers, counts_declarator, counts_declaration, counts_statements}
use Rattle.p10_digests.specs.Bare.{IsProgramWord, AreProgramWords}
use Rattle.p10_digests.specs.Digests.{function_places, body_places}
use Rattle.p10_digests.specs.Parted.{Stretch, PartedRoot, stretch_words, root_words, stretch_bodies, StandFrom, runs_of, HaveProgramWords}
use Rattle.p10_spelling_laws.specs.Outside.{spell_head, first_run, other_runs, function_words}
use Rattle.p10_spelling_laws.specs.Lexed.{IsSound, bare_symbol}
use Rattle.p10_spelling_laws.proofs.Following.{follow_declaration, follow_statements}
use Rattle.p10_spelling_laws.proofs.Aligning.{follow_head}
use Rattle.p10_spelling_laws.proofs.Symbols.{bare_symbols}

-- ## Words

-- a word is a mark or a lexeme, and as programs have them
abbrev pub IsGood : PlainWord → Type 0
IsGood word = IsSound word × IsProgramWord word

abbrev pub AreGood : List PlainWord → Type 0
AreGood words = AllByRecursion IsGood words

pub both_good : (these more : List PlainWord) → AreGood these → AreGood more → AreGood (these ++ more)
both_good [] more a b = b
both_good (w ∷ these) more a b = (a.0, both_good these more a.1 b)

pub first_good : (these more : List PlainWord) → AreGood (these ++ more) → AreGood these
first_good [] more all = tt
first_good (w ∷ these) more all = (all.0, first_good these more all.1)

pub rest_good : (these more : List PlainWord) → AreGood (these ++ more) → AreGood more
rest_good [] more all = all
rest_good (w ∷ these) more all = rest_good these more all.1

pub good_sound : (words : List PlainWord) → AreGood words → AllByRecursion IsSound words
good_sound [] all = tt
good_sound (w ∷ words) all = (all.0.0, good_sound words all.1)

pub good_program : (words : List PlainWord) → AreGood words → AreProgramWords words
good_program [] all = tt
good_program (w ∷ words) all = (all.0.1, good_program words all.1)

pub good_both : (words : List PlainWord) → AllByRecursion IsSound words → AreProgramWords words → AreGood words
good_both [] sound program = tt
good_both (w ∷ words) sound program = ((sound.0, program.0), good_both words sound.1 program.1)

symbols_append : (these more : List PlainWord) → symbols_of (these ++ more) ≡ symbols_of these ++ symbols_of more
symbols_append [] more = refl
symbols_append (w ∷ these) more = ap (λ rest. symbol_of w ∷ rest) (symbols_append these more)

-- words whose symbols are those of two lists, one after the other
pub record IsCut (words : List PlainWord) (these more : List Symbol) : Type 0 where
  pub own : List PlainWord
  pub rest : List PlainWord
  pub whole : words ≡ own ++ rest
  pub own_are : symbols_of own ≡ these
  pub rest_are : symbols_of rest ≡ more

no_symbols : (s : Symbol) (symbols : List Symbol) → [] ≡ s ∷ symbols → ⊥
no_symbols s symbols same = cc

same_symbols : (s t : Symbol) (ss ts : List Symbol) → s ∷ ss ≡ t ∷ ts → (s ≡ t) × (ss ≡ ts)
same_symbols s t ss ts same = (cc, cc)

cut : (words : List PlainWord) (these more : List Symbol) → symbols_of words ≡ these ++ more → IsCut words these more
cut words [] more same = record { own = []; rest = words; whole = refl; own_are = refl; rest_are = same }
cut [] (s ∷ these) more same = absurd (no_symbols s (these ++ more) same)
cut (w ∷ words) (s ∷ these) more same =
    let (first, others) = same_symbols _ _ _ _ same in
    let c = cut words these more others in
    record { own = w ∷ c.own; rest = c.rest; whole = ap (λ ws. w ∷ ws) c.whole; own_are = λ i. first i ∷ c.own_are i; rest_are = c.rest_are }

-- ## Places

pub place_first : (s : Source) (n k : ℕ) → s.before + n ≤ 4294967295 → (place_at s n k).first ≡ s.before + n
unfolding place_at
place_first s n k small = omega (arith, small)

pub place_past : (s : Source) (n k : ℕ) → s.before + (n + k) ≤ 4294967295 → (place_at s n k).past ≡ s.before + (n + k)
unfolding place_at
place_past s n k small = omega (arith, small)

-- ## A root

-- the words at a place among these
abbrev pub words_at : List PlainWord → At → List PlainWord
words_at words at = take (at.past - at.first) (drop at.first words)

-- where trees spell words from number n of a root on, these are parted at bodies, and each function has its own; `before` are the words
-- after the last body before them
pub record IsParted (s : Source) (n number : ℕ) (before words : List PlainWord) (es : List (External Bare)) : Type 0 where
  pub root : PartedRoot
  pub all : root_words root ≡ before ++ words
  pub bodies : stretch_bodies root.stretches ≡ body_places (locate_externals s n es)
  pub stand : StandFrom number root.stretches
  pub runs : map (map bare_symbol) (runs_of root) ≡ (symbols_of before ++ first_run es) ∷ other_runs es
  pub good : HaveProgramWords root.stretches × AreProgramWords root.after
  pub functions : List (List PlainWord)
  pub spelled : map symbols_of functions ≡ function_words es
  pub there : (front back : List PlainWord) → length front ≡ s.before + n → map (words_at (front ++ (words ++ back))) (function_places (locate_externals s n es)) ≡ functions
  pub functions_good : AllByRecursion AreGood functions

-- the last words of a root
last_words : (s : Source) (n number : ℕ) (before words : List PlainWord) → AreGood (before ++ words) → symbols_of words ≡ [] → IsParted s n number before words []
last_words s n number before words good same = record {
  root = record { stretches = []; after = before ++ words };
  all = refl;
  bodies = refl;
  stand = tt;
  runs = ap (λ run. run ∷ []) (bare_symbols (before ++ words) (good_sound (before ++ words) good) ∙ symbols_append before words ∙ ap (λ rest. symbols_of before ++ rest) same);
  good = (tt, good_program (before ++ words) good);
  functions = [];
  spelled = refl;
  there = λ front back long. refl;
  functions_good = tt;
}

-- how many words have these symbols
counted : (words : List PlainWord) (symbols : List Symbol) (count : ℕ) → symbols_of words ≡ symbols → length symbols ≡ count + 0 → length words ≡ count
counted words symbols count same long = let each : length (symbols_of words) ≡ length words = length-map words symbol_of in omega (arith, each, ap length same, long)

-- words before those that were cut
onto : (before words own rest : List PlainWord) → words ≡ own ++ rest → (before ++ own) ++ rest ≡ before ++ words
onto before words own rest whole = append_assoc before own rest ∙ ap (λ ws. before ++ ws) (sym whole)

further : (front words own rest back : List PlainWord) → words ≡ own ++ rest → front ++ (words ++ back) ≡ (front ++ own) ++ (rest ++ back)
further front words own rest back whole = ap (λ ws. front ++ (ws ++ back)) whole ∙ ap (λ ws. front ++ ws) (append_assoc own rest back) ∙ sym (append_assoc front own (rest ++ back))

-- a body in braces
abbrev spell_body : Definition Bare → List Symbol → List Symbol
spell_body d rest = Fixed sign.OpenBrace ∷ spell_statements d.body (Fixed sign.CloseBrace ∷ rest)

follow_body : (d : Definition Bare) (more : List Symbol) → spell_body d more ≡ spell_body d [] ++ more
follow_body d more = ap (λ rest. Fixed sign.OpenBrace ∷ rest) (follow_statements d.body (Fixed sign.CloseBrace ∷ []) more)

head_count : (d : Definition Bare) → length (spell_head d []) ≡ count_head d + 0
head_count d =
    let both : count_head d ≡ count_specifiers d.specifiers + count_declarator d.declarator = refl in
    omega (arith, both, counts_specifiers d.specifiers (spell_declarator d.declarator []), counts_declarator d.declarator [])

body_count : (d : Definition Bare) → length (spell_body d []) ≡ (1 + count_statements d.body + 1) + 0
body_count d =
    let more : length (spell_body d []) ≡ suc (length (spell_statements d.body (Fixed sign.CloseBrace ∷ []))) = refl in
    omega (arith, more, counts_statements d.body (Fixed sign.CloseBrace ∷ []))

-- the words that stand at a place
stand_there : (front own back : List PlainWord) (at : At) → at.first ≡ length front → at.past ≡ length front + length own → words_at (front ++ (own ++ back)) at ≡ own
stand_there front own back at first past =
    let count : length own ≡ at.past - at.first = omega (arith, first, past) in
    ap (take (at.past - at.first)) (drop_at front (own ++ back) at.first (sym first)) ∙ take_at own back (at.past - at.first) count

module _ (s : Source) (number : ℕ) (before words : List PlainWord) (n : ℕ) (es : List (External Bare)) where
  -- a declaration before others
  module _ (d : Declaration Bare) (p : Bare) (c : IsCut words (spell_declaration d []) (spell_externals es [])) where
    pub declaration_count : length c.own ≡ count_declaration d
    declaration_count = counted c.own (spell_declaration d []) (count_declaration d) c.own_are (counts_declaration d [])

    pub with_declaration : IsParted s (n + count_declaration d) number (before ++ c.own) c.rest es → IsParted s n number before words (Outer p d ∷ es)
    with_declaration more = record {
      root = more.root;
      all = more.all ∙ onto before words c.own c.rest c.whole;
      bodies = more.bodies;
      stand = more.stand;
      runs = more.runs ∙ ap (λ run. run ∷ other_runs es)
          (ap (λ run. run ++ first_run es) (symbols_append before c.own ∙ ap (λ run. symbols_of before ++ run) c.own_are)
          ∙ append_assoc (symbols_of before) (spell_declaration d []) (first_run es)
          ∙ ap (λ run. symbols_of before ++ run) (sym (follow_declaration d [] (first_run es))));
      good = more.good;
      functions = more.functions;
      spelled = more.spelled;
      there = λ front back long.
          ap (λ ws. map (words_at ws) (function_places (locate_externals s (n + count_declaration d) es))) (further front words c.own c.rest back c.whole)
          ∙ more.there (front ++ c.own) back (omega (arith, long, declaration_count, length-append front c.own));
      functions_good = more.functions_good;
    }

  -- a function before others
  module _ (d : Definition Bare) (c : IsCut words (spell_head d []) (spell_body d (spell_externals es []))) (b : IsCut c.rest (spell_body d []) (spell_externals es []))
      (from : number + length before ≡ s.before + n) (small : s.before + (n + length words) ≤ 4294967295) (good : AreGood (before ++ words)) where
    own_count : length c.own ≡ count_head d
    own_count = counted c.own (spell_head d []) (count_head d) c.own_are (head_count d)

    inner_count : length b.own ≡ 1 + count_statements d.body + 1
    inner_count = counted b.own (spell_body d []) (1 + count_statements d.body + 1) b.own_are (body_count d)

    all_count : length words ≡ length c.own + (length b.own + length b.rest)
    all_count = ap length c.whole ∙ length-append c.own c.rest ∙ ap (λ k. length c.own + k) (ap length b.whole ∙ length-append b.own b.rest)

    abbrev body_at : At
    body_at = place_at s (n + count_head d) (1 + count_statements d.body + 1)

    begins : body_at.first ≡ s.before + (n + count_head d)
    begins = place_first s (n + count_head d) (1 + count_statements d.body + 1) (omega (arith, small, own_count, all_count))

    pub over : body_at.past ≡ s.before + (n + count_definition d)
    over =
        let total : count_definition d ≡ count_head d + 1 + count_statements d.body + 1 = refl in
        let past = place_past s (n + count_head d) (1 + count_statements d.body + 1) (omega (arith, small, own_count, inner_count, all_count)) in
        omega (arith, past, total)

    here : AreGood ((before ++ c.own) ++ c.rest)
    here = subst AreGood (sym (onto before words c.own c.rest c.whole)) good

    own_good : AreGood (before ++ c.own)
    own_good = first_good (before ++ c.own) c.rest here

    rest_is : AreGood c.rest
    rest_is = rest_good (before ++ c.own) c.rest here

    pub left_good : AreGood b.rest
    left_good = rest_good b.own b.rest (subst AreGood b.whole rest_is)

    function_good : AreGood (c.own ++ b.own)
    function_good = both_good c.own b.own (rest_good before c.own own_good) (first_good b.own b.rest (subst AreGood b.whole rest_is))

    whole_words : words ≡ (c.own ++ b.own) ++ b.rest
    whole_words = c.whole ∙ ap (λ ws. c.own ++ ws) b.whole ∙ sym (append_assoc c.own b.own b.rest)

    abbrev stretch : Stretch
    stretch = record { before = before ++ c.own; body = b.own; at = body_at }

    function_count : length (c.own ++ b.own) ≡ count_definition d
    function_count =
        let total : count_definition d ≡ count_head d + 1 + count_statements d.body + 1 = refl in
        omega (arith, length-append c.own b.own, own_count, inner_count, total)

    there_with : (more : IsParted s (n + count_definition d) body_at.past [] b.rest es) (front back : List PlainWord) → length front ≡ s.before + n
        → map (words_at (front ++ (words ++ back))) (function_places (locate_externals s n (Defines d ∷ es))) ≡ (c.own ++ b.own) ∷ more.functions
    there_with more front back long =
        let at : At = place_at s n (count_definition d) in
        let first = place_first s n (count_definition d) (omega (arith, small)) in
        let past = place_past s n (count_definition d) (omega (arith, small, own_count, inner_count, all_count, function_count, length-append c.own b.own)) in
        let moved = further front words (c.own ++ b.own) b.rest back whole_words in
        let own : words_at (front ++ (words ++ back)) at ≡ c.own ++ b.own =
        ap (λ ws. words_at ws at) (moved ∙ append_assoc front (c.own ++ b.own) (b.rest ++ back)) ∙ stand_there front (c.own ++ b.own) (b.rest ++ back) at (omega (arith, first, long)) (omega (arith, past, long, function_count)) in
        let others = ap (λ ws. map (words_at ws) (function_places (locate_externals s (n + count_definition d) es))) moved
        ∙ more.there (front ++ (c.own ++ b.own)) back (omega (arith, long, function_count, length-append front (c.own ++ b.own))) in
        λ i. own i ∷ others i

    pub with_function : IsParted s (n + count_definition d) body_at.past [] b.rest es → IsParted s n number before words (Defines d ∷ es)
    with_function more = record {
      root = record { stretches = stretch ∷ more.root.stretches; after = more.root.after };
      all = append_assoc (before ++ c.own) (b.own ++ stretch_words more.root.stretches) more.root.after
          ∙ ap (λ ws. (before ++ c.own) ++ ws) (append_assoc b.own (stretch_words more.root.stretches) more.root.after ∙ ap (λ ws. b.own ++ ws) more.all ∙ sym b.whole)
          ∙ onto before words c.own c.rest c.whole;
      bodies = ap (λ ats. body_at ∷ ats) more.bodies;
      stand = (omega (arith, inner_count), omega (arith, begins, from, own_count, length-append before c.own), omega (arith, over, begins, inner_count, function_count, own_count, length-append c.own b.own), more.stand);
      runs = λ i.
          (bare_symbols (before ++ c.own) (good_sound (before ++ c.own) own_good) ∙ symbols_append before c.own ∙ ap (λ run. symbols_of before ++ run) c.own_are) i
          ∷ more.runs i;
      good = ((good_program (before ++ c.own) own_good, more.good.0), more.good.1);
      functions = (c.own ++ b.own) ∷ more.functions;
      spelled = λ i.
          (symbols_append c.own b.own ∙ (λ j. c.own_are j ++ b.own_are j) ∙ sym (follow_head d [] (spell_body d []))) i
          ∷ more.spelled i;
      there = there_with more;
      functions_good = (function_good, more.functions_good);
    }

-- trees that spell words part them
pub parted : (es : List (External Bare)) (s : Source) (n number : ℕ) (before words : List PlainWord) → symbols_of words ≡ spell_externals es []
    → number + length before ≡ s.before + n → s.before + (n + length words) ≤ 4294967295 → AreGood (before ++ words) → IsParted s n number before words es
parted [] s n number before words spelled from small good = last_words s n number before words good spelled
parted (Outer p d ∷ es) s n number before words spelled from small good =
    let c = cut words (spell_declaration d []) (spell_externals es []) (spelled ∙ follow_declaration d [] (spell_externals es [])) in
    let count = declaration_count s number before words n es d p c in
    with_declaration s number before words n es d p c
    (parted es s (n + count_declaration d) number (before ++ c.own) c.rest c.rest_are
    (omega (arith, from, count, length-append before c.own)) (omega (arith, small, count, ap length c.whole, length-append c.own c.rest))
    (subst AreGood (sym (onto before words c.own c.rest c.whole)) good))
parted (Defines d ∷ es) s n number before words spelled from small good =
    let c = cut words (spell_head d []) (spell_body d (spell_externals es [])) (spelled ∙ follow_head d [] (spell_body d (spell_externals es []))) in
    let b = cut c.rest (spell_body d []) (spell_externals es []) (c.rest_are ∙ follow_body d (spell_externals es [])) in
    let past = over s number before words n es d c b from small good in
    let all = all_count s number before words n es d c b from small good in
    let own = function_count s number before words n es d c b from small good in
    with_function s number before words n es d c b from small good
    (parted es s (n + count_definition d) (place_at s (n + count_head d) (1 + count_statements d.body + 1)).past [] b.rest b.rest_are
    (omega (arith, past)) (omega (arith, small, all, own, length-append c.own b.own))
    (left_good s number before words n es d c b from small good))

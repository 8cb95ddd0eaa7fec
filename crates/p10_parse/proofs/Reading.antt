-- How far a root was read.
use Rattle.std.proofs.Common.{◌≡◌, ℕ, zero, suc, ◌-◌, ◌+◌, ◌*◌, ◌<◌, ◌≤◌, List, [], ◌∷◌, ◌++◌, length, Bool, true, false, slice_get, get_or, option_map, refl, sym, ◌∙◌, ap, subst, arith, Option, Some, None}
use Rattle.std.proofs.lemmas.Bool.{false≢true, true≢false}
use Rattle.std.proofs.lemmas.List.{length-map}
use Rattle.std.proofs.lemmas.Option.{slice_get-map, slice_get-get_or}
use Rattle.p10_base.specs.declared.word.Word.{Word}
use Rattle.p10_base.specs.Words.{PlainWord, plain_word, plain_words}
use Rattle.p10_base.specs.declared.report.Refusal.{Refusal}
use Rattle.p10_base.specs.Codes.{syntax_refusal}
use Rattle.p10_syn.specs.Symbols.{Symbol, symbol_of, symbols_of}
use Rattle.p10_syn.specs.Scopes.{Scope}
use Rattle.p10_syn.specs.Declaring.{after_external}
use Rattle.p10_syn.specs.Spelling.{spell_externals}
use Rattle.p10_syn.specs.StatementForms.{AreExternals}
use Rattle.p10_syn.specs.Trees.{Bare, External}
use Rattle.p10_pexpr.specs.declared.fault.ParseFault.{ParseFault}
use Rattle.p10_pexpr.specs.declared.fault.ParseFault.TheVariants.{Refused, Over, Memory}
use Rattle.p10_pexpr.specs.Fronts.{first, is_none}
use Rattle.p10_pexpr.specs.Heads.{Read}
use Rattle.p10_pexpr.specs.Reading.{readers}
use Rattle.p10_parse.specs.ExternalReading.{builders, external_at}
use Rattle.p10_parse.specs.Roots.{SpellFront, SpellLongest, next_external, or_else, externals_from}
use Rattle.p10_parse.specs.Units.{AreSpelled, AreRefused}
use Rattle.p10_parse.specs.private.Root.{AreRead, IsStuckAt, IsStuck, IsUnread}
use Rattle.p10_parse.proofs.RootTakes.{TookNext, next_takes}
use Rattle.p10_parse.proofs.Roots.{reading_is_longest}

-- these declarations and functions were read from all words, with these names in scope after them and these words left
pub record Reached (symbols : List Symbol) (names : Scope) (done : List (External Bare)) (left : List Symbol) : Type 0 where
  pub steps : ℕ
  pub enough : length left ≤ steps
  pub within : length left ≤ length symbols
  pub same : externals_from (length symbols) [] [] symbols ≡ externals_from steps names done left

-- at the beginning nothing is read
pub reached_first : (symbols left : List Symbol) → left ≡ symbols → Reached symbols [] [] left
reached_first symbols left e = subst (Reached symbols [] []) (sym e) (record { steps = length symbols; enough = omega arith; within = omega arith; same = refl })

step : (n : ℕ) (names : Scope) (done : List (External Bare)) (left : List Symbol) (e : External Bare) (rest : List Symbol) → 0 < n → next_external names left ≡ Some (e, rest) →
    externals_from n names done left ≡ externals_from (n - 1) (after_external names e) (done ++ e ∷ []) rest
unfolding externals_from
step zero names done left e rest some read = absurd (omega (arith, some))
step (suc n) names done left e rest some read =
    let less : n ≡ suc n - 1 = omega arith in
    ap (or_else (λ e. externals_from n (after_external names e.0) (done ++ e.0 ∷ []) e.1) (done, left)) read ∙ ap (λ k. externals_from k (after_external names e) (done ++ e ∷ []) rest) less

stop : (n : ℕ) (names : Scope) (done : List (External Bare)) (left : List Symbol) → next_external names left ≡ None → externals_from n names done left ≡ (done, left)
unfolding externals_from
stop zero names done left none = refl
stop (suc n) names done left none = ap (or_else (λ e. externals_from n (after_external names e.0) (done ++ e.0 ∷ []) e.1) (done, left)) none

pub shorter : (names : Scope) (left : List Symbol) (e : External Bare) (rest : List Symbol) → next_external names left ≡ Some (e, rest) → length rest < length left
shorter names left e rest read = (next_takes names left e rest read).shorter

-- one more
pub reached_next : (symbols : List Symbol) (names now : Scope) (done more : List (External Bare)) (left rest : List Symbol) (e : External Bare) → Reached symbols names done left → next_external names left ≡ Some (e, rest) → now ≡ after_external names e → more ≡ done ++ e ∷ [] →
    Reached symbols now more rest
reached_next symbols names now done more left rest e r read scoped items =
    let less = shorter names left e rest read in
    record {
      steps = r.steps - 1;
      enough = omega (arith, less, r.enough);
      within = omega (arith, less, r.within);
      same =
          r.same ∙ step r.steps names done left e rest (omega (arith, less, r.enough)) read
          ∙ ap (λ a. externals_from (r.steps - 1) a (done ++ e ∷ []) rest) (sym scoped) ∙ ap (λ es. externals_from (r.steps - 1) now es rest) (sym items);
    }

-- where no further one begins, what was read is the longest
longest : (symbols : List Symbol) (names : Scope) (done : List (External Bare)) (left : List Symbol) → Reached symbols names done left → next_external names left ≡ None → SpellLongest [] symbols done left
longest symbols names done left r none =
    let same = r.same ∙ stop r.steps names done left none in
    subst (λ p. SpellLongest [] symbols p.0 p.1) same (reading_is_longest [] symbols)

nothing_next : (names : Scope) (o : Option (External Bare × List Symbol)) → next_external names [] ≡ o → o ≡ None
nothing_next names None e = refl
nothing_next names (Some (e, rest)) read = absurd (omega (arith, shorter names [] e rest read))

-- at the end all is read
pub reached_end : (words : List PlainWord) (names : Scope) (done : List (External Bare)) (left : List Symbol) → Reached (symbols_of words) names done left → left ≡ [] → AreRead words done
reached_end words names done left r e =
    let front = (longest (symbols_of words) names done left r (ap (next_external names) e ∙ nothing_next names (next_external names []) refl)).front in
    record { formed = front.formed; spelled = front.spelled ∙ ap (spell_externals done) e }

-- where no further one begins, the root is refused
pub reached_stuck : (words : List PlainWord) (names : Scope) (done : List (External Bare)) (left : List Symbol) (f : ParseFault) → Reached (symbols_of words) names done left → 0 < length left → IsStuck words names left f → IsUnread words f
reached_stuck words names done left Memory r some stuck = tt
reached_stuck words names done left (Over limit) r some stuck = stuck
reached_stuck words names done left (Refused refusal) r some stuck =
    let most = longest (symbols_of words) names done left r stuck.none in
    record {
      unspelled = λ spelled. omega (arith, some, most.longest spelled.0 [] (record { formed = spelled.1; spelled = spelled.2 }));
      trees = done;
      rest = left;
      longest = most;
      word = stuck.word;
      here = stuck.here;
      placed = stuck.placed;
    }

-- ## In the code

pub some_left : (symbols : List Symbol) → is_none (first symbols) ≡ false → 0 < length symbols
some_left [] e = absurd (true≢false e)
some_left (x ∷ rest) e = omega arith

pub none_left : (symbols : List Symbol) → is_none (first symbols) ≡ true → symbols ≡ []
none_left [] e = refl
none_left (x ∷ rest) e = absurd (false≢true e)

pub few_left : (words : List Word) (names : Scope) (done : List (External Bare)) (left : List Symbol) → Reached (symbols_of (plain_words words)) names done left → length left ≤ length words
few_left words names done left r = omega (arith, r.within, length-map (plain_words words) symbol_of, length-map words plain_word)

word_there : (words : List Word) (k : ℕ) (word : Word) → slice_get words k ≡ Some word → slice_get (plain_words words) k ≡ Some (plain_word word)
word_there words k word e = slice_get-map plain_word words k ∙ ap (option_map plain_word) e

-- as deep as the words that are left ask for
pub read_next : (n : ℕ) (names : Scope) (left : List Symbol) (x : Read (External Bare)) → n ≡ 8 * length left → external_at (readers n) (builders n) names left ≡ x → next_external names left ≡ x
read_next n names left x enough e = ap (λ k. external_at (readers k) (builders k) names left) (sym enough) ∙ e

-- nothing begins at the word after those that were read
pub stuck_here : (words : List Word) (names : Scope) (left : List Symbol) (n k : ℕ) (d : Word) (r : Refusal) → n ≡ 8 * length left → external_at (readers n) (builders n) names left ≡ None → 0 < length left → length left ≤ length words →
    r ≡ syntax_refusal (get_or words k d).at → k ≡ length words - length left → IsStuckAt (plain_words words) names left r
stuck_here words names left n k d r enough none some within placed at =
    let same : k ≡ length (plain_words words) - length left = omega (arith, at, length-map words plain_word) in
    record {
      none = read_next n names left None enough none;
      word = plain_word (get_or words k d);
      here = ap (slice_get (plain_words words)) (sym same) ∙ (word_there words k (get_or words k d) (slice_get-get_or words k d (omega (arith, some, within, at))));
      placed = placed;
    }

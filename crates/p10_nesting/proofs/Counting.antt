-- Rows in numbers are the rows of the definition.
use Rattle.std.proofs.Common.{◌≡◌, ℕ, ◌+◌, ◌<◌, ◌≤◌, Bool, true, false, ◌&&◌, ◌||◌, not, cond, List, [], ◌∷◌, ◌++◌, length, refl, sym, ◌∙◌, ap, subst, arith, length-append, take_all}
use Rattle.std.specs.Prelude.{◌==◌, max, nat_lt, IfOk, Result, Ok, Err, IsTrue, ◌↔◌}
use Rattle.std.specs.declared.alloc.AllocError.{AllocError}
use Rattle.std.specs.List.{list_any}
use Rattle.std.proofs.lemmas.Bool.Decides.{nat_tests}
use Rattle.std.proofs.lemmas.Map.Views.{any-filter_same}
use Rattle.std.proofs.Common.{get_or, take, drop, ◌-◌}
use Rattle.std.proofs.lemmas.Bool.{ltb-true}
use Rattle.p10_base.specs.declared.word.Word.{Word}
use Rattle.p10_base.specs.declared.report.TheConstants.Limit.{MOST_NESTING}
use Rattle.p10_base.specs.Words.{PlainWord, plain_word, plain_words}
use Rattle.p10_nesting.specs.declared.role.Role.{Role}
use Rattle.p10_nesting.specs.declared.role.Role.TheVariants.{Opens, Closes, Finishes, Ends, Separates, Keeps, Quotes}
use Rattle.p10_nesting.specs.Roles.{role_of, is_kept_role, is_question_role, is_string_role, is_opening_role, is_closing_role, go_on}
use Rattle.p10_nesting.specs.Nesting.{Row, Levels, outermost, opened, closed, with_row, added, finished, is_inside, met, met_as, settled, settled_as, words_in, words_in_rows, reduced, has_question}
use Rattle.p10_nesting.specs.private.Counts.{Counts, no_counts, added_counts, inner_counts, reduced_counts, emptied_counts, finished_counts, settled_counts}
use Rattle.p10_nesting.specs.private.Tallies as tallies
use Rattle.p10_nesting.specs.private.Tallies.{Tallies, IsCounted, IsMet, Meets, Adds, Settles, Stands, counts_of, all_counts_of, put, is_over}

-- ## Rows

kept_more : (b : Bool) (word : PlainWord) (row : Row) → length (cond b (word ∷ row) row) ≡ cond b (length row + 1) (length row)
kept_more true word row = omega arith
kept_more false word row = refl

-- a word added
counts-added : (word : PlainWord) (around : List Row) (row : Row) → added_counts (role_of word) (counts_of around row) ≡ counts_of around (word ∷ row)
counts-added word around row =
    let asks = is_question_role (role_of word) || has_question row in
    let kept = cond (is_kept_role (role_of word)) (length (reduced row) + 1) (length (reduced row)) in
    let one_more : length row + 1 ≡ length (word ∷ row) = omega arith in
    ap (λ (n : ℕ). let c : Counts = record { around = words_in_rows around; words = n; kept = kept; asks = asks } in c) one_more
    ∙ ap (λ (n : ℕ). let c : Counts = record { around = words_in_rows around; words = length (word ∷ row); kept = n; asks = asks } in c)
    (sym (kept_more (is_kept_role (role_of word)) word (reduced row)))

fewer_if : (b : Bool) (word : PlainWord) (row kept : Row) → length kept ≤ length row → length (cond b (word ∷ kept) kept) ≤ length (word ∷ row)
fewer_if true word row kept less = omega arith
fewer_if false word row kept less = omega arith

-- no word is added where a row is reduced
reduced_fewer : (row : Row) → length (reduced row) ≤ length row
reduced_fewer [] = omega arith
reduced_fewer (word ∷ row) = fewer_if (is_kept_role (role_of word)) word row (reduced row) (reduced_fewer row)

reduced_if : (b : Bool) (word : PlainWord) (row : Row) → is_kept_role (role_of word) ≡ b → reduced (cond b (word ∷ row) row) ≡ cond b (word ∷ reduced row) (reduced row)
reduced_if true word row is = ap (λ b. cond b (word ∷ reduced row) (reduced row)) is
reduced_if false word row is = refl

-- a reduced row stays as it is
reduced_twice : (row : Row) → reduced (reduced row) ≡ reduced row
reduced_twice [] = refl
reduced_twice (word ∷ row) =
    reduced_if (is_kept_role (role_of word)) word (reduced row) refl
    ∙ ap (λ r. cond (is_kept_role (role_of word)) (word ∷ r) r) (reduced_twice row)

question_goes : (role : Role) → is_question_role role ≡ true → is_kept_role role ≡ false
question_goes Keeps h = cc
question_goes _ h = refl

-- a reduced row has no `?`
reduced_asks : (row : Row) → has_question (reduced row) ≡ false
reduced_asks row = any-filter_same (λ word. is_question_role (role_of word)) (λ word. is_kept_role (role_of word)) false (λ word asks. question_goes (role_of word) asks) row

-- a row reduced
counts-reduced : (around : List Row) (row : Row) → reduced_counts (counts_of around row) ≡ counts_of around (reduced row)
counts-reduced around row =
    ap (λ (r : Row). let c : Counts = record { around = words_in_rows around; words = length (reduced row); kept = length r; asks = false } in c) (sym (reduced_twice row))
    ∙ ap (λ (b : Bool). let c : Counts = record { around = words_in_rows around; words = length (reduced row); kept = length (reduced (reduced row)); asks = b } in c) (sym (reduced_asks row))

-- ## Levels

-- how many words stand in the rows
words_counted : (levels : Levels) (held : Tallies) → IsCounted levels held → held.inner.around + held.inner.words ≡ words_in levels
words_counted levels held is = ap (λ c. c.around + c.words) is.row ∙ omega arith

pub counted_outermost : (new : Tallies) → new.inner ≡ no_counts → new.outer ≡ [] → IsCounted outermost new
counted_outermost new inner outer = record { row = inner; around = outer; few = omega arith }

-- another row, with fewer words
counted_row : (levels : Levels) (old new : Tallies) (row : Row) → IsCounted levels old → length row ≤ length levels.row →
    new.outer ≡ old.outer → new.inner ≡ counts_of levels.around row → IsCounted (with_row row levels) new
counted_row levels old new row is less same inner = record { row = inner; around = same ∙ is.around; few = omega (arith, is.few) }

-- a word added, where there is room for it
pub adds_full : (role : Role) (old new : Tallies) → MOST_NESTING ≤ old.inner.around + old.inner.words → Adds role old new true
adds_full role old new full levels word is counted = full_if (is_opening_role role) word levels (omega (arith, full, words_counted levels old counted))
  where
    full_if : (b : Bool) (word : PlainWord) (levels : Levels) → MOST_NESTING ≤ words_in levels → MOST_NESTING < words_in (cond b (opened (added word levels)) (added word levels))
    full_if true word levels full = omega arith
    full_if false word levels full = omega arith

counts_put : (role : Role) (old : Tallies) (levels : Levels) (word : PlainWord) → role_of word ≡ role → IsCounted levels old → added_counts role old.inner ≡ counts_of levels.around (word ∷ levels.row)
counts_put role old levels word is counted =
    ap (λ r. added_counts r old.inner) (sym is) ∙ ap (added_counts (role_of word)) counted.row ∙ counts-added word levels.around levels.row

pub adds_opening : (role : Role) (old new : Tallies) → is_opening_role role ≡ true → old.inner.around + old.inner.words < MOST_NESTING →
    new.inner ≡ inner_counts (added_counts role old.inner) → new.outer ≡ old.outer ++ added_counts role old.inner ∷ [] → Adds role old new false
adds_opening role old new opens room inner outer levels word is counted =
    let same = counts_put role old levels word is counted in
    let less = words_counted levels old counted in
    subst (λ b. IsCounted (cond b (opened (added word levels)) (added word levels)) new) (sym opens)
    (record {
      row = inner ∙ ap inner_counts same ∙ ap (λ (n : ℕ). let c : Counts = record { around = n; words = 0; kept = 0; asks = false } in c) (omega arith);
      around = outer ∙ ap (λ c. old.outer ++ c ∷ []) same ∙ ap (λ cs. cs ++ counts_of levels.around (word ∷ levels.row) ∷ []) counted.around;
      few = omega (arith, less, room);
    })

pub adds_other : (role : Role) (old new : Tallies) → is_opening_role role ≡ false → old.inner.around + old.inner.words < MOST_NESTING →
    new.inner ≡ added_counts role old.inner → new.outer ≡ old.outer → Adds role old new false
adds_other role old new opens room inner outer levels word is counted =
    let less = words_counted levels old counted in
    subst (λ b. IsCounted (cond b (opened (added word levels)) (added word levels)) new) (sym opens)
    (record { row = inner ∙ counts_put role old levels word is counted; around = outer ∙ counted.around; few = omega (arith, less, room) })

-- ## One word

met_adds : (role : Role) (after_string : Bool) (word : PlainWord) (levels : Levels) → is_closing_role role ≡ false → is_string_role role && after_string ≡ false →
    met_as role after_string word levels ≡ put role word levels
met_adds Closes after_string word levels closes joined = absurd (let h : true ≡ false = closes in cc)
met_adds Finishes after_string word levels closes joined = absurd (let h : true ≡ false = closes in cc)
met_adds Quotes true word levels closes joined = absurd (let h : true ≡ false = joined in cc)
met_adds Quotes false word levels closes joined = refl
met_adds Opens after_string word levels closes joined = refl
met_adds _ after_string word levels closes joined = refl

met_closes : (role : Role) (after_string : Bool) (word : PlainWord) (levels : Levels) → is_closing_role role ≡ true → met_as role after_string word levels ≡ closed levels
met_closes Closes after_string word levels closes = refl
met_closes Finishes after_string word levels closes = refl
met_closes _ after_string word levels closes = absurd (let h : false ≡ true = closes in cc)

met_joined : (role : Role) (after_string : Bool) (word : PlainWord) (levels : Levels) → is_string_role role && after_string ≡ true → met_as role after_string word levels ≡ levels
met_joined Quotes true word levels joined = refl
met_joined Quotes false word levels joined = absurd (let h : false ≡ true = joined in cc)
met_joined _ after_string word levels joined = absurd (let h : false ≡ true = joined in cc)

pub meets_closing : (role : Role) (after_string : Bool) (old new : Tallies) → is_closing_role role ≡ true → tallies.Closes old new → Meets role after_string old new false
meets_closing role after_string old new closes is_closed levels word is counted =
    subst (λ l. IsCounted l new) (sym (ap (λ r. met_as r after_string word levels) is ∙ met_closes role after_string word levels closes)) (is_closed levels counted)

pub meets_string : (role : Role) (after_string : Bool) (old : Tallies) → is_string_role role && after_string ≡ true → Meets role after_string old old false
meets_string role after_string old joined levels word is counted =
    subst (λ l. IsCounted l old) (sym (ap (λ r. met_as r after_string word levels) is ∙ met_joined role after_string word levels joined)) counted

pub meets_other : (role : Role) (after_string : Bool) (old new : Tallies) (over : Bool) → is_closing_role role ≡ false → is_string_role role && after_string ≡ false →
    Adds role old new over → Meets role after_string old new over
meets_other role after_string old new over closes joined adds levels word is counted =
    subst (λ l. IsMet l new over) (sym (ap (λ r. met_as r after_string word levels) is ∙ met_adds role after_string word levels closes joined)) (adds levels word is counted)

pub and_false : (b : Bool) → b && false ≡ false
and_false true = refl
and_false false = refl

pub meets_added : (role : Role) (after_string : Bool) (old new : Tallies) (answer : Result Bool AllocError) → is_closing_role role ≡ false → is_string_role role && after_string ≡ false →
    IfOk answer (Adds role old new) → IfOk answer (Meets role after_string old new)
meets_added role after_string old new (Ok over) closes joined adds = meets_other role after_string old new over closes joined adds
meets_added role after_string old new (Err e) closes joined adds = tt

-- ## Ends of statements

no_words : (row : Row) → 0 ≤ length row
no_words row = omega arith

finished_counted : (goes_on : Bool) (levels : Levels) (old new : Tallies) → IsCounted levels old → new.outer ≡ old.outer → new.inner ≡ finished_counts goes_on old.inner →
    IsCounted (finished goes_on levels) new
finished_counted true levels old new is outer inner =
    counted_row levels old new (reduced levels.row) is (reduced_fewer levels.row) outer (inner ∙ ap reduced_counts is.row ∙ counts-reduced levels.around levels.row)
finished_counted false levels old new is outer inner =
    counted_row levels old new [] is (no_words levels.row) outer (inner ∙ ap emptied_counts is.row)

inside_if : (inside : Bool) (goes_on : Bool) (levels : Levels) (old new : Tallies) → IsCounted levels old → new.outer ≡ old.outer →
    new.inner ≡ cond inside (finished_counts goes_on old.inner) old.inner → IsCounted (cond inside (finished goes_on levels) levels) new
inside_if true goes_on levels old new is outer inner = finished_counted goes_on levels old new is outer inner
inside_if false goes_on levels old new is outer inner = record { row = inner ∙ is.row; around = outer ∙ is.around; few = is.few }

asks_if : (asks : Bool) (levels : Levels) (old new : Tallies) → IsCounted levels old → new.outer ≡ old.outer →
    new.inner ≡ cond asks old.inner (reduced_counts old.inner) → IsCounted (cond asks levels (with_row (reduced levels.row) levels)) new
asks_if true levels old new is outer inner = record { row = inner ∙ is.row; around = outer ∙ is.around; few = is.few }
asks_if false levels old new is outer inner = finished_counted true levels old new is outer inner

settles_as : (role : Role) (goes_on : Bool) (before levels : Levels) (old new : Tallies) → IsCounted levels old → new.outer ≡ old.outer →
    new.inner ≡ settled_counts role (is_inside before) goes_on old.inner → IsCounted (settled_as role goes_on before levels) new
settles_as Ends goes_on before levels old new is outer inner = finished_counted goes_on levels old new is outer inner
settles_as Finishes goes_on before levels old new is outer inner = inside_if (is_inside before) goes_on levels old new is outer inner
settles_as Separates goes_on before levels old new is outer inner =
    asks_if (has_question levels.row) levels old new is outer (inner ∙ ap (λ c. cond c.asks old.inner (reduced_counts old.inner)) is.row)
settles_as _ goes_on before levels old new is outer inner = record { row = inner ∙ is.row; around = outer ∙ is.around; few = is.few }

pub settles : (role : Role) (inside goes_on : Bool) (old new : Tallies) → new.outer ≡ old.outer → new.inner ≡ settled_counts role inside goes_on old.inner → Settles role inside goes_on old new
settles role inside goes_on old new outer inner before levels word is within counted =
    subst (λ r. IsCounted (settled_as r goes_on before levels) new) (sym is)
    (settles_as role goes_on before levels old new counted outer (inner ∙ ap (λ b. settled_counts role b goes_on old.inner) (sym within)))

no_rows : (n : ℕ) → (n + 1 == 0) ≡ false
no_rows n = grind (arith, nat_tests)

inside_by : (around : List Row) (outer : List Counts) (empty : Bool) → outer ≡ all_counts_of around → empty ≡ (length outer == 0) → not empty ≡ list_any (λ row. true) around
inside_by [] outer empty same is = ap not (is ∙ ap (λ o. length o == 0) same)
inside_by (row ∷ around) outer empty same is =
    ap not (is ∙ ap (λ n. n == 0) (ap length same ∙ length-append (all_counts_of around) (counts_of around row ∷ [])) ∙ no_rows (length (all_counts_of around)))

-- a level is open within the outermost where there are rows around
pub inside_is : (levels : Levels) (held : Tallies) (empty : Bool) → IsCounted levels held → empty ≡ (length held.outer == 0) → not empty ≡ is_inside levels
inside_is levels held empty counted is = inside_by levels.around held.outer empty counted.around is

-- ## All words

max_over : (most n m : ℕ) → most < n → nat_lt most (max n m) ≡ true
max_over most n m less = grind (arith, nat_tests)

max_same : (most n m : ℕ) → n ≤ most → nat_lt most (max n m) ≡ nat_lt most m
max_same most n m less = grind (arith, nat_tests)

take_whole : (n : ℕ) (words : List Word) → n ≡ length words → take n words ≡ words
take_whole n words is = ap (λ k. take k words) is ∙ take_all (length words) words (omega arith)

-- the first word and those after it
pub first_and_rest : (d : Word) (words : List Word) → 1 ≤ length words → words ≡ get_or words 0 d ∷ take (length words - 1) (drop 1 words)
first_and_rest d [] some = absurd (omega (arith, some))
first_and_rest d (word ∷ words) some = ap (λ rest. word ∷ rest) (sym (take_whole (length (word ∷ words) - 1) words (omega arith)))

pub told : (n : ℕ) (over : Bool) → nat_lt MOST_NESTING n ≡ over → IsTrue over ↔ (MOST_NESTING < n)
told n true is = ((λ h. ltb-true _ _ is), (λ less. refl))
told n false is = ((λ h. absurd (let e : false ≡ true = h in cc)), (λ less. let h : false ≡ true = sym is ∙ grind (arith, nat_tests) in absurd cc))

is_over_first : (levels : Levels) (after_string : Bool) (words rest : List PlainWord) (word : PlainWord) → words ≡ word ∷ rest → MOST_NESTING < words_in (met after_string word levels) →
    is_over levels after_string words ≡ true
is_over_first levels after_string words rest word parts over = ap (is_over levels after_string) parts ∙ max_over MOST_NESTING _ _ over

-- too many words stand in the rows after the first word
pub over_now : (d : Word) (words : List Word) (role : Role) (after_string over answer : Bool) (held new : Tallies) → 1 ≤ length words → role ≡ role_of (plain_word (get_or words 0 d)) →
    Stands held after_string (plain_words words) answer → Meets role after_string held new over → over ≡ true → answer ≡ true
over_now d words role after_string over answer held new some is stands meets many =
    let first = plain_word (get_or words 0 d) in
    let found = subst (λ b. IsMet (met after_string first stands.levels) new b) many (meets stands.levels first (sym is) stands.counted) in
    sym stands.same ∙ is_over_first stands.levels after_string (plain_words words) (plain_words (take (length words - 1) (drop 1 words))) first (ap plain_words (first_and_rest d words some)) found

-- not too many, and the rest of the words follow
pub stands_next : (d : Word) (words rest : List Word) (role : Role) (after_string over inside goes_on string answer : Bool) (held between new : Tallies) →
    words ≡ get_or words 0 d ∷ rest → role ≡ role_of (plain_word (get_or words 0 d)) →
    Stands held after_string (plain_words words) answer → Meets role after_string held between over → over ≡ false →
    ((levels : Levels) → IsCounted levels held → inside ≡ is_inside levels) → goes_on ≡ go_on (plain_words rest) → Settles role inside goes_on between new →
    string ≡ is_string_role role → Stands new string (plain_words rest) answer
stands_next d words rest role after_string over inside goes_on string answer held between new parts is stands meets few within goes ends quotes =
    let first = plain_word (get_or words 0 d) in
    let levels = stands.levels in
    let after = met after_string first levels in
    let counted = subst (λ b. IsMet after between b) few (meets levels first (sym is) stands.counted) in
    let next = settled first goes_on levels after in
    let string_is : string ≡ is_string_role (role_of first) = quotes ∙ ap is_string_role is in
    record {
      levels = next;
      counted = ends levels after first (sym is) (sym (within levels stands.counted)) counted;
      same =
          ap (λ s. is_over next s (plain_words rest)) string_is
          ∙ ap (λ g. is_over (settled first g levels after) (is_string_role (role_of first)) (plain_words rest)) goes
          ∙ sym (max_same MOST_NESTING _ _ counted.few)
          ∙ ap (λ w. is_over levels after_string (plain_words w)) (sym parts)
          ∙ stands.same;
    }

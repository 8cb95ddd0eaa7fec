-- Where pending words leave parentheses.
use Rattle.std.proofs.Common.{◌≡◌, ℕ, zero, suc, ◌+◌, ◌-◌, ◌<◌, ◌≤◌, ◌==◌, nat_le, List, [], ◌∷◌, ◌++◌, length, get_or, take, ◌⊎◌, inl, inr, Bool, true, false, ◌&&◌, ◌||◌, cond, bytes_eq, refl, sym, subst, ap, ◌∙◌, arith, length-append}
use Rattle.std.specs.Prelude.{reverse, codes}
use Rattle.std.proofs.lemmas.List.{reverse-append, reverse-reverse, length-reverse, get_or_append_left, take_all}
use Rattle.std.proofs.Math.Seq.{get_or-append_seam, take-append_seam, take-suc}
use Rattle.std.proofs.lemmas.Bool.Decides.{nat_tests}
use Rattle.std.proofs.lemmas.Slice.Eq.{bytes_eq-Decides}
use Rattle.p10_base.specs.Words.{Text, PlainWord, is_punctuator_kind}
use Rattle.p10_macros.specs.declared.pending.Pending.{Pending}
use Rattle.p10_macros.specs.declared.pending.Exits.{Exits}
use Rattle.p10_macros.specs.Uses.{opens, closes, separates, depth_after}
use Rattle.p10_macros.specs.private.Links.{word_of, argument_end, call_end, HasExits, IsLinked, exits_past, after_place, nowhere}

-- ## Words that part arguments

one_text : (kind : Bool) (text this that : Text) → (kind && bytes_eq text this) ≡ true → bytes_eq this that ≡ false → (kind && bytes_eq text that) ≡ false
one_text false text this that e other = refl
one_text true text this that e other = subst (λ (t : Text). bytes_eq t that ≡ false) (sym ((bytes_eq-Decides text this).0 e)) other

pub closes_only : (word : PlainWord) → closes word ≡ true → opens word ≡ false
closes_only word e = one_text (is_punctuator_kind word.kind) word.text (codes ")") (codes "(") e refl

pub separates_only : (word : PlainWord) → separates word ≡ true → opens word ≡ false
separates_only word e = one_text (is_punctuator_kind word.kind) word.text (codes ",") (codes "(") e refl

pub opens_only : (word : PlainWord) → opens word ≡ true → closes word ≡ false
opens_only word e = one_text (is_punctuator_kind word.kind) word.text (codes "(") (codes ")") e refl

pub opens_no_comma : (word : PlainWord) → opens word ≡ true → separates word ≡ false
opens_no_comma word e = one_text (is_punctuator_kind word.kind) word.text (codes "(") (codes ",") e refl

pub separates_no_end : (word : PlainWord) → separates word ≡ true → closes word ≡ false
separates_no_end word e = one_text (is_punctuator_kind word.kind) word.text (codes ",") (codes ")") e refl

-- ## Places

pub is_same : (n : ℕ) → (n == n) ≡ true
is_same n = grind (arith, nat_tests)

pub not_above : (place count : ℕ) → place ≤ count → (place == count + 1) ≡ false
not_above place count less = grind (arith, nat_tests)

at_most : (b : Bool) (this that count : ℕ) → this ≤ count → that ≤ count → cond b this that ≤ count
at_most true this that count less less' = less
at_most false this that count less less' = less'

pub call_at_most : (depth : ℕ) (items : List Pending) → call_end depth items ≤ length items
call_at_most depth [] = omega arith
call_at_most depth (pending ∷ items) =
    let behind : call_end (depth_after depth (word_of pending)) items ≤ length items = call_at_most (depth_after depth (word_of pending)) items in
    at_most (closes (word_of pending) && (depth == 0)) (length items + 1) (call_end (depth_after depth (word_of pending)) items) (length (pending ∷ items)) (omega arith) (omega (arith, behind))

pub argument_at_most : (depth : ℕ) (items : List Pending) → argument_end depth items ≤ length items
argument_at_most depth [] = omega arith
argument_at_most depth (pending ∷ items) =
    let behind : argument_end (depth_after depth (word_of pending)) items ≤ length items = argument_at_most (depth_after depth (word_of pending)) items in
    at_most ((closes (word_of pending) || separates (word_of pending)) && (depth == 0)) (length items + 1) (argument_end (depth_after depth (word_of pending)) items) (length (pending ∷ items)) (omega arith) (omega (arith, behind))

-- ## Parentheses inside others

behind_front : (pending : Pending) (items : List Pending) → after_place (pending ∷ items) (length items + 1) ≡ items
behind_front pending items = rw (is_same (length items + 1)) refl

behind_further : (pending : Pending) (items : List Pending) (place : ℕ) → place ≤ length items → after_place (pending ∷ items) place ≡ after_place items place
behind_further pending items place less = rw (not_above place (length items) less) refl

not_zero : (n : ℕ) → (suc n == 0) ≡ false
not_zero n = grind (arith, nat_tests)

-- how many parentheses are open after a word
deeper : (word : PlainWord) (depth : ℕ) → opens word ≡ true → depth_after depth word ≡ depth + 1
deeper word depth opened = rw opened refl

less_deep : (word : PlainWord) (depth : ℕ) → closes word ≡ true → depth_after depth word ≡ depth - 1
less_deep word depth closed = rw (closes_only word closed, closed) refl

pub as_deep : (word : PlainWord) (depth : ℕ) → opens word ≡ false → closes word ≡ false → depth_after depth word ≡ depth
as_deep word depth opened closed = rw (opened, closed) refl

call_here : (pending : Pending) (items : List Pending) → closes (word_of pending) ≡ true → call_end 0 (pending ∷ items) ≡ length items + 1
call_here pending items closed = rw closed refl

call_behind : (pending : Pending) (items : List Pending) (depth : ℕ) → (closes (word_of pending) && (depth == 0)) ≡ false → call_end depth (pending ∷ items) ≡ call_end (depth_after depth (word_of pending)) items
call_behind pending items depth further = rw further refl

and_left : (a b : Bool) → a ≡ false → (a && b) ≡ false
and_left true b e = cc
and_left false b e = refl

and_right : (a b : Bool) → b ≡ false → (a && b) ≡ false
and_right true b e = e
and_right false b e = refl

module _ (End : ℕ → List Pending → ℕ) (pending : Pending) (items : List Pending)
    (again : (depth more : ℕ) → End (suc (depth + more)) items ≡ End more (after_place items (call_end depth items)))
    (inside : (depth : ℕ) → End (suc depth) (pending ∷ items) ≡ End (depth_after (suc depth) (word_of pending)) items) where
  -- the place is that of a word after the first one
  past_by : (depth more inner : ℕ) → depth_after (suc (depth + more)) (word_of pending) ≡ suc (inner + more) → call_end depth (pending ∷ items) ≡ call_end inner items →
      End (suc (depth + more)) (pending ∷ items) ≡ End more (after_place (pending ∷ items) (call_end depth (pending ∷ items)))
  past_by depth more inner deep place =
      inside (depth + more) ∙ ap (λ (n : ℕ). End n items) deep ∙ again inner more
      ∙ ap (λ (l : List Pending). End more l) (sym (behind_further pending items (call_end inner items) (call_at_most inner items)))
      ∙ ap (λ (n : ℕ). End more (after_place (pending ∷ items) n)) (sym place)

  past_opening : (depth more : ℕ) → opens (word_of pending) ≡ true → End (suc (depth + more)) (pending ∷ items) ≡ End more (after_place (pending ∷ items) (call_end depth (pending ∷ items)))
  past_opening depth more opened =
      let word = (word_of pending) in
      past_by depth more (depth + 1) (deeper word (suc (depth + more)) opened ∙ (let e : suc (depth + more) + 1 ≡ suc ((depth + 1) + more) = omega arith in e))
      (call_behind pending items depth (and_left (closes word) (depth == 0) (opens_only word opened)) ∙ ap (λ (n : ℕ). call_end n items) (deeper word depth opened))

  past_closing : (depth more : ℕ) → closes (word_of pending) ≡ true → End (suc (depth + more)) (pending ∷ items) ≡ End more (after_place (pending ∷ items) (call_end depth (pending ∷ items)))
  past_closing zero more closed =
      let out : depth_after (suc (0 + more)) (word_of pending) ≡ more = less_deep (word_of pending) (suc (0 + more)) closed ∙ omega arith in
      inside (0 + more) ∙ ap (λ (n : ℕ). End n items) out ∙ ap (λ (l : List Pending). End more l) (sym (behind_front pending items))
      ∙ ap (λ (n : ℕ). End more (after_place (pending ∷ items) n)) (sym (call_here pending items closed))
  past_closing (suc depth) more closed =
      let word = (word_of pending) in
      past_by (suc depth) more depth (less_deep word (suc (suc depth + more)) closed ∙ (let e : suc (suc depth + more) - 1 ≡ suc (depth + more) = omega arith in e))
      (call_behind pending items (suc depth) (and_right (closes word) (suc depth == 0) (not_zero depth)) ∙ ap (λ (n : ℕ). call_end n items) (less_deep word (suc depth) closed ∙ (let e : suc depth - 1 ≡ depth = omega arith in e)))

  past_other : (depth more : ℕ) → opens (word_of pending) ≡ false → closes (word_of pending) ≡ false → End (suc (depth + more)) (pending ∷ items) ≡ End more (after_place (pending ∷ items) (call_end depth (pending ∷ items)))
  past_other depth more opened closed =
      let word = (word_of pending) in
      past_by depth more depth (as_deep word (suc (depth + more)) opened closed)
      (call_behind pending items depth (and_left (closes word) (depth == 0) closed) ∙ ap (λ (n : ℕ). call_end n items) (as_deep word depth opened closed))

  past_word : (depth more : ℕ) → End (suc (depth + more)) (pending ∷ items) ≡ End more (after_place (pending ∷ items) (call_end depth (pending ∷ items)))
  past_word depth more = by (opens (word_of pending)) (closes (word_of pending)) refl refl
    where
      by : (o c : Bool) → opens (word_of pending) ≡ o → closes (word_of pending) ≡ c → End (suc (depth + more)) (pending ∷ items) ≡ End more (after_place (pending ∷ items) (call_end depth (pending ∷ items)))
      by true c opened closed = past_opening depth more opened
      by false true opened closed = past_closing depth more closed
      by false false opened closed = past_other depth more opened closed

no_end : (b : Bool) (this that depth : ℕ) → cond (b && (suc depth == 0)) this that ≡ that
no_end b this that depth = ap (λ (c : Bool). cond c this that) (and_right b (suc depth == 0) (not_zero depth))

-- from inside parentheses words leave where the words after the `)` of these do
pub argument_past : (items : List Pending) (depth more : ℕ) → argument_end (suc (depth + more)) items ≡ argument_end more (after_place items (call_end depth items))
argument_past [] depth more = refl
argument_past (pending ∷ items) depth more =
    past_word argument_end pending items (λ d m. argument_past items d m)
    (λ d. no_end (closes (word_of pending) || separates (word_of pending)) (length items + 1) (argument_end (depth_after (suc d) (word_of pending)) items) d) depth more

pub call_past : (items : List Pending) (depth more : ℕ) → call_end (suc (depth + more)) items ≡ call_end more (after_place items (call_end depth items))
call_past [] depth more = refl
call_past (pending ∷ items) depth more =
    past_word call_end pending items (λ d m. call_past items d m)
    (λ d. no_end (closes (word_of pending)) (length items + 1) (call_end (depth_after (suc d) (word_of pending)) items) d) depth more

-- ## What a word before others knows

module _ (pending : Pending) (items : List Pending) (exits : HasExits pending.exits items) where
  exits_separating : (count : ℕ) → count ≡ length items + 1 → separates (word_of pending) ≡ true → HasExits (record { argument = count; call = pending.exits.call }) (pending ∷ items)
  exits_separating count is separated =
      let closed = separates_no_end (word_of pending) separated in
      let opened = separates_only (word_of pending) separated in
      record { argument = is ∙ rw (closed, separated) refl; call = exits.call ∙ rw (closed, opened) refl }

  exits_opening : IsLinked items → opens (word_of pending) ≡ true → HasExits (exits_past items pending.exits.call) (pending ∷ items)
  exits_opening linked opened =
      let word = (word_of pending) in
      let closed = opens_only word opened in
      let split = opens_no_comma word opened in
      let past = linked pending.exits.call in
      record {
        argument = past.argument ∙ ap (λ (n : ℕ). argument_end 0 (after_place items n)) exits.call ∙ sym (argument_past items 0 0) ∙ rw (closed, split, opened) refl;
        call = past.call ∙ ap (λ (n : ℕ). call_end 0 (after_place items n)) exits.call ∙ sym (call_past items 0 0) ∙ rw (closed, opened) refl;
      }

  exits_other : opens (word_of pending) ≡ false → closes (word_of pending) ≡ false → separates (word_of pending) ≡ false → HasExits pending.exits (pending ∷ items)
  exits_other opened closed split = record { argument = exits.argument ∙ rw (closed, split, opened) refl; call = exits.call ∙ rw (closed, opened) refl }

-- ## Words before others

pub linked_none : IsLinked []
linked_none place = record { argument = refl; call = refl }

pub linked_more : (pending : Pending) (items : List Pending) → HasExits pending.exits items → IsLinked items → IsLinked (pending ∷ items)
linked_more pending items exits linked place = by (place == length items + 1)
  where
    by : (b : Bool) → HasExits (cond b pending.exits (exits_past items place)) (cond b items (after_place items place))
    by true = exits
    by false = linked place

pub linked_head : (pending : Pending) (items : List Pending) → IsLinked (pending ∷ items) → HasExits pending.exits items
linked_head pending items linked =
    subst (λ (b : Bool). HasExits (cond b pending.exits (exits_past items (length items + 1))) (cond b items (after_place items (length items + 1)))) (is_same (length items + 1)) (linked (length items + 1))

above_all : (place count : ℕ) → count < place → (items : List Pending) → length items ≤ count → HasExits (exits_past items place) (after_place items place)
above_all place count more [] less = record { argument = refl; call = refl }
above_all place count more (pending ∷ items) less =
    let other : (place == length items + 1) ≡ false = grind (arith, nat_tests) in
    subst (λ (b : Bool). HasExits (cond b pending.exits (exits_past items place)) (cond b items (after_place items place))) (sym other) (above_all place count more items (omega arith))

less_by : (place count : ℕ) → nat_le place count ≡ true → place ≤ count
less_by place count e = grind (arith, nat_tests)

more_by : (place count : ℕ) → nat_le place count ≡ false → count < place
more_by place count e = grind (arith, nat_tests)

pub linked_tail : (pending : Pending) (items : List Pending) → IsLinked (pending ∷ items) → IsLinked items
linked_tail pending items linked place = by (nat_le place (length items)) refl
  where
    by : (b : Bool) → nat_le place (length items) ≡ b → HasExits (exits_past items place) (after_place items place)
    by true e =
        subst (λ (b : Bool). HasExits (cond b pending.exits (exits_past items place)) (cond b items (after_place items place))) (not_above place (length items) (less_by place (length items) e)) (linked place)
    by false e = above_all place (length items) (more_by place (length items) e) items (omega arith)

-- ## The first word is taken

-- the words below the last one
pub below_last : (all below : List Pending) (last : Pending) (rest : List Pending) → below ≡ take (length all - 1) all → reverse all ≡ last ∷ rest → reverse below ≡ rest
below_last all below last rest is turned =
    let whole : all ≡ reverse rest ++ last ∷ [] = sym (reverse-reverse all) ∙ ap (λ (l : List Pending). reverse l) turned ∙ reverse-append (last ∷ []) rest in
    let size : length all - 1 ≡ length (reverse rest) = omega (arith, ap length whole, length-append (reverse rest) (last ∷ [])) in
    ap (λ (l : List Pending). reverse l) (is ∙ ap (λ (n : ℕ). take n all) size ∙ ap (λ (l : List Pending). take (length (reverse rest)) l) whole ∙ take-append_seam (reverse rest) (last ∷ [])) ∙ reverse-reverse rest

nothing_below : (all below : List Pending) → below ≡ take (length all - 1) all → reverse all ≡ [] → reverse below ≡ []
nothing_below all below is none =
    let empty : all ≡ [] = sym (reverse-reverse all) ∙ ap (λ (l : List Pending). reverse l) none in
    ap (λ (l : List Pending). reverse l) (is ∙ ap (λ (l : List Pending). take (length l - 1) l) empty)

pub linked_taken : (all below : List Pending) → below ≡ take (length all - 1) all → IsLinked (reverse all) → IsLinked (reverse below)
linked_taken all below is linked = by (reverse all) refl linked
  where
    by : (items : List Pending) → reverse all ≡ items → IsLinked items → IsLinked (reverse below)
    by [] e linked' = subst IsLinked (sym (nothing_below all below is e)) linked_none
    by (last ∷ rest) e linked' = subst IsLinked (sym (below_last all below last rest is e)) (linked_tail last rest linked')

-- where the words after the one that is taken leave parentheses
pub exits_taken : (front : List Pending) (last : Pending) (all : List Pending) → all ≡ front ++ last ∷ [] → IsLinked (reverse all) → HasExits last.exits (reverse front)
exits_taken front last all is linked =
    linked_head last (reverse front) (subst IsLinked (ap (λ (l : List Pending). reverse l) is ∙ reverse-append front (last ∷ [])) linked)

pub linked_put : (front : List Pending) (last : Pending) (all : List Pending) → all ≡ front ++ last ∷ [] → HasExits last.exits (reverse front) → IsLinked (reverse front) → IsLinked (reverse all)
linked_put front last all is exits linked =
    subst IsLinked (sym (ap (λ (l : List Pending). reverse l) is ∙ reverse-append front (last ∷ []))) (linked_more last (reverse front) exits linked)

-- ## Words by their places

last_of : (front : List Pending) (last none : Pending) (place : ℕ) → place ≡ length front → get_or (front ++ last ∷ []) place none ≡ last
last_of front last none place is = ap (λ (n : ℕ). get_or (front ++ last ∷ []) n none) is ∙ get_or-append_seam front last [] none

module _ (pending : Pending) (items : List Pending) (place : ℕ) (none : Pending) (more : 0 < place) (less : place ≤ length (pending ∷ items))
    (again : place ≤ length items → (get_or (reverse items) (place - 1) none).exits ≡ exits_past items place) where
  turned : reverse (pending ∷ items) ≡ reverse items ++ pending ∷ []
  turned = reverse-append (pending ∷ []) items

  past_in_by : (b : Bool) → nat_le place (length items) ≡ b → (get_or (reverse (pending ∷ items)) (place - 1) none).exits ≡ exits_past (pending ∷ items) place
  past_in_by true e =
      let low : place ≤ length items = less_by place (length items) e in
      ap (λ (l : List Pending). (get_or l (place - 1) none).exits) turned
      ∙ ap (λ (p : Pending). p.exits) (get_or_append_left (reverse items) (pending ∷ []) none (place - 1) (omega (arith, length-reverse items)))
      ∙ again low ∙ ap (λ (b : Bool). cond b pending.exits (exits_past items place)) (sym (not_above place (length items) low))
  past_in_by false e =
      let high : place ≡ length items + 1 = omega (arith, more_by place (length items) e, less) in
      ap (λ (l : List Pending). (get_or l (place - 1) none).exits) turned
      ∙ ap (λ (p : Pending). p.exits) (last_of (reverse items) pending none (place - 1) (omega (arith, length-reverse items)))
      ∙ ap (λ (b : Bool). cond b pending.exits (exits_past items place)) (sym (is_same (length items + 1))) ∙ ap (λ (n : ℕ). cond (n == length items + 1) pending.exits (exits_past items place)) (sym high)

past_in : (items : List Pending) (place : ℕ) (none : Pending) → 0 < place → place ≤ length items → (get_or (reverse items) (place - 1) none).exits ≡ exits_past items place
past_in [] place none more less = absurd (omega arith)
past_in (pending ∷ items) place none more less = past_in_by pending items place none more less (λ low. past_in items place none more low) (nat_le place (length items)) refl

-- what the word at a place knows
pub past_at : (all : List Pending) (place : ℕ) (none : Pending) → 0 < place → place ≤ length all → (get_or all (place - 1) none).exits ≡ exits_past (reverse all) place
past_at all place none more less =
    ap (λ (l : List Pending). (get_or l (place - 1) none).exits) (sym (reverse-reverse all)) ∙ past_in (reverse all) place none more (omega (arith, length-reverse all))

none_past : (items : List Pending) (place : ℕ) → length items < place → exits_past items place ≡ nowhere
none_past [] place less = refl
none_past (pending ∷ items) place less =
    let other : (place == length items + 1) ≡ false = grind (arith, nat_tests) in
    rw other (none_past items place (omega arith))

none_first : (items : List Pending) (place : ℕ) → place ≡ 0 → exits_past items place ≡ nowhere
none_first [] place is = refl
none_first (pending ∷ items) place is =
    let other : (place == length items + 1) ≡ false = grind (arith, nat_tests) in
    rw other (none_first items place is)

-- without a word at a place nothing is known
pub none_at : (all : List Pending) (place : ℕ) → (place ≡ 0) ⊎ (length all < place) → exits_past (reverse all) place ≡ nowhere
none_at all place (inl is) = none_first (reverse all) place is
none_at all place (inr less) = none_past (reverse all) place (omega (arith, length-reverse all))

-- ## The first word

module _ (all items : List Pending) (none : Pending) (same : all ≡ items) (some : 1 ≤ length all) (linked : IsLinked (reverse items)) where
  abbrev last : Pending
  last = get_or all (length all - 1) none

  abbrev others : List Pending
  others = reverse (take (length all - 1) all)

  in_front : reverse all ≡ last ∷ others
  in_front =
      let next : suc (length all - 1) ≡ length all = omega arith in
      let whole : all ≡ take (length all - 1) all ++ last ∷ [] = sym (take_all (length all) all (omega arith)) ∙ ap (λ (n : ℕ). take n all) (sym next) ∙ take-suc all (length all - 1) none (omega arith) in
      ap (λ (l : List Pending). reverse l) whole ∙ reverse-append (take (length all - 1) all) (last ∷ [])

  in_turn : IsLinked (last ∷ others)
  in_turn = subst IsLinked in_front (subst (λ (l : List Pending). IsLinked (reverse l)) (sym same) linked)

  known : HasExits last.exits others
  known = linked_head last others in_turn

  all_but_one : length others + 1 ≡ length all
  all_but_one = omega (arith, sym (length-reverse all), ap length in_front)

  back : (exits : Exits) → HasExits exits (last ∷ others) → HasExits exits (reverse items)
  back exits has = subst (λ (l : List Pending). HasExits exits (reverse l)) same (subst (λ (l : List Pending). HasExits exits l) (sym in_front) has)

  counted : (count : ℕ) → count ≡ length items → count ≡ length others + 1
  counted count is = is ∙ ap (λ (l : List Pending). length l) (sym same) ∙ sym all_but_one

  pub last_separating : (argument : ℕ) → argument ≡ length items → separates (word_of last) ≡ true → HasExits (record { argument = argument; call = last.exits.call }) (reverse items)
  last_separating argument is split = back (record { argument = argument; call = last.exits.call }) (exits_separating last others known argument (counted argument is) split)

  pub last_opening : (exits : Exits) → exits ≡ exits_past (reverse items) last.exits.call → opens (word_of last) ≡ true → HasExits exits (reverse items)
  last_opening exits is opened =
      let low : last.exits.call ≤ length others = omega (arith, known.call, call_at_most 0 others) in
      let past : exits ≡ exits_past others last.exits.call =
      is ∙ ap (λ (l : List Pending). exits_past (reverse l) last.exits.call) (sym same) ∙ ap (λ (l : List Pending). exits_past l last.exits.call) in_front
      ∙ ap (λ (b : Bool). cond b last.exits (exits_past others last.exits.call)) (not_above last.exits.call (length others) low) in
      back exits (subst (λ (e : Exits). HasExits e (last ∷ others)) (sym past) (exits_opening last others known (linked_tail last others in_turn) opened))

  pub last_other : opens (word_of last) ≡ false → closes (word_of last) ≡ false → separates (word_of last) ≡ false → HasExits last.exits (reverse items)
  last_other opened closed split = back last.exits (exits_other last others known opened closed split)

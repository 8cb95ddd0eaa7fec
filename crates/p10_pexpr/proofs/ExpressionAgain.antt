-- Expressions that are spelled are read: each form, from its parts.
use Rattle.std.proofs.Common.{◌≡◌, ℕ, ◌+◌, ◌-◌, ◌*◌, ◌<◌, ◌≤◌, zero, suc, List, [], ◌∷◌, ◌++◌, drop, true, false, ◌&&◌, cond, nat_le, refl, sym, ◌∙◌, ap, subst, arith, Some, None, option_map, option_and_then}
use Rattle.std.proofs.lemmas.Bool.{le-leb, lt-leb}
use Rattle.std.proofs.lemmas.List.{append_assoc, append-nil}
use Rattle.p10_base.specs.Words.{Text}
use Rattle.p10_syn.specs.declared.sign.Sign.{Sign}
use Rattle.p10_syn.specs.declared.sign.Sign.TheVariants as sign
use Rattle.p10_syn.specs.declared.place.Side.TheVariants.{Before, After}
use Rattle.p10_syn.specs.Symbols.{Symbol, Fixed}
use Rattle.p10_syn.specs.Symbols as symbol
use Rattle.p10_syn.specs.Scopes.{Scope, is_type}
use Rattle.p10_syn.specs.Precedence.{binary_level, is_unary, is_step, is_assign, level_of}
use Rattle.p10_syn.specs.Spelling.{spell, spell_more, spell_strings, spell_type}
use Rattle.p10_syn.specs.Forms.{IsExpression, IsForm}
use Rattle.p10_syn.specs.Trees.{Bare, Identifier, Expression, expression, Form, Name, Number, Character, Strings, Unary, Step, Binary, Assign, Conditional, Call, Index, Member, Arrow, Cast, SizeofExpression, SizeofType, Comma, Expressions, NoExpressions, MoreExpressions, TypeName, expression_row}
use Rattle.p10_pexpr.specs.declared.next.Next.{Next}
use Rattle.p10_pexpr.specs.declared.next.Next.TheVariants.{Joins, Sets, Asks, Lists, Indexes, Calls, Selects, Points, Counts}
use Rattle.p10_pexpr.specs.Heads.{Read, expected, closed_by}
use Rattle.p10_pexpr.specs.Tables.{next_at, pull, need, goes_on, begins_specifiers}
use Rattle.p10_pexpr.specs.DeclaratorReading.{type_name_at}
use Rattle.p10_pexpr.specs.ExpressionReading.{plain, wrapped, strings_from, cast_of, cast_at, parenthesised_at, sizeof_type_at, sizeof_expression_at, operand_by, operand_at, otherwise_at, arguments_at, part_by, chain_on, chain_of, list_more}
use Rattle.p10_pexpr.specs.Reading.{readers}
use Rattle.p10_pexpr.proofs.Rows.{expression_list, expression_again}
use Rattle.p10_pexpr.proofs.Sizes.{size, expressions_size, type_size, spine, spine_less, absorbs, holds}
use Rattle.p10_pexpr.proofs.Marks.{joins_again, sets_again, counts_again, pull_apart, no_comma, unary_again, step_again, no_specifiers, begins_no}
use Rattle.p10_pexpr.proofs.FirstWords.{first_is, no_opens_type}
use Rattle.p10_pexpr.proofs.Steps.{expression_suc, chain_suc, list_suc}

-- ## Chains

chain_ends : (n : ℕ) (names : Scope) (level : ℕ) (t : Expression Bare) (rest : List Symbol) → 0 < n → pull (next_at rest) < level → (readers n).chain names level t rest ≡ Some (t, rest)
chain_ends zero names level t rest some stops = absurd (omega (arith, some))
chain_ends (suc n) names level t rest some stops =
    chain_suc n names level t rest
    ∙ ap (λ b. cond (b && nat_le (need (next_at rest)) (level_of t)) (chain_on (readers n) names level t rest) (Some (t, rest))) (lt-leb _ _ stops)

chain_goes : (n : ℕ) (names : Scope) (level : ℕ) (l t : Expression Bare) (next : Next) (after rest : List Symbol) → next_at after ≡ next → level ≤ pull next → need next ≤ level_of l →
    part_by (readers n) names l next (drop 1 after) ≡ Some (t, rest) → (readers (suc n)).chain names level l after ≡ (readers n).chain names level t rest
chain_goes n names level l t next after rest is low tight made =
    let go : Expression Bare × List Symbol → Read (Expression Bare) = λ x. (readers n).chain names level x.0 x.1 in
    chain_suc n names level l after
    ∙ ap (λ nx. cond (goes_on level (level_of l) nx) (option_and_then go (part_by (readers n) names l nx (drop 1 after))) (Some (l, after))) is
    ∙ ap (λ b. cond (b && nat_le (need next) (level_of l)) (option_and_then go (part_by (readers n) names l next (drop 1 after))) (Some (l, after))) (le-leb _ _ low)
    ∙ ap (λ b. cond b (option_and_then go (part_by (readers n) names l next (drop 1 after))) (Some (l, after))) (le-leb _ _ tight)
    ∙ ap (option_and_then go) made

-- ## Strings

strings_end : (done : List Text) (rest : List Symbol) → pull (next_at rest) < 17 → strings_from done rest ≡ (done, rest)
strings_end done [] stops = refl
strings_end done (symbol.String x ∷ rest) stops = absurd (omega (arith, stops))
strings_end done (_ ∷ rest) stops = refl

strings_again : (xs done : List Text) (rest : List Symbol) → pull (next_at rest) < 17 → strings_from done (spell_strings xs rest) ≡ (done ++ xs, rest)
strings_again [] done rest stops = strings_end done rest stops ∙ ap (λ (ys : List Text). (ys, rest)) (sym (append-nil done))
strings_again (x ∷ xs) done rest stops = strings_again xs (done ++ x ∷ []) rest stops ∙ ap (λ (ys : List Text). (ys, rest)) (append_assoc done (x ∷ []) xs)

-- ## What the laws say

module _ (names : Scope) where
  -- reading an expression comes down to its last operator, and to what goes on after it
  abbrev pub Left : Expression Bare → Type 0
  Left t = (m n level : ℕ) (rest : List Symbol) → m ≡ suc (spine t + n) → 2 * size t ≤ spine t + n → level ≤ level_of t → pull (next_at rest) < absorbs t →
      (readers m).expression names level (spell t rest) ≡ (readers n).chain names level t rest

  -- where the next word doesn't go on with it, it is read
  abbrev pub Full : Expression Bare → Type 0
  Full t = (m level : ℕ) (rest : List Symbol) → 2 * size t < m → level ≤ level_of t → pull (next_at rest) < level → (readers m).expression names level (spell t rest) ≡ Some (t, rest)

  pub record Laws (t : Expression Bare) : Type 0 where
    pub left : Left t
    pub full : Full t

  abbrev pub Listed : Expressions Bare → Type 0
  Listed ts = (m : ℕ) (t : Expression Bare) (done : List (Expression Bare)) (rest : List Symbol) → Full t → 2 ≤ level_of t → 2 * (1 + (size t + expressions_size ts)) ≤ m → pull (next_at rest) < 1 →
      (readers m).list names done (spell t (spell_more ts rest)) ≡ Some (done ++ t ∷ expression_list ts, rest)

  abbrev pub TypeRead : TypeName Bare → Type 0
  TypeRead k = (n : ℕ) (rest : List Symbol) → 2 * type_size k ≤ n → type_name_at (readers n) names (spell_type k (Fixed sign.Close ∷ rest)) ≡ Some (k, Fixed sign.Close ∷ rest)

  full_of : (t : Expression Bare) → Left t → Full t
  full_of t left m level rest enough high stops =
      let s = spine_less t in
      let h = (holds t).0 in
      left m (m - 1 - spine t) level rest (omega (arith, s, enough)) (omega (arith, s, enough)) high (omega (arith, h, high, stops))
      ∙ chain_ends (m - 1 - spine t) names level t rest (omega (arith, s, enough)) stops

  pub laws_of : (t : Expression Bare) → Left t → Laws t
  laws_of t left = record { left = left; full = full_of t left }

  -- an operand
  starts_with : (t : Expression Bare) → spine t ≡ 0 → ((n : ℕ) (rest : List Symbol) → 2 * size t ≤ n → pull (next_at rest) < absorbs t → operand_at (readers n) names (spell t rest) ≡ Some (t, rest)) → Left t
  starts_with t none reads m n level rest is enough high stops =
      ap (λ k. (readers k).expression names level (spell t rest)) (omega (arith, is, none))
      ∙ expression_suc n names level (spell t rest)
      ∙ ap (option_and_then (λ x. chain_of (readers n) names level x.0 x.1)) (reads n rest (omega (arith, none, enough)) stops)
      ∙ ap (λ b. cond b ((readers n).chain names level t rest) None) (le-leb _ _ high)

  -- a part after an operand
  extends : (l t : Expression Bare) (next : Next) (after rest : List Symbol) (m n level : ℕ) → Left l → next_at after ≡ next → need next ≤ level_of l → pull next < absorbs l → level ≤ pull next → level ≤ level_of l →
      m ≡ suc (1 + spine l + n) → 2 * size l ≤ spine l + suc n → part_by (readers n) names l next (drop 1 after) ≡ Some (t, rest) →
      (readers m).expression names level (spell l after) ≡ (readers n).chain names level t rest
  extends l t next after rest m n level left is tight held low high count enough made =
      left m (suc n) level after (omega (arith, count)) enough high (subst (λ nx. pull nx < absorbs l) (sym is) held)
      ∙ chain_goes n names level l t next after rest is low tight made

  pub positive : (t : Expression Bare) → IsExpression names t → 1 ≤ level_of t
  positive (expression p (suc n) f) h = omega arith
  positive (expression p zero (Binary s l r)) h = omega (arith, h.0)
  positive (expression p zero (Step Before s t)) h = omega arith
  positive (expression p zero (Step After s t)) h = omega arith
  positive (expression p zero _) h = omega arith

  -- ## Operands

  pub name_left : (x : Identifier Bare) → is_type names x.name ≡ false → Left (plain (Name x))
  name_left x h = starts_with (plain (Name x)) refl (λ n rest enough stops. ap (λ b. cond {A = Read (Expression Bare)} b None (Some (plain (Name x), rest))) h)

  pub number_left : (x : Text) → Left (plain (Number x))
  number_left x = starts_with (plain (Number x)) refl (λ n rest enough stops. refl)

  pub character_left : (x : Text) → Left (plain (Character x))
  character_left x = starts_with (plain (Character x)) refl (λ n rest enough stops. refl)

  pub strings_left : (x : Text) (xs : List Text) → Left (plain (Strings (x ∷ xs)))
  strings_left x xs = starts_with (plain (Strings (x ∷ xs))) refl (λ n rest enough stops.
      ap (λ (q : List Text × List Symbol). Some (plain (Strings q.0), q.1)) (strings_again xs (x ∷ []) rest stops))

  -- with one more pair of parentheses
  pub wrapped_left : (p : Bare) (n : ℕ) (f : Form Bare) → IsForm names f → Full (expression p n f) → Left (expression p (suc n) f)
  wrapped_left p k f is full = starts_with (expression p (suc k) f) refl (λ n rest enough stops.
      let t = expression p k f in
      let inner = spell t (Fixed sign.Close ∷ rest) in
      ap (λ b. cond b (cast_at (readers n) names inner) (parenthesised_at (readers n) names inner)) (no_specifiers names inner (first_is names t _ is))
      ∙ ap (option_and_then (λ x. closed_by sign.Close (wrapped x.0) x.1)) (full n 1 (Fixed sign.Close ∷ rest) (omega (arith, enough)) (positive t is) (omega arith)))

  pub unary_left : (s : Sign) (t : Expression Bare) → is_unary s ≡ true → Full t → 14 ≤ level_of t → Left (plain (Unary s t))
  unary_left s t h full high = starts_with (plain (Unary s t)) refl (λ n rest enough stops.
      ap (λ st. operand_by (readers n) names st (spell t rest)) (unary_again s h)
      ∙ ap (option_map (λ x. (plain (Unary s x.0), x.1))) (full n 14 rest (omega (arith, enough)) high (pull_apart _ stops)))

  pub step_left : (s : Sign) (t : Expression Bare) → is_step s ≡ true → Full t → 15 ≤ level_of t → Left (plain (Step Before s t))
  step_left s t h full high = starts_with (plain (Step Before s t)) refl (λ n rest enough stops.
      ap (λ st. operand_by (readers n) names st (spell t rest)) (step_again s h)
      ∙ ap (option_map (λ x. (plain (Step Before s x.0), x.1))) (full n 15 rest (omega (arith, enough)) high (omega (arith, pull_apart _ stops))))

  pub sizeof_left : (t : Expression Bare) → IsExpression names t → Full t → 15 ≤ level_of t → Left (plain (SizeofExpression t))
  sizeof_left t is full high = starts_with (plain (SizeofExpression t)) refl (λ n rest enough stops.
      ap (λ b. cond b (sizeof_type_at (readers n) names (drop 1 (spell t rest))) (sizeof_expression_at (readers n) names (spell t rest))) (no_opens_type names t rest is high)
      ∙ ap (option_map (λ x. (plain (SizeofExpression x.0), x.1))) (full n 15 rest (omega (arith, enough)) high (omega (arith, pull_apart _ stops))))

  pub cast_left : (k : TypeName Bare) (t : Expression Bare) → ((rest : List Symbol) → begins_specifiers names (spell_type k rest) ≡ true) → TypeRead k → Full t → 14 ≤ level_of t → Left (plain (Cast k t))
  cast_left k t begins typed full high = starts_with (plain (Cast k t)) refl (λ n rest enough stops.
      let more = Fixed sign.Close ∷ spell t rest in
      ap (λ b. cond b (cast_at (readers n) names (spell_type k more)) (parenthesised_at (readers n) names (spell_type k more))) (begins more)
      ∙ ap (option_and_then (λ x. option_and_then (cast_of (readers n) names x.0) (expected sign.Close x.1))) (typed n (spell t rest) (omega (arith, enough)))
      ∙ ap (option_map (λ u. (plain (Cast k u.0), u.1))) (full n 14 rest (omega (arith, enough)) high (pull_apart _ stops)))

  pub sizeof_type_left : (k : TypeName Bare) → ((rest : List Symbol) → begins_specifiers names (spell_type k rest) ≡ true) → TypeRead k → Left (plain (SizeofType k))
  sizeof_type_left k begins typed = starts_with (plain (SizeofType k)) refl (λ n rest enough stops.
      let more = spell_type k (Fixed sign.Close ∷ rest) in
      ap (λ b. cond b (sizeof_type_at (readers n) names more) (sizeof_expression_at (readers n) names (Fixed sign.Open ∷ more))) (begins (Fixed sign.Close ∷ rest))
      ∙ ap (option_and_then (λ x. closed_by sign.Close (plain (SizeofType x.0)) x.1)) (typed n rest (omega (arith, enough))))

  -- ## Further parts

  pub binary_left : (s : Sign) (l r : Expression Bare) → 4 ≤ binary_level s → Left l → Full r → binary_level s ≤ level_of l → binary_level s < level_of r → Left (plain (Binary s l r))
  binary_left s l r four left full tight tighter m n level rest is enough high stops =
      let sp = spine_less l in
      let held = (holds l).1 (omega (arith, four, tight)) in
      extends l (plain (Binary s l r)) (Joins s) (Fixed s ∷ spell r rest) rest m n level left (joins_again s four) tight (omega (arith, held, tight)) high (omega (arith, high, tight)) (omega (arith, is)) (omega (arith, enough, sp))
      (ap (option_map (λ x. (plain (Binary s l x.0), x.1))) (full n (binary_level s + 1) rest (omega (arith, enough, sp)) (omega (arith, tighter)) stops))

  pub assign_left : (s : Sign) (l r : Expression Bare) → is_assign s ≡ true → Left l → Full r → 15 ≤ level_of l → 2 ≤ level_of r → Left (plain (Assign s l r))
  assign_left s l r set left full tight right m n level rest is enough high stops =
      let sp = spine_less l in
      let held = (holds l).0 in
      extends l (plain (Assign s l r)) (Sets s) (Fixed s ∷ spell r rest) rest m n level left (sets_again s set) tight (omega (arith, held, tight)) high (omega (arith, high, tight)) (omega (arith, is)) (omega (arith, enough, sp))
      (ap (option_map (λ x. (plain (Assign s l x.0), x.1))) (full n 2 rest (omega (arith, enough, sp)) right stops))

  pub conditional_left : (a b c : Expression Bare) → Left a → Full b → Full c → IsExpression names b → 4 ≤ level_of a → 3 ≤ level_of c → Left (plain (Conditional a b c))
  conditional_left a b c left one two isb tight third m n level rest is enough high stops =
      let sp = spine_less a in
      let held = (holds a).0 in
      let more = Fixed sign.Colon ∷ spell c rest in
      extends a (plain (Conditional a b c)) Asks (Fixed sign.Question ∷ spell b more) rest m n level left refl tight (omega (arith, held, tight)) high (omega (arith, high, tight)) (omega (arith, is)) (omega (arith, enough, sp))
      (ap (option_and_then (λ x. option_and_then (otherwise_at (readers n) names a x.0) (expected sign.Colon x.1))) (one n 1 more (omega (arith, enough, sp)) (positive b isb) (omega arith))
      ∙ ap (option_map (λ y. (plain (Conditional a b y.0), y.1))) (two n 3 rest (omega (arith, enough, sp)) third stops))

  pub comma_left : (t u : Expression Bare) (us : Expressions Bare) → Left t → Full u → Listed us → 2 ≤ level_of t → 2 ≤ level_of u → Left (plain (Comma (MoreExpressions t (MoreExpressions u us))))
  comma_left t u us left full listed tight second m n level rest is enough high stops =
      let sp = spine_less t in
      let held = (holds t).0 in
      extends t (plain (Comma (MoreExpressions t (MoreExpressions u us)))) Lists (Fixed sign.Comma ∷ spell u (spell_more us rest)) rest m n level left refl tight (omega (arith, held, tight)) high (omega (arith, high, tight)) (omega (arith, is)) (omega (arith, enough, sp))
      (ap (option_map (λ x. (plain (Comma (MoreExpressions t (expression_row x.0))), x.1))) (listed n u [] rest full second (omega (arith, enough, sp)) stops)
      ∙ ap (λ (ts : Expressions Bare). Some (plain (Comma (MoreExpressions t (MoreExpressions u ts))), rest)) (expression_again us))

  pub index_left : (l r : Expression Bare) → Left l → Full r → IsExpression names r → 16 ≤ level_of l → Left (plain (Index l r))
  index_left l r left full isr tight m n level rest is enough high stops =
      let sp = spine_less l in
      let held = (holds l).1 (omega (arith, tight)) in
      extends l (plain (Index l r)) Indexes (Fixed sign.OpenSquare ∷ spell r (Fixed sign.CloseSquare ∷ rest)) rest m n level left refl tight (omega (arith, held, tight)) high (omega (arith, high, tight)) (omega (arith, is)) (omega (arith, enough, sp))
      (ap (option_and_then (λ x. closed_by sign.CloseSquare (plain (Index l x.0)) x.1)) (full n 1 (Fixed sign.CloseSquare ∷ rest) (omega (arith, enough, sp)) (positive r isr) (omega arith)))

  pub call_none_left : (f : Expression Bare) → Left f → 16 ≤ level_of f → Left (plain (Call f NoExpressions))
  call_none_left f left tight m n level rest is enough high stops =
      let sp = spine_less f in
      let held = (holds f).1 (omega (arith, tight)) in
      extends f (plain (Call f NoExpressions)) Calls (Fixed sign.Open ∷ (Fixed sign.Close ∷ rest)) rest m n level left refl tight (omega (arith, held, tight)) high (omega (arith, high, tight)) (omega (arith, is)) (omega (arith, enough, sp)) refl

  pub call_some_left : (f u : Expression Bare) (us : Expressions Bare) → Left f → Full u → IsExpression names u → Listed us → 16 ≤ level_of f → 2 ≤ level_of u → Left (plain (Call f (MoreExpressions u us)))
  call_some_left f u us left full isu listed tight second m n level rest is enough high stops =
      let sp = spine_less f in
      let held = (holds f).1 (omega (arith, tight)) in
      let inner = spell u (spell_more us (Fixed sign.Close ∷ rest)) in
      extends f (plain (Call f (MoreExpressions u us))) Calls (Fixed sign.Open ∷ inner) rest m n level left refl tight (omega (arith, held, tight)) high (omega (arith, high, tight)) (omega (arith, is)) (omega (arith, enough, sp))
      (ap (λ b. cond b (Some (plain (Call f NoExpressions), drop 1 inner)) (arguments_at (readers n) names f inner)) (begins_no sign.Close names inner (first_is names u _ isu) refl)
      ∙ ap (option_and_then (λ x. closed_by sign.Close (plain (Call f (expression_row x.0))) x.1)) (listed n u [] (Fixed sign.Close ∷ rest) full second (omega (arith, enough, sp)) (omega arith))
      ∙ ap (λ (ts : Expressions Bare). Some (plain (Call f (MoreExpressions u ts)), rest)) (expression_again us))

  pub member_left : (t : Expression Bare) (x : Identifier Bare) → Left t → 16 ≤ level_of t → Left (plain (Member t x))
  member_left t x left tight m n level rest is enough high stops =
      let sp = spine_less t in
      let held = (holds t).1 (omega (arith, tight)) in
      extends t (plain (Member t x)) Selects (Fixed sign.Dot ∷ (symbol.Name x.name ∷ rest)) rest m n level left refl tight (omega (arith, held, tight)) high (omega (arith, high, tight)) (omega (arith, is)) (omega (arith, enough, sp)) refl

  pub arrow_left : (t : Expression Bare) (x : Identifier Bare) → Left t → 16 ≤ level_of t → Left (plain (Arrow t x))
  arrow_left t x left tight m n level rest is enough high stops =
      let sp = spine_less t in
      let held = (holds t).1 (omega (arith, tight)) in
      extends t (plain (Arrow t x)) Points (Fixed sign.Arrow ∷ (symbol.Name x.name ∷ rest)) rest m n level left refl tight (omega (arith, held, tight)) high (omega (arith, high, tight)) (omega (arith, is)) (omega (arith, enough, sp)) refl

  pub after_left : (s : Sign) (t : Expression Bare) → is_step s ≡ true → Left t → 16 ≤ level_of t → Left (plain (Step After s t))
  after_left s t steps left tight m n level rest is enough high stops =
      let sp = spine_less t in
      let held = (holds t).1 (omega (arith, tight)) in
      extends t (plain (Step After s t)) (Counts s) (Fixed s ∷ rest) rest m n level left (counts_again s steps) tight (omega (arith, held, tight)) high (omega (arith, high, tight)) (omega (arith, is)) (omega (arith, enough, sp)) refl

  -- ## Lists

  list_first : (m : ℕ) (t : Expression Bare) (done : List (Expression Bare)) (more : List Symbol) → Full t → 2 ≤ level_of t → 2 * (1 + size t) ≤ m → pull (next_at more) < 2 →
      (readers m).list names done (spell t more) ≡ list_more (readers (m - 1)) names (done ++ t ∷ []) more
  list_first zero t done more full two enough stops = absurd (omega (arith, enough))
  list_first (suc m) t done more full two enough stops =
      let less : m ≡ suc m - 1 = omega arith in
      list_suc m names done (spell t more)
      ∙ ap (option_and_then (λ x. list_more (readers m) names (done ++ x.0 ∷ []) x.1)) (full m 2 more (omega (arith, enough)) two stops)
      ∙ ap (λ k. list_more (readers k) names (done ++ t ∷ []) more) less

  pub nil_listed : Listed NoExpressions
  nil_listed m t done rest full two enough stops =
      list_first m t done rest full two (omega (arith, enough)) (omega (arith, stops))
      ∙ ap (λ b. cond b ((readers (m - 1)).list names (done ++ t ∷ []) (drop 1 rest)) (Some (done ++ t ∷ [], rest))) (no_comma rest stops)

  pub cons_listed : (u : Expression Bare) (us : Expressions Bare) → Full u → 2 ≤ level_of u → Listed us → Listed (MoreExpressions u us)
  cons_listed u us fullu twou listed m t done rest full two enough stops =
      list_first m t done (spell_more (MoreExpressions u us) rest) full two (omega (arith, enough)) (omega arith)
      ∙ listed (m - 1) u (done ++ t ∷ []) rest fullu twou (omega (arith, enough)) stops
      ∙ ap (λ (ts : List (Expression Bare)). Some (ts, rest)) (append_assoc done (t ∷ []) (u ∷ expression_list us))

-- an expression in parentheses, from the one without them
pub wraps : (names : Scope) (p : Bare) (n : ℕ) (f : Form Bare) → IsForm names f → Left names (plain f) → Laws names (expression p n f)
wraps names p zero f is left = laws_of names (plain f) left
wraps names p (suc n) f is left = laws_of names (expression p (suc n) f) (wrapped_left names p n f is (wraps names p n f is left).full)

-- Expressions that are read are spelled.
use Rattle.std.proofs.Common.{◌≡◌, ℕ, ◌+◌, ◌≤◌, List, [], ◌∷◌, ◌++◌, drop, true, ◌&&◌, nat_le, refl, sym, ◌∙◌, ap, subst, arith, Some, option_and_then}
use Rattle.std.proofs.lemmas.Option.{none-some, same_Some}
use Rattle.std.proofs.lemmas.Bool.{leb-true, and_parts}
use Rattle.std.proofs.lemmas.List.{append_assoc, append-nil}
use Rattle.p10_base.specs.Words.{Text}
use Rattle.p10_syn.specs.declared.sign.Sign.{Sign}
use Rattle.p10_syn.specs.declared.sign.Sign.TheVariants as sign
use Rattle.p10_syn.specs.declared.place.Side.TheVariants.{Before}
use Rattle.p10_syn.specs.Symbols.{Symbol, Fixed}
use Rattle.p10_syn.specs.Symbols as symbol
use Rattle.p10_syn.specs.Scopes.{Scope, is_type}
use Rattle.p10_syn.specs.Precedence.{binary_level, is_unary, is_step, level_of}
use Rattle.p10_syn.specs.Spelling.{spell, spell_list, spell_strings, spell_type}
use Rattle.p10_syn.specs.Forms.{IsExpression}
use Rattle.p10_syn.specs.Trees.{Bare, Expression, expression, Strings, Unary, Step, Binary, Assign, Conditional, Call, Index, Member, Arrow, Cast, SizeofExpression, SizeofType, Comma, NoExpressions, MoreExpressions, TypeName, expression_row}
use Rattle.p10_pexpr.specs.declared.next.Next.{Next}
use Rattle.p10_pexpr.specs.declared.next.Next.TheVariants.{Joins, Sets, Asks, Lists, Indexes, Calls, Selects, Points, Counts, Quotes, Ends}
use Rattle.p10_pexpr.specs.declared.next.Start.{Start}
use Rattle.p10_pexpr.specs.declared.next.Start.TheVariants.{Groups, Operates, Steps, Measures, Nothing}
use Rattle.p10_pexpr.specs.Heads.{heads, expected, closed_by, name_at}
use Rattle.p10_pexpr.specs.Tables.{next_at, pull, need, goes_on, start_of, begins_specifiers}
use Rattle.p10_pexpr.specs.Readers.{Readers}
use Rattle.p10_pexpr.specs.DeclaratorReading.{plain_name, type_name_at}
use Rattle.p10_pexpr.specs.ExpressionReading.{plain, wrapped, strings_from, strings_at, variable_at, cast_of, cast_at, parenthesised_at, sizeof_type_at, sizeof_expression_at, sizeof_at, unary_at, step_at, operand_by, operand_at, otherwise_at, arguments_at, part_by, chain_once, chain_of, expression_once, list_more, list_once}
use Rattle.p10_pexpr.proofs.Tools.{then_some, then_map, either, heads_is, expected_is, ended, name_takes}
use Rattle.p10_pexpr.proofs.Words.{Went, went, Began, began}
use Rattle.p10_pexpr.proofs.Rows.{expression_list, expression_again}
use Rattle.p10_pexpr.proofs.Taken.{TookExpression, TookList, TookTypeName, Takes}

-- ## Parentheses and strings

-- one more pair of parentheses is spelled around all of it
pub wrapped_spelled : (t : Expression Bare) (rest : List Symbol) → Fixed sign.Open ∷ spell t (Fixed sign.Close ∷ rest) ≡ spell (wrapped t) rest
wrapped_spelled (expression p n f) rest = refl

pub wrapped_formed : (names : Scope) (t : Expression Bare) → IsExpression names t → IsExpression names (wrapped t)
wrapped_formed names (expression p n f) h = h

pub wrapped_level : (t : Expression Bare) → level_of (wrapped t) ≡ 16
wrapped_level (expression p n f) = refl

record TookStrings (done : List Text) (symbols : List Symbol) (p : List Text × List Symbol) : Type 0 where
  others : List Text
  items : p.0 ≡ done ++ others
  spelled : symbols ≡ spell_strings others p.1

strings_end : (done : List Text) (symbols : List Symbol) → TookStrings done symbols (done, symbols)
strings_end done symbols = record { others = []; items = sym (append-nil done); spelled = refl }

strings_take : (done : List Text) (symbols : List Symbol) → TookStrings done symbols (strings_from done symbols)
strings_take done [] = strings_end done []
strings_take done (symbol.String x ∷ rest) =
    let t = strings_take (done ++ x ∷ []) rest in
    record { others = x ∷ t.others; items = t.items ∙ append_assoc done (x ∷ []) t.others; spelled = ap (λ r. symbol.String x ∷ r) t.spelled }
strings_take done (x ∷ rest) = strings_end done (x ∷ rest)

took_is : (names : Scope) (level : ℕ) (symbols : List Symbol) (q p : Expression Bare × List Symbol) → q ≡ p → TookExpression names level symbols q → TookExpression names level symbols p
took_is names level symbols q p e t = subst (λ x. TookExpression names level symbols x) e t

module _ (r : Readers) (takes : Takes r) (type_takes : (names : Scope) (symbols : List Symbol) (p : TypeName Bare × List Symbol) → type_name_at r names symbols ≡ Some p → TookTypeName names symbols p) (names : Scope) where
  -- ## Operands

  strings_taken : (x : Text) (rest : List Symbol) → TookExpression names 14 (symbol.String x ∷ rest) (strings_at x rest)
  strings_taken x rest =
      let t = strings_take (x ∷ []) rest in
      let q = strings_from (x ∷ []) rest in
      subst (λ (xs : List Text). TookExpression names 14 (symbol.String x ∷ rest) (plain (Strings xs), q.1)) (sym t.items)
      (record { formed = tt; high = omega arith; spelled = ap (λ s. symbol.String x ∷ s) t.spelled })

  variable_takes : (x : Text) (rest : List Symbol) (p : Expression Bare × List Symbol) → variable_at names x rest ≡ Some p → TookExpression names 14 (symbol.Name x ∷ rest) p
  variable_takes x rest p e = either (is_type names x) _ _ _ e
      (λ on none. absurd (none-some p none))
      (λ off same. took_is names 14 (symbol.Name x ∷ rest) _ p (same_Some _ _ same) (record { formed = off; high = omega arith; spelled = refl }))

  parenthesised_takes : (rest : List Symbol) (p : Expression Bare × List Symbol) → parenthesised_at r names rest ≡ Some p → TookExpression names 14 (Fixed sign.Open ∷ rest) p
  parenthesised_takes rest p e = then_some (λ t. closed_by sign.Close (wrapped t.0) t.1) (r.expression names 1 rest) p e (λ t is e1.
      let k = takes.expression names 1 rest t is in
      ended sign.Close (wrapped t.0) t.1 p e1 (λ last closes same.
      took_is names 14 (Fixed sign.Open ∷ rest) _ p same (record {
        formed = wrapped_formed names t.0 k.formed;
        high = omega (arith, wrapped_level t.0);
        spelled = ap (λ x. Fixed sign.Open ∷ x) (k.spelled ∙ ap (spell t.0) closes) ∙ wrapped_spelled t.0 last;
      })))

  cast_takes : (rest : List Symbol) (p : Expression Bare × List Symbol) → cast_at r names rest ≡ Some p → TookExpression names 14 (Fixed sign.Open ∷ rest) p
  cast_takes rest p e = then_some (λ k. option_and_then (cast_of r names k.0) (expected sign.Close k.1)) (type_name_at r names rest) p e (λ k is e1.
      let kt = type_takes names rest k is in
      then_some (cast_of r names k.0) (expected sign.Close k.1) p e1 (λ more closes e2.
      then_map (λ t. (plain (Cast k.0 t.0), t.1)) (r.expression names 14 more) p e2 (λ t found same.
      let tt' = takes.expression names 14 more t found in
      took_is names 14 (Fixed sign.Open ∷ rest) _ p same (record {
        formed = (kt.formed, tt'.formed, tt'.high);
        high = omega arith;
        spelled = ap (λ x. Fixed sign.Open ∷ x) (kt.spelled ∙ ap (spell_type k.0) (expected_is sign.Close k.1 more closes ∙ ap (λ x. Fixed sign.Close ∷ x) tt'.spelled));
      }))))

  sizeof_type_takes : (rest : List Symbol) (p : Expression Bare × List Symbol) → sizeof_type_at r names rest ≡ Some p → TookExpression names 14 (Fixed sign.Sizeof ∷ (Fixed sign.Open ∷ rest)) p
  sizeof_type_takes rest p e = then_some (λ k. closed_by sign.Close (plain (SizeofType k.0)) k.1) (type_name_at r names rest) p e (λ k is e1.
      let kt = type_takes names rest k is in
      ended sign.Close (plain (SizeofType k.0)) k.1 p e1 (λ last closes same.
      took_is names 14 (Fixed sign.Sizeof ∷ (Fixed sign.Open ∷ rest)) _ p same (record {
        formed = kt.formed;
        high = omega arith;
        spelled = ap (λ x. Fixed sign.Sizeof ∷ (Fixed sign.Open ∷ x)) (kt.spelled ∙ ap (spell_type k.0) closes);
      })))

  sizeof_expression_takes : (rest : List Symbol) (p : Expression Bare × List Symbol) → sizeof_expression_at r names rest ≡ Some p → TookExpression names 14 (Fixed sign.Sizeof ∷ rest) p
  sizeof_expression_takes rest p e = then_map (λ t. (plain (SizeofExpression t.0), t.1)) (r.expression names 15 rest) p e (λ t found same.
      let k = takes.expression names 15 rest t found in
      took_is names 14 (Fixed sign.Sizeof ∷ rest) _ p same (record { formed = (k.formed, k.high); high = omega arith; spelled = ap (λ x. Fixed sign.Sizeof ∷ x) k.spelled }))

  step_takes : (s : Sign) (rest : List Symbol) (p : Expression Bare × List Symbol) → is_step s ≡ true → step_at r names s rest ≡ Some p → TookExpression names 14 (Fixed s ∷ rest) p
  step_takes s rest p h e = then_map (λ t. (plain (Step Before s t.0), t.1)) (r.expression names 15 rest) p e (λ t found same.
      let k = takes.expression names 15 rest t found in
      took_is names 14 (Fixed s ∷ rest) _ p same (record { formed = (h, k.formed, k.high); high = omega arith; spelled = ap (λ x. Fixed s ∷ x) k.spelled }))

  unary_takes : (s : Sign) (rest : List Symbol) (p : Expression Bare × List Symbol) → is_unary s ≡ true → unary_at r names s rest ≡ Some p → TookExpression names 14 (Fixed s ∷ rest) p
  unary_takes s rest p h e = then_map (λ t. (plain (Unary s t.0), t.1)) (r.expression names 14 rest) p e (λ t found same.
      let k = takes.expression names 14 rest t found in
      took_is names 14 (Fixed s ∷ rest) _ p same (record { formed = (h, k.formed, k.high); high = omega arith; spelled = ap (λ x. Fixed s ∷ x) k.spelled }))

  sizeof_takes : (rest : List Symbol) (p : Expression Bare × List Symbol) → sizeof_at r names rest ≡ Some p → TookExpression names 14 (Fixed sign.Sizeof ∷ rest) p
  sizeof_takes rest p e = either (heads sign.Open rest && begins_specifiers names (drop 1 rest)) _ _ _ e
      (λ opens e1. subst (λ x. TookExpression names 14 (Fixed sign.Sizeof ∷ x) p) (sym (heads_is sign.Open rest (and_parts _ _ opens).0)) (sizeof_type_takes (drop 1 rest) p e1))
      (λ off e1. sizeof_expression_takes rest p e1)

  operand_by_takes : (s : Sign) (start : Start) (rest : List Symbol) (p : Expression Bare × List Symbol) → Began s start → operand_by r names start rest ≡ Some p → TookExpression names 14 (Fixed s ∷ rest) p
  operand_by_takes s Groups rest p b e = subst (λ x. TookExpression names 14 (Fixed x ∷ rest) p) (sym b)
      (either (begins_specifiers names rest) _ _ _ e (λ on e1. cast_takes rest p e1) (λ off e1. parenthesised_takes rest p e1))
  operand_by_takes s (Operates u) rest p b e = subst (λ x. TookExpression names 14 (Fixed x ∷ rest) p) (sym b.0) (unary_takes u rest p b.1 e)
  operand_by_takes s (Steps u) rest p b e = subst (λ x. TookExpression names 14 (Fixed x ∷ rest) p) (sym b.0) (step_takes u rest p b.1 e)
  operand_by_takes s Measures rest p b e = subst (λ x. TookExpression names 14 (Fixed x ∷ rest) p) (sym b) (sizeof_takes rest p e)
  operand_by_takes s Nothing rest p b e = absurd (none-some p e)

  operand_takes : (symbols : List Symbol) (p : Expression Bare × List Symbol) → operand_at r names symbols ≡ Some p → TookExpression names 14 symbols p
  operand_takes [] p e = absurd (none-some p e)
  operand_takes (symbol.Name x ∷ rest) p e = variable_takes x rest p e
  operand_takes (symbol.Number x ∷ rest) p e = took_is names 14 (symbol.Number x ∷ rest) _ p (same_Some _ _ e) (record { formed = tt; high = omega arith; spelled = refl })
  operand_takes (symbol.Character x ∷ rest) p e = took_is names 14 (symbol.Character x ∷ rest) _ p (same_Some _ _ e) (record { formed = tt; high = omega arith; spelled = refl })
  operand_takes (symbol.String x ∷ rest) p e = took_is names 14 (symbol.String x ∷ rest) _ p (same_Some _ _ e) (strings_taken x rest)
  operand_takes (Fixed s ∷ rest) p e = operand_by_takes s (start_of s) rest p (began s) e
  operand_takes (_ ∷ rest) p e = absurd (none-some p e)

  -- ## Further parts

  arguments_take : (l : Expression Bare) (rest : List Symbol) (p : Expression Bare × List Symbol) → IsExpression names l → 16 ≤ level_of l → arguments_at r names l rest ≡ Some p →
      TookExpression names 16 (spell l (Fixed sign.Open ∷ rest)) p
  arguments_take l rest p h tight e = then_some (λ ts. closed_by sign.Close (plain (Call l (expression_row ts.0))) ts.1) (r.list names [] rest) p e (λ ts is e1.
      let k = takes.list names [] rest ts is in
      let row : expression_row ts.0 ≡ MoreExpressions k.first k.others = ap expression_row k.items ∙ expression_again (MoreExpressions k.first k.others) in
      ended sign.Close (plain (Call l (expression_row ts.0))) ts.1 p e1 (λ last closes same.
      took_is names 16 (spell l (Fixed sign.Open ∷ rest)) _ p (ap (λ x. (plain (Call l x), last)) (sym row) ∙ same) (record {
        formed = (h, tight, k.formed);
        high = omega arith;
        spelled = ap (λ x. spell l (Fixed sign.Open ∷ x)) (k.spelled ∙ ap (spell_list (MoreExpressions k.first k.others)) closes);
      })))

  part_takes : (l : Expression Bare) (next : Next) (symbols : List Symbol) (p : Expression Bare × List Symbol) → Went symbols next → IsExpression names l → need next ≤ level_of l →
      part_by r names l next (drop 1 symbols) ≡ Some p → TookExpression names (pull next) (spell l symbols) p
  part_takes l (Joins s) symbols p w h tight e = then_map (λ t. (plain (Binary s l t.0), t.1)) (r.expression names (binary_level s + 1) (drop 1 symbols)) p e (λ t is same.
      let k = takes.expression names (binary_level s + 1) (drop 1 symbols) t is in
      took_is names (binary_level s) (spell l symbols) _ p same (record {
        formed = (w.1, h, k.formed, tight, omega (arith, k.high));
        high = omega arith;
        spelled = ap (spell l) (w.0 ∙ ap (λ x. Fixed s ∷ x) k.spelled);
      }))
  part_takes l (Sets s) symbols p w h tight e = then_map (λ t. (plain (Assign s l t.0), t.1)) (r.expression names 2 (drop 1 symbols)) p e (λ t is same.
      let k = takes.expression names 2 (drop 1 symbols) t is in
      took_is names 2 (spell l symbols) _ p same (record { formed = (w.1, h, k.formed, tight, k.high); high = omega arith; spelled = ap (spell l) (w.0 ∙ ap (λ x. Fixed s ∷ x) k.spelled) }))
  part_takes l Asks symbols p w h tight e =
      then_some (λ a. option_and_then (otherwise_at r names l a.0) (expected sign.Colon a.1)) (r.expression names 1 (drop 1 symbols)) p e (λ a is e1.
      let one = takes.expression names 1 (drop 1 symbols) a is in
      then_some (otherwise_at r names l a.0) (expected sign.Colon a.1) p e1 (λ more colon e2.
      then_map (λ b. (plain (Conditional l a.0 b.0), b.1)) (r.expression names 3 more) p e2 (λ b found same.
      let two = takes.expression names 3 more b found in
      took_is names 3 (spell l symbols) _ p same (record {
        formed = (h, one.formed, two.formed, tight, two.high);
        high = omega arith;
        spelled = ap (spell l) (w ∙ ap (λ x. Fixed sign.Question ∷ x) (one.spelled ∙ ap (spell a.0) (expected_is sign.Colon a.1 more colon ∙ ap (λ x. Fixed sign.Colon ∷ x) two.spelled)));
      }))))
  part_takes l Lists symbols p w h tight e = then_map (λ ts. (plain (Comma (MoreExpressions l (expression_row ts.0))), ts.1)) (r.list names [] (drop 1 symbols)) p e (λ ts is same.
      let k = takes.list names [] (drop 1 symbols) ts is in
      let row : expression_row ts.0 ≡ MoreExpressions k.first k.others = ap expression_row k.items ∙ expression_again (MoreExpressions k.first k.others) in
      took_is names 1 (spell l symbols) _ p (ap (λ x. (plain (Comma (MoreExpressions l x)), ts.1)) (sym row) ∙ same) (record {
        formed = ((h, tight, k.formed), tt);
        high = omega arith;
        spelled = ap (spell l) (w ∙ ap (λ x. Fixed sign.Comma ∷ x) k.spelled);
      }))
  part_takes l Indexes symbols p w h tight e = then_some (λ t. closed_by sign.CloseSquare (plain (Index l t.0)) t.1) (r.expression names 1 (drop 1 symbols)) p e (λ t is e1.
      let k = takes.expression names 1 (drop 1 symbols) t is in
      ended sign.CloseSquare (plain (Index l t.0)) t.1 p e1 (λ last closes same.
      took_is names 16 (spell l symbols) _ p same (record {
        formed = (h, k.formed, tight);
        high = omega arith;
        spelled = ap (spell l) (w ∙ ap (λ x. Fixed sign.OpenSquare ∷ x) (k.spelled ∙ ap (spell t.0) closes));
      })))
  part_takes l Calls symbols p w h tight e = subst (λ x. TookExpression names 16 (spell l x) p) (sym w) (either (heads sign.Close (drop 1 symbols)) _ _ _ e
      (λ closes same. took_is names 16 (spell l (Fixed sign.Open ∷ drop 1 symbols)) _ p (same_Some _ _ same) (record {
        formed = (h, tight, tt);
        high = omega arith;
        spelled = ap (λ x. spell l (Fixed sign.Open ∷ x)) (heads_is sign.Close _ closes);
      }))
      (λ off e1. arguments_take l (drop 1 symbols) p h tight e1))
  part_takes l Selects symbols p w h tight e = then_map (λ x. (plain (Member l (plain_name x.0)), x.1)) (name_at (drop 1 symbols)) p e (λ x is same.
      took_is names 16 (spell l symbols) _ p same (record { formed = (h, tight); high = omega arith; spelled = ap (spell l) (w ∙ ap (λ y. Fixed sign.Dot ∷ y) (name_takes (drop 1 symbols) x is)) }))
  part_takes l Points symbols p w h tight e = then_map (λ x. (plain (Arrow l (plain_name x.0)), x.1)) (name_at (drop 1 symbols)) p e (λ x is same.
      took_is names 16 (spell l symbols) _ p same (record { formed = (h, tight); high = omega arith; spelled = ap (spell l) (w ∙ ap (λ y. Fixed sign.Arrow ∷ y) (name_takes (drop 1 symbols) x is)) }))
  part_takes l (Counts s) symbols p w h tight e = took_is names 16 (spell l symbols) _ p (same_Some _ _ e) (record { formed = (w.1, h, tight); high = omega arith; spelled = ap (spell l) w.0 })
  part_takes l Quotes symbols p w h tight e = absurd (none-some p e)
  part_takes l Ends symbols p w h tight e = absurd (none-some p e)

  pub chain_takes : (level : ℕ) (t : Expression Bare) (symbols : List Symbol) (p : Expression Bare × List Symbol) → IsExpression names t → level ≤ level_of t → chain_once r names level t symbols ≡ Some p →
      TookExpression names level (spell t symbols) p
  chain_takes level t symbols p h high e = either (goes_on level (level_of t) (next_at symbols)) _ _ _ e
      (λ on e1. then_some (λ x. r.chain names level x.0 x.1) (part_by r names t (next_at symbols) (drop 1 symbols)) p e1 (λ x is more.
      let parts = and_parts _ _ on in
      let k = part_takes t (next_at symbols) symbols x (went symbols) h (leb-true _ _ parts.1) is in
      let low = leb-true _ _ parts.0 in
      let last = takes.chain names level x.0 x.1 p k.formed (omega (arith, low, k.high)) more in
      record { formed = last.formed; high = last.high; spelled = k.spelled ∙ last.spelled }))
      (λ off same. took_is names level (spell t symbols) _ p (same_Some _ _ same) (record { formed = h; high = high; spelled = refl }))

  pub expression_takes : (level : ℕ) (symbols : List Symbol) (p : Expression Bare × List Symbol) → expression_once r names level symbols ≡ Some p → TookExpression names level symbols p
  expression_takes level symbols p e = then_some (λ t. chain_of r names level t.0 t.1) (operand_at r names symbols) p e (λ t is e1.
      let k = operand_takes symbols t is in
      either (nat_le level (level_of t.0)) _ _ _ e1 (λ high e2.
      let last = takes.chain names level t.0 t.1 p k.formed (leb-true _ _ high) e2 in
      record { formed = last.formed; high = last.high; spelled = k.spelled ∙ last.spelled })
      (λ off none. absurd (none-some p none)))

  pub list_takes : (done : List (Expression Bare)) (symbols : List Symbol) (p : List (Expression Bare) × List Symbol) → list_once r names done symbols ≡ Some p → TookList names done symbols p
  list_takes done symbols p e = then_some (λ t. list_more r names (done ++ t.0 ∷ []) t.1) (r.expression names 2 symbols) p e (λ t is e1.
      let k = takes.expression names 2 symbols t is in
      either (heads sign.Comma t.1) _ _ _ e1 (λ comma e2.
      let o = takes.list names (done ++ t.0 ∷ []) (drop 1 t.1) p e2 in
      record {
        first = t.0;
        others = MoreExpressions o.first o.others;
        formed = (k.formed, k.high, o.formed);
        items = o.items ∙ append_assoc done (t.0 ∷ []) (o.first ∷ expression_list o.others);
        spelled = k.spelled ∙ ap (spell t.0) (heads_is sign.Comma t.1 comma ∙ ap (λ x. Fixed sign.Comma ∷ x) o.spelled);
      })
      (λ off same. subst (λ x. TookList names done symbols x) (same_Some _ _ same)
      (record { first = t.0; others = NoExpressions; formed = (k.formed, k.high, tt); items = refl; spelled = k.spelled })))

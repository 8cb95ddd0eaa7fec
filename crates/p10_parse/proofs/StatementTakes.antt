-- Statements that are read are spelled.
use Rattle.std.proofs.Common.{◌≡◌, ℕ, ◌≤◌, List, [], ◌∷◌, ◌++◌, drop, Bool, true, false, cond, refl, sym, ◌∙◌, ap, subst, Some, option_map, option_and_then}
use Rattle.std.proofs.lemmas.Option.{same_Some}
use Rattle.std.proofs.lemmas.Bool.{false≢true}
use Rattle.std.proofs.lemmas.List.{append_assoc, append-nil}
use Rattle.p10_base.specs.Words.{Text}
use Rattle.p10_syn.specs.declared.sign.Sign.{Sign}
use Rattle.p10_syn.specs.declared.sign.Sign.TheVariants as sign
use Rattle.p10_syn.specs.Symbols.{Symbol, Fixed}
use Rattle.p10_syn.specs.Symbols as symbol
use Rattle.p10_syn.specs.Scopes.{Scope}
use Rattle.p10_syn.specs.Precedence.{level_of}
use Rattle.p10_syn.specs.Declaring.{after_statement}
use Rattle.p10_syn.specs.Spelling.{spell, spell_optional, spell_statement}
use Rattle.p10_syn.specs.Forms.{IsExpression, IsOptional}
use Rattle.p10_syn.specs.StatementForms.{IsStart, is_open, Item, Part, IsStatement}
use Rattle.p10_syn.specs.Trees.{Bare, Expression, Optional, Present, Statement, Evaluate, Block, IfElse, Switch, While, Do, For, Case, Default, Label, Goto, Break, Continue, Return, Declare, Pragma, Statements, NoStatements, MoreStatements, statement_row}
use Rattle.p10_pexpr.specs.Heads.{heads, expected, closed_by, name_at}
use Rattle.p10_pexpr.specs.Tables.{begins_specifiers}
use Rattle.p10_pexpr.specs.Readers.{Readers}
use Rattle.p10_pexpr.specs.DeclaratorReading.{plain_name}
use Rattle.p10_pexpr.proofs.Tools.{then_some, then_map, either, heads_is, expected_is, ended, name_takes}
use Rattle.p10_pexpr.proofs.Words.{Begins}
use Rattle.p10_pexpr.proofs.Taken.{Takes}
use Rattle.p10_parse.specs.declared.way.Way.{Way}
use Rattle.p10_parse.specs.declared.way.Way.TheVariants.{Ends, Braces, Ifs, Switches, Whiles, Dos, Fors, Cases, Defaults, Labels, Gotos, Breaks, Continues, Returns, Values}
use Rattle.p10_parse.specs.Ways.{way_of_sign, way_at, begins_declaration}
use Rattle.p10_parse.specs.DeclarationReading.{Builders, declaration_at}
use Rattle.p10_parse.specs.StatementReading.{value_then, optional_then, test_at, block_at, else_at, if_then_at, if_at, switch_at, while_at, do_while_at, do_at, start_at, for_body_at, for_step_at, for_test_at, for_start_at, for_at, case_at, default_at, labelled_at, label_at, goto_at, return_at, evaluate_at, statement_by, statement_once, declared_at, item_at, items_once}
use Rattle.p10_parse.proofs.Rows.{statement_list, statement_again}
use Rattle.p10_parse.proofs.Taken.{TookStatement, TookItems, TakesAll}
use Rattle.p10_parse.proofs.DeclarationTakes.{declaration_takes}

-- an expression and the sign after it
record TookValue (names : Scope) (level : ℕ) (s : Sign) (symbols : List Symbol) (p : Expression Bare × List Symbol) : Type 0 where
  formed : IsExpression names p.0
  high : level ≤ level_of p.0
  spelled : symbols ≡ spell p.0 (Fixed s ∷ p.1)

record TookMaybe (names : Scope) (s : Sign) (symbols : List Symbol) (p : Optional Bare × List Symbol) : Type 0 where
  formed : IsOptional names 1 p.0
  spelled : symbols ≡ spell_optional p.0 (Fixed s ∷ p.1)

record TookTest (names : Scope) (symbols : List Symbol) (p : Expression Bare × List Symbol) : Type 0 where
  formed : IsExpression names p.0
  spelled : symbols ≡ Fixed sign.Open ∷ spell p.0 (Fixed sign.Close ∷ p.1)

record TookStart (names : Scope) (symbols : List Symbol) (p : Statement Bare × List Symbol) : Type 0 where
  formed : IsStart names p.0
  spelled : symbols ≡ spell_statement p.0 p.1

record TookItem (names : Scope) (symbols : List Symbol) (p : Statement Bare × List Symbol) : Type 0 where
  formed : IsStatement names Item p.0
  spelled : symbols ≡ spell_statement p.0 p.1

abbrev Wayed : List Symbol → Way → Type 0
Wayed symbols Ends = Begins sign.Semicolon symbols
Wayed symbols Braces = Begins sign.OpenBrace symbols
Wayed symbols Ifs = Begins sign.If symbols
Wayed symbols Switches = Begins sign.Switch symbols
Wayed symbols Whiles = Begins sign.While symbols
Wayed symbols Dos = Begins sign.Do symbols
Wayed symbols Fors = Begins sign.For symbols
Wayed symbols Cases = Begins sign.Case symbols
Wayed symbols Defaults = Begins sign.Default symbols
Wayed symbols Labels = Unit {0}
Wayed symbols Gotos = Begins sign.Goto symbols
Wayed symbols Breaks = Begins sign.Break symbols
Wayed symbols Continues = Begins sign.Continue symbols
Wayed symbols Returns = Begins sign.Return symbols
Wayed symbols Values = Unit {0}

wayed_sign : (s : Sign) (rest : List Symbol) → Wayed (Fixed s ∷ rest) (way_of_sign s)
wayed_sign sign.Semicolon rest = refl
wayed_sign sign.OpenBrace rest = refl
wayed_sign sign.If rest = refl
wayed_sign sign.Switch rest = refl
wayed_sign sign.While rest = refl
wayed_sign sign.Do rest = refl
wayed_sign sign.For rest = refl
wayed_sign sign.Case rest = refl
wayed_sign sign.Default rest = refl
wayed_sign sign.Goto rest = refl
wayed_sign sign.Break rest = refl
wayed_sign sign.Continue rest = refl
wayed_sign sign.Return rest = refl
wayed_sign _ rest = tt

wayed_name : (x : Text) (rest : List Symbol) (b : Bool) → Wayed (symbol.Name x ∷ rest) (cond b Labels Values)
wayed_name x rest true = tt
wayed_name x rest false = tt

wayed : (symbols : List Symbol) → Wayed symbols (way_at symbols)
wayed [] = tt
wayed (symbol.Name x ∷ rest) = wayed_name x rest (heads sign.Colon rest)
wayed (Fixed s ∷ rest) = wayed_sign s rest
wayed (_ ∷ rest) = tt

-- a part of another statement may be an item of a block
part_item : (s : Statement Bare) (names : Scope) → IsStatement names Part s → IsStatement names Item s
part_item (Declare d) names h = absurd h.0
part_item (Pragma p x) names h = absurd h
part_item _ names h = h

never : {P : Type 0} → false ≡ true → P
never h = absurd (false≢true h)

not_open : (s : Statement Bare) (b : Bool) → is_open s ≡ b → (is_open s ≡ true → false ≡ true) → b ≡ false
not_open s true is h = absurd (false≢true (h is))
not_open s false is h = refl

module _ (e : Readers) (reads : Takes e) (r : Builders) (takes : TakesAll r) where
  took_is : (names : Scope) (symbols : List Symbol) (q p : Statement Bare × List Symbol) → q ≡ p → TookStatement names symbols q → TookStatement names symbols p
  took_is names symbols q p same t = subst (λ x. TookStatement names symbols x) same t

  -- ## Parts

  value_takes : (names : Scope) (level : ℕ) (s : Sign) (symbols : List Symbol) (p : Expression Bare × List Symbol) → value_then e r names level s symbols ≡ Some p → TookValue names level s symbols p
  value_takes names level s symbols p o = then_some (λ t. closed_by s t.0 t.1) (e.expression names level symbols) p o (λ t found e1.
      let k = reads.expression names level symbols t found in
      ended s t.0 t.1 p e1 (λ last closes same.
      subst (λ x. TookValue names level s symbols x) same (record { formed = k.formed; high = k.high; spelled = k.spelled ∙ ap (spell t.0) closes })))

  maybe_takes : (names : Scope) (s : Sign) (symbols : List Symbol) (p : Optional Bare × List Symbol) → optional_then e r names s symbols ≡ Some p → TookMaybe names s symbols p
  maybe_takes names s symbols p o = either (heads s symbols) _ _ _ o
      (λ on same. subst (λ x. TookMaybe names s symbols x) (same_Some _ _ same) (record { formed = tt; spelled = heads_is s symbols on }))
      (λ off e1. then_map (λ t. (Present t.0, t.1)) (value_then e r names 1 s symbols) p e1 (λ t found same.
      let k = value_takes names 1 s symbols t found in
      subst (λ x. TookMaybe names s symbols x) same (record { formed = (k.formed, k.high); spelled = k.spelled })))

  test_takes : (names : Scope) (symbols : List Symbol) (p : Expression Bare × List Symbol) → test_at e r names symbols ≡ Some p → TookTest names symbols p
  test_takes names symbols p o = then_some (value_then e r names 1 sign.Close) (expected sign.Open symbols) p o (λ more opens e1.
      let k = value_takes names 1 sign.Close more p e1 in
      record { formed = k.formed; spelled = expected_is sign.Open symbols more opens ∙ ap (λ x. Fixed sign.Open ∷ x) k.spelled })

  -- ## Statements

  block_takes : (names : Scope) (rest : List Symbol) (p : Statement Bare × List Symbol) → block_at e r names rest ≡ Some p → TookStatement names (Fixed sign.OpenBrace ∷ rest) p
  block_takes names rest p o = then_map (λ ss. (Block tt (statement_row ss.0), ss.1)) (r.items names [] rest) p o (λ ss read same.
      let k = takes.items names [] rest ss read in
      let row : statement_row ss.0 ≡ k.others = ap statement_row k.items ∙ statement_again k.others in
      took_is names _ (Block tt k.others, ss.1) p (ap (λ (x : Statements Bare). (Block tt x, ss.1)) (sym row) ∙ same)
      (record { formed = k.formed; spelled = ap (λ x. Fixed sign.OpenBrace ∷ x) k.spelled; clear = λ opened. never opened }))

  if_takes : (names : Scope) (rest : List Symbol) (p : Statement Bare × List Symbol) → if_at e r names rest ≡ Some p → TookStatement names (Fixed sign.If ∷ rest) p
  if_takes names rest p o = then_some (λ t. if_then_at e r names t.0 t.1) (test_at e r names rest) p o (λ t found e1.
      let kt = test_takes names rest t found in
      then_some (λ s. else_at e r names t.0 s.0 s.1) (r.statement names t.1) p e1 (λ s read e2.
      let ks = takes.statement names t.1 s read in
      let so_far : Fixed sign.If ∷ rest ≡ Fixed sign.If ∷ (Fixed sign.Open ∷ spell t.0 (Fixed sign.Close ∷ spell_statement s.0 s.1)) =
      ap (λ x. Fixed sign.If ∷ x) (kt.spelled ∙ ap (λ x. Fixed sign.Open ∷ spell t.0 (Fixed sign.Close ∷ x)) ks.spelled) in
      either (heads sign.Else s.1) _ _ _ e2
      (λ elses e3. then_map (λ u. (IfElse tt t.0 s.0 u.0, u.1)) (r.statement names (drop 1 s.1)) p e3 (λ u last same.
      let ku = takes.statement names (drop 1 s.1) u last in
      took_is names _ _ p same (record {
        formed = (kt.formed, ks.formed, not_open s.0 (is_open s.0) refl (λ opened. sym (ks.clear opened) ∙ elses), ku.formed);
        spelled = so_far ∙ ap (λ x. Fixed sign.If ∷ (Fixed sign.Open ∷ spell t.0 (Fixed sign.Close ∷ spell_statement s.0 x))) (heads_is sign.Else s.1 elses ∙ ap (λ x. Fixed sign.Else ∷ x) ku.spelled);
        clear = ku.clear;
      })))
      (λ off same. took_is names _ _ p (same_Some _ _ same) (record { formed = (kt.formed, ks.formed); spelled = so_far; clear = λ opened. off }))))

  switch_takes : (names : Scope) (rest : List Symbol) (p : Statement Bare × List Symbol) → switch_at e r names rest ≡ Some p → TookStatement names (Fixed sign.Switch ∷ rest) p
  switch_takes names rest p o = then_some (λ t. option_map (λ s. (Switch tt tt t.0 s.0, s.1)) (r.statement names t.1)) (test_at e r names rest) p o (λ t found e1.
      let kt = test_takes names rest t found in
      then_map (λ s. (Switch tt tt t.0 s.0, s.1)) (r.statement names t.1) p e1 (λ s read same.
      let ks = takes.statement names t.1 s read in
      took_is names _ _ p same (record { formed = (kt.formed, ks.formed); spelled = ap (λ x. Fixed sign.Switch ∷ x) (kt.spelled ∙ ap (λ x. Fixed sign.Open ∷ spell t.0 (Fixed sign.Close ∷ x)) ks.spelled); clear = ks.clear })))

  while_takes : (names : Scope) (rest : List Symbol) (p : Statement Bare × List Symbol) → while_at e r names rest ≡ Some p → TookStatement names (Fixed sign.While ∷ rest) p
  while_takes names rest p o = then_some (λ t. option_map (λ s. (While tt tt t.0 s.0, s.1)) (r.statement names t.1)) (test_at e r names rest) p o (λ t found e1.
      let kt = test_takes names rest t found in
      then_map (λ s. (While tt tt t.0 s.0, s.1)) (r.statement names t.1) p e1 (λ s read same.
      let ks = takes.statement names t.1 s read in
      took_is names _ _ p same (record { formed = (kt.formed, ks.formed); spelled = ap (λ x. Fixed sign.While ∷ x) (kt.spelled ∙ ap (λ x. Fixed sign.Open ∷ spell t.0 (Fixed sign.Close ∷ x)) ks.spelled); clear = ks.clear })))

  do_takes : (names : Scope) (rest : List Symbol) (p : Statement Bare × List Symbol) → do_at e r names rest ≡ Some p → TookStatement names (Fixed sign.Do ∷ rest) p
  do_takes names rest p o = then_some (λ s. do_while_at e r names s.0 s.1) (r.statement names rest) p o (λ s read e1.
      let ks = takes.statement names rest s read in
      then_some (λ more. option_and_then (λ t. closed_by sign.Semicolon (Do tt tt s.0 t.0) t.1) (test_at e r names more)) (expected sign.While s.1) p e1 (λ more whiles e2.
      then_some (λ t. closed_by sign.Semicolon (Do tt tt s.0 t.0) t.1) (test_at e r names more) p e2 (λ t found e3.
      let kt = test_takes names more t found in
      ended sign.Semicolon (Do tt tt s.0 t.0) t.1 p e3 (λ last closes same.
      took_is names _ _ p same (record {
        formed = (ks.formed, kt.formed);
        spelled = ap (λ x. Fixed sign.Do ∷ x) (ks.spelled ∙ ap (spell_statement s.0) (expected_is sign.While s.1 more whiles
            ∙ ap (λ x. Fixed sign.While ∷ x) (kt.spelled ∙ ap (λ x. Fixed sign.Open ∷ spell t.0 (Fixed sign.Close ∷ x)) closes)));
        clear = λ opened. never opened;
      })))))

  start_takes : (names : Scope) (symbols : List Symbol) (p : Statement Bare × List Symbol) → start_at e r names symbols ≡ Some p → TookStart names symbols p
  start_takes names symbols p o = either (begins_specifiers names symbols) _ _ _ o
      (λ on e1. then_map (λ d. (Declare d.0, d.1)) (declaration_at e r names symbols) p e1 (λ d found same.
      let k = declaration_takes e reads r takes names symbols d found in
      subst (λ x. TookStart names symbols x) same (record { formed = k.formed; spelled = k.spelled })))
      (λ off e1. either (heads sign.Semicolon symbols) _ _ _ e1
      (λ closes same. subst (λ x. TookStart names symbols x) (same_Some _ _ same) (record { formed = tt; spelled = heads_is sign.Semicolon symbols closes }))
      (λ off2 e2. then_map (λ t. (Evaluate tt t.0, t.1)) (value_then e r names 1 sign.Semicolon symbols) p e2 (λ t found same.
      let k = value_takes names 1 sign.Semicolon symbols t found in
      subst (λ x. TookStart names symbols x) same (record { formed = k.formed; spelled = k.spelled }))))

  for_takes : (names : Scope) (rest : List Symbol) (p : Statement Bare × List Symbol) → for_at e r names rest ≡ Some p → TookStatement names (Fixed sign.For ∷ rest) p
  for_takes names rest p o = then_some (for_start_at e r names) (expected sign.Open rest) p o (λ more opens e1.
      then_some (λ start. for_test_at e r (after_statement names start.0) start.0 start.1) (start_at e r names more) p e1 (λ start found e2.
      let k0 = start_takes names more start found in
      let within = after_statement names start.0 in
      then_some (λ test. for_step_at e r within start.0 test.0 test.1) (optional_then e r within sign.Semicolon start.1) p e2 (λ test found1 e3.
      let k1 = maybe_takes within sign.Semicolon start.1 test found1 in
      then_some (λ step. for_body_at e r within start.0 test.0 step.0 step.1) (optional_then e r within sign.Close test.1) p e3 (λ step found2 e4.
      let k2 = maybe_takes within sign.Close test.1 step found2 in
      then_map (λ s. (For tt tt start.0 test.0 step.0 s.0, s.1)) (r.statement within step.1) p e4 (λ s read same.
      let ks = takes.statement within step.1 s read in
      took_is names _ _ p same (record {
        formed = (k0.formed, k1.formed, k2.formed, ks.formed);
        spelled = ap (λ x. Fixed sign.For ∷ x) (expected_is sign.Open rest more opens ∙ ap (λ x. Fixed sign.Open ∷ x) (k0.spelled ∙ ap (spell_statement start.0)
            (k1.spelled ∙ ap (λ x. spell_optional test.0 (Fixed sign.Semicolon ∷ x)) (k2.spelled ∙ ap (λ x. spell_optional step.0 (Fixed sign.Close ∷ x)) ks.spelled))));
        clear = ks.clear;
      }))))))

  case_takes : (names : Scope) (rest : List Symbol) (p : Statement Bare × List Symbol) → case_at e r names rest ≡ Some p → TookStatement names (Fixed sign.Case ∷ rest) p
  case_takes names rest p o = then_some (λ t. option_map (λ s. (Case tt t.0 s.0, s.1)) (r.statement names t.1)) (value_then e r names 3 sign.Colon rest) p o (λ t found e1.
      let kt = value_takes names 3 sign.Colon rest t found in
      then_map (λ s. (Case tt t.0 s.0, s.1)) (r.statement names t.1) p e1 (λ s read same.
      let ks = takes.statement names t.1 s read in
      took_is names _ _ p same (record { formed = (kt.formed, kt.high, ks.formed); spelled = ap (λ x. Fixed sign.Case ∷ x) (kt.spelled ∙ ap (λ x. spell t.0 (Fixed sign.Colon ∷ x)) ks.spelled); clear = ks.clear })))

  default_takes : (names : Scope) (rest : List Symbol) (p : Statement Bare × List Symbol) → default_at e r names rest ≡ Some p → TookStatement names (Fixed sign.Default ∷ rest) p
  default_takes names rest p o = then_some (λ more. option_map (λ s. (Default tt s.0, s.1)) (r.statement names more)) (expected sign.Colon rest) p o (λ more colon e1.
      then_map (λ s. (Default tt s.0, s.1)) (r.statement names more) p e1 (λ s read same.
      let ks = takes.statement names more s read in
      took_is names _ _ p same (record { formed = ks.formed; spelled = ap (λ x. Fixed sign.Default ∷ x) (expected_is sign.Colon rest more colon ∙ ap (λ x. Fixed sign.Colon ∷ x) ks.spelled); clear = ks.clear })))

  label_takes : (names : Scope) (symbols : List Symbol) (p : Statement Bare × List Symbol) → label_at e r names symbols ≡ Some p → TookStatement names symbols p
  label_takes names symbols p o = then_some (λ x. labelled_at e r names x.0 x.1) (name_at symbols) p o (λ x found e1.
      then_some (λ more. option_map (λ s. (Label tt (plain_name x.0) s.0, s.1)) (r.statement names more)) (expected sign.Colon x.1) p e1 (λ more colon e2.
      then_map (λ s. (Label tt (plain_name x.0) s.0, s.1)) (r.statement names more) p e2 (λ s read same.
      let ks = takes.statement names more s read in
      took_is names _ _ p same (record { formed = ks.formed; spelled = name_takes symbols x found ∙ ap (λ y. symbol.Name x.0 ∷ y) (expected_is sign.Colon x.1 more colon ∙ ap (λ y. Fixed sign.Colon ∷ y) ks.spelled); clear = ks.clear }))))

  goto_takes : (names : Scope) (rest : List Symbol) (p : Statement Bare × List Symbol) → goto_at e r rest ≡ Some p → TookStatement names (Fixed sign.Goto ∷ rest) p
  goto_takes names rest p o = then_some (λ x. closed_by sign.Semicolon (Goto tt (plain_name x.0)) x.1) (name_at rest) p o (λ x found e1.
      ended sign.Semicolon (Goto tt (plain_name x.0)) x.1 p e1 (λ last closes same.
      took_is names _ _ p same (record { formed = tt; spelled = ap (λ y. Fixed sign.Goto ∷ y) (name_takes rest x found ∙ ap (λ y. symbol.Name x.0 ∷ y) closes); clear = λ opened. never opened })))

  return_takes : (names : Scope) (rest : List Symbol) (p : Statement Bare × List Symbol) → return_at e r names rest ≡ Some p → TookStatement names (Fixed sign.Return ∷ rest) p
  return_takes names rest p o = then_map (λ t. (Return tt tt t.0, t.1)) (optional_then e r names sign.Semicolon rest) p o (λ t found same.
      let k = maybe_takes names sign.Semicolon rest t found in
      took_is names _ _ p same (record { formed = k.formed; spelled = ap (λ x. Fixed sign.Return ∷ x) k.spelled; clear = λ opened. never opened }))

  evaluate_takes : (names : Scope) (symbols : List Symbol) (p : Statement Bare × List Symbol) → evaluate_at e r names symbols ≡ Some p → TookStatement names symbols p
  evaluate_takes names symbols p o = then_map (λ t. (Evaluate tt t.0, t.1)) (value_then e r names 1 sign.Semicolon symbols) p o (λ t found same.
      let k = value_takes names 1 sign.Semicolon symbols t found in
      took_is names symbols _ p same (record { formed = k.formed; spelled = k.spelled; clear = λ opened. never opened }))

  -- `break` or `continue`
  jump_takes : (names : Scope) (s : Sign) (j : Statement Bare) (rest : List Symbol) (p : Statement Bare × List Symbol) → ((last : List Symbol) → TookStatement names (Fixed s ∷ (Fixed sign.Semicolon ∷ last)) (j, last)) →
      closed_by sign.Semicolon j rest ≡ Some p → TookStatement names (Fixed s ∷ rest) p
  jump_takes names s j rest p took o = ended sign.Semicolon j rest p o (λ last closes same.
      took_is names (Fixed s ∷ rest) _ p same (subst (λ x. TookStatement names (Fixed s ∷ x) (j, last)) (sym closes) (took last)))

  statement_by_takes : (names : Scope) (way : Way) (symbols : List Symbol) (p : Statement Bare × List Symbol) → Wayed symbols way → statement_by e r names way symbols ≡ Some p → TookStatement names symbols p
  statement_by_takes names Ends symbols p w o = took_is names symbols _ p (same_Some _ _ o) (record { formed = tt; spelled = w; clear = λ opened. never opened })
  statement_by_takes names Braces symbols p w o = subst (λ x. TookStatement names x p) (sym w) (block_takes names (drop 1 symbols) p o)
  statement_by_takes names Ifs symbols p w o = subst (λ x. TookStatement names x p) (sym w) (if_takes names (drop 1 symbols) p o)
  statement_by_takes names Switches symbols p w o = subst (λ x. TookStatement names x p) (sym w) (switch_takes names (drop 1 symbols) p o)
  statement_by_takes names Whiles symbols p w o = subst (λ x. TookStatement names x p) (sym w) (while_takes names (drop 1 symbols) p o)
  statement_by_takes names Dos symbols p w o = subst (λ x. TookStatement names x p) (sym w) (do_takes names (drop 1 symbols) p o)
  statement_by_takes names Fors symbols p w o = subst (λ x. TookStatement names x p) (sym w) (for_takes names (drop 1 symbols) p o)
  statement_by_takes names Cases symbols p w o = subst (λ x. TookStatement names x p) (sym w) (case_takes names (drop 1 symbols) p o)
  statement_by_takes names Defaults symbols p w o = subst (λ x. TookStatement names x p) (sym w) (default_takes names (drop 1 symbols) p o)
  statement_by_takes names Labels symbols p w o = label_takes names symbols p o
  statement_by_takes names Gotos symbols p w o = subst (λ x. TookStatement names x p) (sym w) (goto_takes names (drop 1 symbols) p o)
  statement_by_takes names Breaks symbols p w o =
      subst (λ x. TookStatement names x p) (sym w) (jump_takes names sign.Break (Break tt) (drop 1 symbols) p (λ last. record { formed = tt; spelled = refl; clear = λ opened. never opened }) o)
  statement_by_takes names Continues symbols p w o =
      subst (λ x. TookStatement names x p) (sym w) (jump_takes names sign.Continue (Continue tt) (drop 1 symbols) p (λ last. record { formed = tt; spelled = refl; clear = λ opened. never opened }) o)
  statement_by_takes names Returns symbols p w o = subst (λ x. TookStatement names x p) (sym w) (return_takes names (drop 1 symbols) p o)
  statement_by_takes names Values symbols p w o = evaluate_takes names symbols p o

  pub statement_takes : (names : Scope) (symbols : List Symbol) (p : Statement Bare × List Symbol) → statement_once e r names symbols ≡ Some p → TookStatement names symbols p
  statement_takes names symbols p o = statement_by_takes names (way_at symbols) symbols p (wayed symbols) o

  -- ## Blocks

  other_item_takes : (names : Scope) (symbols : List Symbol) (p : Statement Bare × List Symbol) → cond (begins_declaration names symbols) (declared_at e r names symbols) (r.statement names symbols) ≡ Some p → TookItem names symbols p
  other_item_takes names symbols p o = either (begins_declaration names symbols) _ _ _ o
      (λ on e1. then_map (λ d. (Declare d.0, d.1)) (declaration_at e r names symbols) p e1 (λ d found same.
      let k = declaration_takes e reads r takes names symbols d found in
      subst (λ x. TookItem names symbols x) same (record { formed = (tt, k.formed); spelled = k.spelled })))
      (λ off e1. let k = takes.statement names symbols p e1 in record { formed = part_item p.0 names k.formed; spelled = k.spelled })

  item_takes : (names : Scope) (symbols : List Symbol) (p : Statement Bare × List Symbol) → item_at e r names symbols ≡ Some p → TookItem names symbols p
  item_takes names (symbol.Pragma x ∷ rest) p o = subst (λ q. TookItem names (symbol.Pragma x ∷ rest) q) (same_Some _ _ o) (record { formed = tt; spelled = refl })
  item_takes names symbols p o = other_item_takes names symbols p o

  pub items_take : (names : Scope) (done : List (Statement Bare)) (symbols : List Symbol) (p : List (Statement Bare) × List Symbol) → items_once e r names done symbols ≡ Some p → TookItems names done symbols p
  items_take names done symbols p o = either (heads sign.CloseBrace symbols) _ _ _ o
      (λ closes same. subst (λ x. TookItems names done symbols x) (same_Some _ _ same) (record { others = NoStatements; formed = tt; items = sym (append-nil done); spelled = heads_is sign.CloseBrace symbols closes }))
      (λ off e1. then_some (λ s. r.items (after_statement names s.0) (done ++ s.0 ∷ []) s.1) (item_at e r names symbols) p e1 (λ s found e2.
      let k = item_takes names symbols s found in
      let m = takes.items (after_statement names s.0) (done ++ s.0 ∷ []) s.1 p e2 in
      record { others = MoreStatements s.0 m.others; formed = (k.formed, m.formed); items = m.items ∙ append_assoc done (s.0 ∷ []) (statement_list m.others); spelled = k.spelled ∙ ap (spell_statement s.0) m.spelled }))

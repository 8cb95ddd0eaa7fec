-- Statements that are whole one after the other, and in one another.
use Rattle.std.proofs.Common.{◌≡◌, ℕ, suc, ◌+◌, ◌<◌, ◌≤◌, Bool, true, false, ◌&&◌, Result, Ok, Err, List, [], ◌∷◌, ◌++◌, length, take, drop, Option, Some, None, option_map, slice_get, rules, refl, ap, sym, ◌∙◌, subst, append_assoc, get_or, drop-cons, add-one}
use Rattle.std.specs.Prelude.{IfOk}
use Rattle.std.proofs.Math.Seq.{take-append_seam}
use Rattle.p10_base.specs.declared.at.At.{At}
use Rattle.p10_base.specs.declared.span.Span.{Span}
use Rattle.p10_core.specs.declared.statements.LoopHead.{LoopHead}
use Rattle.p10_core.specs.declared.statements.Stmt.{Stmt}
use Rattle.p10_core.specs.declared.statements.StmtForm.{StmtForm}
use Rattle.p10_core.specs.declared.statements.StmtForm.TheVariants.{If}
use Rattle.p10_core.specs.declared.statements.StmtForm.TheViews.{the_lemmas}
use Rattle.p10_core.specs.declared.typed.Value.{Value}
use Rattle.p10_core.specs.Whole.{Surroundings}
use Rattle.p10_core.specs.Typed.{PlainValue, PlainVariable, PlainInitializer, PlainLabels, PlainStatement, statement, PlainStatementForm, declare, block, if_then, if_else, loop, switch, PlainStatements, no_statements, more_statements}
use Rattle.p10_core.specs.Views.{plain_function, plain_statement, plain_statement_form, plain_statements, plain_value}
use Rattle.p10_core.specs.WholePrograms.{numbers_from, IsWholeInitializer, around, after, after_all, is_declaration, IsTest, IsMaybeTest, IsWholeStatement, IsWholeStatementForm, AreWholeStatements, AreClauses, Switches}
use Rattle.p10_whole.specs.declared.context.Context.{Context}
use Rattle.p10_whole.specs.private.Shows.{Shows}
use Rattle.p10_whole.proofs.Each.{drop_end}
use Rattle.p10_whole.proofs.Showing.{both_true}
use Rattle.p10_whole.specs.private.Surroundings.{scope_on}
use Rattle.p10_whole.specs.private.Regions.{region_in, declared_by, declared_here, all_declared_here, PassesForm, PassesStatement, PassesStatements, PassesPart, PassesBranch, IsSimple}

no_more : {X : Type 0} → (xs : List X) → xs ++ [] ≡ xs
no_more [] = refl
no_more (x ∷ xs) = ap (λ ys. x ∷ ys) (no_more xs)

-- the number that is put last stands first in the scope
pub scope_more : (ns : List ℕ) (n : ℕ) (base : List ℕ) → scope_on (ns ++ n ∷ []) base ≡ n ∷ scope_on ns base
scope_more [] n base = refl
scope_more (m ∷ ns) n base = scope_more ns n (m ∷ base)

pub region_more : (c : Context) (ns : List ℕ) (n : ℕ) → record (region_in c ns) { scope = n ∷ (region_in c ns).scope } ≡ region_in c (ns ++ n ∷ [])
region_more c ns n = ap (λ all. record (region_in c ns) { scope = all }) (sym (scope_more ns n (numbers_from 0 c.function.now.params)))

after_is : (c : Context) (ns : List ℕ) (s : PlainStatement) → after (region_in c ns) s ≡ region_in c (ns ++ declared_here s)
after_is c ns (statement at (declare n i)) = region_more c ns n
after_is c ns s = ap (region_in c) (sym (no_more ns))

pub after_all_is : (c : Context) (ns : List ℕ) (ss : PlainStatements) → after_all (region_in c ns) ss ≡ region_in c (ns ++ all_declared_here ss)
after_all_is c ns no_statements = ap (region_in c) (sym (no_more ns))
after_all_is c ns (more_statements s rest) =
    ap (λ r. after_all r rest) (after_is c ns s)
    ∙ after_all_is c (ns ++ declared_here s) rest
    ∙ ap (region_in c) (append_assoc ns (declared_here s) (all_declared_here rest))

-- ## Declarations

pub declares_is : (c : Context) (a : List ℕ) (n : ℕ) (i : PlainInitializer) (v : PlainVariable) (b ns : List ℕ) (u : Surroundings) (x y : Bool) → Some v ≡ slice_get (plain_function c.function.now).variables n → b ≡ a ++ n ∷ [] → ns ≡ b → u ≡ around (region_in c ns) → Shows x (c.function.now.params ≤ n) → Shows y (IsWholeInitializer u v.type i) → Shows (x && y) (PassesForm c a (declare n i) b)
declares_is c a n i v b ns u x y there put same view behind whole = record {
  shows = λ k.
      let both = both_true x y k in
      record {
        whole = record {
          variable = v;
          there = sym there;
          no_parameter = behind.shows both.0;
          initializer = subst (λ g. IsWholeInitializer (around g) v.type i) (ap (region_in c) (same ∙ put) ∙ sym (region_more c a n)) (subst (λ g. IsWholeInitializer g v.type i) view (whole.shows both.1));
        };
        scope = put;
      };
}

-- ## One after the other

pub none_pass : (c : Context) (ns : List ℕ) → PassesStatements c ns no_statements ns
none_pass c ns = record { whole = tt; scope = sym (no_more ns) }

one_then : (c : Context) (a : List ℕ) (s : PlainStatement) (b : List ℕ) (rest : PlainStatements) (z : List ℕ) → PassesStatement c a s b → PassesStatements c b rest z → PassesStatements c a (more_statements s rest) z
one_then c a s b rest z p q = record {
  whole = (p.whole, subst (λ r. AreWholeStatements r rest) (ap (region_in c) p.scope ∙ sym (after_is c a s)) q.whole);
  scope = q.scope ∙ ap (λ ns. ns ++ all_declared_here rest) p.scope ∙ append_assoc a (declared_here s) (all_declared_here rest);
}

pub cut_statements : (all : List Stmt) (i : ℕ) (s : Stmt) → i < length all → s ≡ get_or all i s → plain_statements (drop i all) ≡ more_statements (plain_statement s) (plain_statements (drop (i + 1) all))
cut_statements all i s below is =
    ap plain_statements (drop-cons all i s below)
    ∙ ap (λ x. more_statements (plain_statement x) (plain_statements (drop (suc i) all))) (sym is)
    ∙ ap (λ n. more_statements (plain_statement s) (plain_statements (drop n all))) (sym (add-one i))

-- none is left at the end
pub end_passes : (c : Context) (a : List ℕ) (all : List Stmt) (i : ℕ) → length all ≤ i → PassesStatements c a (plain_statements (drop i all)) a
end_passes c a all i b = subst (λ ss. PassesStatements c a (plain_statements ss) a) (sym (drop_end all i b)) (none_pass c a)

-- what is left after one more
pub next_passes : (c : Context) (start a : List ℕ) (whole : PlainStatements) (all : List Stmt) (i : ℕ) (s : Stmt) (b : List ℕ) → i < length all → s ≡ get_or all i s → PassesStatement c a (plain_statement s) b →
    ((z : List ℕ) → PassesStatements c a (plain_statements (drop i all)) z → PassesStatements c start whole z) →
    (z : List ℕ) → PassesStatements c b (plain_statements (drop (i + 1) all)) z → PassesStatements c start whole z
next_passes c start a whole all i s b below is p before z q =
    before z (subst (λ ss. PassesStatements c a ss z) (sym (cut_statements all i s below is)) (one_then c a (plain_statement s) b _ z p q))

-- ## Forms

pub by_form : (c : Context) (a : List ℕ) (at : At) (f g : PlainStatementForm) (b : List ℕ) (r : Bool) → f ≡ g → Shows r (PassesForm c a g b) → Shows r (PassesStatement c a (statement at f) b)
by_form c a at f g b r e h = record {
  shows = λ t. record {
    whole = subst (IsWholeStatementForm (region_in c a)) (sym e) (h.shows t).whole;
    scope = (h.shows t).scope ∙ ap (λ x. a ++ declared_by x) (sym e);
  };
}

pub by_simple : (c : Context) (a ns : List ℕ) (at : At) (f : PlainStatementForm) (r : Bool) → ns ≡ a → Shows r (IsSimple c ns f) → Shows r (PassesStatement c a (statement at f) a)
by_simple c a ns at f r e h = record {
  shows = λ t. record {
    whole = subst (λ xs. IsWholeStatementForm (region_in c xs) f) e (h.shows t).whole;
    scope = sym (ap (λ xs. a ++ xs) (h.shows t).declares_none ∙ no_more a);
  };
}

pub by_part : (c : Context) (a : List ℕ) (s : PlainStatement) (b : List ℕ) (r : Bool) → is_declaration s ≡ false → Shows r (PassesStatement c a s b) → Shows r (PassesPart c a s b)
by_part c a s b r d h = record {
  shows = λ t. record {
    whole = (h.shows t).whole;
    no_declaration = d;
    scope = (h.shows t).scope ∙ ap (λ xs. a ++ xs) (declares_none s d) ∙ no_more a;
  };
}
  where
    declares_none : (s : PlainStatement) → is_declaration s ≡ false → declared_here s ≡ []
    declares_none (statement at (declare n i)) e = absurd cc
    declares_none s e = refl

-- numbers that were put are taken off
pub taken_off : (a x b : List ℕ) (n : ℕ) → b ≡ a ++ x → n ≡ length a → take n b ≡ a
taken_off a x b n e l = ap (λ k. take k b) l ∙ ap (take (length a)) e ∙ take-append_seam a x

pub by_block : (c : Context) (a : List ℕ) (ss : PlainStatements) (b z : List ℕ) (n : ℕ) (r : Bool) → n ≡ length a → z ≡ take n b → Shows r (PassesStatements c a ss b) → Shows r (PassesForm c a (block ss) z)
by_block c a ss b z n r l e h = record {
  shows = λ t. record {
    whole = (h.shows t).whole;
    scope = e ∙ taken_off a _ b n (h.shows t).scope l ∙ sym (no_more a);
  };
}

by_if : (c : Context) (a ns : List ℕ) (at : At) (f : PlainStatementForm) (v : PlainValue) (s : PlainStatement) (b z : List ℕ) (u r q : Bool) → f ≡ if_then v s → ns ≡ a → Shows u (IsTest (around (region_in c ns)) v) → Shows r (PassesPart c a s b) → Shows q (z ≡ b) → Shows (u && (r && q)) (PassesStatement c a (statement at f) z)
by_if c a ns at f v s b z u r q e same tested part kept = by_form c a at f (if_then v s) z (u && (r && q)) e (record {
  shows = λ k.
      let outer = both_true u (r && q) k in
      let inner = both_true r q outer.1 in
      let p = part.shows inner.0 in
      record {
        whole = (subst (λ x. IsTest (around (region_in c x)) v) same (tested.shows outer.0), p.whole, p.no_declaration);
        scope = kept.shows inner.1 ∙ p.scope ∙ sym (no_more a);
      };
})

by_choice : (c : Context) (a ns : List ℕ) (at : At) (f : PlainStatementForm) (v : PlainValue) (s t : PlainStatement) (b z : List ℕ) (u r q : Bool) → f ≡ if_else v s t → ns ≡ a → Shows u (IsTest (around (region_in c ns)) v) → Shows r (PassesPart c a s b) → Shows q (PassesPart c b t z) → Shows (u && (r && q)) (PassesStatement c a (statement at f) z)
by_choice c a ns at f v s t b z u r q e same tested part other = by_form c a at f (if_else v s t) z (u && (r && q)) e (record {
  shows = λ k.
      let outer = both_true u (r && q) k in
      let inner = both_true r q outer.1 in
      let p = part.shows inner.0 in
      let o = other.shows inner.1 in
      record {
        whole = (subst (λ x. IsTest (around (region_in c x)) v) same (tested.shows outer.0), p.whole, subst (λ xs. IsWholeStatement (region_in c xs) t) p.scope o.whole, p.no_declaration, o.no_declaration);
        scope = o.scope ∙ p.scope ∙ sym (no_more a);
      };
})

plain_then : (v : Value) (then : _) → plain_statement_form (If v then None) ≡ if_then (plain_value v) (plain_statement then.value)
plain_then v then = search (rules, the_lemmas)

plain_else : (v : Value) (then : _) (other : _) → plain_statement_form (If v then (Some other)) ≡ if_else (plain_value v) (plain_statement then.value) (plain_statement other.value)
plain_else v then other = search (rules, the_lemmas)

-- an `if`, with or without `else`
pub if_is : (c : Context) (a ns : List ℕ) (at : At) (f : StmtForm) (v : Value) (then : _) (other : _) (first : Stmt) (b z : List ℕ) (u r q : Bool) → f ≡ If v then other → first ≡ then.value → ns ≡ a → Shows u (IsTest (around (region_in c ns)) (plain_value v)) → Shows r (PassesPart c a (plain_statement first) b) → Shows q (PassesBranch c b (option_map (λ x. plain_statement x.value) other) z) → Shows (u && (r && q)) (PassesStatement c a (statement at (plain_statement_form f)) z)
if_is c a ns at f v then None first b z u r q e is same tested part branch =
    by_if c a ns at (plain_statement_form f) (plain_value v) (plain_statement first) b z u r q (ap plain_statement_form e ∙ plain_then v then ∙ ap (λ (x : Stmt). if_then (plain_value v) (plain_statement x)) (sym is)) same tested part branch
if_is c a ns at f v then (Some other) first b z u r q e is same tested part branch =
    by_choice c a ns at (plain_statement_form f) (plain_value v) (plain_statement first) (plain_statement other.value) b z u r q (ap plain_statement_form e ∙ plain_else v then other ∙ ap (λ (x : Stmt). if_else (plain_value v) (plain_statement x) (plain_statement other.value)) (sym is)) same tested part branch

pub by_switch : (c d : Context) (a ns : List ℕ) (span : Span) (v : PlainValue) (labels : PlainLabels) (s : PlainStatement) (b : List ℕ) (r : Bool) → ns ≡ a → Switches (around (region_in c ns)) v labels s → ((ns : List ℕ) → region_in d ns ≡ record (region_in c ns) { in_switch = true }) → Shows r (PassesPart d a s b) → Shows r (PassesForm c a (switch span v labels s) b)
by_switch c d a ns span v labels s b r e w f h = record {
  shows = λ t. record {
    whole = (subst (λ x. Switches (around (region_in c x)) v labels s) e w, subst (λ x. IsWholeStatement x s) (f a) (h.shows t).whole);
    scope = (h.shows t).scope ∙ sym (no_more a);
  };
}

-- a loop, with what is in scope after its first clause, after its third, and after its body
pub by_loop : (c d : Context) (a : List ℕ) (at : At) (f : PlainStatementForm) (head : LoopHead) (first : PlainStatements) (test : Option PlainValue) (third : PlainStatements) (body : PlainStatement) (b x w z ns : List ℕ) (outer : ℕ) (o t s r : Bool) →
    f ≡ loop head first test third body → AreClauses head.keyword first test third →
    Shows o (PassesStatements c a first b) → ns ≡ b → Shows t (IsMaybeTest (around (region_in c ns)) test) → Shows s (PassesForm c b (block third) x) → outer ≡ length a →
    ((ms : List ℕ) → region_in d ms ≡ record (region_in c ms) { in_loop = true }) → Shows r (PassesPart d x body w) → z ≡ take outer w → Shows ((o && t) && (s && r)) (PassesStatement c a (statement at f) z)
by_loop c d a at f head first test third body b x w z ns outer o t s r form clauses opens e tests steps l g whole last = by_form c a at f (loop head first test third body) z ((o && t) && (s && r)) form (record {
  shows = λ k.
      let outside = both_true (o && t) (s && r) k in
      let early = both_true o t outside.0 in
      let late = both_true s r outside.1 in
      let p = opens.shows early.0 in
      let q = steps.shows late.0 in
      let h = whole.shows late.1 in
      let opened : region_in c b ≡ after_all (region_in c a) first = ap (region_in c) p.scope ∙ sym (after_all_is c a first) in
      let back : x ≡ b = q.scope ∙ no_more b in
      record {
        whole = (
          p.whole,
          subst (λ y. IsMaybeTest (around y) test) opened (subst (λ y. IsMaybeTest (around (region_in c y)) test) e (tests.shows early.1)),
          subst (λ y. AreWholeStatements y third) opened q.whole,
          subst (λ y. IsWholeStatement (record y { in_loop = true }) body) (ap (region_in c) back ∙ opened) (subst (λ y. IsWholeStatement y body) (g x) h.whole),
          clauses,
          h.no_declaration,
        );
        scope = last ∙ taken_off a _ w outer (h.scope ∙ back ∙ p.scope) l ∙ sym (no_more a);
      };
})

-- ## Results

pub form_ok : {E : Type 0} → (c : Context) (a : List ℕ) (at : At) (f g : PlainStatementForm) (b : List ℕ) (r : Result Bool E) → f ≡ g → IfOk r (λ x. Shows x (PassesForm c a g b)) → IfOk r (λ x. Shows x (PassesStatement c a (statement at f) b))
form_ok c a at f g b (Ok x) e h = by_form c a at f g b x e h
form_ok c a at f g b (Err y) e h = tt

pub part_ok : {E : Type 0} → (c : Context) (a : List ℕ) (s : PlainStatement) (b : List ℕ) (r : Result Bool E) → is_declaration s ≡ false → IfOk r (λ x. Shows x (PassesStatement c a s b)) → IfOk r (λ x. Shows x (PassesPart c a s b))
part_ok c a s b (Ok x) d h = by_part c a s b x d h
part_ok c a s b (Err y) d h = tt

pub switch_ok : {E : Type 0} → (c d : Context) (a ns : List ℕ) (v : PlainValue) (labels : PlainLabels) (s : PlainStatement) (b : List ℕ) (r : Result Bool E) → ns ≡ a → Switches (around (region_in c ns)) v labels s → ((ms : List ℕ) → region_in d ms ≡ record (region_in c ms) { in_switch = true }) → IfOk r (λ x. Shows x (PassesPart d a s b)) → IfOk r (λ x. (span : Span) → Shows x (PassesForm c a (switch span v labels s) b))
switch_ok c d a ns v labels s b (Ok x) e w f h = λ span. by_switch c d a ns span v labels s b x e w f h
switch_ok c d a ns v labels s b (Err y) e w f h = tt

pub any_span : {E : Type 0} → (c : Context) (a : List ℕ) (span : Span) (v : PlainValue) (labels : PlainLabels) (s : PlainStatement) (b : List ℕ) (r : Result Bool E) → IfOk r (λ x. (k : Span) → Shows x (PassesForm c a (switch k v labels s) b)) → IfOk r (λ x. Shows x (PassesForm c a (switch span v labels s) b))
any_span c a span v labels s b (Ok x) h = h span
any_span c a span v labels s b (Err y) h = tt

-- Which variables are known at the ends of a part: the same as before it, apart from some; the rules for parts in order.
use Rattle.std.proofs.Common.{◌≡◌, ℕ, Bool, true, false, List, [], ◌∷◌, ◌++◌, refl, ◌∙◌, ap, sym, Option, Some, None}
use Rattle.std.specs.Prelude.{is_some, if◌then◌else◌}
use Rattle.std.specs.Option.{option_map}
use Rattle.p10_base.specs.declared.span.Span.{Span}
use Rattle.p10_core.specs.declared.statements.LoopKeyword.{LoopKeyword}
use Rattle.p10_core.specs.declared.statements.LoopKeyword.TheVariants.{While, Do, For}
use Rattle.p10_core.specs.Typed.{PlainValue, PlainStatement, statement, set, update, copy, evaluate, asserts, PlainStatements, no_statements, more_statements, PlainVariable}
use Rattle.p10_core.specs.WholePrograms.{is_among, is_expression, AllOf, AreClauses, declared_in, declared_of}
use Rattle.p10_absx.specs.Abstract.{Abstract}
use Rattle.p10_absx.specs.Environments.{Environment, known, hull_entry, hull_reached}
use Rattle.p10_pass.specs.Scopes.{left_scope, changed_each}
use Rattle.p10_pass.specs.Passing.{Left, nowhere, reached, where_going, followed, beside, with_calls, as_block}
use Rattle.p10_execution.specs.Scoping.{IsNumber, KnowsNumbers, IsBefore}
use Rattle.p10_execution.proofs.Numbers.{among_left, among_right, once_left, once_right, once_apart}
use Rattle.p10_execution.proofs.Entries.{known_hull, changed_knows}
use Rattle.p10_execution.proofs.AssessedScopes.{SameScope, MaybeSame}
use Rattle.p10_execution.proofs.TopDeclarations.{declares_here, declares_at_top, here_is_declared, top_is_declared, left_here, left_other}

-- nothing is declared
abbrev pub nothing : ℕ → Bool
nothing n = false

-- the third clause of a loop declares nothing
expression_declares : (x : PlainStatement) → is_expression x ≡ true → declared_in x ≡ []
expression_declares (statement at (set p v)) e = refl
expression_declares (statement at (update kind op t p v)) e = refl
expression_declares (statement at (copy p q)) e = refl
expression_declares (statement at (evaluate v)) e = refl
expression_declares (statement at (asserts call v)) e = refl
expression_declares x e = absurd cc

expressions_declare : (xs : PlainStatements) → AllOf is_expression xs → declared_of xs ≡ []
expressions_declare no_statements h = refl
expressions_declare (more_statements x rest) h = ap (λ ns. ns ++ declared_of rest) (expression_declares x h.0) ∙ expressions_declare rest h.1

-- ... and consists of expressions
pub third_expressions : (keyword : LoopKeyword) (first : PlainStatements) (tested : Option PlainValue) (third : PlainStatements) → AreClauses keyword first tested third → AllOf is_expression third
third_expressions For first tested third h = h.1
third_expressions While no_statements (Some v) no_statements h = tt
third_expressions Do no_statements (Some v) no_statements h = tt
third_expressions keyword first tested third h = absurd h

pub third_declares : (keyword : LoopKeyword) (first : PlainStatements) (tested : Option PlainValue) (third : PlainStatements) → AreClauses keyword first tested third → declared_of third ≡ []
third_declares keyword first tested third h = expressions_declare third (third_expressions keyword first tested third h)

module _ (variables : List PlainVariable) where
  -- an environment knows the same variables as another one, apart from some, and integer frame variables alone
  pub record Scoped (but : ℕ → Bool) (env other : Environment) : Type 0 where
    pub same : (n : ℕ) → but n ≡ false → is_some (known other n) ≡ is_some (known env n)
    pub knows : KnowsNumbers variables other

  abbrev pub MaybeScoped : (ℕ → Bool) → Environment → Option Environment → Type 0
  MaybeScoped but env None = Unit {0}
  MaybeScoped but env (Some other) = Scoped but env other

  -- the same for each end
  pub record EndsScoped (but : ℕ → Bool) (env : Environment) (a : Left) : Type 0 where
    pub normal : MaybeScoped but env a.normal
    pub breaks : MaybeScoped but env a.breaks
    pub continues : MaybeScoped but env a.continues
    pub returns : MaybeScoped but env a.returns

  -- ## Rules

  knows_same : (env other : Environment) → KnowsNumbers variables env → SameScope env other → KnowsNumbers variables other
  knows_same env other k h = record { each = λ n e. k.each n (sym (h.same n) ∙ e) }

  pub scoped_here : (but : ℕ → Bool) (env : Environment) → KnowsNumbers variables env → Scoped but env env
  scoped_here but env k = record { same = λ n e. refl; knows = k }

  pub scoped_same : (but : ℕ → Bool) (env other : Environment) → KnowsNumbers variables env → SameScope env other → Scoped but env other
  scoped_same but env other k h = record { same = λ n e. h.same n; knows = knows_same env other k h }

  pub maybe_same : (but : ℕ → Bool) (env : Environment) (o : Option Environment) → KnowsNumbers variables env → MaybeSame env o → MaybeScoped but env o
  maybe_same but env None k h = tt
  maybe_same but env (Some other) k h = scoped_same but env other k h

  pub scoped_trans : (but : ℕ → Bool) (a b c : Environment) → Scoped but a b → Scoped but b c → Scoped but a c
  scoped_trans but a b c h k = record { same = λ n e. k.same n e ∙ h.same n e; knows = k.knows }

  pub maybe_trans : (but : ℕ → Bool) (a b : Environment) (o : Option Environment) → Scoped but a b → MaybeScoped but b o → MaybeScoped but a o
  maybe_trans but a b None h k = tt
  maybe_trans but a b (Some c) h k = scoped_trans but a b c h k

  pub ends_trans : (but : ℕ → Bool) (a b : Environment) (l : Left) → Scoped but a b → EndsScoped but b l → EndsScoped but a l
  ends_trans but a b l h k = record {
    normal = maybe_trans but a b l.normal h k.normal;
    breaks = maybe_trans but a b l.breaks h k.breaks;
    continues = maybe_trans but a b l.continues h k.continues;
    returns = maybe_trans but a b l.returns h k.returns;
  }

  maybe_wider : (but wider : ℕ → Bool) (env : Environment) (o : Option Environment) → ((n : ℕ) → wider n ≡ false → but n ≡ false) → MaybeScoped but env o → MaybeScoped wider env o
  maybe_wider but wider env None f h = tt
  maybe_wider but wider env (Some other) f h = record { same = λ n e. h.same n (f n e); knows = h.knows }

  pub ends_wider : (but wider : ℕ → Bool) (env : Environment) (l : Left) → ((n : ℕ) → wider n ≡ false → but n ≡ false) → EndsScoped but env l → EndsScoped wider env l
  ends_wider but wider env l f h = record {
    normal = maybe_wider but wider env l.normal f h.normal;
    breaks = maybe_wider but wider env l.breaks f h.breaks;
    continues = maybe_wider but wider env l.continues f h.continues;
    returns = maybe_wider but wider env l.returns f h.returns;
  }

  hull_scoped : (but : ℕ → Bool) (env a b : Environment) → Scoped but env a → Scoped but env b → MaybeScoped but env (hull_reached (Some a) (Some b))
  hull_scoped but env a b h k = record {
    same = λ n e. ap is_some (known_hull a b n) ∙ (at (known a n) (known b n) (k.same n e ∙ sym (h.same n e)) ∙ h.same n e);
    knows = record { each = λ n e. h.knows.each n (left_of (known a n) (known b n) (sym (ap is_some (known_hull a b n)) ∙ e)) };
  }
    where
      at : (x y : Option Abstract) → is_some y ≡ is_some x → is_some (hull_entry x y) ≡ is_some x
      at None y e = refl
      at (Some x) None e = e
      at (Some x) (Some y) e = refl

      left_of : (x y : Option Abstract) → is_some (hull_entry x y) ≡ true → is_some x ≡ true
      left_of None y e = e
      left_of (Some x) y e = refl

  pub reached_scoped : (but : ℕ → Bool) (env : Environment) (a b : Option Environment) → MaybeScoped but env a → MaybeScoped but env b → MaybeScoped but env (hull_reached a b)
  reached_scoped but env None b h k = k
  reached_scoped but env (Some a) None h k = h
  reached_scoped but env (Some a) (Some b) h k = hull_scoped but env a b h k

  pub nowhere_scoped : (but : ℕ → Bool) (env : Environment) → EndsScoped but env nowhere
  nowhere_scoped but env = record { normal = tt; breaks = tt; continues = tt; returns = tt }

  pub reaches : (but : ℕ → Bool) (env : Environment) (o : Option Environment) → MaybeScoped but env o → EndsScoped but env (reached o)
  reaches but env o h = record { normal = h; breaks = tt; continues = tt; returns = tt }

  pub followed_scoped : (but : ℕ → Bool) (env : Environment) (a b : Left) → EndsScoped but env a → EndsScoped but env b → EndsScoped but env (followed a b)
  followed_scoped but env a b h k = record {
    normal = k.normal;
    breaks = reached_scoped but env a.breaks b.breaks h.breaks k.breaks;
    continues = reached_scoped but env a.continues b.continues h.continues k.continues;
    returns = reached_scoped but env a.returns b.returns h.returns k.returns;
  }

  pub beside_scoped : (but : ℕ → Bool) (env : Environment) (a b : Left) → EndsScoped but env a → EndsScoped but env b → EndsScoped but env (beside a b)
  beside_scoped but env a b h k = record {
    normal = reached_scoped but env a.normal b.normal h.normal k.normal;
    breaks = reached_scoped but env a.breaks b.breaks h.breaks k.breaks;
    continues = reached_scoped but env a.continues b.continues h.continues k.continues;
    returns = reached_scoped but env a.returns b.returns h.returns k.returns;
  }

  pub calls_scoped : (but : ℕ → Bool) (env : Environment) (names : List Span) (a : Left) → EndsScoped but env a → EndsScoped but env (with_calls names a)
  calls_scoped but env names a h = record { normal = h.normal; breaks = h.breaks; continues = h.continues; returns = h.returns }

  pub going_scoped : (but : ℕ → Bool) (env : Environment) (o : Option Environment) (go : Environment → Left) → MaybeScoped but env o → ((e : Environment) → Scoped but env e → EndsScoped but e (go e)) → EndsScoped but env (where_going o go)
  going_scoped but env None go h k = nowhere_scoped but env
  going_scoped but env (Some e) go h k = ends_trans but env e (go e) h (k e h)

  pub if_scoped : (but : ℕ → Bool) (env : Environment) (b : Bool) (x y : Option Environment) → MaybeScoped but env x → MaybeScoped but env y → MaybeScoped but env (if b then x else y)
  if_scoped but env true x y h k = h
  if_scoped but env false x y h k = k

  pub map_scoped : (but : ℕ → Bool) (env : Environment) (f : Environment → Environment) (o : Option Environment) → ((e : Environment) → Scoped but env e → Scoped but env (f e)) → MaybeScoped but env o → MaybeScoped but env (option_map f o)
  map_scoped but env f None k h = tt
  map_scoped but env f (Some e) k h = k e h

  -- each entry is changed
  pub changed_scope : (f : ℕ → PlainVariable → Abstract → Abstract) (env : Environment) → SameScope env (changed_each f 0 variables env)
  changed_scope f env = record { same = λ n. changed_knows f 0 variables env n }

  -- ## Before statements

  pub before_left : (xs ys : List ℕ) (env : Environment) → IsBefore variables (xs ++ ys) env → IsBefore variables xs env
  before_left xs ys env b = record { knows = b.knows; once = once_left xs ys b.once; fresh = λ n e. b.fresh n (among_left n xs ys e) }

  pub before_right : (xs ys : List ℕ) (env : Environment) → IsBefore variables (xs ++ ys) env → IsBefore variables ys env
  before_right xs ys env b = record { knows = b.knows; once = once_right xs ys b.once; fresh = λ n e. b.fresh n (among_right n xs ys e) }

  pub before_scoped : (but : ℕ → Bool) (numbers : List ℕ) (env other : Environment) → IsBefore variables numbers env → Scoped but env other → ((n : ℕ) → is_among n numbers ≡ true → but n ≡ false) → IsBefore variables numbers other
  before_scoped but numbers env other b s f = record { knows = s.knows; once = b.once; fresh = λ n e. s.same n (f n e) ∙ b.fresh n e }

  pub before_same : (numbers : List ℕ) (env other : Environment) → IsBefore variables numbers env → SameScope env other → IsBefore variables numbers other
  before_same numbers env other b s = before_scoped nothing numbers env other b (scoped_same nothing env other b.knows s) (λ n e. refl)

  pub before_nothing : (numbers : List ℕ) (env : Environment) → numbers ≡ [] → KnowsNumbers variables env → IsBefore variables numbers env
  before_nothing [] env e k = record { knows = k; once = tt; fresh = λ n e. absurd cc }
  before_nothing (n ∷ ns) env e k = absurd cc

  -- the rest after a statement that declares something itself
  pub before_rest : (x : PlainStatement) (rest : PlainStatements) (env other : Environment) → IsBefore variables (declared_in x ++ declared_of rest) env → Scoped (λ n. declares_here n x) env other → IsBefore variables (declared_of rest) other
  before_rest x rest env other b s = before_scoped (λ n. declares_here n x) (declared_of rest) env other (before_right (declared_in x) (declared_of rest) env b) s
      (λ n e. apart n (declares_here n x) refl (once_apart n (declared_in x) (declared_of rest) b.once e))
    where
      apart : (n : ℕ) (here : Bool) → declares_here n x ≡ here → is_among n (declared_in x) ≡ false → declares_here n x ≡ false
      apart n true q e = let p : is_among n (declared_in x) ≡ true = here_is_declared n x q in absurd cc
      apart n false q e = q

  -- a part of a loop after its first clause
  pub before_body : (first : PlainStatements) (numbers : List ℕ) (env other : Environment) → IsBefore variables (declared_of first ++ numbers) env → Scoped (λ n. declares_at_top n first) env other → IsBefore variables numbers other
  before_body first numbers env other b s = before_scoped (λ n. declares_at_top n first) numbers env other (before_right (declared_of first) numbers env b) s
      (λ n e. apart n (declares_at_top n first) refl (once_apart n (declared_of first) numbers b.once e))
    where
      apart : (n : ℕ) (here : Bool) → declares_at_top n first ≡ here → is_among n (declared_of first) ≡ false → declares_at_top n first ≡ false
      apart n true q e = let p : is_among n (declared_of first) ≡ true = top_is_declared n first q in absurd cc
      apart n false q e = q

  -- ## Blocks

  left_scoped : (xs : PlainStatements) (env e : Environment) → IsBefore variables (declared_of xs) env → Scoped (λ n. declares_at_top n xs) env e → Scoped nothing env (left_scope xs e)
  left_scoped xs env e b s = record { same = λ n o. same n (declares_at_top n xs) refl; knows = record { each = λ n k. knows n (declares_at_top n xs) refl k } }
    where
      same : (n : ℕ) (top : Bool) → declares_at_top n xs ≡ top → is_some (known (left_scope xs e) n) ≡ is_some (known env n)
      same n true q = ap is_some (left_here xs e n q) ∙ sym (b.fresh n (top_is_declared n xs q))
      same n false q = ap is_some (left_other xs e n q) ∙ s.same n q

      knows : (n : ℕ) (top : Bool) → declares_at_top n xs ≡ top → is_some (known (left_scope xs e) n) ≡ true → IsNumber variables n
      knows n true q k = let gone : is_some (known (left_scope xs e) n) ≡ false = ap is_some (left_here xs e n q) in absurd cc
      knows n false q k = s.knows.each n (sym (ap is_some (left_other xs e n q)) ∙ k)

  maybe_left : (xs : PlainStatements) (env : Environment) (o : Option Environment) → IsBefore variables (declared_of xs) env → MaybeScoped (λ n. declares_at_top n xs) env o → MaybeScoped nothing env (option_map (left_scope xs) o)
  maybe_left xs env None b h = tt
  maybe_left xs env (Some e) b h = left_scoped xs env e b h

  pub block_scoped : (xs : PlainStatements) (env : Environment) (a : Left) → IsBefore variables (declared_of xs) env → EndsScoped (λ n. declares_at_top n xs) env a → EndsScoped nothing env (as_block xs a)
  block_scoped xs env a b h = record {
    normal = maybe_left xs env a.normal b h.normal;
    breaks = maybe_left xs env a.breaks b h.breaks;
    continues = maybe_left xs env a.continues b h.continues;
    returns = maybe_left xs env a.returns b h.returns;
  }

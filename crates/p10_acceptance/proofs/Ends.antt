-- The ends of a part that a pass finds are narrower than those of a trial pass from a wider environment, and none of its conditions fails.
use Rattle.std.proofs.Common.{◌≡◌, ℕ, zero, suc, ◌<◌, length, Bool, true, false, List, [], ◌∷◌, ◌++◌, Option, Some, None, refl, ap, sym, ◌∙◌, subst, arith}
use Rattle.std.specs.Prelude.{slice_get, if◌then◌else◌, is_some, is_none, IfSome}
use Rattle.std.specs.Option.{option_map, option_and_then}
use Rattle.std.proofs.lemmas.Option.{same_Some, none-some}
use Rattle.p10_base.specs.declared.span.Span.{Span}
use Rattle.p10_int.specs.declared.types.IntType.{IntType}
use Rattle.p10_int.specs.declared.operators.BinOp.{BinOp}
use Rattle.p10_range.specs.Ranges.{Interval, IsInhabited, IsWithin}
use Rattle.p10_range.specs.Rows.{values_of}
use Rattle.p10_range.specs.Laws.{IsOfType}
use Rattle.p10_core.specs.Types.{PlainType}
use Rattle.p10_core.specs.Constants.{integer_of}
use Rattle.p10_core.specs.Rows.{is_integer}
use Rattle.p10_core.specs.Typed.{PlainPlace, place, place_type, variable, global, literal, index, member, dereference, PlainLabels, statement, set, update, copy, evaluate, asserts, declare, declare_static, block, if_then, if_else, loop, switch, break, continue, return, empty, mark, PlainStatements, no_statements, more_statements, PlainVariable}
use Rattle.p10_absx.specs.Abstract.{Abstract, whole_type}
use Rattle.p10_absx.specs.Environments.{Environment, known, learned, hull_reached}
use Rattle.p10_absx.specs.Operators.{converted_abstract, binary_abstract}
use Rattle.p10_pass.specs.Scopes.{left_scope, changed_each, assigned_forgotten}
use Rattle.p10_pass.specs.Passing.{Weakness, Left, nowhere, reached, where_going, hull_range, followed, and_then_pass, beside, with_calls, as_block, stored, before_update, set_value, updated_value, switch_left}
use Rattle.p10_execution.specs.Scoping.{IsNumber, KnowsNumbers}
use Rattle.p10_execution.proofs.Entries.{changed_at, changed_knows}
use Rattle.p10_acceptance.proofs.Narrowing.{within_itself, whole_typed, hull_typed, Fits, LiesIn, Fair, Narrower, MaybeNarrower, narrower_itself, hull_narrower, learned_narrower, learned_both, out_narrower}
use Rattle.p10_acceptance.proofs.Operating.{converted_fits, binary_fits}
use Rattle.p10_acceptance.proofs.Calling.{no_names}

-- ## Lists

-- each element of a list has a property
abbrev pub Each : {A : Type 0} → (A → Type 0) → List A → Type 0
Each P [] = Unit {0}
Each P (x ∷ xs) = P x × Each P xs

pub each_both : {A : Type 0} (P : A → Type 0) (xs ys : List A) → Each P xs → Each P ys → Each P (xs ++ ys)
each_both P [] ys h k = k
each_both P (x ∷ xs) ys h k = (h.0, each_both P xs ys h.1 k)

-- ## Ends

pub range_typed : (kind : IntType) (a b : Option Interval) → IfSome a (IsOfType kind) → IfSome b (IsOfType kind) → IfSome (hull_range a b) (IsOfType kind)
range_typed kind None b h k = k
range_typed kind (Some a) None h k = h
range_typed kind (Some a) (Some b) h k = hull_typed kind a b h k

module _ (variables : List PlainVariable) (result : IntType) (Stands : Weakness → Type 0) where
  -- the ends of a part fit those of a trial pass, what it returns has numbers of the result's type, and of its conditions none
  -- fails for which something doesn't stand
  pub record EndsFit (a b : Left) : Type 0 where
    pub normal : MaybeNarrower variables a.normal b.normal
    pub breaks : MaybeNarrower variables a.breaks b.breaks
    pub continues : MaybeNarrower variables a.continues b.continues
    pub returned : IfSome a.returned (IsOfType result)
    pub arguments : a.arguments ≡ []
    pub results : a.results ≡ []
    pub entries : a.entries ≡ []
    pub backs : a.backs ≡ []
    pub weak : Each Stands a.weak

  pub nowhere_fits : (b : Left) → EndsFit nowhere b
  nowhere_fits b = record { normal = tt; breaks = tt; continues = tt; returned = tt; arguments = refl; results = refl; entries = refl; backs = refl; weak = tt }

  pub reaches_fit : (o p : Option Environment) → MaybeNarrower variables o p → EndsFit (reached o) (reached p)
  reaches_fit o p h = record { normal = h; breaks = tt; continues = tt; returned = tt; arguments = refl; results = refl; entries = refl; backs = refl; weak = tt }

  pub calls_fit : (names others : List Span) (a b : Left) → names ≡ [] → EndsFit a b → EndsFit (with_calls names a) (with_calls others b)
  calls_fit names others a b e h = record {
    normal = h.normal;
    breaks = h.breaks;
    continues = h.continues;
    returned = h.returned;
    arguments = no_names names a.arguments e h.arguments;
    results = h.results;
    entries = h.entries;
    backs = h.backs;
    weak = h.weak;
  }

  pub followed_fit : (a b c d : Left) → EndsFit a c → EndsFit b d → EndsFit (followed a b) (followed c d)
  followed_fit a b c d h k = record {
    normal = k.normal;
    breaks = hull_narrower variables a.breaks b.breaks c.breaks d.breaks h.breaks k.breaks;
    continues = hull_narrower variables a.continues b.continues c.continues d.continues h.continues k.continues;
    returned = range_typed result a.returned b.returned h.returned k.returned;
    arguments = no_names a.arguments b.arguments h.arguments k.arguments;
    results = no_names a.results b.results h.results k.results;
    entries = no_names a.entries b.entries h.entries k.entries;
    backs = no_names a.backs b.backs h.backs k.backs;
    weak = each_both Stands a.weak b.weak h.weak k.weak;
  }

  pub beside_fit : (a b c d : Left) → EndsFit a c → EndsFit b d → EndsFit (beside a b) (beside c d)
  beside_fit a b c d h k = record {
    normal = hull_narrower variables a.normal b.normal c.normal d.normal h.normal k.normal;
    breaks = hull_narrower variables a.breaks b.breaks c.breaks d.breaks h.breaks k.breaks;
    continues = hull_narrower variables a.continues b.continues c.continues d.continues h.continues k.continues;
    returned = range_typed result a.returned b.returned h.returned k.returned;
    arguments = no_names a.arguments b.arguments h.arguments k.arguments;
    results = no_names a.results b.results h.results k.results;
    entries = no_names a.entries b.entries h.entries k.entries;
    backs = no_names a.backs b.backs h.backs k.backs;
    weak = each_both Stands a.weak b.weak h.weak k.weak;
  }

  pub going_fit : (o p : Option Environment) (go wider : Environment → Left) → MaybeNarrower variables o p → ((e w : Environment) → o ≡ Some e → Narrower variables e w → EndsFit (go e) (wider w)) → EndsFit (where_going o go) (where_going p wider)
  going_fit None p go wider h k = nowhere_fits (where_going p wider)
  going_fit (Some e) None go wider h k = absurd h
  going_fit (Some e) (Some w) go wider h k = k e w refl h

  pub then_fit : (a b : Left) (go wider : Environment → Left) → EndsFit a b → ((e w : Environment) → a.normal ≡ Some e → Narrower variables e w → EndsFit (go e) (wider w)) → EndsFit (and_then_pass a go) (and_then_pass b wider)
  then_fit a b go wider h k = followed_fit a (where_going a.normal go) b (where_going b.normal wider) h (going_fit a.normal b.normal go wider h.normal k)

  left_narrower : (xs : PlainStatements) (e w : Environment) → Narrower variables e w → Narrower variables (left_scope xs e) (left_scope xs w)
  left_narrower no_statements e w h = h
  left_narrower (more_statements (statement at (declare n initializer)) rest) e w h = left_narrower rest _ _ (out_narrower variables e w n h)
  left_narrower (more_statements (statement at (set p v)) rest) e w h = left_narrower rest e w h
  left_narrower (more_statements (statement at (update kind op t p v)) rest) e w h = left_narrower rest e w h
  left_narrower (more_statements (statement at (copy p q)) rest) e w h = left_narrower rest e w h
  left_narrower (more_statements (statement at (evaluate v)) rest) e w h = left_narrower rest e w h
  left_narrower (more_statements (statement at (asserts call v)) rest) e w h = left_narrower rest e w h
  left_narrower (more_statements (statement at (declare_static n)) rest) e w h = left_narrower rest e w h
  left_narrower (more_statements (statement at (block ss)) rest) e w h = left_narrower rest e w h
  left_narrower (more_statements (statement at (if_then v s)) rest) e w h = left_narrower rest e w h
  left_narrower (more_statements (statement at (if_else v s t)) rest) e w h = left_narrower rest e w h
  left_narrower (more_statements (statement at (loop head first test third body)) rest) e w h = left_narrower rest e w h
  left_narrower (more_statements (statement at (switch keyword v labels body)) rest) e w h = left_narrower rest e w h
  left_narrower (more_statements (statement at break) rest) e w h = left_narrower rest e w h
  left_narrower (more_statements (statement at continue) rest) e w h = left_narrower rest e w h
  left_narrower (more_statements (statement at (return keyword v)) rest) e w h = left_narrower rest e w h
  left_narrower (more_statements (statement at empty) rest) e w h = left_narrower rest e w h
  left_narrower (more_statements (statement at (mark kind)) rest) e w h = left_narrower rest e w h

  maybe_left : (xs : PlainStatements) (o p : Option Environment) → MaybeNarrower variables o p → MaybeNarrower variables (option_map (left_scope xs) o) (option_map (left_scope xs) p)
  maybe_left xs None p h = tt
  maybe_left xs (Some e) None h = absurd h
  maybe_left xs (Some e) (Some w) h = left_narrower xs e w h

  pub left_fair : (xs : PlainStatements) (e : Environment) → Fair variables e → Fair variables (left_scope xs e)
  left_fair xs e f = (left_narrower xs e e (narrower_itself variables e f)).fair

  pub block_fit : (xs : PlainStatements) (a b : Left) → EndsFit a b → EndsFit (as_block xs a) (as_block xs b)
  block_fit xs a b h = record {
    normal = maybe_left xs a.normal b.normal h.normal;
    breaks = maybe_left xs a.breaks b.breaks h.breaks;
    continues = maybe_left xs a.continues b.continues h.continues;
    returned = h.returned;
    arguments = h.arguments;
    results = h.results;
    entries = h.entries;
    backs = h.backs;
    weak = h.weak;
  }

  pub if_narrower : (b : Bool) (x y z w : Option Environment) → MaybeNarrower variables x z → MaybeNarrower variables y w → MaybeNarrower variables (if b then x else y) (if b then z else w)
  if_narrower true x y z w h k = h
  if_narrower false x y z w h k = k

  -- a test that holds in the wider environment wherever it holds in the narrower one
  pub if_going : (b c : Bool) (a d : Left) → (b ≡ true → c ≡ true) → (b ≡ true → EndsFit a d) → EndsFit (if b then a else nowhere) (if c then d else nowhere)
  if_going true true a d t h = h refl
  if_going true false a d t h = let e = t refl in absurd cc
  if_going false c a d t h = nowhere_fits (if c then d else nowhere)

  pub switch_fits : (labels : PlainLabels) (env wide : Environment) (a b : Left) → Narrower variables env wide → EndsFit a b → EndsFit (switch_left labels env a) (switch_left labels wide b)
  switch_fits labels env wide a b n h = record {
    normal = hull_narrower variables (hull_reached a.normal a.breaks) _ (hull_reached b.normal b.breaks) _ (hull_narrower variables a.normal a.breaks b.normal b.breaks h.normal h.breaks)
        (if_narrower (is_none labels.otherwise) (Some env) None (Some wide) None n tt);
    breaks = tt;
    continues = h.continues;
    returned = h.returned;
    arguments = h.arguments;
    results = h.results;
    entries = h.entries;
    backs = h.backs;
    weak = h.weak;
  }

-- ## What is stored

-- the variable that a place is, if it is one, has the place's type
abbrev pub HasKind : List PlainVariable → PlainPlace → Type 0
HasKind variables (place at t (variable n)) = (v : PlainVariable) → slice_get variables n ≡ Some v → integer_of v.type ≡ integer_of t
HasKind variables q = Unit {0}

-- what is known of a variable, or any value of its type
abbrev begun : PlainType → Option Abstract → Abstract
begun t o = elim o [ Some a ↦ a | None ↦ whole_type (integer_of t) ]

module _ (variables : List PlainVariable) where
  known_size : (env : Environment) (n : ℕ) → is_some (known env n) ≡ true → n < length env
  known_size [] n e = absurd cc
  known_size (x ∷ env) zero e = omega arith
  known_size (x ∷ env) (suc n) e = let h = known_size env n e in omega (arith, h)

  pub stored_narrower : (p : PlainPlace) → HasKind variables p → (a b : Abstract) (env wide : Environment) → Narrower variables env wide → IsOfType (integer_of (place_type p)) a.range → IsWithin a.range b.range → Narrower variables (stored p a env) (stored p b wide)
  stored_narrower (place at t (variable n)) k a b env wide h i w = by_cases (is_some (known env n)) (is_some (known wide n)) refl refl
    where
      typed : (v : PlainVariable) → slice_get variables n ≡ Some v → IsOfType (integer_of v.type) a.range
      typed v there = subst (λ (q : IntType). IsOfType q a.range) (sym (k v there)) i

      unknown : (x y : Option Abstract) → LiesIn x y → is_some x ≡ false → is_some y ≡ true → ⊥
      unknown x None l e f = absurd cc
      unknown None (Some y) l e f = l
      unknown (Some x) (Some y) l e f = absurd cc

      free : (y : Option Abstract) → is_some y ≡ false → LiesIn (Some a) y
      free None e = tt
      free (Some y) e = absurd cc

      by_cases : (c d : Bool) → is_some (known env n) ≡ c → is_some (known wide n) ≡ d → Narrower variables (if c then learned env n a else env) (if d then learned wide n b else wide)
      by_cases true true e f = learned_both variables env wide n a b h (known_size env n e) typed w
      by_cases true false e f = learned_narrower variables env wide n a h (known_size env n e) typed (free (known wide n) f)
      by_cases false true e f = absurd (unknown (known env n) (known wide n) (h.lies n) e f)
      by_cases false false e f = h
  stored_narrower (place at t (global n)) k a b env wide h i w = h
  stored_narrower (place at t (literal n bytes)) k a b env wide h i w = h
  stored_narrower (place at t (index x j)) k a b env wide h i w = h
  stored_narrower (place at t (member q m)) k a b env wide h i w = h
  stored_narrower (place at t (dereference v)) k a b env wide h i w = h

  -- `P = e;`
  pub set_narrower : (p : PlainPlace) → HasKind variables p → (t : PlainType) → integer_of t ≡ integer_of (place_type p) → (a b : Option Abstract) (env wide : Environment) → Narrower variables env wide → Fits (integer_of t) a b → MaybeNarrower variables (set_value p t a env) (set_value p t b wide)
  set_narrower p k t e None None env wide h f = at (is_integer t)
    where
      at : (c : Bool) → MaybeNarrower variables (if c then None else Some env) (if c then None else Some wide)
      at true = tt
      at false = h
  set_narrower p k t e None (Some b) env wide h f = at (is_integer t)
    where
      at : (c : Bool) → MaybeNarrower variables (if c then None else Some env) (if c then Some (stored p b wide) else Some wide)
      at true = tt
      at false = h
  set_narrower p k t e (Some a) None env wide h f = absurd f.1
  set_narrower p k t e (Some a) (Some b) env wide h f = at (is_integer t)
    where
      at : (c : Bool) → MaybeNarrower variables (if c then Some (stored p a env) else Some env) (if c then Some (stored p b wide) else Some wide)
      at true = stored_narrower p k a b env wide h (subst (λ (q : IntType). IsOfType q a.range) e f.0) f.1
      at false = h

  -- what a place has before it is updated
  before_lies : (p : PlainPlace) → HasKind variables p → (env wide : Environment) → KnowsNumbers variables env → Narrower variables env wide → IsInhabited (before_update p env).range × IsWithin (before_update p env).range (before_update p wide).range
  before_lies (place at t (variable n)) k env wide m h = of (known env n) (known wide n) refl (h.lies n)
    where
      of : (a b : Option Abstract) → known env n ≡ a → LiesIn a b → IsInhabited (begun t a).range × IsWithin (begun t a).range (begun t b).range
      of None None e l = ((whole_typed (integer_of t)).0, within_itself (values_of (integer_of t)))
      of None (Some b) e l = absurd l
      of (Some a) b e l = in_either b l
        where
          number : IsNumber variables n
          number = m.each n (ap is_some e)

          typed : IsOfType (integer_of t) a.range
          typed = subst (λ (q : IntType). IsOfType q a.range) (k number.variable number.there) (h.fair.typed n a number.variable e number.there)

          in_either : (b : Option Abstract) → LiesIn (Some a) b → IsInhabited a.range × IsWithin a.range (begun t b).range
          in_either None l = (typed.0, typed.1)
          in_either (Some b) l = (typed.0, l)
  before_lies (place at t (global n)) k env wide m h = ((whole_typed (integer_of t)).0, within_itself (values_of (integer_of t)))
  before_lies (place at t (literal n bytes)) k env wide m h = ((whole_typed (integer_of t)).0, within_itself (values_of (integer_of t)))
  before_lies (place at t (index x j)) k env wide m h = ((whole_typed (integer_of t)).0, within_itself (values_of (integer_of t)))
  before_lies (place at t (member q j)) k env wide m h = ((whole_typed (integer_of t)).0, within_itself (values_of (integer_of t)))
  before_lies (place at t (dereference v)) k env wide m h = ((whole_typed (integer_of t)).0, within_itself (values_of (integer_of t)))

  -- `P op= e;`
  pub updated_narrower : (op : BinOp) (t : PlainType) (p : PlainPlace) → HasKind variables p → (kind : IntType) (a b : Option Abstract) (env wide : Environment) → KnowsNumbers variables env → Narrower variables env wide → Fits kind a b →
      MaybeNarrower variables (updated_value op t p a env) (updated_value op t p b wide)
  updated_narrower op t p k kind a b env wide m h f = at (is_integer (place_type p))
    where
      before : IsInhabited (before_update p env).range × IsWithin (before_update p env).range (before_update p wide).range
      before = before_lies p k env wide m h

      left : IsOfType (integer_of t) (converted_abstract (integer_of t) (before_update p env)).range × IsWithin (converted_abstract (integer_of t) (before_update p env)).range (converted_abstract (integer_of t) (before_update p wide)).range
      left = converted_fits (integer_of t) (before_update p env) (before_update p wide) before.0 before.1

      results : (a b : Option Abstract) → Fits kind a b → Fits (integer_of t) (option_and_then (λ b. binary_abstract op (integer_of t) (converted_abstract (integer_of t) (before_update p env)) b) a)
          (option_and_then (λ b. binary_abstract op (integer_of t) (converted_abstract (integer_of t) (before_update p wide)) b) b)
      results None b f = tt
      results (Some a) None f = absurd f.1
      results (Some a) (Some b) f = binary_fits op (integer_of t) _ a _ b left.0.0 f.0.0 left.1 f.1

      stores : (x y : Option Abstract) → Fits (integer_of t) x y → MaybeNarrower variables (option_map (λ r. stored p (converted_abstract (integer_of (place_type p)) r) env) x) (option_map (λ r. stored p (converted_abstract (integer_of (place_type p)) r) wide) y)
      stores None y f = tt
      stores (Some x) None f = absurd f.1
      stores (Some x) (Some y) f = let c = converted_fits (integer_of (place_type p)) x y f.0.0 f.1 in stored_narrower p k _ _ env wide h c.0 c.1

      at : (c : Bool) → MaybeNarrower variables
          (if c then option_map (λ r. stored p (converted_abstract (integer_of (place_type p)) r) env) (option_and_then (λ b. binary_abstract op (integer_of t) (converted_abstract (integer_of t) (before_update p env)) b) a) else Some env)
          (if c then option_map (λ r. stored p (converted_abstract (integer_of (place_type p)) r) wide) (option_and_then (λ b. binary_abstract op (integer_of t) (converted_abstract (integer_of t) (before_update p wide)) b) b) else Some wide)
      at true = stores _ _ (results a b f)
      at false = h

  -- ## Entries that are changed

  known_variable : (env : Environment) (n : ℕ) (x : Option Abstract) → KnowsNumbers variables env → known env n ≡ x → is_some x ≡ true → IsNumber variables n
  known_variable env n x m e s = m.each n (ap is_some e ∙ s)

  changed_long : (f : ℕ → PlainVariable → Abstract → Abstract) (i : ℕ) (vs : List PlainVariable) (env : Environment) → length (changed_each f i vs env) ≡ length env
  changed_long f i [] env = refl
  changed_long f i (v ∷ vs) [] = refl
  changed_long f i (v ∷ vs) (Some a ∷ env) = ap suc (changed_long f (suc i) vs env)
  changed_long f i (v ∷ vs) (None ∷ env) = ap suc (changed_long f (suc i) vs env)

  -- what an entry is that is known after a change
  pub record Changed (f : ℕ → PlainVariable → Abstract → Abstract) (env : Environment) (n : ℕ) (v : PlainVariable) (x : Abstract) : Type 0 where
    pub before : Abstract
    pub there : known env n ≡ Some before
    pub is : f n v before ≡ x

  pub changed_is : (f : ℕ → PlainVariable → Abstract → Abstract) (env : Environment) (n : ℕ) (v : PlainVariable) (x : Abstract) → slice_get variables n ≡ Some v → known (changed_each f 0 variables env) n ≡ Some x → Changed f env n v x
  changed_is f env n v x there e = by_case (known env n) refl (sym (changed_at f 0 variables env n n v there (omega arith)) ∙ e)
    where
      by_case : (o : Option Abstract) → known env n ≡ o → option_map (f n v) o ≡ Some x → Changed f env n v x
      by_case None s q = absurd (none-some _ q)
      by_case (Some a) s q = record { before = a; there = s; is = same_Some _ _ q }

  pub changed_fair : (f : ℕ → PlainVariable → Abstract → Abstract) (env : Environment) → Fair variables env → ((n : ℕ) (v : PlainVariable) (a : Abstract) → slice_get variables n ≡ Some v → known env n ≡ Some a → IsOfType (integer_of v.type) (f n v a).range) → Fair variables (changed_each f 0 variables env)
  changed_fair f env h k = record {
    long = let e = changed_long f 0 variables env in let l = h.long in omega (arith, e, l);
    typed = λ n x v e there. let c = changed_is f env n v x there e in subst (λ (y : Abstract). IsOfType (integer_of v.type) y.range) c.is (k n v c.before there c.there);
  }

  -- each entry of both is changed
  pub changed_narrower : (f g : ℕ → PlainVariable → Abstract → Abstract) (env wide : Environment) → KnowsNumbers variables env → Narrower variables env wide
      → ((n : ℕ) (v : PlainVariable) (a : Abstract) → slice_get variables n ≡ Some v → known env n ≡ Some a → IsOfType (integer_of v.type) (f n v a).range)
      → ((n : ℕ) (v : PlainVariable) (a b : Abstract) → slice_get variables n ≡ Some v → known env n ≡ Some a → known wide n ≡ Some b → IsWithin a.range b.range → IsWithin (f n v a).range (g n v b).range)
      → Narrower variables (changed_each f 0 variables env) (changed_each g 0 variables wide)
  changed_narrower f g env wide m h t w = record { fair = changed_fair f env h.fair t; lies = λ n. at n (known env n) (known wide n) refl refl (h.lies n) }
    where
      at : (n : ℕ) (a b : Option Abstract) → known env n ≡ a → known wide n ≡ b → LiesIn a b → LiesIn (known (changed_each f 0 variables env) n) (known (changed_each g 0 variables wide) n)
      at n a None e q l = none (known (changed_each g 0 variables wide) n) (changed_knows g 0 variables wide n ∙ ap is_some q)
        where
          none : (o : Option Abstract) → is_some o ≡ false → LiesIn (known (changed_each f 0 variables env) n) o
          none None r = tt
          none (Some y) r = absurd cc
      at n None (Some b) e q l = absurd l
      at n (Some a) (Some b) e q l =
          let number : IsNumber variables n = m.each n (ap is_some e) in
          let left : known (changed_each f 0 variables env) n ≡ Some (f n number.variable a) = changed_at f 0 variables env n n number.variable number.there (omega arith) ∙ ap (option_map (f n number.variable)) e in
          let right : known (changed_each g 0 variables wide) n ≡ Some (g n number.variable b) = changed_at g 0 variables wide n n number.variable number.there (omega arith) ∙ ap (option_map (g n number.variable)) q in
          subst (λ (x : Option Abstract). LiesIn x (known (changed_each g 0 variables wide) n)) (sym left) (subst (LiesIn (Some (f n number.variable a))) (sym right) (w n number.variable a b number.there e q l))

  -- each variable that is assigned is forgotten in both
  pub forgotten_narrower : (assigned : ℕ → Bool) (env wide : Environment) → KnowsNumbers variables env → Narrower variables env wide → Narrower variables (assigned_forgotten assigned variables env) (assigned_forgotten assigned variables wide)
  forgotten_narrower assigned env wide m h = changed_narrower _ _ env wide m h (λ n v a there e. typed n v a there e (assigned n)) (λ n v a b there e q w. lies v a b w (assigned n))
    where
      typed : (n : ℕ) (v : PlainVariable) (a : Abstract) → slice_get variables n ≡ Some v → known env n ≡ Some a → (c : Bool) → IsOfType (integer_of v.type) (if c then whole_type (integer_of v.type) else a).range
      typed n v a there e true = whole_typed (integer_of v.type)
      typed n v a there e false = h.fair.typed n a v e there

      lies : (v : PlainVariable) (a b : Abstract) → IsWithin a.range b.range → (c : Bool) → IsWithin (if c then whole_type (integer_of v.type) else a).range (if c then whole_type (integer_of v.type) else b).range
      lies v a b w true = within_itself (values_of (integer_of v.type))
      lies v a b w false = w

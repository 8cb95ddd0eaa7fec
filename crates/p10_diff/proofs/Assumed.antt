-- What is assumed where a value is true or false describes the frame, by induction on values.
use Rattle.std.proofs.Common.{◌≡◌, ℕ, suc, Bool, true, false, List, [], ◌∷◌, refl, ◌∙◌, ap, sym, subst, Option, Some, None, slice_get, ℤ, pos, neg_ℤ, ◌-ℤ◌, ◌≤ℤ◌, ◌<ℤ◌, Result, Ok, Err, arith}
use Rattle.std.specs.Prelude.{IfSome, not, if◌then◌else◌, ◌&&◌, nat_eq, int_lt, int_le}
use Rattle.std.specs.Option.{option_map, option_and_then}
use Rattle.std.specs.Ordering.{int_eq}
use Rattle.std.proofs.lemmas.Int.{ints}
use Rattle.p10_base.specs.declared.span.Span.{Span}
use Rattle.p10_base.specs.declared.at.At.{At}
use Rattle.p10_int.specs.declared.operators.Stop.{Stop}
use Rattle.p10_int.specs.declared.operators.BinOp.{BinOp}
use Rattle.p10_int.specs.declared.operators.BinOp.TheVariants.{Add, Sub, Mul, Div, Rem, Shl, Shr, Lt, Gt, Le, Ge, Eq, Ne}
use Rattle.p10_int.specs.declared.operators.UnOp.TheVariants.{Not}
use Rattle.p10_core.specs.declared.typed.Library.TheVariants.{CAssert}
use Rattle.p10_core.specs.declared.typed.LogicOp.TheVariants.{And, Or}
use Rattle.p10_core.specs.Types.{PlainType}
use Rattle.p10_core.specs.Rows.{is_integer}
use Rattle.p10_core.specs.Typed.{PlainValue, value, type_of, PlainForm, unary, binary, logic, built_in, no_values, more_values, PlainFunction, PlainProgram}
use Rattle.p10_core.specs.Whole.{IsWholeValue}
use Rattle.p10_core.specs.WholePrograms.{around, IsWholeProgram}
use Rattle.p10_meaning.specs.declared.pointers.Scalar.{Scalar}
use Rattle.p10_meaning.specs.declared.pointers.Scalar.TheVariants.{Int, Pointer}
use Rattle.p10_meaning.specs.Objects.{Object}
use Rattle.p10_meaning.specs.Pointers.{is_null}
use Rattle.p10_meaning.specs.States.{State, gives, and_then, or_undefined}
use Rattle.p10_meaning.specs.Scalars.{is_true, truth_value, operated, operated_unary}
use Rattle.p10_meaning.specs.Values.{Setting, Held, first_argument, used, is_decided, evaluate, perform, evaluate_all}
use Rattle.p10_meaning.specs.Statements.{Frame}
use Rattle.p10_meaning.specs.Calling.{Depth, setting_of, call_at}
use Rattle.p10_meaning.specs.Sound.{Fits, region_at}
use Rattle.p10_sums.specs.Keeping.{HoldsOf}
use Rattle.p10_absx.specs.Environments.{Environment}
use Rattle.p10_absx.specs.Comparing.{is_comparison, contrary}
use Rattle.p10_absx.specs.Assessing.{are_integers, assume_of}
use Rattle.p10_execution.specs.Standing.{StandsSoundly}
use Rattle.p10_execution.proofs.Giving.{holds_step, holds_then, holds_after, holds_or, holds_if, holds_both, holds_weaker}
use Rattle.p10_execution.proofs.Frames.{number_fits}
use Rattle.p10_execution.proofs.Parts.{ready_step, Given, value_given}
use Rattle.p10_walk.specs.Soundness.{Maybe}
use Rattle.p10_walk.specs.Ranges.{ranges_of, DescribesNumbers}
use Rattle.p10_walk.proofs.Ranges.{ranges_sound}
use Rattle.p10_diff.specs.Bounds.{AtMost}
use Rattle.p10_diff.specs.Differences.{Name, now, worth, Pair, Differences, named}
use Rattle.p10_diff.specs.Domain.{compared_names, compared, compared_where, hull, hull_maybe, assume, DescribesDifferences}
use Rattle.p10_diff.proofs.Named.{both_true}
use Rattle.p10_diff.proofs.Values.{MeasuredBy, Operated, operated_gives, measured}
use Rattle.p10_diff.proofs.Changed.{hull_first, hull_second, learned_so, unchanged}

-- ## Truth

true_of : (b : Bool) → is_true (truth_value b) ≡ b
true_of true = refl
true_of false = refl

truth_was : (d : Bool) (z : Scalar) (b : Bool) → ◌≡◌ {A = Result Scalar Stop} (Ok (truth_value d)) (Ok z) → is_true z ≡ b → d ≡ b
truth_was d z b e q = let same : truth_value d ≡ z = cc in sym (true_of d) ∙ (ap is_true same ∙ q)

not_true : (t : PlainType) (x z : Scalar) → operated_unary Not t x ≡ Ok z → is_true z ≡ not (is_true x)
not_true t (Int a) z e = by (int_eq a (pos 0)) z e
  where
    by : (b : Bool) (z : Scalar) → ◌≡◌ {A = Result Scalar Stop} (Ok (truth_value b)) (Ok z) → is_true z ≡ not (not b)
    by b z e = sym (truth_was b z (is_true z) e refl) ∙ twice b
      where
        twice : (b : Bool) → b ≡ not (not b)
        twice true = refl
        twice false = refl
not_true t (Pointer q) z e = by (is_null q) z e
  where
    by : (b : Bool) (z : Scalar) → ◌≡◌ {A = Result Scalar Stop} (Ok (truth_value b)) (Ok z) → is_true z ≡ not (not b)
    by b z e = sym (truth_was b z (is_true z) e refl) ∙ twice b
      where
        twice : (b : Bool) → b ≡ not (not b)
        twice true = refl
        twice false = refl

-- ## Comparisons

-- what a comparison says of a difference
abbrev Says : BinOp → ℤ → ℤ → Type 0
Says Lt x y = (x -ℤ y) ≤ℤ neg_ℤ (pos 1)
Says Le x y = (x -ℤ y) ≤ℤ pos 0
Says Gt x y = (y -ℤ x) ≤ℤ neg_ℤ (pos 1)
Says Ge x y = (y -ℤ x) ≤ℤ pos 0
Says Eq x y = ((x -ℤ y) ≤ℤ pos 0) × ((y -ℤ x) ≤ℤ pos 0)
Says op x y = Unit {0}

is_less : (x y : ℤ) → int_lt x y ≡ true → (x -ℤ y) ≤ℤ neg_ℤ (pos 1)
is_less x y e = let l : x <ℤ y = of x y e in omega (arith, ints, l)
  where
    of : (x y : ℤ) → int_lt x y ≡ true → x <ℤ y
    of x y e = grind (arith, ints)

not_less : (x y : ℤ) → int_lt x y ≡ false → (y -ℤ x) ≤ℤ pos 0
not_less x y e = let l : y ≤ℤ x = of x y e in omega (arith, ints, l)
  where
    of : (x y : ℤ) → int_lt x y ≡ false → y ≤ℤ x
    of x y e = grind (arith, ints)

is_most : (x y : ℤ) → int_le x y ≡ true → (x -ℤ y) ≤ℤ pos 0
is_most x y e = let l : x ≤ℤ y = of x y e in omega (arith, ints, l)
  where
    of : (x y : ℤ) → int_le x y ≡ true → x ≤ℤ y
    of x y e = grind (arith, ints)

not_most : (x y : ℤ) → int_le x y ≡ false → (y -ℤ x) ≤ℤ neg_ℤ (pos 1)
not_most x y e = let l : y <ℤ x = of x y e in omega (arith, ints, l)
  where
    of : (x y : ℤ) → int_le x y ≡ false → y <ℤ x
    of x y e = grind (arith, ints)

are_equal : (x y : ℤ) → int_eq x y ≡ true → ((x -ℤ y) ≤ℤ pos 0) × ((y -ℤ x) ≤ℤ pos 0)
are_equal x y e = let q : x ≡ y = of x y e in (omega (arith, ints, q), omega (arith, ints, q))
  where
    of : (x y : ℤ) → int_eq x y ≡ true → x ≡ y
    of x y e = grind (arith, ints)

lt_says : (x y : ℤ) (b : Bool) → int_lt x y ≡ b → Says (if b then Lt else Ge) x y
lt_says x y true e = is_less x y e
lt_says x y false e = not_less x y e

gt_says : (x y : ℤ) (b : Bool) → int_lt y x ≡ b → Says (if b then Gt else Le) x y
gt_says x y true e = is_less y x e
gt_says x y false e = not_less y x e

le_says : (x y : ℤ) (b : Bool) → int_le x y ≡ b → Says (if b then Le else Gt) x y
le_says x y true e = is_most x y e
le_says x y false e = not_most x y e

ge_says : (x y : ℤ) (b : Bool) → int_le y x ≡ b → Says (if b then Ge else Lt) x y
ge_says x y true e = is_most y x e
ge_says x y false e = not_most y x e

eq_says : (x y : ℤ) (b : Bool) → int_eq x y ≡ b → Says (if b then Eq else Ne) x y
eq_says x y true e = are_equal x y e
eq_says x y false e = tt

ne_says : (x y : ℤ) (b : Bool) → not (int_eq x y) ≡ b → Says (if b then Ne else Eq) x y
ne_says x y b e = by (int_eq x y) refl b e
  where
    by : (d : Bool) → int_eq x y ≡ d → (b : Bool) → not d ≡ b → Says (if b then Ne else Eq) x y
    by true q true e = tt
    by true q false e = are_equal x y q
    by false q true e = tt
    by false q false e = absurd cc

says : (op : BinOp) (t : PlainType) (objects : List Object) (x y : ℤ) (z : Scalar) (b : Bool) → is_comparison op ≡ true → operated op t objects (Int x) (Int y) ≡ Ok z → is_true z ≡ b → Says (if b then op else contrary op) x y
says Lt t objects x y z b c e q = lt_says x y b (truth_was (int_lt x y) z b e q)
says Gt t objects x y z b c e q = gt_says x y b (truth_was (int_lt y x) z b e q)
says Le t objects x y z b c e q = le_says x y b (truth_was (int_le x y) z b e q)
says Ge t objects x y z b c e q = ge_says x y b (truth_was (int_le y x) z b e q)
says Eq t objects x y z b c e q = eq_says x y b (truth_was (int_eq x y) z b e q)
says Ne t objects x y z b c e q = ne_says x y b (truth_was (not (int_eq x y)) z b e q)
says op t objects x y z b c e q = absurd cc

abbrev AllAtMost : List Held → List Held → (Name → Name → Option ℤ) → Type 0
AllAtMost head held bounds = (u w : Name) → AtMost (worth head held u -ℤ worth head held w) (bounds u w)

names_compared : (op : BinOp) (head held : List Held) (n m : ℕ) (bounds : Name → Name → Option ℤ) → Says op (worth head held (now n)) (worth head held (now m)) → AllAtMost head held bounds → AllAtMost head held (compared_names op (now n) (now m) bounds)
names_compared Lt head held n m bounds h k = learned_so head held (now n) (now m) (neg_ℤ (pos 1)) bounds h k
names_compared Le head held n m bounds h k = learned_so head held (now n) (now m) (pos 0) bounds h k
names_compared Gt head held n m bounds h k = learned_so head held (now m) (now n) (neg_ℤ (pos 1)) bounds h k
names_compared Ge head held n m bounds h k = learned_so head held (now m) (now n) (pos 0) bounds h k
names_compared Eq head held n m bounds h k = learned_so head held (now n) (now m) (pos 0) _ h.0 (learned_so head held (now m) (now n) (pos 0) bounds h.1 k)
names_compared op head held n m bounds h k = k

sides_compared : (op : BinOp) (head held : List Held) (a b : Option ℕ) (x y : ℤ) (bounds : Name → Name → Option ℤ) → IfSome a (λ n. worth head held (now n) ≡ x) → IfSome b (λ m. worth head held (now m) ≡ y) → Says op x y → AllAtMost head held bounds → AllAtMost head held (compared op a b bounds)
sides_compared op head held None b x y bounds p q h k = k
sides_compared op head held (Some n) None x y bounds p q h k = k
sides_compared op head held (Some n) (Some m) x y bounds p q h k = by (nat_eq n m)
  where
    moved : Says op (worth head held (now n)) (worth head held (now m))
    moved = subst (λ x. Says op x (worth head held (now m))) (sym p) (subst (λ y. Says op x y) (sym q) h)

    by : (t : Bool) → AllAtMost head held (if t then bounds else compared_names op (now n) (now m) bounds)
    by true = k
    by false = names_compared op head held n m bounds moved k

module _ (p : PlainProgram) (whole : IsWholeProgram p) (n : ℕ) (depth : Depth) (number_at : ℕ) (f : PlainFunction) (there : slice_get p.functions number_at ≡ Some f)
    (below above : ℕ) (base : Environment) (head : List Held) (frame : Frame) (scope : List ℕ) where
  abbrev pair : Pair
  pair = record { variables = f.variables; below = below; above = above; head = base }

  abbrev s : Setting
  s = setting_of p n (call_at n p) depth f

  abbrev Stand : State → Type 0
  Stand w = StandsSoundly p f.variables n frame w

  abbrev D : Differences → Type 0
  D e = DescribesDifferences pair e head frame.held

  abbrev MaybeD : Option Differences → Type 0
  MaybeD o = Maybe (DescribesDifferences pair) o head frame.held

  abbrev IsWhole : PlainValue → Type 0
  IsWhole v = IsWholeValue (around (region_at p number_at f scope false false)) v

  -- what is shown of a value
  abbrev Assumes : PlainValue → Differences → Scalar → State → Type 0
  Assumes v e x w = MaybeD (assume pair v (is_true x) e)

  abbrev pub AssumesWell : PlainValue → Type 0
  AssumesWell v = (e : Differences) (w : State) → Stand w → D e → HoldsOf (Assumes v e) (evaluate s frame.held v w)

  abbrev GivenSo : PlainValue → Differences → Scalar → State → Type 0
  GivenSo v e x w = Given p whole n depth number_at f there (λ ks. Fits p ks (type_of v)) frame x w × Assumes v e x w

  given_so : (v : PlainValue) → IsWhole v → AssumesWell v → (e : Differences) (w : State) → Stand w → D e → HoldsOf (GivenSo v e) (evaluate s frame.held v w)
  given_so v i g e w r d = holds_both (Given p whole n depth number_at f there (λ ks. Fits p ks (type_of v)) frame) (Assumes v e) (evaluate s frame.held v w) (value_given p whole n depth number_at f there scope v i frame w r) (g e w r d)

  -- ## Options

  mapped : (o : Option Environment) (g : Environment → Differences) → Maybe (DescribesNumbers f.variables) o head frame.held → ((ranges : Environment) → DescribesNumbers f.variables ranges head frame.held → D (g ranges)) → MaybeD (option_map g o)
  mapped None g d k = absurd d
  mapped (Some ranges) g d k = k ranges d

  chained : (o : Option Differences) (g : Differences → Option Differences) → MaybeD o → ((e : Differences) → D e → MaybeD (g e)) → MaybeD (option_and_then g o)
  chained None g d k = absurd d
  chained (Some e) g d k = k e d

  hull_left : (a b : Option Differences) → MaybeD a → MaybeD (hull_maybe pair a b)
  hull_left None b d = absurd d
  hull_left (Some a) None d = d
  hull_left (Some a) (Some b) d = hull_first pair a b head frame.held d ((ranges_sound p whole n depth number_at f there).hull_left a.ranges b.ranges head frame.held d.ranges)

  hull_right : (a b : Option Differences) → MaybeD b → MaybeD (hull_maybe pair a b)
  hull_right None b d = d
  hull_right (Some a) None d = absurd d
  hull_right (Some a) (Some b) d = hull_second pair a b head frame.held d ((ranges_sound p whole n depth number_at f there).hull_right a.ranges b.ranges head frame.held d.ranges)

  used_so : (P : Scalar → State → Type 0) (x : Option Scalar) (span : Span) (w : State) → ((y : Scalar) → x ≡ Some y → P y w) → HoldsOf P (or_undefined (used x) span w (λ x. gives x w))
  used_so P None span w h = tt
  used_so P (Some x) span w h = h x refl

  -- the same of what a form gives
  abbrev MaybeAssumes : (Bool → Option Differences) → Option Scalar → State → Type 0
  MaybeAssumes g None w = Unit {0}
  MaybeAssumes g (Some x) w = MaybeD (g (is_true x))

  formed : (at : At) (t : PlainType) (form : PlainForm) (g : Bool → Option Differences) (w : State) → HoldsOf (MaybeAssumes g) (perform s frame.held at t form w) → HoldsOf (λ x w. MaybeD (g (is_true x))) (evaluate s frame.held (value at t form) w)
  formed at t form g w h = holds_then (MaybeAssumes g) (λ x w. MaybeD (g (is_true x))) (perform s frame.held at t form w) _ h (λ o w k. used_so (λ x w. MaybeD (g (is_true x))) o at.span w (λ y q. subst (λ o. MaybeAssumes g o w) q k))

  -- ## Rows

  ranges_assumed : (v : PlainValue) → IsWhole v → (e : Differences) (w : State) → Stand w → D e → HoldsOf (λ x w. Maybe (DescribesNumbers f.variables) (assume_of None v (is_true x) e.ranges) head frame.held) (evaluate s frame.held v w)
  ranges_assumed v i e w r d = (ranges_sound p whole n depth number_at f there).assumed scope v i e.ranges head frame w r d.ranges

  plain_assumed : (v : PlainValue) → IsWhole v → ((b : Bool) (e : Differences) → assume pair v b e ≡ option_map (λ after. record e { ranges = after }) (assume_of None v b e.ranges)) → AssumesWell v
  plain_assumed v i rows e w r d = holds_weaker (λ x w. Maybe (DescribesNumbers f.variables) (assume_of None v (is_true x) e.ranges) head frame.held) (Assumes v e) (evaluate s frame.held v w) (ranges_assumed v i e w r d)
      (λ x w k. subst MaybeD (sym (rows (is_true x) e)) (mapped (assume_of None v (is_true x) e.ranges) (λ after. record e { ranges = after }) k (λ ranges k. unchanged pair head frame.held frame.held (λ j. refl) e d ranges k)))

  compared_assumed : (at : At) (t : PlainType) (op : BinOp) (a b : PlainValue) → IsWhole (value at t (binary op a b)) → IsWhole a → IsWhole b → AssumesWell (value at t (binary op a b))
  compared_assumed at t op a b i j k e w r d =
      let v : PlainValue = value at t (binary op a b) in
      holds_weaker (λ x w. Maybe (DescribesNumbers f.variables) (assume_of None v (is_true x) e.ranges) head frame.held × Operated p whole n depth number_at f there below above base e head frame d scope t op a b x) (Assumes v e) (evaluate s frame.held v w)
      (holds_both (λ x w. Maybe (DescribesNumbers f.variables) (assume_of None v (is_true x) e.ranges) head frame.held) (λ x w. Operated p whole n depth number_at f there below above base e head frame d scope t op a b x) (evaluate s frame.held v w) (ranges_assumed v i e w r d)
      (operated_gives p whole n depth number_at f there below above base e head frame d scope at t op a b j k (measured p whole n depth number_at f there below above base e head frame d scope a j) (measured p whole n depth number_at f there below above base e head frame d scope b k) w r))
      (λ x w h. mapped (assume_of None v (is_true x) e.ranges) (compared_where pair op (is_true x) a b e) h.0 (λ ranges k.
      unchanged pair head frame.held frame.held (λ j. refl) (record e { bounds = if is_comparison op && are_integers a b then compared (if is_true x then op else contrary op) (named pair e.ranges a) (named pair e.ranges b) e.bounds else e.bounds })
      (record { ranges = d.ranges; before = d.before; bounds = by_case x h.1 (is_comparison op && are_integers a b) refl; fall = d.fall }) ranges k))
    where
      by_case : (x : Scalar) → Operated p whole n depth number_at f there below above base e head frame d scope t op a b x → (c : Bool) → (is_comparison op && are_integers a b) ≡ c →
          (u w : Name) → AtMost (worth head frame.held u -ℤ worth head frame.held w) ((if c then compared (if is_true x then op else contrary op) (named pair e.ranges a) (named pair e.ranges b) e.bounds else e.bounds) u w)
      by_case x h true q =
          let parts = both_true (is_comparison op) (are_integers a b) q in
          let types = both_true (is_integer (type_of a)) (is_integer (type_of b)) parts.1 in
          let m = number_fits p h.left_kinds (type_of a) h.left types.0 h.left_fits in
          let l = number_fits p h.right_kinds (type_of b) h.right types.1 h.right_fits in
          let left_is = subst (λ x. MeasuredBy p whole n depth number_at f there below above base e head frame d scope a x) m.1 h.left_is in
          let right_is = subst (λ x. MeasuredBy p whole n depth number_at f there below above base e head frame d scope b x) l.1 h.right_is in
          let ok : operated op t h.objects (Int m.0) (Int l.0) ≡ Ok x = subst (λ u. operated op t h.objects u (Int l.0) ≡ Ok x) m.1 (subst (λ u. operated op t h.objects h.left u ≡ Ok x) l.1 h.ok) in
          sides_compared (if is_true x then op else contrary op) head frame.held (named pair e.ranges a) (named pair e.ranges b) m.0 l.0 e.bounds left_is.is right_is.is (says op t h.objects m.0 l.0 x (is_true x) parts.0 ok refl) d.bounds
      by_case x h false q = d.bounds

  not_assumed : (at : At) (t : PlainType) (v : PlainValue) → AssumesWell v → AssumesWell (value at t (unary Not v))
  not_assumed at t v g e w r d = formed at t (unary Not v) (λ b. assume pair v (not b) e) w
      (holds_step (MaybeAssumes (λ b. assume pair v (not b) e)) w _ (λ left q.
      holds_then (Assumes v e) (MaybeAssumes (λ b. assume pair v (not b) e)) (evaluate s frame.held v (record w { left = left })) _ (g e (record w { left = left }) (ready_step p whole n depth number_at f there frame w left q r) d) (λ x u k.
      holds_or (MaybeAssumes (λ b. assume pair v (not b) e)) (operated_unary Not t x) at.span u _ (λ z o.
      subst (λ b. MaybeD (assume pair v b e)) (twice (is_true x) ∙ sym (ap not (not_true t x z o))) k))))
    where
      twice : (b : Bool) → b ≡ not (not b)
      twice true = refl
      twice false = refl

  -- ## `&&` and `||`

  -- what is known after the left operand, and the right one
  abbrev Both : PlainValue → Bool → PlainValue → Bool → Differences → Option Differences
  Both a x b y e = option_and_then (λ e. assume pair b y e) (assume pair a x e)

  -- the right operand, where the left one is as true or false as it has to be
  right_assumed : (a b : PlainValue) (x : Bool) (e : Differences) (g : Bool → Option Differences) (u : State) → Stand u → AssumesWell b → MaybeD (assume pair a x e) → ((y : Bool) → MaybeD (Both a x b y e) → MaybeD (g y)) →
      HoldsOf (MaybeAssumes g) (and_then (evaluate s frame.held b u) (λ y w. gives (Some (truth_value (is_true y))) w))
  right_assumed a b x e g u ready gb k h = from (assume pair a x e) refl k
    where
      from : (o : Option Differences) → assume pair a x e ≡ o → MaybeD o → HoldsOf (MaybeAssumes g) (and_then (evaluate s frame.held b u) (λ y w. gives (Some (truth_value (is_true y))) w))
      from None q k = absurd k
      from (Some e2) q k = holds_then (Assumes b e2) (MaybeAssumes g) (evaluate s frame.held b u) _ (gb e2 u ready k)
          (λ y w j. subst (λ t. MaybeD (g t)) (sym (true_of (is_true y))) (h (is_true y) (subst (λ o. MaybeD (option_and_then (λ e. assume pair b (is_true y) e) o)) (sym q) j)))

  and_assumed : (at : At) (t : PlainType) (a b : PlainValue) → IsWhole a → AssumesWell a → AssumesWell b → AssumesWell (value at t (logic And a b))
  and_assumed at t a b i ga gb e w r d = formed at t (logic And a b) g w
      (holds_step (MaybeAssumes g) w _ (λ left q.
      holds_then (GivenSo a e) (MaybeAssumes g) (evaluate s frame.held a (record w { left = left })) _ (given_so a i ga e (record w { left = left }) (ready_step p whole n depth number_at f there frame w left q r) d) (λ x u k. by_left (is_true x) u k.0.ready k.1)))
    where
      g : Bool → Option Differences
      g truth = assume pair (value at t (logic And a b)) truth e

      both : (y : Bool) → MaybeD (Both a true b y e) → MaybeD (g y)
      both true k = k
      both false k = hull_right (assume pair a false e) (Both a true b false e) k

      by_left : (t : Bool) (u : State) → Stand u → MaybeD (assume pair a t e) → HoldsOf (MaybeAssumes g) (if is_decided And t then gives (Some (truth_value t)) u else and_then (evaluate s frame.held b u) (λ y w. gives (Some (truth_value (is_true y))) w))
      by_left false u ready k = hull_left (assume pair a false e) (Both a true b false e) k
      by_left true u ready k = right_assumed a b true e g u ready gb k both

  or_assumed : (at : At) (t : PlainType) (a b : PlainValue) → IsWhole a → AssumesWell a → AssumesWell b → AssumesWell (value at t (logic Or a b))
  or_assumed at t a b i ga gb e w r d = formed at t (logic Or a b) g w
      (holds_step (MaybeAssumes g) w _ (λ left q.
      holds_then (GivenSo a e) (MaybeAssumes g) (evaluate s frame.held a (record w { left = left })) _ (given_so a i ga e (record w { left = left }) (ready_step p whole n depth number_at f there frame w left q r) d) (λ x u k. by_left (is_true x) u k.0.ready k.1)))
    where
      g : Bool → Option Differences
      g truth = assume pair (value at t (logic Or a b)) truth e

      both : (y : Bool) → MaybeD (Both a false b y e) → MaybeD (g y)
      both true k = hull_right (assume pair a true e) (Both a false b true e) k
      both false k = k

      by_left : (t : Bool) (u : State) → Stand u → MaybeD (assume pair a t e) → HoldsOf (MaybeAssumes g) (if is_decided Or t then gives (Some (truth_value t)) u else and_then (evaluate s frame.held b u) (λ y w. gives (Some (truth_value (is_true y))) w))
      by_left true u ready k = hull_left (assume pair a true e) (Both a false b true e) k
      by_left false u ready k = right_assumed a b false e g u ready gb k both

  -- ## `c_assert`

  asserts_assumed : (at : At) (t : PlainType) (name : Span) (v : PlainValue) → AssumesWell v → AssumesWell (value at t (built_in name CAssert (more_values v no_values)))
  asserts_assumed at t name v gv e w r d = formed at t (built_in name CAssert (more_values v no_values)) g w
      (holds_step (MaybeAssumes g) w _ (λ left q.
      holds_then (λ xs w. Firsts xs) (MaybeAssumes g) (evaluate_all s frame.held (more_values v no_values) (record w { left = left })) _
      (holds_then (Assumes v e) (λ xs w. Firsts xs) (evaluate s frame.held v (record w { left = left })) _ (gv e (record w { left = left }) (ready_step p whole n depth number_at f there frame w left q r) d) (λ x u k. k))
      (λ xs u k. subst (λ t. MaybeD (g t)) (sym (true_of (is_true (first_argument xs)))) k)))
    where
      g : Bool → Option Differences
      g truth = assume pair v truth e

      Firsts : List Scalar → Type 0
      Firsts xs = MaybeD (g (is_true (first_argument xs)))

  -- ## The induction

  pub assumed : (v : PlainValue) → IsWhole v → AssumesWell v
  assumed (value at t (binary op a b)) i = compared_assumed at t op a b i i.0 i.1
  assumed (value at t (unary Not v)) i = not_assumed at t v (assumed v i.0)
  assumed (value at t (logic And a b)) i = and_assumed at t a b i.0 (assumed a i.0) (assumed b i.1)
  assumed (value at t (logic Or a b)) i = or_assumed at t a b i.0 (assumed a i.0) (assumed b i.1)
  assumed (value at t (built_in name CAssert (more_values v no_values))) i = asserts_assumed at t name v (assumed v i.0.0)
  assumed (value at t form) i = plain_assumed (value at t form) i (λ b e. refl)

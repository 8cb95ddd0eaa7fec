-- What the law stands on: debts, places in code, slots.
use Rattle.std.proofs.Common.{◌≡◌, ◌≢◌, ℕ, zero, suc, ◌+◌, ◌-◌, ◌<◌, ◌≤◌, Bool, true, false, List, [], ◌∷◌, ◌++◌, length, Some, refl, sym, ap, ◌∙◌, subst, ⊎_elim, arith}
use Rattle.std.specs.Prelude.{get_or, slice_get, slice_set, nat_le, if◌then◌else◌, Result, Ok, Err}
use Rattle.std.proofs.lemmas.Bool.{cases_lt, leb-true, le-leb, lt-leb}
use Rattle.std.proofs.lemmas.List.{get_or-append-add, set-append_right, get_or-set_other, length-set}
use Rattle.p10_base.specs.declared.span.Span.{Span}
use Rattle.p10_int.specs.declared.operators.Stop.{Stop}
use Rattle.p10_core.specs.Typed.{PlainVariable, PlainProgram}
use Rattle.p10_meaning.specs.declared.pointers.Scalar.{Scalar}
use Rattle.p10_meaning.specs.Pointers.{holding}
use Rattle.p10_meaning.specs.Objects.{Object, on_ok}
use Rattle.p10_meaning.specs.States.{State, StepsSpent, Undefined, Progress, gives, ends, step, step_at, and_then, or_undefined}
use Rattle.p10_meaning.specs.Values.{Held, holds, absent}
use Rattle.p10_meaning.specs.Calling.{Depth}
pub use Rattle.p10_code.specs.Frames.{FitsFlag, FitsOption, IsVariable}
use Rattle.p10_code.specs.Operations.{Computation, Action, compute, jump, Op, Entry}
use Rattle.p10_code.specs.Machine.{Caller, Config, Rest, Turned, on, off, Rests, look, put, unless_stopped, computed, act, fetch, turn, Reaches}
use Rattle.p10_code.specs.ValueCode.{op}

-- ## Debts

-- steps that are owed are paid before what follows
abbrev pub owed : {A : Type 0} → ℕ → State → (State → Progress A) → Progress A
owed d w go = if nat_le d w.left then go (record w { left = w.left - d }) else ends StepsSpent (record w { left = 0 })

step_owed : {A B : Type 0} (d L m : ℕ) (w : State) (g : State → Progress A) (K : A → State → Progress B) → L ≡ d + m → and_then (step_at m (record w { left = m }) g) K ≡ owed (d + 1) (record w { left = L }) (λ w. and_then (g w) K)
step_owed d L zero w g K e = let f : nat_le (d + 1) L ≡ false = lt-leb (d + 1) L (omega arith) in rw f
step_owed d L (suc m) w g K e =
    let f : nat_le (d + 1) L ≡ true = le-leb (d + 1) L (omega arith) in
    let h : m ≡ L - (d + 1) = omega arith in
    rw f (ap (λ n. and_then (g (record w { left = n })) K) h)

-- a step that is taken is owed
pub owed_step : {A B : Type 0} (d : ℕ) (w : State) (g : State → Progress A) (K : A → State → Progress B) → owed d w (λ w. and_then (step w g) K) ≡ owed (d + 1) w (λ w. and_then (g w) K)
owed_step d w g K =
    ⊎_elim
    (λ lt. (let f : nat_le d w.left ≡ false = lt-leb d w.left (omega arith) in let h : nat_le (d + 1) w.left ≡ false = lt-leb (d + 1) w.left (omega arith) in rw (f, h)))
    (λ le. (let f : nat_le d w.left ≡ true = le-leb d w.left (omega arith) in rw f (step_owed d w.left (w.left - d) w g K (omega arith))))
    (cases_lt w.left d)

pub step_is_owed : {A B : Type 0} (w : State) (g : State → Progress A) (K : A → State → Progress B) → and_then (step w g) K ≡ owed 1 w (λ w. and_then (g w) K)
step_is_owed w g K = step_owed 0 w.left w.left w g K (omega arith)

pub owed_zero : {A : Type 0} (w : State) (go : State → Progress A) → owed 0 w go ≡ go w
owed_zero w go =
    let f : nat_le 0 w.left ≡ true = le-leb 0 w.left (omega arith) in
    let h : w.left - 0 ≡ w.left = omega arith in
    rw f (ap (λ n. go (record w { left = n })) h)

-- equal pieces owe equal steps
pub owed_same : {A : Type 0} (d : ℕ) (w : State) (go to : State → Progress A) → ((w : State) → go w ≡ to w) → owed d w go ≡ owed d w to
owed_same d w go to e = λ i. owed d w (λ w. e w i)

pub assoc : {A B C : Type 0} (m : Progress A) (G : A → State → Progress B) (K : B → State → Progress C) → and_then (and_then m G) K ≡ and_then m (λ x w. and_then (G x w) K)
assoc (gives a w) G K = refl
assoc (ends e w) G K = refl

pub owed_assoc : {A B C : Type 0} (d : ℕ) (w : State) (m : State → Progress A) (G : A → State → Progress B) (K : B → State → Progress C) → owed d w (λ w. and_then (and_then (m w) G) K) ≡ owed d w (λ w. and_then (m w) (λ x w. and_then (G x w) K))
owed_assoc d w m G K = λ i. owed d w (λ w. assoc (m w) G K i)

-- a node's step, then a part, then the rest
pub owed_node : {A B C : Type 0} (d : ℕ) (w : State) (m : State → Progress A) (G : A → State → Progress B) (K : B → State → Progress C) → owed d w (λ w. and_then (step w (λ w. and_then (m w) G)) K) ≡ owed (d + 1) w (λ w. and_then (m w) (λ x w. and_then (G x w) K))
owed_node d w m G K = owed_step d w (λ w. and_then (m w) G) K ∙ owed_assoc (d + 1) w m G K

-- a result that may be a stop, then the rest
pub result_then : {A B C : Type 0} (r : Result A Stop) (span : Span) (w : State) (F : A → Progress B) (K : B → State → Progress C) → and_then (or_undefined r span w F) K ≡ or_undefined r span w (λ x. and_then (F x) K)
result_then (Ok x) span w F K = refl
result_then (Err stop) span w F K = refl

-- two continuations that are equal
pub then_same : {A B : Type 0} (m : Progress A) (K G : A → State → Progress B) → ((x : A) (w : State) → K x w ≡ G x w) → and_then m K ≡ and_then m G
then_same m K G e = λ i. and_then m (λ x w. e x w i)

-- ## Places

-- operations stand in the code from one place up to another
abbrev pub Stands : List Op → ℕ → List Op → ℕ → Type 0
Stands code pc [] q = q ≡ pc
Stands code pc (i ∷ is) q = (slice_get code pc ≡ Some i) × Stands code (pc + 1) is q

pub front : (code : List Op) (pc q : ℕ) (a b : List Op) → Stands code pc (a ++ b) q → Stands code pc a (pc + length a)
front code pc q [] b h = omega arith
front code pc q (i ∷ a) b h =
    let e : pc + 1 + length a ≡ pc + length (i ∷ a) = omega arith in
    (h.0, subst (λ n. Stands code (pc + 1) a n) e (front code (pc + 1) q a b h.1))

pub rear : (code : List Op) (pc q : ℕ) (a b : List Op) → Stands code pc (a ++ b) q → Stands code (pc + length a) b q
rear code pc q [] b h = let e : pc ≡ pc + 0 = omega arith in subst (λ n. Stands code n b q) e h
rear code pc q (i ∷ a) b h =
    let e : pc + 1 + length a ≡ pc + length (i ∷ a) = omega arith in
    subst (λ n. Stands code n b q) e (rear code (pc + 1) q a b h.1)

-- one operation more
pub joined : (code : List Op) (pc : ℕ) (a : List Op) (x : Op) → Stands code pc a (pc + length a) → slice_get code (pc + length a) ≡ Some x → Stands code pc (a ++ x ∷ []) (pc + length a + 1)
joined code pc [] x h e = (subst (λ n. slice_get code n ≡ Some x) (let z : pc + 0 ≡ pc = omega arith in z) e, omega arith)
joined code pc (i ∷ a) x h e =
    let n : pc + length (i ∷ a) ≡ pc + 1 + length a = omega arith in
    (h.0, subst (λ q. Stands code (pc + 1) (a ++ x ∷ []) (q + 1)) (sym n) (joined code (pc + 1) a x (subst (λ q. Stands code (pc + 1) a q) n h.1) (subst (λ q. slice_get code q ≡ Some x) n e)))

-- where operations end
pub end_of : (code : List Op) (pc q : ℕ) (a : List Op) → Stands code pc a q → q ≡ pc + length a
end_of code pc q [] h = omega (arith, h)
end_of code pc q (i ∷ a) h = omega (arith, end_of code (pc + 1) q a h.1)

-- the same place under another name
pub stands_at : (code : List Op) (pc n q : ℕ) (a : List Op) → pc ≡ n → Stands code pc a q → Stands code n a q
stands_at code pc n q a e h = subst (λ n. Stands code n a q) e h

-- ## Slots

-- the slots of a frame
abbrev pub local : List Held → ℕ → Held
local s k = get_or s k absent

-- the variables of the open frame stand in the first slots
pub record Holds (vars : List PlainVariable) (held s : List Held) : Type 0 where
  pub size : length held ≡ length vars
  pub room : length vars ≤ length s
  pub same : (i : ℕ) → i < length vars → local s i ≡ get_or held i absent
  pub kinds : (i : ℕ) → IsVariable (slice_get vars i) (slice_get held i)

-- the slots below t are kept, but for k
pub record Kept (t k : ℕ) (s s' : List Held) : Type 0 where
  pub len : length s' ≡ length s
  pub same : (i : ℕ) → i < t → i ≢ k → local s' i ≡ local s i

pub kept_all : (t k : ℕ) (s : List Held) → Kept t k s s
kept_all t k s = record { len = refl; same = λ i lt ne. refl }

pub kept_set : (t k : ℕ) (held : Held) (s : List Held) → Kept t k s (slice_set s k held)
kept_set t k held s = record { len = length-set s k held; same = λ i lt ne. get_or-set_other s k i held absent ne }

-- one part after another: the first one wrote at or above t
pub kept_on : (t u k j : ℕ) (s s1 s2 : List Held) → t ≤ u → t ≤ j → Kept u j s s1 → Kept t k s1 s2 → Kept t k s s2
kept_on t u k j s s1 s2 tu tj a b =
    record { len = b.len ∙ a.len; same = λ i lt ne. b.same i lt ne ∙ a.same i (omega arith) (λ e. omega arith) }

-- one part after another: both wrote at k
pub kept_again : (t k : ℕ) (s s1 s2 : List Held) → Kept t k s s1 → Kept t k s1 s2 → Kept t k s s2
kept_again t k s s1 s2 a b = record { len = b.len ∙ a.len; same = λ i lt ne. b.same i lt ne ∙ a.same i lt ne }

-- two parts that wrote at or above t
pub kept_both : (t k u j v l : ℕ) (s s1 s2 : List Held) → t ≤ u → t ≤ j → t ≤ v → t ≤ l → Kept u j s s1 → Kept v l s1 s2 → Kept t k s s2
kept_both t k u j v l s s1 s2 tu tj tv tl a b =
    record { len = b.len ∙ a.len; same = λ i lt ne. b.same i (omega arith) (λ e. omega arith) ∙ a.same i (omega arith) (λ e. omega arith) }

-- a part that wrote at or above t
pub kept_under : (t k u j : ℕ) (s s' : List Held) → t ≤ u → t ≤ j → Kept u j s s' → Kept t k s s'
kept_under t k u j s s' tu tj a = record { len = a.len; same = λ i lt ne. a.same i (omega arith) (λ e. omega arith) }

pub kept_less : (t u k : ℕ) (s s' : List Held) → t ≤ u → Kept u k s s' → Kept t k s s'
kept_less t u k s s' tu h = record { len = h.len; same = λ i lt ne. h.same i (omega arith) ne }

pub holds_kept : (vars : List PlainVariable) (t k : ℕ) (held s s' : List Held) → length vars ≤ t → length vars ≤ k → Kept t k s s' → Holds vars held s → Holds vars held s'
holds_kept vars t k held s s' nt nk a h =
    record { size = h.size; room = omega (arith, a.len, h.room); same = λ i lt. a.same i (omega arith) (λ e. omega arith) ∙ h.same i lt; kinds = h.kinds }

-- ## The machine

-- what stands under the open frame: the slots of those below, what their calls go back to, the open blocks, and how deep it is
pub record Under : Type 0 where
  pub below : List Held
  pub callers : List Caller
  pub blocks : List (List ℕ)
  pub depth : Depth

-- a place of the machine
abbrev pub stand : Under → ℕ → List Held → State → Config
stand u pc s w = record { pc = pc; slots = u.below ++ s; base = length u.below; callers = u.callers; blocks = u.blocks; depth = u.depth; state = w }

pub look_here : (u : Under) (pc : ℕ) (s : List Held) (w : State) → look (stand u pc s w) ≡ local s
look_here u pc s w = λ i k. get_or-append-add u.below s k absent i

pub put_here : (u : Under) (k pc : ℕ) (held : Held) (s : List Held) (w : State) → put k held (stand u pc s w) ≡ stand u (pc + 1) (slice_set s k held) w
put_here u k pc held s w =
    let e : length u.below + k - length u.below ≡ k = omega arith in
    let h : slice_set (u.below ++ s) (length u.below + k) held ≡ u.below ++ slice_set s k held =
    set-append_right u.below s (length u.below) (length u.below + k) held refl (omega arith) ∙ ap (λ i. u.below ++ slice_set s i held) e in
    ap (λ (l : List Held). record (stand u (pc + 1) s w) { slots = l }) h

unless_mapped : {A B : Type 0} (r : Result A Stop) (f : A → B) (span : Span) (c : Config) (F : B → Turned) → unless_stopped (on_ok r (λ a. Ok (f a))) span c F ≡ unless_stopped r span c (λ a. F (f a))
unless_mapped (Ok x) f span c F = refl
unless_mapped (Err stop) f span c F = refl

pub ok_same : {A : Type 0} (r : Result A Stop) → r ≡ on_ok r (λ a. Ok a)
ok_same (Ok x) = refl
ok_same (Err stop) = refl

module _ (p : PlainProgram) (code : List Op) (entries : List Entry) where
  -- the machine comes to an outcome from a place
  abbrev pub To : Under → ℕ → List Held → State → Progress Rest → Type 0
  To u pc s w o = Reaches p code entries (on (stand u pc s w)) o

  pub step_reaches : (c : Config) (o : Progress Rest) → Reaches p code entries (turn p code entries c) o → Reaches p code entries (on c) o
  step_reaches c o r = record { count = suc r.count; comes = r.comes; rests = r.rests }

  pub off_reaches : (o : Progress Rest) → Rests p o → Reaches p code entries (off o) o
  off_reaches o r = record { count = 0; comes = refl; rests = r }

  -- the same outcome under another name
  pub comes_to : (t : Turned) (o o' : Progress Rest) → o ≡ o' → Reaches p code entries t o' → Reaches p code entries t o
  comes_to t o o' e r = subst (λ o. Reaches p code entries t o) (sym e) r

  pub comes_from : (t t' : Turned) (o : Progress Rest) → t ≡ t' → Reaches p code entries t' o → Reaches p code entries t o
  comes_from t t' o e r = subst (λ t. Reaches p code entries t o) (sym e) r

  -- the same place under another name
  pub placed : (u : Under) (pc q : ℕ) (s : List Held) (w : State) (o : Progress Rest) → pc ≡ q → To u q s w o → To u pc s w o
  placed u pc q s w o e r = subst (λ n. To u n s w o) (sym e) r

  pay_by : (b : Bool) (t : Turned) (o : Progress Rest) (w : State) → (b ≡ true → Reaches p code entries t o) → Reaches p code entries (if b then t else off (ends StepsSpent w)) (if b then o else ends StepsSpent w)
  pay_by true t o w h = h refl
  pay_by false t o w h = off_reaches (ends StepsSpent w) tt

  -- an operation pays what is owed
  pub pay : (u : Under) (pc d : ℕ) (span : Span) (a : Action) (s : List Held) (w : State) (go : State → Progress Rest) → slice_get code pc ≡ Some (op d span a) →
      ((w' : State) → w'.left + d ≡ w.left → Reaches p code entries (act p entries span a (stand u pc s w')) (go w')) → To u pc s w (owed d w go)
  pay u pc d span a s w go at h =
      step_reaches (stand u pc s w) _
      (subst (λ o. Reaches p code entries (fetch p entries o (stand u pc s w)) (owed d w go)) (sym at)
      (pay_by (nat_le d w.left) _ _ _ (λ e. (let le : d ≤ w.left = leb-true d w.left e in h (record w { left = w.left - d }) (omega arith)))))

  -- an operation that costs nothing
  pub free_op : (u : Under) (pc : ℕ) (span : Span) (a : Action) (s : List Held) (w : State) (o : Progress Rest) → slice_get code pc ≡ Some (op 0 span a) →
      Reaches p code entries (act p entries span a (stand u pc s w)) o → To u pc s w o
  free_op u pc span a s w o at r =
      step_reaches (stand u pc s w) o
      (subst (λ x. Reaches p code entries (fetch p entries x (stand u pc s w)) o) (sym at)
      (let f : nat_le 0 w.left ≡ true = le-leb 0 w.left (omega arith) in
      let g : w.left - 0 ≡ w.left = omega arith in
      rw (f, g) r))

  -- a result, or the run stops
  pub unless_runs : {A : Type 0} (r : Result A Stop) (span : Span) (c : Config) (F : A → Turned) (K : A → Progress Rest) → ((x : A) → Reaches p code entries (F x) (K x)) →
      Reaches p code entries (unless_stopped r span c F) (or_undefined r span c.state K)
  unless_runs (Ok x) span c F K h = h x
  unless_runs (Err stop) span c F K h = off_reaches (ends (Undefined stop span) c.state) tt

  -- a slot is set
  pub put_runs : (u : Under) (k pc q : ℕ) (held : Held) (s : List Held) (w : State) (o : Progress Rest) → q ≡ pc + 1 → To u q (slice_set s k held) w o → Reaches p code entries (on (put k held (stand u pc s w))) o
  put_runs u k pc q held s w o e r = comes_from _ (on (stand u (pc + 1) (slice_set s k held) w)) o (ap on (put_here u k pc held s w)) (placed u (pc + 1) q (slice_set s k held) w o (sym e) r)

  -- a scalar is computed: f of what the meaning gives
  pub compute_runs : {A : Type 0} (f : A → Scalar) (u : Under) (k pc q d : ℕ) (x : Computation) (span : Span) (s : List Held) (w : State) (G : List Object → Result A Stop) (K : A → State → Progress Rest) →
      Stands code pc (op d span (compute k x) ∷ []) q → ((o : List Object) → computed x (local s) o ≡ on_ok (G o) (λ a. Ok (f a))) →
      ((a : A) (w' : State) → w'.left + d ≡ w.left → To u q (slice_set s k (holds (holding (f a)))) w' (K a w')) →
      To u pc s w (owed d w (λ w. or_undefined (G w.objects) span w (λ a. K a w)))
  compute_runs f u k pc q d x span s w G K at e h =
      pay u pc d span (compute k x) s w (λ w. or_undefined (G w.objects) span w (λ a. K a w)) at.0
      (λ w1 e1.
      (let c : Config = stand u pc s w1 in
      let r : computed x (look c) w1.objects ≡ on_ok (G w1.objects) (λ a. Ok (f a)) = ap (λ l. computed x l w1.objects) (look_here u pc s w1) ∙ e w1.objects in
      comes_from _ (unless_stopped (G w1.objects) span c (λ a. on (put k (holds (holding (f a))) c))) _
      (ap (λ r. unless_stopped r span c (λ z. on (put k (holds (holding z)) c))) r ∙ unless_mapped (G w1.objects) f span c (λ z. on (put k (holds (holding z)) c)))
      (unless_runs (G w1.objects) span c (λ a. on (put k (holds (holding (f a))) c)) (λ a. K a w1)
      (λ a. put_runs u k pc q (holds (holding (f a))) s w1 (K a w1) at.1 (h a w1 e1)))))

  -- a jump
  pub jump_runs : (u : Under) (d pc q : ℕ) (span : Span) (s : List Held) (w : State) (go : State → Progress Rest) → slice_get code pc ≡ Some (op d span (jump q)) →
      ((w' : State) → w'.left + d ≡ w.left → To u q s w' (go w')) → To u pc s w (owed d w go)
  jump_runs u d pc q span s w go at h = pay u pc d span (jump q) s w go at h

  pub free_jump : (u : Under) (pc q : ℕ) (span : Span) (s : List Held) (w : State) (o : Progress Rest) → slice_get code pc ≡ Some (op 0 span (jump q)) → To u q s w o → To u pc s w o
  free_jump u pc q span s w o at r = free_op u pc span (jump q) s w o at r

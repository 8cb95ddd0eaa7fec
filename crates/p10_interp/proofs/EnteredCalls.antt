-- A call is entered: its arguments are taken, and its variables are held one after the other.
use Rattle.std.proofs.Common.{◌≡◌, ℕ, zero, suc, ◌+◌, ◌-◌, ◌<◌, ◌≤◌, eqb, cond, set, map, drop, length, get_or, Bool, true, false, List, [], ◌∷◌, ◌++◌, refl, sym, ◌∙◌, subst, ap, arith, Result, Ok, Err, OnOk, Option, Some, None}
use Rattle.std.proofs.lemmas.List.{append-nil, append_assoc, drop_more}
use Rattle.std.proofs.lemmas.Option.{same_Some, none-some}
use Rattle.std.proofs.lemmas.Bool.Decides.{nat_tests}
use Rattle.p10_core.specs.declared.program.Variable.{Variable}
use Rattle.p10_core.specs.declared.program.Func.{Func}
use Rattle.p10_core.specs.Views.{plain_variable, plain_function}
use Rattle.p10_core.specs.WholePrograms.{numbers_from}
use Rattle.p10_core.specs.Typed.{PlainVariable, PlainFunction}
use Rattle.p10_meaning.specs.declared.pointers.Scalar.{Scalar}
use Rattle.p10_meaning.specs.declared.pointers.Cell.{Cell}
use Rattle.p10_meaning.specs.Pointers.{unset, holding, first_of}
use Rattle.p10_meaning.specs.Objects.{Object, declared, find, put, opened_with, write_at}
use Rattle.p10_meaning.specs.States.{State}
use Rattle.p10_meaning.specs.Values.{Held, holds, stands, open_object}
use Rattle.p10_meaning.specs.Calling.{Depth, deeper, raised, Entered, entered}
use Rattle.p10_store.specs.declared.shape.Origin.TheVariants.{Declared}
use Rattle.p10_store.specs.Stores.{Held as Store, Opens}
use Rattle.p10_interp.specs.private.Tasks.{Operand, evaluated, located, Open}
use Rattle.p10_interp.specs.private.Operations.{first_value, below, taken_before, with_frame}
use Rattle.p10_interp.specs.private.Machines.{Around}
use Rattle.p10_interp.specs.private.Resuming.{depth_of}
use Rattle.p10_interp.specs.private.OpenCalls.{opened_call, owning_all, holding_next}
use Rattle.p10_interp.proofs.LeftCalls.{drop_past}
use Rattle.p10_interp.specs.private.Entering.{OpensArgument, HoldsNext, holding_all, IsHolding, IsEntered}

-- ## Arguments

pub value_taken : (n : ℕ) (xs : List Scalar) (operands : List Operand) (x : Scalar) → first_value operands ≡ Some x → taken_before (suc n) xs operands ≡ taken_before n (x ∷ xs) (below operands)
value_taken n xs [] x e = absurd (none-some _ e)
value_taken n xs (evaluated None ∷ operands) x e = absurd (none-some _ e)
value_taken n xs (evaluated (Some y) ∷ operands) x e = ap (λ y. taken_before n (y ∷ xs) operands) (same_Some _ _ e)
value_taken n xs (located target ∷ operands) x e = absurd (none-some _ e)

pub taken_more : (count i : ℕ) (all : Option (List Scalar × List Operand)) (xs ys : List Scalar) (operands fewer : List Operand) (x : Scalar) → i < count → all ≡ taken_before (count - i) xs operands → Some x ≡ first_value operands → fewer ≡ below operands → ys ≡ x ∷ xs →
    all ≡ taken_before (count - (i + 1)) ys fewer
taken_more count i all xs ys operands fewer x l e found rest put =
    let k : count - i ≡ suc (count - (i + 1)) = omega (arith, l) in
    e ∙ (ap (λ n. taken_before n xs operands) k ∙ (value_taken (count - (i + 1)) xs operands x (sym found) ∙
    (ap (λ ys. taken_before (count - (i + 1)) ys (below operands)) (sym put) ∙ ap (λ operands. taken_before (count - (i + 1)) ys operands) (sym rest))))

-- ## An object for an argument

last_found : (n : ℕ) (objects : List Object) (o : Object) → find n objects ≡ None → eqb o.number n ≡ true → find n (objects ++ o ∷ []) ≡ Some o
last_found n [] o none e = rw e refl
last_found n (x ∷ objects) o none e = by (eqb x.number n) none (λ none. last_found n objects o none e)
  where
    by : (b : Bool) → cond b (Some x) (find n objects) ≡ None → (find n objects ≡ None → find n (objects ++ o ∷ []) ≡ Some o) → cond b (Some x) (find n (objects ++ o ∷ [])) ≡ Some o
    by true none go = absurd (none-some _ (sym none))
    by false none go = go none

last_put : (n i : ℕ) (c : Cell) (objects : List Object) (o : Object) → find n objects ≡ None → eqb o.number n ≡ true → put (objects ++ o ∷ []) n i c ≡ objects ++ put (o ∷ []) n i c
last_put n i c [] o none e = refl
last_put n i c (x ∷ objects) o none e = by (eqb x.number n) none (λ none. last_put n i c objects o none e)
  where
    by : (b : Bool) → cond b (Some x) (find n objects) ≡ None → (find n objects ≡ None → put (objects ++ o ∷ []) n i c ≡ objects ++ put (o ∷ []) n i c) →
        cond b (record x { cells = set x.cells i c } ∷ (objects ++ o ∷ [])) (x ∷ put (objects ++ o ∷ []) n i c) ≡ x ∷ (objects ++ put (o ∷ []) n i c)
    by true none go = absurd (none-some _ (sym none))
    by false none go = ap (λ os. x ∷ os) (go none)

same_number : (n : ℕ) → eqb n n ≡ true
same_number n = let e : n ≡ n = refl in grind (arith, nat_tests, e)

-- the object that was opened last is written
pub last_written : (n : ℕ) (objects : List Object) (x : Scalar) → find n objects ≡ None →
    write_at (opened_with objects n declared (unset ∷ [])) (first_of n 1 1) (holding x) ≡ Ok (opened_with objects n declared (holding x ∷ []))
last_written n objects x none =
    let o : Object = record { number = n; origin = declared; cells = unset ∷ [] } in
    rw (last_found n objects o none (same_number n), last_put n 0 (holding x) objects o none (same_number n), same_number n) refl

same_Ok : {A B : Type 0} (x y : A) → (r : Result A B) → r ≡ Ok x → r ≡ Ok y → x ≡ y
same_Ok x y r d e = let k : Ok x ≡ Ok y = sym d ∙ e in cc

pub argument_opened : (x : Scalar) (object : ℕ) (old mid new : Store) (w v : State) → Opens old mid 1 1 Declared → find old.opened old.objects ≡ None → object ≡ old.opened →
    write_at mid.objects (first_of object 1 1) (holding x) ≡ Ok new.objects → new.opened ≡ mid.opened → w.objects ≡ old.objects → w.opened ≡ old.opened → v ≡ record w { objects = new.objects; opened = new.opened } → OpensArgument x w object v
argument_opened x object old mid new w v o none is written kept same number after =
    let objects : new.objects ≡ opened_with old.objects old.opened declared (holding x ∷ []) =
    same_Ok _ _ _ written (ap (λ k. write_at mid.objects (first_of k 1 1) (holding x)) is ∙ (ap (λ os. write_at os (first_of old.opened 1 1) (holding x)) o.objects ∙ last_written old.opened old.objects x none)) in
    let one : new.opened ≡ suc w.opened = omega (arith, o.opened, number, kept) in
    record {
      number = is ∙ sym number;
      state = after ∙
          (ap (λ objects. record w { objects = objects; opened = new.opened })
          (objects ∙ (ap (λ objects. opened_with objects old.opened declared (holding x ∷ [])) (sym same) ∙ ap (λ k. opened_with w.objects k declared (holding x ∷ [])) (sym number))) ∙
          ap (λ k. record w { objects = opened_with w.objects w.opened declared (holding x ∷ []); opened = k }) one);
    }

-- ## All variables

pub holding_starts : (all : Entered) (f : Open) (calls now : List Open) → now ≡ f ∷ calls → IsHolding all all f calls now
holding_starts all f calls now e = record { held = f.frame.held; here = e; held_is = refl; state_is = refl }

pub holding_more : (all : Entered) (v : PlainVariable) (rest : List PlainVariable) (xs ys : List Scalar) (held : Held) (w new : State) (f : Open) (calls now more : List Open) → IsHolding all (entered (v ∷ rest) xs w) f calls now → HoldsNext v.frame xs w held ys new →
    ((f : Open) (calls : List Open) → now ≡ f ∷ calls → more ≡ with_frame f (holding_next f.frame held) ∷ calls) → IsHolding all (entered rest ys new) f calls more
holding_more all v rest xs ys held w new f calls now more h next go = record {
  held = h.held ++ held ∷ [];
  here = go (holding_all f h.held) calls h.here;
  held_is = h.held_is ∙ (ap (λ hs. h.held ++ hs) (next.held_is v rest refl) ∙ sym (append_assoc h.held (held ∷ []) (entered rest ys new).frame.held));
  state_is = h.state_is ∙ next.state_is v rest refl;
}

-- the variable that comes next
variables_left : (variables : List Variable) (i : ℕ) (v : Variable) → i < length variables → v ≡ get_or variables i v → map plain_variable (drop i variables) ≡ plain_variable v ∷ map plain_variable (drop (i + 1) variables)
variables_left variables i v l e = ap (map plain_variable) (drop_more variables i v l) ∙ ap (λ v. plain_variable v ∷ map plain_variable (drop (i + 1) variables)) (sym e)

pub variable_next : (all : Entered) (variables : List Variable) (i : ℕ) (v : Variable) (xs ys : List Scalar) (held : Held) (w new : State) (f : Open) (calls now more : List Open) → i < length variables → v ≡ get_or variables i v →
    IsHolding all (entered (map plain_variable (drop i variables)) xs w) f calls now → HoldsNext v.frame xs w held ys new →
    ((f : Open) (calls : List Open) → now ≡ f ∷ calls → more ≡ with_frame f (holding_next f.frame held) ∷ calls) → IsHolding all (entered (map plain_variable (drop (i + 1) variables)) ys new) f calls more
variable_next all variables i v xs ys held w new f calls now more l e h next go =
    holding_more all (plain_variable v) (map plain_variable (drop (i + 1) variables)) xs ys held w new f calls now more
    (subst (λ vs. IsHolding all (entered vs xs w) f calls now) (variables_left variables i v l e) h) next go

-- all variables are held
pub holding_ends : (all : Entered) (variables : List Variable) (i : ℕ) (xs : List Scalar) (w : State) (f : Open) (calls now : List Open) → length variables ≤ i → IsHolding all (entered (map plain_variable (drop i variables)) xs w) f calls now → IsHolding all (entered [] xs w) f calls now
holding_ends all variables i xs w f calls now l h = subst (λ (vs : List Variable). IsHolding all (entered (map plain_variable vs) xs w) f calls now) (drop_past i variables l) h

-- ## The objects that a block owns

numbers_by : (o first end k : ℕ) → o ≤ end → first ≤ o + (first - end) → o ≤ first → end - first ≡ k → numbers_from o (end - o) ≡ numbers_from first k
numbers_by o first end zero l h g d = let z : end - o ≡ 0 = omega (arith, l, h, g, d) in ap (numbers_from o) z
numbers_by o first end (suc k) l h g d = let s : o ≡ first = omega (arith, l, h, g, d) in let z : end - o ≡ suc k = omega (arith, s, d) in ap (numbers_from o) z ∙ ap (λ n. numbers_from n (suc k)) s

-- all objects from the first on are the block's
pub owned_between : (o first end : ℕ) (f : Open) (around now : List Open) → o ≤ end → first ≤ o + (first - end) → o ≤ first →
    now ≡ owning_all f (numbers_from o (end - o) ++ f.frame.opened) ∷ around → now ≡ owning_all f (numbers_from first (end - first) ++ f.frame.opened) ∷ around
owned_between o first end f around now l h g e = e ∙ ap (λ ns. owning_all f (ns ++ f.frame.opened) ∷ around) (numbers_by o first end (end - first) l h g refl)

-- ## The objects of a new frame

-- the objects that are opened have the numbers from the first one on
record OpensFrom (w : State) (e : Entered) : Type 0 where
  pub count : ℕ
  pub opened : e.frame.opened ≡ numbers_from w.opened count
  pub state : e.state.opened ≡ w.opened + count

abbrev after : Scalar → State → State
after x w = open_object declared (holding x ∷ []) w

opens_by : (b : Bool) (x : Scalar) (w : State) (held object : Entered) → OpensFrom w held → OpensFrom (after x w) object →
    OpensFrom w (cond b
    (record { frame = record { held = holds (holding x) ∷ held.frame.held; opened = held.frame.opened }; state = held.state })
    (record { frame = record { held = stands w.opened ∷ object.frame.held; opened = w.opened ∷ object.frame.opened }; state = object.state }))
opens_by true x w held object h k = record { count = h.count; opened = h.opened; state = h.state }
opens_by false x w held object h k =
    let one : suc w.opened ≡ w.opened + 1 = omega arith in
    let s : object.state.opened ≡ suc w.opened + k.count = k.state in
    record { count = suc k.count; opened = ap (λ ns. w.opened ∷ ns) (k.opened ∙ ap (λ n. numbers_from n k.count) one); state = omega (arith, s) }

opens_from : (vs : List PlainVariable) (xs : List Scalar) (w : State) → OpensFrom w (entered vs xs w)
opens_from [] xs w = record { count = 0; opened = refl; state = omega arith }
opens_from (v ∷ vs) [] w = let h : OpensFrom w (entered vs [] w) = opens_from vs [] w in record { count = h.count; opened = h.opened; state = h.state }
opens_from (v ∷ vs) (x ∷ xs) w = opens_by v.frame x w (entered vs xs w) (entered vs xs (after x w)) (opens_from vs xs w) (opens_from vs xs (after x w))

pub frame_entered : (h : PlainFunction) (xs : List Scalar) (calls now held all : List Open) (w u v : State) (there : Depth) (left : Entered) (first last : ℕ) →
    there ≡ deeper h (depth_of calls) → u ≡ raised there w → now ≡ opened_call h there ∷ calls →
    IsHolding (entered h.variables xs u) left (opened_call h there) calls held → left.frame.held ≡ [] → left.state ≡ v → first ≡ u.opened → last ≡ v.opened →
    ((f : Open) (calls : List Open) → held ≡ f ∷ calls → all ≡ owning_all f (numbers_from first (last - first) ++ f.frame.opened) ∷ calls) →
    IsEntered h xs calls w all v
frame_entered h xs calls now held all w u v there left first last d r o k none after f l go =
    let e : Entered = entered h.variables xs u in
    let opens : OpensFrom u e = opens_from h.variables xs u in
    let held_is : e.frame.held ≡ k.held = k.held_is ∙ (ap (λ hs. k.held ++ hs) none ∙ append-nil k.held) in
    let s : v.opened ≡ u.opened + opens.count = ap (λ (w : State). w.opened) (sym (k.state_is ∙ after)) ∙ opens.state in
    let count : last - first ≡ opens.count = omega (arith, s, f, l) in
    let opened_is : numbers_from first (last - first) ++ [] ≡ e.frame.opened =
    append-nil (numbers_from first (last - first)) ∙ (ap (λ n. numbers_from first n) count ∙ (ap (λ n. numbers_from n opens.count) f ∙ sym opens.opened)) in
    let here : all ≡ record { function = h; depth = there; frame = e.frame; outer = [] } ∷ calls =
    go (holding_all (opened_call h there) k.held) calls k.here ∙
    (ap (λ ns. record { function = h; depth = there; frame = record { held = k.held; opened = ns }; outer = [] } ∷ calls) opened_is ∙
    ap (λ hs. record { function = h; depth = there; frame = record { held = hs; opened = e.frame.opened }; outer = [] } ∷ calls) (sym held_is)) in
    let u_is : u ≡ raised (deeper h (depth_of calls)) w = r ∙ ap (λ d. raised d w) d in
    record {
      here = here ∙ (ap (λ d. record { function = h; depth = d; frame = e.frame; outer = [] } ∷ calls) d ∙ ap (λ u. record { function = h; depth = deeper h (depth_of calls); frame = (entered h.variables xs u).frame; outer = [] } ∷ calls) u_is);
      state = sym (k.state_is ∙ after) ∙ ap (λ u. (entered h.variables xs u).state) u_is;
    }

pub frame_opened : {A B : Type 0} (r : Result A B) (h : Func) (xs : List Scalar) (calls now held all : List Open) (w u v : Around → State) (depth there : Depth) (ys : List Scalar) (first last : ℕ) (variables : List Variable) →
    variables ≡ h.vars → depth ≡ depth_of calls → there ≡ deeper (plain_function h) depth → ((io : Around) → u io ≡ raised there (w io)) → now ≡ opened_call (plain_function h) there ∷ calls →
    ((io : Around) (f : Open) (around : List Open) → now ≡ f ∷ around → IsHolding (entered (map plain_variable variables) xs (u io)) (entered [] ys (v io)) f around held) →
    ((io : Around) → first ≡ (u io).opened) → ((io : Around) → last ≡ (v io).opened) →
    OnOk r ((f : Open) (around : List Open) → held ≡ f ∷ around → all ≡ owning_all f (numbers_from first (last - first) ++ f.frame.opened) ∷ around) →
    OnOk r ((io : Around) → IsEntered (plain_function h) xs calls (w io) all (v io))
frame_opened (Err e) h xs calls now held all w u v depth there ys first last variables is d t r o k f l go = tt
frame_opened (Ok a) h xs calls now held all w u v depth there ys first last variables is d t r o k f l go = λ io.
    frame_entered (plain_function h) xs calls now held all (w io) (u io) (v io) there (entered [] ys (v io)) first last (t ∙ ap (λ d. deeper (plain_function h) d) d) (r io) o
    (subst (λ vs. IsHolding (entered (map plain_variable vs) xs (u io)) (entered [] ys (v io)) (opened_call (plain_function h) there) calls held) is (k io (opened_call (plain_function h) there) calls o)) refl refl (f io) (l io) go

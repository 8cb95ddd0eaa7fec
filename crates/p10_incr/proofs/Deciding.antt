-- The tests of claims decide whether they are the same.
use Rattle.std.proofs.Common.{◌≡◌, Bool, ◌&&◌, List, [], ◌∷◌, refl, ap}
use Rattle.std.specs.Prelude.{Decides, nat_eq, bytes_eq}
use Rattle.std.specs.Bool.{beq}
use Rattle.std.specs.Ordering.{int_eq}
use Rattle.std.specs.Cmp.{booleans_Decides}
use Rattle.std.proofs.lemmas.Bool.Decides.{Decides-eqb, Decides-int_eq, Decides-like, Decides-and}
use Rattle.std.proofs.lemmas.Slice.Eq.{bytes_eq-Decides}
use Rattle.p10_range.specs.Ranges.{Interval, from_to}
use Rattle.p10_cert.specs.declared.claims.Rank.{Rank}
use Rattle.p10_cert.specs.declared.claims.Rank.TheVariants.{Up, Down, One, Task}
use Rattle.p10_cert.specs.Claims.{Value, Number, Address, Nothing, Var, Loop, Func}
use Rattle.p10_incr.specs.Alike.{all_alike, same_interval, same_value, same_rank, same_var, same_loop, same_numbers, same_func}
use Rattle.p10_incr.specs.Laws.{SameFuncDecides}

pub all_decide : {A : Type 0} (alike : A → A → Bool) → ((x y : A) → Decides (alike x y) (x ≡ y)) → (xs ys : List A) → Decides (all_alike alike xs ys) (xs ≡ ys)
all_decide alike each [] [] = (λ e. refl, λ e. refl)
all_decide alike each [] (y ∷ ys) = (λ e. cc, λ e. cc)
all_decide alike each (x ∷ xs) [] = (λ e. cc, λ e. cc)
all_decide alike each (x ∷ xs) (y ∷ ys) =
    Decides-like (alike x y && all_alike alike xs ys) (λ h. λ i. h.0 i ∷ h.1 i) (λ e. (cc, cc)) (Decides-and (alike x y) (all_alike alike xs ys) (each x y) (all_decide alike each xs ys))

interval_decides : (r s : Interval) → Decides (same_interval r s) (r ≡ s)
interval_decides r s =
    Decides-like (same_interval r s) (λ h. λ i. from_to (h.0 i) (h.1 i)) (λ e. (ap (λ (r : Interval). r.low) e, ap (λ (r : Interval). r.high) e))
    (Decides-and (int_eq r.low s.low) (int_eq r.high s.high) (Decides-int_eq r.low s.low) (Decides-int_eq r.high s.high))

value_decides : (v w : Value) → Decides (same_value v w) (v ≡ w)
value_decides (Number r) (Number s) = Decides-like (same_interval r s) (λ e. ap Number e) (λ e. cc) (interval_decides r s)
value_decides (Number r) Address = (λ e. cc, λ e. cc)
value_decides (Number r) Nothing = (λ e. cc, λ e. cc)
value_decides Address (Number s) = (λ e. cc, λ e. cc)
value_decides Address Address = (λ e. refl, λ e. refl)
value_decides Address Nothing = (λ e. cc, λ e. cc)
value_decides Nothing (Number s) = (λ e. cc, λ e. cc)
value_decides Nothing Address = (λ e. cc, λ e. cc)
value_decides Nothing Nothing = (λ e. refl, λ e. refl)

rank_decides : (r s : Rank) → Decides (same_rank r s) (r ≡ s)
rank_decides (Up v b) (Up w c) = Decides-like (nat_eq v w && int_eq b c) (λ h. λ i. Up (h.0 i) (h.1 i)) (λ e. (cc, cc)) (Decides-and (nat_eq v w) (int_eq b c) (Decides-eqb v w) (Decides-int_eq b c))
rank_decides (Up v b) (Down w c) = (λ e. cc, λ e. cc)
rank_decides (Up v b) One = (λ e. cc, λ e. cc)
rank_decides (Up v b) Task = (λ e. cc, λ e. cc)
rank_decides (Down v b) (Up w c) = (λ e. cc, λ e. cc)
rank_decides (Down v b) (Down w c) = Decides-like (nat_eq v w && int_eq b c) (λ h. λ i. Down (h.0 i) (h.1 i)) (λ e. (cc, cc)) (Decides-and (nat_eq v w) (int_eq b c) (Decides-eqb v w) (Decides-int_eq b c))
rank_decides (Down v b) One = (λ e. cc, λ e. cc)
rank_decides (Down v b) Task = (λ e. cc, λ e. cc)
rank_decides One (Up w c) = (λ e. cc, λ e. cc)
rank_decides One (Down w c) = (λ e. cc, λ e. cc)
rank_decides One One = (λ e. refl, λ e. refl)
rank_decides One Task = (λ e. cc, λ e. cc)
rank_decides Task (Up w c) = (λ e. cc, λ e. cc)
rank_decides Task (Down w c) = (λ e. cc, λ e. cc)
rank_decides Task One = (λ e. cc, λ e. cc)
rank_decides Task Task = (λ e. refl, λ e. refl)

var_decides : (v w : Var) → Decides (same_var v w) (v ≡ w)
var_decides v w =
    Decides-like (same_var v w) (λ h. λ i. record { var = h.0 i; ends = h.1 i }) (λ e. (ap (λ (v : Var). v.var) e, ap (λ (v : Var). v.ends) e))
    (Decides-and (nat_eq v.var w.var) (same_interval v.ends w.ends) (Decides-eqb v.var w.var) (interval_decides v.ends w.ends))

loop_decides : (l m : Loop) → Decides (same_loop l m) (l ≡ m)
loop_decides l m =
    Decides-like (same_loop l m) (λ h. λ i. record { depth = h.0.0 i; rank = h.0.1 i; turns = h.1.0 i; vars = h.1.1 i })
    (λ e. ((ap (λ (l : Loop). l.depth) e, ap (λ (l : Loop). l.rank) e), (ap (λ (l : Loop). l.turns) e, ap (λ (l : Loop). l.vars) e)))
    (Decides-and (nat_eq l.depth m.depth && same_rank l.rank m.rank) (nat_eq l.turns m.turns && all_alike same_var l.vars m.vars)
    (Decides-and (nat_eq l.depth m.depth) (same_rank l.rank m.rank) (Decides-eqb l.depth m.depth) (rank_decides l.rank m.rank))
    (Decides-and (nat_eq l.turns m.turns) (all_alike same_var l.vars m.vars) (Decides-eqb l.turns m.turns) (all_decide same_var var_decides l.vars m.vars)))

-- the numbers of two claims
abbrev SameNumbers : Func → Func → Type 0
SameNumbers f g = ((f.rank ≡ g.rank) × (f.steps ≡ g.steps)) × (((f.calls ≡ g.calls) × (f.bytes ≡ g.bytes)) × (f.alloc ≡ g.alloc))

numbers_decide : (f g : Func) → Decides (same_numbers f g) (SameNumbers f g)
numbers_decide f g =
    Decides-and (nat_eq f.rank g.rank && nat_eq f.steps g.steps) ((nat_eq f.calls g.calls && nat_eq f.bytes g.bytes) && beq f.alloc g.alloc)
    (Decides-and (nat_eq f.rank g.rank) (nat_eq f.steps g.steps) (Decides-eqb f.rank g.rank) (Decides-eqb f.steps g.steps))
    (Decides-and (nat_eq f.calls g.calls && nat_eq f.bytes g.bytes) (beq f.alloc g.alloc)
    (Decides-and (nat_eq f.calls g.calls) (nat_eq f.bytes g.bytes) (Decides-eqb f.calls g.calls) (Decides-eqb f.bytes g.bytes)) (booleans_Decides f.alloc g.alloc))

pub same_func_decides : SameFuncDecides
same_func_decides f g =
    Decides-like (same_func f g)
    (λ h. λ i. record {
      name = h.0.0 i;
      rank = h.0.1.0.0 i;
      steps = h.0.1.0.1 i;
      calls = h.0.1.1.0.0 i;
      bytes = h.0.1.1.0.1 i;
      alloc = h.0.1.1.1 i;
      params = h.1.0.0 i;
      result = h.1.0.1 i;
      loops = h.1.1 i;
    })
    (λ e. (
      (
        ap (λ (f : Func). f.name) e,
        ((ap (λ (f : Func). f.rank) e, ap (λ (f : Func). f.steps) e), ((ap (λ (f : Func). f.calls) e, ap (λ (f : Func). f.bytes) e), ap (λ (f : Func). f.alloc) e)),
      ),
      ((ap (λ (f : Func). f.params) e, ap (λ (f : Func). f.result) e), ap (λ (f : Func). f.loops) e),
    ))
    (Decides-and (bytes_eq f.name g.name && same_numbers f g) ((all_alike same_value f.params g.params && same_value f.result g.result) && all_alike same_loop f.loops g.loops)
    (Decides-and (bytes_eq f.name g.name) (same_numbers f g) (bytes_eq-Decides f.name g.name) (numbers_decide f g))
    (Decides-and (all_alike same_value f.params g.params && same_value f.result g.result) (all_alike same_loop f.loops g.loops)
    (Decides-and (all_alike same_value f.params g.params) (same_value f.result g.result) (all_decide same_value value_decides f.params g.params) (value_decides f.result g.result))
    (all_decide same_loop loop_decides f.loops g.loops)))

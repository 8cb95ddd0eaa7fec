-- Whether claims on functions are the same, as tests.
use Rattle.std.specs.Prelude.{nat_eq, bytes_eq, Bool, true, false, ◌&&◌, List, [], ◌∷◌}
use Rattle.std.specs.Bool.{beq}
use Rattle.std.specs.Ordering.{int_eq}
use Rattle.p10_range.specs.Ranges.{Interval}
use Rattle.p10_cert.specs.declared.claims.Rank.{Rank}
use Rattle.p10_cert.specs.declared.claims.Rank.TheVariants.{Up, Down, One, Task}
use Rattle.p10_cert.specs.Claims.{Value, Number, Address, Nothing, Var, Loop, Func}

-- whether two lists are as long, and what stands at the same place in both meets a test
abbrev pub all_alike : {A : Type 0} → (A → A → Bool) → List A → List A → Bool
all_alike alike [] [] = true
all_alike alike (x ∷ xs) (y ∷ ys) = alike x y && all_alike alike xs ys
all_alike alike xs ys = false

-- whether two intervals have the same ends
abbrev pub same_interval : Interval → Interval → Bool
same_interval r s = int_eq r.low s.low && int_eq r.high s.high

-- whether the same is claimed of two values
abbrev pub same_value : Value → Value → Bool
same_value (Number r) (Number s) = same_interval r s
same_value Address Address = true
same_value Nothing Nothing = true
same_value v w = false

-- whether two ranks are the same
abbrev pub same_rank : Rank → Rank → Bool
same_rank (Up v bound) (Up w other) = nat_eq v w && int_eq bound other
same_rank (Down v bound) (Down w other) = nat_eq v w && int_eq bound other
same_rank One One = true
same_rank Task Task = true
same_rank r s = false

-- whether two lines on variables are the same
abbrev pub same_var : Var → Var → Bool
same_var v w = nat_eq v.var w.var && same_interval v.ends w.ends

-- whether the same is claimed of two loops
abbrev pub same_loop : Loop → Loop → Bool
same_loop l m = (nat_eq l.depth m.depth && same_rank l.rank m.rank) && (nat_eq l.turns m.turns && all_alike same_var l.vars m.vars)

-- whether two claims have the same numbers
abbrev pub same_numbers : Func → Func → Bool
same_numbers f g = (nat_eq f.rank g.rank && nat_eq f.steps g.steps) && ((nat_eq f.calls g.calls && nat_eq f.bytes g.bytes) && beq f.alloc g.alloc)

-- whether the same is claimed of two functions
abbrev pub same_func : Func → Func → Bool
same_func f g =
    (bytes_eq f.name g.name && same_numbers f g) && ((all_alike same_value f.params g.params && same_value f.result g.result) && all_alike same_loop f.loops g.loops)

-- Values that branch, values in slots, arguments and calls.
use Rattle.std.proofs.Common.{◌≡◌, ℕ, ◌+◌, ◌<◌, ◌≤◌, max, Bool, true, false, List, [], ◌∷◌, ◌++◌, length, Option, Some, None, refl, sym, ap, ◌∙◌, subst, arith, length-append}
use Rattle.std.specs.Prelude.{slice_get, slice_set, not, if◌then◌else◌, Ok}
use Rattle.std.proofs.lemmas.List.{get_or-set_same}
use Rattle.p10_base.specs.declared.span.Span.{Span}
use Rattle.p10_base.specs.declared.at.At.{At}
use Rattle.p10_int.specs.declared.operators.Stop.TheVariants.{U10}
use Rattle.p10_core.specs.declared.typed.Library.{Library}
use Rattle.p10_core.specs.declared.typed.LogicOp.{LogicOp}
use Rattle.p10_core.specs.declared.typed.LogicOp.TheVariants.{And, Or}
use Rattle.p10_core.specs.Types.{PlainType}
use Rattle.p10_core.specs.Typed.{PlainValue, value, PlainForm, constant, read, sense, address, decay, convert, cast, unary, binary, logic, conditional, call as call_form, built_in, PlainValues, no_values, more_values, PlainVariable, PlainProgram}
use Rattle.p10_meaning.specs.declared.pointers.Scalar.{Scalar}
use Rattle.p10_meaning.specs.Pointers.{holding}
use Rattle.p10_meaning.specs.States.{State, Undefined, Progress, gives, ends, and_then, or_undefined}
use Rattle.p10_meaning.specs.Scalars.{is_true, truth_value}
use Rattle.p10_meaning.specs.Values.{Calls, Setting, Held, holds, stands, absent, give, used as used_value, is_structure, is_decided, library as library_call, perform, evaluate, evaluate_all}
use Rattle.p10_code.specs.Operations.{Operand, slot, fixed, same, truth, compute, used, jump, branch, call as call_op, library, Op, Entry}
use Rattle.p10_code.specs.Machine.{Config, Rest, on, look, next, put, cell_of, with_state, scalar_in, or_zero, found, value_of, gathered, unless_stopped, turned, Reaches}
use Rattle.p10_code.specs.ValueCode.{op, fixed_of, spot_of, read_operand, operand_by, form_operand, operand, debt_of_fixed, debt, is_sure, height, values_height, count_of, decided_value, moved_code, used_code, values_debt, value_code, into_code, form_code, values_code}
use Rattle.p10_code.proofs.Base.{owed, owed_zero, owed_same, assoc, owed_assoc, owed_node, result_then, Stands, front, rear, end_of, stands_at, local, Kept, kept_all, kept_set, kept_on, kept_both, kept_less, Under, stand, look_here, put_runs, To, comes_to, comes_from, placed, pay, free_op, free_jump, compute_runs, off_reaches}
use Rattle.p10_code.proofs.ValueParts.{Ready, After, ready_after, ready_for, Sure, site, setting, FormRuns, ValueRuns, DroppedRuns, IntoRuns, CallsRun, ArgumentsRun, Then}
use Rattle.p10_code.proofs.Acts.{none_some, turned_runs}
use Rattle.p10_code.proofs.Libraries.{library_left, library_sure}

module _ (p : PlainProgram) (code : List Op) (entries : List Entry) (u : Under) (vars : List PlainVariable) (call : Calls) (m : ℕ) (held : List Held) where
  -- ## Branches

  -- a value, and the branch that it decides
  pub branch_runs : (v : PlainValue) → ValueRuns p code entries u vars call m held v → (t d pc hit miss q : ℕ) (span : Span) (rest : List Op) (s : List Held) (w : State) (K : Scalar → State → Progress Rest) → Ready vars held m t (1 + height v) d s w →
      Stands code pc (value_code (site p vars) t (t + 1) d pc v ++ op (debt d v) span (branch (operand (site p vars) t v) hit miss) ∷ rest) q →
      ((x : Scalar) (s' : List Held) (w' : State) → After 1 t t d 0 s w s' w' → To p code entries u (if is_true x then hit else miss) s' w' (K x w')) →
      To p code entries u pc s w (owed d w (λ w. and_then (evaluate (setting p vars call m) held v w) K))
  branch_runs v rv t d pc hit miss q span rest s w K r has after =
      let cv : List Op = value_code (site p vars) t (t + 1) d pc v in
      let o : Operand = operand (site p vars) t v in
      rv t (t + 1) d pc (pc + length cv) s w K (omega (arith, r.room)) (ready_for vars held m t (1 + height v) d (t + 1) (height v) d s w r (omega arith) (omega arith) (omega arith)) (front code pc q cv _ has)
      (λ x s1 w1 a e.
      pay p code entries u (pc + length cv) (debt d v) span (branch o hit miss) s1 w1 (K x) (rear code pc q cv _ has).0
      (λ w2 e2.
      (let f : value_of o (look (stand u (pc + length cv) s1 w2)) ≡ x = ap (value_of o) (look_here u (pc + length cv) s1 w2) ∙ ap or_zero e in
      comes_from p code entries _ (on (stand u (if is_true x then hit else miss) s1 w2)) _ (ap (λ y. on (stand u (if is_true y then hit else miss) s1 w2)) f)
      (after x s1 w2 (record { kept = kept_less t (t + 1) t s s1 (omega arith) a.kept; later = omega (arith, a.later, e2) })))))

  -- what follows a form with its scalar in slot k
  abbrev InSlot : ℕ → ℕ → ℕ → ℕ → List Held → State → (Option Scalar → State → Progress Rest) → Type 0
  InSlot k t d q s w K = (x : Option Scalar) (s' : List Held) (w' : State) → After 1 k t d 0 s w s' w' → found (slot k) (local s') ≡ x → Sure true x → To p code entries u q s' w' (owed 0 w' (K x))

  in_slot : (k t d q : ℕ) (s : List Held) (w : State) (K : Option Scalar → State → Progress Rest) → InSlot k t d q s w K → (x : Scalar) (s' : List Held) (w' : State) → Kept t k s s' → w'.left + d + 1 ≤ w.left → local s' k ≡ holds (holding x) → To p code entries u q s' w' (K (Some x) w')
  in_slot k t d q s w K after x s1 w1 kept later e =
      comes_to p code entries _ _ _ (sym (owed_zero w1 (K (Some x)))) (after (Some x) s1 w1 (record { kept = kept; later = omega (arith, later) }) (ap scalar_in e) (x, refl))

  -- the right operand of `&&` or `||`, and a jump past what else the value is
  right_runs : (v : PlainValue) → ValueRuns p code entries u vars call m held v → (k t d more q : ℕ) (span : Span) (rest : List Op) (s s1 : List Held) (w w1 : State) (K : Option Scalar → State → Progress Rest) → k < length s → Ready vars held m t (1 + height v) d s w → After 1 t t d 0 s w s1 w1 → (end : ℕ) →
      Stands code more (value_code (site p vars) t (t + 1) 0 more v ++ op (debt 0 v) span (compute k (truth (operand (site p vars) t v))) ∷ op 0 span (jump q) ∷ rest) end →
      InSlot k t d q s w K → To p code entries u more s1 w1 (and_then (and_then (evaluate (setting p vars call m) held v w1) (λ y w. give (truth_value (is_true y)) w)) K)
  right_runs v rv k t d more q span rest s s1 w w1 K ks r a end has after =
      let g : Setting = setting p vars call m in
      let cv : List Op = value_code (site p vars) t (t + 1) 0 more v in
      let o : Operand = operand (site p vars) t v in
      let tail : List Op = op (debt 0 v) span (compute k (truth o)) ∷ op 0 span (jump q) ∷ rest in
      let ht : Stands code (more + length cv) tail end = rear code more end cv tail has in
      comes_to p code entries _ _ _ (assoc (evaluate g held v w1) (λ y w. give (truth_value (is_true y)) w) K ∙ sym (owed_zero w1 (λ w. and_then (evaluate g held v w) (λ y w. K (Some (truth_value (is_true y))) w))))
      (rv t (t + 1) 0 more (more + length cv) s1 w1 (λ y w. K (Some (truth_value (is_true y))) w) (omega (arith, r.room, a.kept.len))
      (ready_after vars held m t (1 + height v) d (t + 1) (height v) 0 1 t t s s1 w w1 r a r.free r.free (omega (arith, r.free)) (omega (arith, r.room))) (front code more end cv tail has)
      (λ y s2 w2 b e.
      compute_runs p code entries (λ x. x) u k (more + length cv) (more + length cv + 1) (debt 0 v) (truth o) span s2 w2 (λ objects. Ok (truth_value (is_true y))) (λ x. K (Some x)) (ht.0, refl)
      (λ objects. ap (λ x. Ok (truth_value (is_true (or_zero x)))) e)
      (λ x w3 e3.
      free_jump p code entries u (more + length cv + 1) q span (slice_set s2 k (holds (holding x))) w3 (K (Some x) w3) ht.1.0
      (in_slot k t d q s w K after x (slice_set s2 k (holds (holding x))) w3
      (kept_both_set k t s s1 s2 (holds (holding x)) a.kept (kept_less t (t + 1) t s1 s2 (omega arith) b.kept))
      (omega (arith, a.later, b.later, e3)) (get_or-set_same s2 k (holds (holding x)) absent (omega (arith, ks, a.kept.len, b.kept.len)))))))
    where
      kept_both_set : (k t : ℕ) (s s1 s2 : List Held) (x : Held) → Kept t t s s1 → Kept t t s1 s2 → Kept t k s (slice_set s2 k x)
      kept_both_set k t s s1 s2 x a b = kept_on t t k t s s2 (slice_set s2 k x) (omega arith) (omega arith) (kept_both t t t t t t s s1 s2 (omega arith) (omega arith) (omega arith) (omega arith) a b) (kept_set t k x s2)

  -- what else `&&` or `||` is
  short_runs : (k t d short q : ℕ) (span : Span) (x : Scalar) (s s1 : List Held) (w w1 : State) (K : Option Scalar → State → Progress Rest) → k < length s → After 1 t t d 0 s w s1 w1 → Stands code short (op 0 span (compute k (same (fixed x))) ∷ []) q → InSlot k t d q s w K → To p code entries u short s1 w1 (K (Some x) w1)
  short_runs k t d short q span x s s1 w w1 K ks a has after =
      comes_to p code entries _ _ _ (sym (owed_zero w1 (K (Some x))))
      (compute_runs p code entries (λ x. x) u k short q 0 (same (fixed x)) span s1 w1 (λ objects. Ok x) (λ x. K (Some x)) has (λ objects. refl)
      (λ y w2 e2. in_slot k t d q s w K after y (slice_set s1 k (holds (holding y))) w2 (kept_on t t k t s s1 (slice_set s1 k (holds (holding y))) (omega arith) (omega arith) a.kept (kept_set t k (holds (holding y)) s1)) (omega (arith, a.later, e2)) (get_or-set_same s1 k (holds (holding y)) absent (omega (arith, ks, a.kept.len)))))

  -- which way is taken
  and_case : (b : PlainValue) → ValueRuns p code entries u vars call m held b → (yes_it_is : Bool) (k t d more short q : ℕ) (span : Span) (rest : List Op) (end : ℕ) (s s1 : List Held) (w w1 : State) (K : Option Scalar → State → Progress Rest) → k < length s → Ready vars held m t (1 + height b) d s w → After 1 t t d 0 s w s1 w1 →
      Stands code more (value_code (site p vars) t (t + 1) 0 more b ++ op (debt 0 b) span (compute k (truth (operand (site p vars) t b))) ∷ op 0 span (jump q) ∷ rest) end → Stands code short (op 0 span (compute k (same (fixed (decided_value And)))) ∷ []) q → InSlot k t d q s w K →
      To p code entries u (if yes_it_is then more else short) s1 w1 (and_then (if is_decided And yes_it_is then give (truth_value yes_it_is) w1 else and_then (evaluate (setting p vars call m) held b w1) (λ y w. give (truth_value (is_true y)) w)) K)
  and_case b rb true k t d more short q span rest end s s1 w w1 K ks r a hm hs after = right_runs b rb k t d more q span rest s s1 w w1 K ks r a end hm after
  and_case b rb false k t d more short q span rest end s s1 w w1 K ks r a hm hs after = short_runs k t d short q span (decided_value And) s s1 w w1 K ks a hs after

  or_case : (b : PlainValue) → ValueRuns p code entries u vars call m held b → (yes_it_is : Bool) (k t d more short q : ℕ) (span : Span) (rest : List Op) (end : ℕ) (s s1 : List Held) (w w1 : State) (K : Option Scalar → State → Progress Rest) → k < length s → Ready vars held m t (1 + height b) d s w → After 1 t t d 0 s w s1 w1 →
      Stands code more (value_code (site p vars) t (t + 1) 0 more b ++ op (debt 0 b) span (compute k (truth (operand (site p vars) t b))) ∷ op 0 span (jump q) ∷ rest) end → Stands code short (op 0 span (compute k (same (fixed (decided_value Or)))) ∷ []) q → InSlot k t d q s w K →
      To p code entries u (if yes_it_is then short else more) s1 w1 (and_then (if is_decided Or yes_it_is then give (truth_value yes_it_is) w1 else and_then (evaluate (setting p vars call m) held b w1) (λ y w. give (truth_value (is_true y)) w)) K)
  or_case b rb true k t d more short q span rest end s s1 w w1 K ks r a hm hs after = short_runs k t d short q span (decided_value Or) s s1 w w1 K ks a hs after
  or_case b rb false k t d more short q span rest end s s1 w w1 K ks r a hm hs after = right_runs b rb k t d more q span rest s s1 w w1 K ks r a end hm after

  logic_by : (here : At) (ty : PlainType) (o : LogicOp) (a b : PlainValue) → ValueRuns p code entries u vars call m held a → ValueRuns p code entries u vars call m held b → FormRuns p code entries u vars call m held here ty (logic o a b)
  logic_by here ty And a b ra rb k t d pc q s w K ks r at after =
      let g : Setting = setting p vars call m in
      let ca : List Op = value_code (site p vars) t (t + 1) (d + 1) pc a in
      let more : ℕ = pc + length ca + 1 in
      let cb : List Op = value_code (site p vars) t (t + 1) 0 more b in
      let short : ℕ = more + length cb + 2 in
      let last : List Op = op 0 here.span (compute k (same (fixed (decided_value And)))) ∷ [] in
      let right : List Op = cb ++ op (debt 0 b) here.span (compute k (truth (operand (site p vars) t b))) ∷ op 0 here.span (jump (short + 1)) ∷ last in
      let hr : Stands code more right q = (rear code pc q ca (op (debt (d + 1) a) here.span (branch (operand (site p vars) t a) more short) ∷ right) at).1 in
      let hl : Stands code short last q = stands_at code (more + length cb + 1 + 1) short q last (omega arith) (rear code more q cb _ hr).1.1 in
      let eq : short + 1 ≡ q = sym hl.1 in
      comes_to p code entries _ _ _ (owed_node d w (λ w. evaluate g held a w) (λ x w. if is_decided And (is_true x) then give (truth_value (is_true x)) w else and_then (evaluate g held b w) (λ y w. give (truth_value (is_true y)) w)) K)
      (branch_runs a ra t (d + 1) pc more short q here.span right s w _ (ready_for vars held m t (1 + max (height a) (height b)) d t (1 + height a) (d + 1) s w r (omega arith) (omega arith) (omega arith)) at
      (λ x s1 w1 A.
      and_case b rb (is_true x) k t d more short q here.span last q s s1 w w1 K ks (ready_for vars held m t (1 + max (height a) (height b)) d t (1 + height b) d s w r (omega arith) (omega arith) (omega arith)) (record { kept = A.kept; later = omega (arith, A.later) })
      (subst (λ n. Stands code more (cb ++ op (debt 0 b) here.span (compute k (truth (operand (site p vars) t b))) ∷ op 0 here.span (jump n) ∷ last) q) eq hr) hl after))
  logic_by here ty Or a b ra rb k t d pc q s w K ks r at after =
      let g : Setting = setting p vars call m in
      let ca : List Op = value_code (site p vars) t (t + 1) (d + 1) pc a in
      let more : ℕ = pc + length ca + 1 in
      let cb : List Op = value_code (site p vars) t (t + 1) 0 more b in
      let short : ℕ = more + length cb + 2 in
      let last : List Op = op 0 here.span (compute k (same (fixed (decided_value Or)))) ∷ [] in
      let right : List Op = cb ++ op (debt 0 b) here.span (compute k (truth (operand (site p vars) t b))) ∷ op 0 here.span (jump (short + 1)) ∷ last in
      let hr : Stands code more right q = (rear code pc q ca (op (debt (d + 1) a) here.span (branch (operand (site p vars) t a) short more) ∷ right) at).1 in
      let hl : Stands code short last q = stands_at code (more + length cb + 1 + 1) short q last (omega arith) (rear code more q cb _ hr).1.1 in
      let eq : short + 1 ≡ q = sym hl.1 in
      comes_to p code entries _ _ _ (owed_node d w (λ w. evaluate g held a w) (λ x w. if is_decided Or (is_true x) then give (truth_value (is_true x)) w else and_then (evaluate g held b w) (λ y w. give (truth_value (is_true y)) w)) K)
      (branch_runs a ra t (d + 1) pc short more q here.span right s w _ (ready_for vars held m t (1 + max (height a) (height b)) d t (1 + height a) (d + 1) s w r (omega arith) (omega arith) (omega arith)) at
      (λ x s1 w1 A.
      or_case b rb (is_true x) k t d more short q here.span last q s s1 w w1 K ks (ready_for vars held m t (1 + max (height a) (height b)) d t (1 + height b) d s w r (omega arith) (omega arith) (omega arith)) (record { kept = A.kept; later = omega (arith, A.later) })
      (subst (λ n. Stands code more (cb ++ op (debt 0 b) here.span (compute k (truth (operand (site p vars) t b))) ∷ op 0 here.span (jump n) ∷ last) q) eq hr) hl after))

  pub logic_runs : (here : At) (ty : PlainType) (o : LogicOp) (a b : PlainValue) → ValueRuns p code entries u vars call m held a → ValueRuns p code entries u vars call m held b → FormRuns p code entries u vars call m held here ty (logic o a b)
  logic_runs here ty o a b ra rb = logic_by here ty o a b ra rb

  -- ## `?:`

  -- one side of a choice
  side_runs : (v : PlainValue) → IntoRuns p code entries u vars call m held v → (k t d pc q h : ℕ) (s s1 : List Held) (w w1 : State) (K : Option Scalar → State → Progress Rest) → k < length s → Ready vars held m t h d s w → height v ≤ h → After 1 t t d 0 s w s1 w1 → Stands code pc (into_code (site p vars) k t 0 pc v) q →
      ((x : Scalar) (s' : List Held) (w' : State) → Kept t k s s' → w'.left + d + 1 ≤ w.left → local s' k ≡ holds (holding x) → To p code entries u q s' w' (K (Some x) w')) →
      To p code entries u pc s1 w1 (and_then (and_then (evaluate (setting p vars call m) held v w1) give) K)
  side_runs v iv k t d pc q h s s1 w w1 K ks r le a has after =
      let g : Setting = setting p vars call m in
      comes_to p code entries _ _ _ (assoc (evaluate g held v w1) give K ∙ sym (owed_zero w1 (λ w. and_then (evaluate g held v w) (λ x w. K (Some x) w))))
      (iv k t 0 pc q s1 w1 (λ x w. K (Some x) w) (omega (arith, ks, a.kept.len)) (ready_after vars held m t h d t (height v) 0 1 t t s s1 w w1 r a r.free r.free r.free (omega (arith, r.room))) has
      (λ x s2 w2 b e. after x s2 w2 (kept_on t t k t s s1 s2 (omega arith) (omega arith) a.kept b.kept) (omega (arith, a.later, b.later)) e))

  side_case : (a b : PlainValue) → IntoRuns p code entries u vars call m held a → IntoRuns p code entries u vars call m held b → (yes_it_is : Bool) (k t d hit miss last q h : ℕ) (span : Span) (s s1 : List Held) (w w1 : State) (K : Option Scalar → State → Progress Rest) → k < length s → Ready vars held m t h d s w → height a ≤ h → height b ≤ h → After 1 t t d 0 s w s1 w1 →
      Stands code hit (into_code (site p vars) k t 0 hit a) last → slice_get code last ≡ Some (op 0 span (jump q)) → Stands code miss (into_code (site p vars) k t 0 miss b) q → InSlot k t d q s w K →
      To p code entries u (if yes_it_is then hit else miss) s1 w1 (and_then (and_then (if yes_it_is then evaluate (setting p vars call m) held a w1 else evaluate (setting p vars call m) held b w1) give) K)
  side_case a b ia ib true k t d hit miss last q h span s s1 w w1 K ks r la lb A ha hj hb after =
      side_runs a ia k t d hit last h s s1 w w1 K ks r la A ha
      (λ x s2 w2 kept later e. free_jump p code entries u last q span s2 w2 (K (Some x) w2) hj (in_slot k t d q s w K after x s2 w2 kept later e))
  side_case a b ia ib false k t d hit miss last q h span s s1 w w1 K ks r la lb A ha hj hb after =
      side_runs b ib k t d miss q h s s1 w w1 K ks r lb A hb (in_slot k t d q s w K after)

  pub conditional_runs : (here : At) (ty : PlainType) (c a b : PlainValue) → ValueRuns p code entries u vars call m held c → IntoRuns p code entries u vars call m held a → IntoRuns p code entries u vars call m held b → FormRuns p code entries u vars call m held here ty (conditional c a b)
  conditional_runs here ty c a b rc ia ib k t d pc q s w K ks r at after =
      let g : Setting = setting p vars call m in
      let test_of : List Op = value_code (site p vars) t (t + 1) (d + 1) pc c in
      let hit : ℕ = pc + length test_of + 1 in
      let ca : List Op = into_code (site p vars) k t 0 hit a in
      let miss : ℕ = hit + length ca + 1 in
      let cb : List Op = into_code (site p vars) k t 0 miss b in
      let test : List Op = test_of ++ op (debt (d + 1) c) here.span (branch (operand (site p vars) t c) hit miss) ∷ [] in
      let end : ℕ = pc + length test + length ca + 1 + length cb in
      let tail : List Op = ca ++ op 0 here.span (jump end) ∷ cb in
      let lt : length test ≡ length test_of + 1 = length-append test_of (op (debt (d + 1) c) here.span (branch (operand (site p vars) t c) hit miss) ∷ []) in
      let h1 : Stands code hit tail q = stands_at code (pc + length test) hit q tail (omega (arith, lt)) (rear code pc q test tail at) in
      let h2 : Stands code (hit + length ca) (op 0 here.span (jump end) ∷ cb) q = rear code hit q ca (op 0 here.span (jump end) ∷ cb) h1 in
      let eq : q ≡ end = omega (arith, lt, end_of code miss q cb h2.1) in
      comes_to p code entries _ _ _ (owed_node d w (λ w. evaluate g held c w) (λ x w. and_then (if is_true x then evaluate g held a w else evaluate g held b w) give) K)
      (branch_runs c rc t (d + 1) pc hit miss (pc + length test) here.span [] s w _ (ready_for vars held m t (1 + max (height c) (max (height a) (height b))) d t (1 + height c) (d + 1) s w r (omega arith) (omega arith) (omega arith)) (front code pc q test tail at)
      (λ x s1 w1 A.
      side_case a b ia ib (is_true x) k t d hit miss (hit + length ca) q (1 + max (height c) (max (height a) (height b))) here.span s s1 w w1 K ks r (omega arith) (omega arith) (record { kept = A.kept; later = omega (arith, A.later) })
      (front code hit q ca (op 0 here.span (jump end) ∷ cb) h1) (subst (λ n. slice_get code (hit + length ca) ≡ Some (op 0 here.span (jump n))) (sym eq) h2.0) h2.1 after))

  -- ## Calls

  -- an operation after arguments gives a value or none
  pub call_runs : CallsRun p code entries u call m → (here : At) (ty : PlainType) (name : Span) (f : ℕ) (vs : PlainValues) → ArgumentsRun p code entries u vars call m held vs → FormRuns p code entries u vars call m held here ty (call_form name f vs)
  call_runs cr here ty name f vs rvs k t d pc q s w K ks r at after =
      let g : Setting = setting p vars call m in
      let cv : List Op = values_code (site p vars) t (d + 1) pc vs in
      let last : List Op = op (values_debt (d + 1) vs + 1) here.span (call_op k f f t (count_of vs)) ∷ [] in
      comes_to p code entries _ _ _ (owed_node d w (λ w. evaluate_all g held vs w) (λ xs w. call f xs w) K)
      (rvs t (d + 1) pc (pc + length cv) s w _ (ready_for vars held m t (values_height vs) d t (values_height vs) (d + 1) s w r (omega arith) (omega arith) (omega arith)) (front code pc q cv last at)
      (λ xs s1 w1 a e.
      cr k f t (count_of vs) (values_debt (d + 1) vs) (pc + length cv) q here.span xs s1 w1 K (rear code pc q cv last at) e (omega (arith, r.bound, a.later))
      (λ x w2 later.
      comes_to p code entries _ _ _ (sym (owed_zero w2 (K x)))
      (after x (slice_set s1 k (cell_of x)) w2
      (record { kept = kept_on t t k t s s1 (slice_set s1 k (cell_of x)) (omega arith) (omega arith) a.kept (kept_set t k (cell_of x) s1); later = omega (arith, a.later, later) })
      (ap scalar_in (get_or-set_same s1 k (cell_of x) absent (omega (arith, ks, a.kept.len)))) tt))))

  pub built_in_runs : (here : At) (ty : PlainType) (name : Span) (f : Library) (vs : PlainValues) → ArgumentsRun p code entries u vars call m held vs → FormRuns p code entries u vars call m held here ty (built_in name f vs)
  built_in_runs here ty name f vs rvs k t d pc q s w K ks r at after =
      let g : Setting = setting p vars call m in
      let cv : List Op = values_code (site p vars) t (d + 1) pc vs in
      let last : List Op = op (values_debt (d + 1) vs) here.span (library k f ty t (count_of vs)) ∷ [] in
      comes_to p code entries _ _ _ (owed_node d w (λ w. evaluate_all g held vs w) (λ xs w. library_call p f here.span ty xs w) K)
      (rvs t (d + 1) pc (pc + length cv) s w _ (ready_for vars held m t (values_height vs) d t (values_height vs) (d + 1) s w r (omega arith) (omega arith) (omega arith)) (front code pc q cv last at)
      (λ xs s1 w1 a e.
      pay p code entries u (pc + length cv) (values_debt (d + 1) vs) here.span (library k f ty t (count_of vs)) s1 w1 (λ w. and_then (library_call p f here.span ty xs w) K) (rear code pc q cv last at).0
      (λ w2 e2.
      (let c : Config = stand u (pc + length cv) s1 w2 in
      let same_args : gathered t (count_of vs) (look c) ≡ xs = ap (gathered t (count_of vs)) (look_here u (pc + length cv) s1 w2) ∙ e in
      comes_from p code entries _ (turned (library_call p f here.span ty xs w2) (λ x w. on (put k (cell_of x) (with_state w c)))) _ (ap (λ xs. turned (library_call p f here.span ty xs w2) (λ x w. on (put k (cell_of x) (with_state w c)))) same_args)
      (turned_runs p code entries (library_call p f here.span ty xs w2) _ K
      (λ x w3 e3.
      put_runs p code entries u k (pc + length cv) q (cell_of x) s1 w3 (K x w3) (rear code pc q cv last at).1
      (comes_to p code entries _ _ _ (sym (owed_zero w3 (K x)))
      (after x (slice_set s1 k (cell_of x)) w3
      (record { kept = kept_on t t k t s s1 (slice_set s1 k (cell_of x)) (omega arith) (omega arith) a.kept (kept_set t k (cell_of x) s1); later = omega (arith, a.later, e2, library_left p f here.span ty xs w2 w3 x e3) })
      (ap scalar_in (get_or-set_same s1 k (cell_of x) absent (omega (arith, ks, a.kept.len)))) (library_sure p f here.span ty xs w2 w3 x e3)))))))))

  -- ## Values in slots, and arguments

  -- a form that may give nothing is computed to its slot
  record IsPlain (k : ℕ) (ty : PlainType) (form : PlainForm) : Type 0 where
    fixed_is : fixed_of ty form ≡ None
    operand_is : operand_by None (site p vars) k ty form ≡ slot k

  read_unsure : (b : Bool) (k : ℕ) (o : Operand) → not b ≡ false → (if b then slot k else o) ≡ slot k
  read_unsure true k o h = refl
  read_unsure false k o h = absurd (let e : true ≡ false = h in cc)

  not_sure : {A : Type 0} → true ≡ false → A
  not_sure h = absurd (let e : true ≡ false = h in cc)

  unsure : (k : ℕ) (ty : PlainType) (form : PlainForm) → is_sure ty form ≡ false → IsPlain k ty form
  unsure k ty (constant z) h = not_sure h
  unsure k ty (read pl) h = record { fixed_is = refl; operand_is = read_unsure (is_structure ty) k (read_operand (spot_of (site p vars) pl) k) h }
  unsure k ty (sense n) h = not_sure h
  unsure k ty (address pl) h = not_sure h
  unsure k ty (decay pl) h = not_sure h
  unsure k ty (convert v) h = not_sure h
  unsure k ty (cast v) h = record { fixed_is = refl; operand_is = refl }
  unsure k ty (unary o v) h = not_sure h
  unsure k ty (binary o a b) h = not_sure h
  unsure k ty (logic o a b) h = not_sure h
  unsure k ty (conditional c a b) h = not_sure h
  unsure k ty (call_form name f vs) h = record { fixed_is = refl; operand_is = refl }
  unsure k ty (built_in name f vs) h = record { fixed_is = refl; operand_is = refl }

  -- a value is used: a call that gave nothing stops the run
  used_runs : (sure : Bool) (fx : Option Scalar) (o : Operand) (k d t pc q : ℕ) (span : Span) (x : Option Scalar) (s s1 : List Held) (w w1 : State) (K : Scalar → State → Progress Rest) → (sure ≡ false → (fx ≡ None) × (o ≡ slot k)) →
      After 1 k t d (debt_of_fixed fx d) s w s1 w1 → found o (local s1) ≡ x → Sure sure x → Stands code pc (used_code sure k span) q →
      ((x : Scalar) (s' : List Held) (w' : State) → After 1 k t d (debt_of_fixed fx d) s w s' w' → found o (local s') ≡ Some x → To p code entries u q s' w' (owed (debt_of_fixed fx d) w' (K x))) →
      To p code entries u pc s1 w1 (owed (debt_of_fixed fx d) w1 (λ w. and_then (or_undefined (used_value x) span w (λ x. gives x w)) K))
  used_runs true fx o k d t pc q span x s s1 w w1 K plain a e (y, ey) at after =
      comes_to p code entries _ _ _ (owed_same (debt_of_fixed fx d) w1 _ _ (λ w. ap (λ x. and_then (or_undefined (used_value x) span w (λ x. gives x w)) K) ey))
      (placed p code entries u pc q s1 w1 _ (sym at) (after y s1 w1 a (e ∙ ey)))
  used_runs false fx o k d t pc q span x s s1 w w1 K plain a e sure at after =
      let (ef, eo) = plain refl in
      let free : debt_of_fixed fx d ≡ 0 = ap (λ f. debt_of_fixed f d) ef in
      let c : Config = stand u pc s1 w1 in
      let here : scalar_in (look c k) ≡ x = ap (λ (l : ℕ → Held). scalar_in (l k)) (look_here u pc s1 w1) ∙ ap (λ o. found o (local s1)) (sym eo) ∙ e in
      comes_to p code entries _ _ _ ((λ i. owed (free i) w1 (λ w. and_then (or_undefined (used_value x) span w (λ x. gives x w)) K)) ∙ owed_zero w1 (λ w. and_then (or_undefined (used_value x) span w (λ x. gives x w)) K) ∙ result_then (used_value x) span w1 (λ x. gives x w1) K)
      (free_op p code entries u pc span (used k) s1 w1 _ at.0
      (comes_from p code entries _ (unless_stopped (used_value x) span c (λ x. on (next c))) _ (ap (λ y. unless_stopped (used_value y) span c (λ x. on (next c))) here)
      (by x e)))
    where
      by : (x : Option Scalar) → found o (local s1) ≡ x → Reaches p code entries (unless_stopped (used_value x) span (stand u pc s1 w1) (λ x. on (next (stand u pc s1 w1)))) (or_undefined (used_value x) span w1 (λ x. K x w1))
      by None e = off_reaches p code entries (ends (Undefined U10 span) w1) tt
      by (Some y) e =
          let free : debt_of_fixed fx d ≡ 0 = ap (λ f. debt_of_fixed f d) (plain refl).0 in
          placed p code entries u (pc + 1) q s1 w1 _ (sym at.1)
          (comes_to p code entries _ _ _ (sym (owed_zero w1 (K y)) ∙ (λ i. owed (sym free i) w1 (K y))) (after y s1 w1 a e))

  pub value_runs : (here : At) (ty : PlainType) (form : PlainForm) → FormRuns p code entries u vars call m held here ty form → ValueRuns p code entries u vars call m held (value here ty form)
  value_runs here ty form rf k t d pc q s w K ks r at after =
      let g : Setting = setting p vars call m in
      let cf : List Op = form_code (site p vars) k t d pc here ty form in
      comes_to p code entries _ _ _ (owed_assoc d w (λ w. perform g held here ty form w) (λ x w. or_undefined (used_value x) here.span w (λ x. gives x w)) K)
      (rf k t d pc (pc + length cf) s w _ ks r (front code pc q cf _ at)
      (λ x s1 w1 a e sure.
      used_runs (is_sure ty form) (fixed_of ty form) (form_operand (site p vars) k ty form) k d t (pc + length cf) q here.span x s s1 w w1 K
      (λ h. (let i : IsPlain k ty form = unsure k ty form h in (i.fixed_is, ap (λ f. operand_by f (site p vars) k ty form) i.fixed_is ∙ i.operand_is)))
      a e sure (rear code pc q cf _ at) after))

  pub dropped_runs : (here : At) (ty : PlainType) (form : PlainForm) → FormRuns p code entries u vars call m held here ty form → DroppedRuns p code entries u vars call m held (value here ty form)
  dropped_runs here ty form rf k t d pc q s w K ks r at after = rf k t d pc q s w K ks r at (λ x s1 w1 a e sure. after x s1 w1 a)

  -- a value that stands elsewhere is moved
  move_runs : (o : Operand) (k t d e pc q : ℕ) (span : Span) (x : Scalar) (s s1 : List Held) (w w1 : State) (K : Scalar → State → Progress Rest) → k < length s → After 1 k t d e s w s1 w1 → found o (local s1) ≡ Some x → Stands code pc (op e span (compute k (same o)) ∷ []) q →
      Then p code entries u vars call m held (λ x. x) k t d q s w K → To p code entries u pc s1 w1 (owed e w1 (K x))
  move_runs o k t d e pc q span x s s1 w w1 K ks a f at after =
      compute_runs p code entries (λ x. x) u k pc q e (same o) span s1 w1 (λ objects. Ok x) K at (λ objects. ap (λ y. Ok (or_zero y)) f)
      (λ y w2 e2.
      after y (slice_set s1 k (holds (holding y))) w2 (record { kept = kept_again t k s s1 (holds (holding y)) a.kept; later = omega (arith, a.later, e2) }) (get_or-set_same s1 k (holds (holding y)) absent (omega (arith, ks, a.kept.len))))
    where
      kept_again : (t k : ℕ) (s s1 : List Held) (y : Held) → Kept t k s s1 → Kept t k s (slice_set s1 k y)
      kept_again t k s s1 y a = let b : Kept t k s1 (slice_set s1 k y) = kept_set t k y s1 in record { len = b.len ∙ a.len; same = λ i lt ne. b.same i lt ne ∙ a.same i lt ne }

  -- a scalar that is computed to its slot stands there
  cell_is : (held : Held) (x : Scalar) → scalar_in held ≡ Some x → held ≡ holds (holding x)
  cell_is (holds cell) x e = ap (λ v. holds (record { value = v })) e
  cell_is (stands o) x e = absurd (none_some x e)
  cell_is absent x e = absurd (none_some x e)

  stays_runs : (k t d pc q : ℕ) (x : Scalar) (s s1 : List Held) (w w1 : State) (K : Scalar → State → Progress Rest) → After 1 k t d 0 s w s1 w1 → found (slot k) (local s1) ≡ Some x → q ≡ pc → Then p code entries u vars call m held (λ x. x) k t d q s w K → To p code entries u pc s1 w1 (owed 0 w1 (K x))
  stays_runs k t d pc q x s s1 w w1 K a f at after =
      comes_to p code entries _ _ _ (owed_zero w1 (K x)) (placed p code entries u pc q s1 w1 _ (sym at) (after x s1 w1 a (cell_is (local s1 k) x f)))

  -- a value is brought to its slot
  finish_runs : (fx : Option Scalar) (ty : PlainType) (form : PlainForm) (k t d pc q : ℕ) (span : Span) (x : Scalar) (s s1 : List Held) (w w1 : State) (K : Scalar → State → Progress Rest) → k < length s → After 1 k t d (debt_of_fixed fx d) s w s1 w1 →
      found (operand_by fx (site p vars) k ty form) (local s1) ≡ Some x → Stands code pc (moved_code fx (site p vars) k d span ty form) q → Then p code entries u vars call m held (λ x. x) k t d q s w K → To p code entries u pc s1 w1 (owed (debt_of_fixed fx d) w1 (K x))
  finish_runs (Some y) ty form k t d pc q span x s s1 w w1 K ks a f at after = move_runs (fixed y) k t d (d + 1) pc q span x s s1 w w1 K ks a f at after
  finish_runs None ty (read pl) k t d pc q span x s s1 w w1 K ks a f at after = move_runs (operand_by None (site p vars) k ty (read pl)) k t d 0 pc q span x s s1 w w1 K ks a f at after
  finish_runs None ty (constant z) k t d pc q span x s s1 w w1 K ks a f at after = stays_runs k t d pc q x s s1 w w1 K a f at after
  finish_runs None ty (sense n) k t d pc q span x s s1 w w1 K ks a f at after = stays_runs k t d pc q x s s1 w w1 K a f at after
  finish_runs None ty (address pl) k t d pc q span x s s1 w w1 K ks a f at after = stays_runs k t d pc q x s s1 w w1 K a f at after
  finish_runs None ty (decay pl) k t d pc q span x s s1 w w1 K ks a f at after = stays_runs k t d pc q x s s1 w w1 K a f at after
  finish_runs None ty (convert v) k t d pc q span x s s1 w w1 K ks a f at after = stays_runs k t d pc q x s s1 w w1 K a f at after
  finish_runs None ty (cast v) k t d pc q span x s s1 w w1 K ks a f at after = stays_runs k t d pc q x s s1 w w1 K a f at after
  finish_runs None ty (unary o v) k t d pc q span x s s1 w w1 K ks a f at after = stays_runs k t d pc q x s s1 w w1 K a f at after
  finish_runs None ty (binary o b c) k t d pc q span x s s1 w w1 K ks a f at after = stays_runs k t d pc q x s s1 w w1 K a f at after
  finish_runs None ty (logic o b c) k t d pc q span x s s1 w w1 K ks a f at after = stays_runs k t d pc q x s s1 w w1 K a f at after
  finish_runs None ty (conditional c b e) k t d pc q span x s s1 w w1 K ks a f at after = stays_runs k t d pc q x s s1 w w1 K a f at after
  finish_runs None ty (call_form name g vs) k t d pc q span x s s1 w w1 K ks a f at after = stays_runs k t d pc q x s s1 w w1 K a f at after
  finish_runs None ty (built_in name g vs) k t d pc q span x s s1 w w1 K ks a f at after = stays_runs k t d pc q x s s1 w w1 K a f at after

  pub into_runs : (here : At) (ty : PlainType) (form : PlainForm) → FormRuns p code entries u vars call m held here ty form → IntoRuns p code entries u vars call m held (value here ty form)
  into_runs here ty form rf k t d pc q s w K ks r at after =
      let cv : List Op = form_code (site p vars) k t d pc here ty form ++ used_code (is_sure ty form) k here.span in
      value_runs here ty form rf k t d pc (pc + length cv) s w K ks r (front code pc q cv (moved_code (fixed_of ty form) (site p vars) k d here.span ty form) at)
      (λ x s1 w1 a f. finish_runs (fixed_of ty form) ty form k t d (pc + length cv) q here.span x s s1 w w1 K ks a f (rear code pc q cv (moved_code (fixed_of ty form) (site p vars) k d here.span ty form) at) after)

  -- arguments
  pub no_arguments_run : ArgumentsRun p code entries u vars call m held no_values
  no_arguments_run t d pc q s w K r at after = placed p code entries u pc q s w _ (sym at) (after [] s w (record { kept = kept_all t t s; later = omega arith }) refl)

  pub arguments_run : (v : PlainValue) (vs : PlainValues) → IntoRuns p code entries u vars call m held v → ArgumentsRun p code entries u vars call m held vs → ArgumentsRun p code entries u vars call m held (more_values v vs)
  arguments_run v vs iv rvs t d pc q s w K r at after =
      let g : Setting = setting p vars call m in
      let cv : List Op = into_code (site p vars) t (t + 1) d pc v in
      let cs : List Op = values_code (site p vars) (t + 1) 0 (pc + length cv) vs in
      comes_to p code entries _ _ _ (owed_assoc d w (λ w. evaluate g held v w) (λ x w. and_then (evaluate_all g held vs w) (λ xs w. gives (x ∷ xs) w)) K)
      (iv t (t + 1) d pc (pc + length cv) s w _ (omega (arith, r.room)) (ready_for vars held m t (1 + max (height v) (values_height vs)) d (t + 1) (height v) d s w r (omega arith) (omega arith) (omega arith)) (front code pc q cv cs at)
      (λ x s1 w1 a e.
      comes_to p code entries _ _ _ (assoc (evaluate_all g held vs w1) (λ xs w. gives (x ∷ xs) w) K ∙ sym (owed_zero w1 (λ w. and_then (evaluate_all g held vs w) (λ xs w. K (x ∷ xs) w))))
      (rvs (t + 1) 0 (pc + length cv) q s1 w1 (λ xs w. K (x ∷ xs) w)
      (ready_after vars held m (t + 1) (height v) d (t + 1) (values_height vs) 0 1 t (t + 1) s s1 w w1 (ready_for vars held m t (1 + max (height v) (values_height vs)) d (t + 1) (height v) d s w r (omega arith) (omega arith) (omega arith)) a (omega (arith, r.free)) r.free (omega (arith, r.free)) (omega (arith, r.room)))
      (rear code pc q cv cs at)
      (λ xs s2 w2 b f.
      comes_to p code entries _ _ _ (no_debt vs w2 (K (x ∷ xs)))
      (after (x ∷ xs) s2 w2
      (record { kept = kept_both t t (t + 1) t (t + 1) (t + 1) s s1 s2 (omega arith) (omega arith) (omega arith) (omega arith) a.kept b.kept; later = omega (arith, a.later, b.later, zero_debt vs) })
      (λ i. first_is s1 s2 t x e b.kept i ∷ f i))))))
    where
      zero_debt : (vs : PlainValues) → values_debt 0 vs ≡ 0
      zero_debt no_values = refl
      zero_debt (more_values v vs) = refl

      no_debt : (vs : PlainValues) (w : State) (go : State → Progress Rest) → owed (values_debt 0 vs) w go ≡ owed 0 w go
      no_debt no_values w go = refl
      no_debt (more_values v vs) w go = refl

      first_is : (s1 s2 : List Held) (t : ℕ) (x : Scalar) → local s1 t ≡ holds (holding x) → Kept (t + 1) (t + 1) s1 s2 → or_zero (scalar_in (local s2 t)) ≡ x
      first_is s1 s2 t x e b = ap (λ h. or_zero (scalar_in h)) (b.same t (omega arith) (λ e. omega arith) ∙ e)

-- The state before anything was executed.
use Rattle.std.proofs.Common.{◌≡◌, ℕ, ◌+◌, ◌≤◌, List, [], ◌++◌, length, take, Result, Ok, Err, IfOk, OnOk, refl, sym, ◌∙◌, ap, arith}
use Rattle.std.proofs.lemmas.List.{take_all}
use Rattle.p10_core.specs.Typed.{PlainObject, PlainLiteral, PlainProgram}
use Rattle.p10_meaning.specs.declared.pointers.Cell.{Cell}
use Rattle.p10_meaning.specs.declared.world.World.{World}
use Rattle.p10_meaning.specs.States.{State}
use Rattle.p10_meaning.specs.Scalars.{zero_cells}
use Rattle.p10_meaning.specs.Values.{scalars}
use Rattle.p10_meaning.specs.Opening.{static_objects, literal_objects, opening_with, opening, constant_state, initial_cells}
use Rattle.p10_store.specs.Stores.{Held}
use Rattle.p10_interp.specs.private.Machines.{Around}
use Rattle.p10_interp.specs.private.Constants.{nothing_around, IsConstantState}
use Rattle.p10_interp.specs.private.Statics.{HasStatics, starting}

statics_start : (p : PlainProgram) (cells : PlainObject → List Cell) (s : Held) (world : World) (left : ℕ) (io : Around) → HasStatics p cells s → io.rest ≡ world.input → world.sensors ≡ [] →
    starting p s world.denied left io ≡ record (opening_with cells p world left) { output = io.out }
statics_start p cells s world left io h input sensors =
    ap (λ objects. record (starting p s world.denied left io) { objects = objects }) h.objects ∙
    (ap (λ n. record (opening_with cells p world left) { opened = n; input = io.rest; sensors = []; output = io.out }) h.opened ∙
    (ap (λ input. record (opening_with cells p world left) { input = input; sensors = []; output = io.out }) input ∙
    ap (λ sensors. record (opening_with cells p world left) { sensors = sensors; output = io.out }) (sym sensors)))

pub opens_at : (p : PlainProgram) (s : Held) (denied : List ℕ) (io : Around) (w : State) → HasStatics p (λ o. initial_cells p o.type o.initializer) s → w ≡ starting p s denied 0 io →
    w ≡ record (opening p (record { input = io.rest; denied = denied; sensors = [] }) 0) { output = io.out }
opens_at p s denied io w h e = e ∙ statics_start p (λ o. initial_cells p o.type o.initializer) s (record { input = io.rest; denied = denied; sensors = [] }) 0 io h refl refl

pub zero_at_first : (p : PlainProgram) (s : Held) (denied : List ℕ) (w : State) (left : ℕ) → HasStatics p (λ o. zero_cells (scalars p o.type)) s → denied ≡ [] → w ≡ starting p s denied left nothing_around → IsConstantState p w
zero_at_first p s denied w left h none e =
    let is : w ≡ record (constant_state p) { left = left } = e ∙ (ap (λ denied. starting p s denied left nothing_around) none ∙ statics_start p (λ o. zero_cells (scalars p o.type)) s (record { input = []; denied = []; sensors = [] }) left nothing_around h refl refl) in
    is ∙ ap (λ n. record (constant_state p) { left = n }) (sym (ap (λ (w : State). w.left) is))

-- the objects of static lifetime were opened, and then the literals
pub has_statics : (p : PlainProgram) (cells : PlainObject → List Cell) (old new : Held) (ls : List PlainLiteral) (n count : ℕ) → length p.objects ≤ n → n ≤ length p.objects → old.objects ≡ static_objects cells 0 (take n p.objects) → old.opened ≡ n →
    new.objects ≡ old.objects ++ literal_objects old.opened ls → new.opened ≡ old.opened + count → ls ≡ p.literals → count ≡ length p.literals → HasStatics p cells new
has_statics p cells old new ls n count most least first at more opened same many =
    let all : n ≡ length p.objects = omega (arith, most, least) in
    record {
      objects = more ∙ (ap (λ xs. xs ++ literal_objects old.opened ls) (first ∙ ap (λ xs. static_objects cells 0 xs) (take_all n p.objects most)) ∙
          (ap (λ k. static_objects cells 0 p.objects ++ literal_objects k ls) (at ∙ all) ∙ ap (λ ls. static_objects cells 0 p.objects ++ literal_objects (length p.objects) ls) same));
      opened = opened ∙ (ap (λ k. k + count) (at ∙ all) ∙ ap (λ k. length p.objects + k) many);
    }

pub if_ok_on : {A B : Type 0} (r : Result A B) (P Q : A → Type 0) → ((x : A) → P x → Q x) → IfOk r P → IfOk r Q
if_ok_on (Ok x) P Q go h = go x h
if_ok_on (Err e) P Q go h = tt

pub on_ok_then : {A B C : Type 0} (r : Result A B) (a b c : C) → b ≡ c → OnOk r (a ≡ b) → OnOk r (a ≡ c)
on_ok_then (Ok x) a b c e h = h ∙ e
on_ok_then (Err x) a b c e h = tt

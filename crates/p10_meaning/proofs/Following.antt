-- States that come after one another.
use Rattle.std.proofs.Common.{◌≡◌, ℕ, suc, ◌≤◌, Bool, true, false, List, [], ◌∷◌, ◌++◌, refl, sym, ◌∙◌, ap, arith, append_assoc, append-nil, ℤ}
use Rattle.std.specs.Prelude.{if◌then◌else◌}
use Rattle.p10_meaning.specs.Objects.{Object, Origin}
use Rattle.p10_meaning.specs.declared.pointers.Cell.{Cell}
use Rattle.p10_meaning.specs.States.{State, counted}
use Rattle.p10_meaning.specs.Values.{open_object}
use Rattle.p10_meaning.specs.Calling.{Depth, raised}
use Rattle.p10_meaning.specs.Laws.{Extends, Follows}

pub extends_same : {A : Type 0} (xs : List A) → Extends xs xs
extends_same xs = record { more = []; is = sym (append-nil xs) }

pub extends_trans : {A : Type 0} (xs ys zs : List A) → Extends xs ys → Extends ys zs → Extends xs zs
extends_trans xs ys zs a b = record { more = a.more ++ b.more; is = b.is ∙ (ap (λ l. l ++ b.more) a.is ∙ append_assoc xs a.more b.more) }

taken_trans : {A : Type 0} (xs ys zs : List A) → (taken : List A) × (xs ≡ taken ++ ys) → (taken : List A) × (ys ≡ taken ++ zs) → (taken : List A) × (xs ≡ taken ++ zs)
taken_trans xs ys zs (s, a) (t, b) = (s ++ t, a ∙ (ap (λ l. s ++ l) b ∙ sym (append_assoc s t zs)))

pub none_taken : {A : Type 0} (xs : List A) → (taken : List A) × (xs ≡ taken ++ xs)
none_taken xs = ([], refl)

at_most : (n : ℕ) → n ≤ n
at_most n = omega arith

pub follows_same : (w : State) → Follows w w
follows_same w = record {
  left = at_most w.left;
  opened = at_most w.opened;
  requests = at_most w.requests;
  denied = refl;
  calls = at_most w.calls;
  bytes = at_most w.bytes;
  counted = at_most w.after_mark;
  marked = λ e. e;
  before_mark = λ e. refl;
  output = extends_same w.output;
  input = none_taken w.input;
  sensors = none_taken w.sensors;
}

le_trans : (a b c : ℕ) → a ≤ b → b ≤ c → a ≤ c
le_trans a b c x y = omega (arith, x, y)

-- before the mark at the end is before the mark in between
unmarked : (b c : Bool) → (b ≡ true → c ≡ true) → c ≡ false → b ≡ false
unmarked true c h e = absurd (let d : c ≡ true = h refl in cc)
unmarked false c h e = refl

pub follows_trans : (u v w : State) → Follows u v → Follows v w → Follows u w
follows_trans u v w a b = record {
  left = le_trans _ _ _ b.left a.left;
  opened = le_trans _ _ _ a.opened b.opened;
  requests = le_trans _ _ _ a.requests b.requests;
  denied = b.denied ∙ a.denied;
  calls = le_trans _ _ _ a.calls b.calls;
  bytes = le_trans _ _ _ a.bytes b.bytes;
  counted = le_trans _ _ _ a.counted b.counted;
  marked = λ e. b.marked (a.marked e);
  before_mark = λ e. b.before_mark e ∙ a.before_mark (unmarked v.marked w.marked b.marked e);
  output = extends_trans u.output v.output w.output a.output b.output;
  input = taken_trans u.input v.input w.input a.input b.input;
  sensors = taken_trans u.sensors v.sensors w.sensors a.sensors b.sensors;
}

-- ## Single changes

pub follows_left : (w : State) (n : ℕ) → n ≤ w.left → Follows w (record w { left = n })
follows_left w n l = record {
  left = l;
  opened = at_most w.opened;
  requests = at_most w.requests;
  denied = refl;
  calls = at_most w.calls;
  bytes = at_most w.bytes;
  counted = at_most w.after_mark;
  marked = λ e. e;
  before_mark = λ e. refl;
  output = extends_same w.output;
  input = none_taken w.input;
  sensors = none_taken w.sensors;
}

pub follows_objects : (w : State) (objects : List Object) → Follows w (record w { objects = objects })
follows_objects w objects = record {
  left = at_most w.left;
  opened = at_most w.opened;
  requests = at_most w.requests;
  denied = refl;
  calls = at_most w.calls;
  bytes = at_most w.bytes;
  counted = at_most w.after_mark;
  marked = λ e. e;
  before_mark = λ e. refl;
  output = extends_same w.output;
  input = none_taken w.input;
  sensors = none_taken w.sensors;
}

pub follows_open : (w : State) (origin : Origin) (cells : List Cell) → Follows w (open_object origin cells w)
follows_open w origin cells = record {
  left = at_most w.left;
  opened = omega arith;
  requests = at_most w.requests;
  denied = refl;
  calls = at_most w.calls;
  bytes = at_most w.bytes;
  counted = at_most w.after_mark;
  marked = λ e. e;
  before_mark = λ e. refl;
  output = extends_same w.output;
  input = none_taken w.input;
  sensors = none_taken w.sensors;
}

pub follows_raised : (w : State) (d : Depth) → Follows w (raised d w)
follows_raised w d = record {
  left = at_most w.left;
  opened = at_most w.opened;
  requests = at_most w.requests;
  denied = refl;
  calls = omega arith;
  bytes = omega arith;
  counted = at_most w.after_mark;
  marked = λ e. e;
  before_mark = λ e. refl;
  output = extends_same w.output;
  input = none_taken w.input;
  sensors = none_taken w.sensors;
}

pub follows_requests : (w : State) → Follows w (record w { requests = suc w.requests })
follows_requests w = record {
  left = at_most w.left;
  opened = at_most w.opened;
  requests = omega arith;
  denied = refl;
  calls = at_most w.calls;
  bytes = at_most w.bytes;
  counted = at_most w.after_mark;
  marked = λ e. e;
  before_mark = λ e. refl;
  output = extends_same w.output;
  input = none_taken w.input;
  sensors = none_taken w.sensors;
}

pub follows_input : (w : State) (byte : ℕ) (input : List ℕ) → w.input ≡ byte ∷ input → Follows w (record w { input = input })
follows_input w byte input e = record {
  left = at_most w.left;
  opened = at_most w.opened;
  requests = at_most w.requests;
  denied = refl;
  calls = at_most w.calls;
  bytes = at_most w.bytes;
  counted = at_most w.after_mark;
  marked = λ e. e;
  before_mark = λ e. refl;
  output = extends_same w.output;
  input = (byte ∷ [], e);
  sensors = none_taken w.sensors;
}

pub follows_sensors : (w : State) (z : ℤ) (sensors : List ℤ) → w.sensors ≡ z ∷ sensors → Follows w (record w { sensors = sensors })
follows_sensors w z sensors e = record {
  left = at_most w.left;
  opened = at_most w.opened;
  requests = at_most w.requests;
  denied = refl;
  calls = at_most w.calls;
  bytes = at_most w.bytes;
  counted = at_most w.after_mark;
  marked = λ e. e;
  before_mark = λ e. refl;
  output = extends_same w.output;
  input = none_taken w.input;
  sensors = (z ∷ [], e);
}

pub follows_output : (w : State) (byte : ℕ) → Follows w (record w { output = w.output ++ byte ∷ [] })
follows_output w byte = record {
  left = at_most w.left;
  opened = at_most w.opened;
  requests = at_most w.requests;
  denied = refl;
  calls = at_most w.calls;
  bytes = at_most w.bytes;
  counted = at_most w.after_mark;
  marked = λ e. e;
  before_mark = λ e. refl;
  output = record { more = byte ∷ []; is = refl };
  input = none_taken w.input;
  sensors = none_taken w.sensors;
}

pub follows_mark : (w : State) → Follows w (record w { marked = true })
follows_mark w = record {
  left = at_most w.left;
  opened = at_most w.opened;
  requests = at_most w.requests;
  denied = refl;
  calls = at_most w.calls;
  bytes = at_most w.bytes;
  counted = at_most w.after_mark;
  marked = λ e. refl;
  before_mark = λ e. refl;
  output = extends_same w.output;
  input = none_taken w.input;
  sensors = none_taken w.sensors;
}

count_grows : (b : Bool) (n : ℕ) → n ≤ (if b then suc n else n)
count_grows true n = omega arith
count_grows false n = omega arith

count_stays : (b : Bool) (n : ℕ) → b ≡ false → (if b then suc n else n) ≡ n
count_stays true n e = absurd cc
count_stays false n e = refl

pub follows_counted : (w : State) → Follows w (counted w)
follows_counted w = record {
  left = at_most w.left;
  opened = at_most w.opened;
  requests = at_most w.requests;
  denied = refl;
  calls = at_most w.calls;
  bytes = at_most w.bytes;
  counted = count_grows w.marked w.after_mark;
  marked = λ e. e;
  before_mark = λ e. count_stays w.marked w.after_mark e;
  output = extends_same w.output;
  input = none_taken w.input;
  sensors = none_taken w.sensors;
}

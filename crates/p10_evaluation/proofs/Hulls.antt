-- What describes a frame, or holds a number, goes on to do so in a hull.
use Rattle.std.proofs.Common.{◌≡◌, ℕ, zero, suc, eqb, Bool, true, false, List, [], ◌∷◌, Option, Some, None, refl, ap, sym, ◌∙◌, subst, arith, ℤ, pos, ◌-ℤ◌}
use Rattle.std.specs.Prelude.{if◌then◌else◌, IfSome, is_some}
use Rattle.std.proofs.lemmas.Option.{same_Some, none-some}
use Rattle.std.proofs.lemmas.Int.{ints, clamps}
use Rattle.std.proofs.lemmas.Bool.{eqb-true}
use Rattle.p10_range.specs.Ranges.{Interval, IsMember, IsWithin, hull_of}
use Rattle.p10_core.specs.Typed.{PlainVariable}
use Rattle.p10_meaning.specs.Values.{Held}
use Rattle.p10_absx.specs.Abstract.{Offset, Abstract, hull_offset, hull_abstract}
use Rattle.p10_absx.specs.Environments.{Environment, known, hull_entry, hull_environment, hull_reached}
use Rattle.p10_absx.specs.Assessing.{hull_found}
use Rattle.p10_absx.specs.Describing.{set_to, Differs, HoldsNumber, IsOwn, HoldsUnset, DescribesOne, DescribesVariable, Describes, MaybeDescribes, MaybeHolds}

-- ## Ranges and offsets

in_left : (r s : Interval) (z : ℤ) → IsMember r z → IsMember (hull_of r s) z
in_left r s z m = record { above = omega (arith, ints, clamps, m.above); below = omega (arith, ints, clamps, m.below) }

in_right : (r s : Interval) (z : ℤ) → IsMember s z → IsMember (hull_of r s) z
in_right r s z m = record { above = omega (arith, ints, clamps, m.above); below = omega (arith, ints, clamps, m.below) }

within_left : (q r s : Interval) → IsWithin q r → IsWithin q (hull_of r s)
within_left q r s w = record { from_low = omega (arith, ints, clamps, w.from_low); to_high = omega (arith, ints, clamps, w.to_high) }

within_right : (q r s : Interval) → IsWithin q s → IsWithin q (hull_of r s)
within_right q r s w = record { from_low = omega (arith, ints, clamps, w.from_low); to_high = omega (arith, ints, clamps, w.to_high) }

-- an offset of both
abbrev hulled : Offset → Offset → Offset
hulled o p = record { about = o.about; by = hull_of o.by p.by }

offset_left : (Q R : Offset → Type 0) (o p : Option Offset) → IfSome o Q → ((o p : Offset) → Q o → R (hulled o p)) → IfSome (hull_offset o p) R
offset_left Q R None p h f = tt
offset_left Q R (Some o) None h f = tt
offset_left Q R (Some o) (Some p) h f = at (eqb o.about p.about)
  where
    at : (b : Bool) → IfSome (if b then Some (hulled o p) else None) R
    at true = f o p h
    at false = tt

offset_right : (Q R : Offset → Type 0) (o p : Option Offset) → IfSome p Q → ((o p : Offset) → o.about ≡ p.about → Q p → R (hulled o p)) → IfSome (hull_offset o p) R
offset_right Q R None p h f = tt
offset_right Q R (Some o) None h f = tt
offset_right Q R (Some o) (Some p) h f = at (eqb o.about p.about) refl
  where
    at : (b : Bool) → eqb o.about p.about ≡ b → IfSome (if b then Some (hulled o p) else None) R
    at true e = f o p (eqb-true o.about p.about e) h
    at false e = tt

-- ## Abstract values

pub left_number : (head : List Held) (a b : Abstract) (z : ℤ) → HoldsNumber head a z → HoldsNumber head (hull_abstract a b) z
left_number head a b z h = record {
  member = in_left a.range b.range z h.member;
  offset = offset_left (λ o. Differs head o z) (λ o. Differs head o z) a.offset b.offset h.offset
      (λ o p d. record { then = d.then; was = d.was; difference = in_left o.by p.by (z -ℤ d.then) d.difference });
}

pub right_number : (head : List Held) (a b : Abstract) (z : ℤ) → HoldsNumber head b z → HoldsNumber head (hull_abstract a b) z
right_number head a b z h = record {
  member = in_right a.range b.range z h.member;
  offset = offset_right (λ o. Differs head o z) (λ o. Differs head o z) a.offset b.offset h.offset
      (λ o p e d. record { then = d.then; was = ap (set_to head) e ∙ d.was; difference = in_right o.by p.by (z -ℤ d.then) d.difference });
}

left_unset : (all : Interval) (n : ℕ) (a b : Abstract) → HoldsUnset all n a → HoldsUnset all n (hull_abstract a b)
left_unset all n a b h = record {
  range = within_left all a.range b.range h.range;
  offset = offset_left (IsOwn n) (IsOwn n) a.offset b.offset h.offset (λ o p d. record { about = d.about; zero = in_left o.by p.by (pos 0) d.zero });
}

right_unset : (all : Interval) (n : ℕ) (a b : Abstract) → HoldsUnset all n b → HoldsUnset all n (hull_abstract a b)
right_unset all n a b h = record {
  range = within_right all a.range b.range h.range;
  offset = offset_right (IsOwn n) (IsOwn n) a.offset b.offset h.offset (λ o p e d. record { about = e ∙ d.about; zero = in_right o.by p.by (pos 0) d.zero });
}

left_one : (head : List Held) (all : Interval) (n : ℕ) (a b : Abstract) (z : Option ℤ) → DescribesOne head all n a z → DescribesOne head all n (hull_abstract a b) z
left_one head all n a b (Some z) h = left_number head a b z h
left_one head all n a b None h = left_unset all n a b h

right_one : (head : List Held) (all : Interval) (n : ℕ) (a b : Abstract) (z : Option ℤ) → DescribesOne head all n b z → DescribesOne head all n (hull_abstract a b) z
right_one head all n a b (Some z) h = right_number head a b z h
right_one head all n a b None h = right_unset all n a b h

-- values that may be lacking
pub left_found : (head : List Held) (a b : Option Abstract) (z : ℤ) → MaybeHolds head a z → MaybeHolds head (hull_found a b) z
left_found head None b z h = absurd h
left_found head (Some a) None z h = h
left_found head (Some a) (Some b) z h = left_number head a b z h

pub right_found : (head : List Held) (a b : Option Abstract) (z : ℤ) → MaybeHolds head b z → MaybeHolds head (hull_found a b) z
right_found head None b z h = h
right_found head (Some a) None z h = absurd h
right_found head (Some a) (Some b) z h = right_number head a b z h

pub left_some : (a b : Option Abstract) → is_some a ≡ true → is_some (hull_found a b) ≡ true
left_some None b h = absurd cc
left_some (Some a) None h = refl
left_some (Some a) (Some b) h = refl

pub right_some : (a b : Option Abstract) → is_some b ≡ true → is_some (hull_found a b) ≡ true
right_some None b h = h
right_some (Some a) None h = absurd cc
right_some (Some a) (Some b) h = refl

-- ## Environments

hull_nothing : (a : Option Abstract) → None ≡ hull_entry a None
hull_nothing None = refl
hull_nothing (Some a) = refl

known_hull : (a b : Environment) (n : ℕ) → known (hull_environment a b) n ≡ hull_entry (known a n) (known b n)
known_hull [] b n = refl
known_hull (x ∷ a) [] n = hull_nothing (known (x ∷ a) n)
known_hull (x ∷ a) (y ∷ b) zero = refl
known_hull (x ∷ a) (y ∷ b) (suc n) = known_hull a b n

-- an entry of a hull
record IsHull (a b : Option Abstract) (x : Abstract) : Type 0 where
  left : Abstract
  right : Abstract
  left_is : a ≡ Some left
  right_is : b ≡ Some right
  is : hull_abstract left right ≡ x

hull_of_both : (a b : Option Abstract) (x : Abstract) → hull_entry a b ≡ Some x → IsHull a b x
hull_of_both None b x e = absurd (none-some _ e)
hull_of_both (Some a) None x e = absurd (none-some _ e)
hull_of_both (Some a) (Some b) x e = record { left = a; right = b; left_is = refl; right_is = refl; is = same_Some _ _ e }

pub hull_left : (variables : List PlainVariable) (a b : Environment) (head held : List Held) → Describes variables a head held → Describes variables (hull_environment a b) head held
hull_left variables a b head held d = record {
  each = λ n x e.
      let h : IsHull (known a n) (known b n) x = hull_of_both (known a n) (known b n) x (sym (known_hull a b n) ∙ e) in
      let v : DescribesVariable variables head held n h.left = d.each n h.left h.left_is in
      subst (λ y. DescribesVariable variables head held n y) h.is
      (record { variable = v.variable; there = v.there; frame = v.frame; no_object = v.no_object; describes = left_one head _ n h.left h.right (set_to held n) v.describes });
}

pub hull_right : (variables : List PlainVariable) (a b : Environment) (head held : List Held) → Describes variables b head held → Describes variables (hull_environment a b) head held
hull_right variables a b head held d = record {
  each = λ n x e.
      let h : IsHull (known a n) (known b n) x = hull_of_both (known a n) (known b n) x (sym (known_hull a b n) ∙ e) in
      let v : DescribesVariable variables head held n h.right = d.each n h.right h.right_is in
      subst (λ y. DescribesVariable variables head held n y) h.is
      (record { variable = v.variable; there = v.there; frame = v.frame; no_object = v.no_object; describes = right_one head _ n h.left h.right (set_to held n) v.describes });
}

pub reached_left : (variables : List PlainVariable) (a b : Option Environment) (head held : List Held) → MaybeDescribes variables a head held → MaybeDescribes variables (hull_reached a b) head held
reached_left variables None b head held d = absurd d
reached_left variables (Some a) None head held d = d
reached_left variables (Some a) (Some b) head held d = hull_left variables a b head held d

pub reached_right : (variables : List PlainVariable) (a b : Option Environment) (head held : List Held) → MaybeDescribes variables b head held → MaybeDescribes variables (hull_reached a b) head held
reached_right variables None b head held d = d
reached_right variables (Some a) None head held d = absurd d
reached_right variables (Some a) (Some b) head held d = hull_right variables a b head held d

-- What stands the same after parts of declarations in both programs, where no row is noted.
use Rattle.std.proofs.Common.{◌≡◌, refl, arith, ℕ, Bool, true, false, [], ◌∷◌, Ok, Err}
use Rattle.std.specs.Prelude.{if◌then◌else◌}
use Rattle.p10_base.specs.declared.at.At.{At}
use Rattle.p10_base.specs.declared.codes.SubsetCode.{SubsetCode}
use Rattle.p10_elabx.specs.First.{Keep, Found}
use Rattle.p10_elabd.specs.Standing.{PlainStanding, Passed, passed, nothing_made, refusing, noted}
use Rattle.p10_renaming.specs.Renaming.{Pairing}
use Rattle.p10_expression_renaming.specs.Knowing.{Together}
use Rattle.p10_declaration_renaming.specs.Standings.{Both, SameStanding, AreQuiet, Leads}
use Rattle.p10_declaration_renaming.proofs.Growing.{Grows, never_joined}

-- where nothing is noted something is known, and the same stands
abbrev pub Alike : Type 0 → Pairing → ℕ → PlainStanding → PlainStanding → Type 0
Alike B R last s t = AreQuiet last s t → B × SameStanding R last s t

-- where nothing is noted the same is made, and the same stands
abbrev pub Ends : {A : Type 0} → Pairing → ℕ → (A → A → Type 0) → Passed A → Passed A → Type 0
Ends R last P p q = AreQuiet last p.after q.after → Both P p.made q.made × SameStanding R last p.after q.after

pub quiet_before : (last : ℕ) (s t u v : PlainStanding) → Grows s u → Grows t v → AreQuiet last u v → AreQuiet last s t
quiet_before last s t u v g k q = record { left = g.quiet q.left; right = k.quiet q.right; few = omega (arith, g.count, q.few) }

-- ## Going on

-- something else is known
pub alike_map : {B C : Type 0} {R : Pairing} {last : ℕ} {s t : PlainStanding} → (B → C) → Alike B R last s t → Alike C R last s t
alike_map f a q = let x = a q in (f x.0, x.1)

-- what was known before the last two isn't needed any more
pub forget : {B C D : Type 0} {R : Pairing} {last : ℕ} {s t : PlainStanding} → Alike ((B × C) × D) R last s t → Alike (B × D) R last s t
forget a = alike_map (λ x. (x.0.0, x.1)) a

-- from what stands to what stands later
pub alike_on : {B : Type 0} (R : Pairing) (last : ℕ) (s t u v : PlainStanding) → Grows s u → Grows t v → (B → SameStanding R last s t → AreQuiet last u v → SameStanding R last u v) → Alike B R last s t → Alike B R last u v
alike_on R last s t u v g k go a q = let x = a (quiet_before last s t u v g k q) in (x.0, go x.0 x.1 q)

-- to what is made later
pub alike_ends : {A B : Type 0} (R : Pairing) (last : ℕ) (P : A → A → Type 0) (s t : PlainStanding) (p q : Passed A) → Grows s p.after → Grows t q.after → (B → SameStanding R last s t → Ends R last P p q)
    → Alike B R last s t → Alike (B × Both P p.made q.made) R last p.after q.after
alike_ends R last P s t p q g k go a quiet =
    let x = a (quiet_before last s t p.after q.after g k quiet) in
    let y = go x.0 x.1 quiet in
    ((x.0, y.0), y.1)

-- so it leads from the start
pub leads_by : {C : Type 0} (R : Pairing) (last : ℕ) (s t u v : PlainStanding) → (Alike (AreQuiet last s t) R last s t → Alike (AreQuiet last s t × C) R last u v) → Leads R last C s t u v
leads_by R last s t u v go start quiet = let x = go (λ q. (q, start q)) quiet in (x.0.0, (x.0.1, x.1))

-- ## Rows

-- a row that holds is noted
pub never_left : {C : Type 0} (last : ℕ) (h : Keep) (code : SubsetCode) (at : At) (s t : PlainStanding) → AreQuiet last (refusing h true code at s) t → C
never_left last h code at s t q = absurd (never_joined h s.problems (record { code = code; at = at }) [] q.left)

pub never_right : {C : Type 0} (last : ℕ) (h : Keep) (code : SubsetCode) (at : At) (s t : PlainStanding) → AreQuiet last s (refusing h true code at t) → C
never_right last h code at s t q = absurd (never_joined h t.problems (record { code = code; at = at }) [] q.right)

pub alike_refusing : {B : Type 0} (R : Pairing) (last : ℕ) (h : Keep) (b c : Bool) (code other : SubsetCode) (at to : At) (s t : PlainStanding) → Alike B R last s t → Alike B R last (refusing h b code at s) (refusing h c other to t)
alike_refusing R last h false false code other at to s t a = a
alike_refusing R last h false true code other at to s t a = λ q. never_right last h other to s t q
alike_refusing R last h true c code other at to s t a = λ q. never_left last h code at s (refusing h c other to t) q

-- ## What is made

pub ends_nothing : {A : Type 0} (R : Pairing) (last : ℕ) (P : A → A → Type 0) (s t : PlainStanding) → SameStanding R last s t → Ends R last P (nothing_made s) (nothing_made t)
ends_nothing R last P s t know q = (tt, know)

pub ends_passed : {A : Type 0} (R : Pairing) (last : ℕ) (P : A → A → Type 0) (a b : A) (s t : PlainStanding) → P a b → SameStanding R last s t → Ends R last P (passed a s) (passed b t)
ends_passed R last P a b s t h know q = (h, know)

pub ends_left : {A : Type 0} (R : Pairing) (last : ℕ) (P : A → A → Type 0) (h : Keep) (code : SubsetCode) (at : At) (s : PlainStanding) (q : Passed A) → Ends R last P (nothing_made (refusing h true code at s)) q
ends_left R last P h code at s q quiet = never_left last h code at s q.after quiet

pub ends_right : {A : Type 0} (R : Pairing) (last : ℕ) (P : A → A → Type 0) (h : Keep) (code : SubsetCode) (at : At) (p : Passed A) (t : PlainStanding) → Ends R last P p (nothing_made (refusing h true code at t))
ends_right R last P h code at p t quiet = never_right last h code at p.after t quiet

-- by tests that are one
pub ends_where : {A : Type 0} (R : Pairing) (last : ℕ) (P : A → A → Type 0) (b c : Bool) (p q x y : Passed A) → b ≡ c → (b ≡ true → c ≡ true → Ends R last P p x) → Ends R last P q y → Ends R last P (if b then p else q) (if c then x else y)
ends_where R last P true true p q x y e f g = f refl refl
ends_where R last P true false p q x y e f g = absurd cc
ends_where R last P false true p q x y e f g = absurd cc
ends_where R last P false false p q x y e f g = g

-- by tests, where a row is noted that holds
pub ends_unless : {A : Type 0} (R : Pairing) (last : ℕ) (P : A → A → Type 0) (h : Keep) (code other : SubsetCode) (at to : At) (b c : Bool) (p x : Passed A) (s t : PlainStanding) → (b ≡ true → c ≡ true → Ends R last P p x)
    → Ends R last P (if b then p else nothing_made (refusing h true code at s)) (if c then x else nothing_made (refusing h true other to t))
ends_unless R last P h code other at to true true p x s t f = f refl refl
ends_unless R last P h code other at to true false p x s t f = ends_right R last P h other to p t
ends_unless R last P h code other at to false true p x s t f = ends_left R last P h code at s x
ends_unless R last P h code other at to false false p x s t f = ends_left R last P h code at s (nothing_made (refusing h true other to t))

-- the same with the test that a row holds
pub ends_else : {A : Type 0} (R : Pairing) (last : ℕ) (P : A → A → Type 0) (h : Keep) (code other : SubsetCode) (at to : At) (b c : Bool) (p x : Passed A) (s t : PlainStanding) → Ends R last P p x
    → Ends R last P (if b then nothing_made (refusing h true code at s) else p) (if c then nothing_made (refusing h true other to t) else x)
ends_else R last P h code other at to false false p x s t f = f
ends_else R last P h code other at to false true p x s t f = ends_right R last P h other to p t
ends_else R last P h code other at to true true p x s t f = ends_left R last P h code at s (nothing_made (refusing h true other to t))
ends_else R last P h code other at to true false p x s t f = ends_left R last P h code at s x

-- by what is found
pub ends_noted : {A : Type 0} (R : Pairing) (last : ℕ) (P : A → A → Type 0) (h : Keep) (f g : Found A) (s t : PlainStanding) → Together P f g → SameStanding R last s t → Ends R last P (noted h f s) (noted h g t)
ends_noted R last P h (Ok a) (Ok b) s t k know q = (k, know)
ends_noted R last P h (Ok a) (Err []) s t k know q = absurd k
ends_noted R last P h (Ok a) (Err (r ∷ rs)) s t k know q = absurd (never_joined h t.problems r rs q.right)
ends_noted R last P h (Err []) (Ok b) s t k know q = absurd k
ends_noted R last P h (Err (r ∷ rs)) (Ok b) s t k know q = absurd (never_joined h s.problems r rs q.left)
ends_noted R last P h (Err rs) (Err qs) s t k know q = (tt, know)

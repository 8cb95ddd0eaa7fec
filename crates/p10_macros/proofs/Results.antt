-- What an answer that is or isn't a fault promises, from other promises.
use Rattle.std.proofs.Common.{Result, Ok, Err, IfOk, IfErr, OnOk, OnErr}

module _ {A E : Type 0} where
  pub if_err_so : {P Q : E → Type 0} (r : Result A E) → IfErr r P → ((e : E) → P e → Q e) → IfErr r Q
  if_err_so (Ok x) p so = tt
  if_err_so (Err e) p so = so e p

  pub if_ok_so : {P Q : A → Type 0} (r : Result A E) → IfOk r P → ((x : A) → P x → Q x) → IfOk r Q
  if_ok_so (Ok x) p so = so x p
  if_ok_so (Err e) p so = tt

  pub on_ok_so : {P Q : Type 0} (r : Result A E) → OnOk r P → (P → Q) → OnOk r Q
  on_ok_so (Ok x) p so = so p
  on_ok_so (Err e) p so = tt

  pub on_ok_both : {P Q R : Type 0} (r : Result A E) → OnOk r P → OnOk r Q → (P → Q → R) → OnOk r R
  on_ok_both (Ok x) p q both = both p q
  on_ok_both (Err e) p q both = tt

  pub on_err_always : {P : Type 0} (r : Result A E) → P → OnErr r P
  on_err_always (Ok x) p = tt
  on_err_always (Err e) p = p

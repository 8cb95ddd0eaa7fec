-- Frames in which what is set after statements is: what is set before the statements is set in them too, except for what these declare themselves.
use Rattle.std.proofs.Common.{ℕ, List, ◌∙◌, ap}
use Rattle.p10_core.specs.Typed.{PlainStatement, PlainStatements, PlainVariable}
use Rattle.p10_core.specs.WholePrograms.{declared_in, declared_of}
use Rattle.p10_meaning.specs.Values.{Held}
use Rattle.p10_clean.specs.Settings.{Settings, on_both, Ways, ways_of, ways_of_all}
use Rattle.p10_clean_soundness.specs.private.Setting.{SetUp, AreApart}
use Rattle.p10_clean_soundness.proofs.SettingsNowhere.{none_leaves, none_leaves_all}
use Rattle.p10_clean_soundness.proofs.SettingsKept.{statements_keep, head_keeps}
use Rattle.p10_clean_soundness.proofs.SettingUp.{carried}

module _ (variables : List PlainVariable) (scope : List ℕ) (held : List Held) where
  -- the head of a loop keeps what is set at its entry
  pub next_keeps : (body : PlainStatement) (entry : Settings) → AreApart scope (declared_in body) → SetUp variables scope (on_both (ways_of body entry).normal (ways_of body entry).continues) held → SetUp variables scope entry held
  next_keeps body entry apart u = carried variables scope entry (on_both (ways_of body entry).normal (ways_of body entry).continues) held
      (λ e. ap (λ a. on_both (ways_of body a).normal (ways_of body a).continues) e ∙ ap (λ (a : Ways). on_both a.normal a.continues) (none_leaves body)) (λ n there e. head_keeps body entry n (apart.each n there) e) u

  -- statements keep what is set before them
  pub all_keep : (xs : PlainStatements) (before : Settings) → AreApart scope (declared_of xs) → SetUp variables scope (ways_of_all xs before).normal held → SetUp variables scope before held
  all_keep xs before apart u = carried variables scope before (ways_of_all xs before).normal held (λ e. ap (λ a. (ways_of_all xs a).normal) e ∙ ap (λ (a : Ways). a.normal) (none_leaves_all xs))
      (λ n there e. (statements_keep xs before n (apart.each n there) e).normal) u

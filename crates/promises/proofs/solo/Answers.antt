-- The solo run's answer, with what the theorems say of it. Assumes nothing.
use mathlib.Core.Path.{◌≡◌, sym, ap, subst, ◌∙◌}
use Rattle.sound.specs.Sound.{sound_world}
use Prim.Native.Nat.{ℕ}
use Rattle.solo.specs.declared.Stop.TheVariants as S
use Rattle.solo.specs.declared.Ran.{Ran}
use Rattle.solo.specs.Solo.{answer_of}
use Rattle.keeps.proofs.Solo.{solo-is-acts}
use Rattle.exact.specs.Exact.{ExactlyUnsound}
use Rattle.exact.proofs.Proved.{solo-nineteen, solo-same}
use Rattle.promises.proofs.Laws.{solo-flag}
use Rattle.promises.proofs.solo.Goals as goal

pub returns : goal.returns
unfolding answer_of
returns c =
    let a = c.args in
    let shaped = c.shaped.ensures in
    let told = c.solo.ensures in
    record {
      answer = told;
      by_acts = told ∙ ap answer_of (solo-is-acts a.w a.t a.budget shaped);
      sound_stays = ap (λ (r : Ran). sound_world r.world) told ∙ solo-flag a.w a.t a.budget shaped;
      exactly_unsound = subst (λ (r : Ran). ExactlyUnsound a.w (r.stop ≡ S.Refused 19)) (sym told) (solo-nineteen a.w a.t a.budget shaped);
      refused_stays = subst (λ (r : Ran). (n : ℕ) → r.stop ≡ S.Refused n → r.world ≡ a.w) (sym told) (λ n h. solo-same a.w a.t a.budget n shaped h);
    }

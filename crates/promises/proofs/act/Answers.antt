-- The act's answer, with what the theorems say of it. Assumes nothing.
use mathlib.Core.Path.{◌≡◌, sym, ap, subst, ◌∙◌}
use Prim.Native.Nat.{ℕ}
use Rattle.calls.specs.declared.Event.TheVariants as E
use Rattle.step.specs.declared.Acted.{Acted}
use Rattle.sound.specs.Sound.{sound_world}
use Rattle.acts.proofs.Laws.{refused-same}
use Rattle.parts.proofs.Flags.{act-flag}
use Rattle.exact.specs.Exact.{ExactlyUnsound}
use Rattle.exact.proofs.Proved.{nineteen-exactly}
use Rattle.promises.proofs.act.Goals as goal

pub returns : goal.returns
returns c =
    let a = c.args in
    let shaped = c.shaped.ensures in
    let told = c.act.ensures in
    record {
      answer = told;
      sound_stays = ap (λ (r : Acted). sound_world r.world) told ∙ act-flag a.w a.a shaped c.narrow.ensures;
      exactly_unsound = subst (λ (r : Acted). ExactlyUnsound a.w (r.event ≡ E.Refused 19)) (sym told) (nineteen-exactly a.w a.a shaped);
      refused_stays = subst (λ (r : Acted). (n : ℕ) → r.event ≡ E.Refused n → r.world ≡ a.w) (sym told) (refused-same a.w a.a);
    }

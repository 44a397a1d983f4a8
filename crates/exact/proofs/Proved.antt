-- Each sentence of specs/Exact.antt holds. Assumes nothing.
use mathlib.Core.Path.{◌≡◌, refl, sym, ap, ◌∙◌}
use mathlib.Core.Logic.{◌≢◌}
use mathlib.Core.Bool.{Bool, true, false}
use Prim.Native.Nat.{ℕ, ◌<◌}
use native.Mathlib.Omega.{arith}
use lib.Dec.{eqb}
use borrow.Author.Tests.{eqb-true, eqb-false}
use Rattle.words.proofs.Cond.{either}
use Rattle.calls.specs.declared.Event.TheVariants as E
use Rattle.world.specs.declared.World.{World}
use Rattle.step.specs.declared.Acted.{Acted}
use Rattle.step.specs.Step.{refused}
use Rattle.sound.specs.Sound.{sound_world}
use Rattle.acts.specs.declared.Fields.{Fields}
use Rattle.acts.specs.Refusals.{fields_refusal, world_refusal}
use Rattle.acts.specs.Acts.{accepted_of, acted_of, act_of}
use Rattle.acts.proofs.Laws.{sound-acts, unsound-refused}
use Rattle.kept.specs.Shape.{Shaped}
use Rattle.kept.proofs.Tests.{no_way}
use Rattle.calls.specs.Events.{is_refusal}
use Rattle.exact.specs.Exact.{refusal_of, PassedIsDone, NeverListed, RefusedExactly, NineteenExactly, SoloNineteen, SoloSame}
use Rattle.exact.proofs.Passed.{accepted-told, fields-below, world-below}
use Rattle.exact.proofs.Solo as Sl

-- an act that passes both lists is the act accepted
passed : (w : World) (a : Fields) → sound_world w ≡ true → fields_refusal a ≡ 0 → world_refusal w a ≡ 0 → act_of w a ≡ accepted_of w a
unfolding acted_of
passed w a e f q = sound-acts w a e ∙ rw (f, q)

pub passed-is-done : PassedIsDone
passed-is-done w a s e f q = ap (λ (r : Acted). is_refusal r.event) (passed w a e f q) ∙ accepted-told w a e s f q

pub never-listed : NeverListed
never-listed w a = (λ e. omega (arith, e, fields-below a), λ e. omega (arith, e, world-below w a))

-- an act is done and has no refusal, or has one and is refused with it
data Judged (w : World) (a : Fields) : Type 0 where
  done : refusal_of w a ≡ 0 → is_refusal (act_of w a).event ≡ false → Judged w a
  stopped : refusal_of w a ≢ 0 → (act_of w a).event ≡ E.Refused (refusal_of w a) → Judged w a

judged : (w : World) (a : Fields) → Shaped w → Judged w a
unfolding refusal_of acted_of
judged w a s = by (sound_world w) (eqb (fields_refusal a) 0) (eqb (world_refusal w a) 0) refl refl refl
  where
    told : (r : Acted) (n : ℕ) → r ≡ refused n w → r.event ≡ E.Refused n
    told r n e = ap (λ (x : Acted). x.event) e

    is : (n : ℕ) → refusal_of w a ≡ n → n ≢ 0 → act_of w a ≡ refused n w → Judged w a
    is n z h e = stopped (λ q. h (sym z ∙ q)) (told (act_of w a) n e ∙ ap E.Refused (sym z))

    by : (b c d : Bool) → sound_world w ≡ b → eqb (fields_refusal a) 0 ≡ c → eqb (world_refusal w a) 0 ≡ d → Judged w a
    by false c d e f q = is 19 (rw e) (λ z. omega arith) (unsound-refused w a e)
    by true false d e f q =
        is (fields_refusal a) (rw (e, f)) (λ z. omega (arith, z, eqb-false (fields_refusal a) 0 f)) (sound-acts w a e ∙ rw f)
    by true true false e f q =
        is (world_refusal w a) (rw (e, f)) (λ z. omega (arith, z, eqb-false (world_refusal w a) 0 q)) (sound-acts w a e ∙ rw (f, q))
    by true true true e f q =
        let z : fields_refusal a ≡ 0 = eqb-true (fields_refusal a) 0 f in
        let y : world_refusal w a ≡ 0 = eqb-true (world_refusal w a) 0 q in
        done (rw (e, z) y) (passed-is-done w a s e z y)

pub refused-exactly : RefusedExactly
refused-exactly w a n s = by (judged w a s)
  where
    by :
        Judged w a →
        ((act_of w a).event ≡ E.Refused n → (refusal_of w a ≡ n) × (n ≢ 0)) × (refusal_of w a ≡ n → n ≢ 0 → (act_of w a).event ≡ E.Refused n)
    by (done z f) = (λ e. no_way (sym f ∙ ap is_refusal e), λ e h. absurd (h (sym e ∙ z)))
    by (stopped h f) = (
      λ e. let z : refusal_of w a ≡ n = cc in (z, λ q. h (z ∙ q)),
      λ e g. f ∙ ap E.Refused e,
    )

-- in a sound world no refusal is 19
sound-below : (w : World) (a : Fields) → sound_world w ≡ true → refusal_of w a < 19
unfolding refusal_of
sound-below w a e = rw e (either (λ (n : ℕ). n < 19) (eqb (fields_refusal a) 0) _ _ (world-below w a) (fields-below a))

pub nineteen-exactly : NineteenExactly
nineteen-exactly w a s = (
  λ h. by (sound_world w) refl ((refused-exactly w a 19 s).0 h).0,
  λ e. ap (λ (r : Acted). r.event) (unsound-refused w a e),
)
  where
    by : (c : Bool) → sound_world w ≡ c → refusal_of w a ≡ 19 → sound_world w ≡ false
    by true e z = absurd (omega (arith, z, sound-below w a e))
    by false e z = e

pub solo-nineteen : SoloNineteen
solo-nineteen = Sl.solo-nineteen

pub solo-same : SoloSame
solo-same = Sl.solo-same

-- A refusal's number says what it says and nothing else: which acts are refused, and 19 exactly where the world is not sound. The sentences
-- are types; that they hold is said in proofs/Proved.antt. A world has the code's sizes (`Shaped`), sound or not. Assumes nothing.
use Rattle.std.specs.Prelude.{◌≡◌, ◌≢◌, true, false, cond, ℕ, eqb}
use Rattle.calls.specs.declared.Event.TheVariants as E
use Rattle.calls.specs.Events.{is_refusal}
use Rattle.world.specs.declared.World.{World}
use Rattle.sound.specs.Sound.{sound_world}
use Rattle.acts.specs.declared.Fields.{Fields}
use Rattle.acts.specs.Refusals.{fields_refusal, world_refusal}
use Rattle.acts.specs.Acts.{act_of}
use Rattle.solo.specs.Run.{solo_of}
use Rattle.solo.specs.declared.Stop.TheVariants as S
use Rattle.solo.specs.Solo.{answer_of}
use Rattle.kept.specs.Shape.{Shaped}

-- a fact holds exactly where the world is not sound
abbrev pub ExactlyUnsound : World → Type 0 → Type 0
ExactlyUnsound w Fact = (Fact → sound_world w ≡ false) × (sound_world w ≡ false → Fact)

-- the number that an act is refused with, 0 being none: 19, then the refusals of the fields, then those of the world
unfoldable pub refusal_of : World → Fields → ℕ
refusal_of w a = cond (sound_world w) (cond (eqb (fields_refusal a) 0) (world_refusal w a) (fields_refusal a)) 19

-- an act of a sound world that passes both lists is not refused
abbrev pub PassedIsDone : Type 0
PassedIsDone =
    (w : World) (a : Fields) → Shaped w → sound_world w ≡ true → fields_refusal a ≡ 0 → world_refusal w a ≡ 0 → is_refusal (act_of w a).event ≡ false

-- neither list says 19
abbrev pub NeverListed : Type 0
NeverListed = (w : World) (a : Fields) → (fields_refusal a ≢ 19) × (world_refusal w a ≢ 19)

-- an act is refused with number n exactly where n is its refusal's; never with 0
abbrev pub RefusedExactly : Type 0
RefusedExactly =
    (w : World) (a : Fields) (n : ℕ) → Shaped w →
    ((act_of w a).event ≡ E.Refused n → (refusal_of w a ≡ n) × (n ≢ 0)) × (refusal_of w a ≡ n → n ≢ 0 → (act_of w a).event ≡ E.Refused n)

-- an act is refused with 19 exactly where the world is not sound
abbrev pub NineteenExactly : Type 0
NineteenExactly = (w : World) (a : Fields) → Shaped w → ExactlyUnsound w ((act_of w a).event ≡ E.Refused 19)

-- and so is a solo run
abbrev pub SoloNineteen : Type 0
SoloNineteen = (w : World) (t budget : ℕ) → Shaped w → ExactlyUnsound w ((answer_of (solo_of w t budget)).stop ≡ S.Refused 19)

-- a solo run that is refused leaves the world as it was
abbrev pub SoloSame : Type 0
SoloSame =
    (w : World) (t budget n : ℕ) → Shaped w → (answer_of (solo_of w t budget)).stop ≡ S.Refused n → (answer_of (solo_of w t budget)).world ≡ w

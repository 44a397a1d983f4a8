-- A solo run of a sound world does not stop with 19: what it ran are steps, and its refusals are others; a refused one leaves the world.
-- Assumes nothing.
use mathlib.Core.Path.{◌≡◌, refl, ap}
use mathlib.Core.Logic.{◌≢◌}
use mathlib.Core.Bool.{Bool, true, false}
use Prim.Native.Nat.{ℕ, ◌<◌}
use native.Mathlib.Omega.{arith}
use lib.Dec.{eqb, ltb}
use borrow.Author.Tests.{eqb-true, ltb-true}
use Rattle.words.proofs.Cond.{either}
use Rattle.queue.specs.Row.{THREADS}
use Rattle.calls.specs.declared.Event.{Event}
use Rattle.calls.specs.declared.Event.TheVariants as E
use Rattle.calls.specs.declared.Thread.{Thread}
use Rattle.calls.specs.Positions.{in_closure}
use Rattle.world.specs.declared.World.{World}
use Rattle.world.specs.World.{thread_at}
use Rattle.sound.specs.Sound.{sound_world}
use Rattle.calls.specs.Positions.{is_idle}
use Rattle.acts.specs.Refusals.{step_refusal}
use Rattle.solo.specs.Run.{Ran, refused_run, solo_of}
use Rattle.solo.specs.declared.Stop.TheVariants as S
use Rattle.solo.specs.Solo.{stop_of, answer_of}
use Rattle.kept.specs.Shape.{Shaped}
use Rattle.kept.proofs.Tests.{no_way}
use Rattle.calls.specs.Events.{is_step}
use Rattle.keeps.specs.Solo.{Ended, by-budget, by-stop}
use Rattle.keeps.proofs.Solo.{solo-row}

Below : ℕ → Type 0
Below n = n < 19

step-below : (th : Thread) → step_refusal th 0 < 19
unfolding step_refusal Below
step-below th =
    either Below (is_idle th.at) _ _ (omega arith)
    (either Below th.asleep _ _ (omega arith)
    (either Below (in_closure th.at) _ _ (omega arith) (omega arith)))

-- the event of a run that was let go is a step's, and so its stop no refusal
ended-step : (w : World) (t n k : ℕ) (event : Event) → Ended w t n k event → is_step event ≡ true
ended-step w t n k event (by-budget e h v) = ap is_step v
ended-step w t n k event (by-stop j e h v told g) = told

not-refused : (e : Event) (n : ℕ) → is_step e ≡ true → stop_of e ≢ S.Refused n
unfolding stop_of
not-refused E.Set n s h = no_way s
not-refused E.Begun n s h = no_way s
not-refused (E.Moved woken) n s h = let z : ◌≡◌ {A = ℕ} 0 1 = cc in omega arith
not-refused (E.Done value woken) n s h = let z : ◌≡◌ {A = ℕ} 0 1 = cc in omega arith
not-refused E.Slept n s h = let z : ◌≡◌ {A = ℕ} 0 1 = cc in omega arith
not-refused (E.Panic number woken) n s h = let z : ◌≡◌ {A = ℕ} 0 1 = cc in omega arith
not-refused E.Closure n s h = let z : ◌≡◌ {A = ℕ} 0 1 = cc in omega arith
not-refused E.Woken n s h = no_way s
not-refused E.Closed n s h = no_way s
not-refused (E.Refused number) n s h = no_way s

refused-run : (r : Ran) (w : World) (n : ℕ) → r ≡ refused_run n w → n < 19 → stop_of r.event ≢ S.Refused 19
unfolding stop_of
refused-run r w n e h q =
    let f : stop_of r.event ≡ S.Refused n = ap (λ (x : Ran). stop_of x.event) e in let z : n ≡ 19 = cc in omega arith

-- a run of a thread that may be stepped tells a step's event
let_go :
    (w : World) (t budget : ℕ) → Shaped w → sound_world w ≡ true → ltb t THREADS ≡ true → eqb (step_refusal (thread_at w t) 0) 0 ≡ true →
    is_step (solo_of w t budget).event ≡ true
let_go w t budget s e p q =
    ended-step w t budget (solo_of w t budget).count (solo_of w t budget).event
    (solo-row w t budget
    (record { sound = e; shaped = s; there = ltb-true t THREADS p; allowed = eqb-true (step_refusal (thread_at w t) 0) 0 q })).ended

solo-told : (w : World) (t budget : ℕ) → Shaped w → sound_world w ≡ true → stop_of (solo_of w t budget).event ≢ S.Refused 19
unfolding solo_of
solo-told w t budget s e = by (ltb t THREADS) (eqb (step_refusal (thread_at w t) 0) 0) refl refl
  where
    by :
        (b d : Bool) → ltb t THREADS ≡ b → eqb (step_refusal (thread_at w t) 0) 0 ≡ d →
        stop_of (solo_of w t budget).event ≢ S.Refused 19
    by true true p q = not-refused (solo_of w t budget).event 19 (let_go w t budget s e p q)
    by true false p q =
        refused-run (solo_of w t budget) w (step_refusal (thread_at w t) 0) (rw (e, p, q)) (step-below (thread_at w t))
    by false d p q = refused-run (solo_of w t budget) w 2 (rw (e, p)) (omega arith)

-- the run of a world that is not sound
pub unsound-solo : (w : World) (t budget : ℕ) → sound_world w ≡ false → solo_of w t budget ≡ refused_run 19 w
unfolding solo_of
unsound-solo w t budget e = rw e

pub solo-nineteen :
    (w : World) (t budget : ℕ) → Shaped w →
    ((answer_of (solo_of w t budget)).stop ≡ S.Refused 19 → sound_world w ≡ false)
    × (sound_world w ≡ false → (answer_of (solo_of w t budget)).stop ≡ S.Refused 19)
unfolding answer_of stop_of
solo-nineteen w t budget s = (
  λ h. by (sound_world w) refl h,
  λ e. ap (λ (r : Ran). stop_of r.event) (unsound-solo w t budget e),
)
  where
    by : (c : Bool) → sound_world w ≡ c → stop_of (solo_of w t budget).event ≡ S.Refused 19 → sound_world w ≡ false
    by true e q = absurd (solo-told w t budget s e q)
    by false e q = e

-- a refused run leaves the world as it was
pub solo-same :
    (w : World) (t budget n : ℕ) → Shaped w → (answer_of (solo_of w t budget)).stop ≡ S.Refused n → (answer_of (solo_of w t budget)).world ≡ w
unfolding answer_of solo_of
solo-same w t budget n s h = by (sound_world w) (ltb t THREADS) (eqb (step_refusal (thread_at w t) 0) 0) refl refl refl
  where
    of : (number : ℕ) → solo_of w t budget ≡ refused_run number w → (solo_of w t budget).world ≡ w
    of number e = ap (λ (r : Ran). r.world) e

    by :
        (a b d : Bool) → sound_world w ≡ a → ltb t THREADS ≡ b → eqb (step_refusal (thread_at w t) 0) 0 ≡ d → (solo_of w t budget).world ≡ w
    by false b d e p q = of 19 (unsound-solo w t budget e)
    by true false d e p q = of 2 (rw (e, p))
    by true true false e p q = of (step_refusal (thread_at w t) 0) (rw (e, p, q))
    by true true true e p q = absurd (not-refused (solo_of w t budget).event n (let_go w t budget s e p q) h)

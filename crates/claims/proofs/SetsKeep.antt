-- What an act that answers `set` leaves as it was: the world has not started by it. So a world that set acts alone made is sound, has the
-- code's sizes and has not started. Assumes nothing.
use mathlib.Core.Path.{◌≡◌, refl, sym, ap, ◌∙◌, subst}
use mathlib.Core.Bool.{Bool, true, false}
use mathlib.Core.List.{List, [], ◌∷◌}
use Prim.Native.Nat.{ℕ}
use lib.Dec.{eqb, ltb}
use lib.ListN.{length}
use Rattle.calls.specs.declared.At.{At}
use Rattle.calls.specs.declared.At.TheVariants as A
use Rattle.calls.specs.declared.Event.{Event}
use Rattle.calls.specs.declared.Event.TheVariants as E
use Rattle.calls.specs.Events.{tell_of, is_set, is_step}
use Rattle.calls.specs.Plans.{moved, decide_of}
use Rattle.calls.specs.Positions.{is_idle}
use Rattle.world.specs.declared.World.{World}
use Rattle.world.specs.World.{fresh_world, thread_at, word_at}
use Rattle.step.specs.declared.Acted.{Acted}
use Rattle.step.specs.Acts.{recorded, begin_of, wake_of, close_of}
use Rattle.sound.specs.Sound.{sound_world}
use Rattle.sound.proofs.Examples.{fresh-sound}
use Rattle.acts.specs.declared.Fields.{Fields}
use Rattle.acts.specs.Acts.{set_of, act_of, acts_of, Sized, no-act, one-act}
use Rattle.kept.specs.Shape.{Shaped}
use Rattle.kept.proofs.Shape.{fresh-shaped}
use Rattle.kept.proofs.Tests.{no_way}
use Rattle.keeps.proofs.Moves.{leads}
use Rattle.keeps.proofs.Keeps.{act-sound, act-shaped, acts-sound}
use Rattle.local.specs.Part.{word_next, queue_at, plan_at}
use Rattle.local.proofs.Happened.{Happened, was-refused, has-set, has-begun, has-stepped, has-woken, has-closed, happened, set-started}
use Rattle.claims.specs.Claims.{SetsOnly, no-set, one_set, MadeBySets}

-- a step's event is no set's
tell-not-set : (e : Event) (n : ℕ) → is_step e ≡ true → is_set (tell_of e n) ≡ false
unfolding tell_of
tell-not-set E.Set n h = no_way h
tell-not-set E.Begun n h = no_way h
tell-not-set (E.Moved woken) n h = refl
tell-not-set (E.Done value woken) n h = refl
tell-not-set E.Slept n h = refl
tell-not-set (E.Panic number woken) n h = refl
tell-not-set E.Closure n h = refl
tell-not-set E.Woken n h = no_way h
tell-not-set E.Closed n h = no_way h
tell-not-set (E.Refused number) n h = no_way h

-- a plan tells a step's event, of an idle thread too
plan-told : (at : At) (f : Bool) (word : ℕ) (a : Bool) → is_step (decide_of at f word a).event ≡ true
unfolding is_idle decide_of moved
plan-told A.Idle f word a = refl
plan-told (A.Mutex mutex p) f word a = (leads (A.Mutex mutex p) f word a refl).told
plan-told (A.RwLock lock p) f word a = (leads (A.RwLock lock p) f word a refl).told
plan-told (A.Condvar condvar p) f word a = (leads (A.Condvar condvar p) f word a refl).told
plan-told (A.Once once p) f word a = (leads (A.Once once p) f word a refl).told
plan-told (A.Parker p) f word a = (leads (A.Parker p) f word a refl).told

-- an act that answers as a set starts no world
set_keeps : (w : World) (a : Fields) (r : Acted) → Happened w a r → is_set r.event ≡ true → r.world.started ≡ w.started
unfolding set_of begin_of wake_of close_of recorded plan_at
set_keeps w a r (was-refused number) e = no_way e
set_keeps w a r (has-set n c) e = set-started w a.choice a.object a.value
set_keeps w a r (has-begun i q) e = no_way e
set_keeps w a r (has-stepped i awake within S) e =
    no_way (sym (tell-not-set (plan_at w a.thread (eqb a.choice 1)).event _
    (plan-told (thread_at w a.thread).at (eqb a.choice 1) (word_at w (word_next w a.thread)) (ltb 0 (length (queue_at w (word_next w a.thread))))))
    ∙ (ap is_set (sym S.event) ∙ e))
set_keeps w a r (has-woken i asleep) e = no_way e
set_keeps w a r (has-closed i awake inside) e = no_way e

sets-started :
    (w : World) (acts : List Fields) → sound_world w ≡ true → Shaped w → Sized acts → SetsOnly w acts → (acts_of w acts).started ≡ w.started
unfolding acts_of
sets-started w [] e s no-act no-set = refl
sets-started w (a ∷ acts) e s (one-act l r) (one_set q rest) =
    sets-started (act_of w a).world acts (act-sound w a e s l) (act-shaped w a s l) r rest ∙ set_keeps w a (act_of w a) (happened w a e s) (ap is_set q)

-- a world that set acts alone made
pub made_so : (w : World) → MadeBySets w → Shaped w × ((sound_world w ≡ true) × (w.started ≡ false))
unfolding fresh_world
made_so w m =
    let kept = acts-sound m.acts m.sized in
    subst (λ (v : World). Shaped v × ((sound_world v ≡ true) × (v.started ≡ false))) m.makes (kept.1, (kept.0, sets-started fresh_world m.acts fresh-sound fresh-shaped m.sized m.sets))

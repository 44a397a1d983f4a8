-- A plan tells one of the events of a step; one that moved leaves its thread where it may be stepped again: in its call, awake, outside a
-- closure. Assumes nothing.
use mathlib.Core.Path.{◌≡◌, refl, sym}
use mathlib.Core.Bool.{Bool, true, false, cond, not, ◌&&◌, ◌||◌}
use Prim.Native.Nat.{ℕ}
use lib.Dec.{eqb}
use Rattle.words.proofs.Cond.{either}
use Rattle.words.specs.Atomic.{exchanges}
use Rattle.words.specs.Once.{INCOMPLETE, POISONED, COMPLETE, state_of, is_queued}
use Rattle.words.specs.Parker.{PARKED}
use Rattle.words.specs.declared.Wake.{Wake}
use Rattle.words.specs.declared.Next.{Next}
use Rattle.words.specs.declared.Next.TheVariants as Nx
use Rattle.words.specs.declared.Step.{Step}
use Rattle.words.specs.Steps.{map_next, map_step}
use Rattle.mutex.specs.declared.MutexAt.{MutexAt}
use Rattle.mutex.specs.Mutex as Mx
use Rattle.rwlock.specs.declared.RwLockAt.{RwLockAt}
use Rattle.rwlock.specs.RwLock as Rw
use Rattle.condvar.specs.declared.CondvarAt.{CondvarAt}
use Rattle.condvar.specs.Condvar as Cv
use Rattle.once.specs.declared.CallAt.{CallAt}
use Rattle.once.specs.declared.CallAt.TheVariants as C
use Rattle.once.specs.declared.WaitAt.{WaitAt}
use Rattle.once.specs.declared.WaitAt.TheVariants as Wt
use Rattle.once.specs.declared.OnceAt.{OnceAt}
use Rattle.once.specs.declared.OnceAt.TheVariants as O
use Rattle.once.specs.Once as On
use Rattle.thread_parking.specs.declared.ParkerAt.{ParkerAt}
use Rattle.thread_parking.specs.ThreadParking as Pk
use Rattle.calls.specs.declared.At.{At}
use Rattle.calls.specs.declared.At.TheVariants as A
use Rattle.calls.specs.declared.Plan.{Plan}
use Rattle.calls.specs.Plans.{awake, moved, slept, done, panicked, entered, mutex_plan, rwlock_plan, condvar_plan, once_plan, parker_plan, decide_of, plan_next, plan_of}
use Rattle.calls.specs.Positions.{in_closure, is_idle}
use Rattle.acts.specs.Refusals.{step_refusal}
use Rattle.calls.specs.Events.{goes_on, is_step}
use Rattle.kept.proofs.Tests.{no_way}

-- what a plan tells, and where it leads
pub record Leads (p : Plan) : Type 0 where
  pub told : is_step p.event ≡ true
  pub on : goes_on p.event ≡ true → step_refusal p.next 0 ≡ 0

-- why the thread that a step leads on may not be stepped then; 0 where it may
refusal_next : Next At → ℕ
refusal_next (Nx.Moved q) = step_refusal (awake q) 0
refusal_next Nx.Asleep = 0
refusal_next (Nx.Ended v) = 0
refusal_next (Nx.Panics k) = 0
refusal_next (Nx.Closure q) = 0

plan-leads : (at : At) (object : ℕ) (s : Step At) → refusal_next s.next ≡ 0 → Leads (plan_of at object s)
unfolding refusal_next plan_of moved slept done panicked entered
plan-leads at object s h = by s.next h
  where
    by : (n : Next At) → refusal_next n ≡ 0 → Leads (plan_next at object s.word s.hold s.wake n)
    by (Nx.Moved q) h = record { told = refl; on = λ e. h }
    by Nx.Asleep h = record { told = refl; on = λ e. no_way e }
    by (Nx.Ended v) h = record { told = refl; on = λ e. no_way e }
    by (Nx.Panics k) h = record { told = refl; on = λ e. no_way e }
    by (Nx.Closure q) h = record { told = refl; on = λ e. no_way e }

-- .. of a module all of whose positions have an operation
ready : {X : Type 0} (f : X → At) → ((x : X) → step_refusal (awake (f x)) 0 ≡ 0) → (n : Next X) → refusal_next (map_next f n) ≡ 0
unfolding refusal_next
ready f h (Nx.Moved q) = h q
ready f h Nx.Asleep = refl
ready f h (Nx.Ended v) = refl
ready f h (Nx.Panics k) = refl
ready f h (Nx.Closure q) = refl

-- .. of every step, at each of these four modules
pub mutex-leads : (m : ℕ) (p : MutexAt) (s : Step MutexAt) → Leads (mutex_plan m p s)
unfolding step_refusal is_idle in_closure
mutex-leads m p s = plan-leads (A.Mutex m p) m (map_step (A.Mutex m) s) (ready (A.Mutex m) (λ q. refl) s.next)

pub rwlock-leads : (l : ℕ) (p : RwLockAt) (s : Step RwLockAt) → Leads (rwlock_plan l p s)
unfolding step_refusal is_idle in_closure
rwlock-leads l p s = plan-leads (A.RwLock l p) l (map_step (A.RwLock l) s) (ready (A.RwLock l) (λ q. refl) s.next)

pub condvar-leads : (c : ℕ) (p : CondvarAt) (o : ℕ) (s : Step CondvarAt) → Leads (condvar_plan c p o s)
unfolding step_refusal is_idle in_closure
condvar-leads c p o s = plan-leads (A.Condvar c p) o (map_step (A.Condvar c) s) (ready (A.Condvar c) (λ q. refl) s.next)

pub parker-leads : (p : ParkerAt) (s : Step ParkerAt) → Leads (parker_plan p s)
unfolding step_refusal is_idle in_closure
parker-leads p s = plan-leads (A.Parker p) 0 (map_step A.Parker s) (ready A.Parker (λ q. refl) s.next)

-- a Once's step enters a closure by the event of that name alone
unfoldable pub outside : Next OnceAt → Bool
outside (Nx.Moved q) = not (On.in_closure q)
outside Nx.Asleep = true
outside (Nx.Ended v) = true
outside (Nx.Panics k) = true
outside (Nx.Closure q) = true

unfoldable pub Outside : Step OnceAt → Type 0
Outside s = outside s.next ≡ true

module _ (i : Bool) (word : ℕ) where
  call-top-outside : Outside (On.call_top i word)
  unfolding Outside outside On.call_top On.queues On.in_closure On.call_in_closure
  call-top-outside =
      either Outside (eqb (state_of word) COMPLETE) _ _ refl
      (either Outside (eqb (state_of word) POISONED && not i) _ _ refl
      (either Outside (eqb (state_of word) POISONED || eqb (state_of word) INCOMPLETE) _ _ refl
      (either Outside (is_queued word) _ _ refl refl)))

  wait-top-outside : Outside (On.wait_top i word)
  unfolding Outside outside On.wait_top On.queues On.in_closure
  wait-top-outside =
      either Outside (eqb (state_of word) COMPLETE) _ _ refl
      (either Outside (eqb (state_of word) POISONED && not i) _ _ refl (either Outside (is_queued word) _ _ refl refl))

  finishes-outside : (panicking : Bool) (new : ℕ) (wake : Wake) → Outside (On.finishes panicking new wake)
  unfolding Outside outside On.finishes
  finishes-outside panicking new wake = either Outside panicking _ _ refl refl

  call-outside : (p : CallAt) (f : Bool) → Outside (On.call_of i p f word)
  unfolding Outside outside On.call_of On.call_after_wait On.in_closure On.call_in_closure
  call-outside C.Load f = call-top-outside
  call-outside (C.ExchangeRunning seen) f = either Outside (exchanges word seen f) _ _ refl call-top-outside
  call-outside C.Closure f = refl
  call-outside (C.Swap ending) f =
      either Outside (is_queued word) _ _ refl (finishes-outside (On.is_panicked ending) (On.drops_to ending) _)
  call-outside (C.WakeAll panicking) f = finishes-outside panicking word _
  call-outside (C.ExchangeQueued seen) f = either Outside (exchanges word (state_of seen) f) _ _ refl call-top-outside
  call-outside (C.Wait seen) f = either Outside (eqb word seen) _ _ refl refl

  wait-outside : (p : WaitAt) (f : Bool) → Outside (On.wait_of i p f word)
  unfolding Outside outside On.wait_of On.wait_after_wait On.in_closure
  wait-outside Wt.Load f = wait-top-outside
  wait-outside (Wt.ExchangeQueued seen) f = either Outside (exchanges word (state_of seen) f) _ _ refl wait-top-outside
  wait-outside (Wt.Wait seen) f = either Outside (eqb word seen) _ _ refl refl

once-outside : (p : OnceAt) (f : Bool) (word : ℕ) (a : Bool) → Outside (On.decide_of p f word a)
unfolding Outside outside On.decide_of On.is_completed_of
once-outside (O.Call i p) f word a = call-outside i word p f
once-outside (O.Wait i p) f word a = wait-outside i word p f
once-outside O.IsCompleted f word a = refl

once-ready : (o : ℕ) (n : Next OnceAt) → outside n ≡ true → refusal_next (map_next (A.Once o) n) ≡ 0
unfolding outside refusal_next step_refusal is_idle in_closure
once-ready o (Nx.Moved q) h = clear (On.in_closure q) h
  where
    clear : (c : Bool) → not c ≡ true → ◌≡◌ {A = ℕ} (cond c 10 0) 0
    clear true z = no_way z
    clear false z = refl
once-ready o Nx.Asleep h = refl
once-ready o (Nx.Ended v) h = refl
once-ready o (Nx.Panics k) h = refl
once-ready o (Nx.Closure q) h = refl

pub once-leads : (o : ℕ) (p : OnceAt) (s : Step OnceAt) → Outside s → Leads (once_plan o p s)
unfolding Outside
once-leads o p s h = plan-leads (A.Once o p) 0 (map_step (A.Once o) s) (once-ready o s.next h)

-- of every thread that is in a call
pub leads : (at : At) (f : Bool) (word : ℕ) (a : Bool) → is_idle at ≡ false → Leads (decide_of at f word a)
unfolding decide_of is_idle
leads A.Idle f word a n = no_way (sym n)
leads (A.Mutex m p) f word a n = mutex-leads m p (Mx.decide_of p f word a)
leads (A.RwLock l p) f word a n = rwlock-leads l p (Rw.decide_of p f word a)
leads (A.Condvar c p) f word a n = condvar-leads c p (Cv.object_of c p) (Cv.decide_of p f word a)
leads (A.Once o p) f word a n = once-leads o p (On.decide_of p f word a) (once-outside p f word a)
leads (A.Parker p) f word a n = parker-leads p (Pk.decide_of PARKED p f word a)

-- A step's event tells how many sleepers it wakes: a thread that falls asleep or enters a closure wakes nobody. Assumes nothing.
use mathlib.Core.Path.{◌≡◌, refl, sym}
use mathlib.Core.Bool.{Bool, true, false, not, ◌&&◌}
use Prim.Native.Nat.{ℕ}
use Rattle.words.proofs.Cond.{either}
use Rattle.words.specs.Parker.{PARKED}
use Rattle.words.specs.declared.Hold.TheVariants as H
use Rattle.words.specs.declared.Wake.{Wake}
use Rattle.words.specs.declared.Wake.TheVariants as W
use Rattle.words.specs.declared.Next.{Next}
use Rattle.words.specs.declared.Next.TheVariants as Nx
use Rattle.words.specs.declared.Step.{Step}
use Rattle.words.specs.Steps.{map_next, map_step}
use Rattle.mutex.specs.declared.MutexAt.{MutexAt}
use Rattle.mutex.specs.declared.MutexAt.TheVariants as M
use Rattle.mutex.specs.declared.UnlockAt.TheVariants as U
use Rattle.rwlock.specs.declared.RwLockAt.{RwLockAt}
use Rattle.rwlock.specs.declared.RwLockAt.TheVariants as X
use Rattle.rwlock.specs.declared.WakeAt.TheVariants as Wk
use Rattle.rwlock.specs.declared.DowngradeAt.TheVariants as D
use Rattle.condvar.specs.declared.CondvarAt.{CondvarAt}
use Rattle.condvar.specs.declared.CondvarAt.TheVariants as Cd
use Rattle.condvar.specs.declared.WaitAt.TheVariants as Wt
use Rattle.condvar.specs.declared.NotifyAt.TheVariants as Nf
use Rattle.once.specs.declared.CallAt.TheVariants as C
use Rattle.once.specs.declared.OnceAt.{OnceAt}
use Rattle.once.specs.declared.OnceAt.TheVariants as O
use Rattle.thread_parking.specs.declared.ParkerAt.{ParkerAt}
use Rattle.thread_parking.specs.declared.ParkerAt.TheVariants as P
use Rattle.thread_parking.specs.declared.UnparkAt.TheVariants as V
use Rattle.mutex.specs.Mutex as Mx
use Rattle.rwlock.specs.RwLock as Rw
use Rattle.rwlock.specs.Positions as RwP
use Rattle.condvar.specs.Condvar as Cv
use Rattle.once.specs.Once as On
use Rattle.thread_parking.specs.ThreadParking as Pk
use Rattle.calls.specs.declared.At.{At}
use Rattle.calls.specs.declared.At.TheVariants as A
use Rattle.calls.specs.declared.Plan.{Plan}
use Rattle.calls.specs.Events.{woken_of, tell_of}
use Rattle.calls.specs.Plans.{moved, slept, done, panicked, entered, mutex_plan, rwlock_plan, condvar_plan, once_plan, parker_plan, decide_of, plan_next, plan_of}
use Rattle.calls.specs.Positions.{may_wake}
use Rattle.calls.proofs.Laws.{calm}
use Rattle.kept.proofs.Tests.{no_way}

-- the event of a plan tells any number of woken that its wake may reach
unfoldable pub Tells : Plan → Type 0
Tells p = (n : ℕ) → (p.wake ≡ W.None → n ≡ 0) → woken_of (tell_of p.event n) ≡ n

-- whoever falls asleep wakes nobody
abbrev pub Calm : Plan → Type 0
Calm p = p.next.asleep ≡ true → p.wake ≡ W.None

-- a step that enters no closure: a closure's event tells nothing of the woken
abbrev pub enters_none : {X : Type 0} → Next X → Bool
enters_none (Nx.Moved q) = true
enters_none Nx.Asleep = true
enters_none (Nx.Ended value) = true
enters_none (Nx.Panics panic) = true
enters_none (Nx.Closure q) = false

abbrev pub NoClosure : {X : Type 0} → Step X → Type 0
NoClosure s = enters_none s.next ≡ true

-- such a step of any position of a module
plan-tells :
    {X : Type 0} (f : X → At) (at : At) (object : ℕ) (s : Step X) → NoClosure s → Calm (plan_of at object (map_step f s)) →
    Tells (plan_of at object (map_step f s))
unfolding Tells plan_of moved slept done panicked entered woken_of tell_of
plan-tells {X} f at object s = by s.next
  where
    by :
        (n : Next X) → enters_none n ≡ true → Calm (plan_next at object s.word s.hold s.wake (map_next f n)) →
        Tells (plan_next at object s.word s.hold s.wake (map_next f n))
    by (Nx.Moved q) e c n h = refl
    by Nx.Asleep e c n h = sym (h (c refl))
    by (Nx.Ended value) e c n h = refl
    by (Nx.Panics panic) e c n h = refl
    by (Nx.Closure q) e c n h = no_way e

pub mutex-tells : (m : ℕ) (p : MutexAt) (s : Step MutexAt) → NoClosure s → Calm (mutex_plan m p s) → Tells (mutex_plan m p s)
mutex-tells m p s = plan-tells (A.Mutex m) (A.Mutex m p) m s

pub rwlock-tells : (l : ℕ) (p : RwLockAt) (s : Step RwLockAt) → NoClosure s → Calm (rwlock_plan l p s) → Tells (rwlock_plan l p s)
rwlock-tells l p s = plan-tells (A.RwLock l) (A.RwLock l p) l s

pub condvar-tells :
    (c : ℕ) (p : CondvarAt) (o : ℕ) (s : Step CondvarAt) → NoClosure s → Calm (condvar_plan c p o s) → Tells (condvar_plan c p o s)
condvar-tells c p o s = plan-tells (A.Condvar c) (A.Condvar c p) o s

pub parker-tells : (p : ParkerAt) (s : Step ParkerAt) → NoClosure s → Calm (parker_plan p s) → Tells (parker_plan p s)
parker-tells p s = plan-tells A.Parker (A.Parker p) 0 s

-- a step that wakes nobody
plan-calm : (at : At) (object : ℕ) (s : Step At) → (plan_of at object s).wake ≡ W.None → Tells (plan_of at object s)
unfolding Tells plan_of moved slept done panicked entered woken_of tell_of
plan-calm at object s = by s.next
  where
    by : (n : Next At) → (plan_next at object s.word s.hold s.wake n).wake ≡ W.None → Tells (plan_next at object s.word s.hold s.wake n)
    by (Nx.Moved q) e n h = refl
    by Nx.Asleep e n h = sym (h e)
    by (Nx.Ended value) e n h = refl
    by (Nx.Panics panic) e n h = refl
    by (Nx.Closure q) e n h = sym (h e)

-- .. of a Once; the one that wakes ends the call
pub once-calm : (o : ℕ) (p : OnceAt) (s : Step OnceAt) → (once_plan o p s).wake ≡ W.None → Tells (once_plan o p s)
once-calm o p s = plan-calm (A.Once o p) 0 (map_step (A.Once o) s)

finish-tells : (o : ℕ) (p : OnceAt) (panicking : Bool) (word : ℕ) (wake : Wake) → Tells (once_plan o p (On.finishes panicking word wake))
unfolding Tells plan_of On.finishes done panicked woken_of tell_of
finish-tells o p true word wake n h = refl
finish-tells o p false word wake n h = refl

idle-tells : (word : ℕ) → Tells (moved word A.Idle H.Same 0 W.None)
unfolding Tells moved woken_of tell_of
idle-tells word n h = refl

-- at a position whose operation wakes nobody
still : (at : At) (f : Bool) (word : ℕ) (a : Bool) → may_wake at ≡ false → Tells (decide_of at f word a)
unfolding decide_of
still A.Idle f word a e = idle-tells word
still (A.Mutex m p) f word a e = plan-calm (A.Mutex m p) m (map_step (A.Mutex m) (Mx.decide_of p f word a)) (calm (A.Mutex m p) f word a e)
still (A.RwLock l p) f word a e = plan-calm (A.RwLock l p) l (map_step (A.RwLock l) (Rw.decide_of p f word a)) (calm (A.RwLock l p) f word a e)
still (A.Condvar c p) f word a e =
    plan-calm (A.Condvar c p) (Cv.object_of c p) (map_step (A.Condvar c) (Cv.decide_of p f word a)) (calm (A.Condvar c p) f word a e)
still (A.Once o p) f word a e = plan-calm (A.Once o p) 0 (map_step (A.Once o) (On.decide_of p f word a)) (calm (A.Once o p) f word a e)
still (A.Parker p) f word a e = plan-calm (A.Parker p) 0 (map_step A.Parker (Pk.decide_of PARKED p f word a)) (calm (A.Parker p) f word a e)

pub still-tells : (o : ℕ) (p : OnceAt) (f : Bool) (word : ℕ) (a : Bool) → On.may_wake p ≡ false → Tells (decide_of (A.Once o p) f word a)
unfolding may_wake
still-tells o p f word a e = still (A.Once o p) f word a e

-- at the positions that may wake somebody, the step leads on or ends the call
mutex-told : (m : ℕ) (p : MutexAt) (f : Bool) (word : ℕ) (a : Bool) → Tells (decide_of (A.Mutex m p) f word a)
unfolding Tells decide_of plan_of done woken_of tell_of Mx.decide_of Mx.unlock_of may_wake Mx.may_wake Mx.unlock_may_wake
mutex-told m (M.Lock p) f word a = still (A.Mutex m (M.Lock p)) f word a refl
mutex-told m M.TryLock f word a = still (A.Mutex m M.TryLock) f word a refl
mutex-told m (M.Unlock U.Swap) f word a = still (A.Mutex m (M.Unlock U.Swap)) f word a refl
mutex-told m (M.Unlock U.Wake) f word a = λ n h. refl

rwlock-told : (l : ℕ) (p : RwLockAt) (f : Bool) (word : ℕ) (a : Bool) → Tells (decide_of (A.RwLock l p) f word a)
unfolding decide_of plan_of moved done Rw.decide_of Rw.wake_of Rw.downgrade_of Tells woken_of tell_of may_wake RwP.may_wake RwP.wake_may_wake RwP.downgrade_may_wake
rwlock-told l (X.Read p) f word a = still (A.RwLock l (X.Read p)) f word a refl
rwlock-told l (X.TryRead p) f word a = still (A.RwLock l (X.TryRead p)) f word a refl
rwlock-told l X.ReadUnlock f word a = still (A.RwLock l X.ReadUnlock) f word a refl
rwlock-told l (X.Write p) f word a = still (A.RwLock l (X.Write p)) f word a refl
rwlock-told l (X.TryWrite p) f word a = still (A.RwLock l (X.TryWrite p)) f word a refl
rwlock-told l X.WriteUnlock f word a = still (A.RwLock l X.WriteUnlock) f word a refl
rwlock-told l (X.Wake w Wk.ExchangeWriters) f word a = still (A.RwLock l (X.Wake w Wk.ExchangeWriters)) f word a refl
rwlock-told l (X.Wake w Wk.ExchangeBoth) f word a = still (A.RwLock l (X.Wake w Wk.ExchangeBoth)) f word a refl
rwlock-told l (X.Wake w (Wk.Notify b)) f word a = still (A.RwLock l (X.Wake w (Wk.Notify b))) f word a refl
rwlock-told l (X.Wake w (Wk.WakeWriter b)) f word a = λ n h.
    either (λ (s : Step RwLockAt). woken_of (tell_of (rwlock_plan l (X.Wake w (Wk.WakeWriter b)) s).event n) ≡ n) (b && not a) _ _ refl refl
rwlock-told l (X.Wake w Wk.ExchangeReaders) f word a = still (A.RwLock l (X.Wake w Wk.ExchangeReaders)) f word a refl
rwlock-told l (X.Wake w Wk.WakeReaders) f word a = λ n h. refl
rwlock-told l (X.Downgrade D.Add) f word a = still (A.RwLock l (X.Downgrade D.Add)) f word a refl
rwlock-told l (X.Downgrade D.Subtract) f word a = still (A.RwLock l (X.Downgrade D.Subtract)) f word a refl
rwlock-told l (X.Downgrade D.WakeReaders) f word a = λ n h. refl

condvar-told : (c : ℕ) (p : CondvarAt) (f : Bool) (word : ℕ) (a : Bool) → Tells (decide_of (A.Condvar c p) f word a)
unfolding decide_of plan_of moved done Cv.decide_of Cv.wait_of Cv.notify_of Cv.unlock_step Mx.unlock_of Tells woken_of tell_of may_wake Cv.may_wake Cv.wait_may_wake Cv.notify_may_wake Mx.unlock_may_wake
condvar-told c (Cd.Wait m Wt.Load) f word a = still (A.Condvar c (Cd.Wait m Wt.Load)) f word a refl
condvar-told c (Cd.Wait m (Wt.Unlock s U.Swap)) f word a = still (A.Condvar c (Cd.Wait m (Wt.Unlock s U.Swap))) f word a refl
condvar-told c (Cd.Wait m (Wt.Unlock s U.Wake)) f word a = λ n h. refl
condvar-told c (Cd.Wait m (Wt.Wait s)) f word a = still (A.Condvar c (Cd.Wait m (Wt.Wait s))) f word a refl
condvar-told c (Cd.Wait m (Wt.Relock p)) f word a = still (A.Condvar c (Cd.Wait m (Wt.Relock p))) f word a refl
condvar-told c (Cd.Notify all Nf.Add) f word a = still (A.Condvar c (Cd.Notify all Nf.Add)) f word a refl
condvar-told c (Cd.Notify all Nf.Wake) f word a = λ n h. refl

once-tells : (o : ℕ) (p : OnceAt) (f : Bool) (word : ℕ) (a : Bool) → Tells (decide_of (A.Once o p) f word a)
unfolding decide_of On.decide_of On.call_of may_wake On.may_wake On.call_may_wake
once-tells o (O.Call i C.Load) f word a = still (A.Once o (O.Call i C.Load)) f word a refl
once-tells o (O.Call i (C.ExchangeRunning seen)) f word a = still (A.Once o (O.Call i (C.ExchangeRunning seen))) f word a refl
once-tells o (O.Call i C.Closure) f word a = still (A.Once o (O.Call i C.Closure)) f word a refl
once-tells o (O.Call i (C.Swap ending)) f word a = still (A.Once o (O.Call i (C.Swap ending))) f word a refl
once-tells o (O.Call i (C.WakeAll panicking)) f word a = finish-tells o (O.Call i (C.WakeAll panicking)) panicking word W.All
once-tells o (O.Call i (C.ExchangeQueued seen)) f word a = still (A.Once o (O.Call i (C.ExchangeQueued seen))) f word a refl
once-tells o (O.Call i (C.Wait seen)) f word a = still (A.Once o (O.Call i (C.Wait seen))) f word a refl
once-tells o (O.Wait i p) f word a = still (A.Once o (O.Wait i p)) f word a refl
once-tells o O.IsCompleted f word a = still (A.Once o O.IsCompleted) f word a refl

parker-told : (p : ParkerAt) (f : Bool) (word : ℕ) (a : Bool) → Tells (decide_of (A.Parker p) f word a)
unfolding decide_of plan_of done Pk.decide_of Pk.unpark_of Tells woken_of tell_of may_wake Pk.may_wake Pk.unpark_may_wake
parker-told (P.Park p) f word a = still (A.Parker (P.Park p)) f word a refl
parker-told (P.Unpark t V.Swap) f word a = still (A.Parker (P.Unpark t V.Swap)) f word a refl
parker-told (P.Unpark t V.Wake) f word a = λ n h. refl

pub tells : (at : At) (f : Bool) (word : ℕ) (a : Bool) → Tells (decide_of at f word a)
unfolding decide_of
tells A.Idle f word a = idle-tells word
tells (A.Mutex m p) f word a = mutex-told m p f word a
tells (A.RwLock l p) f word a = rwlock-told l p f word a
tells (A.Condvar c p) f word a = condvar-told c p f word a
tells (A.Once o p) f word a = once-tells o p f word a
tells (A.Parker p) f word a = parker-told p f word a

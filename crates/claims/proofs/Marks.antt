-- The history's entries of a step, which come from its position and its answer alone, are those of the change of holds that its plan makes;
-- and a step counts as a writer notification exactly where a fetch_add on writer_notify is next. Assumes nothing.
use mathlib.Core.Path.{◌≡◌, refl, ◌∙◌}
use mathlib.Core.Bool.{Bool, true, false, cond, not, ◌&&◌, ◌||◌, and-false}
use mathlib.Core.List.{List, [], ◌∷◌}
use mathlib.Core.Logic.{◌⊎◌, inl, inr}
use Prim.Native.Nat.{ℕ, ◌+◌}
use lib.Dec.{eqb}
use Rattle.words.proofs.Cond.{either}
use Rattle.words.specs.Atomic.{exchanges}
use Rattle.words.specs.Mutex.{is_unlocked as is_free}
use Rattle.words.specs.Parker.{PARKED}
use Rattle.words.specs.RwLock.{READERS_WAITING, WRITERS_WAITING, is_unlocked, has_readers_waiting, has_writers_waiting, is_read_lockable, has_reached_max_readers, read_unlocked, write_unlocked}
use Rattle.words.specs.declared.Hold.{Hold}
use Rattle.words.specs.declared.Hold.TheVariants as H
use Rattle.words.specs.declared.Next.{Next}
use Rattle.words.specs.declared.Next.TheVariants as Nx
use Rattle.words.specs.declared.Step.{Step}
use Rattle.words.specs.Steps.{map_next, map_step}
use Rattle.mutex.specs.declared.LockAt.{LockAt}
use Rattle.mutex.specs.declared.UnlockAt.{UnlockAt}
use Rattle.mutex.specs.declared.MutexAt.{MutexAt}
use Rattle.mutex.specs.declared.MutexAt.TheVariants as M
use Rattle.rwlock.specs.declared.ReadAt.{ReadAt}
use Rattle.rwlock.specs.declared.ReadAt.TheVariants as R
use Rattle.rwlock.specs.declared.TryAt.{TryAt}
use Rattle.rwlock.specs.declared.TryAt.TheVariants as T
use Rattle.rwlock.specs.declared.WriteAt.{WriteAt}
use Rattle.rwlock.specs.declared.WriteAt.TheVariants as Wr
use Rattle.rwlock.specs.declared.WakeAt.{WakeAt}
use Rattle.rwlock.specs.declared.WakeAt.TheVariants as Wk
use Rattle.rwlock.specs.declared.DowngradeAt.{DowngradeAt}
use Rattle.rwlock.specs.declared.DowngradeAt.TheVariants as D
use Rattle.rwlock.specs.declared.RwLockAt.{RwLockAt}
use Rattle.rwlock.specs.declared.RwLockAt.TheVariants as X
use Rattle.condvar.specs.declared.WaitAt.{WaitAt}
use Rattle.condvar.specs.declared.WaitAt.TheVariants as Wt
use Rattle.condvar.specs.declared.NotifyAt.{NotifyAt}
use Rattle.condvar.specs.declared.NotifyAt.TheVariants as Nf
use Rattle.condvar.specs.declared.CondvarAt.{CondvarAt}
use Rattle.condvar.specs.declared.CondvarAt.TheVariants as C
use Rattle.mutex.specs.Mutex as Mx
use Rattle.rwlock.specs.RwLock as Rw
use Rattle.condvar.specs.Condvar as Cv
use Rattle.once.specs.Once as On
use Rattle.once.proofs.Laws as OnL
use Rattle.thread_parking.specs.ThreadParking as Pk
use Rattle.thread_parking.proofs.Laws as PkL
use Rattle.calls.specs.declared.At.{At}
use Rattle.calls.specs.declared.At.TheVariants as A
use Rattle.calls.specs.declared.Event.{Event}
use Rattle.calls.specs.declared.Event.TheVariants as E
use Rattle.calls.specs.declared.Plan.{Plan}
use Rattle.calls.specs.Events.{tell_of, is_step}
use Rattle.calls.specs.Plans.{moved, slept, done, panicked, entered, mutex_plan, rwlock_plan, condvar_plan, decide_of, plan_next, plan_of}
use Rattle.world.specs.declared.World.{World}
use Rattle.world.specs.World.{thread_at}
use Rattle.acts.specs.declared.Fields.{Fields}
use Rattle.kept.proofs.Tests.{no_way}
use Rattle.kept.proofs.Mutex.{LockDid, lock-moves, lock-marks, lock-sleeps, lock-takes, lock-did, UnlockDid, unlock-wakes-next, unlock-ends, unlock-wakes, unlock-did}
use Rattle.claims.specs.Claims.{of-mutex, for-writing, for-reading, Mark, begins, ends, unlock_marks, mutex_marks, wait_marks, downgrade_marks, rwlock_marks, step_marks, answer_marks, wake_notifies, lock_notifies, notifies_next, notifies}

-- what a change of holds is, as entries; a downgrade ends the write hold and begins a read hold
unfoldable pub marks_of : Hold → ℕ → ℕ → List Mark
marks_of H.Same t object = []
marks_of H.TakeMutex t object = begins of-mutex t object ∷ []
marks_of H.FreeMutex t object = ends of-mutex t object ∷ []
marks_of H.TakeRead t object = begins for-reading t object ∷ []
marks_of H.FreeRead t object = ends for-reading t object ∷ []
marks_of H.TakeWrite t object = begins for-writing t object ∷ []
marks_of H.FreeWrite t object = ends for-writing t object ∷ []
marks_of H.Downgrade t object = ends for-writing t object ∷ begins for-reading t object ∷ []

-- whether an event is done 1
unfoldable grants : Event → Bool
grants E.Set = false
grants E.Begun = false
grants (E.Moved woken) = false
grants (E.Done value woken) = eqb value 1
grants E.Slept = false
grants (E.Panic number woken) = false
grants E.Closure = false
grants E.Woken = false
grants E.Closed = false
grants (E.Refused number) = false

-- the entries of a step's answer are those of its position
step-answer :
    (w : World) (a : Fields) (e : Event) (n : ℕ) → is_step e ≡ true →
    answer_marks w a (tell_of e n) ≡ step_marks (thread_at w a.thread).at (grants e) a.thread
unfolding grants tell_of answer_marks
step-answer w a E.Set n h = no_way h
step-answer w a E.Begun n h = no_way h
step-answer w a (E.Moved woken) n h = refl
step-answer w a (E.Done value woken) n h = refl
step-answer w a E.Slept n h = refl
step-answer w a (E.Panic number woken) n h = refl
step-answer w a E.Closure n h = refl
step-answer w a E.Woken n h = no_way h
step-answer w a E.Closed n h = no_way h
step-answer w a (E.Refused number) n h = no_way h

-- a plan answers as a step, and what its position gives by its answer is what it does to the holds
abbrev Marked : At → ℕ → Plan → Type 0
Marked at t p = (is_step p.event ≡ true) × (step_marks at (grants p.event) t ≡ marks_of p.hold t p.object)

-- mutex: `lock` takes where it ends, `unlock` frees by its swap
module _ (m t word : ℕ) where
  lock-marked : (p : LockAt) (s : Step LockAt) → LockDid p word s → Marked (A.Mutex m (M.Lock p)) t (mutex_plan m (M.Lock p) (map_step M.Lock s))
  unfolding grants marks_of step_marks mutex_marks plan_of moved slept done
  lock-marked p s (lock-moves _ _) = (refl, refl)
  lock-marked p s (lock-marks _) = (refl, refl)
  lock-marked p s (lock-sleeps _ _) = (refl, refl)
  lock-marked p s (lock-takes _ _ _ _) = (refl, refl)

  unlock-marked : (p : UnlockAt) (s : Step UnlockAt) → UnlockDid word p s → Marked (A.Mutex m (M.Unlock p)) t (mutex_plan m (M.Unlock p) (map_step M.Unlock s))
  unfolding grants marks_of step_marks mutex_marks unlock_marks plan_of moved done
  unlock-marked p s (unlock-wakes-next _) = (refl, refl)
  unlock-marked p s (unlock-ends _) = (refl, refl)
  unlock-marked p s unlock-wakes = (refl, refl)

  mutex-marked : (p : MutexAt) (f any : Bool) → Marked (A.Mutex m p) t (mutex_plan m p (Mx.decide_of p f word any))
  unfolding grants marks_of step_marks mutex_marks plan_of Mx.decide_of Mx.try_lock_of done
  mutex-marked (M.Lock p) f any = lock-marked p _ (lock-did p word)
  mutex-marked M.TryLock f any =
      either (λ (s : Step MutexAt). Marked (A.Mutex m M.TryLock) t (mutex_plan m M.TryLock s)) (is_free word) _ _ (refl, refl) (refl, refl)
  mutex-marked (M.Unlock p) f any = unlock-marked p _ (unlock-did p word)

-- condvar: the mutex's part of a wait is the mutex's own
module _ (c m t word : ℕ) where
  relock-marked :
      (p : LockAt) (s : Step LockAt) → LockDid p word s →
      Marked (A.Condvar c (C.Wait m (Wt.Relock p))) t (condvar_plan c (C.Wait m (Wt.Relock p)) m (Cv.relock_step m s))
  unfolding grants marks_of step_marks wait_marks plan_of Cv.relock_step moved slept done
  relock-marked p s (lock-moves _ _) = (refl, refl)
  relock-marked p s (lock-marks _) = (refl, refl)
  relock-marked p s (lock-sleeps _ _) = (refl, refl)
  relock-marked p s (lock-takes _ _ _ _) = (refl, refl)

  wait-unlock-marked :
      (sequence : ℕ) (p : UnlockAt) (s : Step UnlockAt) → UnlockDid word p s →
      Marked (A.Condvar c (C.Wait m (Wt.Unlock sequence p))) t (condvar_plan c (C.Wait m (Wt.Unlock sequence p)) m (Cv.unlock_step m sequence s))
  unfolding grants marks_of step_marks wait_marks unlock_marks plan_of Cv.unlock_step moved
  wait-unlock-marked sequence p s (unlock-wakes-next _) = (refl, refl)
  wait-unlock-marked sequence p s (unlock-ends _) = (refl, refl)
  wait-unlock-marked sequence p s unlock-wakes = (refl, refl)

  wait-marked : (p : WaitAt) → Marked (A.Condvar c (C.Wait m p)) t (condvar_plan c (C.Wait m p) (Cv.wait_object c m p) (Cv.wait_of m p word))
  unfolding grants marks_of step_marks wait_marks plan_of Cv.wait_object Cv.wait_of moved slept
  wait-marked Wt.Load = (refl, refl)
  wait-marked (Wt.Unlock sequence p) = wait-unlock-marked sequence p _ (unlock-did p word)
  wait-marked (Wt.Wait sequence) =
      either (λ (s : Step CondvarAt). Marked (A.Condvar c (C.Wait m (Wt.Wait sequence))) t (condvar_plan c (C.Wait m (Wt.Wait sequence)) c s))
      (eqb word sequence) _ _ (refl, refl) (refl, refl)
  wait-marked (Wt.Relock p) = relock-marked p _ (lock-did p word)

notify-marked :
    (c t word : ℕ) (all : Bool) (p : NotifyAt) → Marked (A.Condvar c (C.Notify all p)) t (condvar_plan c (C.Notify all p) c (Cv.notify_of all p word))
unfolding grants marks_of step_marks plan_of Cv.notify_of moved done
notify-marked c t word all Nf.Add = (refl, refl)
notify-marked c t word all Nf.Wake = (refl, refl)

condvar-marked :
    (c t word : ℕ) (p : CondvarAt) (f any : Bool) → Marked (A.Condvar c p) t (condvar_plan c p (Cv.object_of c p) (Cv.decide_of p f word any))
unfolding Cv.object_of Cv.decide_of
condvar-marked c t word (C.Wait m p) f any = wait-marked c m t word p
condvar-marked c t word (C.Notify all p) f any = notify-marked c t word all p

-- once and thread_parking: nothing is held
idle-marked :
    {X : Type 0} (f : X → At) (at : At) (t : ℕ) → ((e : Event) → step_marks at (grants e) t ≡ []) → (s : Step X) → s.hold ≡ H.Same →
    Marked at t (plan_of at 0 (map_step f s))
unfolding marks_of plan_of moved slept done panicked entered
idle-marked {X = X} f at t none s h = by s.next
  where
    by : (n : Next X) → Marked at t (plan_next at 0 s.word s.hold s.wake (map_next f n))
    by (Nx.Moved q) = (refl, rw h (none _))
    by Nx.Asleep = (refl, rw h (none _))
    by (Nx.Ended value) = (refl, rw h (none _))
    by (Nx.Panics panic) = (refl, rw h (none _))
    by (Nx.Closure q) = (refl, rw h (none _))

-- rwlock: a call that takes does so where it answers done 1, and a try that failed answers done 0
module _ (l t word : ℕ) where
  abbrev Gives : RwLockAt → Step RwLockAt → Type 0
  Gives p s = Marked (A.RwLock l p) t (rwlock_plan l p s)

  read-top : (p : ReadAt) (slept : Bool) → Gives (X.Read p) (Rw.read_top slept word)
  unfolding grants marks_of step_marks rwlock_marks plan_of Rw.read_top moved panicked
  read-top p slept =
      either (Gives (X.Read p)) (Rw.may_read slept word) _ _ (refl, refl)
      (either (Gives (X.Read p)) (has_reached_max_readers word) _ _ (refl, refl)
      (either (Gives (X.Read p)) (has_readers_waiting word) _ _ (refl, refl) (refl, refl)))

  read-marked : (p : ReadAt) (f : Bool) → Gives (X.Read p) (Rw.read_of p f word)
  unfolding grants marks_of step_marks rwlock_marks plan_of Rw.read_of moved slept done
  read-marked R.Load f = either (Gives (X.Read R.Load)) (is_read_lockable word) _ _ (refl, refl) (refl, refl)
  read-marked (R.Exchange seen) f = either (Gives (X.Read (R.Exchange seen))) (exchanges word seen f) _ _ (refl, refl) (refl, refl)
  read-marked (R.Spin slept left) f =
      either (Gives (X.Read (R.Spin slept left))) (Rw.stops_read word || eqb left 0) _ _ (read-top (R.Spin slept left) slept) (refl, refl)
  read-marked (R.ExchangeContended slept seen) f =
      either (Gives (X.Read (R.ExchangeContended slept seen))) (exchanges word seen f) _ _ (refl, refl) (read-top (R.ExchangeContended slept seen) slept)
  read-marked (R.SetWaiting slept seen) f =
      either (Gives (X.Read (R.SetWaiting slept seen))) (eqb word seen) _ _ (refl, refl) (read-top (R.SetWaiting slept seen) slept)
  read-marked (R.Wait seen) f = either (Gives (X.Read (R.Wait seen))) (eqb word seen) _ _ (refl, refl) (refl, refl)

  try-read-top : (p : TryAt) → Gives (X.TryRead p) (Rw.try_read_top word)
  unfolding grants marks_of step_marks rwlock_marks plan_of Rw.try_read_top moved done
  try-read-top p = either (Gives (X.TryRead p)) (is_read_lockable word) _ _ (refl, refl) (refl, refl)

  try-read-marked : (p : TryAt) (f : Bool) → Gives (X.TryRead p) (Rw.try_read_of p f word)
  unfolding grants marks_of step_marks rwlock_marks plan_of Rw.try_read_of done
  try-read-marked T.Load f = try-read-top T.Load
  try-read-marked (T.Exchange seen) f = either (Gives (X.TryRead (T.Exchange seen))) (exchanges word seen f) _ _ (refl, refl) (try-read-top (T.Exchange seen))

  try-write-top : (p : TryAt) → Gives (X.TryWrite p) (Rw.try_write_top word)
  unfolding grants marks_of step_marks rwlock_marks plan_of Rw.try_write_top moved done
  try-write-top p = either (Gives (X.TryWrite p)) (is_unlocked word) _ _ (refl, refl) (refl, refl)

  try-write-marked : (p : TryAt) (f : Bool) → Gives (X.TryWrite p) (Rw.try_write_of p f word)
  unfolding grants marks_of step_marks rwlock_marks plan_of Rw.try_write_of done
  try-write-marked T.Load f = try-write-top T.Load
  try-write-marked (T.Exchange seen) f = either (Gives (X.TryWrite (T.Exchange seen))) (exchanges word seen f) _ _ (refl, refl) (try-write-top (T.Exchange seen))

  write_top : (p : WriteAt) (others : Bool) → Gives (X.Write p) (Rw.write_top others word)
  unfolding grants marks_of step_marks rwlock_marks plan_of Rw.write_top moved
  write_top p others =
      either (Gives (X.Write p)) (is_unlocked word) _ _ (refl, refl) (either (Gives (X.Write p)) (has_writers_waiting word) _ _ (refl, refl) (refl, refl))

  write-marked : (p : WriteAt) (f : Bool) → Gives (X.Write p) (Rw.write_of p f word)
  unfolding grants marks_of step_marks rwlock_marks plan_of Rw.write_of moved slept done
  write-marked Wr.Exchange f = either (Gives (X.Write Wr.Exchange)) (exchanges word 0 f) _ _ (refl, refl) (refl, refl)
  write-marked (Wr.Spin others left) f =
      either (Gives (X.Write (Wr.Spin others left))) (Rw.stops_write word || eqb left 0) _ _ (write_top (Wr.Spin others left) others) (refl, refl)
  write-marked (Wr.ExchangeContended others seen) f =
      either (Gives (X.Write (Wr.ExchangeContended others seen))) (exchanges word seen f) _ _ (refl, refl) (write_top (Wr.ExchangeContended others seen) others)
  write-marked (Wr.SetWaiting others seen) f =
      either (Gives (X.Write (Wr.SetWaiting others seen))) (eqb word seen) _ _ (refl, refl) (write_top (Wr.SetWaiting others seen) others)
  write-marked Wr.LoadSequence f = (refl, refl)
  write-marked (Wr.LoadState sequence) f =
      either (Gives (X.Write (Wr.LoadState sequence))) (is_unlocked word || not (has_writers_waiting word)) _ _ (write_top (Wr.LoadState sequence) true) (refl, refl)
  write-marked (Wr.Wait sequence) f = either (Gives (X.Write (Wr.Wait sequence))) (eqb word sequence) _ _ (refl, refl) (refl, refl)

  -- the wake behind an unlock, from a position that gives what the hold says whatever its answer
  wake-rest : (p : RwLockAt) (writer : Bool) (seen : ℕ) (hold : Hold) → ((granted : Bool) → rwlock_marks p granted t l ≡ marks_of hold t l) → Gives p (Rw.wake_rest writer seen hold)
  unfolding grants step_marks plan_of Rw.wake_rest moved done
  wake-rest p writer seen hold h =
      either (Gives p) (eqb seen (READERS_WAITING + WRITERS_WAITING)) _ _ (refl, h false)
      (either (Gives p) (eqb seen READERS_WAITING) _ _ (refl, h false) (refl, h true))

  wake-top : (p : RwLockAt) (writer : Bool) (seen : ℕ) (hold : Hold) → ((granted : Bool) → rwlock_marks p granted t l ≡ marks_of hold t l) → Gives p (Rw.wake_top writer seen hold)
  unfolding grants step_marks plan_of Rw.wake_top moved
  wake-top p writer seen hold h = either (Gives p) (eqb seen WRITERS_WAITING) _ _ (refl, h false) (wake-rest p writer seen hold h)

  wake-marked : (writer : Bool) (p : WakeAt) (any : Bool) → Gives (X.Wake writer p) (Rw.wake_of writer p word any)
  unfolding grants marks_of step_marks rwlock_marks plan_of Rw.wake_of moved done
  wake-marked writer Wk.ExchangeWriters any =
      either (Gives (X.Wake writer Wk.ExchangeWriters)) (eqb word WRITERS_WAITING) _ _ (refl, refl)
      (wake-rest (X.Wake writer Wk.ExchangeWriters) writer word H.Same (λ _. refl))
  wake-marked writer Wk.ExchangeBoth any =
      either (Gives (X.Wake writer Wk.ExchangeBoth)) (eqb word (READERS_WAITING + WRITERS_WAITING)) _ _ (refl, refl) (refl, refl)
  wake-marked writer (Wk.Notify both) any = (refl, refl)
  wake-marked writer (Wk.WakeWriter both) any = either (Gives (X.Wake writer (Wk.WakeWriter both))) (both && not any) _ _ (refl, refl) (refl, refl)
  wake-marked writer Wk.ExchangeReaders any = either (Gives (X.Wake writer Wk.ExchangeReaders)) (eqb word READERS_WAITING) _ _ (refl, refl) (refl, refl)
  wake-marked writer Wk.WakeReaders any = (refl, refl)

  downgrade-marked : (p : DowngradeAt) → Gives (X.Downgrade p) (Rw.downgrade_of p word)
  unfolding grants marks_of step_marks rwlock_marks downgrade_marks plan_of Rw.downgrade_of moved done
  downgrade-marked D.Add = either (Gives (X.Downgrade D.Add)) (has_readers_waiting word) _ _ (refl, refl) (refl, refl)
  downgrade-marked D.Subtract = (refl, refl)
  downgrade-marked D.WakeReaders = (refl, refl)

  rwlock-marked : (p : RwLockAt) (f any : Bool) → Gives p (Rw.decide_of p f word any)
  unfolding grants marks_of step_marks rwlock_marks plan_of Rw.decide_of Rw.read_unlock_of Rw.write_unlock_of done
  rwlock-marked (X.Read p) f any = read-marked p f
  rwlock-marked (X.TryRead p) f any = try-read-marked p f
  rwlock-marked X.ReadUnlock f any =
      either (Gives X.ReadUnlock) (is_unlocked (read_unlocked word) && has_writers_waiting (read_unlocked word)) _ _
      (wake-top X.ReadUnlock false (read_unlocked word) H.FreeRead (λ _. refl)) (refl, refl)
  rwlock-marked (X.Write p) f any = write-marked p f
  rwlock-marked (X.TryWrite p) f any = try-write-marked p f
  rwlock-marked X.WriteUnlock f any =
      either (Gives X.WriteUnlock) (has_writers_waiting (write_unlocked word) || has_readers_waiting (write_unlocked word)) _ _
      (wake-top X.WriteUnlock true (write_unlocked word) H.FreeWrite (λ _. refl)) (refl, refl)
  rwlock-marked (X.Wake writer p) f any = wake-marked writer p any
  rwlock-marked (X.Downgrade p) f any = downgrade-marked p

marked : (at : At) (t : ℕ) (f : Bool) (word : ℕ) (any : Bool) → Marked at t (decide_of at f word any)
unfolding grants marks_of step_marks decide_of moved
marked A.Idle t f word any = (refl, refl)
marked (A.Mutex m p) t f word any = mutex-marked m t word p f any
marked (A.RwLock l p) t f word any = rwlock-marked l t word p f any
marked (A.Condvar c p) t f word any = condvar-marked c t word p f any
marked (A.Once o p) t f word any = idle-marked (A.Once o) (A.Once o p) t (λ e. refl) (On.decide_of p f word any) (OnL.holds-same p f word any)
marked (A.Parker p) t f word any = idle-marked A.Parker (A.Parker p) t (λ e. refl) (Pk.decide_of PARKED p f word any) (PkL.holds-same PARKED p f word any)

-- the entries of a step are those of its plan
pub plan-marks :
    (w : World) (a : Fields) (f : Bool) (word : ℕ) (any : Bool) (n : ℕ) →
    answer_marks w a (tell_of (decide_of (thread_at w a.thread).at f word any).event n)
    ≡ marks_of (decide_of (thread_at w a.thread).at f word any).hold a.thread (decide_of (thread_at w a.thread).at f word any).object
plan-marks w a f word any n =
    let m = marked (thread_at w a.thread).at a.thread f word any in
    step-answer w a (decide_of (thread_at w a.thread).at f word any).event n m.0 ∙ m.1

-- an act of a thread that is not before the fetch_add does not notify
none-notified : (lock : ℕ) (w : World) (a : Fields) (e : Event) → notifies_next lock (thread_at w a.thread).at ≡ false → notifies lock w a e ≡ 0
unfolding notifies
none-notified lock w a E.Set q = refl
none-notified lock w a E.Begun q = refl
none-notified lock w a (E.Moved woken) q = rw q
none-notified lock w a (E.Done value woken) q = refl
none-notified lock w a E.Slept q = refl
none-notified lock w a (E.Panic number woken) q = refl
none-notified lock w a E.Closure q = refl
none-notified lock w a E.Woken q = refl
none-notified lock w a E.Closed q = refl
none-notified lock w a (E.Refused number) q = refl

-- a step from before the fetch_add moves on
lock-moves-on :
    (l : ℕ) (p : RwLockAt) (f : Bool) (word : ℕ) (any : Bool) →
    (lock_notifies p ≡ false) ⊎ ((decide_of (A.RwLock l p) f word any).event ≡ E.Moved 0)
unfolding lock_notifies wake_notifies decide_of Rw.decide_of Rw.wake_of plan_of moved
lock-moves-on l (X.Read p) f word any = inl refl
lock-moves-on l (X.TryRead p) f word any = inl refl
lock-moves-on l X.ReadUnlock f word any = inl refl
lock-moves-on l (X.Write p) f word any = inl refl
lock-moves-on l (X.TryWrite p) f word any = inl refl
lock-moves-on l X.WriteUnlock f word any = inl refl
lock-moves-on l (X.Wake writer Wk.ExchangeWriters) f word any = inl refl
lock-moves-on l (X.Wake writer Wk.ExchangeBoth) f word any = inl refl
lock-moves-on l (X.Wake writer (Wk.Notify both)) f word any = inr refl
lock-moves-on l (X.Wake writer (Wk.WakeWriter both)) f word any = inl refl
lock-moves-on l (X.Wake writer Wk.ExchangeReaders) f word any = inl refl
lock-moves-on l (X.Wake writer Wk.WakeReaders) f word any = inl refl
lock-moves-on l (X.Downgrade p) f word any = inl refl

moves-on :
    (lock : ℕ) (at : At) (f : Bool) (word : ℕ) (any : Bool) →
    (notifies_next lock at ≡ false) ⊎ ((decide_of at f word any).event ≡ E.Moved 0)
unfolding notifies_next
moves-on lock A.Idle f word any = inl refl
moves-on lock (A.Mutex m p) f word any = inl refl
moves-on lock (A.RwLock l p) f word any = by (lock-moves-on l p f word any)
  where
    by :
        (lock_notifies p ≡ false) ⊎ ((decide_of (A.RwLock l p) f word any).event ≡ E.Moved 0) →
        ((eqb l lock && lock_notifies p) ≡ false) ⊎ ((decide_of (A.RwLock l p) f word any).event ≡ E.Moved 0)
    by (inl e) = inl (rw e (and-false (eqb l lock)))
    by (inr e) = inr e
moves-on lock (A.Condvar c p) f word any = inl refl
moves-on lock (A.Once o p) f word any = inl refl
moves-on lock (A.Parker p) f word any = inl refl

-- a step notifies exactly where the fetch_add is next
pub plan-notifies :
    (lock : ℕ) (w : World) (a : Fields) (f : Bool) (word : ℕ) (any : Bool) (n : ℕ) →
    notifies lock w a (tell_of (decide_of (thread_at w a.thread).at f word any).event n)
    ≡ cond (notifies_next lock (thread_at w a.thread).at) 1 0
unfolding notifies tell_of
plan-notifies lock w a f word any n = by (decide_of (thread_at w a.thread).at f word any).event (moves-on lock (thread_at w a.thread).at f word any)
  where
    by :
        (e : Event) → (notifies_next lock (thread_at w a.thread).at ≡ false) ⊎ (e ≡ E.Moved 0) →
        notifies lock w a (tell_of e n) ≡ cond (notifies_next lock (thread_at w a.thread).at) 1 0
    by e (inl q) = none-notified lock w a (tell_of e n) q ∙ rw q
    by e (inr q) = rw q

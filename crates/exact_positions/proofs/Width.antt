-- Words that positions carry stay of 32 bits: what an act leads to carries such a word where the position before it does. Assumes nothing.
use mathlib.Core.Path.{◌≡◌, refl}
use mathlib.Core.Bool.{Bool, true, not, ◌||◌}
use Prim.Native.Nat.{ℕ, ◌+◌, ◌^◌, ◌≤◌, ◌<◌}
use native.Mathlib.Omega.{arith}
use lib.Dec.{eqb}
use borrow.Author.Tests.{eqb-true}
use Rattle.words.proofs.Cond.{either}
use Rattle.words.specs.Atomic.{exchanges}
use Rattle.words.specs.Mutex.{is_contended}
use Rattle.words.specs.Once.{RUNNING, QUEUED}
use Rattle.words.specs.RwLock.{is_unlocked, is_read_lockable, has_readers_waiting, has_writers_waiting, has_reached_max_readers}
use Rattle.words.specs.declared.Next.{Next}
use Rattle.words.specs.declared.Next.TheVariants as Nx
use Rattle.words.specs.declared.Step.{Step}
use Rattle.words.specs.Steps.{map_next}
use Rattle.condvar.specs.declared.CondvarAt.{CondvarAt}
use Rattle.mutex.specs.declared.LockAt.{LockAt}
use Rattle.mutex.specs.declared.UnlockAt.{UnlockAt}
use Rattle.mutex.specs.declared.UnlockAt.TheVariants as U
use Rattle.mutex.specs.declared.MutexAt.{MutexAt}
use Rattle.mutex.specs.Mutex as Mx
use Rattle.rwlock.specs.declared.ReadAt.{ReadAt}
use Rattle.rwlock.specs.declared.ReadAt.TheVariants as R
use Rattle.rwlock.specs.declared.TryAt.{TryAt}
use Rattle.rwlock.specs.declared.TryAt.TheVariants as T
use Rattle.rwlock.specs.declared.WriteAt.{WriteAt}
use Rattle.rwlock.specs.declared.WriteAt.TheVariants as Wr
use Rattle.rwlock.specs.declared.WakeAt.{WakeAt}
use Rattle.rwlock.specs.declared.DowngradeAt.{DowngradeAt}
use Rattle.rwlock.specs.declared.RwLockAt.{RwLockAt}
use Rattle.rwlock.specs.declared.RwLockAt.TheVariants as X
use Rattle.rwlock.specs.RwLock as Rw
use Rattle.rwlock.specs.Positions as RwP
use Rattle.condvar.specs.declared.WaitAt.{WaitAt}
use Rattle.condvar.specs.declared.WaitAt.TheVariants as Cw
use Rattle.condvar.specs.declared.NotifyAt.{NotifyAt}
use Rattle.condvar.specs.declared.CondvarAt.TheVariants as C
use Rattle.condvar.specs.Condvar as Cv
use Rattle.once.specs.declared.CallAt.{CallAt}
use Rattle.once.specs.declared.CallAt.TheVariants as Oc
use Rattle.once.specs.declared.WaitAt as OnceWait
use Rattle.once.specs.declared.WaitAt.TheVariants as Ow
use Rattle.once.specs.declared.Ending.{Ending}
use Rattle.once.specs.declared.OnceAt.{OnceAt}
use Rattle.once.specs.declared.OnceAt.TheVariants as O
use Rattle.once.specs.Once as On
use Rattle.thread_parking.specs.declared.ParkerAt.{ParkerAt}
use Rattle.calls.specs.declared.At.{At}
use Rattle.calls.specs.declared.At.TheVariants as A
use Rattle.calls.specs.Plans.{rwlock_plan, condvar_plan, moved, slept, done, panicked, entered, decide_of, plan_next, plan_of}
use Rattle.calls.specs.Positions.{after_wait, passed_of}
use Rattle.step.specs.Acts.{closed_at}
use Rattle.kept.specs.Laws.{Goes, ended, staying, locking, unlocking, read-unlocking, write-unlocking, waking, downgrading, notifying, calling, awaiting, parking, unparking}
use Rattle.kept.proofs.Calls.{goes}
use Rattle.kept.proofs.RwLockWords.{with-readers-wide}
use Rattle.exact_positions.specs.Exact.{carries, read_carries, try_carries, write_carries, rwlock_carries, wait_carries, condvar_carries, call_carries, once_wait_carries, once_carries}
use Rattle.exact_positions.proofs.OnceLed.{running-each, queued-each}

light : (at : At) → carries at ≡ 0 → carries at < 2 ^ 32
light at e = omega arith

idle-wide : (word : ℕ) (fails anyone : Bool) → carries (decide_of A.Idle fails word anyone).next.at < 2 ^ 32
unfolding carries decide_of moved
idle-wide word fails anyone = omega arith

-- positions of calls that carry no word
mutex-wide : {m : ℕ} {p : MutexAt} {next : At} → Goes (A.Mutex m p) next → carries next < 2 ^ 32
unfolding carries
mutex-wide ended = omega arith
mutex-wide staying = omega arith
mutex-wide locking = omega arith
mutex-wide unlocking = omega arith

parker-wide : {p : ParkerAt} {next : At} → Goes (A.Parker p) next → carries next < 2 ^ 32
unfolding carries
parker-wide ended = omega arith
parker-wide staying = omega arith
parker-wide parking = omega arith
parker-wide unparking = omega arith

notify-wide : {c : ℕ} {all : Bool} {p : NotifyAt} {next : At} → Goes (A.Condvar c (C.Notify all p)) next → carries next < 2 ^ 32
unfolding carries condvar_carries
notify-wide ended = omega arith
notify-wide staying = omega arith
notify-wide notifying = omega arith

read-unlock-wide : {l : ℕ} {next : At} → Goes (A.RwLock l X.ReadUnlock) next → carries next < 2 ^ 32
unfolding carries rwlock_carries
read-unlock-wide ended = omega arith
read-unlock-wide staying = omega arith
read-unlock-wide read-unlocking = omega arith

write-unlock-wide : {l : ℕ} {next : At} → Goes (A.RwLock l X.WriteUnlock) next → carries next < 2 ^ 32
unfolding carries rwlock_carries
write-unlock-wide ended = omega arith
write-unlock-wide staying = omega arith
write-unlock-wide write-unlocking = omega arith

wake-wide : {l : ℕ} {writer : Bool} {p : WakeAt} {next : At} → Goes (A.RwLock l (X.Wake writer p)) next → carries next < 2 ^ 32
unfolding carries rwlock_carries
wake-wide ended = omega arith
wake-wide staying = omega arith
wake-wide waking = omega arith

downgrade-wide : {l : ℕ} {p : DowngradeAt} {next : At} → Goes (A.RwLock l (X.Downgrade p)) next → carries next < 2 ^ 32
unfolding carries rwlock_carries
downgrade-wide ended = omega arith
downgrade-wide staying = omega arith
downgrade-wide downgrading = omega arith

-- a Once's values that pass are among eight
eqb-small : (seen value : ℕ) → value ≤ 7 → eqb seen value ≡ true → seen ≤ 7
eqb-small seen value h e = let k : seen ≡ value = eqb-true seen value e in omega arith

call-small : (ignores : Bool) (p : CallAt) → On.call_passed ignores p ≡ true → call_carries p ≤ 7
unfolding On.call_passed call_carries
call-small ignores Oc.Load e = omega arith
call-small ignores (Oc.ExchangeRunning seen) e =
    running-each ignores (λ (seen : ℕ). seen ≤ 7) seen e (omega arith) (omega arith) (λ _. omega arith) (λ _. omega arith)
call-small ignores Oc.Closure e = omega arith
call-small ignores (Oc.Swap ending) e = omega arith
call-small ignores (Oc.WakeAll panicking) e = omega arith
call-small ignores (Oc.ExchangeQueued seen) e = eqb-small seen RUNNING (omega arith) e
call-small ignores (Oc.Wait seen) e = eqb-small seen (RUNNING + QUEUED) (omega arith) e

once-wait-small : (ignores : Bool) (p : OnceWait.WaitAt) → On.wait_passed ignores p ≡ true → once_wait_carries p ≤ 7
unfolding On.wait_passed once_wait_carries
once-wait-small ignores Ow.Load e = omega arith
once-wait-small ignores (Ow.ExchangeQueued seen) e =
    queued-each ignores 0 (λ (seen : ℕ). seen ≤ 7) seen e (omega arith) (omega arith) (λ _. omega arith)
once-wait-small ignores (Ow.Wait seen) e =
    queued-each ignores QUEUED (λ (seen : ℕ). seen ≤ 7) seen e (omega arith) (omega arith) (λ _. omega arith)

pub once-small : (p : OnceAt) → On.passed_of p ≡ true → once_carries p ≤ 7
unfolding On.passed_of once_carries
once-small (O.Call ignores p) e = call-small ignores p e
once-small (O.Wait ignores p) e = once-wait-small ignores p e
once-small O.IsCompleted e = omega arith

once-wide : {o : ℕ} {p : OnceAt} {next : At} → Goes (A.Once o p) next → passed_of next ≡ true → carries next < 2 ^ 32
unfolding carries passed_of
once-wide ended e = omega arith
once-wide {p = p} staying e = omega (arith, once-small p e)
once-wide (calling {b = b} {q = q}) e = omega (arith, once-small (O.Call b q) e)
once-wide (awaiting {b = b} {q = q}) e = omega (arith, once-small (O.Wait b q) e)

-- an RwLock's states and sequences: what is seen is the word, or was carried before
module _ (l word : ℕ) (h : word < 2 ^ 32) where
  Wide : RwLockAt → Step RwLockAt → Type 0
  Wide p s = carries (rwlock_plan l p s).next.at < 2 ^ 32

  read-top : (p : RwLockAt) (has-slept : Bool) → Wide p (Rw.read_top has-slept word)
  unfolding Wide plan_of moved panicked Rw.read_top carries rwlock_carries read_carries
  read-top p has-slept =
      either (Wide p) (Rw.may_read has-slept word) _ _ h
      (either (Wide p) (has_reached_max_readers word) _ _ (omega arith)
      (either (Wide p) (has_readers_waiting word) _ _ h h))

  read_wide : (p : ReadAt) (fails : Bool) → read_carries p < 2 ^ 32 → Wide (X.Read p) (Rw.read_of p fails word)
  unfolding Wide plan_of moved slept done Rw.read_of Rw.read_after_wait carries rwlock_carries read_carries
  read_wide R.Load fails s = either (Wide (X.Read R.Load)) (is_read_lockable word) _ _ h (omega arith)
  read_wide (R.Exchange seen) fails s = either (Wide (X.Read (R.Exchange seen))) (exchanges word seen fails) _ _ (omega arith) (omega arith)
  read_wide (R.Spin has-slept left) fails s =
      either (Wide (X.Read (R.Spin has-slept left))) (Rw.stops_read word || eqb left 0) _ _ (read-top (X.Read (R.Spin has-slept left)) has-slept) (omega arith)
  read_wide (R.ExchangeContended has-slept seen) fails s =
      either (Wide (X.Read (R.ExchangeContended has-slept seen))) (exchanges word seen fails) _ _ (omega arith)
      (read-top (X.Read (R.ExchangeContended has-slept seen)) has-slept)
  read_wide (R.SetWaiting has-slept seen) fails s =
      either (Wide (X.Read (R.SetWaiting has-slept seen))) (eqb word seen) _ _ (with-readers-wide seen s)
      (read-top (X.Read (R.SetWaiting has-slept seen)) has-slept)
  read_wide (R.Wait seen) fails s = either (Wide (X.Read (R.Wait seen))) (eqb word seen) _ _ s (omega arith)

  try-read-wide : (p : TryAt) (fails : Bool) → Wide (X.TryRead p) (Rw.try_read_of p fails word)
  unfolding Wide plan_of moved done Rw.try_read_of Rw.try_read_top carries rwlock_carries try_carries
  try-read-wide T.Load fails = either (Wide (X.TryRead T.Load)) (is_read_lockable word) _ _ h (omega arith)
  try-read-wide (T.Exchange seen) fails =
      either (Wide (X.TryRead (T.Exchange seen))) (exchanges word seen fails) _ _ (omega arith)
      (either (Wide (X.TryRead (T.Exchange seen))) (is_read_lockable word) _ _ h (omega arith))

  try-write-wide : (p : TryAt) (fails : Bool) → Wide (X.TryWrite p) (Rw.try_write_of p fails word)
  unfolding Wide plan_of moved done Rw.try_write_of Rw.try_write_top carries rwlock_carries try_carries
  try-write-wide T.Load fails = either (Wide (X.TryWrite T.Load)) (is_unlocked word) _ _ h (omega arith)
  try-write-wide (T.Exchange seen) fails =
      either (Wide (X.TryWrite (T.Exchange seen))) (exchanges word seen fails) _ _ (omega arith)
      (either (Wide (X.TryWrite (T.Exchange seen))) (is_unlocked word) _ _ h (omega arith))

  write_top : (p : RwLockAt) (others : Bool) → Wide p (Rw.write_top others word)
  unfolding Wide plan_of moved Rw.write_top carries rwlock_carries write_carries
  write_top p others = either (Wide p) (is_unlocked word) _ _ h (either (Wide p) (has_writers_waiting word) _ _ (omega arith) h)

  write-wide : (p : WriteAt) (fails : Bool) → write_carries p < 2 ^ 32 → Wide (X.Write p) (Rw.write_of p fails word)
  unfolding Wide plan_of moved slept done Rw.write_of Rw.write_after_wait carries rwlock_carries write_carries
  write-wide Wr.Exchange fails s = either (Wide (X.Write Wr.Exchange)) (exchanges word 0 fails) _ _ (omega arith) (omega arith)
  write-wide (Wr.Spin others left) fails s =
      either (Wide (X.Write (Wr.Spin others left))) (Rw.stops_write word || eqb left 0) _ _ (write_top (X.Write (Wr.Spin others left)) others) (omega arith)
  write-wide (Wr.ExchangeContended others seen) fails s =
      either (Wide (X.Write (Wr.ExchangeContended others seen))) (exchanges word seen fails) _ _ (omega arith)
      (write_top (X.Write (Wr.ExchangeContended others seen)) others)
  write-wide (Wr.SetWaiting others seen) fails s =
      either (Wide (X.Write (Wr.SetWaiting others seen))) (eqb word seen) _ _ (omega arith) (write_top (X.Write (Wr.SetWaiting others seen)) others)
  write-wide Wr.LoadSequence fails s = h
  write-wide (Wr.LoadState sequence) fails s =
      either (Wide (X.Write (Wr.LoadState sequence))) (is_unlocked word || not (has_writers_waiting word)) _ _ (write_top (X.Write (Wr.LoadState sequence)) true) s
  write-wide (Wr.Wait sequence) fails s = either (Wide (X.Write (Wr.Wait sequence))) (eqb word sequence) _ _ s (omega arith)

  rwlock-wide : (p : RwLockAt) (fails anyone : Bool) → rwlock_carries p < 2 ^ 32 → carries (decide_of (A.RwLock l p) fails word anyone).next.at < 2 ^ 32
  unfolding decide_of Rw.decide_of rwlock_carries Wide
  rwlock-wide (X.Read p) fails anyone s = read_wide p fails s
  rwlock-wide (X.TryRead p) fails anyone s = try-read-wide p fails
  rwlock-wide X.ReadUnlock fails anyone s = read-unlock-wide (goes (A.RwLock l X.ReadUnlock) fails word anyone)
  rwlock-wide (X.Write p) fails anyone s = write-wide p fails s
  rwlock-wide (X.TryWrite p) fails anyone s = try-write-wide p fails
  rwlock-wide X.WriteUnlock fails anyone s = write-unlock-wide (goes (A.RwLock l X.WriteUnlock) fails word anyone)
  rwlock-wide (X.Wake writer p) fails anyone s = wake-wide (goes (A.RwLock l (X.Wake writer p)) fails word anyone)
  rwlock-wide (X.Downgrade p) fails anyone s = downgrade-wide (goes (A.RwLock l (X.Downgrade p)) fails word anyone)

-- a condvar's sequence
module _ (c m word : ℕ) where
  unlock-wide :
      (sequence : ℕ) (p : UnlockAt) → sequence < 2 ^ 32 →
      carries (condvar_plan c (C.Wait m (Cw.Unlock sequence p)) m (Cv.unlock_step m sequence (Mx.unlock_of p word))).next.at < 2 ^ 32
  unfolding plan_of moved Cv.unlock_step Mx.unlock_of carries condvar_carries wait_carries
  unlock-wide sequence U.Swap s =
      either (λ (u : Step UnlockAt). carries (condvar_plan c (C.Wait m (Cw.Unlock sequence U.Swap)) m (Cv.unlock_step m sequence u)).next.at < 2 ^ 32)
      (is_contended word) _ _ s s
  unlock-wide sequence U.Wake s = s

  relock-wide : (p : LockAt) (s : Step LockAt) → carries (condvar_plan c (C.Wait m (Cw.Relock p)) m (Cv.relock_step m s)).next.at < 2 ^ 32
  unfolding plan_of moved slept done panicked entered Cv.relock_step carries condvar_carries wait_carries
  relock-wide p s = by s.next
    where
      by : (n : Next LockAt) → carries (plan_next (A.Condvar c (C.Wait m (Cw.Relock p))) m s.word s.hold s.wake (map_next (A.Condvar c) (map_next (λ (q : LockAt). C.Wait m (Cw.Relock q)) n))).next.at < 2 ^ 32
      by (Nx.Moved q) = light (A.Condvar c (C.Wait m (Cw.Relock q))) refl
      by Nx.Asleep = light (A.Condvar c (C.Wait m (Cw.Relock p))) refl
      by (Nx.Ended value) = light A.Idle refl
      by (Nx.Panics panic) = light A.Idle refl
      by (Nx.Closure q) = light (A.Condvar c (C.Wait m (Cw.Relock q))) refl

  wait-wide : (p : WaitAt) (fails anyone : Bool) → word < 2 ^ 32 → wait_carries p < 2 ^ 32 → carries (decide_of (A.Condvar c (C.Wait m p)) fails word anyone).next.at < 2 ^ 32
  unfolding decide_of plan_of moved slept Cv.decide_of Cv.wait_of Cv.wait_after_wait Cv.object_of Cv.wait_object carries condvar_carries wait_carries
  wait-wide Cw.Load fails anyone h s = h
  wait-wide (Cw.Unlock sequence p) fails anyone h s = unlock-wide sequence p s
  wait-wide (Cw.Wait sequence) fails anyone h s =
      either (λ (u : Step CondvarAt). carries (condvar_plan c (C.Wait m (Cw.Wait sequence)) c u).next.at < 2 ^ 32) (eqb word sequence) _ _ s (omega arith)
  wait-wide (Cw.Relock p) fails anyone h s = relock-wide p (Mx.lock_of p word)

-- a step, over all modules
pub step-wide :
    (at : At) (fails : Bool) (word : ℕ) (anyone : Bool) → word < 2 ^ 32 → carries at < 2 ^ 32 → passed_of (decide_of at fails word anyone).next.at ≡ true →
    carries (decide_of at fails word anyone).next.at < 2 ^ 32
unfolding carries condvar_carries
step-wide A.Idle fails word anyone h s e = idle-wide word fails anyone
step-wide (A.Mutex m p) fails word anyone h s e = mutex-wide (goes (A.Mutex m p) fails word anyone)
step-wide (A.RwLock l p) fails word anyone h s e = rwlock-wide l word h p fails anyone s
step-wide (A.Condvar c (C.Wait m p)) fails word anyone h s e = wait-wide c m word p fails anyone h s
step-wide (A.Condvar c (C.Notify all p)) fails word anyone h s e = notify-wide (goes (A.Condvar c (C.Notify all p)) fails word anyone)
step-wide (A.Once o p) fails word anyone h s e = once-wide (goes (A.Once o p) fails word anyone) e
step-wide (A.Parker p) fails word anyone h s e = parker-wide (goes (A.Parker p) fails word anyone)

-- after a wait
wait-after-wide : (p : WaitAt) → wait_carries p < 2 ^ 32 → wait_carries (Cv.wait_after_wait p) < 2 ^ 32
unfolding wait_carries Cv.wait_after_wait
wait-after-wide Cw.Load s = s
wait-after-wide (Cw.Unlock sequence p) s = s
wait-after-wide (Cw.Wait sequence) s = omega arith
wait-after-wide (Cw.Relock p) s = s

read-after-wide : (p : ReadAt) → read_carries p < 2 ^ 32 → read_carries (Rw.read_after_wait p) < 2 ^ 32
unfolding read_carries Rw.read_after_wait
read-after-wide R.Load s = s
read-after-wide (R.Exchange seen) s = s
read-after-wide (R.Spin has-slept left) s = s
read-after-wide (R.ExchangeContended has-slept seen) s = s
read-after-wide (R.SetWaiting has-slept seen) s = s
read-after-wide (R.Wait seen) s = omega arith

write-after-wide : (p : WriteAt) → write_carries p < 2 ^ 32 → write_carries (Rw.write_after_wait p) < 2 ^ 32
unfolding write_carries Rw.write_after_wait
write-after-wide Wr.Exchange s = s
write-after-wide (Wr.Spin others left) s = s
write-after-wide (Wr.ExchangeContended others seen) s = s
write-after-wide (Wr.SetWaiting others seen) s = s
write-after-wide Wr.LoadSequence s = s
write-after-wide (Wr.LoadState sequence) s = s
write-after-wide (Wr.Wait sequence) s = omega arith

rwlock-after-wide : (p : RwLockAt) → rwlock_carries p < 2 ^ 32 → rwlock_carries (RwP.after_wait p) < 2 ^ 32
unfolding rwlock_carries RwP.after_wait
rwlock-after-wide (X.Read p) s = read-after-wide p s
rwlock-after-wide (X.TryRead p) s = s
rwlock-after-wide X.ReadUnlock s = s
rwlock-after-wide (X.Write p) s = write-after-wide p s
rwlock-after-wide (X.TryWrite p) s = s
rwlock-after-wide X.WriteUnlock s = s
rwlock-after-wide (X.Wake writer p) s = s
rwlock-after-wide (X.Downgrade p) s = s

pub after-wait-wide : (at : At) → carries at < 2 ^ 32 → passed_of (after_wait at) ≡ true → carries (after_wait at) < 2 ^ 32
unfolding carries condvar_carries after_wait Cv.after_wait passed_of
after-wait-wide A.Idle s e = s
after-wait-wide (A.Mutex m p) s e = s
after-wait-wide (A.RwLock l p) s e = rwlock-after-wide p s
after-wait-wide (A.Condvar c (C.Wait m p)) s e = wait-after-wide p s
after-wait-wide (A.Condvar c (C.Notify all p)) s e = s
after-wait-wide (A.Once o p) s e = omega (arith, once-small (On.after_wait p) e)
after-wait-wide (A.Parker p) s e = s

-- the end of a closure
pub closed-wide : (ending : Ending) (at : At) → carries at < 2 ^ 32 → passed_of (closed_at ending at) ≡ true → carries (closed_at ending at) < 2 ^ 32
unfolding carries passed_of
closed-wide ending A.Idle s e = s
closed-wide ending (A.Mutex m p) s e = s
closed-wide ending (A.RwLock l p) s e = s
closed-wide ending (A.Condvar c p) s e = s
closed-wide ending (A.Once o p) s e = omega (arith, once-small (On.close_of ending p) e)
closed-wide ending (A.Parker p) s e = s

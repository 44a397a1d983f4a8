-- In every world reached the values that the exchanges of read, try_read and try_write carry have 32 bits: a step carries on only the word
-- that it saw. Assumes nothing.
use mathlib.Core.Path.{◌≡◌, refl, sym, subst}
use mathlib.Core.Bool.{Bool, true, false, cond, ◌||◌}
use mathlib.Core.List.{List, [], ◌∷◌}
use Prim.Native.Nat.{ℕ, ◌%◌, ◌^◌, ◌<◌}
use native.Mathlib.Omega.{arith}
use lib.Dec.{eqb}
use lib.ListN.{get_or-replicate}
use Rattle.words.proofs.Cond.{either}
use Rattle.words.specs.Atomic.{exchanges}
use Rattle.words.specs.RwLock.{is_unlocked, has_readers_waiting, is_read_lockable, has_reached_max_readers}
use Rattle.words.specs.declared.Step.{Step}
use Rattle.rwlock.specs.declared.ReadAt.{ReadAt}
use Rattle.rwlock.specs.declared.ReadAt.TheVariants as R
use Rattle.rwlock.specs.declared.TryAt.{TryAt}
use Rattle.rwlock.specs.declared.TryAt.TheVariants as T
use Rattle.rwlock.specs.declared.RwLockAt.{RwLockAt}
use Rattle.rwlock.specs.declared.RwLockAt.TheVariants as X
use Rattle.once.specs.declared.Ending.{Ending}
use Rattle.rwlock.specs.RwLock as Rw
use Rattle.rwlock.specs.Positions as RwP
use Rattle.queue.specs.Row.{THREADS}
use Rattle.calls.specs.declared.At.{At}
use Rattle.calls.specs.declared.At.TheVariants as A
use Rattle.calls.specs.declared.Thread.{Thread}
use Rattle.calls.specs.Plans.{idle, moved, slept, done, panicked, rwlock_plan, decide_of, plan_of}
use Rattle.calls.specs.Positions.{entry_of, after_wait, operand_of}
use Rattle.world.specs.declared.World.{World}
use Rattle.world.specs.World.{fresh_world, thread_at}
use Rattle.step.specs.declared.Acted.{Acted}
use Rattle.step.specs.Acts.{closed_at}
use Rattle.sound.specs.Sound.{sound_world}
use Rattle.sound.proofs.Examples.{fresh-sound}
use Rattle.acts.specs.declared.Fields.{Fields}
use Rattle.acts.specs.Refusals.{fields_refusal, world_refusal}
use Rattle.acts.specs.Acts.{ending_of, accepted_of, acted_of, act_of, acts_of, Sized, no-act, one-act}
use Rattle.acts.proofs.Laws.{sound-acts}
use Rattle.kept.specs.Shape.{Shaped}
use Rattle.kept.proofs.Shape.{fresh-shaped}
use Rattle.kept.specs.Laws.{Goes, ended, staying, locking, unlocking, reading, try-reading, read-unlocking, writing, try-writing, write-unlocking, waking, downgrading, waiting, notifying, calling, awaiting, parking, unparking}
use Rattle.kept.proofs.Calls.{goes}
use Rattle.keeps_records.proofs.Records.{everywhere, accepted-each}
use Rattle.keeps.proofs.Keeps.{act-sound, act-shaped}
use Rattle.claims.specs.Claims.{reached}
use Rattle.claims.proofs.Asserts.{read_seen, try_seen, lock_seen, seen_at, Narrow}

-- the step of read, try_read and try_write: the exchange that it leads to is of the word
module _ (l word : ℕ) (wide : word < 2 ^ 32) where
  abbrev Leads : RwLockAt → Step RwLockAt → Type 0
  Leads p s = Narrow (rwlock_plan l p s).next.at

  read-top : (p : ReadAt) (slept : Bool) → Leads (X.Read p) (Rw.read_top slept word)
  unfolding seen_at lock_seen read_seen plan_of Rw.read_top moved panicked
  read-top p slept =
      either (Leads (X.Read p)) (Rw.may_read slept word) _ _ wide
      (either (Leads (X.Read p)) (has_reached_max_readers word) _ _ (omega arith)
      (either (Leads (X.Read p)) (has_readers_waiting word) _ _ (omega arith) (omega arith)))

  read-narrow : (p : ReadAt) (f : Bool) → Leads (X.Read p) (Rw.read_of p f word)
  unfolding seen_at lock_seen read_seen plan_of Rw.read_of Rw.read_after_wait moved slept done
  read-narrow R.Load f = either (Leads (X.Read R.Load)) (is_read_lockable word) _ _ wide (omega arith)
  read-narrow (R.Exchange seen) f = either (Leads (X.Read (R.Exchange seen))) (exchanges word seen f) _ _ (omega arith) (omega arith)
  read-narrow (R.Spin slept left) f =
      either (Leads (X.Read (R.Spin slept left))) (Rw.stops_read word || eqb left 0) _ _ (read-top (R.Spin slept left) slept) (omega arith)
  read-narrow (R.ExchangeContended slept seen) f =
      either (Leads (X.Read (R.ExchangeContended slept seen))) (exchanges word seen f) _ _ (omega arith) (read-top (R.ExchangeContended slept seen) slept)
  read-narrow (R.SetWaiting slept seen) f =
      either (Leads (X.Read (R.SetWaiting slept seen))) (eqb word seen) _ _ (omega arith) (read-top (R.SetWaiting slept seen) slept)
  read-narrow (R.Wait seen) f = either (Leads (X.Read (R.Wait seen))) (eqb word seen) _ _ (omega arith) (omega arith)

  try-read-top : (p : TryAt) → Leads (X.TryRead p) (Rw.try_read_top word)
  unfolding seen_at lock_seen try_seen plan_of Rw.try_read_top moved done
  try-read-top p = either (Leads (X.TryRead p)) (is_read_lockable word) _ _ wide (omega arith)

  try-read-narrow : (p : TryAt) (f : Bool) → Leads (X.TryRead p) (Rw.try_read_of p f word)
  unfolding seen_at plan_of Rw.try_read_of done
  try-read-narrow T.Load f = try-read-top T.Load
  try-read-narrow (T.Exchange seen) f =
      either (Leads (X.TryRead (T.Exchange seen))) (exchanges word seen f) _ _ (omega arith) (try-read-top (T.Exchange seen))

  try-write-top : (p : TryAt) → Leads (X.TryWrite p) (Rw.try_write_top word)
  unfolding seen_at lock_seen try_seen plan_of Rw.try_write_top moved done
  try-write-top p = either (Leads (X.TryWrite p)) (is_unlocked word) _ _ wide (omega arith)

  try-write-narrow : (p : TryAt) (f : Bool) → Leads (X.TryWrite p) (Rw.try_write_of p f word)
  unfolding seen_at plan_of Rw.try_write_of done
  try-write-narrow T.Load f = try-write-top T.Load
  try-write-narrow (T.Exchange seen) f =
      either (Leads (X.TryWrite (T.Exchange seen))) (exchanges word seen f) _ _ (omega arith) (try-write-top (T.Exchange seen))

-- any other step stays in its call, where nothing is carried
goes-narrow :
    {at next : At} → Goes at next → Narrow at →
    ((l : ℕ) (p : ReadAt) → at ≡ A.RwLock l (X.Read p) → Narrow next) →
    ((l : ℕ) (p : TryAt) → at ≡ A.RwLock l (X.TryRead p) → Narrow next) →
    ((l : ℕ) (p : TryAt) → at ≡ A.RwLock l (X.TryWrite p) → Narrow next) → Narrow next
unfolding seen_at lock_seen
goes-narrow ended n r s v = omega arith
goes-narrow staying n r s v = n
goes-narrow locking n r s v = n
goes-narrow unlocking n r s v = n
goes-narrow (reading {l} {p}) n r s v = r l p refl
goes-narrow (try-reading {l} {p}) n r s v = s l p refl
goes-narrow read-unlocking n r s v = n
goes-narrow writing n r s v = n
goes-narrow (try-writing {l} {p}) n r s v = v l p refl
goes-narrow write-unlocking n r s v = n
goes-narrow waking n r s v = n
goes-narrow downgrading n r s v = n
goes-narrow waiting n r s v = n
goes-narrow notifying n r s v = n
goes-narrow calling n r s v = n
goes-narrow awaiting n r s v = n
goes-narrow parking n r s v = n
goes-narrow unparking n r s v = n

step-narrow : (at : At) (f : Bool) (word : ℕ) (any : Bool) → word < 2 ^ 32 → Narrow at → Narrow (decide_of at f word any).next.at
unfolding decide_of Rw.decide_of
step-narrow at f word any wide n =
    goes-narrow (goes at f word any) n
    (λ l p e. subst (λ (x : At). Narrow (decide_of x f word any).next.at) (sym e) (read-narrow l word wide p f))
    (λ l p e. subst (λ (x : At). Narrow (decide_of x f word any).next.at) (sym e) (try-read-narrow l word wide p f))
    (λ l p e. subst (λ (x : At). Narrow (decide_of x f word any).next.at) (sym e) (try-write-narrow l word wide p f))

-- a call starts with no such value
entry-narrow : (call object mutex : ℕ) → Narrow (entry_of call object mutex)
unfolding entry_of seen_at lock_seen read_seen try_seen Rw.entry_of
entry-narrow call object mutex = simp (chosen, same) (omega arith)
  where
    chosen : (b : Bool) (x y : At) → seen_at (cond b x y) ≡ cond b (seen_at x) (seen_at y)
    chosen true x y = refl
    chosen false x y = refl

    same : (b : Bool) (n : ℕ) → cond b n n ≡ n
    same true n = refl
    same false n = refl

-- and goes on with none after a wait, or after a closure
read-roused : (p : ReadAt) → read_seen p < 2 ^ 32 → read_seen (Rw.read_after_wait p) < 2 ^ 32
unfolding read_seen Rw.read_after_wait
read-roused R.Load n = n
read-roused (R.Exchange seen) n = n
read-roused (R.Spin slept left) n = n
read-roused (R.ExchangeContended slept seen) n = n
read-roused (R.SetWaiting slept seen) n = n
read-roused (R.Wait seen) n = n

lock-roused : (p : RwLockAt) → lock_seen p < 2 ^ 32 → lock_seen (RwP.after_wait p) < 2 ^ 32
unfolding lock_seen RwP.after_wait
lock-roused (X.Read p) n = read-roused p n
lock-roused (X.TryRead p) n = n
lock-roused X.ReadUnlock n = n
lock-roused (X.Write p) n = n
lock-roused (X.TryWrite p) n = n
lock-roused X.WriteUnlock n = n
lock-roused (X.Wake writer p) n = n
lock-roused (X.Downgrade p) n = n

roused-narrow : (at : At) → Narrow at → Narrow (after_wait at)
unfolding seen_at after_wait
roused-narrow A.Idle n = n
roused-narrow (A.Mutex m p) n = n
roused-narrow (A.RwLock l p) n = lock-roused p n
roused-narrow (A.Condvar c p) n = n
roused-narrow (A.Once o p) n = n
roused-narrow (A.Parker p) n = n

closed-narrow : (ending : Ending) (at : At) → Narrow at → Narrow (closed_at ending at)
unfolding seen_at
closed-narrow ending A.Idle n = n
closed-narrow ending (A.Mutex m p) n = n
closed-narrow ending (A.RwLock l p) n = n
closed-narrow ending (A.Condvar c p) n = n
closed-narrow ending (A.Once o p) n = n
closed-narrow ending (A.Parker p) n = n

-- so every act keeps it, refused ones too
abbrev AllNarrow : World → Type 0
AllNarrow w = (t : ℕ) → Narrow (thread_at w t).at

accepted-narrow : (w : World) (a : Fields) → Shaped w → AllNarrow w → AllNarrow (accepted_of w a).world
accepted-narrow w a s n =
    accepted-each (λ (th : Thread). Narrow th.at) (λ th h. roused-narrow th.at h) w a n
    (λ _ _. entry-narrow a.choice a.object (a.value % 256))
    (λ b _. step-narrow (thread_at w a.thread).at (eqb a.choice 1) _ b (s.wide (operand_of a.thread (thread_at w a.thread).at)) (n a.thread))
    (closed-narrow (ending_of a.choice) (thread_at w a.thread).at (n a.thread))

act-narrow : (w : World) (a : Fields) → sound_world w ≡ true → Shaped w → AllNarrow w → AllNarrow (act_of w a).world
unfolding acted_of
act-narrow w a e s n =
    rw (sound-acts w a e)
    (either (λ (r : Acted). AllNarrow r.world) (eqb (fields_refusal a) 0) _ _
    (either (λ (r : Acted). AllNarrow r.world) (eqb (world_refusal w a) 0) _ _ (accepted-narrow w a s n) n) n)

acts-narrow : (w : World) (acts : List Fields) → sound_world w ≡ true → Shaped w → Sized acts → AllNarrow w → AllNarrow (acts_of w acts)
unfolding acts_of
acts-narrow w [] e s no-act n = n
acts-narrow w (a ∷ acts) e s (one-act h r) n =
    acts-narrow (act_of w a).world acts (act-sound w a e s h) (act-shaped w a s h) r (act-narrow w a e s n)

fresh-narrow : AllNarrow fresh_world
unfolding fresh_world seen_at
fresh-narrow =
    everywhere fresh_world (λ (th : Thread). Narrow th.at) fresh-shaped (omega arith) (λ u h. rw (get_or-replicate THREADS u idle idle h) (omega arith))

pub reached-narrow : (acts : List Fields) → Sized acts → (t : ℕ) → Narrow (thread_at (reached acts) t).at
reached-narrow acts sized = acts-narrow fresh_world acts fresh-sound fresh-shaped sized fresh-narrow

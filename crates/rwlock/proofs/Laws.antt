-- A step on an RwLock looks at the choice only where a weak exchange is next, at the sleepers only where it wakes, and only the
-- positions of a wake wake anybody. Assumes nothing.
use mathlib.Core.Path.{◌≡◌, refl}
use mathlib.Core.Bool.{Bool, true, false, not, ◌&&◌, ◌||◌}
use Prim.Native.Nat.{ℕ, ◌+◌}
use lib.Dec.{eqb}
use Rattle.words.proofs.Cond.{either}
use Rattle.words.specs.Atomic.{exchanges}
use Rattle.words.specs.RwLock.{READERS_WAITING, WRITERS_WAITING, is_unlocked, is_read_lockable, has_readers_waiting, has_writers_waiting, has_reached_max_readers, read_unlocked, write_unlocked}
use Rattle.words.specs.declared.Hold.{Hold}
use Rattle.words.specs.declared.Hold.TheVariants as H
use Rattle.words.specs.declared.Wake.TheVariants as W
use Rattle.words.specs.declared.Step.{Step}
use Rattle.rwlock.specs.declared.ReadAt.{ReadAt}
use Rattle.rwlock.specs.declared.ReadAt.TheVariants as R
use Rattle.rwlock.specs.declared.TryAt.{TryAt}
use Rattle.rwlock.specs.declared.TryAt.TheVariants as T
use Rattle.rwlock.specs.declared.WriteAt.{WriteAt}
use Rattle.rwlock.specs.declared.WriteAt.TheVariants as Wr
use Rattle.rwlock.specs.declared.WakeAt.{WakeAt}
use Rattle.rwlock.specs.declared.WakeAt.TheVariants as Wk
use Rattle.rwlock.specs.declared.DowngradeAt.{DowngradeAt}
use Rattle.rwlock.specs.declared.DowngradeAt.TheVariants as D
use Rattle.rwlock.specs.declared.RwLockAt.{RwLockAt}
use Rattle.rwlock.specs.declared.RwLockAt.TheVariants as A
use Rattle.rwlock.specs.RwLock.{try_read_top, try_read_of, may_read, read_top, stops_read, read_of, wake_rest, wake_top, read_unlock_of, try_write_top, try_write_of, write_unlock_of, downgrade_of, write_top, stops_write, write_of, wake_of, decide_of}
use Rattle.rwlock.specs.Positions.{weak_next, read_weak_next, try_weak_next, write_weak_next, may_wake, wake_may_wake, downgrade_may_wake}

read-strong : (at : ReadAt) (f g : Bool) (word : ℕ) → read_weak_next at ≡ false → read_of at f word ≡ read_of at g word
unfolding read_of read_weak_next
read-strong R.Load f g word e = refl
read-strong (R.Exchange seen) f g word e = cc
read-strong (R.Spin slept left) f g word e = refl
read-strong (R.ExchangeContended slept seen) f g word e = cc
read-strong (R.SetWaiting slept seen) f g word e = refl
read-strong (R.Wait seen) f g word e = refl

try-read-strong : (at : TryAt) (f g : Bool) (word : ℕ) → try_weak_next at ≡ false → try_read_of at f word ≡ try_read_of at g word
unfolding try_read_of try_weak_next
try-read-strong T.Load f g word e = refl
try-read-strong (T.Exchange seen) f g word e = cc

try-write-strong : (at : TryAt) (f g : Bool) (word : ℕ) → try_weak_next at ≡ false → try_write_of at f word ≡ try_write_of at g word
unfolding try_write_of try_weak_next
try-write-strong T.Load f g word e = refl
try-write-strong (T.Exchange seen) f g word e = cc

write-strong : (at : WriteAt) (f g : Bool) (word : ℕ) → write_weak_next at ≡ false → write_of at f word ≡ write_of at g word
unfolding write_of write_weak_next
write-strong Wr.Exchange f g word e = cc
write-strong (Wr.Spin others left) f g word e = refl
write-strong (Wr.ExchangeContended others seen) f g word e = cc
write-strong (Wr.SetWaiting others seen) f g word e = refl
write-strong Wr.LoadSequence f g word e = refl
write-strong (Wr.LoadState sequence) f g word e = refl
write-strong (Wr.Wait sequence) f g word e = refl

-- where no weak exchange is next, the choice decides nothing
pub strong : (at : RwLockAt) (f g : Bool) (word : ℕ) (a : Bool) → weak_next at ≡ false → decide_of at f word a ≡ decide_of at g word a
unfolding decide_of weak_next
strong (A.Read p) f g word a e = read-strong p f g word e
strong (A.TryRead p) f g word a e = try-read-strong p f g word e
strong A.ReadUnlock f g word a e = refl
strong (A.Write p) f g word a e = write-strong p f g word e
strong (A.TryWrite p) f g word a e = try-write-strong p f g word e
strong A.WriteUnlock f g word a e = refl
strong (A.Wake writer p) f g word a e = refl
strong (A.Downgrade p) f g word a e = refl

wake-quiet : (writer : Bool) (at : WakeAt) (word : ℕ) (a b : Bool) → wake_may_wake at ≡ false → wake_of writer at word a ≡ wake_of writer at word b
unfolding wake_of wake_may_wake
wake-quiet writer Wk.ExchangeWriters word a b e = refl
wake-quiet writer Wk.ExchangeBoth word a b e = refl
wake-quiet writer (Wk.Notify both) word a b e = refl
wake-quiet writer (Wk.WakeWriter both) word a b e = cc
wake-quiet writer Wk.ExchangeReaders word a b e = refl
wake-quiet writer Wk.WakeReaders word a b e = refl

-- where `may_wake` says no, the sleepers decide nothing
pub quiet : (at : RwLockAt) (f : Bool) (word : ℕ) (a b : Bool) → may_wake at ≡ false → decide_of at f word a ≡ decide_of at f word b
unfolding decide_of may_wake
quiet (A.Read p) f word a b e = refl
quiet (A.TryRead p) f word a b e = refl
quiet A.ReadUnlock f word a b e = refl
quiet (A.Write p) f word a b e = refl
quiet (A.TryWrite p) f word a b e = refl
quiet A.WriteUnlock f word a b e = refl
quiet (A.Wake writer p) f word a b e = wake-quiet writer p word a b e
quiet (A.Downgrade p) f word a b e = refl

abbrev Calm : Step RwLockAt → Type 0
Calm s = s.wake ≡ W.None

try-read-top-calm : (seen : ℕ) → Calm (try_read_top seen)
unfolding try_read_top
try-read-top-calm seen = either Calm (is_read_lockable seen) _ _ refl refl

try-write-top-calm : (seen : ℕ) → Calm (try_write_top seen)
unfolding try_write_top
try-write-top-calm seen = either Calm (is_unlocked seen) _ _ refl refl

read-top-calm : (slept : Bool) (seen : ℕ) → Calm (read_top slept seen)
unfolding read_top
read-top-calm slept seen =
    either Calm (may_read slept seen) _ _ refl
    (either Calm (has_reached_max_readers seen) _ _ refl (either Calm (has_readers_waiting seen) _ _ refl refl))

write-top-calm : (others : Bool) (seen : ℕ) → Calm (write_top others seen)
unfolding write_top
write-top-calm others seen = either Calm (is_unlocked seen) _ _ refl (either Calm (has_writers_waiting seen) _ _ refl refl)

wake-rest-calm : (writer : Bool) (seen : ℕ) (hold : Hold) → Calm (wake_rest writer seen hold)
unfolding wake_rest
wake-rest-calm writer seen hold =
    either Calm (eqb seen (READERS_WAITING + WRITERS_WAITING)) _ _ refl (either Calm (eqb seen READERS_WAITING) _ _ refl refl)

wake-top-calm : (writer : Bool) (seen : ℕ) (hold : Hold) → Calm (wake_top writer seen hold)
unfolding wake_top
wake-top-calm writer seen hold = either Calm (eqb seen WRITERS_WAITING) _ _ refl (wake-rest-calm writer seen hold)

read-calm : (at : ReadAt) (f : Bool) (word : ℕ) → Calm (read_of at f word)
unfolding read_of
read-calm R.Load f word = either Calm (is_read_lockable word) _ _ refl refl
read-calm (R.Exchange seen) f word = either Calm (exchanges word seen f) _ _ refl refl
read-calm (R.Spin slept left) f word = either Calm (stops_read word || eqb left 0) _ _ (read-top-calm slept word) refl
read-calm (R.ExchangeContended slept seen) f word = either Calm (exchanges word seen f) _ _ refl (read-top-calm slept word)
read-calm (R.SetWaiting slept seen) f word = either Calm (eqb word seen) _ _ refl (read-top-calm slept word)
read-calm (R.Wait seen) f word = either Calm (eqb word seen) _ _ refl refl

try-read-calm : (at : TryAt) (f : Bool) (word : ℕ) → Calm (try_read_of at f word)
unfolding try_read_of
try-read-calm T.Load f word = try-read-top-calm word
try-read-calm (T.Exchange seen) f word = either Calm (exchanges word seen f) _ _ refl (try-read-top-calm word)

try-write-calm : (at : TryAt) (f : Bool) (word : ℕ) → Calm (try_write_of at f word)
unfolding try_write_of
try-write-calm T.Load f word = try-write-top-calm word
try-write-calm (T.Exchange seen) f word = either Calm (exchanges word seen f) _ _ refl (try-write-top-calm word)

write-calm : (at : WriteAt) (f : Bool) (word : ℕ) → Calm (write_of at f word)
unfolding write_of
write-calm Wr.Exchange f word = either Calm (exchanges word 0 f) _ _ refl refl
write-calm (Wr.Spin others left) f word = either Calm (stops_write word || eqb left 0) _ _ (write-top-calm others word) refl
write-calm (Wr.ExchangeContended others seen) f word = either Calm (exchanges word seen f) _ _ refl (write-top-calm others word)
write-calm (Wr.SetWaiting others seen) f word = either Calm (eqb word seen) _ _ refl (write-top-calm others word)
write-calm Wr.LoadSequence f word = refl
write-calm (Wr.LoadState sequence) f word = either Calm (is_unlocked word || not (has_writers_waiting word)) _ _ (write-top-calm true word) refl
write-calm (Wr.Wait sequence) f word = either Calm (eqb word sequence) _ _ refl refl

read-unlock-calm : (word : ℕ) → Calm (read_unlock_of word)
unfolding read_unlock_of
read-unlock-calm word =
    let state : ℕ = read_unlocked word in
    either Calm (is_unlocked state && has_writers_waiting state) _ _ (wake-top-calm false state H.FreeRead) refl

write-unlock-calm : (word : ℕ) → Calm (write_unlock_of word)
unfolding write_unlock_of
write-unlock-calm word =
    let state : ℕ = write_unlocked word in
    either Calm (has_writers_waiting state || has_readers_waiting state) _ _ (wake-top-calm true state H.FreeWrite) refl

wake-calm : (writer : Bool) (at : WakeAt) (word : ℕ) (a : Bool) → wake_may_wake at ≡ false → Calm (wake_of writer at word a)
unfolding wake_of wake_may_wake
wake-calm writer Wk.ExchangeWriters word a e = either Calm (eqb word WRITERS_WAITING) _ _ refl (wake-rest-calm writer word H.Same)
wake-calm writer Wk.ExchangeBoth word a e = either Calm (eqb word (READERS_WAITING + WRITERS_WAITING)) _ _ refl refl
wake-calm writer (Wk.Notify both) word a e = refl
wake-calm writer (Wk.WakeWriter both) word a e = cc
wake-calm writer Wk.ExchangeReaders word a e = either Calm (eqb word READERS_WAITING) _ _ refl refl
wake-calm writer Wk.WakeReaders word a e = cc

downgrade-calm : (at : DowngradeAt) (word : ℕ) → downgrade_may_wake at ≡ false → Calm (downgrade_of at word)
unfolding downgrade_of downgrade_may_wake
downgrade-calm D.Add word e = either Calm (has_readers_waiting word) _ _ refl refl
downgrade-calm D.Subtract word e = refl
downgrade-calm D.WakeReaders word e = cc

-- where `may_wake` says no, a step wakes nobody
pub calm : (at : RwLockAt) (f : Bool) (word : ℕ) (a : Bool) → may_wake at ≡ false → (decide_of at f word a).wake ≡ W.None
unfolding decide_of may_wake
calm (A.Read p) f word a e = read-calm p f word
calm (A.TryRead p) f word a e = try-read-calm p f word
calm A.ReadUnlock f word a e = read-unlock-calm word
calm (A.Write p) f word a e = write-calm p f word
calm (A.TryWrite p) f word a e = try-write-calm p f word
calm A.WriteUnlock f word a e = write-unlock-calm word
calm (A.Wake writer p) f word a e = wake-calm writer p word a e
calm (A.Downgrade p) f word a e = downgrade-calm p word e

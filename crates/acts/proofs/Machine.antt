-- Every definition that an act passes through, so that a proof by computation opens them all by one name, `machine`. Nobody needs to
-- believe these names: each stands for what its line opens. Assumes nothing.
use Prim.Native.Nat.{ℕ}
use Rattle.words.specs.Atomic as Atomic
use Rattle.words.specs.Once as OnceWord
use Rattle.words.specs.Parker as ParkerWord
use Rattle.words.specs.RwLock as RwLockWord
use Rattle.queue.specs.Row as Row
use Rattle.mutex.specs.Mutex as Mutex
use Rattle.thread_parking.specs.ThreadParking as Parker
use Rattle.condvar.specs.Condvar as Condvar
use Rattle.once.specs.Once as Once
use Rattle.rwlock.specs.Positions as LockAt
use Rattle.rwlock.specs.RwLock as RwLock
use Rattle.calls.specs.Events as Events
use Rattle.calls.specs.Objects as Objects
use Rattle.calls.specs.Plans as Plans
use Rattle.calls.specs.Positions as Positions
use Rattle.world.specs.Holds as Holds
use Rattle.world.specs.World as World
use Rattle.step.specs.Acts as Stored
use Rattle.step.specs.Step as Step
use Rattle.sound.specs.Ranges as Ranges
use Rattle.sound.specs.Sound as Sound
use Rattle.acts.specs.Acts as Acts
use Rattle.acts.specs.Refusals as Refusals

unfoldable opens-atomic : ℕ
unfolding Atomic.wrapping_add Atomic.wrapping_sub Atomic.exchanges
opens-atomic = 0

unfoldable opens-once-word : ℕ
unfolding OnceWord.state_of OnceWord.is_queued
opens-once-word = 0

unfoldable opens-parker-word : ℕ
unfolding ParkerWord.less_one
opens-parker-word = 0

unfoldable opens-rw-lock-word : ℕ
unfolding RwLockWord.count RwLockWord.readers_waiting RwLockWord.writers_waiting RwLockWord.is_unlocked RwLockWord.is_write_locked RwLockWord.has_readers_waiting RwLockWord.has_writers_waiting RwLockWord.is_read_lockable RwLockWord.is_read_lockable_after_wakeup RwLockWord.has_reached_max_readers RwLockWord.with_write_locked RwLockWord.with_readers_waiting RwLockWord.with_writers_waiting
opens-rw-lock-word = 0

unfoldable opens_row : ℕ
unfolding Row.passing Row.queue_of Row.row_of Row.pushed Row.push_of Row.removed_at Row.removed Row.taken_out Row.take_out_of Row.place_of Row.without_of Row.occ Row.all_zero Row.is_tidy
opens_row = 0

unfoldable opens-mutex : ℕ
unfolding Mutex.entry_of Mutex.takes Mutex.lock_after_wait Mutex.contended Mutex.spun Mutex.lock_of Mutex.try_lock_of Mutex.unlock_of Mutex.decide_of Mutex.after_wait Mutex.operand_of Mutex.weak_next Mutex.lock_passed Mutex.passed_of Mutex.unlock_needs Mutex.needs_of Mutex.lock_waits Mutex.waits_of Mutex.unlock_may_wake Mutex.may_wake
opens-mutex = 0

unfoldable opens-parker : ℕ
unfolding Parker.entry_of Parker.park_after_wait Parker.park_of Parker.unpark_of Parker.decide_of Parker.after_wait Parker.operand_of Parker.parker_of Parker.weak_next Parker.passed_of Parker.needs_of Parker.park_waits Parker.waits_of Parker.unpark_may_wake Parker.may_wake
opens-parker = 0

unfoldable opens-condvar : ℕ
unfolding Condvar.entry_of Condvar.wait_after_wait Condvar.unlock_step Condvar.relock_step Condvar.wait_of Condvar.notify_of Condvar.decide_of Condvar.after_wait Condvar.wait_operand Condvar.operand_of Condvar.wait_object Condvar.object_of Condvar.mutex_of Condvar.weak_next Condvar.wait_passed Condvar.passed_of Condvar.wait_needs Condvar.needs_of Condvar.wait_waits Condvar.waits_of Condvar.wait_may_wake Condvar.notify_may_wake Condvar.may_wake
opens-condvar = 0

unfoldable opens-once : ℕ
unfolding Once.entry_of Once.queues Once.call_top Once.wait_top Once.drops_to Once.is_panicked Once.finishes Once.call_after_wait Once.wait_after_wait Once.call_of Once.wait_of Once.is_completed_of Once.decide_of Once.call_in_closure Once.in_closure Once.close_of Once.after_wait Once.operand_of Once.call_weak_next Once.wait_weak_next Once.weak_next Once.running_passed Once.call_passed Once.queued_passed Once.wait_passed Once.passed_of Once.needs_of Once.call_waits Once.wait_waits Once.waits_of Once.call_may_wake Once.may_wake
opens-once = 0

unfoldable opens-lock-at : ℕ
unfolding LockAt.after_wait LockAt.write_operand LockAt.wake_operand LockAt.operand_of LockAt.read_weak_next LockAt.try_weak_next LockAt.write_weak_next LockAt.weak_next LockAt.must_wait LockAt.read_waits LockAt.write_waits LockAt.read_passed LockAt.try_read_passed LockAt.write_passed LockAt.try_write_passed LockAt.passed_of LockAt.downgrade_needs LockAt.needs_of LockAt.read_wait_next LockAt.write_wait_next LockAt.waits_of LockAt.wake_may_wake LockAt.downgrade_may_wake LockAt.may_wake
opens-lock-at = 0

unfoldable opens-rw-lock : ℕ
unfolding RwLock.entry_of RwLock.read_after_wait RwLock.write_after_wait RwLock.try_read_top RwLock.try_read_of RwLock.may_read RwLock.read_top RwLock.stops_read RwLock.read_of RwLock.wake_rest RwLock.wake_top RwLock.read_unlock_of RwLock.try_write_top RwLock.try_write_of RwLock.write_unlock_of RwLock.downgrade_of RwLock.write_locked_with RwLock.write_top RwLock.stops_write RwLock.write_of RwLock.wake_of RwLock.decide_of
opens-rw-lock = 0

unfoldable opens-events : ℕ
unfolding Events.value_of Events.woken_of Events.tell_of
opens-events = 0

unfoldable opens-objects : ℕ
unfolding Objects.word_of
opens-objects = 0

unfoldable opens-plans : ℕ
unfolding Plans.moved Plans.slept Plans.done Plans.panicked Plans.entered Plans.plan_of Plans.decide_of
opens-plans = 0

unfoldable opens-positions : ℕ
unfolding Positions.entry_of Positions.mutex_call Positions.rwlock_call Positions.condvar_call Positions.once_call Positions.parker_call Positions.call_of Positions.operand_of Positions.after_wait Positions.waits_of Positions.may_wake Positions.weak_next Positions.passed_of Positions.is_idle Positions.in_closure Positions.need_of Positions.condvar_exists Positions.parker_exists Positions.exists
opens-positions = 0

unfoldable opens-world : ℕ
unfolding World.fresh_world World.sleeps_on
opens-world = 0

unfoldable opens-holds : ℕ
unfolding Holds.holds_mutex Holds.holds_write Holds.reads_of Holds.is_held Holds.has_hold
opens-holds = 0

unfoldable opens-stored : ℕ
unfolding Stored.recorded Stored.begin_of Stored.wake_of Stored.close_of
opens-stored = 0

unfoldable opens-step : ℕ
unfolding Step.rouse_all Step.wakes_of Step.own_plan Step.apply_plan Step.step_of
opens-step = 0

unfoldable opens-ranges : ℕ
unfolding Ranges.all_from Ranges.sum_from Ranges.count_from
opens-ranges = 0

unfoldable opens-sound : ℕ
unfolding Sound.word_for Sound.name_exists Sound.names_exist Sound.value_passed Sound.values_passed Sound.is_asleep Sound.stands_as Sound.sleeper_stands Sound.every_sleeper_stands Sound.asleep_count Sound.sleepers_stand Sound.mutex_in_range Sound.mutexes_in_range Sound.once_in_range Sound.onces_in_range Sound.words_in_range Sound.mutex_holders Sound.mutex_agrees Sound.mutexes_agree Sound.writers Sound.reads_held Sound.count_agrees Sound.lock_agrees Sound.locks_agree Sound.need_held Sound.needs_held Sound.thread_rests Sound.threads_rest Sound.nobody_sleeps Sound.mutex_rests Sound.mutexes_rest Sound.state_is_set Sound.lock_is_set Sound.locks_are_set Sound.once_is_set Sound.onces_are_set Sound.parker_rests Sound.parkers_rest Sound.set_alone Sound.started_or_set Sound.sound_world
opens-sound = 0

unfoldable opens-acts : ℕ
unfolding Acts.set_world Acts.set_of Acts.ending_of Acts.accepted_of Acts.acted_of Acts.act_of Acts.acts_of
opens-acts = 0

unfoldable opens-refusals : ℕ
unfolding Refusals.choices_of Refusals.set_unnamed_zero Refusals.object_if_named Refusals.value_if_named Refusals.begin_unnamed_zero Refusals.both_zero Refusals.unnamed_zero Refusals.set_exists Refusals.wait_exists Refusals.call_exists Refusals.object_exists Refusals.thread_exists Refusals.fields_refusal Refusals.set_refusal Refusals.begin_refusal Refusals.step_refusal Refusals.wake_refusal Refusals.close_refusal Refusals.world_refusal
opens-refusals = 0

unfoldable pub machine : ℕ
unfolding opens-atomic opens-once-word opens-parker-word opens-rw-lock-word opens_row opens-mutex opens-parker opens-condvar opens-once opens-lock-at opens-rw-lock opens-events opens-objects opens-plans opens-positions opens-world opens-holds opens-stored opens-step opens-ranges opens-sound opens-acts opens-refusals
machine = 0

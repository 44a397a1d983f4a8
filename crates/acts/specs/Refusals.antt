-- When an act is refused, and with which number: first by what the record's fields say alone, then by what the world says, each in
-- document 01's order. 0 stands for none. Assumes nothing.
use Rattle.std.specs.Prelude.{ℕ, ◌%◌, Bool, true, cond, not, ◌&&◌, ◌||◌, eqb, ltb, leb}
use Rattle.words.specs.RwLock.{MAX_READERS}
use Rattle.queue.specs.Row.{THREADS}
use Rattle.calls.specs.declared.At.{At}
use Rattle.calls.specs.declared.Thread.{Thread}
use Rattle.calls.specs.Objects.{MUTEXES, RWLOCKS, CONDVARS, ONCES}
use Rattle.calls.specs.Positions.{entry_of, need_of, weak_next, in_closure, is_idle}
use Rattle.world.specs.declared.World.{World}
use Rattle.world.specs.World.{thread_at}
use Rattle.world.specs.Holds.{has_hold}
use Rattle.acts.specs.declared.Fields.{Fields}

-- the acts
abbrev pub SET : ℕ
SET = 0

abbrev pub BEGIN : ℕ
BEGIN = 1

abbrev pub STEP : ℕ
STEP = 2

abbrev pub WAKE : ℕ
WAKE = 3

abbrev pub CLOSE : ℕ
CLOSE = 4

-- how many choices an act has; an act that is none has none
unfoldable pub choices_of : ℕ → ℕ
choices_of act =
    cond (eqb act SET) 4 (cond (eqb act BEGIN) 20 (cond (eqb act STEP) 2 (cond (eqb act WAKE) 1 (cond (eqb act CLOSE) 3 0))))

-- how many objects of each kind a record may name: all there are
abbrev pub named_mutexes : ℕ
named_mutexes = MUTEXES

abbrev pub named_locks : ℕ
named_locks = RWLOCKS

abbrev pub named_condvars : ℕ
named_condvars = CONDVARS

abbrev pub named_onces : ℕ
named_onces = ONCES

-- whether the fields that an act does not name are 0: set names no thread, and for choice 3 no value
unfoldable pub set_unnamed_zero : Fields → Bool
set_unnamed_zero a = eqb a.thread 0 && (not (eqb a.choice 3) || eqb a.value 0)

-- begin names an object, but for park, and a value for a condvar wait alone
unfoldable pub object_if_named : Fields → Bool
object_if_named a = not (eqb a.choice 18) || eqb a.object 0

unfoldable pub value_if_named : Fields → Bool
value_if_named a = eqb a.choice 10 || eqb a.value 0

unfoldable pub begin_unnamed_zero : Fields → Bool
begin_unnamed_zero a = object_if_named a && value_if_named a

-- the others neither
unfoldable pub both_zero : Fields → Bool
both_zero a = eqb a.object 0 && eqb a.value 0

unfoldable pub unnamed_zero : Fields → Bool
unnamed_zero a = cond (eqb a.act SET) (set_unnamed_zero a) (cond (eqb a.act BEGIN) (begin_unnamed_zero a) (both_zero a))

-- whether the object that a set or a call names exists, and the mutex in a condvar wait's value
unfoldable pub set_exists : ℕ → ℕ → Bool
set_exists choice object = cond (ltb choice 2) (ltb object named_locks) (cond (eqb choice 2) (ltb object named_condvars) (ltb object named_onces))

unfoldable pub wait_exists : ℕ → ℕ → Bool
wait_exists object value = ltb object named_condvars && ltb value named_mutexes

unfoldable pub call_exists : ℕ → ℕ → ℕ → Bool
call_exists call object value =
    cond (ltb call 3) (ltb object named_mutexes)
    (cond (ltb call 10) (ltb object named_locks)
    (cond (eqb call 10) (wait_exists object value)
    (cond (ltb call 13) (ltb object named_condvars)
    (cond (ltb call 18) (ltb object named_onces)
    (cond (eqb call 18) true (ltb object THREADS))))))

unfoldable pub object_exists : Fields → Bool
object_exists a =
    cond (eqb a.act SET) (set_exists a.choice a.object)
    (cond (eqb a.act BEGIN) (call_exists a.choice a.object a.value) true)

-- set names no thread
unfoldable pub thread_exists : Fields → Bool
thread_exists a = eqb a.act SET || ltb a.thread THREADS

-- the refusals that need only the record: act and choice, thread, unnamed fields, object
unfoldable pub fields_refusal : Fields → ℕ
fields_refusal a =
    cond (not (ltb a.choice (choices_of a.act))) 1
    (cond (not (thread_exists a)) 2
    (cond (not (unnamed_zero a)) 1
    (cond (not (object_exists a)) 3
    0)))

-- where a begin would start; the mutex of a condvar wait is the low byte of its value, which is all of it where that mutex exists
abbrev pub start_of : Fields → At
start_of a = entry_of a.choice a.object (a.value % 256)

-- the refusals that read the world
unfoldable pub set_refusal : World → ℕ → ℕ → ℕ
set_refusal w choice value = cond w.started 12 (cond (eqb choice 0 && not (leb value MAX_READERS)) 13 0)

unfoldable pub begin_refusal : World → Fields → ℕ
begin_refusal w a =
    cond (not (is_idle (thread_at w a.thread).at)) 4
    (cond (not (has_hold w.locked w.written w.reads a.thread (need_of (start_of a)))) 9
    0)

unfoldable pub step_refusal : Thread → ℕ → ℕ
step_refusal th choice =
    cond (is_idle th.at) 5
    (cond th.asleep 6
    (cond (in_closure th.at) 10
    (cond (eqb choice 1 && not (weak_next th.at)) 8
    0)))

unfoldable pub wake_refusal : Thread → ℕ
wake_refusal th = cond (is_idle th.at) 5 (cond th.asleep 0 7)

unfoldable pub close_refusal : Thread → ℕ
close_refusal th = cond (is_idle th.at) 5 (cond th.asleep 6 (cond (in_closure th.at) 0 11))

unfoldable pub world_refusal : World → Fields → ℕ
world_refusal w a =
    cond (eqb a.act SET) (set_refusal w a.choice a.value)
    (cond (eqb a.act BEGIN) (begin_refusal w a)
    (cond (eqb a.act STEP) (step_refusal (thread_at w a.thread) a.choice)
    (cond (eqb a.act WAKE) (wake_refusal (thread_at w a.thread))
    (close_refusal (thread_at w a.thread)))))

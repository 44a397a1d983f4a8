-- Every contract of this crate determines its result: any two results that it allows are equal. Assumes nothing.
use Rattle.std.proofs.Common.{ℕ, Bool, cond, eqb, Option, None, Some, ◌≡◌, refl, sym, ap, ◌∙◌}
use Rattle.words.specs.Determined.{Determined, determined}
use Rattle.calls.specs.declared.At.{At}
use Rattle.calls.specs.declared.Event.{Event}
use Rattle.words.specs.declared.Kind.{Kind}
use Rattle.words.specs.Found.{found}
use Rattle.calls.specs.declared.Call.{Call}
use Rattle.calls.specs.declared.Call.TheVariants as C
use Rattle.calls.specs.Calls.{number_of, told_call}
use Rattle.calls.specs.Objects.{WORDS, word_of}
use Rattle.calls.specs.Events.{value_of, woken_of, tell_of}
use Rattle.calls.specs.Plans.{decide_of}
use Rattle.calls.specs.Positions.{entry_of, call_of, operand_of, after_wait, waits_of, may_wake, weak_next, passed_of, is_idle, in_closure, need_of, exists}

pub word-number-determined : (kind : Kind) (object : ℕ) → Determined (found WORDS (word_of kind object))
word-number-determined kind object = determined (found WORDS (word_of kind object))

pub value-determined : (event : Event) → Determined (value_of event)
value-determined event = determined (value_of event)

pub woken-determined : (event : Event) → Determined (woken_of event)
woken-determined event = determined (woken_of event)

pub tell-determined : (event : Event) (count : ℕ) → Determined (tell_of event count)
tell-determined event count = determined (tell_of event count)

pub decide-determined : (at : At) (fails : Bool) (word : ℕ) (anyone : Bool) → Determined (decide_of at fails word anyone)
decide-determined at fails word anyone = determined (decide_of at fails word anyone)

pub entry-determined : (call : ℕ) (object : ℕ) (mutex : ℕ) → Determined (entry_of call object mutex)
entry-determined call object mutex = determined (entry_of call object mutex)

pub start-determined : (call : Call) (object : ℕ) (mutex : ℕ) → Determined (entry_of (number_of call) object mutex)
start-determined call object mutex = determined (entry_of (number_of call) object mutex)

-- the call with a number
named : ℕ → Option Call
named n =
    cond (eqb n 0) (Some C.Lock)
    (cond (eqb n 1) (Some C.TryLock)
    (cond (eqb n 2) (Some C.Unlock)
    (cond (eqb n 3) (Some C.Read)
    (cond (eqb n 4) (Some C.TryRead)
    (cond (eqb n 5) (Some C.ReadUnlock)
    (cond (eqb n 6) (Some C.Write)
    (cond (eqb n 7) (Some C.TryWrite)
    (cond (eqb n 8) (Some C.WriteUnlock)
    (cond (eqb n 9) (Some C.Downgrade)
    (cond (eqb n 10) (Some C.CondvarWait)
    (cond (eqb n 11) (Some C.NotifyOne)
    (cond (eqb n 12) (Some C.NotifyAll)
    (cond (eqb n 13) (Some C.OnceCall)
    (cond (eqb n 14) (Some C.OnceCallForce)
    (cond (eqb n 15) (Some C.OnceWait)
    (cond (eqb n 16) (Some C.OnceWaitForce)
    (cond (eqb n 17) (Some C.IsCompleted)
    (cond (eqb n 18) (Some C.Park)
    (cond (eqb n 19) (Some C.Unpark)
    None)))))))))))))))))))

named_told : (x : Option Call) → named (told_call x) ≡ x
unfolding named
named_told None = refl
named_told (Some C.Lock) = refl
named_told (Some C.TryLock) = refl
named_told (Some C.Unlock) = refl
named_told (Some C.Read) = refl
named_told (Some C.TryRead) = refl
named_told (Some C.ReadUnlock) = refl
named_told (Some C.Write) = refl
named_told (Some C.TryWrite) = refl
named_told (Some C.WriteUnlock) = refl
named_told (Some C.Downgrade) = refl
named_told (Some C.CondvarWait) = refl
named_told (Some C.NotifyOne) = refl
named_told (Some C.NotifyAll) = refl
named_told (Some C.OnceCall) = refl
named_told (Some C.OnceCallForce) = refl
named_told (Some C.OnceWait) = refl
named_told (Some C.OnceWaitForce) = refl
named_told (Some C.IsCompleted) = refl
named_told (Some C.Park) = refl
named_told (Some C.Unpark) = refl

-- the number told of a call fixes it
told_once : (x y : Option Call) → told_call x ≡ told_call y → x ≡ y
told_once x y e = sym (named_told x) ∙ ap named e ∙ named_told y

pub call-of-determined : (at : At) (x y : Option Call) → told_call x ≡ call_of at → told_call y ≡ call_of at → x ≡ y
call-of-determined at x y p q = told_once x y (p ∙ sym q)

pub operand-determined : (t : ℕ) (at : At) → Determined (found WORDS (operand_of t at))
operand-determined t at = determined (found WORDS (operand_of t at))

pub after-wait-determined : (at : At) → Determined (after_wait at)
after-wait-determined at = determined (after_wait at)

pub waits-determined : (at : At) → Determined (waits_of at)
waits-determined at = determined (waits_of at)

pub may-wake-determined : (at : At) → Determined (may_wake at)
may-wake-determined at = determined (may_wake at)

pub weak-next-determined : (at : At) → Determined (weak_next at)
weak-next-determined at = determined (weak_next at)

pub passed-determined : (at : At) → Determined (passed_of at)
passed-determined at = determined (passed_of at)

pub is-idle-determined : (at : At) → Determined (is_idle at)
is-idle-determined at = determined (is_idle at)

pub in-closure-determined : (at : At) → Determined (in_closure at)
in-closure-determined at = determined (in_closure at)

pub needs-determined : (at : At) → Determined (need_of at)
needs-determined at = determined (need_of at)

pub exists-determined : (at : At) → Determined (exists at)
exists-determined at = determined (exists at)

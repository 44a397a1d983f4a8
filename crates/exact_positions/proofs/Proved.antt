-- The second clause of soundness is exact: the sentences of specs/Exact.antt. Assumes nothing.
use mathlib.Core.Path.{◌≡◌, refl, sym}
use mathlib.Core.Bool.{Bool, true, false}
use Prim.Native.Nat.{ℕ, ◌^◌, ◌<◌}
use native.Mathlib.Omega.{arith}
use lib.Dec.{eqb}
use Rattle.words.proofs.Cond.{either}
use Rattle.mutex.specs.Mutex as Mx
use Rattle.rwlock.specs.RwLock as Rw
use Rattle.condvar.specs.Condvar as Cv
use Rattle.once.specs.declared.Ending.{Ending}
use Rattle.once.specs.Once as On
use Rattle.thread_parking.specs.ThreadParking as Pk
use Rattle.calls.specs.declared.At.{At}
use Rattle.calls.specs.declared.At.TheVariants as A
use Rattle.calls.specs.Plans.{decide_of}
use Rattle.calls.specs.Positions.{entry_of, after_wait, passed_of}
use Rattle.step.specs.Acts.{closed_at}
use Rattle.kept.specs.Laws.{kind_of}
use Rattle.kept.proofs.Calls.{passed-within, largest-wide}
use Rattle.kept.proofs.Waits.{passed-after-wait, passed-closed}
use Rattle.kept.proofs.Entries.{passed_entry}
use Rattle.exact_positions.specs.Exact.{PassesBy, Passes, Led, begun, stepped, woken, closed, Exact, Least, Only, ExactModules, carries, read_carries, try_carries, write_carries, rwlock_carries, wait_carries, condvar_carries, call_carries, once_wait_carries, once_carries}
use Rattle.exact_positions.proofs.Starts.{idle-led}
use Rattle.exact_positions.proofs.MutexLed.{mutex-led}
use Rattle.exact_positions.proofs.ParkerLed.{parker-led}
use Rattle.exact_positions.proofs.CondvarLed.{condvar-led}
use Rattle.exact_positions.proofs.OnceLed.{once-led}
use Rattle.exact_positions.proofs.RwLockLed.{rwlock-led}
use Rattle.exact_positions.proofs.Width.{step-wide, after-wait-wide, closed-wide, once-small}

-- at the start of a call no word is carried
entry-wide : (call object mutex : ℕ) → carries (entry_of call object mutex) < 2 ^ 32
unfolding entry_of Mx.entry_of Rw.entry_of Cv.entry_of On.entry_of Pk.entry_of carries rwlock_carries read_carries try_carries write_carries condvar_carries wait_carries once_carries call_carries once_wait_carries
entry-wide call object mutex =
    let none : 0 < 2 ^ 32 = omega arith in
    either (λ (at : At). carries at < 2 ^ 32) (eqb call 0) _ _ none
    (either (λ (at : At). carries at < 2 ^ 32) (eqb call 1) _ _ none
    (either (λ (at : At). carries at < 2 ^ 32) (eqb call 2) _ _ none
    (either (λ (at : At). carries at < 2 ^ 32) (eqb call 3) _ _ none
    (either (λ (at : At). carries at < 2 ^ 32) (eqb call 4) _ _ none
    (either (λ (at : At). carries at < 2 ^ 32) (eqb call 5) _ _ none
    (either (λ (at : At). carries at < 2 ^ 32) (eqb call 6) _ _ none
    (either (λ (at : At). carries at < 2 ^ 32) (eqb call 7) _ _ none
    (either (λ (at : At). carries at < 2 ^ 32) (eqb call 8) _ _ none
    (either (λ (at : At). carries at < 2 ^ 32) (eqb call 9) _ _ none
    (either (λ (at : At). carries at < 2 ^ 32) (eqb call 10) _ _ none
    (either (λ (at : At). carries at < 2 ^ 32) (eqb call 11) _ _ none
    (either (λ (at : At). carries at < 2 ^ 32) (eqb call 12) _ _ none
    (either (λ (at : At). carries at < 2 ^ 32) (eqb call 13) _ _ none
    (either (λ (at : At). carries at < 2 ^ 32) (eqb call 14) _ _ none
    (either (λ (at : At). carries at < 2 ^ 32) (eqb call 15) _ _ none
    (either (λ (at : At). carries at < 2 ^ 32) (eqb call 16) _ _ none
    (either (λ (at : At). carries at < 2 ^ 32) (eqb call 17) _ _ none
    (either (λ (at : At). carries at < 2 ^ 32) (eqb call 18) _ _ none
    (either (λ (at : At). carries at < 2 ^ 32) (eqb call 19) _ _ none
    none)))))))))))))))))))

closed-passed : (ending : Ending) (at : At) → passed_of at ≡ true → passed_of (closed_at ending at) ≡ true
closed-passed ending A.Idle e = e
closed-passed ending (A.Mutex m p) e = e
closed-passed ending (A.RwLock l p) e = e
closed-passed ending (A.Condvar c p) e = e
closed-passed ending (A.Once o p) e = passed-closed ending o p e
closed-passed ending (A.Parker p) e = e

-- what an act leads to from a position that passes does pass
led-passes : (at : At) → Led Passes at → Passes at
led-passes at (begun call object mutex h) = record { passed = passed_entry call object mutex; wide = entry-wide call object mutex }
led-passes at (stepped from choice word anyone p r h) =
    let e : passed_of (decide_of from (eqb choice 1) word anyone).next.at ≡ true = passed-within from (eqb choice 1) word anyone p.passed h in
    record { passed = e; wide = step-wide from (eqb choice 1) word anyone (omega (arith, largest-wide (kind_of from))) p.wide e }
led-passes at (woken from p w r) =
    let e : passed_of (after_wait from) ≡ true = passed-after-wait from p.passed in
    record { passed = e; wide = after-wait-wide from p.wide e }
led-passes at (closed ending from p r) =
    let e : passed_of (closed_at ending from) ≡ true = closed-passed ending from p.passed in
    record { passed = e; wide = closed-wide ending from p.wide e }

-- 2. what passes is led to from the start of a call
pub least : Least passed_of
unfolding passed_of carries
least P led A.Idle p = idle-led P led
least P led (A.Mutex m q) p = mutex-led P led m q p.passed
least P led (A.RwLock l q) p = rwlock-led P led l q p.passed p.wide
least P led (A.Condvar c q) p = condvar-led P led c q p.passed p.wide
least P led (A.Once o q) p = once-led P led o q p.passed
least P led (A.Parker q) p = parker-led P led q

-- what is led to from where Q holds is led to from where R holds, if R holds wherever Q does
wider : {Q R : At → Type 0} → ((at : At) → Q at → R at) → (at : At) → Led Q at → Led R at
wider f at (begun call object mutex h) = begun call object mutex h
wider f at (stepped from choice word anyone p r h) = stepped from choice word anyone (f from p) r h
wider f at (woken from p w r) = woken from (f from p) w r
wider f at (closed ending from p r) = closed ending from (f from p) r

-- 1. so the last act of those that lead to it leads to it from a position that passes
pub exact : Exact passed_of
exact at = (least (Led Passes) (λ at l. wider led-passes at l) at, led-passes at)

-- 3. each of the two sets is within the other
same_test : (a b : Bool) → (a ≡ true → b ≡ true) → (b ≡ true → a ≡ true) → a ≡ b
same_test true b f g = sym (f refl)
same_test false true f g = g refl
same_test false false f g = refl

pub only : Only
only test is-exact is-least at h =
    same_test (test at) (passed_of at)
    (λ e. (is-least Passes led-passes at (record { passed = e; wide = h })).passed)
    (λ e. (least (PassesBy test) (λ at l. (is-exact at).1 l) at (record { passed = e; wide = h })).passed)

-- 4.
pub exact-modules : ExactModules
unfolding passed_of carries
exact-modules = record {
  mutex = λ m p. (λ e. (exact (A.Mutex m p)).0 (record { passed = e; wide = omega arith }), λ l. (led-passes (A.Mutex m p) l).passed);
  rwlock = λ l p h. (λ e. (exact (A.RwLock l p)).0 (record { passed = e; wide = h }), λ x. (led-passes (A.RwLock l p) x).passed);
  condvar = λ c p h. (λ e. (exact (A.Condvar c p)).0 (record { passed = e; wide = h }), λ x. (led-passes (A.Condvar c p) x).passed);
  once = λ o p. (λ e. (exact (A.Once o p)).0 (record { passed = e; wide = omega (arith, once-small p e) }), λ x. (led-passes (A.Once o p) x).passed);
  parker = λ p. (λ e. (exact (A.Parker p)).0 (record { passed = e; wide = omega arith }), λ x. (led-passes (A.Parker p) x).passed);
}

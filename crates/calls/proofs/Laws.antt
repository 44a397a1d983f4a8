-- Over all modules: a step looks at the choice only where a weak exchange is next, at the sleepers only where it may wake some, and
-- wakes nobody elsewhere; and a call just begun is in the call of that number. Assumes nothing.
use mathlib.Core.Path.{◌≡◌, refl}
use mathlib.Core.Bool.{Bool, false}
use mathlib.Core.List.{List, [], ◌∷◌, map}
use Prim.Native.Nat.{ℕ}
use Rattle.words.specs.Parker.{PARKED}
use Rattle.words.specs.declared.Wake.TheVariants as W
use Rattle.words.specs.declared.Next.{Next}
use Rattle.words.specs.declared.Next.TheVariants as Nx
use Rattle.words.specs.declared.Step.{Step}
use Rattle.words.specs.Steps.{map_step}
use Rattle.mutex.specs.Mutex as Mx
use Rattle.mutex.proofs.Laws as MxL
use Rattle.rwlock.specs.RwLock as Rw
use Rattle.rwlock.proofs.Laws as RwL
use Rattle.condvar.specs.Condvar as Cv
use Rattle.condvar.proofs.Laws as CvL
use Rattle.once.specs.Once as On
use Rattle.once.proofs.Laws as OnL
use Rattle.thread_parking.specs.ThreadParking as Pk
use Rattle.thread_parking.proofs.Laws as PkL
use Rattle.calls.specs.declared.At.{At}
use Rattle.calls.specs.declared.At.TheVariants as A
use Rattle.calls.specs.Plans.{moved, slept, done, panicked, entered, plan_next, plan_of, decide_of}
use Rattle.calls.specs.Positions.{entry_of, call_of, mutex_call, rwlock_call, condvar_call, once_call, parker_call, weak_next, may_wake}

-- a plan wakes whom its step wakes
plan-wake : (at : At) (object : ℕ) (s : Step At) → (plan_of at object s).wake ≡ s.wake
unfolding plan_of moved slept done panicked entered
plan-wake at object s = by s.next
  where
    by : (n : Next At) → (plan_next at object s.word s.hold s.wake n).wake ≡ s.wake
    by (Nx.Moved q) = refl
    by Nx.Asleep = refl
    by (Nx.Ended value) = refl
    by (Nx.Panics panic) = refl
    by (Nx.Closure q) = refl

-- where `may_wake` says no, a step wakes nobody
pub calm : (at : At) (f : Bool) (word : ℕ) (a : Bool) → may_wake at ≡ false → (decide_of at f word a).wake ≡ W.None
unfolding decide_of may_wake moved
calm A.Idle f word a e = refl
calm (A.Mutex m p) f word a e = rw (plan-wake (A.Mutex m p) m (map_step (A.Mutex m) (Mx.decide_of p f word a))) (MxL.calm p f word a e)
calm (A.RwLock l p) f word a e = rw (plan-wake (A.RwLock l p) l (map_step (A.RwLock l) (Rw.decide_of p f word a))) (RwL.calm p f word a e)
calm (A.Condvar c p) f word a e = rw (plan-wake (A.Condvar c p) (Cv.object_of c p) (map_step (A.Condvar c) (Cv.decide_of p f word a))) (CvL.calm p f word a e)
calm (A.Once o p) f word a e = rw (plan-wake (A.Once o p) 0 (map_step (A.Once o) (On.decide_of p f word a))) (OnL.calm p f word a e)
calm (A.Parker p) f word a e = rw (plan-wake (A.Parker p) 0 (map_step A.Parker (Pk.decide_of PARKED p f word a))) (PkL.calm PARKED p f word a e)

-- .. and the sleepers decide nothing
pub quiet : (at : At) (f : Bool) (word : ℕ) (a b : Bool) → may_wake at ≡ false → decide_of at f word a ≡ decide_of at f word b
unfolding decide_of may_wake
quiet A.Idle f word a b e = refl
quiet (A.Mutex m p) f word a b e = rw (MxL.plain p f f word a b)
quiet (A.RwLock l p) f word a b e = rw (RwL.quiet p f word a b e)
quiet (A.Condvar c p) f word a b e = rw (CvL.plain p f f word a b)
quiet (A.Once o p) f word a b e = rw (OnL.quiet p f word a b)
quiet (A.Parker p) f word a b e = rw (PkL.plain PARKED p f f word a b)

-- where no weak exchange is next, the choice decides nothing
pub strong : (at : At) (f g : Bool) (word : ℕ) (a : Bool) → weak_next at ≡ false → decide_of at f word a ≡ decide_of at g word a
unfolding decide_of weak_next
strong A.Idle f g word a e = refl
strong (A.Mutex m p) f g word a e = rw (MxL.plain p f g word a a)
strong (A.RwLock l p) f g word a e = rw (RwL.strong p f g word a e)
strong (A.Condvar c p) f g word a e = rw (CvL.plain p f g word a a)
strong (A.Once o p) f g word a e = rw (OnL.strong p f g word a e)
strong (A.Parker p) f g word a e = rw (PkL.plain PARKED p f g word a a)

abbrev numbers : List ℕ
numbers = 0 ∷ 1 ∷ 2 ∷ 3 ∷ 4 ∷ 5 ∷ 6 ∷ 7 ∷ 8 ∷ 9 ∷ 10 ∷ 11 ∷ 12 ∷ 13 ∷ 14 ∷ 15 ∷ 16 ∷ 17 ∷ 18 ∷ 19 ∷ []

-- a call just begun is the call of that number, for each number, object and mutex
pub begun : (object mutex : ℕ) → map (λ n. call_of (entry_of n object mutex)) numbers ≡ numbers
unfolding entry_of call_of mutex_call rwlock_call condvar_call once_call parker_call Mx.entry_of Rw.entry_of Cv.entry_of On.entry_of Pk.entry_of
begun object mutex = refl

-- The premise of fewer than 2 ^ 32 notifications is needed: a list of acts that gives just so many, after which a writer sleeps on a lock that
-- nobody holds and all others are idle. Assumes nothing.
use mathlib.Core.Path.{◌≡◌, refl, sym, ap, subst, ◌∙◌}
use mathlib.Core.Logic.{◌≢◌}
use mathlib.Core.Bool.{Bool, true, false, cond}
use mathlib.Core.List.{List, [], ◌∷◌, ◌++◌}
use Prim.Native.Nat.{ℕ, zero, suc, ◌+◌, ◌-◌, ◌%◌, ◌^◌, ◌<◌}
use native.Mathlib.Omega.{arith}
use lib.Dec.{T, ltb, lit<}
use borrow.Author.Tests.{ltb-true}
use Rattle.queue.specs.Row.{THREADS}
use Rattle.calls.specs.Plans.{idle}
use Rattle.calls.specs.Positions.{is_idle}
use Rattle.world.specs.declared.World.{World}
use Rattle.world.specs.World.{fresh_world, thread_at}
use Rattle.world.specs.Holds.{LOCKHOLDS, lock_slot}
use Rattle.acts.specs.declared.Fields.{Fields}
use Rattle.acts.specs.Acts.{act_of, acts_of, Sized, no-act, one-act}
use Rattle.claims.specs.Claims.{Mark, TablesTold, LockFree, SleepsOnLock, in-write, PremiseNeeded, reached, history, notifications_from, notifications}
use Rattle.claims.proofs.Proved.{demand-three}
use Rattle.claims_examples.specs.Machine.{machine}
use Rattle.claims_examples.specs.Lists.{step, standing, sleeping, round, rounds, setup, overrun}
use Rattle.claims_examples.proofs.Everywhere.{same-everywhere}

-- ---- The parts, computed

pub one-round : (sequence n : ℕ) → acts_of (standing sequence n) round ≡ standing sequence ((n + 1) % 2 ^ 32)
unfolding machine standing round
one-round sequence n = refl

pub one-notified : (sequence n : ℕ) → notifications_from (standing sequence n) round 0 ≡ 1
unfolding machine standing round
one-notified sequence n = refl

pub set-up : (reached setup ≡ standing 0 1) × (notifications setup 0 ≡ 1)
unfolding machine standing setup
set-up = (refl, refl)

-- with the sequence that it carries on the word again, thread 0 sleeps
pub last_step : (acts_of (standing 0 0) (step 0 ∷ []) ≡ sleeping) × (notifications_from (standing 0 0) (step 0 ∷ []) 0 ≡ 0)
unfolding machine standing sleeping
last_step = (refl, refl)

pub sleeping-sleeps : SleepsOnLock sleeping 0 0
unfolding machine sleeping
sleeping-sleeps = in-write {sequence = 0} refl refl

-- ---- One list behind another

acts-append : (w : World) (a b : List Fields) → acts_of w (a ++ b) ≡ acts_of (acts_of w a) b
unfolding acts_of
acts-append w [] b = refl
acts-append w (x ∷ a) b = acts-append (act_of w x).world a b

notifications-append :
    (w : World) (a b : List Fields) (lock : ℕ) → notifications_from w (a ++ b) lock ≡ notifications_from w a lock + notifications_from (acts_of w a) b lock
unfolding acts_of notifications_from
notifications-append w [] b lock = omega arith
notifications-append w (x ∷ a) b lock =
    let rest : notifications_from (act_of w x).world (a ++ b) lock
    ≡ notifications_from (act_of w x).world a lock + notifications_from (acts_of (act_of w x).world a) b lock
    = notifications-append (act_of w x).world a b lock in
    omega arith

sized-append : {a b : List Fields} → Sized a → Sized b → Sized (a ++ b)
sized-append no-act s = s
sized-append (one-act h r) s = one-act h (sized-append r s)

-- every value has 32 bits, as a test
abbrev small : List Fields → Bool
small [] = true
small (a ∷ acts) = cond (ltb a.value (2 ^ 32)) (small acts) false

sized-one :
    (a : Fields) (acts : List Fields) (b : Bool) → ltb a.value (2 ^ 32) ≡ b → (T (small acts) → Sized acts) → T (cond b (small acts) false) →
    Sized (a ∷ acts)
sized-one a acts true e rest h = one-act (ltb-true _ _ e) (rest h)
sized-one a acts false e rest h = absurd h

sized : (acts : List Fields) → T (small acts) → Sized acts
sized [] h = no-act
sized (a ∷ acts) h = sized-one a acts (ltb a.value (2 ^ 32)) refl (sized acts) h

-- ---- So many rounds

pub rounds-run : (sequence n k : ℕ) → n < 2 ^ 32 → acts_of (standing sequence n) (rounds k) ≡ standing sequence ((n + k) % 2 ^ 32)
unfolding acts_of rounds
rounds-run sequence n zero h = let e : n ≡ (n + 0) % 2 ^ 32 = omega arith in ap (standing sequence) e
rounds-run sequence n (suc k) h =
    let small : (n + 1) % 2 ^ 32 < 2 ^ 32 = omega arith in
    let e : ((n + 1) % 2 ^ 32 + k) % 2 ^ 32 ≡ (n + suc k) % 2 ^ 32 = omega arith in
    acts-append (standing sequence n) round (rounds k)
    ∙ ap (λ (w : World). acts_of w (rounds k)) (one-round sequence n)
    ∙ rounds-run sequence ((n + 1) % 2 ^ 32) k small
    ∙ ap (standing sequence) e

pub rounds-notified : (sequence n k : ℕ) → notifications_from (standing sequence n) (rounds k) 0 ≡ k
unfolding rounds notifications_from
rounds-notified sequence n zero = refl
rounds-notified sequence n (suc k) =
    let all = notifications-append (standing sequence n) round (rounds k) 0 in
    let first = one-notified sequence n in
    let rest : notifications_from (acts_of (standing sequence n) round) (rounds k) 0 ≡ k
    = ap (λ (w : World). notifications_from w (rounds k) 0) (one-round sequence n) ∙ rounds-notified sequence ((n + 1) % 2 ^ 32) k in
    omega arith

sized-rounds : (k : ℕ) → Sized (rounds k)
unfolding round rounds
sized-rounds zero = no-act
sized-rounds (suc k) = sized-append (sized round tt) (sized-rounds k)

sized-overrun : (k : ℕ) → Sized (overrun k)
unfolding setup overrun
sized-overrun k = sized-append (sized setup tt) (sized-append (sized-rounds k) (sized (step 0 ∷ []) tt))

-- ---- As many rounds as bring writer_notify back: their number stays a variable, so that no check lays them out

module _ (k : ℕ) (wraps : 1 + k ≡ 2 ^ 32) where
  rounds-wrap : acts_of (standing 0 1) (rounds k) ≡ standing 0 0
  rounds-wrap =
      let e : (1 + k) % 2 ^ 32 ≡ 0 = omega arith in
      rounds-run 0 1 k (lit< tt) ∙ ap (standing 0) e

  reached-sleeping : reached (overrun k) ≡ sleeping
  unfolding overrun
  reached-sleeping =
      acts-append fresh_world setup (rounds k ++ (step 0 ∷ []))
      ∙ ap (λ (w : World). acts_of w (rounds k ++ (step 0 ∷ []))) set-up.0
      ∙ acts-append (standing 0 1) (rounds k) (step 0 ∷ [])
      ∙ ap (λ (w : World). acts_of w (step 0 ∷ [])) rounds-wrap
      ∙ last_step.0

  notified-all : notifications (overrun k) 0 ≡ 2 ^ 32
  unfolding overrun
  notified-all =
      let tail : List Fields = step 0 ∷ [] in
      let all : notifications (setup ++ (rounds k ++ tail)) 0 ≡ notifications setup 0 + notifications_from (reached setup) (rounds k ++ tail) 0
      = notifications-append fresh_world setup (rounds k ++ tail) 0 in
      let first = set-up.1 in
      let from : notifications_from (reached setup) (rounds k ++ tail) 0 ≡ notifications_from (standing 0 1) (rounds k ++ tail) 0
      = ap (λ (w : World). notifications_from w (rounds k ++ tail) 0) set-up.0 in
      let middle = notifications-append (standing 0 1) (rounds k) tail 0 in
      let many = rounds-notified 0 1 k in
      let none : notifications_from (acts_of (standing 0 1) (rounds k)) tail 0 ≡ 0
      = ap (λ (w : World). notifications_from w tail 0) rounds-wrap ∙ last_step.1 in
      omega arith

-- the tables of that world have no hold, and the history is theirs
sleeping-free : (h : List Mark) → TablesTold sleeping h → LockFree 0 h
unfolding machine sleeping
sleeping-free h told = record {
  no-writer = λ t small.
      sym (told.writes t 0 small (lit< tt)) ∙ ap (λ (b : Bool). cond b 1 0) (same-everywhere LOCKHOLDS (lock_slot t 0) false);
  no_reader = λ t small. sym (told.reads t 0 small (lit< tt)) ∙ same-everywhere LOCKHOLDS (lock_slot t 0) 0;
  none-forgotten = sym (told.forgotten 0 (lit< tt));
}

sleeping-idle : (u : ℕ) → u ≢ 0 → is_idle (thread_at sleeping u).at ≡ true
unfolding machine sleeping
sleeping-idle zero away = absurd (away refl)
sleeping-idle (suc u) away = ap (λ th. is_idle th.at) (same-everywhere (THREADS - 1) u idle)

needed : (k : ℕ) → 1 + k ≡ 2 ^ 32 → PremiseNeeded
needed k wraps =
    let e = reached-sleeping k wraps in
    record {
      acts = overrun k;
      sized = sized-overrun k;
      lock = 0;
      is-lock = lit< tt;
      many = notified-all k wraps;
      t = 0;
      sleeps = subst (λ (w : World). SleepsOnLock w 0 0) (sym e) sleeping-sleeps;
      free = sleeping-free (history (overrun k))
          (subst (λ (w : World). TablesTold w (history (overrun k))) e (demand-three (overrun k) (sized-overrun k)).tables);
      others-idle = λ u away. subst (λ (w : World). is_idle (thread_at w u).at ≡ true) (sym e) (sleeping-idle u away);
    }

-- 6. the premise is needed
pub premise-needed : PremiseNeeded
premise-needed = needed (2 ^ 32 - 1) refl

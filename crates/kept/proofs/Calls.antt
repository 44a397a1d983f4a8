-- What one step keeps, over all modules: each law by itself, from a position, a choice, the word and whether somebody sleeps on it.
-- Assumes nothing.
use mathlib.Core.Path.{◌≡◌, refl, sym, ap, ◌∙◌, subst}
use mathlib.Core.Logic.{◌⊎◌, inl, inr, ◌≢◌}
use mathlib.Core.Bool.{Bool, true}
use Prim.Native.Nat.{ℕ, ◌^◌, ◌≤◌, ◌<◌}
use native.Mathlib.Omega.{arith}
use Rattle.words.specs.declared.Hold.{Hold}
use Rattle.words.specs.declared.Hold.TheVariants as H
use Rattle.words.specs.declared.Kind.{Kind}
use Rattle.words.specs.declared.Kind.TheVariants as K
use Rattle.words.specs.declared.Needs.TheVariants as N
use Rattle.words.specs.declared.Wake.TheVariants as W
use Rattle.calls.specs.declared.At.{At}
use Rattle.calls.specs.declared.At.TheVariants as A
use Rattle.calls.specs.Objects.{word_of}
use Rattle.calls.specs.Plans.{decide_of}
use Rattle.calls.specs.Positions.{call_of, exists, need_of, operand_of, passed_of}
use Rattle.kept.specs.Laws.{EveryStep, Sleeps, Goes, ended, Did, MutexDid, RwLockDid, asks, held_kind, kind_of, object_of, largest}
use Rattle.kept.proofs.Laws.{stores_same, kept_on}
use Rattle.kept.proofs.Places.{goes-call, goes-exists, operand-is}
use Rattle.kept.proofs.Mutex.{mutex-kept}
use Rattle.kept.proofs.RwLock.{rwlock-kept}
use Rattle.kept.proofs.Condvar.{condvar-kept}
use Rattle.kept.proofs.Once.{once-kept}
use Rattle.kept.proofs.Parker.{parker-kept}

-- all laws at once
pub kept : EveryStep
unfolding decide_of passed_of need_of
kept A.Idle f word a = kept_on A.Idle word word A.Idle 0 W.None ended (λ _ _ _. refl) (stores_same A.Idle word) (inl refl)
kept (A.Mutex m p) f word a = mutex-kept m word p f a
kept (A.RwLock l p) f word a = rwlock-kept l word p f a
kept (A.Condvar c p) f word a = condvar-kept c word p f a
kept (A.Once o p) f word a = once-kept o word p f a
kept (A.Parker p) f word a = parker-kept word p f a

-- every largest value has 32 bits
pub largest-wide : (kind : Kind) → largest kind < 2 ^ 32
unfolding largest
largest-wide K.Nothing = omega arith
largest-wide K.Mutex = omega arith
largest-wide K.RwLock = omega arith
largest-wide K.WriterNotify = omega arith
largest-wide K.Condvar = omega arith
largest-wide K.Once = omega arith
largest-wide K.Parker = omega arith

module _ (at : At) (f : Bool) (word : ℕ) (a : Bool) where
  -- the values carried have passed the tests that lead to where they are carried
  pub passed-kept : passed_of at ≡ true → word < 2 ^ 32 → (kind_of at ≡ K.Once → word ≤ 7) → passed_of (decide_of at f word a).next.at ≡ true
  passed-kept = (kept at f word a).passes

  -- .. from a word within its bounds
  pub passed-within : passed_of at ≡ true → word ≤ largest (kind_of at) → passed_of (decide_of at f word a).next.at ≡ true
  unfolding largest
  passed-within e h = passed-kept e (omega (arith, largest-wide (kind_of at))) (λ k. subst (λ (x : Kind). word ≤ largest x) k h)

  -- the call goes on, on the same objects, or ends
  pub goes : Goes at (decide_of at f word a).next.at
  goes = (kept at f word a).goes

  pub call_kept : ((decide_of at f word a).next.at ≡ A.Idle) ⊎ (call_of (decide_of at f word a).next.at ≡ call_of at)
  call_kept = goes-call goes

  pub exists-kept : exists at ≡ true → exists (decide_of at f word a).next.at ≡ true
  exists-kept = goes-exists goes

  -- a thread falls asleep only at a futex_wait, stays there, and changes nothing else
  pub sleeping : (decide_of at f word a).next.asleep ≡ true → Sleeps at word (decide_of at f word a)
  sleeping = (kept at f word a).sleeps

  -- words stay within 32 bits, and within the bounds of their kind
  pub word_wide : word < 2 ^ 32 → (decide_of at f word a).word < 2 ^ 32
  word_wide = (kept at f word a).stores.wide

  pub word_kept : passed_of at ≡ true → word ≤ largest (kind_of at) → (decide_of at f word a).word ≤ largest (kind_of at)
  word_kept e = (kept at f word a).stores.small (λ _. e)

  pub mutex-word : kind_of at ≡ K.Mutex → word ≤ 2 → (decide_of at f word a).word ≤ 2
  unfolding largest
  mutex-word k h =
      subst (λ (x : Kind). (decide_of at f word a).word ≤ largest x) k
      ((kept at f word a).stores.small (λ e. mutex-once (sym k ∙ e)) (subst (λ (x : Kind). word ≤ largest x) (sym k) h))
    where
      mutex-once : {P : Type 0} → K.Mutex ≡ K.Once → P
      mutex-once e = let z : ◌≡◌ {A = ℕ} 0 1 = cc in absurd (omega arith)

  pub once-word : kind_of at ≡ K.Once → passed_of at ≡ true → word ≤ 7 → (decide_of at f word a).word ≤ 7
  unfolding largest
  once-word k e h =
      subst (λ (x : Kind). (decide_of at f word a).word ≤ largest x) k (word_kept e (subst (λ (x : Kind). word ≤ largest x) (sym k) h))

  -- a hold changes only with its word
  pub holds : passed_of at ≡ true → word < 2 ^ 32 → Did (kind_of at) word (decide_of at f word a).hold (decide_of at f word a).word
  holds e h = (kept at f word a).stores.did (λ _. (e, h))

  pub mutex-holds : kind_of at ≡ K.Mutex → MutexDid word (decide_of at f word a).hold (decide_of at f word a).word
  unfolding Did
  mutex-holds k =
      subst (λ (x : Kind). Did x word (decide_of at f word a).hold (decide_of at f word a).word) k
      ((kept at f word a).stores.did (λ e. mutex-lock (sym k ∙ e)))
    where
      mutex-lock : {P : Type 0} → K.Mutex ≡ K.RwLock → P
      mutex-lock e = let z : ◌≡◌ {A = ℕ} 0 1 = cc in absurd (omega arith)

  pub rwlock-holds :
      kind_of at ≡ K.RwLock → passed_of at ≡ true → word < 2 ^ 32 → RwLockDid word (decide_of at f word a).hold (decide_of at f word a).word
  unfolding Did
  rwlock-holds k e h = subst (λ (x : Kind). Did x word (decide_of at f word a).hold (decide_of at f word a).word) k (holds e h)

  -- words of the other kinds say nothing of holds
  pub holds-none : kind_of at ≢ K.Mutex → kind_of at ≢ K.RwLock → (decide_of at f word a).hold ≡ H.Same
  unfolding Did
  holds-none m r = by (kind_of at) m r ((kept at f word a).stores.did (λ e. absurd (r e)))
    where
      by : (kind : Kind) → kind ≢ K.Mutex → kind ≢ K.RwLock → Did kind word (decide_of at f word a).hold (decide_of at f word a).word → (decide_of at f word a).hold ≡ H.Same
      by K.Nothing m r d = d
      by K.Mutex m r d = absurd (m refl)
      by K.RwLock m r d = absurd (r refl)
      by K.WriterNotify m r d = d
      by K.Condvar m r d = d
      by K.Once m r d = d
      by K.Parker m r d = d

  -- a position asks for a hold only where the one before did, and the step left the hold alone
  pub needs-kept :
      ((need_of (decide_of at f word a).next.at).hold ≡ N.Nothing) ⊎
      ((need_of (decide_of at f word a).next.at ≡ need_of at) × ((decide_of at f word a).hold ≡ H.Same))
  needs-kept = (kept at f word a).asks-on

  -- a hold is taken away only where the position asks for it, and of the object that it asks for it of
  freed : (hold : Hold) → asks hold ≢ N.Nothing → (decide_of at f word a).hold ≡ hold → need_of at ≡ record { hold = asks hold; object = (decide_of at f word a).object }
  freed hold n e = by (kept at f word a).backed
    where
      by :
          (asks (decide_of at f word a).hold ≡ N.Nothing) ⊎ (need_of at ≡ record { hold = asks (decide_of at f word a).hold; object = (decide_of at f word a).object }) →
          need_of at ≡ record { hold = asks hold; object = (decide_of at f word a).object }
      by (inl b) = absurd (n (sym (ap asks e) ∙ b))
      by (inr b) = b ∙ ap (λ (x : Hold). record { hold = asks x; object = (decide_of at f word a).object }) e

  pub freed-mutex : (decide_of at f word a).hold ≡ H.FreeMutex → need_of at ≡ record { hold = N.Mutex; object = (decide_of at f word a).object }
  unfolding asks
  freed-mutex = freed H.FreeMutex (λ e. let z : ◌≡◌ {A = ℕ} 0 1 = cc in absurd (omega arith))

  pub freed-read : (decide_of at f word a).hold ≡ H.FreeRead → need_of at ≡ record { hold = N.Read; object = (decide_of at f word a).object }
  unfolding asks
  freed-read = freed H.FreeRead (λ e. let z : ◌≡◌ {A = ℕ} 0 1 = cc in absurd (omega arith))

  pub freed-write : (decide_of at f word a).hold ≡ H.FreeWrite → need_of at ≡ record { hold = N.Write; object = (decide_of at f word a).object }
  unfolding asks
  freed-write = freed H.FreeWrite (λ e. let z : ◌≡◌ {A = ℕ} 0 1 = cc in absurd (omega arith))

  pub downgrades : (decide_of at f word a).hold ≡ H.Downgrade → need_of at ≡ record { hold = N.Write; object = (decide_of at f word a).object }
  unfolding asks
  downgrades = freed H.Downgrade (λ e. let z : ◌≡◌ {A = ℕ} 0 1 = cc in absurd (omega arith))

  -- the hold that changes is of the object whose word the step is about, and of the kind that word says
  pub hold-about :
      ((decide_of at f word a).hold ≡ H.Same) ⊎
      ((kind_of at ≡ held_kind (decide_of at f word a).hold) × ((t : ℕ) → (decide_of at f word a).object ≡ object_of t at))
  hold-about = (kept at f word a).about

  pub hold-word :
      (t : ℕ) → ((decide_of at f word a).hold ≡ H.Same) ⊎ (operand_of t at ≡ word_of (held_kind (decide_of at f word a).hold) (decide_of at f word a).object)
  hold-word t = by hold-about
    where
      by :
          ((decide_of at f word a).hold ≡ H.Same) ⊎
          ((kind_of at ≡ held_kind (decide_of at f word a).hold) × ((t : ℕ) → (decide_of at f word a).object ≡ object_of t at)) →
          ((decide_of at f word a).hold ≡ H.Same) ⊎ (operand_of t at ≡ word_of (held_kind (decide_of at f word a).hold) (decide_of at f word a).object)
      by (inl e) = inl e
      by (inr e) = inr (operand-is t at ∙ (ap (λ (x : Kind). word_of x (object_of t at)) e.0 ∙ ap (λ (x : ℕ). word_of (held_kind (decide_of at f word a).hold) x) (sym (e.1 t))))

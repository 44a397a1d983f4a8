-- What every step keeps holds of each form of plan, from what the plan's parts have. Assumes nothing.
use mathlib.Core.Path.{◌≡◌, refl}
use mathlib.Core.Logic.{inl, inr}
use mathlib.Core.Bool.{true}
use Prim.Native.Nat.{ℕ}
use Rattle.words.specs.declared.Hold.{Hold}
use Rattle.words.specs.declared.Hold.TheVariants as H
use Rattle.words.specs.declared.Kind.{Kind}
use Rattle.words.specs.declared.Kind.TheVariants as K
use Rattle.words.specs.declared.Wake.{Wake}
use Rattle.words.specs.declared.Wake.TheVariants as W
use Rattle.calls.specs.declared.At.{At}
use Rattle.calls.specs.Plans.{moved, slept, done, panicked, entered}
use Rattle.calls.specs.Positions.{passed_of, waits_of, need_of}
use Rattle.kept.proofs.Tests.{no_way}
use Rattle.kept.specs.Laws.{About, Asks, Backed, Did, Goes, Kept, Passes, Stores, asks, ended, kind_of, lock-same, mutex-same, staying}

-- a word left alone
did-same : (kind : Kind) (word : ℕ) → Did kind word H.Same word
unfolding Did
did-same K.Nothing word = refl
did-same K.Mutex word = mutex-same (λ e. e) (λ e. e)
did-same K.RwLock word = lock-same refl
did-same K.WriterNotify word = refl
did-same K.Condvar word = refl
did-same K.Once word = refl
did-same K.Parker word = refl

pub stores_same : (at : At) (word : ℕ) → Stores at word H.Same word
stores_same at word = record { wide = λ h. h; small = λ _ h. h; did = λ _. did-same (kind_of at) word }

module _ (at : At) (word : ℕ) where
  -- the call goes on
  pub kept-moved :
      (new : ℕ) (q : At) (hold : Hold) (object : ℕ) (wake : Wake) → Goes at q → Passes at word q → Stores at word hold new → Asks at q hold →
      Backed at hold object → About at hold object → Kept at word (moved new q hold object wake)
  unfolding moved
  kept-moved new q hold object wake g p s n b a =
      record { goes = g; passes = p; sleeps = λ e. no_way e; stores = s; asks-on = n; backed = b; about = a }

  -- .. with the hold as it was
  pub kept_on :
      (new : ℕ) (q : At) (object : ℕ) (wake : Wake) → Goes at q → Passes at word q → Stores at word H.Same new → Asks at q H.Same →
      Kept at word (moved new q H.Same object wake)
  unfolding asks
  kept_on new q object wake g p s n = kept-moved new q H.Same object wake g p s n (inl refl) (inl refl)

  -- the call ends
  pub kept-done :
      (new value : ℕ) (hold : Hold) (object : ℕ) (wake : Wake) → Stores at word hold new → Backed at hold object → About at hold object →
      Kept at word (done new value hold object wake)
  unfolding done passed_of need_of
  kept-done new value hold object wake s b a =
      record { goes = ended; passes = λ e h k. refl; sleeps = λ e. no_way e; stores = s; asks-on = inl refl; backed = b; about = a }

  -- .. with the hold as it was
  pub kept-end : (new value object : ℕ) (wake : Wake) → Stores at word H.Same new → Kept at word (done new value H.Same object wake)
  unfolding asks
  kept-end new value object wake s = kept-done new value H.Same object wake s (inl refl) (inl refl)

  -- the call panics
  pub kept-panicked : (new number object : ℕ) (wake : Wake) → Stores at word H.Same new → Kept at word (panicked new number H.Same object wake)
  unfolding panicked passed_of need_of asks
  kept-panicked new number object wake s =
      record { goes = ended; passes = λ e h k. refl; sleeps = λ e. no_way e; stores = s; asks-on = inl refl; backed = inl refl; about = inl refl }

  -- the thread falls asleep
  pub kept-slept : (object : ℕ) → waits_of at ≡ true → Kept at word (slept word at H.Same object W.None)
  unfolding slept asks
  kept-slept object e =
      record {
        goes = staying;
        passes = λ p h k. p;
        sleeps = λ _. record { waits = e; stays = refl; calm = refl; same_word = refl; same-hold = refl };
        stores = stores_same at word;
        asks-on = inr (refl, refl);
        backed = inl refl;
        about = inl refl;
      }

  -- the thread enters a closure
  pub kept-entered : (new : ℕ) (q : At) (wake : Wake) → Goes at q → Passes at word q → Stores at word H.Same new → Asks at q H.Same → Kept at word (entered new q H.Same 0 wake)
  unfolding entered asks
  kept-entered new q wake g p s n =
      record { goes = g; passes = p; sleeps = λ e. no_way e; stores = s; asks-on = n; backed = inl refl; about = inl refl }

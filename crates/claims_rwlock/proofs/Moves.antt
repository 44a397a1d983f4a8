-- One RwLock by itself: the readings of its state, and where each thread stands, by the names of Codes. Every move keeps R0 to R5, of any
-- number of threads, and where they hold no sleeper on an unlocked lock is forgotten. Assumes nothing.
use mathlib.Core.Path.{◌≡◌, refl, sym, ◌∙◌}
use mathlib.Core.Logic.{◌⊎◌, inl, inr, ◌≢◌, ⊎_map}
use mathlib.Core.Bool.{Bool, true, false, not, ◌&&◌, ◌||◌}
use Prim.Native.Nat.{ℕ, zero, suc, ◌+◌, ◌≤◌, ◌<◌}
use native.Mathlib.Omega.{arith}
use native.Mathlib.Decide.{ℕ_discrete}
use lib.Dec.{eqb, ltb}
use borrow.Author.Tests.{eqb-true, eq-eqb, ltb-true, ltb-false, lt-ltb, le-ltb}
use Rattle.words.specs.RwLock.{MASK}
use Rattle.kept.proofs.Tests.{no_way, and_left, and_right, or_cases}
use Rattle.claims_rwlock.proofs.Codes.{outside, in_write, in_write_beside_others, at_write_wait, at_exchange_writers, at_exchange_both, at_notify, at_notify_both, at_wake_writer, at_wake_writer_both, at_exchange_readers, at_wake_readers, at_read_unlock, at_write_unlock, at_downgrade, at_subtract, at_read_wait}
use Rattle.claims_rwlock.proofs.Points.{Update, Some, All, at-or-not, all-update, some-update, some-now}

-- a thread as the lock sees it: its place by Codes, whether it sleeps there, and how many notifications there had been when it last read
-- writer_notify
pub record Place : Type 0 where
  pub code : ℕ
  pub asleep : Bool
  pub since : ℕ

-- the lock: the three readings of its state (the count; READERS_WAITING and WRITERS_WAITING, each 0 or 1), how often writer_notify was added
-- to, and where each thread is
pub record LockView : Type 0 where
  pub count : ℕ
  pub readers : ℕ
  pub writers : ℕ
  pub adds : ℕ
  pub of : ℕ → Place

-- ---- who answers for what

-- awake at a place
unfoldable pub stands : ℕ → Place → Bool
stands k l = not l.asleep && eqb l.code k

-- who answers for an unlocked state with both flags
unfoldable pub answers_both : Place → Bool
answers_both l = not l.asleep && (eqb l.code at_exchange_writers || eqb l.code at_exchange_both)

-- who answers for an unlocked state with READERS_WAITING alone: a thread that will wake the readers unless it wakes a writer, and a writer that
-- is awake and not about to sleep
unfoldable pub answers_readers : ℕ → Place → Bool
answers_readers adds l =
    not l.asleep
    && (eqb l.code at_notify_both || eqb l.code at_wake_writer_both || eqb l.code at_exchange_readers || eqb l.code in_write
    || eqb l.code in_write_beside_others || (eqb l.code at_write_wait && ltb l.since adds))

-- who answers for a sleeping writer: a thread that will wake one, and a writer that is awake and has other_writers_waiting
unfoldable pub answers_writers : Place → Bool
answers_writers l =
    not l.asleep
    && (eqb l.code in_write_beside_others || eqb l.code at_write_wait || eqb l.code at_notify || eqb l.code at_notify_both
    || eqb l.code at_wake_writer || eqb l.code at_wake_writer_both)

-- who answers for a poised writer: a thread at wake_writer's fetch_add
unfoldable pub about_to_notify : Place → Bool
about_to_notify l = not l.asleep && (eqb l.code at_notify || eqb l.code at_notify_both)

unfoldable pub reader_sleeps : Place → Bool
reader_sleeps l = l.asleep && eqb l.code at_read_wait

unfoldable pub writer_sleeps : Place → Bool
writer_sleeps l = l.asleep && eqb l.code at_write_wait

-- a writer about to sleep, whose sequence is still what writer_notify is
unfoldable pub poised : ℕ → Place → Bool
poised adds l = not l.asleep && eqb l.code at_write_wait && eqb l.since adds

-- it read writer_notify no later than now
unfoldable pub in_time : ℕ → Place → Bool
in_time adds l = not (ltb adds l.since)

-- ---- R0 to R5; Few is the premise, fewer than 2 ^ 32 notifications. RH is not of the view: it is `downers` of Holds, in Near

pub record Invariant (Few : Type 0) (X : LockView) : Type 0 where
  -- a thread at downgrade's fetch_sub: READERS_WAITING is set and the low 30 bits are 1 (that its own read hold is 1 is RH and counting)
  pub r0 : (t : ℕ) → stands at_subtract (X.of t) ≡ true → (X.readers ≡ 1) × (X.count ≡ 1)
  -- a reader sleeps: READERS_WAITING is set, or a thread is at a futex_wake_all (an unlock's or downgrade's)
  pub r1 : (s : ℕ) → reader_sleeps (X.of s) ≡ true → (X.readers ≡ 1) ⊎ Some (stands at_wake_readers) X.of
  -- read-locked with READERS_WAITING: WRITERS_WAITING is set, or the low 30 bits are 1 and a thread is at downgrade's fetch_sub
  pub r2 : 0 < X.count → X.count < MASK → X.readers ≡ 1 → (X.writers ≡ 1) ⊎ ((X.count ≡ 1) × Some (stands at_subtract) X.of)
  -- the state is exactly WRITERS_WAITING: a thread is at the exchange of it
  pub r3w : X.count ≡ 0 → X.readers ≡ 0 → X.writers ≡ 1 → Some (stands at_exchange_writers) X.of
  -- the state is exactly both flags: a thread is at the exchange of WRITERS_WAITING or of both
  pub r3b : X.count ≡ 0 → X.readers ≡ 1 → X.writers ≡ 1 → Some answers_both X.of
  -- the state is exactly READERS_WAITING: a thread is at wake_writer's fetch_add or futex_wake with readers waiting too, or at the exchange of
  -- READERS_WAITING, or an awake writer is not about to sleep, that is, not at its futex_wait with what writer_notify is
  pub r3r : Few → X.count ≡ 0 → X.readers ≡ 1 → X.writers ≡ 0 → Some (answers_readers X.adds) X.of
  -- a writer stands awake at its futex_wait with what writer_notify is: WRITERS_WAITING is set, or a thread is at wake_writer's fetch_add
  pub r4 : Few → (t : ℕ) → poised X.adds (X.of t) ≡ true → (X.writers ≡ 1) ⊎ Some about_to_notify X.of
  -- a writer sleeps: WRITERS_WAITING is set, or a thread is at wake_writer's fetch_add or futex_wake, or an awake writer has
  -- other_writers_waiting set
  pub r5 : Few → (s : ℕ) → writer_sleeps (X.of s) ≡ true → (X.writers ≡ 1) ⊎ Some answers_writers X.of
  -- what R3r and R4 count by: nobody has read writer_notify later than now
  pub times : All (in_time X.adds) X.of

-- ---- moves

-- a thread awake at a place, and one asleep there
abbrev pub up : ℕ → ℕ → Place
up k s = record { code = k; asleep = false; since = s }

abbrev pub down : ℕ → ℕ → Place
down k s = record { code = k; asleep = true; since = s }

-- the moves that leave the state alone, by the places between which they go; c, r and v are the state's readings
pub data Quiet (c r v : ℕ) : ℕ → ℕ → Type 0 where
  plain : Quiet c r v outside outside
  to-read-wait : Quiet c r v outside at_read_wait
  from-read-wait : Quiet c r v at_read_wait outside
  writes-on : Quiet c r v in_write in_write
  meets-others : Quiet c r v in_write in_write_beside_others
  beside-others : Quiet c r v in_write_beside_others in_write_beside_others
  from-write-wait : Quiet c r v at_write_wait in_write_beside_others
  to-write-wait : (c ≡ 0 → ⊥) → v ≡ 1 → Quiet c r v in_write_beside_others at_write_wait
  finds-both : r ≡ 1 → Quiet c r v at_exchange_writers at_exchange_both
  finds-readers : v ≡ 0 → Quiet c r v at_exchange_writers at_exchange_readers
  writers-end : ((c ≡ 0) × (v ≡ 1) → ⊥) → Quiet c r v at_exchange_writers outside
  both_end : ((c ≡ 0) × (r ≡ 1) × (v ≡ 1) → ⊥) → Quiet c r v at_exchange_both outside
  readers-end : ((c ≡ 0) × (r ≡ 1) × (v ≡ 0) → ⊥) → Quiet c r v at_exchange_readers outside

-- the readings after a move, and how often writer_notify was added to
pub record Reads (X : LockView) (c r v adds : ℕ) : Type 0 where
  pub count-is : X.count ≡ c
  pub readers-are : X.readers ≡ r
  pub writers-are : X.writers ≡ v
  pub adds-is : X.adds ≡ adds

abbrev pub Keeps : LockView → LockView → Type 0
Keeps X X' = Reads X' X.count X.readers X.writers X.adds

-- thread t goes from one place to another, and nobody else moves; it has not read writer_notify later than now
pub record Move (X X' : LockView) (t : ℕ) (old new : Place) : Type 0 where
  pub was : X.of t ≡ old
  pub update : Update X.of X'.of t new
  pub early : in_time X.adds new ≡ true

-- whether a thread that moves from `old` to `new` has P still, if it had it
abbrev still : (Place → Bool) → Place → Place → Bool
still P old new = P new || not (P old)

still-so : (a b : Bool) → (a || not b) ≡ true → b ≡ true → a ≡ true
still-so true b h e = refl
still-so false true h e = h
still-so false false h e = no_way e

-- whether a move asks for nothing and takes no answer away, by its two places alone
unfoldable calm : ℕ → Place → Place → Bool
calm adds old new =
    not (stands at_subtract new) && (not (reader_sleeps new) && (not (writer_sleeps new) && (not (poised adds new)
    && (still (stands at_wake_readers) old new && (still (stands at_subtract) old new && (still (stands at_exchange_writers) old new
    && (still answers_both old new && (still (answers_readers adds) old new && (still about_to_notify old new && still answers_writers old new)))))))))

pub not-true : (b : Bool) → not b ≡ true → b ≡ false
not-true true h = no_way h
not-true false h = refl

module _ {X X' : LockView} {t : ℕ} {old new : Place} (M : Move X X' t old new) where
  -- a witness stays: it is so for all others, and at t by the test, which computes where the places are known
  forward : (P : Place → Bool) → still P old new ≡ true → Some P X.of → Some P X'.of
  forward P h = some-update P M.update (λ e. still-so (P new) (P old) h (rw M.was at e))

  -- what is true of a thread now was true of it before
  back : (Q : Place → Bool) → Q new ≡ false → (u : ℕ) → Q (X'.of u) ≡ true → Q (X.of u) ≡ true
  back Q h = at-or-not M.update (λ u l. Q l ≡ true → Q (X.of u) ≡ true) (λ e. no_way (sym h ∙ e)) (λ u d e. e)

  -- The readings stay. If t itself now sleeps, or is about to, its flag is set; and each kind of witness stays, perhaps because the state
  -- is not such as to ask for it, or because nobody sleeps
  stays-if :
      {Few : Type 0} → Keeps X X' → stands at_subtract new ≡ false → (reader_sleeps new ≡ true → X.readers ≡ 1) →
      (Few → writer_sleeps new ≡ true → (X.writers ≡ 1) ⊎ Some answers_writers X'.of) → (poised X.adds new ≡ true → X.writers ≡ 1) →
      ((u : ℕ) → reader_sleeps (X.of u) ≡ true → Some (stands at_wake_readers) X.of → Some (stands at_wake_readers) X'.of) →
      (Some (stands at_subtract) X.of → Some (stands at_subtract) X'.of) →
      (X.count ≡ 0 → X.readers ≡ 0 → X.writers ≡ 1 → Some (stands at_exchange_writers) X.of → Some (stands at_exchange_writers) X'.of) →
      (X.count ≡ 0 → X.readers ≡ 1 → X.writers ≡ 1 → Some answers_both X.of → Some answers_both X'.of) →
      (Few → X.count ≡ 0 → X.readers ≡ 1 → X.writers ≡ 0 → Some (answers_readers X.adds) X.of → Some (answers_readers X.adds) X'.of) →
      (Some about_to_notify X.of → Some about_to_notify X'.of) →
      (Few → (u : ℕ) → writer_sleeps (X.of u) ≡ true → Some answers_writers X.of → (X.writers ≡ 1) ⊎ Some answers_writers X'.of) →
      Invariant Few X → Invariant Few X'
  stays-if {Few} K subtract reads writes waits f-wake f-subtract f-writers-alone f-both f-readers f-notify f-writers I = record {
    r0 = λ u h. let (a, b) = I.r0 u (back (stands at_subtract) subtract u h) in (K.readers-are ∙ a, K.count-is ∙ b);
    r1 =
        at-or-not M.update (λ u l. reader_sleeps l ≡ true → (X'.readers ≡ 1) ⊎ Some (stands at_wake_readers) X'.of)
        (λ h. inl (K.readers-are ∙ reads h)) (λ u ne h. ⊎_map (λ e. K.readers-are ∙ e) (f-wake u h) (I.r1 u h));
    r2 =
        λ a b e. ⊎_map (λ q. K.writers-are ∙ q) (λ q. (K.count-is ∙ q.0, f-subtract q.1))
        (I.r2 (rw K.count-is at a) (rw K.count-is at b) (sym K.readers-are ∙ e));
    r3w = λ a b e. let (c, r, v) = before a b e in f-writers-alone c r v (I.r3w c r v);
    r3b = λ a b e. let (c, r, v) = before a b e in f-both c r v (I.r3b c r v);
    r3r = λ few a b e. let (c, r, v) = before a b e in rw K.adds-is (f-readers few c r v (I.r3r few c r v));
    r4 =
        λ few. rw K.adds-is
        (at-or-not M.update (λ u l. poised X.adds l ≡ true → (X'.writers ≡ 1) ⊎ Some about_to_notify X'.of)
        (λ h. inl (K.writers-are ∙ waits h)) (λ u ne h. ⊎_map (λ e. K.writers-are ∙ e) f-notify (I.r4 few u h)));
    r5 =
        λ few. at-or-not M.update (λ u l. writer_sleeps l ≡ true → (X'.writers ≡ 1) ⊎ Some answers_writers X'.of)
        (λ h. ⊎_map (λ e. K.writers-are ∙ e) (λ x. x) (writes few h)) (λ u ne h. go few u h (I.r5 few u h));
    times = rw K.adds-is (all-update (in_time X.adds) M.update M.early I.times);
  }
    where
      before : {c r v : ℕ} → X'.count ≡ c → X'.readers ≡ r → X'.writers ≡ v → (X.count ≡ c) × (X.readers ≡ r) × (X.writers ≡ v)
      before a b e = (sym K.count-is ∙ a, sym K.readers-are ∙ b, sym K.writers-are ∙ e)

      go :
          Few → (u : ℕ) → writer_sleeps (X.of u) ≡ true → (X.writers ≡ 1) ⊎ Some answers_writers X.of →
          (X'.writers ≡ 1) ⊎ Some answers_writers X'.of
      go few u h (inl e) = inl (K.writers-are ∙ e)
      go few u h (inr e) = ⊎_map (λ q. K.writers-are ∙ q) (λ x. x) (f-writers few u h e)

  -- the same, where the premise plays no part
  stays :
      {Few : Type 0} → Keeps X X' → stands at_subtract new ≡ false → (reader_sleeps new ≡ true → X.readers ≡ 1) →
      (writer_sleeps new ≡ true → (X.writers ≡ 1) ⊎ Some answers_writers X'.of) → (poised X.adds new ≡ true → X.writers ≡ 1) →
      ((u : ℕ) → reader_sleeps (X.of u) ≡ true → Some (stands at_wake_readers) X.of → Some (stands at_wake_readers) X'.of) →
      (Some (stands at_subtract) X.of → Some (stands at_subtract) X'.of) →
      (X.count ≡ 0 → X.readers ≡ 0 → X.writers ≡ 1 → Some (stands at_exchange_writers) X.of → Some (stands at_exchange_writers) X'.of) →
      (X.count ≡ 0 → X.readers ≡ 1 → X.writers ≡ 1 → Some answers_both X.of → Some answers_both X'.of) →
      (X.count ≡ 0 → X.readers ≡ 1 → X.writers ≡ 0 → Some (answers_readers X.adds) X.of → Some (answers_readers X.adds) X'.of) →
      (Some about_to_notify X.of → Some about_to_notify X'.of) →
      ((u : ℕ) → writer_sleeps (X.of u) ≡ true → Some answers_writers X.of → (X.writers ≡ 1) ⊎ Some answers_writers X'.of) →
      Invariant Few X → Invariant Few X'
  stays K subtract reads writes waits f-wake f-subtract f-writers-alone f-both f-readers f-notify f-writers =
      stays-if K subtract reads (λ _. writes) waits f-wake f-subtract f-writers-alone f-both (λ _. f-readers) f-notify (λ _. f-writers)

  -- where the two places alone decide: the test is closed, and proved by refl
  calmly : {Few : Type 0} → Keeps X X' → calm X.adds old new ≡ true → Invariant Few X → Invariant Few X'
  unfolding calm
  calmly K h₁ I =
      let h₂ = and_right (not (stands at_subtract new)) _ h₁ in
      let h₃ = and_right (not (reader_sleeps new)) _ h₂ in
      let h₄ = and_right (not (writer_sleeps new)) _ h₃ in
      let h₅ = and_right (not (poised X.adds new)) _ h₄ in
      let h₆ = and_right (still (stands at_wake_readers) old new) _ h₅ in
      let h₇ = and_right (still (stands at_subtract) old new) _ h₆ in
      let h₈ = and_right (still (stands at_exchange_writers) old new) _ h₇ in
      let h₉ = and_right (still answers_both old new) _ h₈ in
      let h₁₀ = and_right (still (answers_readers X.adds) old new) _ h₉ in
      stays K (not-true (stands at_subtract new) (and_left (not (stands at_subtract new)) _ h₁))
      (λ q. no_way (sym (not-true (reader_sleeps new) (and_left (not (reader_sleeps new)) _ h₂)) ∙ q))
      (λ q. no_way (sym (not-true (writer_sleeps new) (and_left (not (writer_sleeps new)) _ h₃)) ∙ q))
      (λ q. no_way (sym (not-true (poised X.adds new) (and_left (not (poised X.adds new)) _ h₄)) ∙ q))
      (λ _ _. forward (stands at_wake_readers) (and_left (still (stands at_wake_readers) old new) _ h₅))
      (forward (stands at_subtract) (and_left (still (stands at_subtract) old new) _ h₆))
      (λ _ _ _. forward (stands at_exchange_writers) (and_left (still (stands at_exchange_writers) old new) _ h₇))
      (λ _ _ _. forward answers_both (and_left (still answers_both old new) _ h₈))
      (λ _ _ _. forward (answers_readers X.adds) (and_left (still (answers_readers X.adds) old new) _ h₉))
      (forward about_to_notify (and_left (still about_to_notify old new) _ h₁₀))
      (λ _ _ q. inr (forward answers_writers (and_right (still about_to_notify old new) _ h₁₀) q)) I

pub early-up : (adds s k : ℕ) → s ≤ adds → in_time adds (up k s) ≡ true
unfolding in_time
early-up adds s k l = rw (le-ltb adds s l) refl

pub early-down : (adds s k : ℕ) → s ≤ adds → in_time adds (down k s) ≡ true
unfolding in_time
early-down adds s k l = rw (le-ltb adds s l) refl

-- the places where a call begins
pub data Enters : ℕ → Type 0 where
  enters-outside : Enters outside
  enters-write : Enters in_write
  enters-read-unlock : Enters at_read_unlock
  enters-write-unlock : Enters at_write_unlock
  enters-downgrade : Enters at_downgrade

module _ {Few : Type 0} {X X' : LockView} {t : ℕ} where
  -- a call begins
  pub enters : {k s s' : ℕ} → Enters k → Move X X' t (up outside s) (up k s') → Keeps X X' → Invariant Few X → Invariant Few X'
  unfolding calm stands answers_both answers_readers answers_writers about_to_notify poised reader_sleeps writer_sleeps
  enters enters-outside M K = calmly M K refl
  enters enters-write M K = calmly M K refl
  enters enters-read-unlock M K = calmly M K refl
  enters enters-write-unlock M K = calmly M K refl
  enters enters-downgrade M K = calmly M K refl

  -- a move that leaves the state alone keeps them
  pub quiet_keeps :
      {k k' s s' : ℕ} → Quiet X.count X.readers X.writers k k' → Move X X' t (up k s) (up k' s') → Keeps X X' → Invariant Few X →
      Invariant Few X'
  unfolding calm stands answers_both answers_readers answers_writers about_to_notify poised reader_sleeps writer_sleeps
  quiet_keeps plain M K = calmly M K refl
  quiet_keeps to-read-wait M K = calmly M K refl
  quiet_keeps from-read-wait M K = calmly M K refl
  quiet_keeps writes-on M K = calmly M K refl
  quiet_keeps meets-others M K = calmly M K refl
  quiet_keeps beside-others M K = calmly M K refl
  quiet_keeps from-write-wait M K = calmly M K refl
  quiet_keeps (to-write-wait count0 writers1) M K =
      stays M K refl no_way no_way (λ _. writers1) (λ _ _. forward M (stands at_wake_readers) refl) (forward M (stands at_subtract) refl)
      (λ _ _ _. forward M (stands at_exchange_writers) refl) (λ _ _ _. forward M answers_both refl) (λ z _ _. absurd (count0 z))
      (forward M about_to_notify refl) (λ _ _ q. inr (forward M answers_writers refl q))
  quiet_keeps (finds-both readers1) M K =
      stays M K refl no_way no_way no_way (λ _ _. forward M (stands at_wake_readers) refl) (forward M (stands at_subtract) refl)
      (λ _ z _. absurd (omega arith)) (λ _ _ _. forward M answers_both refl) (λ _ _ _. forward M (answers_readers X.adds) refl)
      (forward M about_to_notify refl) (λ _ _ q. inr (forward M answers_writers refl q))
  quiet_keeps (finds-readers writers0) M K =
      stays M K refl no_way no_way no_way (λ _ _. forward M (stands at_wake_readers) refl) (forward M (stands at_subtract) refl)
      (λ _ _ z. absurd (omega arith)) (λ _ _ z. absurd (omega arith)) (λ _ _ _. forward M (answers_readers X.adds) refl)
      (forward M about_to_notify refl) (λ _ _ q. inr (forward M answers_writers refl q))
  quiet_keeps (writers-end n) M K =
      stays M K refl no_way no_way no_way (λ _ _. forward M (stands at_wake_readers) refl) (forward M (stands at_subtract) refl)
      (λ a _ e. absurd (n (a, e))) (λ a _ e. absurd (n (a, e))) (λ _ _ _. forward M (answers_readers X.adds) refl)
      (forward M about_to_notify refl) (λ _ _ q. inr (forward M answers_writers refl q))
  quiet_keeps (both_end n) M K =
      stays M K refl no_way no_way no_way (λ _ _. forward M (stands at_wake_readers) refl) (forward M (stands at_subtract) refl)
      (λ _ _ _. forward M (stands at_exchange_writers) refl) (λ a b e. absurd (n (a, b, e))) (λ _ _ _. forward M (answers_readers X.adds) refl)
      (forward M about_to_notify refl) (λ _ _ q. inr (forward M answers_writers refl q))
  quiet_keeps (readers-end n) M K =
      stays M K refl no_way no_way no_way (λ _ _. forward M (stands at_wake_readers) refl) (forward M (stands at_subtract) refl)
      (λ _ _ _. forward M (stands at_exchange_writers) refl) (λ _ _ _. forward M answers_both refl) (λ a b e. absurd (n (a, b, e)))
      (forward M about_to_notify refl) (λ _ _ q. inr (forward M answers_writers refl q))

-- ---- sleeping and waking

notify-answers : (l : Place) → about_to_notify l ≡ true → answers_writers l ≡ true
unfolding about_to_notify answers_writers
notify-answers l =
    go l.asleep (eqb l.code in_write_beside_others) (eqb l.code at_write_wait) (eqb l.code at_notify) (eqb l.code at_notify_both)
  where
    go :
        (a b c d e : Bool) → (not a && (d || e)) ≡ true →
        (not a && (b || c || d || e || eqb l.code at_wake_writer || eqb l.code at_wake_writer_both)) ≡ true
    go true b c d e h = no_way h
    go false true c d e h = refl
    go false false true d e h = refl
    go false false false true e h = refl
    go false false false false true h = refl
    go false false false false false h = no_way h

-- another thread than t has P
abbrev pub Other : (Place → Bool) → LockView → ℕ → Type 0
Other P X t = (u : ℕ) × (u ≢ t) × (P (X.of u) ≡ true)

other-stays : {X X' : LockView} {t : ℕ} {old new : Place} (P : Place → Bool) → Move X X' t old new → Other P X t → Some P X'.of
other-stays P M (u, d, h) = (u, rw (M.update.other u d) h)

module _ {Few : Type 0} {X X' : LockView} {t : ℕ} where
  -- a reader falls asleep on a state that has READERS_WAITING
  pub sleeps-reader : {s : ℕ} → Move X X' t (up at_read_wait s) (down at_read_wait s) → Keeps X X' → X.readers ≡ 1 → Invariant Few X → Invariant Few X'
  unfolding stands answers_both answers_readers answers_writers about_to_notify poised reader_sleeps writer_sleeps
  sleeps-reader M K readers1 =
      stays M K refl (λ _. readers1) no_way no_way (λ _ _. forward M (stands at_wake_readers) refl) (forward M (stands at_subtract) refl)
      (λ _ _ _. forward M (stands at_exchange_writers) refl) (λ _ _ _. forward M answers_both refl)
      (λ _ _ _. forward M (answers_readers X.adds) refl) (forward M about_to_notify refl) (λ _ _ q. inr (forward M answers_writers refl q))

  -- a writer falls asleep: its sequence is still what writer_notify is, so no notification came since it was read
  pub sleeps-writer :
      {s : ℕ} → Move X X' t (up at_write_wait s) (down at_write_wait s) → Keeps X X' → (Few → s ≡ X.adds) → Invariant Few X → Invariant Few X'
  unfolding stands answers_both answers_readers answers_writers about_to_notify poised reader_sleeps writer_sleeps
  sleeps-writer {s} M K e I =
      stays-if M K refl no_way (λ few _. why few) no_way (λ _ _. forward M (stands at_wake_readers) refl) (forward M (stands at_subtract) refl)
      (λ _ _ _. forward M (stands at_exchange_writers) refl) (λ _ _ _. forward M answers_both refl)
      (λ few _ _ _. forward M (answers_readers X.adds) (rw (le-ltb s X.adds (omega (arith, e few))) refl)) (forward M about_to_notify refl)
      (λ few _ _ _. why few) I
    where
      why : Few → (X.writers ≡ 1) ⊎ Some answers_writers X'.of
      why few = go (I.r4 few t (rw (M.was, eq-eqb s X.adds (e few)) refl))
        where
          go : (X.writers ≡ 1) ⊎ Some about_to_notify X.of → (X.writers ≡ 1) ⊎ Some answers_writers X'.of
          go (inl q) = inl q
          go (inr q) = let (u, h) = forward M about_to_notify refl q in inr (u, notify-answers (X'.of u) h)

  -- ---- the wakes: those that are to be woken have been woken before the thread leaves

  -- downgrade or wake_writer_or_readers has woken all readers
  pub wakes-all :
      {s s' : ℕ} → Move X X' t (up at_wake_readers s) (up outside s') → Keeps X X' → ((u : ℕ) → reader_sleeps (X.of u) ≡ true → ⊥) →
      Invariant Few X → Invariant Few X'
  unfolding stands answers_both answers_readers answers_writers about_to_notify poised reader_sleeps writer_sleeps
  wakes-all M K nobody =
      stays M K refl no_way no_way no_way (λ u h. absurd (nobody u h)) (forward M (stands at_subtract) refl)
      (λ _ _ _. forward M (stands at_exchange_writers) refl) (λ _ _ _. forward M answers_both refl)
      (λ _ _ _. forward M (answers_readers X.adds) refl) (forward M about_to_notify refl) (λ _ _ q. inr (forward M answers_writers refl q))

  -- wake_writer's futex_wake has woken a writer, if one slept
  module _ (K : Keeps X X') (paid : (u : ℕ) → writer_sleeps (X.of u) ≡ true → Other answers_writers X t) where
    -- only writers were waiting
    pub wakes-one : {s s' : ℕ} → Move X X' t (up at_wake_writer s) (up outside s') → Invariant Few X → Invariant Few X'
    unfolding stands answers_both answers_readers answers_writers about_to_notify poised reader_sleeps writer_sleeps
    wakes-one M =
        stays M K refl no_way no_way no_way (λ _ _. forward M (stands at_wake_readers) refl) (forward M (stands at_subtract) refl)
        (λ _ _ _. forward M (stands at_exchange_writers) refl) (λ _ _ _. forward M answers_both refl)
        (λ _ _ _. forward M (answers_readers X.adds) refl) (forward M about_to_notify refl) (λ u h _. inr (other-stays answers_writers M (paid u h)))

    -- readers wait too, and a writer was woken
    pub wakes-one-of :
        {s s' : ℕ} → Move X X' t (up at_wake_writer_both s) (up outside s') → Other (answers_readers X.adds) X t → Invariant Few X → Invariant Few X'
    unfolding stands answers_both answers_readers answers_writers about_to_notify poised reader_sleeps writer_sleeps
    wakes-one-of M found =
        stays M K refl no_way no_way no_way (λ _ _. forward M (stands at_wake_readers) refl) (forward M (stands at_subtract) refl)
        (λ _ _ _. forward M (stands at_exchange_writers) refl) (λ _ _ _. forward M answers_both refl)
        (λ _ _ _ _. other-stays (answers_readers X.adds) M found) (forward M about_to_notify refl)
        (λ u h _. inr (other-stays answers_writers M (paid u h)))

    -- readers wait too, and no writer slept
    pub wakes-none : {s s' : ℕ} → Move X X' t (up at_wake_writer_both s) (up at_exchange_readers s') → Invariant Few X → Invariant Few X'
    unfolding stands answers_both answers_readers answers_writers about_to_notify poised reader_sleeps writer_sleeps
    wakes-none M =
        stays M K refl no_way no_way no_way (λ _ _. forward M (stands at_wake_readers) refl) (forward M (stands at_subtract) refl)
        (λ _ _ _. forward M (stands at_exchange_writers) refl) (λ _ _ _. forward M answers_both refl)
        (λ _ _ _. forward M (answers_readers X.adds) refl) (forward M about_to_notify refl) (λ u h _. inr (other-stays answers_writers M (paid u h)))

-- ---- moves that change the state

module _ {Few : Type 0} {X X' : LockView} {t k s : ℕ} {old : Place} (M : Move X X' t old (up k s)) (I : Invariant Few X) where
  -- R4, R5 and the times, where WRITERS_WAITING does not fall
  writers-kept :
      (X.writers ≡ 1 → X'.writers ≡ 1) → X'.adds ≡ X.adds → (Some about_to_notify X.of → Some about_to_notify X'.of) →
      (Some answers_writers X.of → (X'.writers ≡ 1) ⊎ Some answers_writers X'.of) → poised X.adds (up k s) ≡ false →
      (Few → (u : ℕ) → poised X'.adds (X'.of u) ≡ true → (X'.writers ≡ 1) ⊎ Some about_to_notify X'.of)
      × (Few → (u : ℕ) → writer_sleeps (X'.of u) ≡ true → (X'.writers ≡ 1) ⊎ Some answers_writers X'.of) × All (in_time X'.adds) X'.of
  unfolding writer_sleeps
  writers-kept flag same f-notify f-writers waits = (
    λ few u h. ⊎_map flag f-notify (I.r4 few u (back M (poised X.adds) waits u (rw same at h))),
    λ few u h. five (I.r5 few u (back M writer_sleeps refl u h)),
    rw same (all-update (in_time X.adds) M.update M.early I.times),
  )
    where
      five : (X.writers ≡ 1) ⊎ Some answers_writers X.of → (X'.writers ≡ 1) ⊎ Some answers_writers X'.of
      five (inl e) = inl (flag e)
      five (inr e) = f-writers e

  -- R1, where READERS_WAITING does not fall
  readers-kept :
      (X.readers ≡ 1 → X'.readers ≡ 1) → still (stands at_wake_readers) old (up k s) ≡ true → (u : ℕ) → reader_sleeps (X'.of u) ≡ true →
      (X'.readers ≡ 1) ⊎ Some (stands at_wake_readers) X'.of
  unfolding reader_sleeps
  readers-kept flag f u h = ⊎_map flag (forward M (stands at_wake_readers) f) (I.r1 u (back M reader_sleeps refl u h))

writers-both : (l : Place) → stands at_exchange_writers l ≡ true → answers_both l ≡ true
unfolding stands answers_both
writers-both l h = go l.asleep (eqb l.code at_exchange_writers) h
  where
    go : (a b : Bool) → (not a && b) ≡ true → (not a && (b || eqb l.code at_exchange_both)) ≡ true
    go true b k = no_way k
    go false true k = refl
    go false false k = no_way k

-- where an unlocking thread goes on, by the flags that it leaves
pub data Onward (r v : ℕ) : ℕ → Type 0 where
  none-wait : r ≡ 0 → v ≡ 0 → Onward r v outside
  writers-wait : r ≡ 0 → v ≡ 1 → Onward r v at_exchange_writers
  both-wait : r ≡ 1 → v ≡ 1 → Onward r v at_exchange_both
  readers-wait : r ≡ 1 → v ≡ 0 → Onward r v at_exchange_readers

module _ {Few : Type 0} {X X' : LockView} {t : ℕ} where
  -- one more reader: only where READERS_WAITING is not set
  pub takes-read :
      {s s' : ℕ} → Move X X' t (up outside s) (up outside s') → Invariant Few X → X.readers ≡ 0 →
      Reads X' (X.count + 1) X.readers X.writers X.adds → Invariant Few X'
  unfolding stands answers_both answers_readers answers_writers about_to_notify poised
  takes-read M I readers0 R =
      let (kept4, kept5, kept-times) =
      writers-kept M I (λ e. R.writers-are ∙ e) R.adds-is (forward M about_to_notify refl) (λ e. inr (forward M answers_writers refl e)) refl in
      record {
        r0 = λ u h. absurd (omega (arith, (I.r0 u (back M (stands at_subtract) refl u h)).0));
        r1 = readers-kept M I (λ e. R.readers-are ∙ e) refl;
        r2 = λ _ _ e. absurd (omega (arith, R.readers-are));
        r3w = λ e _ _. absurd (omega (arith, R.count-is));
        r3b = λ e _ _. absurd (omega (arith, R.count-is));
        r3r = λ few e _ _. absurd (omega (arith, R.count-is));
        r4 = kept4;
        r5 = kept5;
        times = kept-times;
      }

  -- a reader sets READERS_WAITING: WRITERS_WAITING is set, or a writer has the lock
  pub sets-readers :
      {s s' : ℕ} → Move X X' t (up outside s) (up at_read_wait s') → Invariant Few X → X.readers ≡ 0 → (X.writers ≡ 1) ⊎ (X.count ≡ MASK) →
      Reads X' X.count 1 X.writers X.adds → Invariant Few X'
  unfolding stands answers_both answers_readers answers_writers about_to_notify poised
  sets-readers M I readers0 why R =
      let (kept4, kept5, kept-times) =
      writers-kept M I (λ e. R.writers-are ∙ e) R.adds-is (forward M about_to_notify refl) (λ e. inr (forward M answers_writers refl e)) refl in
      record {
        r0 = λ u h. absurd (omega (arith, (I.r0 u (back M (stands at_subtract) refl u h)).0));
        r1 = λ u h. inl R.readers-are;
        r2 = λ a b e. two why b;
        r3w = λ _ e _. absurd (omega (arith, R.readers-are));
        r3b = λ a _ e. both_of (forward M (stands at_exchange_writers) refl (I.r3w (sym R.count-is ∙ a) readers0 (sym R.writers-are ∙ e)));
        r3r = λ few a _ e. absurd (none why (sym R.count-is ∙ a) (sym R.writers-are ∙ e));
        r4 = kept4;
        r5 = kept5;
        times = kept-times;
      }
    where
      two : (X.writers ≡ 1) ⊎ (X.count ≡ MASK) → X'.count < MASK → (X'.writers ≡ 1) ⊎ ((X'.count ≡ 1) × Some (stands at_subtract) X'.of)
      two (inl e) b = inl (R.writers-are ∙ e)
      two (inr e) b = absurd (omega (arith, R.count-is))

      none : (X.writers ≡ 1) ⊎ (X.count ≡ MASK) → X.count ≡ 0 → X.writers ≡ 0 → ⊥
      none (inl e) a b = omega arith
      none (inr e) a b = omega arith

      both_of : Some (stands at_exchange_writers) X'.of → Some answers_both X'.of
      both_of (u, h) = (u, writers-both (X'.of u) h)

  -- a writer takes an unlocked lock; one that has other_writers_waiting leaves WRITERS_WAITING set
  pub takes_write :
      {k s s' : ℕ} → Move X X' t (up k s) (up outside s') → Invariant Few X → (v' : ℕ) → X.count ≡ 0 → Reads X' MASK X.readers v' X.adds →
      (X.writers ≡ 1 → v' ≡ 1) → (answers_writers (up k s) ≡ true → v' ≡ 1) → stands at_wake_readers (up k s) ≡ false →
      about_to_notify (up k s) ≡ false → Invariant Few X'
  unfolding stands answers_both answers_readers answers_writers about_to_notify poised
  takes_write M I v' count0 R flag others not-wake not-notify =
      let (kept4, kept5, kept-times) =
      writers-kept M I (λ e. R.writers-are ∙ flag e) R.adds-is
      (some-update about_to_notify M.update (λ e. no_way (sym not-notify ∙ rw M.was at e))) answered refl in
      record {
        r0 = λ u h. absurd (omega (arith, (I.r0 u (back M (stands at_subtract) refl u h)).1));
        r1 = readers-kept M I (λ e. R.readers-are ∙ e) (rw not-wake refl);
        r2 = λ _ b _. absurd (omega (arith, R.count-is));
        r3w = λ e _ _. absurd (omega (arith, R.count-is));
        r3b = λ e _ _. absurd (omega (arith, R.count-is));
        r3r = λ few e _ _. absurd (omega (arith, R.count-is));
        r4 = kept4;
        r5 = kept5;
        times = kept-times;
      }
    where
      answered : Some answers_writers X.of → (X'.writers ≡ 1) ⊎ Some answers_writers X'.of
      answered (u, h) = go (ℕ_discrete u t)
        where
          go : Dec (u ≡ t) → (X'.writers ≡ 1) ⊎ Some answers_writers X'.of
          go (yes e) = inl (R.writers-are ∙ others (rw (e, M.was) at h))
          go (no d) = inr (u, rw (M.update.other u d) h)

  -- a writer sets WRITERS_WAITING on a locked state
  pub sets-writers :
      {k s s' : ℕ} → Move X X' t (up k s) (up in_write_beside_others s') → Invariant Few X → (X.count ≡ 0 → ⊥) →
      Reads X' X.count X.readers 1 X.adds → stands at_wake_readers (up k s) ≡ false → Invariant Few X'
  unfolding stands answers_both answers_readers answers_writers about_to_notify poised
  sets-writers M I count0 R not-wake = record {
    r0 = λ u h. let (a, b) = I.r0 u (back M (stands at_subtract) refl u h) in (R.readers-are ∙ a, R.count-is ∙ b);
    r1 = readers-kept M I (λ e. R.readers-are ∙ e) (rw not-wake refl);
    r2 = λ _ _ _. inl R.writers-are;
    r3w = λ e _ _. absurd (count0 (sym R.count-is ∙ e));
    r3b = λ e _ _. absurd (count0 (sym R.count-is ∙ e));
    r3r = λ few e _ _. absurd (count0 (sym R.count-is ∙ e));
    r4 = λ few u h. inl R.writers-are;
    r5 = λ few u h. inl R.writers-are;
    times = rw R.adds-is (all-update (in_time X.adds) M.update M.early I.times);
  }

  -- the state becomes unlocked, by a thread at k
  module _
      (I : Invariant Few X) (R : Reads X' 0 X.readers X.writers X.adds)
      (no-subtract : (u : ℕ) → stands at_subtract (X.of u) ≡ true → ⊥) where
    unlocked-to :
        {k k' s s' : ℕ} → Move X X' t (up k s) (up k' s') → stands at_subtract (up k' s') ≡ false → poised X.adds (up k' s') ≡ false →
        stands at_wake_readers (up k s) ≡ false → about_to_notify (up k s) ≡ false → answers_writers (up k s) ≡ false →
        (X.readers ≡ 0 → X.writers ≡ 1 → stands at_exchange_writers (up k' s') ≡ true) →
        (X.readers ≡ 1 → X.writers ≡ 1 → answers_both (up k' s') ≡ true) →
        (X.readers ≡ 1 → X.writers ≡ 0 → answers_readers X.adds (up k' s') ≡ true) → Invariant Few X'
    unlocked-to {k} {k'} {s} {s'} M not-subtract waits not-wake not-notify not_answer a b e =
        let (kept4, kept5, kept-times) =
        writers-kept M I (λ q. R.writers-are ∙ q) R.adds-is
        (some-update about_to_notify M.update (λ q. no_way (sym not-notify ∙ rw M.was at q)))
        (λ q. inr (some-update answers_writers M.update (λ j. no_way (sym not_answer ∙ rw M.was at j)) q)) waits in
        record {
          r0 = λ u h. absurd (no-subtract u (back M (stands at_subtract) not-subtract u h));
          r1 = readers-kept M I (λ q. R.readers-are ∙ q) (or-not (stands at_wake_readers (up k' s')) not-wake);
          r2 = λ z _ _. absurd (omega (arith, R.count-is));
          r3w = λ _ p q. some-now (stands at_exchange_writers) M.update (a (sym R.readers-are ∙ p) (sym R.writers-are ∙ q));
          r3b = λ _ p q. some-now answers_both M.update (b (sym R.readers-are ∙ p) (sym R.writers-are ∙ q));
          r3r =
              λ few _ p q. rw R.adds-is
              (some-now (answers_readers X.adds) M.update (e (sym R.readers-are ∙ p) (sym R.writers-are ∙ q)));
          r4 = kept4;
          r5 = kept5;
          times = kept-times;
        }
      where
        or-not : (x : Bool) → stands at_wake_readers (up k s) ≡ false → (x || not (stands at_wake_readers (up k s))) ≡ true
        or-not true q = refl
        or-not false q = rw q refl

    pub unlocks :
        {k k' s s' : ℕ} → Onward X.readers X.writers k' → Move X X' t (up k s) (up k' s') → stands at_wake_readers (up k s) ≡ false →
        about_to_notify (up k s) ≡ false → answers_writers (up k s) ≡ false → Invariant Few X'
    unfolding stands answers_both answers_readers poised
    unlocks (none-wait p q) M not-wake not-notify not_answer =
        unlocked-to M refl refl not-wake not-notify not_answer (λ _ e. absurd (omega arith)) (λ e _. absurd (omega arith))
        (λ e _. absurd (omega arith))
    unlocks (writers-wait p q) M not-wake not-notify not_answer =
        unlocked-to M refl refl not-wake not-notify not_answer (λ _ e. refl) (λ e _. refl) (λ e _. absurd (omega arith))
    unlocks (both-wait p q) M not-wake not-notify not_answer =
        unlocked-to M refl refl not-wake not-notify not_answer (λ e _. absurd (omega arith)) (λ e _. refl) (λ _ e. absurd (omega arith))
    unlocks (readers-wait p q) M not-wake not-notify not_answer =
        unlocked-to M refl refl not-wake not-notify not_answer (λ e _. absurd (omega arith)) (λ _ e. absurd (omega arith)) (λ e _. refl)

  -- a reader leaves, and others stay: nobody is in the middle of a downgrade, so with READERS_WAITING there is WRITERS_WAITING
  pub read-leaves :
      {s s' : ℕ} → Move X X' t (up at_read_unlock s) (up outside s') → Invariant Few X → ((u : ℕ) → stands at_subtract (X.of u) ≡ true → ⊥) →
      0 < X'.count → X.count < MASK → Reads X' X'.count X.readers X.writers X.adds → X.count ≡ X'.count + 1 → Invariant Few X'
  unfolding stands answers_both answers_readers answers_writers about_to_notify poised
  read-leaves M I no-subtract pos lt R more =
      let (kept4, kept5, kept-times) =
      writers-kept M I (λ e. R.writers-are ∙ e) R.adds-is (forward M about_to_notify refl) (λ e. inr (forward M answers_writers refl e)) refl in
      record {
        r0 = λ u h. absurd (no-subtract u (back M (stands at_subtract) refl u h));
        r1 = readers-kept M I (λ e. R.readers-are ∙ e) refl;
        r2 = λ _ _ e. go (I.r2 (omega arith) lt (sym R.readers-are ∙ e));
        r3w = λ e _ _. absurd (omega arith);
        r3b = λ e _ _. absurd (omega arith);
        r3r = λ few e _ _. absurd (omega arith);
        r4 = kept4;
        r5 = kept5;
        times = kept-times;
      }
    where
      go :
          (X.writers ≡ 1) ⊎ ((X.count ≡ 1) × Some (stands at_subtract) X.of) →
          (X'.writers ≡ 1) ⊎ ((X'.count ≡ 1) × Some (stands at_subtract) X'.of)
      go (inl e) = inl (R.writers-are ∙ e)
      go (inr (_, (u, h))) = absurd (no-subtract u h)

  -- ---- downgrade

  -- with READERS_WAITING the thread goes on to take it off
  pub downgrades-on :
      {s s' : ℕ} → Move X X' t (up at_downgrade s) (up at_subtract s') → Invariant Few X → X.readers ≡ 1 →
      Reads X' 1 X.readers X.writers X.adds → Invariant Few X'
  unfolding stands answers_both answers_readers answers_writers about_to_notify poised
  downgrades-on M I readers1 R =
      let (kept4, kept5, kept-times) =
      writers-kept M I (λ e. R.writers-are ∙ e) R.adds-is (forward M about_to_notify refl) (λ e. inr (forward M answers_writers refl e)) refl in
      record {
        r0 = λ u h. (R.readers-are ∙ readers1, R.count-is);
        r1 = readers-kept M I (λ e. R.readers-are ∙ e) refl;
        r2 = λ _ _ e. inr (R.count-is, some-now (stands at_subtract) M.update refl);
        r3w = λ e _ _. absurd (omega (arith, R.count-is));
        r3b = λ e _ _. absurd (omega (arith, R.count-is));
        r3r = λ few e _ _. absurd (omega (arith, R.count-is));
        r4 = kept4;
        r5 = kept5;
        times = kept-times;
      }

  -- without it the call ends
  pub downgrades-off :
      {s s' : ℕ} → Move X X' t (up at_downgrade s) (up outside s') → Invariant Few X → X.count ≡ MASK → X.readers ≡ 0 →
      Reads X' 1 X.readers X.writers X.adds → Invariant Few X'
  unfolding stands answers_both answers_readers answers_writers about_to_notify poised
  downgrades-off M I full readers0 R =
      let (kept4, kept5, kept-times) =
      writers-kept M I (λ e. R.writers-are ∙ e) R.adds-is (forward M about_to_notify refl) (λ e. inr (forward M answers_writers refl e)) refl in
      record {
        r0 = λ u h. absurd (omega (arith, (I.r0 u (back M (stands at_subtract) refl u h)).1));
        r1 = readers-kept M I (λ e. R.readers-are ∙ e) refl;
        r2 = λ _ _ e. absurd (omega (arith, R.readers-are));
        r3w = λ e _ _. absurd (omega (arith, R.count-is));
        r3b = λ e _ _. absurd (omega (arith, R.count-is));
        r3r = λ few e _ _. absurd (omega (arith, R.count-is));
        r4 = kept4;
        r5 = kept5;
        times = kept-times;
      }

  -- the downgrader takes READERS_WAITING off: it is the only one there
  pub subtracts :
      {s s' : ℕ} → Move X X' t (up at_subtract s) (up at_wake_readers s') → Invariant Few X →
      ((u : ℕ) → u ≢ t → stands at_subtract (X.of u) ≡ true → ⊥) → X.count ≡ 1 → Reads X' X.count 0 X.writers X.adds → Invariant Few X'
  unfolding stands answers_both answers_readers answers_writers about_to_notify poised
  subtracts M I alone count1 R =
      let (kept4, kept5, kept-times) =
      writers-kept M I (λ e. R.writers-are ∙ e) R.adds-is (forward M about_to_notify refl) (λ e. inr (forward M answers_writers refl e)) refl in
      record {
        r0 = at-or-not M.update (λ u x. stands at_subtract x ≡ true → (X'.readers ≡ 1) × (X'.count ≡ 1)) no_way (λ u d h. absurd (alone u d h));
        r1 = λ u h. inr (some-now (stands at_wake_readers) M.update refl);
        r2 = λ _ _ e. absurd (omega (arith, R.readers-are));
        r3w = λ e _ _. absurd (omega (arith, R.count-is));
        r3b = λ e _ _. absurd (omega (arith, R.count-is));
        r3r = λ few e _ _. absurd (omega (arith, R.count-is));
        r4 = kept4;
        r5 = kept5;
        times = kept-times;
      }

  -- ---- the exchanges of wake_writer_or_readers, on an unlocked state

  -- WRITERS_WAITING is taken off, alone or from both flags: the thread goes on to wake_writer
  pub exchanges-writers :
      {s s' : ℕ} → Move X X' t (up at_exchange_writers s) (up at_notify s') → Invariant Few X → X.count ≡ 0 → X.readers ≡ 0 →
      Reads X' 0 X.readers 0 X.adds → Invariant Few X'
  unfolding stands answers_both answers_readers answers_writers about_to_notify poised
  exchanges-writers M I count0 readers0 R = record {
    r0 = λ u h. absurd (omega (arith, (I.r0 u (back M (stands at_subtract) refl u h)).1));
    r1 = readers-kept M I (λ e. R.readers-are ∙ e) refl;
    r2 = λ e _ _. absurd (omega (arith, R.count-is));
    r3w = λ _ _ e. absurd (omega (arith, R.writers-are));
    r3b = λ _ _ e. absurd (omega (arith, R.writers-are));
    r3r = λ few _ e _. absurd (omega (arith, R.readers-are));
    r4 = λ few u h. inr (some-now about_to_notify M.update refl);
    r5 = λ few u h. inr (some-now answers_writers M.update refl);
    times = rw R.adds-is (all-update (in_time X.adds) M.update M.early I.times);
  }

  pub exchanges-both :
      {s s' : ℕ} → Move X X' t (up at_exchange_both s) (up at_notify_both s') → Invariant Few X → X.count ≡ 0 → X.readers ≡ 1 →
      Reads X' 0 X.readers 0 X.adds → Invariant Few X'
  unfolding stands answers_both answers_readers answers_writers about_to_notify poised
  exchanges-both M I count0 readers1 R = record {
    r0 = λ u h. absurd (omega (arith, (I.r0 u (back M (stands at_subtract) refl u h)).1));
    r1 = λ u h. inl (R.readers-are ∙ readers1);
    r2 = λ e _ _. absurd (omega (arith, R.count-is));
    r3w = λ _ _ e. absurd (omega (arith, R.writers-are));
    r3b = λ _ _ e. absurd (omega (arith, R.writers-are));
    r3r = λ few _ _ _. some-now (answers_readers X'.adds) M.update refl;
    r4 = λ few u h. inr (some-now about_to_notify M.update refl);
    r5 = λ few u h. inr (some-now answers_writers M.update refl);
    times = rw R.adds-is (all-update (in_time X.adds) M.update M.early I.times);
  }

  -- READERS_WAITING is taken off
  pub exchanges-readers :
      {s s' : ℕ} → Move X X' t (up at_exchange_readers s) (up at_wake_readers s') → Invariant Few X → X.count ≡ 0 → X.writers ≡ 0 →
      Reads X' 0 0 0 X.adds → Invariant Few X'
  unfolding stands answers_both answers_readers answers_writers about_to_notify poised
  exchanges-readers M I count0 writers0 R =
      let (kept4, kept5, kept-times) =
      writers-kept M I (λ e. absurd (omega arith)) R.adds-is (forward M about_to_notify refl) (λ e. inr (forward M answers_writers refl e))
      refl in
      record {
        r0 = λ u h. absurd (omega (arith, (I.r0 u (back M (stands at_subtract) refl u h)).1));
        r1 = λ u h. inr (some-now (stands at_wake_readers) M.update refl);
        r2 = λ e _ _. absurd (omega (arith, R.count-is));
        r3w = λ _ _ e. absurd (omega (arith, R.writers-are));
        r3b = λ _ _ e. absurd (omega (arith, R.writers-are));
        r3r = λ few _ e _. absurd (omega (arith, R.readers-are));
        r4 = kept4;
        r5 = kept5;
        times = kept-times;
      }

-- ---- a notification

ltb-suc : (a b : ℕ) → ltb a b ≡ true → ltb a (b + 1) ≡ true
ltb-suc a b h = lt-ltb a (b + 1) (omega (arith, ltb-true a b h))

-- who answers for the readers does so after one more notification
readers-later : (adds : ℕ) (l : Place) → answers_readers adds l ≡ true → answers_readers (adds + 1) l ≡ true
unfolding answers_readers
readers-later adds l =
    go (not l.asleep)
    (eqb l.code at_notify_both || eqb l.code at_wake_writer_both || eqb l.code at_exchange_readers || eqb l.code in_write
    || eqb l.code in_write_beside_others) (eqb l.code at_write_wait) (ltb l.since adds) refl
  where
    go : (a b c d : Bool) → ltb l.since adds ≡ d → (a && (b || (c && d))) ≡ true → (a && (b || (c && ltb l.since (adds + 1)))) ≡ true
    go false b c d q h = no_way h
    go true true c d q h = refl
    go true false false d q h = no_way h
    go true false true true q h = ltb-suc l.since adds q
    go true false true false q h = no_way h

pub in-time : (adds : ℕ) (l : Place) → in_time adds l ≡ true → l.since ≤ adds
unfolding in_time
in-time adds l h = go (ltb adds l.since) refl h
  where
    go : (b : Bool) → ltb adds l.since ≡ b → not b ≡ true → l.since ≤ adds
    go true q k = no_way k
    go false q k = ltb-false adds l.since q

-- after a notification no sequence is what writer_notify is
not-poised : (adds : ℕ) (l : Place) → in_time adds l ≡ true → poised (adds + 1) l ≡ true → ⊥
unfolding poised
not-poised adds l h = go (not l.asleep) (eqb l.code at_write_wait) (eqb l.since (adds + 1)) refl
  where
    go : (a b c : Bool) → eqb l.since (adds + 1) ≡ c → (a && b && c) ≡ true → ⊥
    go true true true q k = omega (arith, in-time adds l h, eqb-true l.since (adds + 1) q)
    go true true false q k = no_way k
    go true false c q k = no_way k
    go false b c q k = no_way k

later : (adds : ℕ) (l : Place) → l.since ≤ adds → in_time (adds + 1) l ≡ true
unfolding in_time
later adds l h = rw (le-ltb (adds + 1) l.since (omega arith)) refl

-- wake_writer's fetch_add: only writers were waiting, or readers too
pub data Adds : ℕ → ℕ → Type 0 where
  alone : Adds at_notify at_wake_writer
  beside : Adds at_notify_both at_wake_writer_both

module _ {Few : Type 0} {X X' : LockView} {t : ℕ} (I : Invariant Few X) (R : Reads X' X.count X.readers X.writers (X.adds + 1)) where
  adds-to :
      {k k' s s' : ℕ} → Move X X' t (up k s) (up k' s') → stands at_subtract (up k' s') ≡ false →
      still (stands at_wake_readers) (up k s) (up k' s') ≡ true → still (stands at_subtract) (up k s) (up k' s') ≡ true →
      still (stands at_exchange_writers) (up k s) (up k' s') ≡ true → still answers_both (up k s) (up k' s') ≡ true →
      still (answers_readers X.adds) (up k s) (up k' s') ≡ true → answers_writers (up k' s') ≡ true → Invariant Few X'
  adds-to M subtract f-wake f-subtract f-writers-alone f-both f-readers answers = record {
    r0 = λ u h. let (x, y) = I.r0 u (back M (stands at_subtract) subtract u h) in (R.readers-are ∙ x, R.count-is ∙ y);
    r1 = readers-kept M I (λ q. R.readers-are ∙ q) f-wake;
    r2 = λ x y q. two (I.r2 (rw R.count-is at x) (rw R.count-is at y) (sym R.readers-are ∙ q));
    r3w =
        λ x y q. forward M (stands at_exchange_writers) f-writers-alone
        (I.r3w (sym R.count-is ∙ x) (sym R.readers-are ∙ y) (sym R.writers-are ∙ q));
    r3b = λ x y q. forward M answers_both f-both (I.r3b (sym R.count-is ∙ x) (sym R.readers-are ∙ y) (sym R.writers-are ∙ q));
    r3r =
        λ few x y q. more (forward M (answers_readers X.adds) f-readers
        (I.r3r few (sym R.count-is ∙ x) (sym R.readers-are ∙ y) (sym R.writers-are ∙ q)));
    r4 = λ few u h. absurd (not-poised X.adds (X'.of u) (in-times u) (rw R.adds-is at h));
    r5 = λ few u h. inr (some-now answers_writers M.update answers);
    times = λ u. rw R.adds-is (later X.adds (X'.of u) (in-time X.adds (X'.of u) (in-times u)));
  }
    where
      two :
          (X.writers ≡ 1) ⊎ ((X.count ≡ 1) × Some (stands at_subtract) X.of) →
          (X'.writers ≡ 1) ⊎ ((X'.count ≡ 1) × Some (stands at_subtract) X'.of)
      two (inl q) = inl (R.writers-are ∙ q)
      two (inr (x, y)) = inr (R.count-is ∙ x, forward M (stands at_subtract) f-subtract y)

      more : Some (answers_readers X.adds) X'.of → Some (answers_readers X'.adds) X'.of
      more (u, h) = (u, rw R.adds-is (readers-later X.adds (X'.of u) h))

      in-times : All (in_time X.adds) X'.of
      in-times = all-update (in_time X.adds) M.update M.early I.times

  pub notifies : {k k' s s' : ℕ} → Adds k k' → Move X X' t (up k s) (up k' s') → Invariant Few X'
  unfolding stands answers_both answers_readers answers_writers
  notifies alone M = adds-to M refl refl refl refl refl refl refl
  notifies beside M = adds-to M refl refl refl refl refl refl refl

-- ---- what it says: a sleeper on an unlocked lock has another thread that is awake, in write or in an unlocking call

-- in write, or behind the operation of an unlock that freed it, or at the last step of a downgrade: the places between the two named here
abbrev pub tending : ℕ → Bool
tending k = ltb outside k && ltb k at_read_unlock

-- awake there
unfoldable pub busy : Place → Bool
busy l = not l.asleep && tending l.code

module _ (l : Place) (awake : not l.asleep ≡ true) where
  busy-at : (k : ℕ) → tending k ≡ true → eqb l.code k ≡ true → busy l ≡ true
  unfolding busy
  busy-at k h e = rw (awake, eqb-true l.code k e) h

  -- awake at one of several such places, one after the other
  or_at : (rest : Bool) (k : ℕ) → tending k ≡ true → (rest ≡ true → busy l ≡ true) → (rest || eqb l.code k) ≡ true → busy l ≡ true
  or_at rest k h others e = or_cases rest (eqb l.code k) (busy l ≡ true) e others (busy-at k h)

stands-busy : (k : ℕ) → tending k ≡ true → (l : Place) → stands k l ≡ true → busy l ≡ true
unfolding stands
stands-busy k w l h = busy-at l (and_left (not l.asleep) _ h) k w (and_right (not l.asleep) _ h)

both-busy : (l : Place) → answers_both l ≡ true → busy l ≡ true
unfolding answers_both
both-busy l h =
    let a = and_left (not l.asleep) _ h in
    or_at l a _ at_exchange_both refl (busy-at l a at_exchange_writers refl) (and_right (not l.asleep) _ h)

readers-busy : (adds : ℕ) (l : Place) → answers_readers adds l ≡ true → busy l ≡ true
unfolding answers_readers
readers-busy adds l h =
    let a = and_left (not l.asleep) _ h in
    or_cases _ (eqb l.code at_write_wait && ltb l.since adds) (busy l ≡ true) (and_right (not l.asleep) _ h)
    (or_at l a _ in_write_beside_others refl (or_at l a _ in_write refl (or_at l a _ at_exchange_readers refl
    (or_at l a _ at_wake_writer_both refl (busy-at l a at_notify_both refl)))))
    (λ e. busy-at l a at_write_wait refl (and_left (eqb l.code at_write_wait) _ e))

writers-busy : (l : Place) → answers_writers l ≡ true → busy l ≡ true
unfolding answers_writers
writers-busy l h =
    let a = and_left (not l.asleep) _ h in
    or_at l a _ at_wake_writer_both refl (or_at l a _ at_wake_writer refl (or_at l a _ at_notify_both refl (or_at l a _ at_notify refl
    (or_at l a _ at_write_wait refl (busy-at l a in_write_beside_others refl))))) (and_right (not l.asleep) _ h)

-- whoever sleeps on an unlocked lock has somebody there
pub nobody-lost :
    {Few : Type 0} (X : LockView) → Invariant Few X → Few → X.count ≡ 0 → X.readers ≤ 1 → X.writers ≤ 1 → (s : ℕ) →
    (reader_sleeps (X.of s) ≡ true) ⊎ (writer_sleeps (X.of s) ≡ true) → Some busy X.of
nobody-lost X I few count0 rl vl s = go
  where
    both_to : Some answers_both X.of → Some busy X.of
    both_to (u, h) = (u, both-busy (X.of u) h)

    reader : (v : ℕ) → X.writers ≡ v → X.readers ≡ 1 → Some busy X.of
    reader zero e readers1 = let (u, h) = I.r3r few count0 readers1 e in (u, readers-busy X.adds (X.of u) h)
    reader (suc n) e readers1 = both_to (I.r3b count0 readers1 (omega arith))

    writer : (r : ℕ) → X.readers ≡ r → X.writers ≡ 1 → Some busy X.of
    writer zero e writers1 = let (u, h) = I.r3w count0 e writers1 in (u, stands-busy at_exchange_writers refl (X.of u) h)
    writer (suc n) e writers1 = both_to (I.r3b count0 (omega arith) writers1)

    one : (X.readers ≡ 1) ⊎ Some (stands at_wake_readers) X.of → Some busy X.of
    one (inl e) = reader X.writers refl e
    one (inr (u, h)) = (u, stands-busy at_wake_readers refl (X.of u) h)

    five : (X.writers ≡ 1) ⊎ Some answers_writers X.of → Some busy X.of
    five (inl e) = writer X.readers refl e
    five (inr (u, h)) = (u, writers-busy (X.of u) h)

    go : (reader_sleeps (X.of s) ≡ true) ⊎ (writer_sleeps (X.of s) ≡ true) → Some busy X.of
    go (inl h) = one (I.r1 s h)
    go (inr h) = five (I.r5 few s h)

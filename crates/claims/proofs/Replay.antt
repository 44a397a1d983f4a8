-- For the replay, part after part and with any room, demand 3 holds with no premise on the notifications: each is an act, and there are no
-- more acts than record numbers. Assumes, as an argument, that demand 3 holds of every list of acts.
use Prim.Native.Nat.{ℕ, zero, suc, ◌+◌, ◌*◌, ◌/◌, ◌^◌, ◌≤◌, ◌<◌}
use native.Mathlib.Nat.{zero-add}
use native.Mathlib.Omega.{arith}
use mathlib.Core.Path.{◌≡◌, refl, sym, ap, subst, ◌∙◌}
use mathlib.Core.Logic.{◌≢◌}
use mathlib.Core.Bool.{Bool}
use mathlib.Core.List.{List, [], ◌∷◌, ◌++◌, append_assoc}
use lib.ListN.{length, drop, get_or, length-append, length-drop, get_or-append}
use lib.Seq.{drop-drop, drop-append-le}
use borrow.Author.Tests.{eq-eqb}
use Rattle.tally.specs.declared.Tally.{Tally}
use Rattle.world.specs.declared.World.{World}
use Rattle.world.specs.World.{fresh_world}
use Rattle.sound.specs.Sound.{sound_world}
use Rattle.acts.specs.declared.Fields.{Fields}
use Rattle.acts.specs.Acts.{act_of, acts_of, Sized, no-act, one-act}
use Rattle.kept.specs.Shape.{Shaped}
use Rattle.kept.proofs.Shape.{fresh-shaped}
use Rattle.kept.proofs.Tests.{decided}
use Rattle.replay_log.specs.declared.Stop.{Stop}
use Rattle.replay_log.specs.declared.Stop.TheVariants as S
use Rattle.replay_log.specs.declared.State.{State}
use Rattle.replay_log.specs.Run.{LAST, fields_of, state_of, noted, Run, prefixed, ending_of, record_line, record_state, run_of}
use Rattle.parts.specs.Parts.{has_ended, Bytes, part_run, Part, bytes_of, Reached, after, parts_from}
use Rattle.parts.proofs.Turns.{by-records}
use Rattle.parts.specs.Flags.{Kept}
use Rattle.parts.proofs.Flags.{bytes_drop, bytes_back, bytes-front, bytes-join, value-wide, next-world, record-keeps, run-keeps}
use Rattle.claims.specs.Claims.{notifications, DemandThree, EveryList, acts_in, replayed, acts_run, EveryReplay}
use Rattle.claims.proofs.Counts.{notifications-few}

-- ---- The records of a log as acts

-- so many records are so many acts
acts-length : (n : ℕ) (log : List ℕ) → length (acts_in n log) ≡ n
unfolding acts_in
acts-length zero log = refl
acts-length (suc n) log = ap suc (acts-length n (drop 10 log))

-- a value of four bytes has 32 bits
acts-sized : (n : ℕ) (log : List ℕ) → Bytes log → Sized (acts_in n log)
unfolding acts_in
acts-sized zero log b = no-act
acts-sized (suc n) log b = one-act (value-wide log b) (acts-sized n (drop 10 log) (bytes_drop 10 log b))

-- a record is read from its ten bytes, whatever stands behind them
fields-front : (l more : List ℕ) → 10 ≤ length l → fields_of (l ++ more) ≡ fields_of l
fields-front l more h =
    rw (
      at 2 (omega arith),
      at 3 (omega arith),
      at 4 (omega arith),
      at 5 (omega arith),
      at 6 (omega arith),
      at 7 (omega arith),
      at 8 (omega arith),
      at 9 (omega arith),
    ) refl
  where
    at : (k : ℕ) → k < 10 → get_or (l ++ more) k 0 ≡ get_or l k 0
    at k b = get_or-append l more 0 k (omega arith)

-- .. and so are the records that a list holds whole
acts-front : (n : ℕ) (l more : List ℕ) → 10 * n ≤ length l → acts_in n (l ++ more) ≡ acts_in n l
unfolding acts_in
acts-front zero l more h = refl
acts-front (suc n) l more h =
    ap (λ (a : Fields). a ∷ acts_in n (drop 10 (l ++ more))) (fields-front l more (omega arith))
    ∙ ap (λ (acts : List Fields). fields_of l ∷ acts)
    (ap (acts_in n) (drop-append-le 10 l more (omega arith)) ∙ acts-front n (drop 10 l) more (omega (arith, length-drop 10 l)))

-- the acts of some records, and then those of the records behind them
acts-joined :
    (m n : ℕ) (w : World) (l : List ℕ) →
    acts_of w (acts_in (m + n) l) ≡ acts_of (acts_of w (acts_in m l)) (acts_in n (drop (10 * m) l))
unfolding acts_in acts_of
acts-joined zero n w l = ap (λ (k : ℕ). acts_of w (acts_in k l)) (zero-add n)
acts-joined (suc m) n w l =
    let sum : suc m + n ≡ suc (m + n) = omega arith in
    let bytes : 10 + 10 * m ≡ 10 * suc m = omega arith in
    let next : World = (act_of w (fields_of l)).world in
    ap (λ (k : ℕ). acts_of w (acts_in k l)) sum
    ∙ (acts-joined m n next (drop 10 l)
    ∙ ap (λ (x : List ℕ). acts_of (acts_of next (acts_in m (drop 10 l))) (acts_in n x))
    (drop-drop (10 * m) 10 l ∙ ap (λ (k : ℕ). drop k l) bytes))

-- ---- A run, and a run in parts

-- A run over a log from a state: it ran the log's first records as acts, and gave each a number.
record Replays (s : State) (log : List ℕ) (r : Run) : Type 0 where
  count : ℕ
  used : r.used ≡ 10 * count
  within : 10 * count ≤ length log
  world : r.state.world ≡ acts_of s.world (acts_in count log)
  number : r.state.number ≡ s.number + count
  numbered : s.number ≤ LAST → r.state.number ≤ LAST

-- a run that used nothing
none :
    (s : State) (log : List ℕ) (r : Run) → r.used ≡ 0 → r.state.world ≡ s.world → r.state.number ≡ s.number → Replays s log r
unfolding acts_in acts_of
none s log r used world number =
    record { count = 0; used = omega arith; within = omega arith; world = world; number = omega arith; numbered = λ h. omega arith }

-- where a run goes on, the record has a number
has-number : (number : ℕ) (l : List ℕ) → ending_of number l ≡ 0 → number ≢ LAST
unfolding ending_of
has-number number l e q = let z : ending_of number l ≡ 22 = rw (eq-eqb number LAST q) refl in omega (arith, e, z)

-- a record, and the rest of the run
one_more :
    (sound : Bool) (l : List ℕ) (s : State) (rest : Run) → 10 ≤ length l → ending_of s.number l ≡ 0 → Kept sound s →
    Replays (record_state sound l s) (drop 10 l) rest → Replays s l (prefixed (record_line sound l s) 10 rest)
unfolding noted acts_in acts_of
one_more sound l s rest h e k p = record {
  count = suc p.count;
  used = omega (arith, p.used);
  within = omega (arith, p.within, length-drop 10 l);
  world = p.world ∙ ap (λ (w : World). acts_of w (acts_in p.count (drop 10 l))) (next-world sound l s k.flag);
  number = omega (arith, p.number);
  numbered = λ b. p.numbered (omega (arith, has-number s.number l e));
}

run-replays : (sound : Bool) (room : ℕ) (l : List ℕ) (s : State) → Bytes l → Kept sound s → Replays s l (run_of sound room l s)
run-replays sound =
    by-records sound (λ (room : ℕ) (l : List ℕ) (s : State) (r : Run). Bytes l → Kept sound s → Replays s l r)
    (λ room l s h b k. none s l _ refl refl refl)
    (λ room l s h event f b k. none s l _ refl refl refl)
    (λ room l s h number e z f b k. none s l _ refl refl refl)
    (λ room l s h e f rest p b k. one_more sound l s rest h e k (p (bytes_drop 10 l b) (record-keeps sound l s b k)))

-- bytes behind those that a run had change nothing of what it ran
front : (s : State) (l more : List ℕ) (r : Run) → Replays s l r → Replays s (l ++ more) r
front s l more r p = record {
  count = p.count;
  used = p.used;
  within = omega (arith, p.within, length-append l more);
  world = p.world ∙ ap (acts_of s.world) (sym (acts-front p.count l more p.within));
  number = p.number;
  numbered = p.numbered;
}

-- a run, and one behind it over the bytes that it left and more
joined :
    (s : State) (l more : List ℕ) (r next : Run) → Replays s l r → Replays r.state (drop r.used l ++ more) next →
    Replays s (l ++ more) (prefixed r.lines r.used next)
joined s l more r next p q = record {
  count = p.count + q.count;
  used = omega (arith, p.used, q.used);
  within = omega (arith, p.used, p.within, q.within, length-append (drop r.used l) more, length-drop r.used l, length-append l more);
  world =
      q.world
      ∙ (ap (λ (w : World). acts_of w (acts_in q.count (drop r.used l ++ more))) p.world
      ∙ (ap (λ (acts : List Fields). acts_of (acts_of s.world acts) (acts_in q.count (drop r.used l ++ more)))
      (sym (acts-front p.count l more p.within))
      ∙ (ap (λ (x : List ℕ). acts_of (acts_of s.world (acts_in p.count (l ++ more))) (acts_in q.count x)) rest
      ∙ sym (acts-joined p.count q.count s.world (l ++ more)))));
  number = omega (arith, p.number, q.number);
  numbered = λ h. q.numbered (p.numbered h);
}
  where
    rest : drop r.used l ++ more ≡ drop (10 * p.count) (l ++ more)
    rest =
        ap (λ (k : ℕ). drop k l ++ more) p.used ∙ sym (drop-append-le (10 * p.count) l more p.within)

-- part after part, whatever each left
parts-replay :
    (stop : Stop) (left : List ℕ) (s : State) (parts : List Part) → Shaped s.world → Bytes left → Bytes (bytes_of parts) →
    Replays s (left ++ bytes_of parts) (parts_from stop left s parts).run
unfolding parts_from bytes_of
parts-replay stop left s [] shaped bytes more = none s (left ++ []) _ refl refl refl
parts-replay stop left s (p ∷ parts) shaped bytes more =
    let l : List ℕ = left ++ p.bytes in
    let r : Run = part_run p.room l s in
    let here : Bytes l = bytes-join left p.bytes bytes (bytes-front p.bytes (bytes_of parts) more) in
    let ran : Replays s l r = run-replays (sound_world s.world) p.room l s here (record { shaped = shaped; flag = refl }) in
    let next : Reached = parts_from r.stop (drop r.used l) r.state parts in
    let behind : Replays r.state (drop r.used l ++ bytes_of parts) next.run =
    parts-replay r.stop (drop r.used l) r.state parts (run-keeps p.room l s shaped here).shaped
    (bytes_drop r.used l here) (bytes_back p.bytes (bytes_of parts) more) in
    subst (λ (log : List ℕ). Replays s log (parts_from stop left s (p ∷ parts)).run) (append_assoc left p.bytes (bytes_of parts))
    (decided (λ (a : Reached). Replays s (l ++ bytes_of parts) a.run) (has_ended r.stop)
    (record { run = r; left = drop r.used l }) (after r next)
    (λ z. front s l (bytes_of parts) r ran)
    (λ z. joined s l (bytes_of parts) r next.run ran behind))

-- ---- The replay from a fresh world

module _ (tally : Tally) (parts : List Part) (bytes : Bytes (bytes_of parts)) where
  ran : Replays (state_of fresh_world tally 0) (bytes_of parts) (replayed tally parts).run
  ran = parts-replay S.Short [] (state_of fresh_world tally 0) parts fresh-shaped (λ k. omega arith) bytes

  -- the acts are as many as the records used
  counted : (replayed tally parts).run.used / 10 ≡ ran.count
  counted = omega (arith, ran.used)

  acts-few : length (acts_run tally parts) < 2 ^ 32
  acts-few =
      omega (arith, acts-length ((replayed tally parts).run.used / 10) (bytes_of parts), counted, ran.number, ran.numbered (omega arith))

  notified-few : (lock : ℕ) → notifications (acts_run tally parts) lock < 2 ^ 32
  notified-few lock = omega (arith, notifications-few fresh_world (acts_run tally parts) lock, acts-few)

pub every-replay : EveryList → EveryReplay
every-replay every tally parts bytes =
    let acts : List Fields = acts_run tally parts in
    let demand : DemandThree acts = every acts (acts-sized ((replayed tally parts).run.used / 10) (bytes_of parts) bytes) in
    record {
      world_is =
          (ran tally parts bytes).world ∙ ap (λ (n : ℕ). acts_of fresh_world (acts_in n (bytes_of parts))) (sym (counted tally parts bytes));
      demand = demand;
      few = λ lock h. notified-few tally parts bytes lock;
      lock-wakes = λ lock h. demand.lock-wakes lock h (notified-few tally parts bytes lock);
      quiet-locks = λ quiet lock t h. demand.quiet-locks quiet lock t h (notified-few tally parts bytes lock);
    }

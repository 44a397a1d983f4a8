-- The loop of `run`: what is left of the run, behind what was written, is the whole run. Assumes nothing.
use Prim.Native.Nat.{ℕ, ◌+◌, ◌-◌, ◌≤◌, ◌<◌, min}
use native.Mathlib.Nat.{add-zero, sub-zero, zero-add}
use native.Mathlib.Omega.{arith}
use mathlib.Core.Path.{◌≡◌, refl, sym, ap, subst, ◌∙◌}
use mathlib.Core.Bool.{Bool, true, false}
use mathlib.Core.List.{List, [], ◌++◌, append_assoc}
use lib.Dec.{eqb, leb}
use lib.ListN.{length, take, drop, length-append, length-drop, length-take}
use lib.Seq.{drop-drop, length-take-le, take_all}
use borrow.Author.Tests.{leb-true, leb-false, le-leb, lt-leb, eqb-true}
use Rattle.std.specs.Prelude.{Option, Some, None, Result, Ok, Err}
use Rattle.std.specs.List.{copy_within}
use Rattle.calls.specs.declared.Event.{Event}
use Rattle.calls.specs.declared.Event.TheVariants as E
use Rattle.tally.specs.declared.Tally.{Tally}
use Rattle.tally.specs.Tally.{add_event, grants_of}
use Rattle.lines.specs.Lines.{line_of, laid, lay_of, end_of}
use Rattle.lines.proofs.Laid.{laid-take, laid-drop, laid-length, laid_none, lay-fits, lay-not, end_fits, end-not}
use Rattle.lines.proofs.Line.{line-some}
use Rattle.world.specs.declared.World.{World}
use Rattle.world.specs.World.{thread_at}
use Rattle.step.specs.declared.Acted.{Acted}
use Rattle.acts.specs.declared.Fields.{Fields}
use Rattle.replay_log.specs.declared.Stop.{Stop}
use Rattle.replay_log.specs.declared.Stop.TheVariants as S
use Rattle.replay_log.specs.declared.Ran.{Ran}
use Rattle.replay_log.specs.declared.Finished.{Finished}
use Rattle.replay_log.specs.declared.Refusal.{Refusal}
use Rattle.replay_log.specs.declared.Refusal.TheVariants as R
use Rattle.replay_log.specs.Numbers.{number_of, number_told}
use Rattle.replay_log.specs.declared.State.{State}
use Rattle.replay_log.specs.Run.{LAST, Run, Answers, answer_of, stopped, prefixed, fields_of, noted, ending_of, last_line, last_state, turn_of, record_line, record_state, run_of, ran_of, finish_of, finished_tally, finished_line, finished_of, moved_of, carried_of}
use Rattle.replay_log.specs.InPlace.{fits, told, Told, NoRoom, Tells, acted_on, Acted_on, Acts, answer_in, next_event, numbered_on, Went, Ends, Turns}
use Rattle.replay_log.proofs.Unroll.{prefixed-none, prefixed-twice, runs-out, unroll-record, turn-goes, turn-full, turn-ends, turn-ends-full}

-- a part from a place to the end, as the code takes it
pub part : (l : List ℕ) (a : ℕ) → take (length l - a) (drop a l) ≡ drop a l
part l a = take_all (length l - a) (drop a l) (omega (arith, length-drop a l))

drop_more : (a b : List ℕ) (n k : ℕ) → drop n a ≡ drop n b → drop (n + k) a ≡ drop (n + k) b
drop_more a b n k h = sym (drop-drop k n a) ∙ (ap (drop k) h ∙ drop-drop k n b)

-- laying a line leads on exactly where it has room
module _ (out line : List ℕ) (at : ℕ) {next : ℕ} (some : 1 ≤ length line) (e : next ≡ end_of (length out) at line) where
  no_room : next ≡ at → leb (at + length line) (length out) ≡ false
  no_room same = by (leb (at + length line) (length out)) refl
    where
      by : (b : Bool) → leb (at + length line) (length out) ≡ b → leb (at + length line) (length out) ≡ false
      by true q = let bad : at + length line ≡ at = sym (end_fits out at line q) ∙ (sym e ∙ same) in absurd (omega arith)
      by false q = q

  has_room : (next ≡ at → ⊥) → leb (at + length line) (length out) ≡ true
  has_room other = by (leb (at + length line) (length out)) refl
    where
      by : (b : Bool) → leb (at + length line) (length out) ≡ b → leb (at + length line) (length out) ≡ true
      by true q = q
      by false q = absurd (other (e ∙ end-not out at line q))

-- an event's line, laid or not
module _ (e : Event) (grant : Bool) (r : Ran) (out out' : List ℕ) {next : ℕ} (en : next ≡ end_of (length out) r.count (line_of r.state.number e)) (eo : out' ≡ lay_of out r.count (line_of r.state.number e)) where
  pub not-told : next ≡ r.count → NoRoom e r r out out'
  not-told same =
      let q = no_room out (line_of r.state.number e) r.count (line-some r.state.number e) en same in
      record { room = q; same = refl; keeps = eo ∙ lay-not out r.count (line_of r.state.number e) q }

  pub is-told : (next ≡ r.count → ⊥) → (tally : Tally) → tally ≡ add_event r.state.tally e grant →
      Told e grant r (record { state = record { world = r.state.world; tally = tally; number = r.state.number }; used = r.used; count = next; stop = r.stop }) out out'
  unfolding told
  is-told other tally et =
      let q = has_room out (line_of r.state.number e) r.count (line-some r.state.number e) en other in
      record {
        room = q;
        after = rw (et, en, end_fits out r.count (line_of r.state.number e) q) refl;
        lays = eo ∙ lay-fits out r.count (line_of r.state.number e) q;
      }

-- no refusal, or one
pub if-none : (n : ℕ) (o : Option Refusal) → o ≡ None → number_told o ≡ n → n ≡ 0
if-none n o e told = sym told ∙ ap number_told e

some_number : (refusal : Refusal) → eqb (number_of refusal) 0 ≡ false
some_number R.BadMark = refl
some_number R.ShortRecord = refl
some_number R.NoNumber = refl

pub if-some :
    (n number : ℕ) (o : Option Refusal) (refusal : Refusal) → o ≡ Some refusal → number ≡ number_of refusal → number_told o ≡ n → (eqb number 0 ≡ false) × (number ≡ n)
if-some n number o refusal e is told = (ap (λ (k : ℕ). eqb k 0) is ∙ some_number refusal, is ∙ (sym (ap number_told e) ∙ told))

-- a record that has a number leaves one for the next
pub numbered : (number : ℕ) (l : List ℕ) → ending_of number l ≡ 0 → number ≡ LAST → ⊥
unfolding ending_of
numbered number l e h = let bad : ◌≡◌ {A = ℕ} 22 0 = sym (rw h refl) ∙ e in omega arith

-- an act of a record, and a turn, where the line has no room
module _ (r r' : Ran) (out out' : List ℕ) (e : Event) {res : Result (Unit {0}) Stop} (x : Stop) (is : res ≡ Err x) where
  pub not-acted : (a : Fields) (d : Acted) (grant : Bool) → e ≡ d.event → Tells e grant r r' out out' (Err x) → Acts a d r r' out out' res
  unfolding Tells Acts
  not-acted a d grant ee t = rw is (by x t)
    where
      by : (y : Stop) → Tells e grant r r' out out' (Err y) → Acts a d r r' out out' (Err y)
      by S.Room t = rw (← ee) t
      by S.Short t = absurd t
      by (S.Ended number) t = absurd t

  pub not-ended : (sound : Bool) (l : List ℕ) (grant : Bool) → e ≡ next_event sound l r → Tells e grant r r' out out' (Err x) → Turns sound l r r' out out' res
  unfolding Tells Turns
  not-ended sound l grant ee t = rw is (by x t)
    where
      by : (y : Stop) → Tells e grant r r' out out' (Err y) → Turns sound l r r' out out' (Err y)
      by S.Room t = rw (← ee) t
      by S.Short t = absurd t
      by (S.Ended number) t = absurd t

-- an act of a record, told and stored
pub acts_told :
    (a : Fields) (d : Acted) (r r' : Ran) (out out' : List ℕ) (e : Event) (grant : Bool) {done : Unit {0}} (w : World) → e ≡ d.event →
    grant ≡ grants_of (thread_at r.state.world a.thread).at → w ≡ d.world → Tells e grant r r' out out' (Ok done) →
    Acts a d r (record { state = record { world = w; tally = r'.state.tally; number = r'.state.number }; used = r'.used; count = r'.count; stop = r'.stop }) out out' (Ok tt)
unfolding Tells Acts told acted_on
acts_told a d r r' out out' e grant w ee eg ew t = record {
  room = ap (fits out r) (sym ee) ∙ t.room;
  after = rw (t.after, ew, ee, eg) refl;
  lays = t.lays ∙ ap (λ (x : Event). laid out r.count (line_of r.state.number x)) ee;
}

-- telling an event leaves the world
pub told_world : (e : Event) (grant : Bool) (r r' : Ran) (out out' : List ℕ) {done : Unit {0}} → Tells e grant r r' out out' (Ok done) → r'.state.world ≡ r.state.world
unfolding Tells told
told_world e grant r r' out out' t = ap (λ (x : Ran). x.state.world) t.after

-- doing an act leaves the number
pub acted_number : (a : Fields) (d : Acted) (r r' : Ran) (out out' : List ℕ) {done : Unit {0}} → Acts a d r r' out out' (Ok done) → r'.state.number ≡ r.state.number
unfolding Acts acted_on
acted_number a d r r' out out' t = ap (λ (x : Ran). x.state.number) t.after

-- the refusal that ends the run is what is told next
pub refusal-next : (sound : Bool) (l : List ℕ) (r : Ran) (number : ℕ) → (eqb number 0 ≡ false) × (number ≡ ending_of r.state.number l) → E.Refused number ≡ next_event sound l r
unfolding next_event
refusal-next sound l r number h = rw (← h.1, h.0) refl

-- a turn over a record that has an act
module _ (sound : Bool) (l : List ℕ) (r r' : Ran) (out out' : List ℕ) (a : Fields) (z : ending_of r.state.number l ≡ 0) (ea : a ≡ fields_of l) where
  pub turn-acts :
      {done : Unit {0}} → Acts a (answer_of sound r.state.world a) r r' out out' (Ok done) →
      Turns sound l r (record { state = record { world = r'.state.world; tally = r'.state.tally; number = r'.state.number + 1 }; used = r'.used; count = r'.count; stop = r'.stop }) out out' (Ok tt)
  unfolding Acts Turns numbered_on
  turn-acts t = by (subst (λ (x : Fields). Acted_on x (answer_of sound r.state.world x) r r' out out') ea t)
    where
      by : Acted_on (fields_of l) (answer_in sound l r) r r' out out' → Went sound l r (numbered_on r') out out'
      by t = record { goes = z; room = t.room; after = ap numbered_on t.after; lays = t.lays }

  pub turn-has-no-room : {res : Result (Unit {0}) Stop} (x : Stop) → res ≡ Err x → Acts a (answer_of sound r.state.world a) r r' out out' (Err x) → Turns sound l r r' out out' res
  unfolding Acts Turns next_event
  turn-has-no-room x is t = rw is (by x (subst (λ (b : Fields). Acts b (answer_of sound r.state.world b) r r' out out' (Err x)) ea t))
    where
      by : (y : Stop) → Acts (fields_of l) (answer_in sound l r) r r' out out' (Err y) → Turns sound l r r' out out' (Err y)
      by S.Room t = rw z t
      by S.Short t = absurd t
      by (S.Ended number) t = absurd t

-- room for so many bytes behind a place
shifted : (at n len : ℕ) → at ≤ len → leb n (len - at) ≡ leb (at + n) len
shifted at n len h = by (leb (at + n) len) refl
  where
    by : (b : Bool) → leb (at + n) len ≡ b → leb n (len - at) ≡ leb (at + n) len
    by true q = le-leb n (len - at) (let r : at + n ≤ len = leb-true _ _ q in omega arith) ∙ sym q
    by false q = lt-leb n (len - at) (let r : len < at + n = leb-false _ _ q in omega arith) ∙ sym q

-- what the loop's variables say of the run: `rest` is still to be run
pub record Inv (sound : Bool) (log out₀ : List ℕ) (s₀ : State) (out : List ℕ) (r : Ran) (rest : List ℕ) : Type 0 where
  pub stop : r.stop ≡ S.Short
  pub within : r.used + length rest ≡ length log
  pub room : r.count ≤ length out
  pub same : length out ≡ length out₀
  pub kept : drop r.count out ≡ drop r.count out₀
  pub run : prefixed (take r.count out) r.used (run_of sound (length out - r.count) rest r.state) ≡ run_of sound (length out₀) log s₀

pub inv-start :
    (sound : Bool) (log out₀ : List ℕ) (s : State) →
    Inv sound log out₀ s out₀ (record { state = s; used = 0; count = 0; stop = S.Short }) log
inv-start sound log out₀ s = record {
  stop = refl;
  within = zero-add (length log);
  room = omega arith;
  same = refl;
  kept = refl;
  run = ap (λ (room : ℕ). prefixed [] 0 (run_of sound room log s)) (sub-zero (length out₀)) ∙ prefixed-none (run_of sound (length out₀) log s);
}

module _ (sound : Bool) (log out₀ : List ℕ) (s₀ : State) (out : List ℕ) (r : Ran) (rest : List ℕ) (inv : Inv sound log out₀ s₀ out r rest) where
  abbrev s : State
  s = r.state

  abbrev room : ℕ
  room = length out - r.count

  -- the run ends here, with a last part of lines
  module _ (last : Run) (out' : List ℕ) (e : run_of sound room rest s ≡ last) (enough : r.count + length last.lines ≤ length out) (wrote : out' ≡ laid out r.count last.lines) (none : last.used ≡ 0) where
    whole : run_of sound (length out₀) log s₀ ≡ prefixed (take r.count out) r.used last
    whole = sym inv.run ∙ ap (prefixed (take r.count out) r.used) e

    front : length (take r.count out) ≡ r.count
    front = length-take-le r.count out inv.room

    long : length (take r.count out ++ last.lines) ≡ r.count + length last.lines
    long = length-append (take r.count out) last.lines ∙ ap (λ (k : ℕ). k + length last.lines) front

    back : drop (r.count + length last.lines) out ≡ drop (r.count + length last.lines) out₀
    back = drop_more out out₀ r.count (length last.lines) inv.kept

    as-laid : laid out r.count last.lines ≡ laid out₀ 0 (take r.count out ++ last.lines)
    unfolding laid
    as-laid =
        sym (append_assoc (take r.count out) last.lines (drop (r.count + length last.lines) out))
        ∙ ap (λ (l : List ℕ). (take r.count out ++ last.lines) ++ l) (back ∙ ap (λ (k : ℕ). drop k out₀) (sym (zero-add (length (take r.count out ++ last.lines)) ∙ long)))

    same_length : length out' ≡ length out
    same_length = ap length wrote ∙ laid-length out r.count last.lines enough

    ends : Answers (run_of sound (length out₀) log s₀) (length log)
        (record { state = last.state; used = r.used; count = r.count + length last.lines; stop = last.stop }) out₀ out'
    unfolding ran_of
    ends =
        rw whole (record {
          ran = rw (none, add-zero, long) refl;
          wrote = wrote ∙ as-laid;
          counts = (omega (arith, same_length), sym (length-take-le (r.count + length last.lines) out' (omega (arith, same_length))));
          within = omega (arith, inv.within);
        })

  -- nothing more was run
  stays : (stop : Stop) (out' : List ℕ) → out' ≡ out → run_of sound room rest s ≡ stopped stop s →
      Answers (run_of sound (length out₀) log s₀) (length log) (record { state = r.state; used = r.used; count = r.count; stop = stop }) out₀ out'
  stays stop out' eo e =
      subst (λ (k : ℕ). Answers (run_of sound (length out₀) log s₀) (length log) (record { state = r.state; used = r.used; count = k; stop = stop }) out₀ out') (add-zero r.count)
      (ends (stopped stop s) out' e (omega (arith, inv.room)) (eo ∙ sym (laid_none out r.count)) refl)

  -- fewer bytes are left than a record has
  pub ends-short : length rest < 10 → Answers (run_of sound (length out₀) log s₀) (length log) r out₀ out
  ends-short few =
      subst (λ (x : Stop). Answers (run_of sound (length out₀) log s₀) (length log) (record { state = r.state; used = r.used; count = r.count; stop = x }) out₀ out) (sym inv.stop)
      (stays S.Short out refl (runs-out sound room rest s few))

  -- a record, and what is behind it
  module _ (x rest' : List ℕ) (parted : rest ≡ x ++ rest') (ten : length x ≡ 10) where
    abbrev line : List ℕ
    line = record_line sound x s

    unrolled : run_of sound room rest s ≡ turn_of room x s line (run_of sound (room - length line) rest' (record_state sound x s))
    unrolled = ap (λ (l : List ℕ). run_of sound room l s) parted ∙ unroll-record sound room x rest' s ten

    -- the next line has no room
    ends-full : (r' : Ran) (out' : List ℕ) → NoRoom (next_event sound x r) r r' out out' →
        Answers (run_of sound (length out₀) log s₀) (length log) (record { state = r'.state; used = r'.used; count = r'.count; stop = S.Room }) out₀ out'
    unfolding next_event
    ends-full r' out' n =
        subst (λ (v : Ran). Answers (run_of sound (length out₀) log s₀) (length log) (record { state = v.state; used = v.used; count = v.count; stop = S.Room }) out₀ out') (sym n.same)
        (stays S.Room out' n.keeps (unrolled ∙ by (eqb (ending_of r.state.number x) 0) refl))
      where
        by : (b : Bool) → eqb (ending_of r.state.number x) 0 ≡ b → turn_of room x s line (run_of sound (room - length line) rest' (record_state sound x s)) ≡ stopped S.Room s
        by true q =
            turn-full room x s line _ (eqb-true _ 0 q)
            (shifted r.count (length line) (length out) inv.room ∙ (ap (λ (e : Event). fits out r e) (sym (rw q refl)) ∙ n.room))
        by false q =
            turn-ends-full room x s line _ {number = ending_of r.state.number x} refl q
            (shifted r.count (length (last_line (ending_of r.state.number x) s)) (length out) inv.room ∙ (ap (λ (e : Event). fits out r e) (sym (rw q refl)) ∙ n.room))

    -- a refusal ends the run
    ends_by : (number : ℕ) (r' : Ran) (out' : List ℕ) → Ends number x r r' out out' →
        Answers (run_of sound (length out₀) log s₀) (length log) (record { state = r'.state; used = r'.used; count = r'.count; stop = S.Ended number }) out₀ out'
    unfolding told
    ends_by number r' out' n =
        let t = n.tells in
        subst (λ (v : Ran). Answers (run_of sound (length out₀) log s₀) (length log) (record { state = v.state; used = v.used; count = v.count; stop = S.Ended number }) out₀ out') (sym t.after)
        (ends (record { lines = last_line number s; state = last_state number s; used = 0; stop = S.Ended number }) out'
        (unrolled ∙ turn-ends room x s line _ n.is n.some (shifted r.count (length (last_line number s)) (length out) inv.room ∙ t.room)) (leb-true _ _ t.room) t.lays refl)

    -- either of them
    pub ends-so : (r' : Ran) (out' : List ℕ) (x' : Stop) → Turns sound x r r' out out' (Err x') →
        Answers (run_of sound (length out₀) log s₀) (length log) (record { state = r'.state; used = r'.used; count = r'.count; stop = x' }) out₀ out'
    unfolding Turns
    ends-so r' out' S.Short t = absurd t
    ends-so r' out' S.Room t = ends-full r' out' t
    ends-so r' out' (S.Ended number) t = ends_by number r' out' t

    -- the run goes on behind the record
    pub goes-on : (r' : Ran) (out' : List ℕ) {done : Unit {0}} → Turns sound x r r' out out' (Ok done) →
        Inv sound log out₀ s₀ out' (record { state = r'.state; used = r'.used + 10; count = r'.count; stop = r'.stop }) rest'
    unfolding numbered_on acted_on noted Turns
    goes-on r' out' n =
        subst (λ (v : Ran). Inv sound log out₀ s₀ out' (record { state = v.state; used = v.used + 10; count = v.count; stop = v.stop }) rest') (sym n.after)
        (record {
          stop = inv.stop;
          within = let a = length-append x rest' in omega (arith, inv.within, ap length parted);
          room = omega (arith, inside, longer);
          same = longer ∙ inv.same;
          kept = ap (drop (r.count + length line)) n.lays ∙ (laid-drop out r.count line inside ∙ drop_more out out₀ r.count (length line) inv.kept);
          run = going;
        })
      where
        inside : r.count + length line ≤ length out
        inside = leb-true _ _ n.room

        longer : length out' ≡ length out
        longer = ap length n.lays ∙ laid-length out r.count line inside

        s' : State
        s' = record_state sound x s

        behind : Run
        behind = run_of sound (room - length line) rest' s'

        turned : run_of sound room rest s ≡ prefixed line 10 behind
        turned = unrolled ∙ turn-goes room x s line behind n.goes (shifted r.count (length line) (length out) inv.room ∙ n.room)

        room-is : length out' - (r.count + length line) ≡ room - length line
        room-is = omega (arith, longer)

        going : prefixed (take (r.count + length line) out') (r.used + 10) (run_of sound (length out' - (r.count + length line)) rest' s') ≡ run_of sound (length out₀) log s₀
        going =
            ap (λ (l : List ℕ). prefixed l (r.used + 10) (run_of sound (length out' - (r.count + length line)) rest' s')) (ap (take (r.count + length line)) n.lays ∙ laid-take out r.count line inside)
            ∙ (ap (λ (k : ℕ). prefixed (take r.count out ++ line) (r.used + 10) (run_of sound k rest' s')) room-is
            ∙ (sym (prefixed-twice (take r.count out) line r.used 10 behind) ∙ (ap (prefixed (take r.count out) r.used) (sym turned) ∙ inv.run)))

-- .. for the soundness that the code found
pub retold :
    {b c : Bool} (log out₀ out' : List ℕ) (s₀ : State) (r : Ran) → b ≡ c → Answers (run_of b (length out₀) log s₀) (length log) r out₀ out' →
    Answers (run_of c (length out₀) log s₀) (length log) r out₀ out'
retold log out₀ out' s₀ r e h = subst (λ (d : Bool). Answers (run_of d (length out₀) log s₀) (length log) r out₀ out') e h

-- a part of a log, as the code takes it
pub from-part :
    (sound : Bool) (l : List ℕ) (a : ℕ) (s : State) (r : Ran) (out out' : List ℕ) →
    Answers (run_of sound (length out) (take (length l - a) (drop a l)) s) (length (take (length l - a) (drop a l))) r out out' →
    Answers (run_of sound (length out) (drop a l) s) (length l - a) r out out'
from-part sound l a s r out out' h =
    let k : length (take (length l - a) (drop a l)) ≡ length l - a = ap length (part l a) ∙ length-drop a l in
    subst (λ (n : ℕ). Answers (run_of sound (length out) (drop a l) s) n r out out') k
    (subst (λ (m : List ℕ). Answers (run_of sound (length out) m s) (length (take (length l - a) (drop a l))) r out out') (part l a) h)

-- a start past the end is an empty part
pub past_end :
    (sound : Bool) (l : List ℕ) (a : ℕ) (s : State) (out : List ℕ) → length l < a →
    Answers (run_of sound (length out) (drop a l) s) (length l - a)
    (record { state = s; used = 0; count = 0; stop = S.Short }) out out
unfolding ran_of
past_end sound l a s out h =
    let e : run_of sound (length out) (drop a l) s ≡ stopped S.Short s = runs-out sound (length out) (drop a l) s (omega (arith, length-drop a l)) in
    rw e (record { ran = refl; wrote = sym (laid_none out 0); counts = (omega arith, refl); within = omega arith })

-- the end of a log: nothing to refuse, or a refusal
module _ (out : List ℕ) (t : Tally) (number left : ℕ) where
  pub nothing_left :
      finish_of number left ≡ 0 →
      (◌≡◌ {A = Finished} (record { tally = t; count = 0 }) (finished_of (length out) t number (finish_of number left)))
      × (out ≡ lay_of out 0 (finished_line number (finish_of number left)))
  unfolding finished_of finished_tally finished_line
  nothing_left q =
      (rw q (ap (λ (k : ℕ). record { tally = t; count = k }) (sym (end_fits out 0 [] (le-leb 0 (length out) (omega arith))))), rw q (sym (lay-fits out 0 [] (le-leb 0 (length out) (omega arith)) ∙ laid_none out 0)))

  pub something-left :
      (refusal end : ℕ) (x : Tally) (out' : List ℕ) → (eqb refusal 0 ≡ false) × (refusal ≡ finish_of number left) → end ≡ end_of (length out) 0 (line_of number (E.Refused refusal)) →
      out' ≡ lay_of out 0 (line_of number (E.Refused refusal)) → x ≡ add_event t (E.Refused refusal) false →
      (◌≡◌ {A = Finished} (record { tally = x; count = end }) (finished_of (length out) t number (finish_of number left)))
      × (out' ≡ lay_of out 0 (finished_line number (finish_of number left)))
  unfolding finished_of finished_tally finished_line
  something-left refusal end x out' is ee eo ex = (rw (← is.1, is.0, ee, ex) refl, rw (← is.1, is.0) eo)

-- bytes carried to the start
pub carried : (buf : List ℕ) (from end start : ℕ) → start ≡ min from end → end ≤ length buf → copy_within buf start end 0 ≡ carried_of buf from end
unfolding carried_of
carried buf from end start e inside = rw (le-leb end (length buf) inside) (by (leb from end) refl)
  where
    by : (b : Bool) → leb from end ≡ b → copy_within buf start end 0 ≡ moved_of buf from (end - from)
    by true q =
        let h : from ≤ end = leb-true _ _ q in
        let m : start ≡ from = omega arith in
        ap (λ (k : ℕ). copy_within buf k end 0) m ∙ ap (λ (n : ℕ). take (end - from) (drop from buf) ++ drop n buf) (zero-add (end - from))
    by false q =
        let h : end < from = leb-false _ _ q in
        let z : end - start ≡ 0 = omega arith in
        let z' : end - from ≡ 0 = omega arith in
        ap (λ (n : ℕ). (take n (drop start buf)) ++ drop (0 + n) buf) z ∙ sym (ap (λ (n : ℕ). moved_of buf from n) z')

pub not-carried : (buf : List ℕ) (from end : ℕ) → length buf < end → buf ≡ carried_of buf from end
unfolding carried_of
not-carried buf from end h = rw (lt-leb end (length buf) h) refl

-- the first bytes of a buffer, up to a place that may be past its end
pub first-bytes : (buf : List ℕ) (end stop : ℕ) → stop ≡ min end (length buf) → (take stop buf ≡ take end buf) × (stop ≡ length (take end buf))
first-bytes buf end stop e = (by (leb end (length buf)) refl, e ∙ sym (length-take end buf))
  where
    by : (b : Bool) → leb end (length buf) ≡ b → take stop buf ≡ take end buf
    by true q = let h : end ≤ length buf = leb-true end (length buf) q in let f : stop ≡ end = omega arith in ap (λ (k : ℕ). take k buf) f
    by false q =
        let h : length buf < end = leb-false end (length buf) q in
        let f : length buf ≤ stop = omega arith in
        let g : length buf ≤ end = omega arith in
        take_all stop buf f ∙ sym (take_all end buf g)

pub fed :
    (sound : Bool) (buf : List ℕ) (end stop : ℕ) (s : State) (r : Ran) (out out' buf' : List ℕ) → stop ≡ min end (length buf) →
    Answers (run_of sound (length out) (take stop buf) s) (length (take stop buf)) r out out' → buf' ≡ carried_of buf r.used stop →
    Answers (run_of sound (length out) (take end buf) s) (length (take end buf)) r out out' × ((buf' ≡ carried_of buf r.used (length (take end buf))) × (r.used ≤ end))
fed sound buf end stop s r out out' buf' e h c =
    let f : take stop buf ≡ take end buf = (first-bytes buf end stop e).0 in
    (subst (λ (l : List ℕ). Answers (run_of sound (length out) l s) (length l) r out out') f h, (c ∙ ap (carried_of buf r.used) (first-bytes buf end stop e).1, omega (arith, h.within, length-take stop buf, e)))

-- P1 to P12 of document 01's numbers on both sides, as one list that the checker computes through the definitions of the acts and of the
-- solo run, soundness and refusals included, from worlds that the same list shows sound. Assumes nothing.
use Rattle.std.specs.Prelude.{ℕ, Bool, true, not, ◌&&◌, List, [], ◌∷◌, T, eqb}
use Rattle.calls.specs.declared.Event.{Event}
use Rattle.calls.specs.declared.Event.TheVariants as E
use Rattle.calls.specs.Events.{value_of}
use Rattle.world.specs.declared.World.{World}
use Rattle.world.specs.World.{fresh_world, word_at}
use Rattle.acts.specs.declared.Fields.{Fields}
use Rattle.acts.specs.Acts.{act_of}
use Rattle.acts.proofs.Machine.{machine}
use Rattle.solo.specs.Run.{run_from, solo_of}
use Rattle.sound.specs.Sound.{sound_world}

-- what leads to a world: an act, or a thread run alone until it is done or asleep
pub data Move : Type 0 where
  Does : Fields → Move
  Runs : ℕ → Move

-- an event's name, as a number
abbrev pub MOVED : ℕ
MOVED = 1

abbrev pub DONE : ℕ
DONE = 2

abbrev pub SLEPT : ℕ
SLEPT = 3

abbrev pub PANIC : ℕ
PANIC = 4

abbrev pub REFUSED : ℕ
REFUSED = 6

abbrev pub name_of : Event → ℕ
name_of E.Set = 0
name_of E.Begun = 0
name_of (E.Moved woken) = MOVED
name_of (E.Done value woken) = DONE
name_of E.Slept = SLEPT
name_of (E.Panic number woken) = PANIC
name_of E.Closure = 5
name_of E.Woken = 0
name_of E.Closed = 0
name_of (E.Refused number) = REFUSED

pub record Led : Type 0 where
  pub accepted : Bool
  pub world : World

abbrev pub move : World → Move → Led
move w (Does a) = let r = act_of w a in record { accepted = not (eqb (name_of r.event) REFUSED); world = r.world }
move w (Runs t) =
    let r = solo_of w t 200 in
    record { accepted = not (eqb (name_of r.event) REFUSED); world = r.world }

-- the world after these moves, each of them accepted
unfoldable pub lead : Led → List Move → Led
lead l [] = l
lead l (m ∷ ms) = let n = move l.world m in lead (record { accepted = l.accepted && n.accepted; world = n.world }) ms

-- a thread run alone: from which world, under which budget, to which event in how many steps; and a word before and after
pub record Case : Type 0 where
  pub moves : List Move
  pub thread : ℕ
  pub budget : ℕ
  pub name : ℕ
  pub value : ℕ
  pub count : ℕ
  pub word : ℕ
  pub before : ℕ
  pub after : ℕ

abbrev pub right : Case → Bool
right c =
    let l = lead (record { accepted = true; world = fresh_world }) c.moves in
    let r = solo_of l.world c.thread c.budget in
    l.accepted && sound_world l.world && eqb (word_at l.world c.word) c.before
    && eqb (name_of r.event) c.name && eqb (value_of r.event) c.value && eqb r.count c.count
    && eqb (word_at r.world c.word) c.after

unfoldable pub every : List Case → Bool
every [] = true
every (c ∷ cs) = right c && every cs

-- words by their number: mutex 0 is word 0, the state of RwLock 0 word 4, thread 0's Parker word 20
abbrev pub cases : List Case
cases =
    -- P1 lock at 0
    record { moves = Does (record { act = 1; choice = 0; thread = 0; object = 0; value = 0 }) ∷ []; thread = 0; budget = 200; name = DONE; value = 1; count = 1; word = 0; before = 0x0; after = 0x1 } ∷
    -- P2 lock at 2, held
    record { moves = Does (record { act = 1; choice = 0; thread = 0; object = 0; value = 0 }) ∷ Runs 0 ∷ Does (record { act = 1; choice = 0; thread = 1; object = 0; value = 0 }) ∷ Runs 1 ∷ Does (record { act = 1; choice = 0; thread = 2; object = 0; value = 0 }) ∷ []; thread = 2; budget = 200; name = SLEPT; value = 0; count = 3; word = 0; before = 0x2; after = 0x2 } ∷
    -- P3 lock at 1
    record { moves = Does (record { act = 1; choice = 0; thread = 0; object = 0; value = 0 }) ∷ Runs 0 ∷ Does (record { act = 1; choice = 0; thread = 1; object = 0; value = 0 }) ∷ []; thread = 1; budget = 200; name = SLEPT; value = 0; count = 104; word = 0; before = 0x1; after = 0x2 } ∷
    -- P4 read at MASK
    record { moves = Does (record { act = 1; choice = 6; thread = 0; object = 0; value = 0 }) ∷ Runs 0 ∷ Does (record { act = 1; choice = 3; thread = 1; object = 0; value = 0 }) ∷ []; thread = 1; budget = 200; name = SLEPT; value = 0; count = 104; word = 4; before = 0x3fffffff; after = 0x7fffffff } ∷
    -- P5 read at 0x80000001
    record { moves = Does (record { act = 1; choice = 3; thread = 0; object = 0; value = 0 }) ∷ Runs 0 ∷ Does (record { act = 1; choice = 6; thread = 1; object = 0; value = 0 }) ∷ Runs 1 ∷ Does (record { act = 1; choice = 3; thread = 2; object = 0; value = 0 }) ∷ []; thread = 2; budget = 200; name = SLEPT; value = 0; count = 4; word = 4; before = 0x80000001; after = 0xc0000001 } ∷
    -- P6 write at MASK
    record { moves = Does (record { act = 1; choice = 6; thread = 0; object = 0; value = 0 }) ∷ Runs 0 ∷ Does (record { act = 1; choice = 6; thread = 1; object = 0; value = 0 }) ∷ []; thread = 1; budget = 200; name = SLEPT; value = 0; count = 106; word = 4; before = 0x3fffffff; after = 0xbfffffff } ∷
    -- P7 read at MAX_READERS - 1
    record { moves = Does (record { act = 0; choice = 0; thread = 0; object = 0; value = 1073741821 }) ∷ Does (record { act = 1; choice = 3; thread = 0; object = 0; value = 0 }) ∷ []; thread = 0; budget = 200; name = DONE; value = 1; count = 2; word = 4; before = 0x3ffffffd; after = 0x3ffffffe } ∷
    -- P8 read at MAX_READERS
    record { moves = Does (record { act = 0; choice = 0; thread = 0; object = 0; value = 1073741822 }) ∷ Does (record { act = 1; choice = 3; thread = 0; object = 0; value = 0 }) ∷ []; thread = 0; budget = 200; name = PANIC; value = 1; count = 2; word = 4; before = 0x3ffffffe; after = 0x3ffffffe } ∷
    -- P9 try_read there
    record { moves = Does (record { act = 0; choice = 0; thread = 0; object = 0; value = 1073741822 }) ∷ Does (record { act = 1; choice = 4; thread = 0; object = 0; value = 0 }) ∷ []; thread = 0; budget = 200; name = DONE; value = 0; count = 1; word = 4; before = 0x3ffffffe; after = 0x3ffffffe } ∷
    -- P10 the first step of downgrade
    record { moves = Does (record { act = 1; choice = 6; thread = 0; object = 0; value = 0 }) ∷ Runs 0 ∷ Does (record { act = 1; choice = 3; thread = 1; object = 0; value = 0 }) ∷ Runs 1 ∷ Does (record { act = 1; choice = 6; thread = 2; object = 0; value = 0 }) ∷ Runs 2 ∷ Does (record { act = 1; choice = 9; thread = 0; object = 0; value = 0 }) ∷ []; thread = 0; budget = 1; name = MOVED; value = 0; count = 1; word = 4; before = 0xffffffff; after = 0xc0000001 } ∷
    -- P10 and the second
    record { moves = Does (record { act = 1; choice = 6; thread = 0; object = 0; value = 0 }) ∷ Runs 0 ∷ Does (record { act = 1; choice = 3; thread = 1; object = 0; value = 0 }) ∷ Runs 1 ∷ Does (record { act = 1; choice = 6; thread = 2; object = 0; value = 0 }) ∷ Runs 2 ∷ Does (record { act = 1; choice = 9; thread = 0; object = 0; value = 0 }) ∷ []; thread = 0; budget = 2; name = MOVED; value = 0; count = 2; word = 4; before = 0xffffffff; after = 0x80000001 } ∷
    -- P11 park at 1
    record { moves = Does (record { act = 1; choice = 19; thread = 1; object = 0; value = 0 }) ∷ Runs 1 ∷ Does (record { act = 1; choice = 18; thread = 0; object = 0; value = 0 }) ∷ []; thread = 0; budget = 200; name = DONE; value = 1; count = 1; word = 20; before = 0x1; after = 0x0 } ∷
    -- P12 park at 0
    record { moves = Does (record { act = 1; choice = 18; thread = 0; object = 0; value = 0 }) ∷ []; thread = 0; budget = 200; name = SLEPT; value = 0; count = 2; word = 20; before = 0x0; after = 0xffffffff } ∷
    []

pub numbers : T (every cases)
unfolding machine run_from solo_of lead every
numbers = tt

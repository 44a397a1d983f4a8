-- One row of the threads that sleep, by number, in the order in which they fell asleep. The queue of one word is a part of it. Assumes nothing.
use Rattle.std.specs.Prelude.{ℕ, suc, ◌+◌, ◌-◌, Option, Some, None, Result, Ok, Err, Bool, true, false, cond, not, ◌&&◌, List, [], ◌∷◌, ◌++◌, eqb, ltb, leb, length, get_or, set, take, drop, replicate, filter, position}
use Rattle.std.specs.List.{list_all}
use Rattle.std.specs.Option.{unwrap_or}
use Rattle.queue.specs.declared.Row.{Row}
use Rattle.queue.specs.declared.Full.{Full}

-- how many threads there are, and so how many places a row has
abbrev pub THREADS : ℕ
THREADS = 32

-- who sleeps, the longest asleep first
abbrev pub sleepers : Row → List ℕ
sleepers row = take row.count row.places

-- the part of a list that passes a test, in its order
unfoldable pub passing : (ℕ → Bool) → List ℕ → List ℕ
passing f l = filter f l

-- the part that fails it
abbrev pub failing : (ℕ → Bool) → List ℕ → List ℕ
failing f l = passing (λ (t : ℕ). not (f t)) l

-- the queue of one word, where the test is whether a thread sleeps on that word
unfoldable pub queue_of : (ℕ → Bool) → Row → List ℕ
queue_of f row = passing f (sleepers row)

-- a flag for each thread, as a test: a number that has no flag fails
abbrev pub is_wanted : List Bool → ℕ → Bool
is_wanted wanted t = get_or wanted t false

-- nobody sleeps
abbrev pub empty_row : Row
empty_row = record { places = replicate THREADS 0; count = 0 }

-- the row of these sleepers: 0 in every place that is not used
unfoldable pub row_of : List ℕ → Row
row_of l = record { places = l ++ replicate (THREADS - length l) 0; count = length l }

-- t behind all the others
unfoldable pub pushed : Row → ℕ → Row
pushed row t = record { places = set row.places row.count t; count = row.count + 1 }

-- what a push leaves, and whether there was room
pub record Pushed : Type 0 where
  pub row : Row
  pub ok : Bool

-- a push: a full row refuses
unfoldable pub push_of : Row → ℕ → Pushed
push_of row t =
    cond (ltb row.count THREADS)
    (record { row = pushed row t; ok = true })
    (record { row = row; ok = false })

-- what a push answers
abbrev pub answer_of : Pushed → Result Unit Full
answer_of a = cond a.ok (Ok tt) (Err (record {}))

-- a list without the element at p
unfoldable pub removed_at : ℕ → List ℕ → List ℕ
removed_at p l = take p l ++ drop (suc p) l

-- the places without the one at p: 0 comes in at the end
unfoldable pub removed : ℕ → List ℕ → List ℕ
removed p places = removed_at p places ++ (0 ∷ [])

-- the row without the sleeper at p
unfoldable pub taken_out : Row → ℕ → Row
taken_out row p = record { places = removed p row.places; count = row.count - 1 }

-- what a taking out leaves, and who is taken out: thread 0 where nobody is
pub record Taken : Type 0 where
  pub row : Row
  pub thread : ℕ
  pub ok : Bool

-- nobody is taken out
abbrev pub refused : Row → Taken
refused row = record { row = row; thread = 0; ok = false }

-- the sleeper at p is taken out: a place where nobody sleeps refuses
unfoldable pub take_out_of : Row → ℕ → Taken
take_out_of row p =
    cond (ltb p row.count && ltb p THREADS)
    (record { row = taken_out row p; thread = get_or row.places p 0; ok = true })
    (refused row)

-- who is taken out, if anybody is
abbrev pub thread_of : Taken → Option ℕ
thread_of a = cond a.ok (Some a.thread) None

-- the place of the longest asleep of those who pass a test; THREADS where none passes
unfoldable pub place_of : (ℕ → Bool) → Row → ℕ
place_of f row = unwrap_or (position f (sleepers row)) THREADS

-- the row without those who pass a test
unfoldable pub without_of : (ℕ → Bool) → Row → Row
without_of f row = row_of (failing f (sleepers row))

-- how often u stands in a list
unfoldable pub occ : ℕ → List ℕ → ℕ
occ u [] = 0
occ u (t ∷ ts) = cond (eqb u t) 1 0 + occ u ts

-- nothing but 0 in a list
unfoldable pub all_zero : List ℕ → Bool
all_zero l = list_all (λ (t : ℕ). eqb t 0) l

-- the row is that of its sleepers: no more of them than places, and 0 in every place that is not used
unfoldable pub is_tidy : Row → Bool
is_tidy row = leb row.count THREADS && all_zero (drop row.count row.places)

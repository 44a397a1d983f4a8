-- What an event adds to each of a tally's five counts. Assumes nothing.
use Rattle.std.specs.Prelude.{ℕ, ◌+◌, Bool, cond, ◌&&◌, ◌||◌, leb, eqb}
use Rattle.calls.specs.declared.At.{At}
use Rattle.calls.specs.declared.Event.{Event}
use Rattle.calls.specs.declared.Event.TheVariants as E
use Rattle.calls.specs.Positions.{call_of}
use Rattle.tally.specs.declared.Tally.{Tally}

-- the largest count
abbrev pub MOST : ℕ
MOST = 18446744073709551615

abbrev pub no_tally : Tally
no_tally = record { grants = 0; sleeps = 0; wakes = 0; panics = 0; refused = 0 }

-- done 1 is a grant in lock, try_lock, read, try_read, write and try_write
abbrev pub grant_call : ℕ → Bool
grant_call call = eqb call 0 || eqb call 1 || eqb call 3 || eqb call 4 || eqb call 6 || eqb call 7

unfoldable pub grants_of : At → Bool
grants_of at = grant_call (call_of at)

-- a count with more added to it: the largest stays where it is
unfoldable pub up_by : ℕ → ℕ → ℕ
up_by count more = cond (leb (count + more) MOST) (count + more) MOST

abbrev pub bump : ℕ → ℕ → ℕ → ℕ → ℕ → Tally
bump grants sleeps wakes panics refused = record { grants = grants; sleeps = sleeps; wakes = wakes; panics = panics; refused = refused }

unfoldable pub granted_of : Bool → ℕ → ℕ
granted_of grant value = cond (grant && eqb value 1) 1 0

-- what an event adds to grants, sleeps, wakes, panics and refused; `grant`: whether the call takes a lock
unfoldable pub bump_of : Event → Bool → Tally
bump_of E.Set grant = bump 0 0 0 0 0
bump_of E.Begun grant = bump 0 0 0 0 0
bump_of (E.Moved woken) grant = bump 0 0 woken 0 0
bump_of (E.Done value woken) grant = bump (granted_of grant value) 0 woken 0 0
bump_of E.Slept grant = bump 0 1 0 0 0
bump_of (E.Panic number woken) grant = bump 0 0 woken 1 0
bump_of E.Closure grant = bump 0 0 0 0 0
bump_of E.Woken grant = bump 0 0 1 0 0
bump_of E.Closed grant = bump 0 0 0 0 0
bump_of (E.Refused number) grant = bump 0 0 0 0 1

abbrev pub plus : Tally → Tally → Tally
plus t b = record {
  grants = up_by t.grants b.grants;
  sleeps = up_by t.sleeps b.sleeps;
  wakes = up_by t.wakes b.wakes;
  panics = up_by t.panics b.panics;
  refused = up_by t.refused b.refused;
}

unfoldable pub add_event : Tally → Event → Bool → Tally
add_event t e grant = plus t (bump_of e grant)

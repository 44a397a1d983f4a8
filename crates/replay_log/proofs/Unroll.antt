-- The run's definition, unrolled by one record, and what stands before a run. Assumes nothing.
use Prim.Native.Nat.{ℕ, ◌+◌, ◌-◌, ◌≤◌, ◌<◌}
use native.Mathlib.Nat.{add_assoc, zero-add}
use native.Mathlib.Omega.{arith}
use mathlib.Core.Path.{◌≡◌, refl}
use mathlib.Core.Bool.{Bool, true, false}
use mathlib.Core.List.{List, [], ◌∷◌, ◌++◌, append_assoc}
use lib.Dec.{eqb, leb}
use lib.ListN.{length, drop}
use Rattle.replay_log.specs.declared.Stop.TheVariants as S
use Rattle.replay_log.specs.declared.State.{State}
use Rattle.replay_log.specs.Run.{Run, stopped, prefixed, mark_of, noted, ending_of, ended_by, last_line, last_state, turn_of, record_line, record_state, run_of}

pub prefixed-none : (r : Run) → prefixed [] 0 r ≡ r
prefixed-none r = simp zero-add

pub prefixed-twice : (one two : List ℕ) (m n : ℕ) (r : Run) → prefixed one m (prefixed two n r) ≡ prefixed (one ++ two) (m + n) r
prefixed-twice one two m n r = simp (append_assoc, add_assoc)

-- fewer than ten bytes: the run ends
pub runs-out : (sound : Bool) (room : ℕ) (l : List ℕ) (s : State) → length l < 10 → run_of sound room l s ≡ stopped S.Short s
unfolding run_of
runs-out sound room [] s h = refl
runs-out sound room (a ∷ []) s h = refl
runs-out sound room (a ∷ b ∷ []) s h = refl
runs-out sound room (a ∷ b ∷ c ∷ []) s h = refl
runs-out sound room (a ∷ b ∷ c ∷ d ∷ []) s h = refl
runs-out sound room (a ∷ b ∷ c ∷ d ∷ e ∷ []) s h = refl
runs-out sound room (a ∷ b ∷ c ∷ d ∷ e ∷ f ∷ []) s h = refl
runs-out sound room (a ∷ b ∷ c ∷ d ∷ e ∷ f ∷ g ∷ []) s h = refl
runs-out sound room (a ∷ b ∷ c ∷ d ∷ e ∷ f ∷ g ∷ o ∷ []) s h = refl
runs-out sound room (a ∷ b ∷ c ∷ d ∷ e ∷ f ∷ g ∷ o ∷ i ∷ []) s h = refl
runs-out sound room (a ∷ b ∷ c ∷ d ∷ e ∷ f ∷ g ∷ o ∷ i ∷ j ∷ rest) s h = absurd (omega arith)

-- ten or more: one record, and the run of those behind it
pub unroll :
    (sound : Bool) (room : ℕ) (l : List ℕ) (s : State) → 10 ≤ length l →
    run_of sound room l s ≡
    turn_of room l s (record_line sound l s) (run_of sound (room - length (record_line sound l s)) (drop 10 l) (record_state sound l s))
unfolding run_of
unroll sound room [] s h = absurd (omega arith)
unroll sound room (a ∷ []) s h = absurd (omega arith)
unroll sound room (a ∷ b ∷ []) s h = absurd (omega arith)
unroll sound room (a ∷ b ∷ c ∷ []) s h = absurd (omega arith)
unroll sound room (a ∷ b ∷ c ∷ d ∷ []) s h = absurd (omega arith)
unroll sound room (a ∷ b ∷ c ∷ d ∷ e ∷ []) s h = absurd (omega arith)
unroll sound room (a ∷ b ∷ c ∷ d ∷ e ∷ f ∷ []) s h = absurd (omega arith)
unroll sound room (a ∷ b ∷ c ∷ d ∷ e ∷ f ∷ g ∷ []) s h = absurd (omega arith)
unroll sound room (a ∷ b ∷ c ∷ d ∷ e ∷ f ∷ g ∷ o ∷ []) s h = absurd (omega arith)
unroll sound room (a ∷ b ∷ c ∷ d ∷ e ∷ f ∷ g ∷ o ∷ i ∷ []) s h = absurd (omega arith)
unroll sound room (a ∷ b ∷ c ∷ d ∷ e ∷ f ∷ g ∷ o ∷ i ∷ j ∷ rest) s h = refl

-- the same, of a record and what is behind it
pub unroll-record :
    (sound : Bool) (room : ℕ) (x rest : List ℕ) (s : State) → length x ≡ 10 →
    run_of sound room (x ++ rest) s ≡
    turn_of room x s (record_line sound x s) (run_of sound (room - length (record_line sound x s)) rest (record_state sound x s))
unfolding run_of turn_of ending_of mark_of noted
unroll-record sound room [] rest s h = absurd (omega arith)
unroll-record sound room (a ∷ []) rest s h = absurd (omega arith)
unroll-record sound room (a ∷ b ∷ []) rest s h = absurd (omega arith)
unroll-record sound room (a ∷ b ∷ c ∷ []) rest s h = absurd (omega arith)
unroll-record sound room (a ∷ b ∷ c ∷ d ∷ []) rest s h = absurd (omega arith)
unroll-record sound room (a ∷ b ∷ c ∷ d ∷ e ∷ []) rest s h = absurd (omega arith)
unroll-record sound room (a ∷ b ∷ c ∷ d ∷ e ∷ f ∷ []) rest s h = absurd (omega arith)
unroll-record sound room (a ∷ b ∷ c ∷ d ∷ e ∷ f ∷ g ∷ []) rest s h = absurd (omega arith)
unroll-record sound room (a ∷ b ∷ c ∷ d ∷ e ∷ f ∷ g ∷ o ∷ []) rest s h = absurd (omega arith)
unroll-record sound room (a ∷ b ∷ c ∷ d ∷ e ∷ f ∷ g ∷ o ∷ i ∷ []) rest s h = absurd (omega arith)
unroll-record sound room (a ∷ b ∷ c ∷ d ∷ e ∷ f ∷ g ∷ o ∷ i ∷ j ∷ []) rest s h = refl
unroll-record sound room (a ∷ b ∷ c ∷ d ∷ e ∷ f ∷ g ∷ o ∷ i ∷ j ∷ k ∷ more) rest s h = absurd (omega arith)

-- the ways of a turn
module _ (room : ℕ) (l : List ℕ) (s : State) (line : List ℕ) (rest : Run) where
  module _ (e : ending_of s.number l ≡ 0) where
    zero_is : eqb (ending_of s.number l) 0 ≡ true
    zero_is = rw e refl

    pub turn-goes : leb (length line) room ≡ true → turn_of room l s line rest ≡ prefixed line 10 rest
    unfolding turn_of
    turn-goes h = rw (zero_is, h) refl

    pub turn-full : leb (length line) room ≡ false → turn_of room l s line rest ≡ stopped S.Room s
    unfolding turn_of
    turn-full h = rw (zero_is, h) refl

  module _ {number : ℕ} (e : number ≡ ending_of s.number l) (z : eqb number 0 ≡ false) where
    pub turn-ends :
        leb (length (last_line number s)) room ≡ true →
        turn_of room l s line rest ≡ record { lines = last_line number s; state = last_state number s; used = 0; stop = S.Ended number }
    unfolding turn_of ended_by
    turn-ends h = rw (← e, z, h) refl

    pub turn-ends-full : leb (length (last_line number s)) room ≡ false → turn_of room l s line rest ≡ stopped S.Room s
    unfolding turn_of ended_by
    turn-ends-full h = rw (← e, z, h) refl

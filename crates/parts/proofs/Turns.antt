-- What holds of every way that a turn can go, and goes from the rest of a run to the whole of it, holds of every run. Assumes nothing.
use Prim.Native.Nat.{ℕ, zero, suc, ◌-◌, ◌≤◌, ◌<◌}
use native.Mathlib.Omega.{arith}
use mathlib.Core.Path.{◌≡◌, refl, sym, subst}
use mathlib.Core.Bool.{Bool, true, false}
use mathlib.Core.List.{List}
use lib.Dec.{eqb, ltb, leb}
use lib.ListN.{length, drop, length-drop}
use borrow.Author.Tests.{eqb-true, ltb-true, ltb-false}
use Rattle.calls.specs.declared.Event.{Event}
use Rattle.calls.specs.declared.Event.TheVariants as E
use Rattle.lines.specs.Lines.{line_of}
use Rattle.replay_log.specs.declared.Stop.TheVariants as S
use Rattle.replay_log.specs.declared.State.{State}
use Rattle.replay_log.specs.Run.{Run, stopped, prefixed, ending_of, last_line, last_state, turn_of, record_answer, record_line, record_state, run_of}
use Rattle.replay_log.proofs.Unroll.{runs-out, unroll, turn-goes, turn-full, turn-ends, turn-ends-full}

-- a list, ten by ten
pub by-tens :
    (P : List ℕ → Type 0) → ((l : List ℕ) → length l < 10 → P l) → ((l : List ℕ) → 10 ≤ length l → P (drop 10 l) → P l) →
    (l : List ℕ) → P l
by-tens P short long l = go (length l) l (omega arith)
  where
    go : (n : ℕ) (l : List ℕ) → length l ≤ n → P l
    go zero l h = short l (omega arith)
    go (suc n) l h = by (ltb (length l) 10) refl (go n (drop 10 l))
      where
        by : (b : Bool) → ltb (length l) 10 ≡ b → (length (drop 10 l) ≤ n → P (drop 10 l)) → P l
        by true e rest = short l (ltb-true (length l) 10 e)
        by false e rest = let q : 10 ≤ length l = ltb-false (length l) 10 e in long l q (rest (omega (arith, length-drop 10 l)))

-- a run, turn by turn: few bytes, no room for a line, a refusal that ends it, or a record and the rest of the run
module _
    (sound : Bool) (P : ℕ → List ℕ → State → Run → Type 0)
    (short : (room : ℕ) (l : List ℕ) (s : State) → length l < 10 → P room l s (stopped S.Short s))
    (full :
    (room : ℕ) (l : List ℕ) (s : State) → 10 ≤ length l → (event : Event) → leb (length (line_of s.number event)) room ≡ false →
    P room l s (stopped S.Room s))
    (ended :
    (room : ℕ) (l : List ℕ) (s : State) → 10 ≤ length l → (number : ℕ) → number ≡ ending_of s.number l → eqb number 0 ≡ false →
    leb (length (last_line number s)) room ≡ true →
    P room l s (record { lines = last_line number s; state = last_state number s; used = 0; stop = S.Ended number }))
    (goes :
    (room : ℕ) (l : List ℕ) (s : State) → 10 ≤ length l → ending_of s.number l ≡ 0 →
    leb (length (record_line sound l s)) room ≡ true → (rest : Run) →
    P (room - length (record_line sound l s)) (drop 10 l) (record_state sound l s) rest →
    P room l s (prefixed (record_line sound l s) 10 rest)) where
  turn :
      (room : ℕ) (l : List ℕ) (s : State) → 10 ≤ length l → (rest : Run) →
      P (room - length (record_line sound l s)) (drop 10 l) (record_state sound l s) rest →
      P room l s (turn_of room l s (record_line sound l s) rest)
  turn room l s h rest p = by (eqb (ending_of s.number l) 0) refl
    where
      line : List ℕ
      line = record_line sound l s

      number : ℕ
      number = ending_of s.number l

      acts : (b : Bool) → number ≡ 0 → leb (length line) room ≡ b → P room l s (turn_of room l s line rest)
      acts true e f = subst (P room l s) (sym (turn-goes room l s line rest e f)) (goes room l s h e f rest p)
      acts false e f = subst (P room l s) (sym (turn-full room l s line rest e f)) (full room l s h (record_answer sound l s).event f)

      ends : (b : Bool) → eqb number 0 ≡ false → leb (length (last_line number s)) room ≡ b → P room l s (turn_of room l s line rest)
      ends true e f = subst (P room l s) (sym (turn-ends room l s line rest refl e f)) (ended room l s h number refl e f)
      ends false e f = subst (P room l s) (sym (turn-ends-full room l s line rest refl e f)) (full room l s h (E.Refused number) f)

      by : (b : Bool) → eqb number 0 ≡ b → P room l s (turn_of room l s line rest)
      by true e = acts (leb (length line) room) (eqb-true number 0 e) refl
      by false e = ends (leb (length (last_line number s)) room) e refl

  pub by-records : (room : ℕ) (l : List ℕ) (s : State) → P room l s (run_of sound room l s)
  by-records room l s =
      by-tens (λ (x : List ℕ). (n : ℕ) (t : State) → P n x t (run_of sound n x t))
      (λ x h n t. subst (P n x t) (sym (runs-out sound n x t h)) (short n x t h))
      (λ x h rest n t. subst (P n x t) (sym (unroll sound n x t h))
      (turn n x t h (run_of sound (n - length (record_line sound x t)) (drop 10 x) (record_state sound x t))
      (rest (n - length (record_line sound x t)) (record_state sound x t))))
      l room s

-- What the theorems say, as the promises have it. Assumes nothing.
use mathlib.Core.Path.{◌≡◌, refl, sym, ap, subst, ◌∙◌}
use mathlib.Core.Bool.{Bool, true, false}
use mathlib.Core.List.{List, append-nil}
use Prim.Native.Nat.{ℕ, ◌+◌}
use native.Mathlib.Nat.{add-zero}
use Rattle.tally.specs.declared.Tally.{Tally}
use Rattle.world.specs.declared.World.{World}
use Rattle.world.specs.World.{fresh_world}
use Rattle.sound.specs.Sound.{sound_world}
use Rattle.solo.specs.Run as Solo
use Rattle.solo.specs.Run.{solo_of}
use Rattle.kept.specs.Shape.{Shaped}
use Rattle.kept.proofs.Tests.{decided}
use Rattle.keeps.proofs.Solo.{solo-keeps}
use Rattle.exact.proofs.Solo.{unsound-solo}
use Rattle.replay_log.specs.declared.State.{State}
use Rattle.replay_log.specs.declared.Ran.{Ran}
use Rattle.replay_log.specs.Run.{state_of, Run, stopped, prefixed, ran_of, Answers}
use Rattle.parts.specs.Parts.{has_ended, Bytes, part_run, bytes_of, Reached, parts_from, run_by_acts}
use Rattle.parts.proofs.Flags.{run-keeps}
use Rattle.parts.proofs.Acts.{run-is-acts}
use Rattle.claims.specs.Claims.{reached, replayed, acts_run, ReplayDemand}
use Rattle.claims.proofs.Proved.{every-replay}
use Rattle.promises.specs.Promises.{one_part}

-- a solo run leaves a world sound or not, as it was
pub solo-flag : (w : World) (t budget : ℕ) → Shaped w → sound_world (solo_of w t budget).world ≡ sound_world w
solo-flag w t budget s = by (sound_world w) refl
  where
    by : (c : Bool) → sound_world w ≡ c → sound_world (solo_of w t budget).world ≡ sound_world w
    by true e = (solo-keeps w t budget e s).0 ∙ sym e
    by false e = ap (λ (r : Solo.Ran). sound_world r.world) (unsound-solo w t budget e)

-- behind a run nothing more was run
alone : (r : Run) → prefixed r.lines r.used (stopped r.stop r.state) ≡ r
alone r =
    ap (λ (lines : List ℕ). made lines (r.used + 0)) (append-nil r.lines) ∙ ap (made r.lines) (add-zero r.used)
  where
    made : List ℕ → ℕ → Run
    made lines used = record { lines = lines; state = r.state; used = used; stop = r.stop }

-- a log in one part is the run over it
pub one-part : (t : Tally) (log : List ℕ) (room : ℕ) → (replayed t (one_part log room)).run ≡ part_run room log (state_of fresh_world t 0)
unfolding parts_from
one-part t log room =
    decided (λ (a : Reached). a.run ≡ part_run room log (state_of fresh_world t 0))
    (has_ended (part_run room log (state_of fresh_world t 0)).stop) _ _ (λ _. refl) (λ _. alone (part_run room log (state_of fresh_world t 0)))

-- a run over bytes, from a world of the code's sizes
module _ (room len : ℕ) (log out out' : List ℕ) (s : State) (r : Ran) (shaped : Shaped s.world) (bytes : Bytes log) where
  -- is the row of acts
  pub by-acts :
      Answers (part_run room log s) len r out out' → Answers (run_by_acts room log s) len r out out'
  by-acts a = subst (λ (x : Run). Answers x len r out out') (run-is-acts room log s shaped bytes) a

  -- and leaves a world sound or not, as it was
  pub run-flag : Answers (part_run room log s) len r out out' → sound_world r.state.world ≡ sound_world s.world
  unfolding ran_of
  run-flag a = ap (λ (x : Ran). sound_world x.state.world) a.ran ∙ (run-keeps room log s shaped bytes).flag

-- a run of a log from a fresh world
module _ (room len : ℕ) (log out out' : List ℕ) (t : Tally) (r : Ran) where
  pub as-replayed :
      (w : World) → w ≡ fresh_world → Answers (part_run room log (state_of w t 0)) len r out out' →
      Answers (replayed t (one_part log room)).run len r out out'
  as-replayed w e a =
      subst (λ (x : Run). Answers x len r out out')
      (ap (λ (v : World). part_run room log (state_of v t 0)) e ∙ sym (one-part t log room)) a

  -- demand 3 of it
  pub demanded : Bytes log → ReplayDemand t (one_part log room)
  unfolding bytes_of
  demanded bytes = every-replay t (one_part log room) (subst Bytes (sym (append-nil log)) bytes)

  pub world-reached :
      Answers (replayed t (one_part log room)).run len r out out' → Bytes log → r.state.world ≡ reached (acts_run t (one_part log room))
  unfolding ran_of
  world-reached a bytes = ap (λ (x : Ran). x.state.world) a.ran ∙ (demanded bytes).world_is

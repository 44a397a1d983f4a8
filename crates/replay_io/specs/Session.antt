-- What a run of the replay does to its session: which bytes are carried over, and where it leads. Assumes nothing.
use Rattle.std.specs.Prelude.{ℕ, ◌-◌, ◌≡◌, length, take}
use Rattle.sound.specs.Sound.{sound_world}
use Rattle.replay_log.specs.declared.Stop.{Stop}
use Rattle.replay_log.specs.declared.Stop.TheVariants as S
use Rattle.replay_log.specs.Run.{Run, run_of, carried_of}
use Rattle.replay_io.specs.declared.Next.{Next}
use Rattle.replay_io.specs.declared.Next.TheVariants as N
use Rattle.replay_io.specs.declared.Session.{Session}

-- the run over the first bytes of a session's buffer
abbrev pub run_in : Session → ℕ → Run
run_in s end = run_of (sound_world s.state.world) (length s.out) (take end s.buf) s.state

-- where a stop leads, and how many of the bytes left are carried over: all, or none behind a refusal that ended the run
abbrev pub Leads : Stop → ℕ → Next → ℕ → Type 0
Leads S.Short left next have = (next ≡ N.Read) × (have ≡ left)
Leads S.Room left next have = ⊥
Leads (S.Ended number) left next have = (next ≡ N.Finish) × (have ≡ 0)

-- a session after the run over the first bytes of its buffer: the bytes that the run did not use stand at the start
pub record RanOn (s : Session) (end : ℕ) (next : Next) (s' : Session) : Type 0 where
  pub state : s'.state ≡ (run_in s end).state
  pub buf : s'.buf ≡ carried_of s.buf (run_in s end).used (length (take end s.buf))
  pub leads : Leads (run_in s end).stop (end - (run_in s end).used) next s'.have

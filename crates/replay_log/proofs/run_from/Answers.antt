use Rattle.sound.specs.Sound.{sound_world}
use Rattle.replay_log.proofs.Laws.{from-part, past_end}
use Rattle.replay_log.proofs.run_from.Goals as goal

pub returns-then-from-log : goal.returns-then-from-log
returns-then-from-log c =
    let a = c.args in
    from-part _ a.log.now a.from a.state _ a.out.now _ c.run.ensures

pub returns : goal.returns
returns c =
    let a = c.args in
    past_end (sound_world a.state.world) a.log.now a.from a.state a.out.now c.if-from-log.false

use Rattle.std.proofs.Common.{rules, arith, ◌≡◌, ◌-◌, ◌<◌, sym, ap, length, length-take, ltb-true, lt-ltb}
use Rattle.queue.specs.Row.{THREADS, sleepers, taken_out, take_out_of}
use Rattle.queue.proofs.Places.{removed-moved}
use Rattle.queue.proofs.Row.take_out.Goals as goal

pub returns-clause-row : goal.returns-clause-row
unfolding take_out_of taken_out
returns-clause-row c =
    let a = c.args in
    let l : length a.self.now.places ≡ THREADS = search rules in
    let q : a.place < length c.sleepers.result.now = ltb-true _ _ (sym c.in_ok-thread.ensures.lookup.0) in
    let n : length c.sleepers.result.now ≡ length (sleepers a.self.now) = ap length c.sleepers.ensures in
    let h : a.place < a.self.now.count = omega (arith, length-take a.self.now.count a.self.now.places) in
    let k : a.place < THREADS = omega (arith, length-take a.self.now.count a.self.now.places) in
    rw (lt-ltb _ _ h, lt-ltb _ _ k, c.copy_within.ensures.after, l, removed-moved a.self.now.places a.place (omega arith) (THREADS - 1) (sym l))

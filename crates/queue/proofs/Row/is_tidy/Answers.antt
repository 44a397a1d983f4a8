use Rattle.std.proofs.Common.{rules, tests, arith, ◌≡◌, ◌-◌, ◌≤◌, ◌∙◌, le-leb, eqb, length, take, drop, length-drop}
use Rattle.std.proofs.lemmas.List.{take_all}
use Rattle.std.proofs.lemmas.Iterator.{YieldsList-from_slice}
use Rattle.std.proofs.lemmas.Iterator.Search.{all_from_yields_List}
use Rattle.queue.specs.Row.{THREADS, all_zero, is_tidy}
use Rattle.queue.proofs.Row.is_tidy.Goals as goal

pub returns-then-self-le-THREADS : goal.returns-then-self-le-THREADS
unfolding is_tidy all_zero
returns-then-self-le-THREADS c =
    let row = c.args.self.now in
    let e : c.iter.result.rest.now ≡ take (THREADS - row.count) (drop row.count row.places) = c.iter.ensures.rest in
    let l : length row.places ≡ THREADS = search rules in
    let d : length (drop row.count row.places) ≤ THREADS - row.count = simp length-drop (omega arith) in
    rw (le-leb row.count THREADS c.if-self-le-THREADS.true)
    (all_from_yields_List (λ t. eqb t 0) _ _ c.all.result c.all.ensures.ran (YieldsList-from_slice (drop row.count row.places) (e ∙ take_all (THREADS - row.count) (drop row.count row.places) d)) (λ x b q k. search (rules, tests)))

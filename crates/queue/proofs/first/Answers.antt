use Rattle.std.proofs.Common.{rules, tests}
use Rattle.std.proofs.lemmas.Iterator.{YieldsList-from_slice}
use Rattle.std.proofs.lemmas.Iterator.Search.{position_from_yields_List}
use Rattle.queue.proofs.first.Goals as goal

pub returns : goal.returns
returns g c =
    position_from_yields_List (g.T.Test.passes c.args.wanted.now) _ _ c.position.result c.position.ensures.ran (YieldsList-from_slice c.args.threads.now cc) (λ x b q k. search (rules, tests))

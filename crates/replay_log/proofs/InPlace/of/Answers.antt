-- `InPlace::of` meets its contract. Assumes nothing.
use Prim.Native.Nat.{ℕ}
use mathlib.Core.Path.{sym, ap, ◌∙◌}
use mathlib.Core.Bool.{Bool, false}
use lib.Dec.{eqb}
use Rattle.calls.specs.Plans.{decide_of}
use Rattle.replay_log.proofs.Quick.{quick-does, begin-does}
use Rattle.replay_log.proofs.InPlace.of.Goals as goal

pub returns-then-is_quick : goal.returns-then-is_quick
returns-then-is_quick c =
    quick-does c.args.sound c.args.w.now c.args.a _ _ _ (sym c.is_quick.ensures ∙ c.if-is_quick.true) c.requires c.in_ok-k.ensures
    (c.decide-plan.ensures ∙ ap (λ (fails : Bool). decide_of c.args.th.at fails c.word.result false) c.fails.ensures
    ∙ ap (λ (word : ℕ). decide_of c.args.th.at (eqb c.args.a.choice 1) word false) c.word.ensures)

pub returns-then-is_begin : goal.returns-then-is_begin
returns-then-is_begin c =
    begin-does c.args.sound c.args.w.now c.args.a _ _ _ _ (sym c.is_begin.ensures ∙ c.if-is_begin.true) c.requires c.start-at.ensures c.needs.ensures c.has_hold.ensures

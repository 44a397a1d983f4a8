-- Every contract of this crate determines its result: any two results that it allows are equal. Assumes nothing.
use Prim.Native.Nat.{ℕ}
use Rattle.words.specs.Determined.{Determined, determined}
use Rattle.world.specs.declared.World.{World}
use Rattle.solo.specs.Run.{solo_of}
use Rattle.solo.specs.declared.Stop.{Stop}
use Rattle.solo.specs.Solo.{answer_of, name_of, value_of}

pub solo-determined : (w : World) (t budget : ℕ) → Determined (answer_of (solo_of w t budget))
solo-determined w t budget = determined (answer_of (solo_of w t budget))

pub name-determined : (stop : Stop) → Determined (name_of stop)
name-determined stop = determined (name_of stop)

pub value-determined : (stop : Stop) → Determined (value_of stop)
value-determined stop = determined (value_of stop)

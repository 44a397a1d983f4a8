-- Every contract of this crate determines its result: any two results that it allows are equal. Assumes nothing.
use Rattle.words.specs.Determined.{Determined, determined}
use Rattle.world.specs.declared.World.{World}
use Rattle.sound.specs.Sound.{names_exist, values_passed, sleepers_stand, words_in_range, mutexes_agree, locks_agree, needs_held, started_or_set, sound_world}

pub names-exist-determined : (w : World) → Determined (names_exist w)
names-exist-determined w = determined (names_exist w)

pub values-passed-determined : (w : World) → Determined (values_passed w)
values-passed-determined w = determined (values_passed w)

pub sleepers-stand-determined : (w : World) → Determined (sleepers_stand w)
sleepers-stand-determined w = determined (sleepers_stand w)

pub words-in-range-determined : (w : World) → Determined (words_in_range w)
words-in-range-determined w = determined (words_in_range w)

pub mutexes-agree-determined : (w : World) → Determined (mutexes_agree w)
mutexes-agree-determined w = determined (mutexes_agree w)

pub locks-agree-determined : (w : World) → Determined (locks_agree w)
locks-agree-determined w = determined (locks_agree w)

pub needs-held-determined : (w : World) → Determined (needs_held w)
needs-held-determined w = determined (needs_held w)

pub started-or-set-determined : (w : World) → Determined (started_or_set w)
started-or-set-determined w = determined (started_or_set w)

pub sound-determined : (w : World) → Determined (sound_world w)
sound-determined w = determined (sound_world w)

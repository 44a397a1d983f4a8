-- Document 01's transcript, byte for byte, and the longest numbers. Assumes nothing.
use mathlib.Core.Path.{◌≡◌, refl}
use mathlib.Core.List.{[], ◌∷◌, ◌++◌}
use Rattle.calls.specs.declared.Event.TheVariants as E
use Rattle.calls.specs.Events.{value_of, woken_of}
use Rattle.tally.specs.declared.Tally.{Tally}
use Rattle.lines.specs.Lines.{text_from, decimal_of, name_of, line_of, tally_line}

abbrev one_grant : Tally
one_grant = record { grants = 1; sleeps = 0; wakes = 0; panics = 0; refused = 0 }

pub transcript : line_of 0 E.Begun ++ line_of 1 (E.Done 1 0) ++ line_of 2 E.Begun ++ line_of 3 (E.Done 0 0) ++ tally_line one_grant ≡
    -- 0 begun 0 0
    48 ∷ 32 ∷ 98 ∷ 101 ∷ 103 ∷ 117 ∷ 110 ∷ 32 ∷ 48 ∷ 32 ∷ 48 ∷ 10 ∷
    -- 1 done 1 0
    49 ∷ 32 ∷ 100 ∷ 111 ∷ 110 ∷ 101 ∷ 32 ∷ 49 ∷ 32 ∷ 48 ∷ 10 ∷
    -- 2 begun 0 0
    50 ∷ 32 ∷ 98 ∷ 101 ∷ 103 ∷ 117 ∷ 110 ∷ 32 ∷ 48 ∷ 32 ∷ 48 ∷ 10 ∷
    -- 3 done 0 0
    51 ∷ 32 ∷ 100 ∷ 111 ∷ 110 ∷ 101 ∷ 32 ∷ 48 ∷ 32 ∷ 48 ∷ 10 ∷
    -- grants 1 sleeps 0 wakes 0 panics 0 refused 0
    103 ∷ 114 ∷ 97 ∷ 110 ∷ 116 ∷ 115 ∷ 32 ∷ 49 ∷ 32 ∷ 115 ∷ 108 ∷ 101 ∷ 101 ∷ 112 ∷ 115 ∷ 32 ∷ 48 ∷ 32 ∷
    119 ∷ 97 ∷ 107 ∷ 101 ∷ 115 ∷ 32 ∷ 48 ∷ 32 ∷ 112 ∷ 97 ∷ 110 ∷ 105 ∷ 99 ∷ 115 ∷ 32 ∷ 48 ∷ 32 ∷
    114 ∷ 101 ∷ 102 ∷ 117 ∷ 115 ∷ 101 ∷ 100 ∷ 32 ∷ 48 ∷ 10 ∷ []
unfolding line_of tally_line name_of decimal_of text_from value_of woken_of
transcript = refl

-- 18446744073709551615
pub largest : decimal_of 18446744073709551615 ≡ 49 ∷ 56 ∷ 52 ∷ 52 ∷ 54 ∷ 55 ∷ 52 ∷ 52 ∷ 48 ∷ 55 ∷ 51 ∷ 55 ∷ 48 ∷ 57 ∷ 53 ∷ 53 ∷ 49 ∷ 54 ∷ 49 ∷ 53 ∷ []
unfolding decimal_of text_from
largest = refl

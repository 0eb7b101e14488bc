-- An early leaver, as docs/PAUSE.md tells it: nobody fails, bench 3 leaves after round 1, and round 3 is sent. This file is to be believed: it is the case by
-- which the r of docs/PAUSE.md cannot be 0. A world is written in binary: 0b011 is benches 1 and 2.
use Rattle.std.specs.Prelude.{List, [], ◌∷◌}
use Rattle.published.specs.Rounds.{Step, start, leave, turn, arrive}

-- Bench 3 proposes 1 and leaves. It is in the world of bench 1, but not in that of bench 2, which starts when it has left. Nobody is past round 1.
unfoldable pub starts : List Step
starts = start 3 1 0b111 ∷ start 1 9 0b111 ∷ leave 3 ∷ start 2 9 0b011 ∷ []

-- Bench 1 takes what bench 3 sent, bench 2 does not wait for it: in round 2 they say 1 and 9, and only in round 3 the same.
unfoldable pub rounds : List Step
rounds =
    arrive 1 3 ∷ arrive 1 3 ∷ arrive 1 2 ∷ arrive 2 1 ∷ turn 1 ∷ turn 2
    ∷ arrive 1 2 ∷ arrive 2 1 ∷ turn 1 ∷ turn 2
    ∷ arrive 1 2 ∷ arrive 2 1 ∷ turn 1 ∷ turn 2 ∷ []

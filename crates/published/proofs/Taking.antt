-- What one step makes a bench take and notice: an arrival takes the next message of a line and a notice marks one failure, or they are refused; and where
-- a message waits, or a bench has failed, they are done. By cases on the move, and by the checks. Assumes nothing.
use mathlib.Core.Path.{◌≡◌, refl, ap, ◌∙◌}
use Prim.Native.Nat.{ℕ, ◌<◌}
use mathlib.Core.Bool.{true, false}
use mathlib.Core.List.{List, ◌∷◌}
use lib.ListN.{length}
use Rattle.published.specs.Rounds.{Run, Bench, Message, failed, is_failed, waiting, some, taking, taking_first, noticing, arrive, notice, after, Answer, refuse, done, step}
use Rattle.common.specs.Benches.{In}
use Rattle.common.specs.Updates.{put}
use Rattle.common.proofs.Tests.{split}
use Rattle.common.proofs.Updates.{put_same}
use Rattle.published.proofs.Messages.{drop_some, drop_short}
use Rattle.published.proofs.Moves.{live, takes, notices, Outcome, refused, moved, step_outcome}
use Rattle.published.proofs.Answers.{step_holds, arrive_holds, notice_holds}

-- from s to r bench b has taken the next message m of f; or the step was refused
pub data Took (s : Run) (b f : ℕ) (r : Run) : Type 0 where
  took_none : r ≡ s → Took s b f r
  took : (m : Message) (q : List Message) → waiting s b f ≡ m ∷ q → r ≡ put s b (taking f m (s b)) → Took s b f r

-- from s to r bench b has noticed f; or the step was refused
pub data Noted (s : Run) (b f : ℕ) (r : Run) : Type 0 where
  noted_none : r ≡ s → Noted s b f r
  noted : r ≡ put s b (noticing f (s b)) → Noted s b f r

-- a message waits where less was taken than sent
pub waiting_short : (s : Run) (b f : ℕ) (m : Message) (q : List Message) → waiting s b f ≡ m ∷ q → length ((s b).taken f) < length (s f).sent
unfolding waiting
waiting_short s b f m q e = drop_short (length ((s b).taken f)) (s f).sent m q e

pub waiting_some : (s : Run) (b f : ℕ) → length ((s b).taken f) < length (s f).sent → (m : Message) × (q : List Message) × (waiting s b f ≡ m ∷ q)
unfolding waiting
waiting_some s b f h = drop_some (length ((s b).taken f)) (s f).sent h

module _ (n : ℕ) (s : Run) where
  arrive_outcome : (b f : ℕ) (r : Answer) → Outcome n s (arrive b f) r → Took s b f r.run
  unfolding refuse done
  arrive_outcome b f r (refused k e) = took_none refl
  arrive_outcome b f r (moved c x (takes _ _ m q hb hf ne l z e)) = took m q e refl

  notice_outcome : (b f : ℕ) (r : Answer) → Outcome n s (notice b f) r → Noted s b f r.run
  unfolding refuse done
  notice_outcome b f r (refused k e) = noted_none refl
  notice_outcome b f r (moved c x (notices _ _ hb hf ne l e z)) = noted refl

  pub arrive_took : (b f : ℕ) → Took s b f (step n s (arrive b f)).run
  arrive_took b f = arrive_outcome b f (step n s (arrive b f)) (step_outcome n s (arrive b f))

  pub notice_noted : (b f : ℕ) → Noted s b f (step n s (notice b f)).run
  notice_noted b f = notice_outcome b f (step n s (notice b f)) (step_outcome n s (notice b f))

  module _ (b f : ℕ) (hb : In n b) (hf : In n f) (ne : b ≡ f → ⊥) (l : live (s b).state ≡ true) where
    -- a fresh or running bench takes what waits on an open line
    pub arrive_takes : (s b).noticed f ≡ false → length ((s b).taken f) < length (s f).sent → (m : Message) × ((step n s (arrive b f)).run ≡ put s b (taking f m (s b)))
    unfolding after done taking_first some
    arrive_takes g h = let z = waiting_some s b f h in
        (z.0, ap (λ (r : Answer). r.run) (step_holds n s (arrive b f) (arrive_holds n s b f hb hf ne l g (rw z.2 refl))) ∙ rw z.2 refl)

    -- and notices who has failed, now or before
    pub notice_notes : (s f).state ≡ failed → ((step n s (notice b f)).run b).noticed f ≡ true
    unfolding after done is_failed noticing
    notice_notes e = split ((s b).noticed f)
        (λ g. noticed_still (notice_noted b f) g)
        (λ g. ap (λ (r : Answer). (r.run b).noticed f) (step_holds n s (notice b f) (notice_holds n s b f hb hf ne l g (rw e refl)))
        ∙ ap (λ (y : Bench). y.noticed f) (put_same s b (noticing f (s b))) ∙ put_same (s b).noticed f true)
      where
        noticed_still : Noted s b f (step n s (notice b f)).run → (s b).noticed f ≡ true → ((step n s (notice b f)).run b).noticed f ≡ true
        noticed_still (noted_none q) g = rw q g
        noticed_still (noted q) g = rw q (rw put_same (unfold noticing in put_same (s b).noticed f true))

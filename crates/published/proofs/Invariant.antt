-- The invariant of reached runs, and what follows from it at once. It is a statement about one run, never about two moments: what a bench
-- has sent stays sent, so facts about messages are for ever, and a fact about two rounds is an induction on rounds and not on steps.
-- The names A.7, A.9 and 5.1 are those of the source, document 000. Assumes nothing.
use mathlib.Core.Path.{◌≡◌}
use Prim.Native.Nat.{ℕ, zero, suc, ◌≤◌}
use mathlib.Core.Bool.{true, false}
use mathlib.Core.List.{List, []}
use native.Mathlib.Omega.{arith}
use lib.Dec.{eqb}
use borrow.Author.Tests.{eqb-true, eqb-false}
use Rattle.published.specs.Rounds.{Run, Bench, Message, absent, found, State, fresh, running, failed, find, has_out}
use Rattle.published.specs.Proposals.{M}
use Rattle.common.specs.Worlds.{member}
use Rattle.common.proofs.Tests.{split}
use Rattle.common.specs.Benches.{In}
use Rattle.common.proofs.Worlds.{Sub}
use Rattle.published.proofs.Messages.{tidy, Pre}
use Rattle.published.proofs.Moves.{Up, live, running_live, live_up}

-- bench f has sent OUT and no round r message: it never will
pub record Mute (s : Run) (r f : ℕ) : Type 0 where
  pub has_out_lem : has_out (s f).sent ≡ true
  pub not_sent : find r (s f).sent ≡ absent

-- ---- what holds of one bench

-- of its state, its round, value and world, and what it has sent: OUT is sent once it is neither live nor failed, and never before;
-- a fresh bench has sent nothing; a running one's last message is that of its round; rounds are from 1 to its round; nothing is behind OUT
pub record Wf (k : State) (r v w : ℕ) (l : List Message) : Type 0 where
  pub quiet : live k ≡ true → has_out l ≡ false
  pub shut : live k ≡ false → Up k → has_out l ≡ true
  pub empty : k ≡ fresh → l ≡ []
  pub now : k ≡ running → find r l ≡ found v w
  pub upto : (q u y : ℕ) → find q l ≡ found u y → (1 ≤ q) × (q ≤ r)
  pub end : tidy l ≡ true

abbrev pub WfB : Bench → Type 0
WfB x = Wf x.state x.round x.value x.world x.sent

-- ---- where a message came from

-- member k of the round r world is in the next world w, or has left the rounds before round r, or has failed
pub data Stays (s : Run) (r w k : ℕ) : Type 0 where
  stays : member k w ≡ true → Stays s r w k
  mute : Mute s r k → Stays s r w k
  dead : (s k).state ≡ failed → Stays s r w k

-- bench j has sent a round r message, whose value is not below v
pub record Heard (s : Run) (r v j : ℕ) : Type 0 where
  pub value_of : ℕ
  pub the_world : ℕ
  pub msg : M s j r value_of the_world
  pub least : v ≤ value_of

-- a member of w of whose round r message v is the value
pub record Origin (n : ℕ) (s : Run) (r v w : ℕ) : Type 0 where
  pub from : ℕ
  pub from_in : In n from
  pub from_member : member from w ≡ true
  pub from_world : ℕ
  pub from_msg : M s from r v from_world

-- bench i's message (v, w) of round r + 2 came from round r + 1 (A.7 and A.9): its own message there had no lower value and a world that has
-- w's members; each of these was heard, the least value among theirs is v; whoever of that world is not in w is mute or has failed
pub record Came (n : ℕ) (s : Run) (i r v w : ℕ) : Type 0 where
  pub value₀ : ℕ
  pub world₀ : ℕ
  pub before : M s i (suc r) value₀ world₀
  pub le : v ≤ value₀
  pub sub : Sub n w world₀
  pub all_heard : (j : ℕ) → In n j → member j w ≡ true → Heard s (suc r) v j
  pub others : (k : ℕ) → In n k → member k world₀ ≡ true → Stays s (suc r) w k
  pub origin : Origin n s (suc r) v w

-- ---- what holds of all

-- `lines`: what is taken of a line is the first part of what was sent. `gone`: only the failed are noticed. `range`: only benches 1 to n send.
-- `known`: a running bench stands in the starting world of whoever started. `second`: so does a bench that has sent round 2 (5.1).
pub record Base (n : ℕ) (s : Run) : Type 0 where
  pub wf : (f : ℕ) → WfB (s f)
  pub lines : (b f : ℕ) → Pre ((s b).taken f) (s f).sent
  pub gone : (b f : ℕ) → (s b).noticed f ≡ true → (s f).state ≡ failed
  pub range : (i r v w : ℕ) → M s i r v w → In n i
  pub known : (i b v w : ℕ) → (s b).state ≡ running → M s i 1 v w → member b w ≡ true
  pub second : (i j v w v₂ w₂ : ℕ) → M s i 1 v w → M s j 2 v₂ w₂ → member j w ≡ true
  pub came : (i r v w : ℕ) → M s i (suc (suc r)) v w → Came n s i r v w

-- ---- what follows at once

module _ (n : ℕ) (s : Run) (h : Base n s) where
  -- no message is of round 0
  pub positive : {A : Type 0} (i v w : ℕ) → M s i zero v w → A
  positive i v w m = absurd (omega (arith, (h.wf i).upto zero v w m))

  -- a bench that has sent a round's message has sent those of all earlier rounds
  pub earlier : (i r q v w : ℕ) → M s i r v w → 1 ≤ q → q ≤ r → (v' : ℕ) × (w' : ℕ) × (M s i q v' w')
  earlier i zero q v w m p le = positive i v w m
  earlier i (suc zero) q v w m p le = let e : q ≡ 1 = omega arith in (v, w, rw e m)
  earlier i (suc (suc r)) q v w m p le = split (eqb q (suc (suc r)))
      (λ e. (v, w, rw (eqb-true q (suc (suc r)) e) m))
      (λ e. let ne = eqb-false q (suc (suc r)) e in let c = h.came i r v w m in earlier i (suc r) q c.value₀ c.world₀ c.before p (omega arith))

  first : (i r v w : ℕ) → M s i r v w → (v₁ : ℕ) × (w₁ : ℕ) × (M s i 1 v₁ w₁)
  first i r v w m = earlier i r 1 v w m (omega arith) (omega (arith, (h.wf i).upto r v w m))

  -- a running bench has started
  pub began : (b : ℕ) → (s b).state ≡ running → (v₁ : ℕ) × (w₁ : ℕ) × (M s b 1 v₁ w₁)
  began b k = first b (s b).round (s b).value (s b).world ((h.wf b).now k)

  -- a bench that is still there stays in every world of a bench in whose first world it stands
  pub kept : (i b r v w v₁ w₁ : ℕ) → In n b → live (s b).state ≡ true → M s i 1 v₁ w₁ → member b w₁ ≡ true → M s i r v w → member b w ≡ true
  kept i b zero v w v₁ w₁ hb l m₁ b₁ m = positive i v w m
  kept i b (suc zero) v w v₁ w₁ hb l m₁ b₁ m = let e : w ≡ w₁ = cc in rw e b₁
  kept i b (suc (suc r)) v w v₁ w₁ hb l m₁ b₁ m =
      let c = h.came i r v w m in
      elim (c.others b hb (kept i b (suc r) c.value₀ c.world₀ v₁ w₁ hb l m₁ b₁ c.before)) [
        | stays e ↦ e
        | mute u ↦ let z = (h.wf b).quiet l in let z₂ = u.has_out_lem in cc
        | dead f ↦ absurd (live_up (s b).state l f)
      ]

  -- a running bench is one of the benches 1 to n
  pub running_bench : (b : ℕ) → (s b).state ≡ running → In n b
  running_bench b k = h.range b (s b).round (s b).value (s b).world ((h.wf b).now k)

  -- a running bench stands in every world
  pub running_in : (i b r v w : ℕ) → (s b).state ≡ running → M s i r v w → member b w ≡ true
  running_in i b r v w k m = let o = first i r v w m in
      kept i b r v w o.0 o.1 (running_bench b k) (running_live k) o.2 (h.known i b o.0 o.1 k o.2) m

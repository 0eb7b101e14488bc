-- What a bench has got of another is what that bench has said; so the message with which it goes on came from the round before as `Came` says. Assumes nothing.
use mathlib.Core.Path.{◌≡◌, refl, sym, ◌∙◌}
use Prim.Native.Nat.{ℕ, suc, ◌≤◌}
use mathlib.Core.Bool.{true, false, not, ◌&&◌}
use mathlib.Core.List.{List, [], ◌∷◌, ◌++◌, append-nil}
use native.Mathlib.Omega.{arith}
use lib.ListN.{length, drop}
use lib.Dec.{eqb}
use borrow.Author.Tests.{eqb-true, eq-eqb}
use Rattle.published.specs.Rounds.{Run, Message, Round, absent, found, heard, running, find, has_out, view_of, got, see, is_awaited, is_heard, decides, settled, settled_on, next_world, heard_on, next_value, entering}
use Rattle.common.specs.Worlds.{member}
use Rattle.common.proofs.Tests.{both, clash, cond_ind}
use Rattle.common.specs.Benches.{In}
use Rattle.common.proofs.Worlds.{every_in_get, member_world_of}
use Rattle.published.proofs.Messages.{find_found, find_one, all_taken}
use Rattle.published.proofs.Views.{view_of_ind, see_heard, least_le, least_min, From, own, other, least_from}
use Rattle.published.proofs.Invariant.{Mute, Stays, stays, mute, dead, Origin, Came, Base, running_in}
use Rattle.published.specs.Proposals.{M}
use Rattle.published.proofs.Changes.{at_turn, News}

module _ (n : ℕ) (s : Run) (h : Base n s) (b : ℕ) where
  -- ---- what a bench has got

  got_pre : (i : ℕ) → (q : List Message) × ((s i).sent ≡ got b (s b) i ++ q)
  unfolding got
  got_pre i = cond_ind (λ l. (q : List Message) × ((s i).sent ≡ l ++ q)) (eqb i b) (s b).sent ((s b).taken i)
      (λ e. ([], rw (eqb-true i b e) (sym (append-nil (s b).sent))))
      (λ e. (drop (length ((s b).taken i)) (s i).sent, h.lines b i))

  -- a message that it has got was sent
  pub got_found : (i r v w : ℕ) → find r (got b (s b) i) ≡ found v w → M s i r v w
  got_found i r v w e = let p = got_pre i in rw p.1 (find_found r (got b (s b) i) p.0 v w e)

  -- where OUT has come without a round's message, that message never will
  pub got_mute : (i r : ℕ) → find r (got b (s b) i) ≡ absent → has_out (got b (s b) i) ≡ true → Mute s r i
  got_mute i r e o = let p = got_pre i in let a = all_taken (s i).sent (got b (s b) i) p.0 p.1 (h.wf i).end o in
      record { has_out_lem = rw a o; not_sent = rw a e }

  -- ---- the next round

  module _ (hb : In n b) (k : (s b).state ≡ running) where
    own_in : member b (s b).world ≡ true
    own_in = running_in n s h b b (s b).round (s b).value (s b).world k ((h.wf b).now k)

    -- a running bench hears itself
    pub see_own : see b (s b) b ≡ heard (s b).value (s b).world
    unfolding see got view_of
    see_own = let e = eq-eqb b b refl in let f = (h.wf b).now k in cc

    in_next : (d : ℕ) → In n d → member d (next_world n b (s b)) ≡ (member d (s b).world && is_heard (see b (s b) d))
    unfolding next_world heard_on
    in_next d hd = member_world_of n (λ i. member i (s b).world && is_heard (see b (s b) i)) d hd

    next_both : (d : ℕ) → In n d → member d (next_world n b (s b)) ≡ true → (member d (s b).world ≡ true) × (is_heard (see b (s b) d) ≡ true)
    next_both d hd m = both (member d (s b).world) (is_heard (see b (s b) d)) (sym (in_next d hd) ∙ m)

    heard_next : (d v y : ℕ) → In n d → member d (s b).world ≡ true → see b (s b) d ≡ heard v y → member d (next_world n b (s b)) ≡ true
    unfolding is_heard
    heard_next d v y hd m e = let z = in_next d hd in cc

    next_heard : (d : ℕ) → In n d → member d (next_world n b (s b)) ≡ true → (v : ℕ) × (y : ℕ) × (see b (s b) d ≡ heard v y)
    unfolding see is_heard
    next_heard d hd m = view_of_ind (λ z. is_heard z ≡ true → (v : ℕ) × (y : ℕ) × (z ≡ heard v y))
        (find (s b).round (got b (s b) d)) (has_out (got b (s b) d)) ((s b).noticed d)
        (λ v w e q. (v, w, refl)) (λ e o q. clash (cc)) (λ e o g q. clash (cc)) (λ e o g q. clash (cc))
        (next_both d hd m).1

    origin_next : (v : ℕ) → From (s b).value (s b).world (see b (s b)) n v → Origin n s (s b).round v (next_world n b (s b))
    origin_next v (own z) = record {
      from = b;
      from_in = hb;
      from_member = heard_next b (s b).value (s b).world hb own_in see_own;
      from_world = (s b).world;
      from_msg = rw z ((h.wf b).now k);
    }
    origin_next v (other i y hi m z) = record {
      from = i;
      from_in = hi;
      from_member = heard_next i v y hi m z;
      from_world = y;
      from_msg = got_found i (s b).round v y (see_heard b (s b) i v y z);
    }

    module _ (d : decides n b (s b) ≡ false) (t : settled n b (s b) ≡ true) where
      came_next : (q : ℕ) → (s b).round ≡ suc q → Came n s b q (next_value n b (s b)) (next_world n b (s b))
      unfolding settled settled_on see is_awaited next_value
      came_next q e = record {
        value₀ = (s b).value;
        world₀ = (s b).world;
        before = rw e at ((h.wf b).now k);
        le = least_le (s b).value (s b).world (see b (s b)) n;
        sub = λ d hd m. (next_both d hd m).0;
        all_heard = λ d hd m. let o = next_heard d hd m in record {
          value_of = o.0;
          the_world = o.1;
          msg = rw e at (got_found d (s b).round o.0 o.1 (see_heard b (s b) d o.0 o.1 o.2));
          least = least_min (s b).value (s b).world (see b (s b)) n d o.0 o.1 hd (next_both d hd m).0 o.2;
        };
        others = λ d hd m. view_of_ind (λ z. not (is_awaited z) ≡ true → see b (s b) d ≡ z → Stays s (suc q) (next_world n b (s b)) d)
            (find (s b).round (got b (s b) d)) (has_out (got b (s b) d)) ((s b).noticed d)
            (λ u y e q z. stays (heard_next d u y hd m z)) (λ f o q z. mute (rw e at (got_mute d (s b).round f o))) (λ f o g q z. dead (h.gone b d g)) (λ f o g q z. clash (cc))
            (every_in_get n (s b).world (λ i. not (is_awaited (see b (s b) i))) d t hd m) refl;
        origin = rw (← e) (origin_next (next_value n b (s b)) (least_from (s b).value (s b).world (see b (s b)) n));
      }

      round_pos : 1 ≤ (s b).round
      round_pos = ((h.wf b).upto (s b).round (s b).value (s b).world ((h.wf b).now k)).0

      pub news_advance : (r v w : ℕ) → find r (Round (suc (s b).round) (next_value n b (s b)) (next_world n b (s b)) ∷ []) ≡ found v w
          → News n s b (entering (suc (s b).round) (next_value n b (s b)) (next_world n b (s b)) (s b)) r v w
      news_advance r v w e = let o = find_one r (suc (s b).round) (next_value n b (s b)) (next_world n b (s b)) v w e in
          let er = o.0 in let p = round_pos in record {
            sends = at_turn er k d t;
            in_range = hb;
            all_known = λ d z z₁. absurd (omega arith);
            own_first = λ z. absurd (omega arith);
            first_second = λ z. absurd (omega arith);
            second_first = λ z i v₁ w₁ m. h.known i b v₁ w₁ k m;
            new_came = λ q z. let e' : (s b).round ≡ suc q = omega arith in rw (o.1, o.2) (came_next q e');
          }

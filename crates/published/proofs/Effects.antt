-- Every move keeps the invariant. A start is the one move that looks at other benches: checks 6 and 7 are what keeps the worlds together. Assumes nothing.
use mathlib.Core.Path.{◌≡◌, refl}
use Prim.Native.Nat.{ℕ, zero}
use mathlib.Core.Bool.{true, not, ◌||◌}
use mathlib.Core.List.{List, [], ◌∷◌}
use native.Mathlib.Omega.{arith}
use Rattle.published.specs.Rounds.{Run, Bench, Message, Round, Out, absent, found, fresh, running, left, abstained, failed, find, has_out, is_found, is_gone, is_fresh, is_running, started_with, has_all, in_all, new_run, new_bench, in_state, sending, taking, noticing, entering, parting, advancing, Step}
use Rattle.common.specs.Worlds.{member}
use Rattle.common.specs.Updates.{put}
use Rattle.common.proofs.Tests.{clash}
use Rattle.common.proofs.Updates.{put_ind}
use Rattle.common.proofs.Benches.{every_get}
use Rattle.common.specs.Benches.{In}
use Rattle.published.proofs.Messages.{never, find_one, tidy_nil}
use Rattle.published.proofs.Moves.{live, fresh_live, running_live, live_up, here_up, Move, starts, abstains, leaves, leaves_silent, fails, takes, notices, concludes, advances}
use Rattle.published.proofs.Invariant.{Base, began, kept}
use Rattle.published.specs.Proposals.{M}
use Rattle.published.proofs.Changes.{Change, at_start, News, base_step}
use Rattle.published.proofs.Sent.{change_stop, change_part, change_decide, change_take, change_notice, change_begin, change_advance}
use Rattle.published.proofs.NextRound.{news_advance}

-- ---- start

module _ (n : ℕ) (s : Run) (h : Base n s) (b v w : ℕ) (hb : In n b) (k : (s b).state ≡ fresh) (mb : member b w ≡ true)
    (c₆ : has_all n s w ≡ true) (c₇ : in_all n s b ≡ true) where
  runs_start : (i u y : ℕ) → M s i 1 u y → member b y ≡ true
  unfolding started_with in_all
  runs_start i u y m = let z = every_get n (λ i. started_with b (find 1 (s i).sent)) i c₇ (h.range i 1 u y m) in cc

  running_there : (d : ℕ) → (s d).state ≡ running → member d w ≡ true
  unfolding is_found is_gone has_all
  running_there d e =
      let o = began n s h d e in let o₂ = o.2 in
      let z = every_get n (λ i. not (is_found (find 1 (s i).sent)) || is_gone (s i).state || member i w) d c₆ (h.range d 1 o.0 o.1 o₂) in cc

  -- nobody is past round 1: it would have awaited this bench
  none_second : {A : Type 0} (j v₂ w₂ : ℕ) → M s j 2 v₂ w₂ → A
  unfolding find
  none_second j v₂ w₂ m =
      let c = h.came j zero v₂ w₂ m in
      let x = c.all_heard b hb (kept n s h j b 2 v₂ w₂ c.value₀ c.world₀ hb (fresh_live k) c.before (runs_start j c.value₀ c.world₀ c.before) m) in
      let y = x.msg in let z = (h.wf b).empty k in clash (cc)

  news_start : (r v' w' : ℕ) → find r (Round 1 v w ∷ []) ≡ found v' w' → News n s b (entering 1 v w (s b)) r v' w'
  news_start r v' w' e = let o = find_one r 1 v w v' w' e in let er = o.0 in record {
    sends = at_start er;
    in_range = hb;
    all_known = λ d z z₁. rw o.2 (put_ind (λ y. y.state ≡ running → member d w ≡ true) s b (entering 1 v w (s b)) d (λ q z. rw q mb) (λ q z. running_there d z) z);
    own_first = λ z. rw o.2 mb;
    first_second = λ z j v₂ w₂ m. none_second j v₂ w₂ m;
    second_first = λ z. absurd (omega arith);
    new_came = λ q z. absurd (omega arith);
  }

-- ---- every move

-- what a move of bench b to x comes to
pub record Effect (n : ℕ) (s : Run) (b : ℕ) (x : Bench) : Type 0 where
  pub extra : List Message
  pub change : Change s b x extra
  pub news : (r v w : ℕ) → find r extra ≡ found v w → News n s b x r v w
  pub runs : (i v w : ℕ) → x.state ≡ running → M s i 1 v w → member b w ≡ true

module _ (n : ℕ) (s : Run) (h : Base n s) where
  -- a move that sends no round message
  quietly : (b : ℕ) (x : Bench) (extra : List Message) → Change s b x extra → ((r : ℕ) → find r extra ≡ absent) → (x.state ≡ running → (s b).state ≡ running) → Effect n s b x
  quietly b x extra c z k = record { extra = extra; change = c; news = λ r v w q. never (find r extra) v w (z r) q; runs = λ i v w q m. h.known i b v w (k q) m }

  pub effect : (a : Step) (b : ℕ) (x : Bench) → Move n s a b x → Effect n s b x
  unfolding find live is_fresh is_running parting sending in_state taking noticing advancing
  effect a d x (starts b v w hb k hv hw mb c₆ c₇) = record {
    extra = _;
    change = change_begin n s h b v w k;
    news = news_start n s h b v w hb k mb c₆ c₇;
    runs = λ i u y q m. runs_start n s h b v w hb k mb c₆ c₇ i u y m;
  }
  effect a d x (abstains b hb k) = let l = fresh_live k in
      quietly b _ (Out ∷ []) (change_part n s h b abstained refl (live_up (s b).state l) ((h.wf b).quiet l)) (λ r. refl) (λ z. cc)
  effect a d x (leaves b hb u o) = quietly b _ (Out ∷ []) (change_part n s h b left refl (here_up (s b).state u) o) (λ r. refl) (λ z. cc)
  effect a d x (leaves_silent b hb u o) = quietly b _ [] (change_stop n s h b left refl (here_up (s b).state u) (λ z. o)) (λ r. refl) (λ z. cc)
  effect a d x (fails b hb u) = quietly b _ [] (change_stop n s h b failed refl (here_up (s b).state u) (λ z. absurd (z refl))) (λ r. refl) (λ z. cc)
  effect a d x (takes b f m q hb hf ne l g e) = quietly b _ [] (change_take n s h b f m q e (live_up (s b).state l)) (λ r. refl) (λ z. z)
  effect a d x (notices b f hb hf ne l e g) = quietly b _ [] (change_notice n s h b f e (live_up (s b).state l)) (λ r. refl) (λ z. z)
  effect a d x (concludes b hb k e) = quietly b _ (Out ∷ []) (change_decide n s h b (running_live k)) (λ r. refl) (λ z. cc)
  effect a d x (advances b hb k e t) = record {
    extra = _;
    change = change_advance n s h b _ _ k;
    news = news_advance n s h b hb k e t;
    runs = λ i v w q m. h.known i b v w k m;
  }

  pub base_move : (a : Step) (b : ℕ) (x : Bench) → Move n s a b x → Base n (put s b x)
  base_move a b x m = let e = effect a b x m in base_step s b x e.extra e.change n h e.news e.runs

pub base_new : (n : ℕ) → Base n new_run
unfolding new_run new_bench live is_fresh has_out find
base_new n = record {
  wf = λ f. record { quiet = λ z. refl; shut = λ z u. cc; empty = λ z. refl; now = λ z. cc; upto = λ q u y z. never absent u y refl z; end = tidy_nil };
  lines = λ b f. refl;
  gone = λ b f z. cc;
  range = λ i r v w m. never absent v w refl m;
  known = λ i b v w k m. cc;
  second = λ i j v w v₂ w₂ m m₂. cc;
  came = λ i r v w m. never absent v w refl m;
}

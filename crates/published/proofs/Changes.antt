-- One bench changes and sends `extra`: what was sent stays sent, and the invariant holds after if it holds of the new messages.
-- `base_step` is the one place where the whole invariant is shown to be kept. Assumes nothing.
use mathlib.Core.Path.{◌≡◌, refl, ap, ◌∙◌}
use Prim.Native.Nat.{ℕ, suc}
use mathlib.Core.Bool.{true, false}
use mathlib.Core.List.{List, [], ◌++◌, append-nil}
use Rattle.published.specs.Rounds.{Run, Bench, Message, absent, found, running, failed, find, has_out, decides, settled}
use Rattle.common.specs.Worlds.{member}
use Rattle.common.specs.Updates.{put}
use Rattle.common.proofs.Updates.{put_ind}
use Rattle.common.specs.Benches.{In}
use Rattle.published.proofs.Messages.{find_append, find_found, Pre, pre_more}
use Rattle.published.proofs.Moves.{Up}
use Rattle.published.proofs.Invariant.{Mute, WfB, stays, mute, dead, Came, Base}
use Rattle.published.specs.Proposals.{M}

-- bench b becomes x and sends `extra`
pub record Change (s : Run) (b : ℕ) (x : Bench) (extra : List Message) : Type 0 where
  pub wf : WfB x
  pub sent_is : x.sent ≡ (s b).sent ++ extra
  pub silent : has_out (s b).sent ≡ true → extra ≡ []
  pub alive : Up (s b).state
  pub lines : (f : ℕ) → Pre (x.taken f) (s f).sent
  pub gone : (f : ℕ) → x.noticed f ≡ true → (s f).state ≡ failed

-- when a bench sends a round r message
pub data Sends (n : ℕ) (s : Run) (b r : ℕ) : Type 0 where
  at_start : r ≡ 1 → Sends n s b r
  at_turn : r ≡ suc (s b).round → (s b).state ≡ running → decides n b (s b) ≡ false → settled n b (s b) ≡ true → Sends n s b r

-- what is to be shown of a new round message of bench b
pub record News (n : ℕ) (s : Run) (b : ℕ) (x : Bench) (r v w : ℕ) : Type 0 where
  pub sends : Sends n s b r
  pub in_range : In n b
  pub all_known : (d : ℕ) → (put s b x d).state ≡ running → r ≡ 1 → member d w ≡ true
  pub own_first : r ≡ 1 → member b w ≡ true
  pub first_second : r ≡ 1 → (j v₂ w₂ : ℕ) → M s j 2 v₂ w₂ → member j w ≡ true
  pub second_first : r ≡ 2 → (i v₁ w₁ : ℕ) → M s i 1 v₁ w₁ → member b w₁ ≡ true
  pub new_came : (q : ℕ) → r ≡ suc (suc q) → Came n s b q v w

-- a message after the change: an old one, or a new one of bench b
pub data OldNew (s : Run) (b : ℕ) (q : List Message) (f r v w : ℕ) : Type 0 where
  old : M s f r v w → OldNew s b q f r v w
  new : f ≡ b → find r q ≡ found v w → OldNew s b q f r v w

module _ (s : Run) (b : ℕ) (x : Bench) (extra : List Message) (c : Change s b x extra) where
  pub mono : (f r v w : ℕ) → M s f r v w → M (put s b x) f r v w
  mono f r v w h = put_ind (λ y. find r y.sent ≡ found v w) s b x f
      (λ e. rw c.sent_is (find_found r (s b).sent extra v w (rw e at h)))
      (λ e. h)

  pub mute_mono : (r f : ℕ) → Mute s r f → Mute (put s b x) r f
  mute_mono r f u = record {
    has_out_lem = put_ind (λ y. has_out y.sent ≡ true) s b x f (λ e. rw (same e) (rw e at u.has_out_lem)) (λ e. u.has_out_lem);
    not_sent = put_ind (λ y. find r y.sent ≡ absent) s b x f (λ e. rw (same e) (rw e at u.not_sent)) (λ e. u.not_sent);
  }
    where
      same : f ≡ b → x.sent ≡ (s b).sent
      same e = c.sent_is ∙ ap (λ z. (s b).sent ++ z) (c.silent (rw e at u.has_out_lem)) ∙ append-nil (s b).sent

  pre_mono : (p : List Message) (f : ℕ) → Pre p (s f).sent → Pre p (put s b x f).sent
  pre_mono p f h = put_ind (λ y. Pre p y.sent) s b x f
      (λ e. rw c.sent_is (pre_more (s b).sent p extra (rw e at h)))
      (λ e. h)

  -- who has failed stays so
  pub failed_mono : (f : ℕ) → (s f).state ≡ failed → (put s b x f).state ≡ failed
  failed_mono f h = put_ind (λ y. y.state ≡ failed) s b x f (λ e. absurd (c.alive (rw e at h))) (λ e. h)

  pub old_new : (f r v w : ℕ) → M (put s b x) f r v w → OldNew s b extra f r v w
  old_new f r v w = put_ind (λ y. find r y.sent ≡ found v w → OldNew s b extra f r v w) s b x f
      (λ e h. find_append r (s b).sent extra v w (rw c.sent_is at h) (λ z. old (rw e z)) (λ z. new e z))
      (λ e h. old h)

  came_mono : (n i r v w : ℕ) → Came n s i r v w → Came n (put s b x) i r v w
  came_mono n i r v w h = record {
    value₀ = h.value₀;
    world₀ = h.world₀;
    before = mono i (suc r) h.value₀ h.world₀ h.before;
    le = h.le;
    sub = h.sub;
    all_heard = λ j hj m. let o = h.all_heard j hj m in
        record { value_of = o.value_of; the_world = o.the_world; msg = mono j (suc r) o.value_of o.the_world o.msg; least = o.least };
    others = λ k hk m. elim (h.others k hk m) [ stays e ↦ stays e | mute u ↦ mute (mute_mono (suc r) k u) | dead f ↦ dead (failed_mono k f) ];
    origin = let o = h.origin in record {
      from = o.from;
      from_in = o.from_in;
      from_member = o.from_member;
      from_world = o.from_world;
      from_msg = mono o.from (suc r) v o.from_world o.from_msg;
    };
  }

  module _ (n : ℕ) (h : Base n s)
      (news : (r v w : ℕ) → find r extra ≡ found v w → News n s b x r v w)
      (runs : (i v w : ℕ) → x.state ≡ running → M s i 1 v w → member b w ≡ true) where
    pub base_step : Base n (put s b x)
    base_step = record {
      wf = λ f. put_ind WfB s b x f (λ e. c.wf) (λ e. h.wf f);
      lines = λ d f. put_ind (λ y. Pre (y.taken f) (put s b x f).sent) s b x d
          (λ e. pre_mono (x.taken f) f (c.lines f))
          (λ e. pre_mono ((s d).taken f) f (h.lines d f));
      gone = λ d f. put_ind (λ y. y.noticed f ≡ true → (put s b x f).state ≡ failed) s b x d
          (λ e g. failed_mono f (c.gone f g))
          (λ e g. failed_mono f (h.gone d f g));
      range = λ i r v w m. elim (old_new i r v w m) [
        | old m' ↦ h.range i r v w m'
        | new e q ↦ rw e (news r v w q).in_range
      ];
      known = λ i d v w k m. elim (old_new i 1 v w m) [
        | old m' ↦ put_ind (λ y. y.state ≡ running → member d w ≡ true) s b x d (λ e k. rw e (runs i v w k m')) (λ e k. h.known i d v w k m') k
        | new e q ↦ (news 1 v w q).all_known d k refl
      ];
      second = λ i j v w v₂ w₂ m m₂. elim (old_new i 1 v w m) [
        | old m' ↦ elim (old_new j 2 v₂ w₂ m₂) [
          | old m₂' ↦ h.second i j v w v₂ w₂ m' m₂'
          | new e₂ q₂ ↦ rw e₂ ((news 2 v₂ w₂ q₂).second_first refl i v w m')
        ]
        | new e q ↦ elim (old_new j 2 v₂ w₂ m₂) [
          | old m₂' ↦ (news 1 v w q).first_second refl j v₂ w₂ m₂'
          | new e₂ q₂ ↦ rw e₂ ((news 1 v w q).own_first refl)
        ]
      ];
      came = λ i r v w m. elim (old_new i (suc (suc r)) v w m) [
        | old m' ↦ came_mono n i r v w (h.came i r v w m')
        | new e q ↦ rw e (came_mono n b r v w ((news (suc (suc r)) v w q).new_came r refl))
      ];
    }

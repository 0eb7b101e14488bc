-- What a step leaves of the bench at which it is done: its state fits what it has sent, and the change is one that `base_step` takes. Assumes nothing.
use mathlib.Core.Path.{◌≡◌, refl, sym, ◌∙◌}
use Prim.Native.Nat.{ℕ, suc, ◌≤◌}
use mathlib.Core.Bool.{true, false}
use mathlib.Core.List.{List, [], ◌∷◌, ◌++◌, append-nil}
use native.Mathlib.Omega.{arith}
use borrow.Author.Tests.{eq-eqb}
use Rattle.published.specs.Rounds.{Run, Bench, Message, Round, Out, Found, absent, found, State, fresh, running, decided, failed, find, has_out, is_fresh, is_running, in_state, in_round, sending, taking, noticing, choosing, entering, parting, deciding, waiting}
use Rattle.common.proofs.Tests.{clash}
use Rattle.common.proofs.Updates.{put_ind}
use Rattle.published.proofs.Messages.{find_append, find_absent, find_one, find_out, has_out_append, has_out_last, tidy, tidy_snoc, Pre, pre_next}
use Rattle.published.proofs.Moves.{Up, live, fresh_live, running_live, live_up}
use Rattle.published.proofs.Invariant.{Wf, WfB, Base}
use Rattle.published.proofs.Changes.{Change}

-- ---- the state fits what was sent

unlike : (k j : State) → live k ≡ false → live j ≡ true → k ≡ j → ◌≡◌ {A = ℕ} 0 1
unlike k j e f q = cc

wf_dead : (k : State) (r v w : ℕ) (l : List Message) → live k ≡ false → (Up k → has_out l ≡ true)
    → ((q u y : ℕ) → find q l ≡ found u y → (1 ≤ q) × (q ≤ r)) → tidy l ≡ true → Wf k r v w l
unfolding live is_fresh is_running
wf_dead k r v w l e o up t = record {
  quiet = λ z. cc;
  shut = λ z u. o u;
  empty = λ z. clash (unlike k fresh e refl z);
  now = λ z. clash (unlike k running e refl z);
  upto = up;
  end = t;
}

wf_begun : (v w : ℕ) (l : List Message) → l ≡ [] → Wf running 1 v w (l ++ (Round 1 v w ∷ []))
unfolding find has_out live is_fresh is_running
wf_begun v w l e = rw e (record {
  quiet = λ z. refl;
  shut = λ z u. cc;
  empty = λ z. cc;
  now = λ z. refl;
  upto = λ q u y z. omega (arith, (find_one q 1 v w u y z).0);
  end = tidy_snoc [] (Round 1 v w) refl;
})

wf_advanced : (r v w v' w' : ℕ) (l : List Message) → Wf running r v w l → Wf running (suc r) v' w' (l ++ (Round (suc r) v' w' ∷ []))
unfolding has_out live is_fresh is_running
wf_advanced r v w v' w' l h = record {
  quiet = λ z. has_out_append l (Round (suc r) v' w' ∷ []) ∙ let q = h.quiet refl in cc;
  shut = λ z u. cc;
  empty = λ z. cc;
  now = λ z. now' (find (suc r) l) refl;
  upto = λ q u y z. find_append q l (Round (suc r) v' w' ∷ []) u y z
      (λ e. omega (arith, h.upto q u y e))
      (λ e. omega (arith, (find_one q (suc r) v' w' u y e).0));
  end = tidy_snoc l (Round (suc r) v' w') (h.quiet refl);
}
  where
    now' : (k : Found) → find (suc r) l ≡ k → find (suc r) (l ++ (Round (suc r) v' w' ∷ [])) ≡ found v' w'
    now' absent e = find_absent (suc r) l (Round (suc r) v' w' ∷ []) e ∙ unfold find in rw (eq-eqb (suc r) (suc r) refl) refl
    now' (found u y) e = absurd (omega (arith, h.upto (suc r) u y e))

-- ---- the changes

module _ (n : ℕ) (s : Run) (h : Base n s) (b : ℕ) where
  -- its lines stay as they are
  change_own : (x : Bench) (extra : List Message) → x.taken ≡ (s b).taken → x.noticed ≡ (s b).noticed → WfB x → x.sent ≡ (s b).sent ++ extra
      → (has_out (s b).sent ≡ true → extra ≡ []) → Up (s b).state → Change s b x extra
  change_own x extra t g w e q a =
      record { wf = w; sent_is = e; silent = q; alive = a; lines = λ f. rw t (h.lines b f); gone = λ f. rw g (h.gone b f) }

  -- it stops, and sends nothing
  pub change_stop : (k : State) → live k ≡ false → Up (s b).state → (Up k → has_out (s b).sent ≡ true) → Change s b (in_state k (s b)) []
  unfolding in_state
  change_stop k e a o = change_own (in_state k (s b)) [] refl refl
      (wf_dead k (s b).round (s b).value (s b).world (s b).sent e o (h.wf b).upto (h.wf b).end)
      (sym (append-nil (s b).sent)) (λ z. refl) a

  wf_out : (k : State) → live k ≡ false → has_out (s b).sent ≡ false → Wf k (s b).round (s b).value (s b).world ((s b).sent ++ (Out ∷ []))
  wf_out k e o = wf_dead k (s b).round (s b).value (s b).world ((s b).sent ++ (Out ∷ [])) e (λ u. has_out_last (s b).sent)
      (λ q u y z. (h.wf b).upto q u y (sym (find_out q (s b).sent) ∙ z)) (tidy_snoc (s b).sent Out o)

  -- it stops, and sends OUT
  pub change_part : (k : State) → live k ≡ false → Up (s b).state → has_out (s b).sent ≡ false → Change s b (parting k (s b)) (Out ∷ [])
  unfolding parting sending in_state
  change_part k e a o = change_own (parting k (s b)) (Out ∷ []) refl refl (wf_out k e o) refl (λ z. cc) a

  pub change_decide : live (s b).state ≡ true → Change s b (deciding (s b)) (Out ∷ [])
  unfolding deciding parting sending in_state choosing live is_fresh is_running
  change_decide l = let o = (h.wf b).quiet l in
      change_own (deciding (s b)) (Out ∷ []) refl refl (wf_out decided refl o) refl (λ z. cc) (live_up (s b).state l)

  pub change_take : (f : ℕ) (m : Message) (q : List Message) → waiting s b f ≡ m ∷ q → Up (s b).state → Change s b (taking f m (s b)) []
  unfolding taking waiting
  change_take f m q e a = record {
    wf = h.wf b;
    sent_is = sym (append-nil (s b).sent);
    silent = λ z. refl;
    alive = a;
    lines = λ g. put_ind (λ l. Pre l (s g).sent) (s b).taken f ((s b).taken f ++ (m ∷ [])) g
        (λ z. rw z (pre_next (s f).sent ((s b).taken f) m q (h.lines b f) e))
        (λ z. h.lines b g);
    gone = λ g. h.gone b g;
  }

  pub change_notice : (f : ℕ) → (s f).state ≡ failed → Up (s b).state → Change s b (noticing f (s b)) []
  unfolding noticing
  change_notice f e a = record {
    wf = h.wf b;
    sent_is = sym (append-nil (s b).sent);
    silent = λ z. refl;
    alive = a;
    lines = λ g. h.lines b g;
    gone = λ g. put_ind (λ c. c ≡ true → (s g).state ≡ failed) (s b).noticed f true g (λ z q. rw z e) (λ z q. h.gone b g q);
  }

  -- it goes into a round, and sends that round's message
  entered : (r v w : ℕ) → live (s b).state ≡ true → Wf running r v w ((s b).sent ++ (Round r v w ∷ [])) → Change s b (entering r v w (s b)) (Round r v w ∷ [])
  unfolding entering sending in_round
  entered r v w l wf = let o = (h.wf b).quiet l in
      change_own (entering r v w (s b)) (Round r v w ∷ []) refl refl wf refl (λ z. cc) (live_up (s b).state l)

  pub change_begin : (v w : ℕ) → (s b).state ≡ fresh → Change s b (entering 1 v w (s b)) (Round 1 v w ∷ [])
  change_begin v w e = entered 1 v w (fresh_live e) (wf_begun v w (s b).sent ((h.wf b).empty e))

  pub change_advance : (v w : ℕ) → (s b).state ≡ running → Change s b (entering (suc (s b).round) v w (s b)) (Round (suc (s b).round) v w ∷ [])
  change_advance v w e = entered (suc (s b).round) v w (running_live e) (wf_advanced (s b).round (s b).value (s b).world v w (s b).sent (rw e at (h.wf b)))

-- What a bench has heard of its round, collected from the logs, is what it sees in the published run; and what turn asks of it is what the
-- published turn asks of its views. Assumes nothing.
use Rattle.bench.specs.declared.Entry.{Entry}
use Rattle.bench.specs.Entries.{no_entry, entry}
use mathlib.Core.Path.{◌≡◌, refl, sym, ap, ◌∙◌}
use mathlib.Core.Bool.{Bool, true, false, cond, not, ◌&&◌, ◌||◌}
use mathlib.Core.List.{List}
use Prim.Native.Nat.{ℕ, zero, suc, ◌-◌, ◌^◌, ◌≤◌, ◌<◌, min}
use native.Mathlib.Nat.{lt_of_le_of_lt}
use native.Mathlib.Omega.{arith}
use lib.Dec.{eqb, leb, ltb}
use lib.ListN.{get_or, length, length-set, length-replicate}
use lib.Seq.{get_or-set_same, get_or-set_other}
use lib.Bits.{bit_and, and_le_l}
use borrow.Author.Tests.{ltb-true, ltb-false, lt-ltb, le-ltb, eqb-true, eqb-false, eq-eqb, ne_eqb}
use Rattle.published.specs.Rounds.{View, Found, absent, found, find, view_of, see, got, agrees, is_awaited, is_heard, decides_on, settled_on, heard_on, lesser, least_on}
use Rattle.common.specs.Worlds.{member, every_in, within, world_of}
use Rattle.common.proofs.Tests.{split, clash, cond_ind}
use Rattle.common.proofs.Worlds.{member_world_of, world_of_lt}
use Rattle.bench.specs.declared.Bench.{Bench}
use Rattle.bench.specs.declared.Heard.{Heard}
use Rattle.common.specs.Places.{has}
use Rattle.bench.specs.Turns.{awaited_at, awaits_of, differs, forbids_by, forbids_at, forbids_of, least}
use Rattle.kinds.specs.Sizes.{places, depth}
use Rattle.tables.specs.Rows.{logs}
use Rattle.tables.specs.Lines.{hears, with_message, heard_to, heard_of}
use Rattle.tables.specs.Runs.{line_of, taken_by, noticed_by, bench_of}
use Rattle.common.proofs.Sets.{member_has, has_none, has_and, joined_same, joined_other, same_members, within_is, every_some}
use Rattle.tables.proofs.Lines.{line_find, line_out}

-- the view that a bench has of bench j + 1, by what it has heard
unfoldable pub view_at : Bench → Heard → ℕ → View
view_at b h j = view_of (cond (has h.set j) (found (entry h.entries j).value.0 (entry h.entries j).world) absent) (has b.outs j) (has b.noticed j)

-- ---- what is heard

-- h is what b has heard of the senders below n
pub record Hears (L : ℕ → List Entry) (b : Bench) (n : ℕ) (h : Heard) : Type 0 where
  pub size : length h.entries ≡ places
  pub who : (j : ℕ) → has h.set j ≡ (ltb j n && hears b j)
  pub what : (j : ℕ) → j < n → hears b j ≡ true
      → entry h.entries j ≡ entry (L j) (b.round.0 - 1)

below_next : (j n : ℕ) → (j ≡ n → ⊥) → ltb j n ≡ ltb j (suc n)
below_next j n p = split (ltb j n)
    (λ d. let q = ltb-true j n d in rw (d, lt-ltb j (suc n) (omega arith)) refl)
    (λ d. let q = ltb-false j n d in rw (d, le-ltb j (suc n) (omega arith)) refl)

module _ (N : ℕ) (fits : N ≤ places) where
  -- one sender more, who is heard or not
  module _ (l : List (List Entry)) (b : Bench) (n : ℕ) (hn : n < N) (h : Heard) (r : Hears (logs l) b n h) where
    with_one : hears b n ≡ true → Hears (logs l) b (suc n) (with_message l (b.round.0 - 1) n h)
    unfolding with_message
    with_one e = record {
      size = length-set h.entries n _ ∙ r.size;
      who = λ j. split (eqb j n)
          (λ c. rw (eqb-true j n c, joined_same h.set n, lt-ltb n (suc n) (omega arith), e) refl)
          (λ c. let p = eqb-false j n c in joined_other h.set n j p ∙ r.who j ∙ ap (λ (x : Bool). x && hears b j) (below_next j n p));
      what = λ j a g. split (eqb j n)
          (λ c. rw (eqb-true j n c) (get_or-set_same h.entries n _ no_entry (omega (arith, r.size))))
          (λ c. let p = eqb-false j n c in get_or-set_other h.entries n j _ no_entry p ∙ r.what j (omega arith) g);
    }

    without : hears b n ≡ false → Hears (logs l) b (suc n) h
    without e = record {
      size = r.size;
      who = λ j. r.who j ∙ split (eqb j n)
          (λ c. rw (eqb-true j n c, e, lt-ltb n (suc n) (omega arith), le-ltb n n (omega arith)) refl)
          (λ c. let p = eqb-false j n c in ap (λ (x : Bool). x && hears b j) (below_next j n p));
      what = λ j a g. split (eqb j n)
          (λ c. let p = eqb-true j n c in let g' : hears b n ≡ true = rw p at g in clash (cc))
          (λ c. let p = eqb-false j n c in r.what j (omega arith) g);
    }

  heard_to_lem : (l : List (List Entry)) (b : Bench) (n : ℕ) → n ≤ N → Hears (logs l) b n (heard_to l b n)
  unfolding heard_to
  heard_to_lem l b zero h = record {
    size = length-replicate {A = Entry} places no_entry;
    who = λ j. has_none j ∙ rw (le-ltb j 0 (omega arith)) refl;
    what = λ j a. absurd (omega arith);
  }
  heard_to_lem l b (suc n) h = let r = heard_to_lem l b n (omega arith) in
      cond_ind (λ (x : Heard). Hears (logs l) b (suc n) x) (hears b n) _ _ (with_one l b n h (heard_to l b n) r) (without l b n h (heard_to l b n) r)

  pub heard_all : (l : List (List Entry)) (b : Bench) → 1 ≤ b.round.0 → b.round.0 ≤ depth → Hears (logs l) b N (heard_of N l b)
  unfolding heard_of
  heard_all l b h₁ h₂ = rw (le-ltb b.round.0 1 h₁, le-ltb depth b.round.0 h₂) (heard_to_lem l b N (omega arith))

  -- ---- what is seen

  module _ (L : ℕ → List Entry) (k : ℕ) (b : Bench) (own : get_or b.taken k 0 ≡ b.sent) (own_out : has b.outs k ≡ eqb b.silent 1) where
    -- what a bench has of bench j + 1, itself included, is the line up to its count
    got_is : (j : ℕ) → got (suc k) (bench_of L k b) (suc j) ≡ line_of (L j) (get_or b.taken j 0) (has b.outs j)
    unfolding got bench_of taken_by
    got_is j = split (eqb j k)
        (λ c. let p = eqb-true j k c in rw (eq-eqb (suc j) (suc k) (omega arith), p, own, own_out) refl)
        (λ c. let p = eqb-false j k c in rw (ne_eqb (suc j) (suc k) (omega arith), c) refl)

    find_at : (log : List Entry) (n r : ℕ) (o : Bool) → 1 ≤ r → find r (line_of log n o) ≡ cond (leb r n) (found (entry log (r - 1)).value.0 (entry log (r - 1)).world) absent
    find_at log n zero o h = absurd (omega arith)
    find_at log n (suc q) o h = let e : suc q - 1 ≡ q = omega arith in rw e (line_find log n q o)

    -- a bench sees bench j + 1 as it has heard it
    pub see_is : 1 ≤ b.round.0 → (h : Heard) → Hears L b N h → (j : ℕ) → j < N → see (suc k) (bench_of L k b) (suc j) ≡ view_at b h j
    unfolding see view_at noticed_by bench_of
    see_is r h hs j l =
        rw (got_is j, line_out) (ap (λ (f : Found). view_of f (has b.outs j) (has b.noticed j))
        (find_at (L j) (get_or b.taken j 0) b.round.0 (has b.outs j) r ∙ same (hears b j) refl))
      where
        same : (c : Bool) → hears b j ≡ c
            → cond c (found (entry (L j) (b.round.0 - 1)).value.0 (entry (L j) (b.round.0 - 1)).world) absent
            ≡ cond (has h.set j) (found (entry h.entries j).value.0 (entry h.entries j).world) absent
        same true c = rw (hs.who j, lt-ltb j N l, c, hs.what j l c) refl
        same false c = rw (hs.who j, lt-ltb j N l, c) refl

-- ---- what turn asks, of one member: a member or not, heard or not, OUT taken or not, noticed or not

awaited_view : (m s o g : Bool) (u y : ℕ) → (not m || not (is_awaited (view_of (cond s (found u y) absent) o g))) ≡ not (m && (not s && (not o && not g)))
unfolding is_awaited view_of
awaited_view false s o g u y = refl
awaited_view true true o g u y = refl
awaited_view true false true g u y = refl
awaited_view true false false true u y = refl
awaited_view true false false false u y = refl

-- e is the test that the world y is within the world w
forbids_view : (n : ℕ) (m s o g : Bool) (u y v w : ℕ) (e : Bool) → (s ≡ true → e ≡ within n y w)
    → (not m || agrees n v w (view_of (cond s (found u y) absent) o g)) ≡ not (m && cond s (not (eqb u v) || not e) (not o))
unfolding agrees view_of
forbids_view n false s o g u y v w e f = refl
forbids_view n true true o g u y v w e f = rw (f refl) (both (eqb u v) (within n y w))
  where
    both : (a c : Bool) → (a && c) ≡ not (not a || not c)
    both true true = refl
    both true false = refl
    both false c = refl
forbids_view n true false true g u y v w e f = refl
forbids_view n true false false true u y v w e f = refl
forbids_view n true false false false u y v w e f = refl

heard_view : (s o g : Bool) (u y : ℕ) → is_heard (view_of (cond s (found u y) absent) o g) ≡ s
unfolding is_heard view_of
heard_view true o g u y = refl
heard_view false true g u y = refl
heard_view false false true u y = refl
heard_view false false false u y = refl

lesser_view : (m s o g : Bool) (u y x : ℕ) → cond (m && s) (min u x) x ≡ lesser m (view_of (cond s (found u y) absent) o g) x
unfolding lesser view_of
lesser_view false s o g u y x = refl
lesser_view true true o g u y x = refl
lesser_view true false true g u y x = refl
lesser_view true false false true u y x = refl
lesser_view true false false false u y x = refl

-- ---- and of all members, for views z that are those of what was heard

module _ (N : ℕ) (b : Bench) (h : Heard) (z : ℕ → View) (zs : (j : ℕ) → j < N → z (suc j) ≡ view_at b h j) where
  abbrev w : ℕ
  w = b.world

  abbrev v : ℕ
  v = b.value.0

  pub settled_is : settled_on N w z ≡ not (awaits_of N b h)
  unfolding awaits_of awaited_at settled_on every_in view_at
  settled_is = every_some (awaited_at b h) (λ i. not (member i w) || not (is_awaited (z i))) N
      (λ j l. rw (zs j l, member_has j w) (awaited_view (has w j) (has h.set j) (has b.outs j) (has b.noticed j) (entry h.entries j).value.0 (entry h.entries j).world))

  pub decides_is : ((j : ℕ) → j < N → has h.set j ≡ true → (entry h.entries j).world < 2 ^ N) → decides_on N v w z ≡ not (forbids_of N b h)
  unfolding forbids_of forbids_at forbids_by differs decides_on every_in view_at
  decides_is f = every_some (forbids_at b h) (λ i. not (member i w) || agrees N v w (z i)) N
      (λ j l. rw (zs j l, member_has j w)
      (forbids_view N (has w j) (has h.set j) (has b.outs j) (has b.noticed j) (entry h.entries j).value.0 (entry h.entries j).world v w
      (eqb (bit_and (entry h.entries j).world w) (entry h.entries j).world) (λ s. within_is N (entry h.entries j).world w (f j l s))))

  pub heard_is : w < 2 ^ N → bit_and w h.set ≡ heard_on N w z
  unfolding heard_on view_at
  heard_is hw =
      let p : ℕ → Bool = λ i. member i w && is_heard (z i) in
      same_members N (bit_and w h.set) (world_of N p) (lt_of_le_of_lt (and_le_l w h.set) hw) (world_of_lt N p)
      (λ j l. has_and w h.set j ∙ sym (sym (member_has j (world_of N p)) ∙ member_world_of N p (suc j) (omega arith) ∙ rw (zs j l, member_has j w, heard_view) refl))

  least_to : (n : ℕ) → n ≤ N → least v (bit_and w h.set) h.entries n ≡ least_on n v w z
  unfolding least least_on view_at
  least_to zero l = refl
  least_to (suc n) l = rw (least_to n (omega arith), zs n l, member_has n w, has_and w h.set n)
      (lesser_view (has w n) (has h.set n) (has b.outs n) (has b.noticed n) (entry h.entries n).value.0 (entry h.entries n).world (least_on n v w z))

  pub least_is : least v (bit_and w h.set) h.entries N ≡ least_on N v w z
  least_is = least_to N (omega arith)

-- The published rounds, as documents 01 and 02 state them, for a table of n benches.
-- This file is to be believed: it says again, in document 01's words and order, what every promise about a run comes down to.
use Rattle.std.specs.Prelude.{ℕ, zero, suc, ◌^◌, min, Bool, true, false, cond, not, ◌&&◌, ◌||◌, List, [], ◌∷◌, ◌++◌, length, drop, eqb, leb, ltb}
use Rattle.common.specs.Benches.{is_bench, every}
use Rattle.common.specs.Worlds.{member, every_in, within, world_of}
use Rattle.common.specs.Updates.{put}
use Rattle.common.specs.Checks.{Check, needs, judge}

-- ---- A bench and its line

-- either a round message (round, value, world) or OUT
pub data Message : Type 0 where
  Round : ℕ → ℕ → ℕ → Message
  Out : Message

pub data State : Type 0 where
  fresh running decided abstained left failed : State

pub data Decision : Type 0 where
  none : Decision
  chosen : ℕ → Decision

-- `round`, `value` and `world` are those of the round that the bench is in; `sent` is every message that it sent, in order, to all other
-- benches; `taken f` is what it has taken from the line of f, in order; `noticed f` closes that line.
pub record Bench : Type 0 where
  pub state : State
  pub round : ℕ
  pub value : ℕ
  pub world : ℕ
  pub sent : List Message
  pub taken : ℕ → List Message
  pub noticed : ℕ → Bool
  pub decision : Decision

abbrev pub Run : Type 0
Run = ℕ → Bench

unfoldable pub new_bench : Bench
new_bench = record { state = fresh; round = 0; value = 0; world = 0; sent = []; taken = λ f. []; noticed = λ f. false; decision = none }

unfoldable pub new_run : Run
new_run i = new_bench

-- ---- What a step makes of a bench

unfoldable pub in_state : State → Bench → Bench
in_state k x = record { state = k; round = x.round; value = x.value; world = x.world; sent = x.sent; taken = x.taken; noticed = x.noticed; decision = x.decision }

unfoldable pub in_round : ℕ → ℕ → ℕ → Bench → Bench
in_round r v w x = record { state = running; round = r; value = v; world = w; sent = x.sent; taken = x.taken; noticed = x.noticed; decision = x.decision }

unfoldable pub sending : Message → Bench → Bench
sending m x = record { state = x.state; round = x.round; value = x.value; world = x.world; sent = x.sent ++ (m ∷ []); taken = x.taken; noticed = x.noticed; decision = x.decision }

unfoldable pub taking : ℕ → Message → Bench → Bench
taking f m x = record { state = x.state; round = x.round; value = x.value; world = x.world; sent = x.sent; taken = put x.taken f (x.taken f ++ (m ∷ [])); noticed = x.noticed; decision = x.decision }

unfoldable pub noticing : ℕ → Bench → Bench
noticing f x = record { state = x.state; round = x.round; value = x.value; world = x.world; sent = x.sent; taken = x.taken; noticed = put x.noticed f true; decision = x.decision }

unfoldable pub choosing : ℕ → Bench → Bench
choosing v x = record { state = x.state; round = x.round; value = x.value; world = x.world; sent = x.sent; taken = x.taken; noticed = x.noticed; decision = chosen v }

-- it goes into round r with value v and world w, and sends that round's message
unfoldable pub entering : ℕ → ℕ → ℕ → Bench → Bench
entering r v w x = sending (Round r v w) (in_round r v w x)

-- it goes to state k and sends OUT
unfoldable pub parting : State → Bench → Bench
parting k x = sending Out (in_state k x)

-- ---- How a bench sees another: heard (value, world), excused, missed or awaited

pub data Found : Type 0 where
  absent : Found
  found : ℕ → ℕ → Found

-- the value and the world of the round r message
unfoldable pub find : ℕ → List Message → Found
find r [] = absent
find r (Out ∷ l) = find r l
find r (Round q v w ∷ l) = cond (eqb q r) (found v w) (find r l)

unfoldable pub has_out : List Message → Bool
has_out [] = false
has_out (Out ∷ l) = true
has_out (Round q v w ∷ l) = has_out l

pub data View : Type 0 where
  heard : ℕ → ℕ → View
  excused missed awaited : View

-- by the round r message, whether OUT has come, and whether the failure is noticed
unfoldable pub view_of : Found → Bool → Bool → View
view_of (found v w) o g = heard v w
view_of absent true g = excused
view_of absent false true = missed
view_of absent false false = awaited

-- what bench b has of the messages of i: its own at once
unfoldable pub got : ℕ → Bench → ℕ → List Message
got b x i = cond (eqb i b) x.sent (x.taken i)

unfoldable pub see : ℕ → Bench → ℕ → View
see b x i = view_of (find x.round (got b x i)) (has_out (got b x i)) (x.noticed i)

-- ---- Turn: what a bench with value v and world w makes of its views z of the members

-- heard with that value and a world within w, or excused
unfoldable pub agrees : ℕ → ℕ → ℕ → View → Bool
agrees n v w (heard u y) = eqb u v && within n y w
agrees n v w excused = true
agrees n v w missed = false
agrees n v w awaited = false

unfoldable pub is_awaited : View → Bool
is_awaited (heard u y) = false
is_awaited excused = false
is_awaited missed = false
is_awaited awaited = true

unfoldable pub is_heard : View → Bool
is_heard (heard u y) = true
is_heard excused = false
is_heard missed = false
is_heard awaited = false

unfoldable pub lesser : Bool → View → ℕ → ℕ
lesser true (heard u y) m = min u m
lesser true excused m = m
lesser true missed m = m
lesser true awaited m = m
lesser false z m = m

unfoldable pub decides_on : ℕ → ℕ → ℕ → (ℕ → View) → Bool
decides_on n v w z = every_in n w (λ i. agrees n v w (z i))

-- nobody is awaited
unfoldable pub settled_on : ℕ → ℕ → (ℕ → View) → Bool
settled_on n w z = every_in n w (λ i. not (is_awaited (z i)))

unfoldable pub heard_on : ℕ → ℕ → (ℕ → View) → ℕ
heard_on n w z = world_of n (λ i. member i w && is_heard (z i))

-- the least value heard; the bench's own v is one of them
unfoldable pub least_on : ℕ → ℕ → ℕ → (ℕ → View) → ℕ
least_on zero v w z = v
least_on (suc k) v w z = lesser (member (suc k) w) (z (suc k)) (least_on k v w z)

unfoldable pub decides : ℕ → ℕ → Bench → Bool
decides n b x = decides_on n x.value x.world (see b x)

unfoldable pub settled : ℕ → ℕ → Bench → Bool
settled n b x = settled_on n x.world (see b x)

unfoldable pub next_world : ℕ → ℕ → Bench → ℕ
next_world n b x = heard_on n x.world (see b x)

unfoldable pub next_value : ℕ → ℕ → Bench → ℕ
next_value n b x = least_on n x.value x.world (see b x)

unfoldable pub deciding : Bench → Bench
deciding x = parting decided (choosing x.value x)

unfoldable pub advancing : ℕ → ℕ → Bench → Bench
advancing n b x = entering (suc x.round) (next_value n b x) (next_world n b x) x

unfoldable pub turned : ℕ → ℕ → Bench → Bench
turned n b x = cond (decides n b x) (deciding x) (advancing n b x)

unfoldable pub leaving : Bench → Bench
leaving x = cond (has_out x.sent) (in_state left x) (parting left x)

-- ---- What the checks ask

unfoldable pub is_fresh : State → Bool
is_fresh fresh = true
is_fresh running = false
is_fresh decided = false
is_fresh abstained = false
is_fresh left = false
is_fresh failed = false

unfoldable pub is_running : State → Bool
is_running fresh = false
is_running running = true
is_running decided = false
is_running abstained = false
is_running left = false
is_running failed = false

unfoldable pub is_failed : State → Bool
is_failed fresh = false
is_failed running = false
is_failed decided = false
is_failed abstained = false
is_failed left = false
is_failed failed = true

unfoldable pub is_gone : State → Bool
is_gone fresh = false
is_gone running = false
is_gone decided = false
is_gone abstained = false
is_gone left = true
is_gone failed = true

-- the message is there; a bench has started if its round 1 message is
unfoldable pub is_found : Found → Bool
is_found absent = false
is_found (found v w) = true

-- the world that it started with, if it ever started, has bench b
unfoldable pub started_with : ℕ → Found → Bool
started_with b absent = true
started_with b (found v w) = member b w

-- w has each bench that has started and has neither left nor failed
unfoldable pub has_all : ℕ → Run → ℕ → Bool
has_all n s w = every n (λ i. not (is_found (find 1 (s i).sent)) || is_gone (s i).state || member i w)

-- the world of each bench that ever started has bench b
unfoldable pub in_all : ℕ → Run → ℕ → Bool
in_all n s b = every n (λ i. started_with b (find 1 (s i).sent))

-- what waits on the line from f to b
unfoldable pub waiting : Run → ℕ → ℕ → List Message
waiting s b f = drop (length ((s b).taken f)) (s f).sent

unfoldable pub some : List Message → Bool
some [] = false
some (m ∷ l) = true

unfoldable pub taking_first : ℕ → List Message → Bench → Bench
taking_first f [] x = x
taking_first f (m ∷ l) x = taking f m x

-- ---- The steps

pub data Step : Type 0 where
  start : ℕ → ℕ → ℕ → Step
  abstain leave fail turn : ℕ → Step
  arrive notice : ℕ → ℕ → Step

-- the checks of each step, in document 01's order; its check 12 is retired (specs/Limited.antt)
unfoldable pub checks : ℕ → Run → Step → List Check
checks n s (start b v w) =
    needs 1 (is_bench n b) ∷ needs 3 (is_fresh (s b).state) ∷ needs 4 (leb v 65535) ∷ needs 5 (ltb w (2 ^ n) && member b w)
    ∷ needs 6 (has_all n s w) ∷ needs 7 (in_all n s b) ∷ []
checks n s (abstain b) = needs 1 (is_bench n b) ∷ needs 3 (is_fresh (s b).state) ∷ []
checks n s (leave b) = needs 1 (is_bench n b) ∷ needs 3 (not (is_gone (s b).state)) ∷ []
checks n s (fail b) = needs 1 (is_bench n b) ∷ needs 3 (not (is_gone (s b).state)) ∷ []
checks n s (turn b) = needs 1 (is_bench n b) ∷ needs 3 (is_running (s b).state) ∷ needs 11 (settled n b (s b)) ∷ []
checks n s (arrive b f) =
    needs 1 (is_bench n b && is_bench n f) ∷ needs 2 (not (eqb b f)) ∷ needs 3 (is_fresh (s b).state || is_running (s b).state)
    ∷ needs 9 (not ((s b).noticed f)) ∷ needs 8 (some (waiting s b f)) ∷ []
checks n s (notice b f) =
    needs 1 (is_bench n b && is_bench n f) ∷ needs 2 (not (eqb b f)) ∷ needs 3 (is_fresh (s b).state || is_running (s b).state)
    ∷ needs 10 (is_failed (s f).state) ∷ needs 9 (not ((s b).noticed f)) ∷ []

-- the run after the step, where every check holds
unfoldable pub after : ℕ → Run → Step → Run
after n s (start b v w) = put s b (entering 1 v w (s b))
after n s (abstain b) = put s b (parting abstained (s b))
after n s (leave b) = put s b (leaving (s b))
after n s (fail b) = put s b (in_state failed (s b))
after n s (turn b) = put s b (turned n b (s b))
after n s (arrive b f) = put s b (taking_first f (waiting s b f) (s b))
after n s (notice b f) = put s b (noticing f (s b))

-- 0 and the run after, or a refusal's number and the run as it was
pub record Answer : Type 0 where
  pub number : ℕ
  pub run : Run

unfoldable pub refuse : ℕ → Run → Answer
refuse k s = record { number = k; run = s }

unfoldable pub done : Run → Answer
done s = record { number = 0; run = s }

-- the first check that fails refuses
unfoldable pub step : ℕ → Run → Step → Answer
step n s a = judge (λ k. refuse k s) (checks n s a) (done (after n s a))

unfoldable pub run_from : ℕ → Run → List Step → Run
run_from n s [] = s
run_from n s (a ∷ l) = run_from n (step n s a).run l

unfoldable pub answers : ℕ → Run → List Step → List ℕ
answers n s [] = []
answers n s (a ∷ l) = (step n s a).number ∷ answers n (step n s a).run l

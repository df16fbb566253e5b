-- A poll asks each meter that hangs on a line and is wanted, and no other.
use Rattle.std.proofs.Common.{◌≡◌, ◌⊎◌, inl, inr, ⊎_elim, ℕ, zero, suc, ◌+◌, ◌-◌, ◌<◌, ◌≤◌, Bool, true, false, not, List, [], ◌∷◌, ◌++◌, filter, length, map, cond, take, drop, get_or, refl, ap, sym, ◌∙◌, subst, arith}
use Rattle.std.specs.Prelude.{All, Contains, slice_get}
use Rattle.std.proofs.lemmas.Bool.{cases_lt}
use Rattle.std.proofs.lemmas.List.{drop_all, get_or_past, length-map, take_all}
use Rattle.std.proofs.lemmas.List.Elements.{All-nil, All-cons, All-head, All-tail, All-push, All-take, All-drop, Contains-append_left, Contains-get_or}
use Rattle.dc_address.specs.declared.identity.Identity.{Identity}
use Rattle.dc_core.specs.Core.{Core, present}
use Rattle.dc_core.specs.Event.{Event}
use Rattle.mbdc_change.specs.State.{MeterRow, State}
use Rattle.mbdc_poll.specs.Bus.{Bus}
use Rattle.mbdc_poll.specs.Happening.{Happening, does, tells, happened_on}
use Rattle.mbdc_poll.specs.ImagePoll.{PlanPolled}
use Rattle.mbdc_poll.specs.Keeping.{Store, all_kept, unkept}
use Rattle.mbdc_poll.specs.Planned.{ArePlanned, has_bus, is_live, is_queued, queue_on, wanted_on}
use Rattle.mbdc_poll.specs.Polls.{store_of}
use Rattle.mbdc_poll.specs.Queue.{Part, part, Goes, started_by, starts_in, stays, passes_on, starts_it, is_refused, asks_it, has_no_request, is_given_up, goes_on, is_accepted, is_put_off, fails_at_last, is_faulty, is_stored, is_unstored, stands_by, is_told, loses_it}
use Rattle.mbdc_poll.specs.Round.{HasFew, IsCommitTurn, IsFresh, IsOver, IsSilent, Rounds, most_lines}
use Rattle.mbdc_poll.specs.Station.{part_of}
use Rattle.mbdc_poll.specs.declared.event.Event.{Event as Told}
use Rattle.mbdc_poll.specs.declared.outcome.Outcome.{Outcome}
use Rattle.mbdc_poll.specs.declared.station.Station.{Station}
use Rattle.mbdc_poll.specs.declared.phase.Phase.{Phase}
use Rattle.mbdc_poll.specs.declared.phase.Phase.TheVariants.{Free}
use Rattle.mbdc_poll.proofs.Queues.{part_is}
use Rattle.mbdc_poll.proofs.Tried.{all_tried}
use Rattle.mbdc.specs.Commands.{AsksEach, AsksOnly}

module _ (P : Identity → Type 0) where
  -- such meters are left in a pass, and such ones failed in it
  abbrev AreSuch : Part → Type 0
  AreSuch (part left failed pass phase) = All P left × All P failed

  -- the present one leaves the pass
  gone : (meter : Identity) (left failed : List Identity) → All P (meter ∷ left) × All P failed → All P left × All P failed
  gone meter left failed such = (All-tail P meter left such.0, such.1)

  put_off : (meter : Identity) (left failed : List Identity) → All P (meter ∷ left) × All P failed → All P left × All P (failed ++ meter ∷ [])
  put_off meter left failed such = (All-tail P meter left such.0, All-push P failed meter such.1 (All-head P meter left such.0))

  started : {tries line : ℕ} {old last : Part} {happened : List Happening} → Goes tries line old happened last → AreSuch old → All P (starts_in happened)
  started stays such = All-nil P
  started (passes_on less goes) such = started goes (such.1, All-nil P)
  started (starts_it few goes) such = All-cons P _ _ (All-head P _ _ such.0) (started goes such)
  started (is_refused few goes) such = All-cons P _ _ (All-head P _ _ such.0) (started goes (gone _ _ _ such))
  started (asks_it goes) such = started goes such
  started (has_no_request goes) such = started goes (gone _ _ _ such)
  started (is_given_up goes) such = started goes (gone _ _ _ such)
  started (goes_on on goes) such = started goes such
  started (is_accepted goes) such = started goes such
  started (is_put_off less goes) such = started goes (put_off _ _ _ such)
  started (fails_at_last most goes) such = started goes (gone _ _ _ such)
  started (is_faulty goes) such = started goes (gone _ _ _ such)
  started (is_stored goes) such = started goes such
  started (is_unstored goes) such = started goes (gone _ _ _ such)
  started (stands_by not goes) such = started goes such
  started (is_told as_end goes) such = started goes such
  started (loses_it goes) such = started goes such

  -- commits start nobody
  none_started : (happened : List Happening) → All IsCommitTurn happened → All P (starts_in happened)
  none_started [] all = All-nil P
  none_started (does turn ∷ more) all = subst (λ (e : Event). All P (started_by e ++ starts_in more)) (sym (All-head IsCommitTurn (does turn) more all))
      (none_started more (All-tail IsCommitTurn (does turn) more all))
  none_started (tells line told ∷ more) all = absurd (All-head IsCommitTurn (tells line told) more all)

some_of : {X : Type 0} (xs : List X) (n : ℕ) → n < length xs → X
some_of [] n less = absurd (omega (arith, less))
some_of (x ∷ xs) n less = x

queue_wanted : (state : State) (only : List Identity) (line : ℕ) (lost : Bool) → All (Contains (wanted_on state only line)) (queue_on state only line lost)
queue_wanted state only line true = All-nil (Contains (wanted_on state only line))
queue_wanted state only line false = λ k d within. Contains-get_or (wanted_on state only line) k d within

module _ {B : Type 0} (g : Bus B) (state : State) (only : List Identity) (buses : List B) (tries : ℕ) (olds news : List (Station B)) (happened : List Happening)
    (planned : ArePlanned g.lost state only buses olds) (rounds : Rounds g tries olds news happened) where
  on_line : (k : ℕ) → k < length olds → All (Contains (wanted_on state only (k + 1))) (starts_in (happened_on (k + 1) happened))
  on_line k within =
      let wanted : Identity → Type 0 = Contains (wanted_on state only (k + 1)) in
      let some = some_of olds k within in
      let old = get_or olds k some in
      let left : All wanted old.left.now = subst (All wanted) (sym (planned.each k some within).queue) (queue_wanted state only (k + 1) (g.lost old.bus)) in
      started wanted (rounds.goes k some within).queue (All-take wanted old.due old.left.now left, All-drop wanted old.due old.left.now left)

  asked_on : AsksOnly state only happened
  asked_on zero = none_started (Contains (wanted_on state only 0)) (happened_on 0 happened) (rounds.alone 0 (λ k within e. absurd (omega (arith, e))))
  asked_on (suc n) = ⊎_elim
      (λ within. subst (λ (l : ℕ). All (Contains (wanted_on state only l)) (starts_in (happened_on l happened))) (omega arith) (on_line n within))
      (λ past. none_started (Contains (wanted_on state only (suc n))) (happened_on (suc n) happened) (rounds.alone (suc n) (λ k within e. absurd (omega (arith, past, within, e)))))
      (cases_lt n (length olds))

pub asks_only : {B T N : Type 0} (g : Bus B) (told : T → ℕ → T → Type 0) (passes : T → Bool → T → Type 0) (warned : T → T → Type 0) (takes : N → Told → N → Type 0)
    (buses : List B) (only : List Identity) (tries : ℕ) (first last : T) (old new : N) (now : Outcome) (core : Core) (happened : List Happening)
    → PlanPolled g told passes warned takes buses only tries first last old new now core happened → AsksOnly (present core) only happened
asks_only g told passes warned takes buses only tries first last old new now core happened p =
    asked_on g (present core) only buses tries p.olds p.news happened p.planned p.polls.polled.polls.rounds

-- ---- each of them is asked

-- a queue that is at its end went through all its meters
all_begun : (tries line : ℕ) (meters : List Identity) (happened : List Happening) (pass : ℕ) (stop : Phase) → 0 < tries
    → Goes tries line (part meters [] 1 Free) happened (part [] [] pass stop) → All (Contains (starts_in happened)) meters
all_begun zero line meters happened pass stop some goes = absurd (omega (arith, some))
all_begun (suc tries) line meters happened pass stop some goes =
    let tried = all_tried (suc tries) line meters happened pass stop goes in
    λ k d within. subst (λ (begun : List Identity). Contains begun (get_or meters k d)) (sym tried.3)
    (Contains-append_left meters tried.1 (get_or meters k d) (Contains-get_or meters k d within))

few_pass : {X : Type 0} (p : X → Bool) (xs : List X) → length (filter p xs) ≤ length xs
few_pass p [] = omega arith
few_pass p (x ∷ xs) = by_test (p x) (few_pass p xs)
  where
    by_test : (b : Bool) → length (filter p xs) ≤ length xs → length (cond b (x ∷ filter p xs) (filter p xs)) ≤ length (x ∷ xs)
    by_test true less = omega (arith, less)
    by_test false less = omega (arith, less)

few_wanted : (state : State) (only : List Identity) (line : ℕ) (lost : Bool) → length state.meters ≤ 65535 → length (queue_on state only line lost) ≤ 65535
few_wanted state only line true few = omega arith
few_wanted state only line false few =
    let same = length-map (filter (is_queued line only) state.meters) (λ (row : Identity × MeterRow). row.0) in
    let less = few_pass (is_queued line only) state.meters in
    omega (arith, same, less, few)

not_lost : (b : Bool) → not b ≡ true → b ≡ false
not_lost true is = absurd (let bad : false ≡ true = is in cc)
not_lost false is = refl

module _ {B : Type 0} where
  part_first : (s : Station B) → IsFresh s → part_of s ≡ part s.left.now [] 1 Free
  part_first s fresh =
      let q = s.left.now in
      part_is s q (length q) 1 Free refl fresh.all fresh.first fresh.free
      ∙ ap (λ (xs : List Identity). part xs (drop (length q) q) 1 Free) (take_all (length q) q (omega arith)) ∙ ap (λ (xs : List Identity). part q xs 1 Free) (drop_all (length q) q (omega arith))

  part_last : (s : Station B) → IsOver s → part_of s ≡ part [] [] s.pass Free
  part_last s over =
      part_is s [] s.due s.pass Free over.0 refl refl over.1
      ∙ ap (λ (xs : List Identity). part xs (drop s.due []) s.pass Free) (take_all s.due [] (omega arith)) ∙ ap (λ (xs : List Identity). part [] xs s.pass Free) (drop_all s.due [] (omega arith))

  -- a line with a bus that isn't lost is that of a station
  live_at : (lost : B → Bool) (stations : List (Station B)) (n : ℕ) → is_live lost (slice_get (map (λ (s : Station B). s.bus) stations) n) ≡ true
      → (n < length stations) × ((d : Station B) → lost (get_or stations n d).bus ≡ false)
  live_at lost [] n is = absurd (let bad : false ≡ true = is in cc)
  live_at lost (s ∷ stations) zero is = (omega arith, λ d. not_lost (lost s.bus) is)
  live_at lost (s ∷ stations) (suc n) is = let rest = live_at lost stations n is in (let less = rest.0 in omega (arith, less), rest.1)

  -- where nothing is lost of the store, all lines are over
  all_over : (olds news : List (Station B)) (store : Store) → store ≡ all_kept → (store ≡ unkept) ⊎ (All IsFresh olds → All HasFew olds → All IsOver news × All IsSilent news)
      → All IsFresh olds → All HasFew olds → All IsOver news
  all_over olds news store kept (inl lost) fresh few = absurd (let bad : all_kept ≡ unkept = sym kept ∙ lost in cc)
  all_over olds news store kept (inr ends) fresh few = (ends fresh few).0

  -- a line at its end
  abbrev over_by : Station B → Station B
  over_by station = record station { left = record station.left { now = [] }; phase = Free }

  over_at : (stations : List (Station B)) (k : ℕ) (d : Station B) → All IsOver stations → IsOver d → IsOver (get_or stations k d)
  over_at stations k d over last = ⊎_elim
      (λ (low : k < length stations). over k d low)
      (λ (past : length stations ≤ k). subst IsOver (sym (get_or_past stations k d past)) last)
      (cases_lt k (length stations))

module _ {B : Type 0} (g : Bus B) (state : State) (only : List Identity) (buses : List B) (tries : ℕ) (olds news : List (Station B)) (happened : List Happening)
    (planned : ArePlanned g.lost state only buses olds) (rounds : Rounds g tries olds news happened) (some : 0 < tries) (over : All IsOver news) where
  begun_at : (k : ℕ) → is_live g.lost (slice_get (take most_lines buses) k) ≡ true → All (Contains (starts_in (happened_on (k + 1) happened))) (wanted_on state only (k + 1))
  begun_at k live =
      let found = live_at g.lost olds k (subst (λ (bs : List B). is_live g.lost (slice_get bs k) ≡ true) (sym planned.buses_are) live) in
      let within : k < length olds = found.0 in
      let d : Station B = over_by (some_of olds k within) in
      let old : Station B = get_or olds k d in
      let new : Station B = get_or news k d in
      let plan = planned.each k d within in
      let on : List Happening = happened_on (k + 1) happened in
      let first : Goes tries (k + 1) (part old.left.now [] 1 Free) on (part_of new) = subst (λ (q : Part). Goes tries (k + 1) q on (part_of new)) (part_first old plan.fresh) (rounds.goes k d within).queue in
      let whole : Goes tries (k + 1) (part old.left.now [] 1 Free) on (part [] [] new.pass Free) =
      subst (λ (q : Part). Goes tries (k + 1) (part old.left.now [] 1 Free) on q) (part_last new (over_at news k d over (refl, refl))) first in
      let queue : old.left.now ≡ wanted_on state only (k + 1) = plan.queue ∙ ap (queue_on state only (k + 1)) (found.1 d) in
      subst (All (Contains (starts_in on))) queue (all_begun tries (k + 1) old.left.now on new.pass Free some whole)

  begun_on : (line : ℕ) → 1 ≤ line → has_bus g.lost (take most_lines buses) line ≡ true → All (Contains (starts_in (happened_on line happened))) (wanted_on state only line)
  begun_on line from live =
      let same : line - 1 + 1 ≡ line = omega (arith, from) in
      subst (λ (l : ℕ). All (Contains (starts_in (happened_on l happened))) (wanted_on state only l)) same (begun_at (line - 1) live)

pub asks_each : {B T N : Type 0} (g : Bus B) (told : T → ℕ → T → Type 0) (passes : T → Bool → T → Type 0) (warned : T → T → Type 0) (takes : N → Told → N → Type 0)
    (buses : List B) (only : List Identity) (tries : ℕ) (first last : T) (old new : N) (now : Outcome) (core : Core) (happened : List Happening)
    → 0 < tries → PlanPolled g told passes warned takes buses only tries first last old new now core happened → AsksEach (present core) only now happened
asks_each {B} g told passes warned takes buses only tries first last old new now core happened some p =
    let state : State = present core in
    let polled = p.polls.polled in
    record {
      has_bus = has_bus g.lost (take most_lines buses);
      begun = λ well few line from live.
          let kept : store_of p.polls.between.fault ≡ all_kept = ap store_of (sym p.polls.fault ∙ well) in
          let over : All IsOver p.news = all_over p.olds p.news (store_of p.polls.between.fault) kept polled.ended (λ k d low. (p.planned.each k d low).fresh)
          (λ k d low. subst (λ (q : List Identity). length q ≤ 65535) (sym (p.planned.each k d low).queue) (few_wanted state only (k + 1) (g.lost (get_or p.olds k d).bus) few)) in
          begun_on g state only buses tries p.olds p.news happened p.planned polled.polls.rounds some over line from live;
      counted =
          let failed = p.polls.failed in
          let same = polled.failed in
          let counts = polled.polls.failed in
          omega (arith, failed, same, counts);
    }

-- How the queue of a line goes on, and the talk on its bus.
use Rattle.std.proofs.Common.{◌≡◌, ◌≢◌, ◌==◌, ℕ, suc, ◌-◌, ◌<◌, Bool, true, false, List, [], ◌∷◌, ◌++◌, take, drop, refl, ap, sym, subst, ◌∙◌, arith, append-nil, if◌then◌else◌}
use Rattle.std.specs.List.{All}
use Rattle.std.proofs.lemmas.Bool.{eq-eqb, ne_eqb}
use Rattle.std.proofs.lemmas.List.Elements.{All-nil, All-cons, All-append}
use Rattle.dc_address.specs.declared.identity.Identity.{Identity}
use Rattle.dc_core.specs.Event.{Event, Answer}
use Rattle.dc_core.specs.Transcript.{Turn}
use Rattle.mbdc_poll.specs.Bus.{Bus}
use Rattle.mbdc_poll.specs.declared.event.Event.{Event as Told}
use Rattle.mbdc_poll.specs.Happening.{Happening, does, tells, is_on, kept_on, happened_on, happened_turns}
use Rattle.mbdc_poll.specs.Queue.{Part, part, Goes, stays, passes_on, starts_it, is_refused, asks_it, has_no_request, is_given_up, goes_on, is_accepted, is_put_off, fails_at_last, is_faulty, is_stored, is_unstored, stands_by, is_told, loses_it}
use Rattle.mbdc_poll.specs.Talking.{Talk, Talks, rests, begins, has_none, sends_it, waits_it, takes_it, hears_it, stands_by as talk_stands_by, tells_it, loses_it as talk_loses_it}
use Rattle.mbdc_poll.specs.Missed.{Brings}
use Rattle.mbdc_poll.specs.Round.{LineGoes, Moves, Steps, AreTurns}
use Rattle.mbdc_poll.specs.Station.{part_of, talk_of, Next, IsAfter}
use Rattle.mbdc_poll.specs.declared.phase.Phase.{Phase}
use Rattle.mbdc_poll.specs.declared.phase.Request.{Request}
use Rattle.mbdc_poll.specs.declared.station.Station.{Station}
use Rattle.mbdc_poll.proofs.Happenings.{on_append, turns_append}
use Rattle.mbdc_poll.proofs.Missing.{brings_both, brings_same}

-- ---- one thing after the other

pub goes_both : {tries line : ℕ} {old between last : Part} {front back : List Happening} → Goes tries line old front between → Goes tries line between back last → Goes tries line old (front ++ back) last
goes_both stays b = b
goes_both (passes_on less a) b = passes_on less (goes_both a b)
goes_both (starts_it few a) b = starts_it few (goes_both a b)
goes_both (is_refused few a) b = is_refused few (goes_both a b)
goes_both (asks_it a) b = asks_it (goes_both a b)
goes_both (has_no_request a) b = has_no_request (goes_both a b)
goes_both (is_given_up a) b = is_given_up (goes_both a b)
goes_both (goes_on on a) b = goes_on on (goes_both a b)
goes_both (is_accepted a) b = is_accepted (goes_both a b)
goes_both (is_put_off few a) b = is_put_off few (goes_both a b)
goes_both (fails_at_last most a) b = fails_at_last most (goes_both a b)
goes_both (is_faulty a) b = is_faulty (goes_both a b)
goes_both (is_stored a) b = is_stored (goes_both a b)
goes_both (is_unstored a) b = is_unstored (goes_both a b)
goes_both (stands_by not a) b = stands_by not (goes_both a b)
goes_both (is_told as_end a) b = is_told as_end (goes_both a b)
goes_both (loses_it a) b = loses_it (goes_both a b)

pub talks_both : {B : Type 0} {g : Bus B} {line : ℕ} {old between last : Talk B} {front back : List Happening}
    → Talks g line old front between → Talks g line between back last → Talks g line old (front ++ back) last
talks_both rests b = b
talks_both (begins a) b = begins (talks_both a b)
talks_both (has_none a) b = has_none (talks_both a b)
talks_both (sends_it sent a) b = sends_it sent (talks_both a b)
talks_both (waits_it waited a) b = waits_it waited (talks_both a b)
talks_both (takes_it gave a) b = takes_it gave (talks_both a b)
talks_both (hears_it a) b = hears_it (talks_both a b)
talks_both (talk_stands_by a) b = talk_stands_by (talks_both a b)
talks_both (tells_it not a) b = tells_it not (talks_both a b)
talks_both (talk_loses_it is a) b = talk_loses_it is (talks_both a b)

-- ---- what is on a line

pub on_line : (line : ℕ) → (line == line) ≡ true
on_line line = eq-eqb line line refl

pub off_line : (line other : ℕ) → other ≢ line → (line == other) ≡ false
off_line line other not = ne_eqb line other (λ e. not (sym e))

pub one_on : (line : ℕ) (turn : Turn) → is_on line turn.0 ≡ true → happened_on line (does turn ∷ []) ≡ does turn ∷ []
one_on line turn on = append-nil (kept_on line (does turn)) ∙ ap (λ (b : Bool). if b then does turn ∷ [] else []) on

pub one_off : (line : ℕ) (turn : Turn) → is_on line turn.0 ≡ false → happened_on line (does turn ∷ []) ≡ []
one_off line turn off = append-nil (kept_on line (does turn)) ∙ ap (λ (b : Bool). if b then does turn ∷ [] else []) off

pub told_on : (line : ℕ) (told : Told) → happened_on line (tells line told ∷ []) ≡ tells line told ∷ []
told_on line told = append-nil (kept_on line (tells line told)) ∙ ap (λ (b : Bool). if b then tells line told ∷ [] else []) (on_line line)

pub told_off : (line other : ℕ) (told : Told) → other ≢ line → happened_on other (tells line told ∷ []) ≡ []
told_off line other told not = append-nil (kept_on other (tells line told)) ∙ ap (λ (b : Bool). if b then tells line told ∷ [] else []) (off_line line other not)

-- ---- turns

pub turns_both : (first more : List Happening) → AreTurns first → AreTurns more → AreTurns (first ++ more)
turns_both [] more a b = b
turns_both (does turn ∷ first) more a b = turns_both first more a b
turns_both (tells line told ∷ first) more a b = absurd a

pub all_both : (such : Turn → Type 0) (first more : List Happening) → All such (happened_turns first) → All such (happened_turns more) → All such (happened_turns (first ++ more))
all_both such first more a b = subst (λ (ts : List Turn). All such ts) (sym (turns_append first more)) (All-append such (happened_turns first) (happened_turns more) a b)

-- ---- one line's part

module _ {B : Type 0} {g : Bus B} where
  pub line_stays : (tries line : ℕ) (station : Station B) → LineGoes g tries line station station []
  line_stays tries line station = record { queue = stays; talk = rests; brought = brings_same line station.brought station.brought refl }

  pub line_both : {tries line : ℕ} {old mid new : Station B} {front back : List Happening} → LineGoes g tries line old mid front → LineGoes g tries line mid new back → LineGoes g tries line old new (front ++ back)
  line_both a b = record { queue = goes_both a.queue b.queue; talk = talks_both a.talk b.talk; brought = brings_both a.brought b.brought }

  -- by how its parts are found before and afterwards
  pub line_by : (tries line : ℕ) (old new : Station B) (first last : Part) (was is : Talk B) (happened : List Happening)
      → part_of old ≡ first → part_of new ≡ last → talk_of old ≡ was → talk_of new ≡ is → Goes tries line first happened last → Talks g line was happened is → Brings line old.brought happened new.brought → LineGoes g tries line old new happened
  line_by tries line old new first last was is happened f l w i goes talks counts = record {
    queue = subst (λ (x : Part). Goes tries line x happened (part_of new)) (sym f) (subst (λ (x : Part). Goes tries line first happened x) (sym l) goes);
    talk = subst (λ (x : Talk B). Talks g line x happened (talk_of new)) (sym w) (subst (λ (x : Talk B). Talks g line was happened x) (sym i) talks);
    brought = counts;
  }

  pub steps_none : (tries line : ℕ) (such : Turn → Type 0) (old new : Station B) → LineGoes g tries line old new [] → Steps g tries line such old new []
  steps_none tries line such old new goes = record { moves = record { goes = goes; alone = λ other not. refl }; are_such = All-nil such; are_turns = tt }

  pub steps_one : (tries line : ℕ) (such : Turn → Type 0) (old new : Station B) (event : Event) (answer : Answer) (happened : List Happening) → happened ≡ does (event, answer) ∷ []
      → is_on line event ≡ true → ((other : ℕ) → other ≢ line → is_on other event ≡ false) → such (event, answer) → LineGoes g tries line old new (does (event, answer) ∷ []) → Steps g tries line such old new happened
  steps_one tries line such old new event answer happened same on off is goes =
      subst (λ (hs : List Happening). Steps g tries line such old new hs) (sym same) (record {
        moves = record {
          goes = subst (λ (hs : List Happening). LineGoes g tries line old new hs) (sym (one_on line (event, answer) on)) goes;
          alone = λ other not. one_off other (event, answer) (off other not);
        };
        are_such = All-cons such (event, answer) [] is (All-nil such);
        are_turns = tt;
      })

  pub moves_both : (tries line : ℕ) (old mid new : Station B) (happened more : List Happening) → Moves g tries line old mid happened → Moves g tries line mid new more → Moves g tries line old new (happened ++ more)
  moves_both tries line old mid new happened more a b = record {
    goes = subst (λ (hs : List Happening). LineGoes g tries line old new hs) (sym (on_append line happened more)) (line_both a.goes b.goes);
    alone = λ other not. on_append other happened more ∙ ap (λ (hs : List Happening). hs ++ happened_on other more) (a.alone other not) ∙ b.alone other not;
  }

  pub steps_both : (tries line : ℕ) (such : Turn → Type 0) (old mid new : Station B) (happened more : List Happening) → Steps g tries line such old mid happened → Steps g tries line such mid new more → Steps g tries line such old new (happened ++ more)
  steps_both tries line such old mid new happened more a b = record {
    moves = moves_both tries line old mid new happened more a.moves b.moves;
    are_such = all_both such happened more a.are_such b.are_such;
    are_turns = turns_both happened more a.are_turns b.are_turns;
  }

module _ {B : Type 0} where
  -- ---- by its parts

  -- of the meters so many are left in this pass
  pub part_is : (s : Station B) (left : List Identity) (due pass : ℕ) (phase : Phase) → s.left.now ≡ left → s.due ≡ due → s.pass ≡ pass → s.phase ≡ phase → part_of s ≡ part (take due left) (drop due left) pass phase
  part_is s left due pass phase l d n p =
      ap (λ (xs : List Identity). part (take s.due xs) (drop s.due xs) s.pass s.phase) l ∙ ap (λ (k : ℕ). part (take k left) (drop k left) s.pass s.phase) d
      ∙ ap (λ (k : ℕ). part (take due left) (drop due left) k s.phase) n ∙ ap (λ (q : Phase). part (take due left) (drop due left) pass q) p

  -- one whose present meter is known
  pub part_first : (s : Station B) (meter : Identity) (phase : Phase) → s.left.now ≡ meter ∷ drop 1 s.left.now → 0 < s.due → s.phase ≡ phase
      → part_of s ≡ part (meter ∷ take (s.due - 1) (drop 1 s.left.now)) (drop (s.due - 1) (drop 1 s.left.now)) s.pass phase
  part_first s meter phase first some is = part_is s (meter ∷ drop 1 s.left.now) (suc (s.due - 1)) s.pass phase first (omega (arith, some)) refl is

  pub talk_is : (s : Station B) (bus : B) (request : Request) (said : Bool) → s.bus ≡ bus → s.request ≡ request → s.said ≡ said → talk_of s ≡ record { bus = bus; request = request; said = said }
  talk_is s bus request said b r w =
      let one : Talk B → Talk B = λ t. t in
      ap (λ (x : B). one (record { bus = x; request = s.request; said = s.said })) b ∙ ap (λ (x : Request). one (record { bus = bus; request = x; said = s.said })) r ∙ ap (λ (x : Bool). one (record { bus = bus; request = request; said = x })) w

  pub part_after : (n : Next) (bus : B) (request : Request) (said : Bool) (s : Station B) → IsAfter n bus request said s → part_of s ≡ part (take n.due n.left) (drop n.due n.left) n.pass n.phase
  part_after n bus request said s is = part_is s n.left n.due n.pass n.phase is.left is.due is.pass is.phase

  pub talk_after : (n : Next) (bus : B) (request : Request) (said : Bool) (s : Station B) → IsAfter n bus request said s → talk_of s ≡ record { bus = bus; request = request; said = said }
  talk_after n bus request said s is = talk_is s bus request said is.bus is.request is.said

  -- what holds of the parts holds of the station, and back
  pub of_after : (P : List Identity → ℕ → ℕ → Phase → Request → B → Type 0) (n : Next) (bus : B) (request : Request) (said : Bool) (s : Station B) → IsAfter n bus request said s → P n.left n.due n.pass n.phase request bus → P s.left.now s.due s.pass s.phase s.request s.bus
  of_after P n bus request said s is has =
      subst (λ (x : List Identity). P x s.due s.pass s.phase s.request s.bus) (sym is.left)
      (subst (λ (x : ℕ). P n.left x s.pass s.phase s.request s.bus) (sym is.due)
      (subst (λ (x : ℕ). P n.left n.due x s.phase s.request s.bus) (sym is.pass)
      (subst (λ (x : Phase). P n.left n.due n.pass x s.request s.bus) (sym is.phase)
      (subst (λ (x : Request). P n.left n.due n.pass n.phase x s.bus) (sym is.request)
      (subst (λ (x : B). P n.left n.due n.pass n.phase request x) (sym is.bus) has)))))

  pub to_phase : (P : Phase → Request → Type 0) (s : Station B) (phase : Phase) (request : Request) → s.phase ≡ phase → s.request ≡ request → P s.phase s.request → P phase request
  to_phase P s phase request p r has = subst (λ (x : Request). P phase x) r (subst (λ (x : Phase). P x s.request) p has)

  pub from_phase : (P : Phase → Request → Type 0) (s : Station B) (phase : Phase) (request : Request) → s.phase ≡ phase → s.request ≡ request → P phase request → P s.phase s.request
  from_phase P s phase request p r has = subst (λ (x : Phase). P x s.request) (sym p) (subst (λ (x : Request). P phase x) (sym r) has)

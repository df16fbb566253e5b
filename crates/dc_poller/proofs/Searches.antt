-- A search, by the calls that it makes.
use Rattle.std.proofs.Common.{◌≡◌, Bool, true, false, inl, inr, ℕ, Result, Ok, Err, Option, None, Some, List, [], ◌∷◌, ◌++◌, refl, ap, sym, subst, ◌∙◌}
use Rattle.std.specs.Prelude.{IfOk, OnErr, OnOk}
use Rattle.dc_address.specs.declared.identity.Identity.{Identity}
use Rattle.mbdc_change.specs.State.{State}
use Rattle.dc_core.specs.Core.{opened}
use Rattle.dc_core.specs.Event.{Answer, asks, commits, started, asked, committed}
use Rattle.dc_core.specs.Images.{Machine, IsAt}
use Rattle.dc_core.specs.Text.{answer_text}
use Rattle.dc_core.specs.Transcript.{Turn, leads, IsChain}
use Rattle.dc_core.specs.declared.fault.CommitFault.{CommitFault}
use Rattle.dc_core.specs.declared.fault.StartFault.TheVariants.{Busy}
use Rattle.mbdc_bus.specs.Bus.{AreAskedBy, AreExchanged, Exchange, HasAsked}
use Rattle.dc_search.specs.State.{SearchState, new_search}
use Rattle.mbdc_io.specs.declared.stream.IoFault.{IoFault}
use Rattle.dc_sectors.specs.declared.device.Disk.{Ghosts}
use Rattle.dc_poller.specs.Run.{run_of}
use Rattle.dc_poller.specs.Halt.{OnNoMemory, OnWrite, halted_by}
use Rattle.dc_poller.specs.Link.{HasBus, Link, gateway_line, link_by, loss_text, lost}
use Rattle.dc_poller.specs.Script.{LineRan, LineCut}
use Rattle.dc_poller.specs.ScriptLine.{search}
use Rattle.dc_poller.specs.Search.{AreOfSearch, Comes, IsLeft, IsOver, Searches, Talked, looked_turns, refused_turns}
use Rattle.dc_search.specs.Found.{search_text}
use Rattle.dc_poller.specs.Starved.{LineStarved}
use Rattle.dc_core.specs.Went.{TurnWent, TurnsWent, Went}
use Rattle.dc_poller.specs.declared.halt.Halt.{Halt}
use Rattle.dc_poller.specs.declared.halt.Halt.TheVariants.{Write, NoMemory}
use Rattle.dc_core.proofs.Wents.{went_both, went_chain, went_at}

-- ---- what a call comes to, with its turns

module _ (meters : Option (List Identity)) (budget : ℕ) (talked : List Exchange → Type 0) (wrote : List ℕ → Type 0) where
  busy_comes : (link : Link) (put : Result (Unit {0}) IoFault) (count : ℕ) (request : List ℕ) → talked []
      → OnOk put (wrote (answer_text (started (Err Busy)))) → Comes meters budget link link talked wrote (halted_by put) (looked_turns count (Some request))
  busy_comes link (Ok done) count request still text =
      (answer_text (started (Err Busy)), [], inr (inl (record { count = count; request = request; turns_are = refl; text_is = refl; unasked = refl; left_is = refl })), still, text)
  busy_comes link (Err broken) count request still text = ([], inr (inl (count, request, refl, refl)), still)

  pub talked_comes : (link left : Link) (result : Result (Unit {0}) Halt) (count : ℕ) → Talked meters budget link left talked wrote result → Comes meters budget link left talked wrote result (looked_turns count None)
  talked_comes link left (Ok done) count (exchanges, s, over, left_is, so, text) =
      (_, exchanges, inr (inr (record { count = count; search = s; turns_are = refl; over = over; text_is = refl; left_is = left_is })), so, text)
  talked_comes link left (Err Write) count (exchanges, some, so) = (exchanges, inr (inr (count, refl, some)), so)
  talked_comes link left (Err NoMemory) count (exchanges, some, left_is, so, text) =
      (_, exchanges, record { count = count; turns_are = refl; asked = some; text_is = refl; left_is = left_is }, so, text)

  refused_comes : (link : Link) (put : Result (Unit {0}) IoFault) (fault : CommitFault) → talked []
      → OnOk put (wrote (answer_text (committed (Err fault)))) → Comes meters budget link link talked wrote (halted_by put) (refused_turns fault)
  refused_comes link (Ok done) fault still text = (answer_text (committed (Err fault)), [], inl (record { fault = fault; turns_are = refl; text_is = refl; unasked = refl; left_is = refl }), still, text)
  refused_comes link (Err broken) fault still text = ([], inl (fault, refl, refl), still)

  pub refused_halts : (link : Link) (put : Result (Unit {0}) IoFault) (r : Result (Unit {0}) Halt) (fault : CommitFault) → talked []
      → r ≡ halted_by put → OnOk put (wrote (answer_text (committed (Err fault)))) → Comes meters budget link link talked wrote r (refused_turns fault)
  refused_halts link put r fault still is text =
      subst (λ (x : Result (Unit {0}) Halt). Comes meters budget link link talked wrote x (refused_turns fault)) (sym is) (refused_comes link put fault still text)

  pub busy_halts : (link : Link) (put : Result (Unit {0}) IoFault) (r : Result (Unit {0}) Halt) (count : ℕ) (request : List ℕ) → talked []
      → r ≡ halted_by put → OnOk put (wrote (answer_text (started (Err Busy)))) → Comes meters budget link link talked wrote r (looked_turns count (Some request))
  busy_halts link put r count request still is text =
      subst (λ (x : Result (Unit {0}) Halt). Comes meters budget link link talked wrote x (looked_turns count (Some request))) (sym is) (busy_comes link put count request still text)

  told_by : (link left : Link) (put : Result (Unit {0}) IoFault) (exchanges : List Exchange) (s : SearchState) → IsOver meters budget link exchanges s → IsLeft link left → AreAskedBy (new_search budget) exchanges s → talked exchanges
      → OnOk put (wrote (loss_text link left ++ search_text s)) → Talked meters budget link left talked wrote (halted_by put)
  told_by link left (Ok done) exchanges s over left_is own so text = (exchanges, s, over, left_is, so, text)
  told_by link left (Err broken) exchanges s over left_is own so text = (exchanges, (s, own), so)

  -- what was found is printed
  pub told_talked : (link left : Link) (put : Result (Unit {0}) IoFault) (r : Result (Unit {0}) Halt) (exchanges : List Exchange) (s : SearchState) → r ≡ halted_by put → IsOver meters budget link exchanges s → IsLeft link left → AreAskedBy (new_search budget) exchanges s → talked exchanges
      → OnOk put (wrote (loss_text link left ++ search_text s)) → Talked meters budget link left talked wrote r
  told_talked link left put r exchanges s is over left_is own so text =
      subst (λ (x : Result (Unit {0}) Halt). Talked meters budget link left talked wrote x) (sym is) (told_by link left put exchanges s over left_is own so text)

is_false : Bool → Type 0
is_false true = ⊥
is_false false = Unit {0}

absurd_bool : {A : Type 0} → false ≡ true → A
unfolding is_false
absurd_bool e = absurd (subst is_false e tt)

-- what was asked over a bus, whether memory was refused at last or not
pub asked_anyway : {B E : Type 0} (by : B → List ℕ → List ℕ → B → Type 0) (budget : ℕ) (old new : B) (result : Result SearchState E) → IfOk result (λ s. HasAsked by budget old new s) → OnErr result ((s : SearchState) × HasAsked by budget old new s)
    → (exchanges : List Exchange) × AreOfSearch budget exchanges × AreExchanged by old exchanges new
asked_anyway by budget old new (Ok s) has halted = (has.exchanges, (s, has.asked), has.happened)
asked_anyway by budget old new (Err refused) has (s, halted) = (halted.exchanges, (s, halted.asked), halted.happened)

-- a search over a bus that states its meters, where nobody asks for them
pub told_nowhere : (meters : Option (List Identity)) (budget : ℕ) (link left : Link) (turns : List Turn) (exchanges : List Exchange) (text : List ℕ)
    → Searches meters budget link left turns exchanges text → Searches None budget link left turns exchanges text
told_nowhere meters budget link left turns exchanges text (inl refused) = inl refused
told_nowhere meters budget link left turns exchanges text (inr (inl busy)) = inr (inl busy)
told_nowhere meters budget link left turns exchanges text (inr (inr finds)) =
    let over = finds.over in
    inr (inr (record {
      count = finds.count;
      search = finds.search;
      turns_are = finds.turns_are;
      over = record { ended = over.ended; within = over.within; asked = over.asked; walk = tt; nobody = over.nobody };
      text_is = finds.text_is;
      left_is = finds.left_is;
    }))

-- ---- how a bus is left

pub lost_by : (was : Bool) → link_by was ≡ lost → was ≡ true
lost_by true is = refl
lost_by false is = cc

pub left_by : (was is : Bool) → (was ≡ true → is ≡ true) → IsLeft (link_by was) (link_by is)
left_by true true stays = refl
left_by true false stays = absurd_bool (stays refl)
left_by false true stays = inr refl
left_by false false stays = inl refl

module _ {D : Type 0} (g : Ghosts D) (origin : D) where
  -- a commit, and then a look at a line
  pub commit_and_look : (budget : ℕ) (state : State) (before : List Turn) (answer : Result ℕ CommitFault) (count : ℕ) (request : Option (List ℕ)) (such : List Turn → Type 0) (first new : Machine D)
      → TurnWent g origin budget state before commits (λ told. told ≡ committed answer) first new → answer ≡ Ok count → new.house.budget ≡ budget
      → ((behind : List Turn) → IsChain new.house.budget (opened state) behind → IsAt g origin new (leads (opened state) behind)
      → TurnWent g origin new.house.budget state behind (asks gateway_line) (λ told. told ≡ asked request) new new)
      → such (looked_turns count request)
      → TurnsWent g origin budget state before such first new
  commit_and_look budget state before answer count request such first new one is same look so =
      let done : List Turn = (commits, committed (Ok count)) ∷ [] in
      let went = subst (λ (a : Answer). Went g origin budget state before ((commits, a) ∷ []) first new) (one.is_such ∙ ap committed is) one.went in
      let two = look (before ++ done) (subst (λ (b : ℕ). IsChain b (opened state) (before ++ done)) (sym same) (went_chain g origin budget state before done first new went))
      (went_at g origin budget state before done first new went) in
      let asked_so = subst (λ (a : Answer). Went g origin new.house.budget state (before ++ done) ((asks gateway_line, a) ∷ []) new new) two.is_such two.went in
      record {
        turns = looked_turns count request;
        are_such = so;
        went = went_both g origin budget state before done ((asks gateway_line, asked request) ∷ []) first new new went
            (subst (λ (b : ℕ). Went g origin b state (before ++ done) ((asks gateway_line, asked request) ∷ []) new new) same asked_so);
      }

  -- ---- as a line of a script, over a gateway that is found so

  pub searched_ran : (budget : ℕ) (state : State) (before : List Turn) (moment most : ℕ) (meters : Option (List Identity)) (link found after : Link) (talked also : List Exchange → Type 0) (wrote : List ℕ → Type 0) (first new : Machine D) (result : Result (Unit {0}) Halt) → link ≡ found → HasBus link → ((exchanges : List Exchange) → talked exchanges → also exchanges)
      → TurnsWent g origin budget state before (Comes meters most found after talked wrote result) first new
      → OnOk result (LineRan g (run_of origin budget state before first new) moment (search most) link after wrote also)
  searched_ran budget state before moment most meters link found after talked also wrote first new (Ok done) is has_bus so found_some =
      let some = subst (λ (l : Link). TurnsWent g origin budget state before (Comes meters most l after talked wrote (Ok done)) first new) (sym is) found_some in record {
        turns = some.turns;
        exchanges = some.are_such.1;
        line = some.are_such.0;
        does = inl (has_bus, told_nowhere meters most link after some.turns some.are_such.1 some.are_such.0 some.are_such.2);
        went = some.went;
        text = some.are_such.4;
        over = so some.are_such.1 some.are_such.3;
      }
  searched_ran budget state before moment most meters link found after talked also wrote first new (Err halt) is has_bus so found_some = tt

  pub searched_cut : (budget : ℕ) (state : State) (before : List Turn) (moment most : ℕ) (meters : Option (List Identity)) (link found after : Link) (talked also : List Exchange → Type 0) (wrote : List ℕ → Type 0) (first new : Machine D) (result : Result (Unit {0}) Halt) → link ≡ found → HasBus link → ((exchanges : List Exchange) → talked exchanges → also exchanges)
      → TurnsWent g origin budget state before (Comes meters most found after talked wrote result) first new
      → OnWrite result (LineCut g (run_of origin budget state before first new) moment (search most) link also)
  searched_cut budget state before moment most meters link found after talked also wrote first new (Ok done) is has_bus so found_some = tt
  searched_cut budget state before moment most meters link found after talked also wrote first new (Err Write) is has_bus so found_some =
      let some = subst (λ (l : Link). TurnsWent g origin budget state before (Comes meters most l after talked wrote (Err Write)) first new) (sym is) found_some in record { turns = some.turns; exchanges = some.are_such.0; does = inl (has_bus, some.are_such.1); went = some.went; over = so some.are_such.0 some.are_such.2 }
  searched_cut budget state before moment most meters link found after talked also wrote first new (Err NoMemory) is has_bus so found_some = tt

  pub searched_starved : (budget : ℕ) (state : State) (before : List Turn) (most : ℕ) (meters : Option (List Identity)) (link found after : Link) (talked also : List Exchange → Type 0) (wrote : List ℕ → Type 0) (first new : Machine D) (result : Result (Unit {0}) Halt) → link ≡ found → HasBus link → ((exchanges : List Exchange) → talked exchanges → also exchanges)
      → TurnsWent g origin budget state before (Comes meters most found after talked wrote result) first new
      → OnNoMemory result (LineStarved g (run_of origin budget state before first new) (search most) link wrote also)
  searched_starved budget state before most meters link found after talked also wrote first new (Ok done) is has_bus so found_some = tt
  searched_starved budget state before most meters link found after talked also wrote first new (Err Write) is has_bus so found_some = tt
  searched_starved budget state before most meters link found after talked also wrote first new (Err NoMemory) is has_bus so found_some =
      let some = subst (λ (l : Link). TurnsWent g origin budget state before (Comes meters most l after talked wrote (Err NoMemory)) first new) (sym is) found_some in record {
        last = record { turns = some.turns; exchanges = some.are_such.1; text = some.are_such.0; left = after };
        starves = record { budget = most; asked_is = refl; has_bus = has_bus; starves = some.are_such.2 };
        went = some.went;
        text = some.are_such.4;
        over = so some.are_such.1 some.are_such.3;
      }

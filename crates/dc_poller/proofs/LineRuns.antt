-- Lines of a script, done one after the other.
use Rattle.std.proofs.Common.{◌≡◌, ◌+◌, ℕ, List, [], ◌∷◌, ◌++◌, length, refl, ap, sym, subst, ◌∙◌, arith, append_assoc, append-nil, length-append, inl}
use Rattle.std.specs.Prelude.{Result, Ok, Err, OnOk, OnErr}
use Rattle.dc_sectors.specs.declared.device.Disk.{Ghosts}
use Rattle.mbdc_change.specs.State.{State}
use Rattle.dc_core.specs.Core.{opened}
use Rattle.dc_core.specs.Event.{Event, Answer}
use Rattle.dc_core.specs.Text.{answer_text}
use Rattle.dc_core.specs.Transcript.{Turn, leads, IsChain}
use Rattle.dc_core.specs.Images.{Machine, IsAt}
use Rattle.dc_address.specs.declared.identity.Identity.{Identity}
use Rattle.dc_poller.specs.Run.{run_of}
use Rattle.dc_poller.specs.Link.{IsLinked, Link}
use Rattle.mbdc_bus.specs.Bus.{Exchange}
use Rattle.dc_poller.specs.Poll.{Phase, Happening, is_over, to_start, happened_exchanges, happened_turns, happened_text}
use Rattle.dc_poller.specs.Way.{Way}
use Rattle.dc_poller.specs.Script.{AskFor, FailsAt, ScriptCut, LinesRan, LineRan, LineCut, Deed, Does, DoesPart, IsOneTurn, IsTurnOf, AreDone, deeds_exchanges, deeds_turns, deeds_text, link_after, moment_behind, moment_after}
use Rattle.dc_poller.specs.ScriptLine.{LineSeen, poll, IsLineOf}
use Rattle.dc_core.specs.Went.{Went, TurnWent}
use Rattle.dc_core.proofs.Wents.{went_both, went_chain, went_at}

-- ---- one line more

moment_push : (moment : ℕ) (done : List LineSeen) (asked : LineSeen) → moment_after moment (done ++ asked ∷ []) ≡ moment_behind (moment_after moment done) asked
moment_push moment [] asked = refl
moment_push moment (first ∷ done) asked = moment_push (moment_behind moment first) done asked

ask_push : (lines : List (List ℕ)) (done : List LineSeen) (line : List ℕ) (rest : List (List ℕ)) (asked : LineSeen) → AskFor lines done (line ∷ rest) → IsLineOf line asked → AskFor lines (done ++ asked ∷ []) rest
ask_push lines [] line rest asked before is = subst (λ (ls : List (List ℕ)). AskFor ls (asked ∷ []) rest) before (is, refl)
ask_push [] (first ∷ done) line rest asked before is = absurd before
ask_push (other ∷ lines) (first ∷ done) line rest asked before is = (before.0, ask_push lines done line rest asked before.1 is)

done_push : (moment : ℕ) (link : Link) (done : List LineSeen) (deeds : List Deed) (asked : LineSeen) (deed : Deed) → AreDone moment link done deeds
    → Does (moment_after moment done) asked (link_after link deeds) deed.left deed.turns deed.exchanges deed.text → AreDone moment link (done ++ asked ∷ []) (deeds ++ deed ∷ [])
done_push moment link [] [] asked deed before does = (does, tt)
done_push moment link [] (d ∷ deeds) asked deed before does = absurd before
done_push moment link (first ∷ done) [] asked deed before does = absurd before
done_push moment link (first ∷ done) (d ∷ deeds) asked deed before does = (before.0, done_push (moment_behind moment first) d.left done deeds asked deed before.1 does)

link_push : (link : Link) (deeds : List Deed) (deed : Deed) → link_after link (deeds ++ deed ∷ []) ≡ deed.left
link_push link [] deed = refl
link_push link (d ∷ deeds) deed = link_push d.left deeds deed

pub turns_push : (deeds : List Deed) (deed : Deed) → deeds_turns (deeds ++ deed ∷ []) ≡ deeds_turns deeds ++ deed.turns
turns_push [] deed = append-nil deed.turns
turns_push (d ∷ deeds) deed = ap (λ (x : List Turn). d.turns ++ x) (turns_push deeds deed) ∙ sym (append_assoc d.turns (deeds_turns deeds) deed.turns)

text_push : (deeds : List Deed) (deed : Deed) → deeds_text (deeds ++ deed ∷ []) ≡ deeds_text deeds ++ deed.text
text_push [] deed = append-nil deed.text
text_push (d ∷ deeds) deed = ap (λ (x : List ℕ). d.text ++ x) (text_push deeds deed) ∙ sym (append_assoc d.text (deeds_text deeds) deed.text)

exchanges_push : (deeds : List Deed) (deed : Deed) → deeds_exchanges (deeds ++ deed ∷ []) ≡ deeds_exchanges deeds ++ deed.exchanges
exchanges_push [] deed = append-nil deed.exchanges
exchanges_push (d ∷ deeds) deed = ap (λ (x : List Exchange). d.exchanges ++ x) (exchanges_push deeds deed) ∙ sym (append_assoc d.exchanges (deeds_exchanges deeds) deed.exchanges)

-- ---- what is said of each result

pub on_ok : {X E : Type 0} (result : Result X E) (A B : Type 0) → (A → B) → OnOk result A → OnOk result B
on_ok (Ok x) A B f a = f a
on_ok (Err e) A B f a = tt

pub on_err : {X E : Type 0} (result : Result X E) (B : Type 0) → B → OnErr result B
on_err (Ok x) B b = tt
on_err (Err e) B b = b

module _ {D : Type 0} (g : Ghosts D) (origin : D) where
  -- the lines so far, and how the bus lines are after them
  pub record LinesSoFar (budget : ℕ) (state : State) (before : List Turn) (link now : Link) (done : List LineSeen) (wrote : List ℕ → Type 0) (carries : List Exchange → Type 0) (first new : Machine D) : Type 0 where
    pub lines : LinesRan g (run_of origin budget state before first new) link done wrote carries
    pub link_is : link_after link lines.deeds ≡ now

  -- no line yet
  pub lines_none : (budget : ℕ) (state : State) (before : List Turn) (link : Link) (wrote : List ℕ → Type 0) (carries : List Exchange → Type 0) (machine : Machine D)
      → Went g origin budget state before [] machine machine → wrote [] → carries []
      → LinesSoFar budget state before link link [] wrote carries machine machine
  lines_none budget state before link wrote carries machine went text carried = record {
    lines = record { deeds = []; done = tt; went = went; text = text; carried = carried };
    link_is = refl;
  }

  -- some lines, and one more
  pub lines_more : (budget : ℕ) (state : State) (before : List Turn) (link now left : Link) (done : List LineSeen) (asked : LineSeen) (moment : ℕ) (wrote piece all : List ℕ → Type 0) (carries both : List Exchange → Type 0) (talked : List Exchange → Type 0) (first old new : Machine D)
      → moment ≡ moment_after 0 done
      → (so_far : LinesSoFar budget state before link now done wrote carries first old)
      → LineRan g (run_of origin budget state (before ++ deeds_turns so_far.lines.deeds) old new) moment asked now left piece talked
      → ((text more : List ℕ) → wrote text → piece more → all (text ++ more))
      → ((before more : List Exchange) → carries before → talked more → both (before ++ more))
      → LinesSoFar budget state before link left (done ++ asked ∷ []) all both first new
  lines_more budget state before link now left done asked moment wrote piece all carries both talked first old new is so_far one joins adds =
      let deeds = so_far.lines.deeds in
      let deed : Deed = record { turns = one.turns; exchanges = one.exchanges; text = one.line; left = left } in
      record {
        lines = record {
          deeds = deeds ++ deed ∷ [];
          done = done_push 0 link done deeds asked deed so_far.lines.done
              (subst (λ (l : Link). Does (moment_after 0 done) asked l left one.turns one.exchanges one.line) (sym so_far.link_is) (subst (λ (m : ℕ). Does m asked now left one.turns one.exchanges one.line) is one.does));
          went = subst (λ (ts : List Turn). Went g origin budget state before ts first new) (sym (turns_push deeds deed))
              (went_both g origin budget state before (deeds_turns deeds) one.turns first old new so_far.lines.went one.went);
          text = subst all (sym (text_push deeds deed)) (joins (deeds_text deeds) one.line so_far.lines.text one.text);
          carried = subst both (sym (exchanges_push deeds deed)) (adds (deeds_exchanges deeds) one.exchanges so_far.lines.carried one.over);
        };
        link_is = link_push link deeds deed;
      }

  -- so far: the first lines are done, and the rest of the input is before them
  pub record SoFar (budget : ℕ) (link now : Link) (input rest : List (List ℕ)) (moment count : ℕ) (wrote : List ℕ → Type 0) (carries : List Exchange → Type 0) (first new : Machine D) : Type 0 where
    pub done : List LineSeen
    pub are_read : AskFor input done rest
    pub moment_is : moment ≡ moment_after 0 done
    pub count_is : count ≡ length done
    pub ran : (state : State) (before : List Turn) → IsChain budget (opened state) before → IsAt g origin first (leads (opened state) before)
        → LinesSoFar budget state before link now done wrote carries first new

  pub one_more : (budget : ℕ) (link now left : Link) (input : List (List ℕ)) (line : List ℕ) (rest : List (List ℕ)) (asked : LineSeen) (moment count : ℕ) (wrote piece all : List ℕ → Type 0) (carries both : List Exchange → Type 0) (talked : List Exchange → Type 0) (first old new : Machine D)
      → SoFar budget link now input (line ∷ rest) moment count wrote carries first old → IsLineOf line asked
      → ((state : State) (before : List Turn) → IsChain budget (opened state) before → IsAt g origin old (leads (opened state) before)
      → LineRan g (run_of origin budget state before old new) moment asked now left piece talked)
      → ((text more : List ℕ) → wrote text → piece more → all (text ++ more))
      → ((before more : List Exchange) → carries before → talked more → both (before ++ more))
      → SoFar budget link left input rest (moment_behind moment asked) (count + 1) all both first new
  one_more budget link now left input line rest asked moment count wrote piece all carries both talked first old new so_far is one joins adds =
      let counted = so_far.count_is in
      record {
        done = so_far.done ++ asked ∷ [];
        are_read = ask_push input so_far.done line rest asked so_far.are_read is;
        moment_is = ap (λ (m : ℕ). moment_behind m asked) so_far.moment_is ∙ sym (moment_push 0 so_far.done asked);
        count_is = omega (arith, counted, length-append so_far.done (asked ∷ []));
        ran = λ state before chain at.
            let ran = so_far.ran state before chain at in
            let turns = deeds_turns ran.lines.deeds in
            lines_more budget state before link now left so_far.done asked moment wrote piece all carries both talked first old new so_far.moment_is ran
            (one state (before ++ turns) (went_chain g origin budget state before turns first old ran.lines.went) (went_at g origin budget state before turns first old ran.lines.went)) joins adds;
      }

  -- a write failed at the next line
  pub cut_here : (budget : ℕ) (link now : Link) (input : List (List ℕ)) (line : List ℕ) (rest : List (List ℕ)) (moment count : ℕ) (wrote : List ℕ → Type 0) (carries both : List Exchange → Type 0) (part : List Turn) (part_exchanges : List Exchange) (first old new : Machine D)
      → (so_far : SoFar budget link now input (line ∷ rest) moment count wrote carries first old)
      → (state : State) (before : List Turn) (chain : IsChain budget (opened state) before) (is_at : IsAt g origin first (leads (opened state) before))
      → FailsAt moment now (line ∷ rest) part part_exchanges
      → ((exchanges : List Exchange) → carries exchanges → both (exchanges ++ part_exchanges))
      → Went g origin budget state (before ++ deeds_turns (so_far.ran state before chain is_at).lines.deeds) part old new
      → ScriptCut g (run_of origin budget state before first new) link input both
  cut_here budget link now input line rest moment count wrote carries both part part_exchanges first old new so_far state before chain is_at fails adds went =
      let ran = so_far.ran state before chain is_at in
      record {
        asked = so_far.done;
        rest = line ∷ rest;
        are_read = so_far.are_read;
        deeds = ran.lines.deeds;
        done = ran.lines.done;
        part = part;
        part_exchanges = part_exchanges;
        fails = subst (λ (l : Link). FailsAt (moment_after 0 so_far.done) l (line ∷ rest) part part_exchanges) (sym ran.link_is) (subst (λ (m : ℕ). FailsAt m now (line ∷ rest) part part_exchanges) so_far.moment_is fails);
        went = went_both g origin budget state before (deeds_turns ran.lines.deeds) part first old new ran.lines.went went;
        carried = adds (deeds_exchanges ran.lines.deeds) ran.lines.carried;
      }

  -- ---- one line

  -- a line that is one event
  pub event_ran : {X E : Type 0} (budget : ℕ) (state : State) (before : List Turn) (event : Event) (moment : ℕ) (asked : LineSeen) (link : Link) (wrote : List ℕ → Type 0) (talked : List Exchange → Type 0) (first new : Machine D) (result : Result X E)
      → TurnWent g origin budget state before event (λ answer. OnOk result (wrote (answer_text answer))) first new
      → ((turns : List Turn) (text : List ℕ) → IsOneTurn event turns text → Does moment asked link link turns [] text)
      → talked []
      → OnOk result (LineRan g (run_of origin budget state before first new) moment asked link link wrote talked)
  event_ran budget state before event moment asked link wrote talked first new result one does still =
      on_ok result (wrote (answer_text one.answer)) (LineRan g (run_of origin budget state before first new) moment asked link link wrote talked)
      (λ text. record {
        turns = (event, one.answer) ∷ [];
        exchanges = [];
        line = answer_text one.answer;
        does = does ((event, one.answer) ∷ []) (answer_text one.answer) (record { answer = one.answer; turns_are = refl; text_is = refl });
        went = one.went;
        text = text;
        over = still;
      }) one.is_such

  pub event_cut : {X E : Type 0} (budget : ℕ) (state : State) (before : List Turn) (event : Event) (moment : ℕ) (asked : LineSeen) (link : Link) (such : Answer → Type 0) (talked : List Exchange → Type 0) (first new : Machine D) (result : Result X E)
      → TurnWent g origin budget state before event such first new
      → ((turns : List Turn) → IsTurnOf event turns → DoesPart moment asked link turns [])
      → talked []
      → OnErr result (LineCut g (run_of origin budget state before first new) moment asked link talked)
  event_cut budget state before event moment asked link such talked first new result one does still =
      on_err result (LineCut g (run_of origin budget state before first new) moment asked link talked)
      (record { turns = (event, one.answer) ∷ []; exchanges = []; does = does ((event, one.answer) ∷ []) (one.answer, refl); went = one.went; over = still })

  -- a line that is no event, and what it writes
  pub said_ran : {X E : Type 0} (budget : ℕ) (state : State) (before : List Turn) (moment : ℕ) (asked : LineSeen) (link left : Link) (said : List ℕ) (wrote : List ℕ → Type 0) (talked : List Exchange → Type 0) (machine : Machine D) (result : Result X E)
      → Does moment asked link left [] [] said → talked [] → Went g origin budget state before [] machine machine → OnOk result (wrote said)
      → OnOk result (LineRan g (run_of origin budget state before machine machine) moment asked link left wrote talked)
  said_ran budget state before moment asked link left said wrote talked machine result does still went text =
      on_ok result (wrote said) (LineRan g (run_of origin budget state before machine machine) moment asked link left wrote talked)
      (λ text. record { turns = []; exchanges = []; line = said; does = does; went = went; text = text; over = still }) text

  pub said_cut : {X E : Type 0} (budget : ℕ) (state : State) (before : List Turn) (moment : ℕ) (asked : LineSeen) (link : Link) (talked : List Exchange → Type 0) (machine : Machine D) (result : Result X E)
      → DoesPart moment asked link [] [] → talked [] → Went g origin budget state before [] machine machine
      → OnErr result (LineCut g (run_of origin budget state before machine machine) moment asked link talked)
  said_cut budget state before moment asked link talked machine result does still went =
      on_err result (LineCut g (run_of origin budget state before machine machine) moment asked link talked)
      (record { turns = []; exchanges = []; does = does; went = went; over = still })

  -- a poll over a gateway that is found so
  pub polled_ran : {X E : Type 0} (budget : ℕ) (state : State) (before : List Turn) (moment line : ℕ) (meter : Identity) (link found after : Link) (ends : List Happening → Phase → Type 0) (wrote : List ℕ → Type 0) (talked : List Exchange → Type 0) (first new : Machine D) (result : Result X E) → link ≡ found → IsLinked link line
      → Way g (run_of origin budget state before first new) line moment meter (record { due = to_start; link = found }) ends (λ text. OnOk result (wrote text))
      → ((happened : List Happening) (last : Phase) → ends happened last → OnOk result (last ≡ record { due = is_over; link = after }))
      → ((happened : List Happening) (last : Phase) → ends happened last → talked (happened_exchanges happened))
      → OnOk result (LineRan g (run_of origin budget state before first new) moment (poll line meter) link after wrote talked)
  polled_ran budget state before moment line meter link found after ends wrote talked first new (Ok x) is linked found_way ends_so talks_so =
      let way = subst (λ (l : Link). Way g (run_of origin budget state before first new) line moment meter (record { due = to_start; link = l }) ends wrote) (sym is) found_way in record {
        turns = happened_turns way.happened;
        exchanges = happened_exchanges way.happened;
        line = happened_text way.happened;
        does = inl (linked, record { happened = way.happened; last = way.last; way = way.way; ends = ap (λ (p : Phase). p.due) (ends_so way.happened way.last way.ends_so); left_is = sym (ap (λ (p : Phase). p.link) (ends_so way.happened way.last way.ends_so)); turns_are = refl; exchanges_are = refl; text_is = refl });
        went = way.went;
        text = way.text;
        over = talks_so way.happened way.last way.ends_so;
      }
  polled_ran budget state before moment line meter link found after ends wrote talked first new (Err e) is linked found_way ends_so talks_so = tt

  pub polled_cut : {X E : Type 0} (budget : ℕ) (state : State) (before : List Turn) (moment line : ℕ) (meter : Identity) (link found : Link) (ends : List Happening → Phase → Type 0) (wrote : List ℕ → Type 0) (talked : List Exchange → Type 0) (first new : Machine D) (result : Result X E) → link ≡ found → IsLinked link line
      → Way g (run_of origin budget state before first new) line moment meter (record { due = to_start; link = found }) ends wrote
      → ((happened : List Happening) (last : Phase) → ends happened last → talked (happened_exchanges happened))
      → OnErr result (LineCut g (run_of origin budget state before first new) moment (poll line meter) link talked)
  polled_cut budget state before moment line meter link found ends wrote talked first new result is linked found_way talks_so =
      let way = subst (λ (l : Link). Way g (run_of origin budget state before first new) line moment meter (record { due = to_start; link = l }) ends wrote) (sym is) found_way in
      on_err result (LineCut g (run_of origin budget state before first new) moment (poll line meter) link talked)
      (record {
        turns = happened_turns way.happened;
        exchanges = happened_exchanges way.happened;
        does = inl (linked, record { happened = way.happened; last = way.last; way = way.way; turns_are = refl; exchanges_are = refl });
        went = way.went;
        over = talks_so way.happened way.last way.ends_so;
      })

-- A run goes on by one turn.
use Rattle.std.proofs.Common.{◌≡◌, ◌≤◌, ◌+◌, ℕ, List, [], ◌∷◌, ◌++◌, None, Some, Ok, Err, length, take, refl, ap, sym, subst, ◌∙◌, arith, append_assoc, length-append}
use Rattle.std.proofs.lemmas.List.{map-append, append-nil, take-append-le, length-take-le, flat_map_more}
use Rattle.std.proofs.Math.Seq.{take-append-add}
use Rattle.dc_sectors.specs.Disk.{Image, IsImage}
use Rattle.dc_sectors.specs.declared.device.Disk.{Ghosts}
use Rattle.dc_sectors.specs.Runs.{LeavesOnly}
use Rattle.dc_sectors.proofs.Moments.{started as begun, followed}
use Rattle.mbdc_change.specs.State.{State}
use Rattle.mbdc_change.specs.declared.change.Change.{Change}
use Rattle.mbdc_change.specs.History.{after}
use Rattle.mbdc_change.proofs.History.{after_of_append}
use Rattle.mbdc_log.specs.Halves.{half_of, half_len_of}
use Rattle.dc_core.specs.PendingImages.{Stands, StandsForFront}
use Rattle.mbdc_log.specs.Store.{Opened}
use Rattle.mbdc_log.proofs.Fronts.{longer_front}
use Rattle.dc_meters.specs.Language.{register}
use Rattle.dc_core.specs.declared.line_heard.LineHeard.TheVariants.{Again, Ready, Accepted, Failed}
use Rattle.dc_core.specs.Core.{Core, opened}
use Rattle.dc_core.specs.Event.{Event, Answer, starts, asks, hears, commits, offices, started, asked, heard, committed, replied}
use Rattle.dc_core.specs.Event.{unread, unstored, repeated, refused, shown, out_of_memory, obeyed, uncommitted}
use Rattle.dc_core.specs.Step.{May, next}
use Rattle.dc_core.specs.Transcript.{Turn, leads, IsChain, accepted_by, accepted_in}
use Rattle.dc_core.specs.Promised.{Seen, nothing_seen, and_seen, seen_from, promised_in, HoldsFront}
use Rattle.dc_core.specs.Images.{Machine, IsAt, StandsForPromised}
use Rattle.dc_core.specs.Text.{answer_text, run_text}
use Rattle.dc_core.specs.Run.{fault_in, IsShown, Turned, Did, DidAll, Ran}
use Rattle.dc_core.proofs.Fronts.{promised_is_committed, promised_within}
use Rattle.dc_core.proofs.Followed.{none_is_unknown}

-- ---- a chain with one turn more

pub leads_push : (core : Core) (turns : List Turn) (t : Turn) → leads core (turns ++ t ∷ []) ≡ next (leads core turns) t.0 t.1
leads_push core [] t = refl
leads_push core (u ∷ turns) t = leads_push (next core u.0 u.1) turns t

pub chain_push : (budget : ℕ) (core : Core) (turns : List Turn) (t : Turn) → IsChain budget core turns → May budget (leads core turns) t.0 t.1 → IsChain budget core (turns ++ t ∷ [])
chain_push budget core [] t chain may = (may, tt)
chain_push budget core (u ∷ turns) t chain may = (chain.0, chain_push budget (next core u.0 u.1) turns t chain.1 may)

pub accepted_push : (core : Core) (turns : List Turn) (t : Turn) → accepted_in core (turns ++ t ∷ []) ≡ accepted_in core turns ++ accepted_by (leads core turns) t.0 t.1
accepted_push core [] t = append-nil (accepted_by core t.0 t.1)
accepted_push core (u ∷ turns) t =
    ap (λ (x : List Change). accepted_by core u.0 u.1 ++ x) (accepted_push (next core u.0 u.1) turns t)
    ∙ sym (append_assoc (accepted_by core u.0 u.1) (accepted_in (next core u.0 u.1) turns) (accepted_by (leads (next core u.0 u.1) turns) t.0 t.1))

pub leads_append : (core : Core) (turns more : List Turn) → leads core (turns ++ more) ≡ leads (leads core turns) more
leads_append core [] more = refl
leads_append core (t ∷ turns) more = leads_append (next core t.0 t.1) turns more

pub seen_push : (seen : Seen) (turns : List Turn) (t : Turn) → seen_from seen (turns ++ t ∷ []) ≡ and_seen t.0 t.1 (seen_from seen turns)
seen_push seen [] t = refl
seen_push seen (u ∷ turns) t = seen_push (and_seen u.0 u.1 seen) turns t

-- no turn takes a promise back
still_promised : (event : Event) (answer : Answer) (seen : Seen) → seen.promised ≤ seen.accepted → seen.promised ≤ (and_seen event answer seen).promised
still_promised (hears line moment bytes) (heard (Ok (Accepted part more))) seen within = omega arith
still_promised (hears line moment bytes) (heard (Ok Again)) seen within = omega arith
still_promised (hears line moment bytes) (heard (Ok Ready)) seen within = omega arith
still_promised (hears line moment bytes) (heard (Ok (Failed why))) seen within = omega arith
still_promised (hears line moment bytes) (heard (Err fault)) seen within = omega arith
still_promised (asks line) (asked (Some request)) seen within = omega arith
still_promised (asks line) (asked None) seen within = omega arith
still_promised commits (committed (Ok count)) seen within = within
still_promised commits (committed (Err fault)) seen within = omega arith
still_promised (offices text) (replied unread) seen within = omega arith
still_promised (offices text) (replied (unstored fault)) seen within = omega arith
still_promised (offices text) (replied (repeated number)) seen within = within
still_promised (offices text) (replied (refused code)) seen within = within
still_promised (offices text) (replied (shown bytes)) seen within = within
still_promised (offices text) (replied out_of_memory) seen within = within
still_promised (offices text) (replied (obeyed number change)) seen within = omega (arith, within)
still_promised (offices text) (replied (uncommitted change fault)) seen within = omega arith
still_promised (starts line meter) (started answer) seen within = omega arith
still_promised (starts line meter) (asked answer) seen within = omega arith
still_promised (starts line meter) (heard answer) seen within = omega arith
still_promised (starts line meter) (committed answer) seen within = omega arith
still_promised (starts line meter) (replied reply) seen within = omega arith
still_promised (asks line) (started answer) seen within = omega arith
still_promised (asks line) (heard answer) seen within = omega arith
still_promised (asks line) (committed answer) seen within = omega arith
still_promised (asks line) (replied reply) seen within = omega arith
still_promised (hears line moment bytes) (started answer) seen within = omega arith
still_promised (hears line moment bytes) (asked answer) seen within = omega arith
still_promised (hears line moment bytes) (committed answer) seen within = omega arith
still_promised (hears line moment bytes) (replied reply) seen within = omega arith
still_promised commits (started answer) seen within = omega arith
still_promised commits (asked answer) seen within = omega arith
still_promised commits (heard answer) seen within = omega arith
still_promised commits (replied reply) seen within = omega arith
still_promised (offices text) (started answer) seen within = omega arith
still_promised (offices text) (asked answer) seen within = omega arith
still_promised (offices text) (heard answer) seen within = omega arith
still_promised (offices text) (committed answer) seen within = omega arith

pub promised_push : (budget : ℕ) (state : State) (turns : List Turn) (t : Turn) → IsChain budget (opened state) turns → promised_in turns ≤ promised_in (turns ++ t ∷ [])
promised_push budget state turns t chain =
    subst (λ (s : Seen). promised_in turns ≤ s.promised) (sym (seen_push nothing_seen turns t)) (still_promised t.0 t.1 (seen_from nothing_seen turns) (promised_within budget state turns chain))

-- ---- what images stand for

pub grown : (half_len : ℕ) (state : State) (promised : ℕ) (changes more : List Change) (image : Image) → StandsForPromised half_len state promised changes image → StandsForPromised half_len state promised (changes ++ more) image
grown half_len state promised changes more image stands =
    let within = stands.front.within in
    record {
      front = record { count = stands.front.count; within = omega (arith, within, length-append changes more); stands = rw take-append-le stands.front.stands };
      all_promised = stands.all_promised;
    }

pub fewer : (half_len : ℕ) (state : State) (few promised : ℕ) (changes : List Change) (image : Image) → few ≤ promised → StandsForPromised half_len state promised changes image → StandsForPromised half_len state few changes image
fewer half_len state few promised changes image less stands = let all = stands.all_promised in record { front = stands.front; all_promised = omega (arith, less, all) }

-- What is committed and a prefix of what is pending, and of what comes then, is the first state and a prefix of all that was accepted, with all that is promised.
pub from_first : (half_len : ℕ) (state : State) (turns : List Turn) (core : Core) (more : List Change) (image : Image) → HoldsFront state turns core → StandsForFront half_len core.committed (core.pending ++ more) image
    → StandsForPromised half_len state (promised_in turns) (accepted_in (opened state) turns ++ more) image
from_first half_len state turns core more image holds stands =
    let all = accepted_in (opened state) turns in
    let done = take holds.count all in
    let within = stands.within in
    let whole : all ++ more ≡ done ++ (core.pending ++ more) = ap (λ (x : List Change). x ++ more) holds.pending ∙ append_assoc done core.pending more in
    let parts = ap length whole ∙ length-append done (core.pending ++ more) in
    let least = holds.promised in
    let counted = length-take-le holds.count all holds.within in
    let cut : take (length done + stands.count) (all ++ more) ≡ done ++ take stands.count (core.pending ++ more) = ap (take (length done + stands.count)) whole ∙ take-append-add done (core.pending ++ more) stands.count in
    let e : after core.committed (take stands.count (core.pending ++ more)) ≡ after state (take (length done + stands.count) (all ++ more)) =
    ap (λ (s : State). after s (take stands.count (core.pending ++ more))) holds.committed ∙ sym (after_of_append state done (take stands.count (core.pending ++ more))) ∙ ap (after state) (sym cut) in
    record {
      front = record {
        count = length done + stands.count;
        within = omega (arith, within, parts);
        stands = subst (λ (s : State). Stands half_len s image) e stands.stands;
      };
      all_promised = omega (arith, least, counted);
    }

-- where nothing comes
pub now_first : (half_len : ℕ) (state : State) (turns : List Turn) (core : Core) (image : Image) → HoldsFront state turns core → StandsForFront half_len core.committed core.pending image
    → StandsForPromised half_len state (promised_in turns) (accepted_in (opened state) turns) image
now_first half_len state turns core image holds stands =
    subst (λ (x : List Change). StandsForPromised half_len state (promised_in turns) x image) (append-nil (accepted_in (opened state) turns))
    (from_first half_len state turns core [] image holds (subst (λ (x : List Change). StandsForFront half_len core.committed x image) (sym (append-nil core.pending)) stands))

module _ {D : Type 0} (g : Ghosts D) (origin : D) where
  -- a call that leaves the store, whatever it accepts
  pub at_rest : (machine new : Machine D) (core : Core) (more : List Change) → IsAt g origin machine core → g.keeps origin → new.store ≡ machine.store
      → ((image : Image) → g.images_since machine.store.disk (g.moment machine.store.disk) image → IsImage (g.choices machine.store.disk) image)
      → LeavesOnly g machine.store.disk new.store.disk (StandsForFront (half_of g machine.store.disk) core.committed (core.pending ++ more))
  at_rest machine new core more at h same only =
      let H = half_of g machine.store.disk in
      let P : Image → Type 0 = StandsForFront H core.committed (core.pending ++ more) in
      subst (λ (s : Opened D). LeavesOnly g machine.store.disk s.disk P) (sym same)
      (begun g machine.store.disk P (λ image left. longer_front register H core.committed core.pending more image (at.leaves h image (only image left))))

  -- AN EVENT THAT LEAVES THE STORE as it was
  pub turned_at_rest : (budget : ℕ) (machine new : Machine D) (core : Core) (event : Event) (answer : Answer) (wrote : List ℕ → Type 0) → fault_in answer ≡ None
      → May budget core event answer → wrote (answer_text answer) → IsAt g origin machine core → IsAt g origin new (next core event answer) → new.store ≡ machine.store
      → (g.keeps origin → (image : Image) → g.images_since machine.store.disk (g.moment machine.store.disk) image → IsImage (g.choices machine.store.disk) image)
      → Turned g origin budget core event wrote machine new
  turned_at_rest budget machine new core event answer wrote none may text at after same only = record {
    answer = answer;
    may = may;
    text = text;
    at = after;
    failed = subst (IsShown g machine new) (sym none) tt;
    leaves = λ h. at_rest machine new core (accepted_by core event answer) at h same (only h);
  }

  -- some turns, and then others
  pub did_both : (budget : ℕ) (core : Core) (turns more : List Turn) (first mid new : Machine D) → DidAll g origin budget core turns first mid
      → DidAll g origin budget (leads core turns) more mid new → DidAll g origin budget core (turns ++ more) first new
  did_both budget core [] more first mid new same rest = subst (λ (m : Machine D). DidAll g origin budget core more m new) same rest
  did_both budget core (t ∷ turns) more first mid new past rest = (past.0, past.1, did_both budget (next core t.0 t.1) turns more past.0 mid new past.2 rest)

  -- no event yet
  pub ran_none : (budget : ℕ) (state : State) (before : List Turn) (wrote : List ℕ → Type 0) (machine : Machine D) → IsChain budget (opened state) before → IsAt g origin machine (leads (opened state) before)
      → (g.keeps origin → (image : Image) → g.images_since machine.store.disk (g.moment machine.store.disk) image → IsImage (g.choices machine.store.disk) image) → wrote []
      → Ran g origin budget state before [] wrote machine machine
  ran_none budget state before wrote machine chain at only text =
      let e = sym (append-nil before) in
      let H = half_of g machine.store.disk in
      let all = accepted_in (opened state) before in
      let core = leads (opened state) before in
      let stands : g.keeps origin → (image : Image) → IsImage (g.choices machine.store.disk) image → StandsForPromised H state (promised_in before) all image =
      λ h image is. now_first H state before core image (promised_is_committed budget state before chain) (at.leaves h image is) in
      record {
        turns = [];
        events_are = refl;
        steps = refl;
        chain = subst (IsChain budget (opened state)) e chain;
        text = text;
        at = subst (λ (ts : List Turn). IsAt g origin machine (leads (opened state) ts)) e at;
        holds = promised_is_committed budget state (before ++ []) (subst (IsChain budget (opened state)) e chain);
        knows = none_is_unknown budget state (before ++ []) (subst (IsChain budget (opened state)) e chain);
        count = refl;
        kept = subst (λ (ts : List Turn). promised_in before ≤ promised_in ts) e (omega arith);
        leaves = λ h. subst (λ (ts : List Turn). LeavesOnly g machine.store.disk machine.store.disk (StandsForPromised H state (promised_in before) (accepted_in (opened state) ts))) e
            (begun g machine.store.disk (StandsForPromised H state (promised_in before) all) (λ image left. stands h image (only h image left)));
        behind = λ h image is. subst (λ (ts : List Turn). StandsForPromised H state (promised_in ts) (accepted_in (opened state) ts) image) e (stands h image is);
      }

  -- one event more
  unfoldable pub ran_more : (budget : ℕ) (state : State) (before : List Turn) (events : List Event) (event : Event) (wrote piece all_wrote : List ℕ → Type 0) (first old new : Machine D)
      → (ran : Ran g origin budget state before events wrote first old)
      → (turned : Turned g origin budget (leads (opened state) (before ++ ran.turns)) event piece old new) → g.sectors new.store.disk ≡ g.sectors old.store.disk
      → ((text more : List ℕ) → wrote text → piece more → all_wrote (text ++ more))
      → Ran g origin budget state before (events ++ event ∷ []) all_wrote first new
  ran_more budget state before events event wrote piece all_wrote first old new ran turned count joins =
      let t : Turn = (event, turned.answer) in
      let past = before ++ ran.turns in
      let e : past ++ t ∷ [] ≡ before ++ (ran.turns ++ t ∷ []) = append_assoc before ran.turns (t ∷ []) in
      let core = leads (opened state) past in
      let H = half_of g first.store.disk in
      let all = accepted_in (opened state) past in
      let more = accepted_by core event turned.answer in
      let chain : IsChain budget (opened state) (past ++ t ∷ []) = chain_push budget (opened state) past t ran.chain turned.may in
      let at : IsAt g origin new (leads (opened state) (past ++ t ∷ [])) = subst (λ (c : Core). IsAt g origin new c) (sym (leads_push (opened state) past t)) turned.at in
      let did : Did g origin budget (leads (leads (opened state) before) ran.turns) t old new =
      subst (λ (c : Core). Did g origin budget c t old new) (leads_append (opened state) before ran.turns) (record { may = turned.may; at = turned.at; count = count; failed = turned.failed; leaves = turned.leaves }) in
      let chain' = subst (IsChain budget (opened state)) e chain in
      let kept = ran.kept in
      let now = promised_push budget state past t ran.chain in
      let same_size : g.sectors new.store.disk ≡ g.sectors first.store.disk = count ∙ ran.count in
      let longer : (image : Image) → StandsForPromised H state (promised_in before) all image → StandsForPromised H state (promised_in before) (accepted_in (opened state) (past ++ t ∷ [])) image =
      λ image stands. subst (λ (x : List Change). StandsForPromised H state (promised_in before) x image) (sym (accepted_push (opened state) past t)) (grown H state (promised_in before) all more image stands) in
      let within : (image : Image) → StandsForFront (half_of g old.store.disk) core.committed (core.pending ++ more) image → StandsForPromised H state (promised_in before) (accepted_in (opened state) (past ++ t ∷ [])) image =
      λ image stands. subst (λ (x : List Change). StandsForPromised H state (promised_in before) x image) (sym (accepted_push (opened state) past t))
      (fewer H state (promised_in before) (promised_in past) (all ++ more) image kept
      (from_first H state past core more image ran.holds (subst (λ (n : ℕ). StandsForFront (half_len_of n) core.committed (core.pending ++ more) image) ran.count stands))) in
      record {
        turns = ran.turns ++ t ∷ [];
        events_are = map-append (λ (t : Turn). t.0) ran.turns (t ∷ []) ∙ ap (λ (es : List Event). es ++ event ∷ []) ran.events_are;
        steps = did_both budget (leads (opened state) before) ran.turns (t ∷ []) first old new ran.steps (new, did, refl);
        chain = chain';
        text = subst all_wrote (flat_map_more (λ (turn : Turn). answer_text turn.1) [] ran.turns t) (joins (run_text ran.turns) (answer_text turned.answer) ran.text turned.text);
        at = subst (λ (ts : List Turn). IsAt g origin new (leads (opened state) ts)) e at;
        holds = promised_is_committed budget state (before ++ (ran.turns ++ t ∷ [])) chain';
        knows = none_is_unknown budget state (before ++ (ran.turns ++ t ∷ [])) chain';
        count = same_size;
        kept = subst (λ (ts : List Turn). promised_in before ≤ promised_in ts) e (omega (arith, kept, now));
        leaves = λ h. subst (λ (ts : List Turn). LeavesOnly g first.store.disk new.store.disk (StandsForPromised H state (promised_in before) (accepted_in (opened state) ts))) e
            (followed g first.store.disk old.store.disk new.store.disk
            (StandsForPromised H state (promised_in before) all) (StandsForFront (half_of g old.store.disk) core.committed (core.pending ++ more)) (StandsForPromised H state (promised_in before) (accepted_in (opened state) (past ++ t ∷ [])))
            (ran.leaves h) (turned.leaves h) longer within);
        behind = λ h image is. subst (λ (ts : List Turn). StandsForPromised H state (promised_in ts) (accepted_in (opened state) ts) image) e
            (now_first H state (past ++ t ∷ []) (leads (opened state) (past ++ t ∷ [])) image (promised_is_committed budget state (past ++ t ∷ []) chain)
            (subst (λ (n : ℕ). StandsForFront (half_len_of n) (leads (opened state) (past ++ t ∷ [])).committed (leads (opened state) (past ++ t ∷ [])).pending image) same_size (at.leaves h image is)));
      }

  -- a run of one event, and which turn it is
  pub one_turn : (budget : ℕ) (state : State) (before : List Turn) (event : Event) (piece : List ℕ → Type 0) (old new : Machine D)
      → IsChain budget (opened state) before → IsAt g origin old (leads (opened state) before)
      → (g.keeps origin → (image : Image) → g.images_since old.store.disk (g.moment old.store.disk) image → IsImage (g.choices old.store.disk) image)
      → (turned : Turned g origin budget (leads (opened state) before) event piece old new) → g.sectors new.store.disk ≡ g.sectors old.store.disk
      → (ran : Ran g origin budget state before (event ∷ []) (λ text. Unit {0}) old new) × (ran.turns ≡ (event, turned.answer) ∷ [])
  unfolding ran_none ran_more
  one_turn budget state before event piece old new chain at only turned count =
      let e = sym (append-nil before) in
      let answer = turned.answer in
      let none = ran_none budget state before (λ text. Unit {0}) old chain at only tt in
      let behind : Turned g origin budget (leads (opened state) (before ++ [])) event piece old new = record {
        answer = answer;
        may = subst (λ (ts : List Turn). May budget (leads (opened state) ts) event answer) e turned.may;
        text = turned.text;
        at = subst (λ (ts : List Turn). IsAt g origin new (next (leads (opened state) ts) event answer)) e turned.at;
        failed = turned.failed;
        leaves = λ h. subst (λ (ts : List Turn). LeavesOnly g old.store.disk new.store.disk (StandsForFront (half_of g old.store.disk) (leads (opened state) ts).committed ((leads (opened state) ts).pending ++ accepted_by (leads (opened state) ts) event answer))) e (turned.leaves h);
      } in
      (ran_more budget state before [] event (λ text. Unit {0}) piece (λ text. Unit {0}) old old new none behind count (λ text more wrote put. tt), refl)

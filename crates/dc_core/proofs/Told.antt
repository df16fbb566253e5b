-- What was answered to the office is kept (the theorem of specs/Told).
use Rattle.std.proofs.Common.{◌≡◌, ◌≤◌, ◌+◌, ◌-◌, ℕ, List, [], ◌∷◌, ◌++◌, length, take, refl, ap, sym, subst, ◌∙◌, arith, append_assoc, length-append}
use Rattle.std.proofs.lemmas.List.{append-nil, take_all}
use Rattle.std.proofs.Math.Seq.{take-append-add}
use Rattle.mbdc_change.specs.State.{State}
use Rattle.mbdc_change.specs.declared.change.Change.{Change}
use Rattle.mbdc_change.specs.History.{after}
use Rattle.mbdc_change.proofs.History.{after_of_append}
use Rattle.dc_core.specs.Core.{Core, opened}
use Rattle.dc_core.specs.Event.{Reply, offices, replied, unread, unstored, repeated, refused, shown, out_of_memory, obeyed, uncommitted}
use Rattle.dc_core.specs.Step.{next, MayReply, after_reply}
use Rattle.dc_core.specs.Transcript.{Turn, leads, IsChain, accepted_by, accepted_in}
use Rattle.dc_core.specs.Promised.{Seen, nothing_seen, and_seen, seen_from, promised_in}
use Rattle.dc_core.specs.Lives.{IsFront}
use Rattle.dc_core.specs.Told.{Tells, ComesFrom, ToldIsKept}
use Rattle.dc_core.proofs.Fronts.{promised_is_committed, accepted_counted}
use Rattle.dc_core.proofs.Going.{leads_push, seen_push, promised_push}

-- ---- a chain in two parts

pub chain_parts : (budget : ℕ) (core : Core) (front back : List Turn) → IsChain budget core (front ++ back) → IsChain budget core front × IsChain budget (leads core front) back
chain_parts budget core [] back chain = (tt, chain)
chain_parts budget core (t ∷ front) back chain = let rest = chain_parts budget (next core t.0 t.1) front back chain.1 in ((chain.0, rest.0), rest.1)

pub accepted_parts : (core : Core) (front back : List Turn) → accepted_in core (front ++ back) ≡ accepted_in core front ++ accepted_in (leads core front) back
accepted_parts core [] back = refl
accepted_parts core (t ∷ front) back =
    ap (λ (x : List Change). accepted_by core t.0 t.1 ++ x) (accepted_parts (next core t.0 t.1) front back)
    ∙ sym (append_assoc (accepted_by core t.0 t.1) (accepted_in (next core t.0 t.1) front) (accepted_in (leads (next core t.0 t.1) front) back))

-- more turns promise no less
pub promised_more : (budget : ℕ) (state : State) (front back : List Turn) → IsChain budget (opened state) (front ++ back) → promised_in front ≤ promised_in (front ++ back)
promised_more budget state front [] chain = subst (λ (ts : List Turn). promised_in front ≤ promised_in ts) (sym (append-nil front)) (omega arith)
promised_more budget state front (t ∷ back) chain =
    let e = append_assoc front (t ∷ []) back in
    let one = promised_push budget state front t (chain_parts budget (opened state) front (t ∷ back) chain).0 in
    let rest = promised_more budget state (front ++ t ∷ []) back (subst (IsChain budget (opened state)) (sym e) chain) in
    let whole = subst (λ (ts : List Turn). promised_in (front ++ t ∷ []) ≤ promised_in ts) e rest in
    omega (arith, one, whole)

-- ---- what is answered is answered from what is committed then

pub tells_now : (budget : ℕ) (core : Core) (text : List ℕ) (reply : Reply) → MayReply budget core text reply → Tells text reply (after_reply core reply).committed
tells_now budget core text unread may = tt
tells_now budget core text (unstored fault) may = tt
tells_now budget core text (repeated number) may = sym may.answer.1
tells_now budget core text (refused code) may = tt
tells_now budget core text (shown bytes) may = (may.line, (may.spells, may.answer.1))
tells_now budget core text out_of_memory may = tt
tells_now budget core text (obeyed number change) may = sym may.answer.1
tells_now budget core text (uncommitted change fault) may = tt

-- where all that was accepted is promised, that is what is committed
pub all_committed : (budget : ℕ) (state : State) (turns : List Turn) → IsChain budget (opened state) turns → promised_in turns ≡ length (accepted_in (opened state) turns)
    → (leads (opened state) turns).committed ≡ after state (accepted_in (opened state) turns)
all_committed budget state turns chain all =
    let holds = promised_is_committed budget state turns chain in
    let within = holds.within in
    let least = holds.promised in
    let count : length (accepted_in (opened state) turns) ≤ holds.count = omega (arith, least, all) in
    holds.committed ∙ ap (after state) (take_all holds.count (accepted_in (opened state) turns) count)

-- a state that is found later comes from it
comes_from : (budget : ℕ) (state : State) (before : List Turn) (text : List ℕ) (reply : Reply) (later : List Turn) (more : List Change) (found : State)
    → ((seen : Seen) → (and_seen (offices text) (replied reply) seen).promised ≡ (and_seen (offices text) (replied reply) seen).accepted)
    → IsChain budget (opened state) (before ++ (offices text, replied reply) ∷ later)
    → IsFront state (promised_in (before ++ (offices text, replied reply) ∷ later)) (accepted_in (opened state) (before ++ (offices text, replied reply) ∷ later) ++ more) found
    → ComesFrom text reply (leads (opened state) (before ++ (offices text, replied reply) ∷ [])).committed (accepted_in (leads (opened state) (before ++ (offices text, replied reply) ∷ [])) later ++ more) found
comes_from budget state before text reply later more found promises chain front =
    let t : Turn = (offices text, replied reply) in
    let now = before ++ t ∷ [] in
    let e : now ++ later ≡ before ++ t ∷ later = append_assoc before (t ∷ []) later in
    let whole = subst (IsChain budget (opened state)) (sym e) chain in
    let past = chain_parts budget (opened state) before (t ∷ later) chain in
    let here = (chain_parts budget (opened state) now later whole).0 in
    let core = leads (opened state) before in
    let done = accepted_in (opened state) now in
    let since = accepted_in (leads (opened state) now) later in
    let behind = since ++ more in
    let seen = seen_push nothing_seen before t in
    let all : promised_in now ≡ length done =
    ap (λ (s : Seen). s.promised) seen ∙ promises (seen_from nothing_seen before) ∙ ap (λ (s : Seen). s.accepted) (sym seen) ∙ accepted_counted budget state now here in
    let told : (leads (opened state) now).committed ≡ after state done = all_committed budget state now here all in
    let tells = tells_now budget core text reply past.1.0 in
    let grown = subst (λ (ts : List Turn). promised_in now ≤ promised_in ts) e (promised_more budget state now later whole) in
    let least = front.all_promised in
    let rest = front.count - length done in
    let sum : front.count ≡ length done + rest = omega (arith, grown, least, all) in
    let every = accepted_in (opened state) (before ++ t ∷ later) ++ more in
    let changes : every ≡ done ++ behind =
    ap (λ (x : List Change). x ++ more) (ap (accepted_in (opened state)) (sym e) ∙ accepted_parts (opened state) now later) ∙ append_assoc done since more in
    let cut : take front.count every ≡ done ++ take rest behind =
    ap (λ (n : ℕ). take n every) sum ∙ ap (take (length done + rest)) changes ∙ take-append-add done behind rest in
    let whole_len = ap length changes ∙ length-append done behind in
    let inside = front.within in
    record {
      tells = subst (Tells text reply) (ap (λ (c : Core). c.committed) (sym (leads_push (opened state) before t))) tells;
      front = record {
        count = rest;
        all_promised = omega arith;
        within = omega (arith, inside, whole_len, sum);
        found_is = front.found_is ∙ ap (after state) cut ∙ after_of_append state done (take rest behind) ∙ ap (λ (s : State). after s (take rest behind)) (sym told);
      };
    }

pub told_is_kept : ToldIsKept
told_is_kept budget state before text unread later more found chain front = tt
told_is_kept budget state before text (unstored fault) later more found chain front = tt
told_is_kept budget state before text (refused code) later more found chain front = tt
told_is_kept budget state before text out_of_memory later more found chain front = tt
told_is_kept budget state before text (uncommitted change fault) later more found chain front = tt
told_is_kept budget state before text (repeated number) later more found chain front = comes_from budget state before text (repeated number) later more found (λ seen. refl) chain front
told_is_kept budget state before text (shown bytes) later more found chain front = comes_from budget state before text (shown bytes) later more found (λ seen. refl) chain front
told_is_kept budget state before text (obeyed number change) later more found chain front = comes_from budget state before text (obeyed number change) later more found (λ seen. refl) chain front

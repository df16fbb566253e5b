-- Stopped at any moment and opened again (the clause `the_headline` of `Concentrator::open`).
use Rattle.std.proofs.Common.{◌≡◌, ⊎_elim, ◌<◌, ◌≤◌, ◌+◌, ◌-◌, ℕ, zero, suc, true, max, Some, Ok, List, [], ◌∷◌, ◌++◌, length, take, drop, get_or, refl, ap, sym, subst, ◌∙◌, arith, append_assoc, get_or-set_same}
use Rattle.std.specs.Prelude.{◌==◌, false, codes, Contains, All}
use Rattle.std.specs.List.{slice_split}
use Rattle.std.proofs.Math.ListN.{set}
use Rattle.std.proofs.Math.Seq.{take-append-add}
use Rattle.std.proofs.lemmas.List.{append-nil, take-append-drop, length-set}
use Rattle.std.proofs.lemmas.List.Elements.{All-contains, Contains-append_cases, Contains-push_cases}
use Rattle.std.proofs.lemmas.Bool.Decides.{nat_tests}
use Rattle.dc_sectors.specs.Disk.{Image, Choices, IsImage, settled}
use Rattle.dc_sectors.specs.Images.{settled_image}
use Rattle.dc_sectors.specs.declared.device.Disk.{Ghosts}
use Rattle.dc_sectors.specs.Runs.{LeavesOnly, IsSettled, WasLeft}
use Rattle.dc_sectors.proofs.Moments.{started as begun, followed}
use Rattle.mbdc_change.specs.State.{State}
use Rattle.mbdc_change.specs.declared.change.Change.{Change}
use Rattle.mbdc_change.specs.History.{after}
use Rattle.mbdc_log.specs.Halves.{half_of, half_len_of}
use Rattle.dc_core.specs.PendingImages.{Reads, Stands, EachStands, StandsForFront, StandsForOne}
use Rattle.mbdc_log.proofs.Once.{reads_once}
use Rattle.dc_meters.specs.Language.{register}
use Rattle.dc_core.specs.Lines.{is_line}
use Rattle.dc_core.specs.declared.line_heard.LineHeard.TheVariants.{Accepted}
use Rattle.dc_core.specs.Core.{Core, opened}
use Rattle.dc_core.specs.Event.{Event, Answer, Reply, starts, asks, hears, commits, offices, asked, heard, committed, replied}
use Rattle.dc_core.specs.Event.{unread, unstored, repeated, refused, shown, out_of_memory, obeyed, uncommitted}
use Rattle.dc_core.specs.Step.{May, next, settled_core}
use Rattle.dc_core.specs.Transcript.{Turn, leads, IsChain, accepted_by, accepted_in}
use Rattle.dc_core.specs.Promised.{Seen, nothing_seen, latest_on, and_seen, seen_from, promised_in}
use Rattle.dc_core.specs.Images.{Machine, IsAt, StandsForPromised}
use Rattle.dc_core.specs.Lives.{IsFront, MayFollow}
use Rattle.dc_core.specs.Told.{Tells, AreTold}
use Rattle.dc_core.specs.Run.{DidAll}
use Rattle.dc_core.specs.Headline.{IsOpened, IsOpening, WasStopped, in_a_run, in_an_opening, accepted, IsPrefix, IsPromised, HasTold, IsKept, HoldsKept}
use Rattle.dc_core.proofs.Fronts.{promised_is_committed, accepted_counted, latest_within, heard_on_line}
use Rattle.dc_core.proofs.Going.{leads_push, chain_push, accepted_push, seen_push, promised_push, grown, fewer, from_first, now_first}
use Rattle.dc_core.proofs.Following.{stands_reads, lives_follow}
use Rattle.dc_core.proofs.Told.{chain_parts, accepted_parts, promised_more, tells_now, all_committed}
use Rattle.dc_upload.proofs.ShownReadings.{AreFlats, IsOwn, shown_own}
use Rattle.dc_core.proofs.Flats.{held_flats}

-- ---- a telegram after which another request was asked

-- writing a number that none exceeds lowers no place
set_ge : (xs : List ℕ) (i v j : ℕ) → get_or xs j 0 ≤ v → get_or xs j 0 ≤ get_or (set xs i v) j 0
set_ge [] i v j within = omega arith
set_ge (x ∷ xs) zero v zero within = within
set_ge (x ∷ xs) zero v (suc j) within = omega arith
set_ge (x ∷ xs) (suc i) v zero within = omega arith
set_ge (x ∷ xs) (suc i) v (suc j) within = set_ge xs i v j within

-- the latest telegram of a line is no earlier one later
still_latest : (event : Event) (answer : Answer) (line : ℕ) (seen : Seen) → latest_on line seen ≤ seen.accepted → latest_on line seen ≤ latest_on line (and_seen event answer seen)
still_latest (hears other moment bytes) (heard (Ok (Accepted part more))) line seen within = set_ge seen.latest (other - 1) (seen.accepted + 1) (line - 1) (omega (arith, within))
still_latest (offices text) (replied unread) line seen within = omega arith
still_latest (offices text) (replied (unstored fault)) line seen within = omega arith
still_latest (offices text) (replied (repeated number)) line seen within = omega arith
still_latest (asks other) (asked (Some request)) line seen within = omega arith
still_latest commits (committed (Ok count)) line seen within = omega arith
still_latest event answer line seen within = omega arith

-- a request promises what was accepted on its line
asked_promises : (budget : ℕ) (state : State) (past behind : List Turn) (line n : ℕ) (request : List ℕ) → IsChain budget (opened state) (past ++ behind) → n ≤ latest_on line (seen_from nothing_seen past)
    → Contains behind (asks line, asked (Some request)) → n ≤ promised_in (past ++ behind)
asked_promises budget state past [] line n request chain there contains = absurd (let low = contains.1 in omega arith)
asked_promises budget state past (t ∷ behind) line n request chain there contains =
    let e : past ++ t ∷ [] ++ behind ≡ past ++ t ∷ behind = append_assoc past (t ∷ []) behind in
    let whole = subst (IsChain budget (opened state)) (sym e) chain in
    let chain_past = (chain_parts budget (opened state) past (t ∷ behind) chain).0 in
    let seen = seen_from nothing_seen past in
    let pushed : seen_from nothing_seen (past ++ t ∷ []) ≡ and_seen t.0 t.1 seen = seen_push nothing_seen past t in
    let result : n ≤ promised_in (past ++ t ∷ [] ++ behind) = ⊎_elim
    (λ (here : Contains (t ∷ []) (asks line, asked (Some request))).
    let is : t ≡ (asks line, asked (Some request)) = ⊎_elim (λ none. absurd (let low = none.1 in omega arith)) (λ same. same) (Contains-push_cases [] t (asks line, asked (Some request)) here) in
    let asks_now : promised_in (past ++ t ∷ []) ≡ max seen.promised (latest_on line seen) = ap (λ (s : Seen). s.promised) pushed ∙ ap (λ (u : Turn). (and_seen u.0 u.1 seen).promised) is in
    let more = promised_more budget state (past ++ t ∷ []) behind whole in
    omega (arith, asks_now, more, there))
    (λ (later : Contains behind (asks line, asked (Some request))).
    let within : latest_on line seen ≤ seen.accepted = latest_within budget state past chain_past (line - 1) in
    let step = still_latest t.0 t.1 line seen within in
    let grown_there : n ≤ latest_on line (seen_from nothing_seen (past ++ t ∷ [])) = subst (λ (s : Seen). n ≤ latest_on line s) (sym pushed) (omega (arith, there, step)) in
    asked_promises budget state (past ++ t ∷ []) behind line n request whole grown_there later)
    (Contains-append_cases (t ∷ []) behind (asks line, asked (Some request)) contains) in
    subst (λ (ts : List Turn). n ≤ promised_in ts) e result

latest_length : (seen : Seen) (turns : List Turn) → length (seen_from seen turns).latest ≡ length seen.latest
latest_length seen [] = refl
latest_length seen (t ∷ turns) = latest_length (and_seen t.0 t.1 seen) turns ∙ one t.0 t.1
  where
    one : (event : Event) (answer : Answer) → length (and_seen event answer seen).latest ≡ length seen.latest
    one (hears line moment bytes) (heard (Ok (Accepted part more))) = length-set seen.latest (line - 1) (seen.accepted + 1)
    one (offices text) (replied unread) = refl
    one (offices text) (replied (unstored fault)) = refl
    one (offices text) (replied (repeated number)) = refl
    one (asks other) (asked (Some request)) = refl
    one commits (committed (Ok count)) = refl
    one event answer = refl

-- a telegram that was accepted is its line's latest
taken_latest : (budget : ℕ) (state : State) (past : List Turn) (line moment part : ℕ) (bytes : List ℕ) (more : _) → IsChain budget (opened state) (past ++ (hears line moment bytes, heard (Ok (Accepted part more))) ∷ [])
    → latest_on line (seen_from nothing_seen (past ++ (hears line moment bytes, heard (Ok (Accepted part more))) ∷ [])) ≡ (seen_from nothing_seen (past ++ (hears line moment bytes, heard (Ok (Accepted part more))) ∷ [])).accepted
taken_latest budget state past line moment part bytes more chain =
    let t : Turn = (hears line moment bytes, heard (Ok (Accepted part more))) in
    let seen = seen_from nothing_seen past in
    let may = (chain_parts budget (opened state) past (t ∷ []) chain).1.0 in
    let is : is_line line ≡ true = heard_on_line budget (leads (opened state) past) line moment bytes (Accepted part more) may in
    let low : line - 1 < 8 = grind (arith, nat_tests) in
    let eight : length seen.latest ≡ 8 = latest_length nothing_seen past in
    let pushed = seen_push nothing_seen past t in
    subst (λ (s : Seen). latest_on line s ≡ s.accepted) (sym pushed) (get_or-set_same seen.latest (line - 1) (seen.accepted + 1) 0 (omega (arith, low, eight)))

-- ---- what is promised lies in what is promised by number

-- where all that was accepted is promised
promises_all : (budget : ℕ) (state : State) (before : List Turn) (event : Event) (answer : Answer) → ((seen : Seen) → (and_seen event answer seen).promised ≡ (and_seen event answer seen).accepted)
    → IsChain budget (opened state) (before ++ (event, answer) ∷ []) → promised_in (before ++ (event, answer) ∷ []) ≡ length (accepted state (before ++ (event, answer) ∷ []))
promises_all budget state before event answer all chain =
    let seen = seen_push nothing_seen before (event, answer) in
    ap (λ (s : Seen). s.promised) seen ∙ all (seen_from nothing_seen before) ∙ ap (λ (s : Seen). s.accepted) (sym seen) ∙ accepted_counted budget state (before ++ (event, answer) ∷ []) chain

promises_behind : (budget : ℕ) (state : State) (before : List Turn) (event : Event) (answer : Answer) (behind : List Turn) → ((seen : Seen) → (and_seen event answer seen).promised ≡ (and_seen event answer seen).accepted)
    → IsChain budget (opened state) (before ++ (event, answer) ∷ [] ++ behind) → IsChain budget (opened state) (before ++ (event, answer) ∷ [])
    → length (accepted state (before ++ (event, answer) ∷ [])) ≤ promised_in (before ++ (event, answer) ∷ [] ++ behind)
promises_behind budget state before event answer behind all whole here =
    let now = promises_all budget state before event answer all here in
    let more = promised_more budget state (before ++ (event, answer) ∷ []) behind whole in
    omega (arith, now, more)

promised_by : (budget : ℕ) (state : State) (before : List Turn) (event : Event) (answer : Answer) (behind : List Turn) → IsChain budget (opened state) (before ++ (event, answer) ∷ [] ++ behind)
    → IsChain budget (opened state) (before ++ (event, answer) ∷ []) → IsPromised event answer behind
    → length (accepted state (before ++ (event, answer) ∷ [])) ≤ promised_in (before ++ (event, answer) ∷ [] ++ behind)
promised_by budget state before (hears line moment bytes) (heard (Ok (Accepted part more))) behind whole here promise =
    let now = before ++ (hears line moment bytes, heard (Ok (Accepted part more))) ∷ [] in
    let latest = taken_latest budget state before line moment part bytes more here in
    let counted = accepted_counted budget state now here in
    asked_promises budget state now behind line (length (accepted state now)) promise.0 whole (omega (arith, latest, counted)) promise.1
promised_by budget state before (offices text) (replied (obeyed number change)) behind whole here promise = promises_behind budget state before (offices text) (replied (obeyed number change)) behind (λ seen. refl) whole here
promised_by budget state before (offices text) (replied (repeated number)) behind whole here promise = promises_behind budget state before (offices text) (replied (repeated number)) behind (λ seen. refl) whole here
promised_by budget state before (offices text) (replied (shown bytes)) behind whole here promise = promises_behind budget state before (offices text) (replied (shown bytes)) behind (λ seen. refl) whole here
promised_by budget state before (offices text) (replied (refused code)) behind whole here promise = promises_behind budget state before (offices text) (replied (refused code)) behind (λ seen. refl) whole here
promised_by budget state before (offices text) (replied out_of_memory) behind whole here promise = promises_behind budget state before (offices text) (replied out_of_memory) behind (λ seen. refl) whole here
promised_by budget state before commits (committed (Ok count)) behind whole here promise = promises_behind budget state before commits (committed (Ok count)) behind (λ seen. refl) whole here
promised_by budget state before event answer behind whole here promise = absurd promise

-- ---- what was answered to the office

told_all : (budget : ℕ) (state : State) (before : List Turn) (text : List ℕ) (reply : Reply)
    → ((seen : Seen) → (and_seen (offices text) (replied reply) seen).promised ≡ (and_seen (offices text) (replied reply) seen).accepted)
    → IsChain budget (opened state) (before ++ (offices text, replied reply) ∷ [])
    → Tells text reply (after state (accepted state (before ++ (offices text, replied reply) ∷ [])))
told_all budget state before text reply all chain =
    let t : Turn = (offices text, replied reply) in
    let now = before ++ t ∷ [] in
    let core = leads (opened state) before in
    let tells = tells_now budget core text reply (chain_parts budget (opened state) before (t ∷ []) chain).1.0 in
    let told = all_committed budget state now chain (promises_all budget state before (offices text) (replied reply) all chain) in
    subst (Tells text reply) (ap (λ (c : Core). c.committed) (sym (leads_push (opened state) before t)) ∙ told) tells

told_by : (budget : ℕ) (state : State) (before : List Turn) (text : List ℕ) (reply : Reply) → IsChain budget (opened state) (before ++ (offices text, replied reply) ∷ [])
    → Tells text reply (after state (accepted state (before ++ (offices text, replied reply) ∷ [])))
told_by budget state before text (repeated number) chain = told_all budget state before text (repeated number) (λ seen. refl) chain
told_by budget state before text (obeyed number change) chain = told_all budget state before text (obeyed number change) (λ seen. refl) chain
told_by budget state before text (shown bytes) chain = told_all budget state before text (shown bytes) (λ seen. refl) chain
told_by budget state before text unread chain = tt
told_by budget state before text (unstored fault) chain = tt
told_by budget state before text (refused code) chain = tt
told_by budget state before text out_of_memory chain = tt
told_by budget state before text (uncommitted change fault) chain = tt

-- the same of each turn of a chain
texts_told : (budget : ℕ) (state : State) (done : List Turn) → IsChain budget (opened state) done → AreTold state done
texts_told budget state done chain before behind text reply is =
    let t : Turn = (offices text, replied reply) in
    let e : before ++ t ∷ [] ++ behind ≡ before ++ t ∷ behind = append_assoc before (t ∷ []) behind in
    told_by budget state before text reply (chain_parts budget (opened state) (before ++ t ∷ []) behind (subst (IsChain budget (opened state)) (is ∙ sym e) chain)).0

-- what was shown of a state whose flats are valid
shown_told : (s : State) (text bytes : List ℕ) → AreFlats s → Tells text (shown bytes) s → HasTold (replied (shown bytes)) s
shown_told s text bytes flats tells words contains =
    let own = shown_own s tells.0 flats in
    All-contains (IsOwn s) (slice_split (λ b. b == 10) bytes) (codes "READING " ++ words)
    (subst (λ (l : List ℕ). All (IsOwn s) (slice_split (λ b. b == 10) l)) (sym tells.1.1) own) contains words refl

-- while something is shown, the concentrator runs
settled_runs : (core : Core) (changes : List Change) → core.stopped ≡ false → (settled_core core changes).stopped ≡ false
settled_runs core [] running = running
settled_runs core (change ∷ changes) running = running

-- where the flats are valid while the concentrator runs
told_turn : (budget : ℕ) (state : State) (before : List Turn) (event : Event) (answer : Answer) → May budget (leads (opened state) before) event answer
    → IsChain budget (opened state) (before ++ (event, answer) ∷ [])
    → ((leads (opened state) (before ++ (event, answer) ∷ [])).stopped ≡ false → AreFlats (leads (opened state) (before ++ (event, answer) ∷ [])).committed)
    → HasTold answer (after state (accepted state (before ++ (event, answer) ∷ [])))
told_turn budget state before (offices text) (replied (repeated number)) may chain flats = told_by budget state before text (repeated number) chain
told_turn budget state before (offices text) (replied (obeyed number change)) may chain flats = told_by budget state before text (obeyed number change) chain
told_turn budget state before (offices text) (replied (shown bytes)) may chain flats =
    let t : Turn = (offices text, replied (shown bytes)) in
    let now = before ++ t ∷ [] in
    let core = leads (opened state) before in
    let runs = ap (λ (c : Core). c.stopped) (leads_push (opened state) before t) ∙ settled_runs core core.pending may.running in
    let all = all_committed budget state now chain (promises_all budget state before (offices text) (replied (shown bytes)) (λ seen. refl) chain) in
    shown_told (after state (accepted state now)) text bytes (subst AreFlats all (flats runs)) (told_by budget state before text (shown bytes) chain)
told_turn budget state before (starts line meter) (replied reply) may chain flats = absurd may
told_turn budget state before (asks line) (replied reply) may chain flats = absurd may
told_turn budget state before (hears line moment bytes) (replied reply) may chain flats = absurd may
told_turn budget state before commits (replied reply) may chain flats = absurd may
told_turn budget state before event answer may chain flats = tt

-- ---- a prefix with all that is promised by number is kept

-- a prefix of a list has each shorter one
longer_prefix : (xs ys : List Change) (count : ℕ) → length xs ≤ count → IsPrefix xs (take count (xs ++ ys))
longer_prefix xs ys count within =
    let rest = count - length xs in
    let sum : count ≡ length xs + rest = omega (arith, within) in
    (take rest ys, ap (λ (n : ℕ). take n (xs ++ ys)) sum ∙ take-append-add xs ys rest)

includes_by : (budget : ℕ) (state : State) (done more before behind : List Turn) (t : Turn) (count : ℕ) → IsChain budget (opened state) done → promised_in done ≤ count
    → done ≡ before ++ t ∷ behind → IsPromised t.0 t.1 behind → IsPrefix (accepted state (before ++ t ∷ [])) (take count (accepted state (done ++ more)))
includes_by budget state done more before behind t count chain all is promise =
    let now = before ++ t ∷ [] in
    let e : before ++ t ∷ [] ++ behind ≡ before ++ t ∷ behind = append_assoc before (t ∷ []) behind in
    let whole = subst (IsChain budget (opened state)) (is ∙ sym e) chain in
    let here = (chain_parts budget (opened state) now behind whole).0 in
    let least = promised_by budget state before t.0 t.1 behind whole here promise in
    let same : promised_in (before ++ t ∷ [] ++ behind) ≡ promised_in done = ap promised_in (e ∙ sym is) in
    let rest = accepted_in (leads (opened state) now) (behind ++ more) in
    let parts : accepted state (done ++ more) ≡ accepted state now ++ rest =
    ap (accepted state) (ap (λ (ts : List Turn). ts ++ more) (is ∙ sym e) ∙ append_assoc now behind more) ∙ accepted_parts (opened state) now (behind ++ more) in
    subst (λ (changes : List Change). IsPrefix (accepted state now) (take count changes)) (sym parts) (longer_prefix (accepted state now) rest count (omega (arith, least, same, all)))

-- what each of these turns reported to the office
abbrev EachTold : State → List Turn → Type 0
EachTold state done = (before behind : List Turn) (turn : Turn) → done ≡ before ++ turn ∷ behind → HasTold turn.1 (after state (accepted state (before ++ turn ∷ [])))

is_kept : (budget : ℕ) (state : State) (done more : List Turn) (held : State) → IsChain budget (opened state) done → EachTold state done → IsFront state (promised_in done) (accepted state (done ++ more)) held → IsKept state done more held
is_kept budget state done more held chain told front =
    let all = accepted state (done ++ more) in
    record {
      prefix = take front.count all;
      held_is = front.found_is;
      is_prefix = (drop front.count all, sym (take-append-drop front.count all));
      includes = λ before behind turn is promise. includes_by budget state done more before behind turn front.count chain front.all_promised is promise;
      told = told;
    }

-- ---- a run, machine to machine

module _ {D : Type 0} (g : Ghosts D) (only : (disk : D) (image : Image) → g.images_since disk (g.moment disk) image → IsImage (g.choices disk) image) where
  does_chain : (origin : D) (budget : ℕ) (core : Core) (turns : List Turn) (old new : Machine D) → DidAll g origin budget core turns old new → IsChain budget core turns
  does_chain origin budget core [] old new did = tt
  does_chain origin budget core (t ∷ turns) old new did = (did.1.may, does_chain origin budget (next core t.0 t.1) turns did.0 new did.2)

  does_at : (origin : D) (budget : ℕ) (core : Core) (turns : List Turn) (old new : Machine D) → IsAt g origin old core → DidAll g origin budget core turns old new
      → IsAt g origin new (leads core turns)
  does_at origin budget core [] old new at did = subst (λ (m : Machine D). IsAt g origin m core) (sym did) at
  does_at origin budget core (t ∷ turns) old new at did = does_at origin budget (next core t.0 t.1) turns did.0 new did.1.at did.2

  -- the first of these turns, and what comes after them
  does_first : (origin : D) (budget : ℕ) (core : Core) (front back : List Turn) (old new : Machine D) → DidAll g origin budget core (front ++ back) old new
      → (mid : Machine D) × DidAll g origin budget core front old mid
  does_first origin budget core [] back old new did = (old, refl)
  does_first origin budget core (t ∷ front) back old new did =
      let rest = does_first origin budget (next core t.0 t.1) front back did.0 new did.2 in
      (rest.0, (did.0, did.1, rest.1))

  -- what is committed then has valid flats
  at_flats : (origin : D) (h : g.keeps origin) (machine : Machine D) (core : Core) → IsAt g origin machine core → core.stopped ≡ false → AreFlats core.committed
  at_flats origin h machine core at running =
      let reads = (at.keeps h running).ready.stands.reads in
      held_flats (half_of g machine.store.disk) machine.store.root (g.reads machine.store.disk) (at.keeps h running).m machine.store.place core.committed reads.holds

  does_told : (origin : D) (h : g.keeps origin) (budget : ℕ) (state : State) (done : List Turn) (first now : Machine D) → IsAt g origin first (opened state) → DidAll g origin budget (opened state) done first now
      → EachTold state done
  does_told origin h budget state done first now at did before behind t is =
      let past = before ++ t ∷ [] in
      let e : past ++ behind ≡ before ++ t ∷ behind = append_assoc before (t ∷ []) behind in
      let here = does_first origin budget (opened state) past behind first now (subst (λ (ts : List Turn). DidAll g origin budget (opened state) ts first now) (is ∙ sym e) did) in
      let chain = does_chain origin budget (opened state) past first here.0 here.1 in
      let at_past = does_at origin budget (opened state) past first here.0 at here.1 in
      let may = (chain_parts budget (opened state) before (t ∷ []) chain).1.0 in
      told_turn budget state before t.0 t.1 may chain (at_flats origin h here.0 (leads (opened state) past) at_past)

  -- what a stop at any moment of it leaves has all that was promised before
  does_leaves : (origin : D) (h : g.keeps origin) (budget : ℕ) (state : State) (done more : List Turn) (now last : Machine D) → IsChain budget (opened state) done → IsAt g origin now (leads (opened state) done)
      → DidAll g origin budget (leads (opened state) done) more now last
      → LeavesOnly g now.store.disk last.store.disk (StandsForPromised (half_of g now.store.disk) state (promised_in done) (accepted state (done ++ more)))
  does_leaves origin h budget state done [] now last chain at did =
      let H = half_of g now.store.disk in
      let P : Image → Type 0 = StandsForPromised H state (promised_in done) (accepted state done) in
      let here : LeavesOnly g now.store.disk now.store.disk P =
      begun g now.store.disk P (λ image left.
      now_first H state done (leads (opened state) done) image (promised_is_committed budget state done chain) (at.leaves h image (only now.store.disk image left))) in
      subst (λ (ts : List Turn). LeavesOnly g now.store.disk last.store.disk (StandsForPromised H state (promised_in done) (accepted state ts))) (sym (append-nil done))
      (subst (λ (m : Machine D). LeavesOnly g now.store.disk m.store.disk P) (sym did) here)
  does_leaves origin h budget state done (t ∷ more) now last chain at did =
      let mid = did.0 in
      let one = did.1 in
      let core = leads (opened state) done in
      let H = half_of g now.store.disk in
      let past = done ++ t ∷ [] in
      let e : past ++ more ≡ done ++ t ∷ more = append_assoc done (t ∷ []) more in
      let here = leads_push (opened state) done t in
      let chain_past = chain_push budget (opened state) done t chain one.may in
      let at_past = subst (λ (c : Core). IsAt g origin mid c) (sym here) one.at in
      let rest = subst (λ (c : Core). DidAll g origin budget c more mid last) (sym here) did.2 in
      let tail = does_leaves origin h budget state past more mid last chain_past at_past rest in
      let all = accepted state (past ++ more) in
      let kept = promised_push budget state done t chain in
      let parts : accepted state done ++ accepted_by core t.0 t.1 ++ accepted_in (leads (opened state) past) more ≡ all =
      ap (λ (x : List Change). x ++ accepted_in (leads (opened state) past) more) (sym (accepted_push (opened state) done t)) ∙ sym (accepted_parts (opened state) past more) in
      let R : Image → Type 0 = StandsForPromised H state (promised_in done) all in
      let leaves : LeavesOnly g now.store.disk last.store.disk R =
      followed g now.store.disk mid.store.disk last.store.disk
      (StandsForFront H core.committed (core.pending ++ accepted_by core t.0 t.1)) (StandsForPromised (half_of g mid.store.disk) state (promised_in past) all) R
      (one.leaves h) tail
      (λ image stands. subst (λ (x : List Change). StandsForPromised H state (promised_in done) x image) parts
      (grown H state (promised_in done) (accepted state done ++ accepted_by core t.0 t.1) (accepted_in (leads (opened state) past) more) image
      (from_first H state done core (accepted_by core t.0 t.1) image (promised_is_committed budget state done chain) stands)))
      (λ image stands. fewer H state (promised_in done) (promised_in past) all image kept
      (subst (λ (n : ℕ). StandsForPromised (half_len_of n) state (promised_in past) all image) one.count stands)) in
      subst (λ (ts : List Turn). LeavesOnly g now.store.disk last.store.disk (StandsForPromised H state (promised_in done) (accepted state ts))) e leaves

  -- What a disk has may be opened, and whatever state it reads as is kept.
  pub record OpensAsKept (state : State) (done more : List Turn) (disk : D) : Type 0 where
    pub is_settled : IsSettled g disk
    pub each : EachStands (half_of g disk) (settled (g.reads disk))
    pub kept : (held : State) → Reads (half_of g disk) held (g.reads disk) → IsKept state done more held
    pub told : AreTold state done

  run_reads : (state : State) (done more : List Turn) (first now last : Machine D) (disk : D) → IsOpened g state first → g.keeps first.store.disk
      → DidAll g first.store.disk first.house.budget (opened state) done first now → DidAll g first.store.disk first.house.budget (leads (opened state) done) more now last → WasLeft g now.store.disk last.store.disk disk → OpensAsKept state done more disk
  run_reads state done more first now last disk opens h did does left =
      let budget = first.house.budget in
      let origin = first.store.disk in
      let chain = does_chain origin budget (opened state) done first now did in
      let at = does_at origin budget (opened state) done first now opens did in
      let leaves = does_leaves origin h budget state done more now last chain at does in
      let follows : MayFollow (half_of g disk) state (promised_in done) (accepted state (done ++ more)) (g.reads disk) =
      subst (λ (n : ℕ). MayFollow (half_len_of n) state (promised_in done) (accepted state (done ++ more)) (g.reads disk)) (sym left.same_size)
      (lives_follow (g.sectors now.store.disk) state (promised_in done) (accepted state (done ++ more)) (g.reads disk) (leaves.each (g.reads disk) left.image)) in
      record {
        is_settled = left.is_settled;
        each = follows.premise;
        kept = λ held reads. is_kept budget state done more held chain (does_told origin h budget state done first now opens did) (follows.found held reads);
        told = texts_told budget state done chain;
      }

  -- an opening leaves what was there
  opening_reads : (state : State) (done more : List Turn) (from to disk : D) → OpensAsKept state done more from → IsOpening g from to → WasLeft g from to disk → OpensAsKept state done more disk
  opening_reads state done more from to disk opens opening left =
      let H = half_of g from in
      let one : StandsForOne H (g.choices from) (g.reads disk) = opening.each (g.reads disk) left.image in
      let was : one.was ≡ g.reads from = settled_image (g.reads from) one.was (subst (λ (c : Choices). IsImage c one.was) opens.is_settled one.was_image) in
      let stood : Stands H one.state (g.reads from) = subst (Stands H one.state) was one.stood in
      let is = opens.kept one.state (stands_reads H one.state (g.reads from) stood) in
      record {
        is_settled = left.is_settled;
        each = λ image it. (one.state, subst (λ (n : ℕ). Stands (half_len_of n) one.state image) (sym left.same_size) (subst (Stands H one.state) (sym (settled_image (g.reads disk) image it)) one.stands));
        kept = λ held reads.
            let same : held ≡ one.state = reads_once register H (omega arith) (g.reads disk) held one.state (subst (λ (n : ℕ). Reads (half_len_of n) held (g.reads disk)) left.same_size reads) (stands_reads H one.state (g.reads disk) one.stands) in
            subst (IsKept state done more) (sym same) is;
        told = opens.told;
      }

  pub stopped_reads : (state : State) (done more : List Turn) {disk : D} → WasStopped g state done more disk → OpensAsKept state done more disk
  stopped_reads state done more (in_a_run first now last disk opens h did does left) = run_reads state done more first now last disk opens h did does left
  stopped_reads state done more (in_an_opening from to disk was opening left) = opening_reads state done more from to disk (stopped_reads state done more was) opening left

  pub image_kept : (state : State) (done more : List Turn) (first now last : Machine D) (image : Image) → IsOpened g state first → g.keeps first.store.disk
      → DidAll g first.store.disk first.house.budget (opened state) done first now → DidAll g first.store.disk first.house.budget (leads (opened state) done) more now last
      → g.images_since last.store.disk (g.moment now.store.disk) image → HoldsKept (half_of g now.store.disk) state done more image
  image_kept state done more first now last image opens h did does left =
      let budget = first.house.budget in
      let origin = first.store.disk in
      let chain = does_chain origin budget (opened state) done first now did in
      let at = does_at origin budget (opened state) done first now opens did in
      let leaves = does_leaves origin h budget state done more now last chain at does in
      let follows = lives_follow (g.sectors now.store.disk) state (promised_in done) (accepted state (done ++ more)) image (leaves.each image left) in
      record {
        premise = follows.premise;
        kept = λ held reads. is_kept budget state done more held chain (does_told origin h budget state done first now opens did) (follows.found held reads);
        told = texts_told budget state done chain;
      }

  pub opening_keeps : (state : State) (done more : List Turn) (from to : D) (image : Image) → HoldsKept (half_of g from) state done more (g.reads from) → IsSettled g from
      → IsOpening g from to → g.images_since to (g.moment from) image → HoldsKept (half_of g from) state done more image
  opening_keeps state done more from to image holds is_settled opening left =
      let H = half_of g from in
      let one : StandsForOne H (g.choices from) image = opening.each image left in
      let was : one.was ≡ g.reads from = settled_image (g.reads from) one.was (subst (λ (c : Choices). IsImage c one.was) is_settled one.was_image) in
      let stood : Stands H one.state (g.reads from) = subst (Stands H one.state) was one.stood in
      let is = holds.kept one.state (stands_reads H one.state (g.reads from) stood) in
      record {
        premise = λ other it. (one.state, subst (Stands H one.state) (sym (settled_image image other it)) one.stands);
        kept = λ held reads.
            let same : held ≡ one.state = reads_once register H (omega arith) image held one.state reads (stands_reads H one.state image one.stands) in
            subst (IsKept state done more) (sym same) is;
        told = holds.told;
      }

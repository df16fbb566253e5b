-- What is under way on a line: copies of the last answer, and answers to the request that is out.
use Rattle.std.proofs.Common.{◌≡◌, ◌⊎◌, inl, inr, ℕ, zero, suc, List, [], ◌∷◌, length, drop, Option, Some, arith, sym, ◌∙◌, ap, subst, Bool, true, false, not, ◌&&◌, ◌==◌, ◌++◌, None, cond, if◌then◌else◌, refl, append_assoc, append-nil}
use Rattle.std.specs.List.{AllByRecursion}
use Rattle.std.specs.Str.{bytes_eq}
use Rattle.std.proofs.lemmas.Bool.{and_parts, eqb-true, false≢true}
use Rattle.std.proofs.lemmas.Slice.Eq.{bytes_eq-Decides}
use Rattle.dc_linkframe.specs.Frame.{FrameSeen}
use Rattle.dc_linkframe.specs.Reading.{frame_of}
use Rattle.mbdc_raw.specs.Heard.{Drains, Ends, IsDrained, IsGathered, ends_early, most_pieces, never_quiet, state_with, has_gap, is_late, is_loud as loud_end, is_quiet, is_silent, is_whole}
use Rattle.mbdc_raw.specs.Line.{behind as reopened, Gives, GivesNothing, GivesOne, GivesOver, GivesUp, Goes, LineSends, LineWaits, Looks, Skips, a_copy, gives_all, gives_nothing, gives_now, gives_one, gives_then, gives_up, goes_out, hold, no_copy, one_answer, out_of, too_loud, two_copies, waiting, waits_all, waits_held, waits_nothing, waits_on, waits_one}
use Rattle.mbdc_raw.specs.Turn.{is_ack, is_answer, is_apart, is_copy, is_reset, kind_of, last_behind, last_waited, may_go, quiet_by, state_by, state_taken, telegram_in, wants_ack}
use Rattle.mbdc_raw.specs.Wire.{AreHeard, Sound, gap, nothing, overdue, piece, pieces, silence}
use Rattle.mbdc_raw.specs.declared.line.Gone.{Gone}
use Rattle.mbdc_raw.specs.declared.line.Gone.TheVariants.{Out, Waits as WaitsOn, Loud}
use Rattle.mbdc_raw.specs.declared.line.Held.{Held}
use Rattle.mbdc_raw.specs.declared.line.Line.{Line}
use Rattle.mbdc_raw.specs.declared.state.Kind.TheVariants.{One, All, Nobody}
use Rattle.mbdc_raw.specs.declared.state.State.{State}
use Rattle.mbdc_raw.specs.declared.state.State.TheVariants.{Quiet, Listened, Answered, Overdue, Busy}
use Rattle.mbdc_raw.specs.declared.wire.Wire.{Ghosts as WireGhosts}
use Rattle.dc_readout.proofs.Moves.{no_frame_of_nothing}
use Rattle.mbdc_theorems.specs.Asked.{Puts, puts_none, puts_one, puts_two, Comes, OnWay, Passes, no_frame, oldest, on_way, Asks, GivesNoStray, IsAlike, IsNew, IsToIt, NoStray, Runs, SkipsNoStray, WaitsNoStray, asks, connects}

abbrev pub Way : Type 0
Way = List (List ℕ)

abbrev pub Each : Option (List ℕ) → Way → Type 0
Each reply way = AllByRecursion (λ (a : List ℕ). reply ≡ Some a) way

-- copies of the last answer, and then answers to the request
pub record Under (last reply : Option (List ℕ)) (way : Way) : Type 0 where
  pub front : Way
  pub back : Way
  pub is : way ≡ front ++ back
  pub copies : Each last front
  pub own : Each reply back

-- ---- what comes or is lost

pub each_drop : (reply : Option (List ℕ)) (k : ℕ) (way : Way) → Each reply way → Each reply (drop k way)
each_drop reply zero way each = each
each_drop reply (suc k) [] each = tt
each_drop reply (suc k) (x ∷ xs) each = each_drop reply k xs each.1

pub drop_none : (k : ℕ) (way : Way) → way ≡ [] → drop k way ≡ []
drop_none zero way is = is
drop_none (suc k) way is = ap (drop (suc k)) is

parts_drop : (last reply : Option (List ℕ)) (k : ℕ) (front back : Way) → Each last front → Each reply back → Under last reply (drop k (front ++ back))
parts_drop last reply zero front back copies own = record { front = front; back = back; is = refl; copies = copies; own = own }
parts_drop last reply (suc k) [] back copies own = record { front = []; back = drop (suc k) back; is = refl; copies = tt; own = each_drop reply (suc k) back own }
parts_drop last reply (suc k) (x ∷ front) back copies own = parts_drop last reply k front back copies.1 own

pub under_drop : (last reply : Option (List ℕ)) (k : ℕ) (way : Way) → Under last reply way → Under last reply (drop k way)
under_drop last reply k way under = subst (λ (w : Way). Under last reply (drop k w)) (sym under.is) (parts_drop last reply k under.front under.back under.copies under.own)

-- ---- what a request puts on the way

each_append : (reply : Option (List ℕ)) (xs ys : Way) → Each reply xs → Each reply ys → Each reply (xs ++ ys)
each_append reply [] ys first second = second
each_append reply (x ∷ xs) ys first second = (first.0, each_append reply xs ys first.1 second)

under_more : (last reply : Option (List ℕ)) (old more new : Way) → Under last reply old → Each reply more → new ≡ old ++ more → Under last reply new
under_more last reply old more new under each same = record {
  front = under.front;
  back = under.back ++ more;
  is = same ∙ ap (λ (w : Way). w ++ more) under.is ∙ append_assoc under.front under.back more;
  copies = under.copies;
  own = each_append reply under.back more under.own each;
}

pub puts_more : (last reply : Option (List ℕ)) (old new : Way) → Under last reply old → Puts reply old new → Under last reply new
puts_more last reply old new under (puts_none same) = subst (Under last reply) (sym same) under
puts_more last reply old new under (puts_one answer is same) = under_more last reply old (answer ∷ []) new under (is, tt) same
puts_more last reply old new under (puts_two answer is same) = under_more last reply old (answer ∷ answer ∷ []) new under (is, (is, tt)) same

pub under_copies : (last reply : Option (List ℕ)) (way : Way) → Each last way → Under last reply way
under_copies last reply way copies = record { front = way; back = []; is = sym (append-nil way); copies = copies; own = tt }

pub under_own : (last reply : Option (List ℕ)) (way : Way) → Each reply way → Under last reply way
under_own last reply way own = record { front = []; back = way; is = refl; copies = tt; own = own }

-- where nothing was due nothing is under way, so that all is due to the repeat
alike_each : (due reply : Option (List ℕ)) (way : Way) → (due ≡ None) ⊎ (reply ≡ due) → Each due way → Each reply way
alike_each due reply [] alike each = tt
alike_each due reply (x ∷ xs) (inl none) each = absurd (let bad : None ≡ Some x = sym none ∙ each.0 in cc)
alike_each due reply (x ∷ xs) (inr same) each = (same ∙ each.0, alike_each due reply xs (inr same) each.1)

pub under_alike : (last due reply : Option (List ℕ)) (way : Way) → (due ≡ None) ⊎ (reply ≡ due) → Under last due way → Under last reply way
under_alike last due reply way alike under = record {
  front = under.front;
  back = under.back;
  is = under.is;
  copies = under.copies;
  own = alike_each due reply under.back alike under.own;
}

-- ---- what is taken as an answer

-- it was a copy of the last answer, and what is left is as before; or it answers the request, and copies of it are left
abbrev pub TakenOf : Option (List ℕ) → Option (List ℕ) → List ℕ → Way → Type 0
TakenOf last reply answer left = ((last ≡ Some answer) × Under last reply left) ⊎ ((reply ≡ Some answer) × Each reply left)

taken_of : (last reply : Option (List ℕ)) (answer : List ℕ) (left front back : Way) → answer ∷ left ≡ front ++ back → Each last front → Each reply back → TakenOf last reply answer left
taken_of last reply answer left [] back is copies own =
    let each : Each reply (answer ∷ left) = subst (Each reply) (sym is) own in inr (each.0, each.1)
taken_of last reply answer left (x ∷ front) back is copies own =
    let head : x ≡ answer = cc in
    let tail : left ≡ front ++ back = cc in
    inl (copies.0 ∙ ap Some head, record { front = front; back = back; is = tail; copies = copies.1; own = own })

pub taken : (last reply : Option (List ℕ)) (answer : List ℕ) (lost : ℕ) (way left : Way) → Under last reply way → drop lost way ≡ answer ∷ left → TakenOf last reply answer left
taken last reply answer lost way left under is =
    let u = subst (Under last reply) is (under_drop last reply lost way under) in
    taken_of last reply answer left u.front u.back u.is u.copies u.own

-- A request goes out only where nothing but copies of the last answer is under way, or as an early repeat answers to
-- the request that it repeats: by what each step of a line keeps.

-- ---- the last answer

copy_of_last : (last : Option (List ℕ)) (answer : List ℕ) → is_copy last answer ≡ true → last ≡ Some answer
copy_of_last None answer is = absurd (false≢true is)
copy_of_last (Some last) answer is = ap Some ((bytes_eq-Decides last answer).0 is)

last_is_copy : (last : Option (List ℕ)) (answer : List ℕ) → last ≡ Some answer → is_copy last answer ≡ true
last_is_copy last answer is = ap (λ (l : Option (List ℕ)). is_copy l answer) is ∙ (bytes_eq-Decides answer answer).1 refl

no_frame_no_answer : (request : Option FrameSeen) (answer : List ℕ) → frame_of answer ≡ None → is_answer request (frame_of answer) ≡ false
no_frame_no_answer request answer none = ap (is_answer request) none

-- the last answer was a frame
abbrev Framed : Option (List ℕ) → Type 0
Framed last = (answer : List ℕ) → last ≡ Some answer → frame_of answer ≡ None → ⊥

empty_is : (bytes : List ℕ) → (length bytes == 0) ≡ true → bytes ≡ []
empty_is [] is = refl
empty_is (b ∷ bs) is = absurd (let none = eqb-true (length (b ∷ bs)) 0 is in omega (arith, none))

-- ---- between requests

-- Nothing is under way on a quiet line, and but for copies of the last answer nothing on one that is answered. While an
-- answer is overdue, answers to its request are, too; it may matter only where the next request is the same.
record Standing (same : Type 0) (due : Option (List ℕ)) (state : State) (last : Option (List ℕ)) (way : Way) : Type 0 where
  quiet : state ≡ Quiet → way ≡ []
  answered : state ≡ Answered → Each last way
  early : state ≡ Overdue → same → Under last due way

module _ {same : Type 0} {due : Option (List ℕ)} where
  busy_stands : (last : Option (List ℕ)) (way : Way) → Standing same due Busy last way
  busy_stands last way = record { quiet = λ e. absurd cc; answered = λ e. absurd cc; early = λ e. absurd cc }

  state_stands : (state : State) (last : Option (List ℕ)) (way : Way) → state ≡ Busy → Standing same due state last way
  state_stands state last way is = subst (λ (s : State). Standing same due s last way) (sym is) (busy_stands last way)

  quiet_stands : (last : Option (List ℕ)) (way : Way) → way ≡ [] → Standing same due Quiet last way
  quiet_stands last way none = record { quiet = λ e. none; answered = λ e. absurd cc; early = λ e. absurd cc }

  -- where the answered request is repeated its answer is forgotten, once the line is quiet
  waited_stands : (repeats : Bool) (before after : State) (last : Option (List ℕ)) (way : Way) → Standing same due after last way → Standing same due after (last_waited repeats before after last) way
  waited_stands false before after last way stands = stands
  waited_stands true Quiet after last way stands = stands
  waited_stands true Listened after last way stands = stands
  waited_stands true Answered Quiet last way stands = quiet_stands None way (stands.quiet refl)
  waited_stands true Answered Listened last way stands = stands
  waited_stands true Answered Answered last way stands = stands
  waited_stands true Answered Overdue last way stands = stands
  waited_stands true Answered Busy last way stands = stands
  waited_stands true Overdue after last way stands = stands
  waited_stands true Busy after last way stands = stands

  stands_on : (sound : Sound) (state : State) (last : Option (List ℕ)) (old new : Way) → Passes sound old new → Standing same due state last old → Standing same due state last new
  stands_on sound state last old new passes stands = record {
    quiet = λ e. passes.in_order ∙ drop_none passes.gone old (stands.quiet e);
    answered = λ e. subst (Each last) (sym passes.in_order) (each_drop last passes.gone old (stands.answered e));
    early = λ e so. subst (Under last due) (sym passes.in_order) (under_drop last due passes.gone old (stands.early e so));
  }

  sounded : (sound : Sound) (state : State) (last : Option (List ℕ)) (old new : Way) → Passes sound old new → Standing same due state last old → Standing same due (state_by sound state) last new
  sounded (piece bytes) state last old new passes stands = busy_stands last new
  sounded nothing state last old new passes stands = stands_on nothing state last old new passes stands
  sounded gap state last old new passes stands = stands_on gap state last old new passes stands
  sounded overdue state last old new passes stands = stands_on overdue state last old new passes stands
  sounded silence state last old new passes stands = quiet_stands last new (passes.in_order ∙ drop_none passes.gone old (passes.patience refl))

waited_framed : (repeats : Bool) (before after : State) (last : Option (List ℕ)) → Framed last → Framed (last_waited repeats before after last)
waited_framed false before after last framed = framed
waited_framed true Quiet after last framed = framed
waited_framed true Listened after last framed = framed
waited_framed true Answered Quiet last framed = λ answer is. absurd cc
waited_framed true Answered Listened last framed = framed
waited_framed true Answered Answered last framed = framed
waited_framed true Answered Overdue last framed = framed
waited_framed true Answered Busy last framed = framed
waited_framed true Overdue after last framed = framed
waited_framed true Busy after last framed = framed

-- a line on which bytes come without end is busy
busy_on : (bursts : List (List ℕ)) → state_with (pieces bursts ++ []) Busy ≡ Busy
busy_on [] = refl
busy_on (burst ∷ bursts) = busy_on bursts

loud_busy : (bursts : List (List ℕ)) (state : State) → length bursts ≡ most_pieces → state_with (pieces bursts ++ []) state ≡ Busy
loud_busy [] state many = absurd (omega (arith, many))
loud_busy (burst ∷ bursts) state many = busy_on bursts

module _ {W : Type 0} (wire : WireGhosts W) (reply : Option (List ℕ)) where
  abbrev On : Type 0
  On = OnWay W

  abbrev g : WireGhosts On
  g = on_way wire reply

  -- ---- what comes on the wire

  stood : (same : Type 0) (last : Option (List ℕ)) (sounds : List Sound) (old new : On) (state : State) → AreHeard g.hears old sounds new → Standing same reply state last old.way → Standing same reply (state_with sounds state) last new.way
  stood same last [] old new state is stands = subst (λ (on : On). Standing same reply state last on.way) (sym is) stands
  stood same last (sound ∷ more) old new state heard stands = stood same last more heard.0 new (state_by sound state) heard.2 (sounded sound state last old.way heard.0.way heard.1.1 stands)

  under_heard : (last : Option (List ℕ)) (sounds : List Sound) (old new : On) → AreHeard g.hears old sounds new → Under last reply old.way → Under last reply new.way
  under_heard last [] old new same under = subst (λ (on : On). Under last reply on.way) (sym same) under
  under_heard last (sound ∷ more) old new heard under =
      let passes : Passes sound old.way heard.0.way = heard.1.1 in
      under_heard last more heard.0 new heard.2 (subst (Under last reply) (sym passes.in_order) (under_drop last reply passes.gone old.way under))

  silenced : (sounds : List Sound) (old new : On) → AreHeard g.hears old (sounds ++ silence ∷ []) new → new.way ≡ []
  silenced [] old new heard =
      let passes : Passes silence old.way heard.0.way = heard.1.1 in
      ap (λ (on : On). on.way) heard.2 ∙ passes.in_order ∙ drop_none passes.gone old.way (passes.patience refl)
  silenced (sound ∷ more) old new heard = silenced more heard.0 new heard.2

  ends_silent : (old new : On) (bursts : List (List ℕ)) (end : List Sound) → Ends [] end → ends_early end ≡ false → AreHeard g.hears old (pieces bursts ++ end) new → new.way ≡ []
  ends_silent old new bursts _ (is_whole over) early heard = absurd cc
  ends_silent old new bursts _ (is_silent lasts) early heard = silenced (pieces bursts) old new heard
  ends_silent old new bursts _ (has_gap lasts some) early heard = absurd (omega (arith, some))
  ends_silent old new bursts _ (is_late none) early heard = absurd (false≢true (sym early))

  -- ---- a line between requests, and one whose request is out

  record OrderlyFor (same : Type 0) (line : Line On) : Type 0 where
    standing : Standing same reply line.state line.last line.wire.way
    framed : Framed line.last

  abbrev Orderly : Line On → Type 0
  Orderly = OrderlyFor (Unit {0})

  record IsOut (line : Line On) : Type 0 where
    none : line.held ≡ None
    busy : line.state ≡ Busy
    under : line.kind ≡ One → Under line.last reply line.wire.way
    framed : Framed line.last
    kind : (line.kind ≡ All) → ⊥

  record IsHeld (line : Line On) : Type 0 where
    held : Held
    is : line.held ≡ Some held
    one : held.many ≡ false
    orderly : OrderlyFor (line.hearing.request ≡ held.request) line

  abbrev Within : Line On → Type 0
  Within line = IsHeld line ⊎ IsOut line

  -- ---- a request

  no_window : (frame : Option FrameSeen) (many : Bool) → many ≡ false → kind_of frame many ≡ All → ⊥
  no_window frame many one is = go (is_reset frame) refl
    where
      go : (b : Bool) → is_reset frame ≡ b → ⊥
      go true e = let bad : Nobody ≡ All = sym (ap (λ (b : Bool). cond b Nobody (cond many All One)) e) ∙ is in absurd cc
      go false e = let bad : One ≡ All = sym (ap (λ (b : Bool). cond b Nobody (cond many All One)) e ∙ ap (λ (b : Bool). cond b All One) one) ∙ is in absurd cc

  -- what comes after the reset that goes out on a busy line is dropped
  no_one : (empty resets : Bool) (many : Bool) → (empty && resets) ≡ true → cond resets Nobody (cond many All One) ≡ One → ⊥
  no_one true true many may is = let bad : Nobody ≡ One = is in absurd cc
  no_one true false many may is = false≢true may
  no_one false resets many may is = false≢true may

  behind : (state : State) (repeats : ℕ) (last : Option (List ℕ)) (old new : Way) (before request : List ℕ) (many : Bool) → many ≡ false → may_go state repeats before request many ≡ true
      → Standing (before ≡ request) reply state last old → Puts reply old new → kind_of (frame_of request) many ≡ One → Under (last_behind state last) reply new
  behind Quiet repeats last old new before request many one may stands puts kind =
      puts_more (telegram_in last) reply old new (under_own (telegram_in last) reply old (subst (Each reply) (sym (stands.quiet refl)) tt)) puts
  behind Listened repeats last old new before request many one may stands puts kind = absurd (false≢true (sym one ∙ (and_parts many (is_apart repeats request) may).0))
  behind Answered repeats last old new before request many one may stands puts kind = puts_more last reply old new (under_copies last reply old (stands.answered refl)) puts
  behind Overdue repeats last old new before request many one may stands puts kind =
      let so = (and_parts (not many) (bytes_eq before request && wants_ack (frame_of request)) may).1 in
      let same : before ≡ request = (bytes_eq-Decides before request).0 (and_parts (bytes_eq before request) (wants_ack (frame_of request)) so).0 in
      puts_more last reply old new (stands.early refl same) puts
  behind Busy repeats last old new before request many one may stands puts kind = absurd (no_one (length before == 0) (is_reset (frame_of request)) many may kind)

  framed_telegram : (answer : List ℕ) (ack : Bool) → Framed (Some answer) → Framed (if ack then None else Some answer)
  framed_telegram answer true framed = λ other is. absurd cc
  framed_telegram answer false framed = framed

  framed_behind : (state : State) (last : Option (List ℕ)) → Framed last → Framed (last_behind state last)
  framed_behind Quiet None framed = framed
  framed_behind Quiet (Some answer) framed = framed_telegram answer (is_ack (frame_of answer)) framed
  framed_behind Listened last framed = λ answer is. absurd cc
  framed_behind Answered last framed = framed
  framed_behind Overdue last framed = framed
  framed_behind Busy last framed = framed

  drained : (same : Type 0) (request : List ℕ) (old : Line On) (loud : Bool) (between : On) (state : State) (late : ℕ) → OrderlyFor same old → Drains g.hears old.wire old.state old.late loud between state late
      → OrderlyFor same (waiting request between state late old)
  drained same request old loud between state late orderly drains = record {
    standing = waited_stands (bytes_eq old.hearing.request request) old.state state old.last between.way (subst (λ (s : State). Standing same reply s old.last between.way) (sym drains.moved) (stood same old.last (pieces drains.bursts ++ drains.end) old.wire between old.state drains.gave orderly.standing));
    framed = waited_framed (bytes_eq old.hearing.request request) old.state state old.last orderly.framed;
  }

  gone_out : (request : List ℕ) (many : Bool) (line : Line On) (on : On) → many ≡ false → OrderlyFor (line.hearing.request ≡ request) line → may_go line.state line.repeats line.hearing.request request many ≡ true → Puts reply line.wire.way on.way
      → IsOut (out_of request many line on)
  gone_out request many line on one orderly may puts = record {
    none = refl;
    busy = refl;
    under = behind line.state line.repeats line.last line.wire.way on.way line.hearing.request request many one may orderly.standing puts;
    framed = framed_behind line.state line.last orderly.framed;
    kind = no_window (frame_of request) many one;
  }

  -- one look leaves the request held, or out
  module _ (request : List ℕ) (many : Bool) (one : many ≡ false) (old new : Line On) (is_held : old.held ≡ Some (record { request = request; many = many })) (orderly : OrderlyFor (old.hearing.request ≡ request) old) where
    went : (gone : Gone) (line : Line On) → line.held ≡ old.held → OrderlyFor (line.hearing.request ≡ request) line → Goes g request many line gone new → Within new
    went Out line same is (goes_out on may sends same_new) = inr (subst IsOut (sym same_new) (gone_out request many line on one is may sends.1))
    went WaitsOn line same is (waits_on may same_new) = inl (subst IsHeld (sym same_new) (record { held = record { request = request; many = many }; is = same ∙ is_held; one = one; orderly = is }))
    went Loud line same is (too_loud same_new) = inl (subst IsHeld (sym same_new) (record { held = record { request = request; many = many }; is = same ∙ is_held; one = one; orderly = is }))

    looked : (gone : Gone) → Looks g request many old gone new → Within new
    looked gone looks = went gone (waiting request looks.between looks.state looks.late old) refl (drained (old.hearing.request ≡ request) request old _ looks.between looks.state looks.late orderly looks.drains) looks.goes

    loud : Looks g request many old Loud new → Orderly new
    loud looks = go looks.goes
      where
        line : Line On
        line = waiting request looks.between looks.state looks.late old

        busy : (end : List Sound) → IsDrained looks.drains.bursts true end → state_with (pieces looks.drains.bursts ++ end) old.state ≡ Busy
        busy _ (never_quiet most) = loud_busy looks.drains.bursts old.state most

        go : Goes g request many line Loud new → Orderly new
        go (too_loud same) = subst Orderly (sym same) (record {
          standing = state_stands line.state line.last line.wire.way (looks.drains.moved ∙ busy looks.drains.end looks.drains.ends);
          framed = waited_framed (bytes_eq old.hearing.request request) old.state looks.state old.last orderly.framed;
        })

  -- ---- the answer of one meter

  skips_kind : (old new : Line On) → Skips g old new → new.kind ≡ old.kind
  skips_kind old new (no_copy same) = ap (λ (l : Line On). l.kind) same
  skips_kind old new (a_copy copy answers copied same) = ap (λ (l : Line On). l.kind) same

  skipped : (old new : Line On) → IsOut old → old.kind ≡ One → (skips : Skips g old new) → SkipsNoStray skips → IsOut new
  skipped old new is one (no_copy same) so = subst IsOut (sym same) is
  skipped old new is one (a_copy copy answers copied same) comes =
      let was : old.last ≡ Some copy = copy_of_last old.last copy copied in
      let last : new.last ≡ old.last = ap (λ (l : Line On). l.last) same in
      record {
        none = ap (λ (l : Line On). l.held) same ∙ is.none;
        busy = ap (λ (l : Line On). l.state) same ∙ is.busy;
        under = λ kind. subst (λ (l : Option (List ℕ)). Under l reply new.wire.way) (sym last) (own comes was);
        framed = subst Framed (sym last) is.framed;
        kind = λ e. is.kind (sym (ap (λ (l : Line On). l.kind) same) ∙ e);
      }
    where
      by : TakenOf old.last reply copy new.wire.way → Under old.last reply new.wire.way
      by (inl t) = t.1
      by (inr t) = under_own old.last reply new.wire.way t.1

      own : Comes copy old.wire.way new.wire.way → old.last ≡ Some copy → Under old.last reply new.wire.way
      own (no_frame none) was = absurd (is.framed copy was none)
      own (oldest lost left) was = by (taken old.last reply copy lost old.wire.way new.wire.way (is.under one) left)

  module _ (old : Line On) (answer : List ℕ) (new : Line On) (is : IsOut old) (one : old.kind ≡ One) (gives : GivesOne g old answer new) (skips_so : SkipsNoStray gives.skips) (comes : Comes answer gives.between.wire.way new.wire.way) where
    abbrev mid : Line On
    mid = gives.between

    abbrev request : Option FrameSeen
    request = frame_of new.hearing.request

    out : IsOut mid
    out = skipped old mid is one gives.skips skips_so

    mid_one : mid.kind ≡ One
    mid_one = skips_kind old mid gives.skips ∙ one

    not_copy : mid.last ≡ Some answer → ⊥
    not_copy last = false≢true (sym gives.plain ∙ last_is_copy mid.last answer last)

    -- what was taken is the answer to the request, and copies of it are left
    replied : TakenOf mid.last reply answer new.wire.way → (reply ≡ Some answer) × Each reply new.wire.way
    replied (inl t) = absurd (not_copy t.0)
    replied (inr t) = t

    took : (lost : ℕ) → drop lost mid.wire.way ≡ answer ∷ new.wire.way → (reply ≡ Some answer) × Each reply new.wire.way
    took lost left = replied (taken mid.last reply answer lost mid.wire.way new.wire.way (out.under mid_one) left)

    one_to_it : Comes answer mid.wire.way new.wire.way → IsToIt reply answer
    one_to_it (no_frame none) = inl none
    one_to_it (oldest lost left) = inr (took lost left).0

    quiet_then : (length answer == 0) ≡ true → ends_early gives.heard.end ≡ false → new.wire.way ≡ []
    quiet_then short early = by (empty_is answer short)
      where
        by : answer ≡ [] → new.wire.way ≡ []
        by none = ends_silent mid.wire new.wire gives.heard.bursts gives.heard.end (subst (λ (a : List ℕ). Ends a gives.heard.end) none gives.heard.ends) early gives.heard.gave

    -- nothing was taken: what was under way may still be
    early_then : Under mid.last reply new.wire.way
    early_then = under_heard mid.last (pieces gives.heard.bursts ++ gives.heard.end) mid.wire new.wire gives.heard.gave (out.under mid_one)

    no_answer : (length answer == 0) ≡ true → is_answer request (frame_of answer) ≡ true → ⊥
    no_answer short answered =
        false≢true (sym (no_frame_no_answer request answer (ap frame_of (empty_is answer short) ∙ no_frame_of_nothing)) ∙ answered)

    copies_then : Comes answer mid.wire.way new.wire.way → is_answer request (frame_of answer) ≡ true → Each (Some answer) new.wire.way
    copies_then (no_frame none) answered = absurd (false≢true (sym (no_frame_no_answer request answer none) ∙ answered))
    copies_then (oldest lost left) answered = let t = took lost left in subst (λ (r : Option (List ℕ)). Each r new.wire.way) t.0 t.1

    stands_then : (early short answered copied : Bool) → ends_early gives.heard.end ≡ early → (length answer == 0) ≡ short → is_answer request (frame_of answer) ≡ answered
        → Standing (Unit {0}) reply (state_taken early short answered copied) (if answered then Some answer else mid.last) new.wire.way
    stands_then early true true copied early_is short_is answered_is = absurd (no_answer short_is answered_is)
    stands_then true true false copied early_is short_is answered_is = record { quiet = λ e. absurd cc; answered = λ e. absurd cc; early = λ e so. early_then }
    stands_then false true false copied early_is short_is answered_is = quiet_stands _ new.wire.way (quiet_then short_is early_is)
    stands_then early false true true early_is short_is answered_is = busy_stands _ new.wire.way
    stands_then early false true false early_is short_is answered_is = record { quiet = λ e. absurd cc; answered = λ e. copies_then comes answered_is; early = λ e. absurd cc }
    stands_then early false false copied early_is short_is answered_is = busy_stands _ new.wire.way

    framed_then : (answered copied : Bool) → is_answer request (frame_of answer) ≡ answered → Framed (if answered then Some answer else mid.last)
    framed_then true copied answered_is = λ last e none.
        let same : answer ≡ last = cc in
        false≢true (sym (no_frame_no_answer request answer (ap frame_of same ∙ none)) ∙ answered_is)
    framed_then false copied answered_is = out.framed

    one_orderly : Orderly new
    one_orderly = subst Orderly (sym gives.kept) (record {
      standing = stands_then (ends_early gives.heard.end) (length answer == 0) (is_answer request (frame_of answer)) mid.copied refl refl refl;
      framed = framed_then (is_answer request (frame_of answer)) mid.copied refl;
    })

  -- ---- copies alone

  skips_state : (old new : Line On) → Skips g old new → new.state ≡ old.state
  skips_state old new (no_copy same) = ap (λ (l : Line On). l.state) same
  skips_state old new (a_copy copy answers copied same) = ap (λ (l : Line On). l.state) same

  skips_last : (old new : Line On) → Skips g old new → new.last ≡ old.last
  skips_last old new (no_copy same) = ap (λ (l : Line On). l.last) same
  skips_last old new (a_copy copy answers copied same) = ap (λ (l : Line On). l.last) same

  given_up_orderly : (old new : Line On) → IsOut old → GivesUp g old new → Orderly new
  given_up_orderly old new is gives = record {
    standing = state_stands new.state new.last new.wire.way (ap (λ (l : Line On). l.state) gives.kept ∙ skips_state old gives.between gives.skips ∙ is.busy);
    framed = subst Framed (sym (ap (λ (l : Line On). l.last) gives.kept ∙ skips_last old gives.between gives.skips)) is.framed;
  }

  -- ---- the reset of all selected meters

  reset_orderly : (old new : Line On) → IsOut old → GivesNothing g old new → Orderly new
  reset_orderly old new is gives = subst Orderly (sym gives.kept) (record {
    standing = go gives.quiet gives.gathers.end gives.gathers.ends gives.gathers.gave;
    framed = is.framed;
  })
    where
      go : (quiet : Bool) (end : List Sound) → IsGathered gives.gathers.bursts (Some quiet) end → AreHeard g.hears old.wire (pieces gives.gathers.bursts ++ end) new.wire
          → Standing (Unit {0}) reply (quiet_by quiet Answered old.state) old.last new.wire.way
      go _ _ is_quiet heard = record {
        quiet = λ e. absurd cc;
        answered = λ e. subst (Each old.last) (sym (silenced (pieces gives.gathers.bursts) old.wire new.wire heard)) tt;
        early = λ e. absurd cc;
      }
      go _ _ (loud_end many) heard = state_stands old.state old.last new.wire.way is.busy

  -- ---- one call

  still_out : (old new : Line On) → IsOut old → (old.kind ≡ One → Under old.last reply new.wire.way) → new.held ≡ old.held → new.state ≡ old.state → new.last ≡ old.last → new.kind ≡ old.kind → IsOut new
  still_out old new is under held state last kind = record {
    none = held ∙ is.none;
    busy = state ∙ is.busy;
    under = λ one. subst (λ (l : Option (List ℕ)). Under l reply new.wire.way) (sym last) (under (sym kind ∙ one));
    framed = subst Framed (sym last) is.framed;
    kind = λ e. is.kind (sym kind ∙ e);
  }

  same_held : (held given : Held) → Some held ≡ Some given → held ≡ given
  same_held held given is = cc

  not_out : (old : Line On) (held : Held) → IsOut old → old.held ≡ Some held → ⊥
  not_out old held is some = let bad : None ≡ Some held = sym is.none ∙ some in absurd cc

  not_held : (old : Line On) → IsHeld old → old.held ≡ None → ⊥
  not_held old is none = let bad : None ≡ Some is.held = sym none ∙ is.is in absurd cc

  the_held : (old : Line On) (held : Held) → IsHeld old → old.held ≡ Some held → held.many ≡ false
  the_held old held is some = sym (ap (λ (h : Held). h.many) (same_held is.held held (sym is.is ∙ some))) ∙ is.one

  held_orderly : (old : Line On) (held : Held) → (is : IsHeld old) → old.held ≡ Some held → OrderlyFor (old.hearing.request ≡ held.request) old
  held_orderly old held is some = subst (λ (h : Held). OrderlyFor (old.hearing.request ≡ h.request) old) (same_held is.held held (sym is.is ∙ some)) is.orderly

  waited : (old new : Line On) → Within old → (waits : LineWaits g old new) → WaitsNoStray waits → Within new
  waited old new (inl is) (waits_held held gone runs some quiet looks) so = looked held.request held.many (the_held old held is some) old new some (held_orderly old held is some) gone looks
  waited old new (inr is) (waits_held held gone runs some quiet looks) so = absurd (not_out old held is some)
  waited old new (inl is) (waits_one runs none one waits) so = absurd (not_held old is none)
  waited old new (inr is) (waits_one runs none one waits) so =
      let mid : Line On = waits.between in
      let out : IsOut mid = skipped old mid is one waits.skips so in
      inr (still_out mid new out
      (λ kind. under_heard mid.last (pieces waits.waits.bursts ++ waits.waits.last ∷ []) mid.wire new.wire waits.waits.gave (out.under kind))
      (ap (λ (l : Line On). l.held) waits.kept) (ap (λ (l : Line On). l.state) waits.kept) (ap (λ (l : Line On). l.last) waits.kept) (ap (λ (l : Line On). l.kind) waits.kept))
  waited old new (inl is) (waits_all runs none all waits) so = absurd (not_held old is none)
  waited old new (inr is) (waits_all runs none all waits) so = absurd (is.kind all)
  waited old new (inl is) (waits_nothing runs none nobody waits) so = absurd (not_held old is none)
  waited old new (inr is) (waits_nothing runs none nobody waits) so =
      inr (still_out old new is
      (λ kind. under_heard old.last (pieces waits.gathers.bursts ++ waits.gathers.end) old.wire new.wire waits.gathers.gave (is.under kind))
      (ap (λ (l : Line On). l.held) waits.kept) (ap (λ (l : Line On). l.state) waits.kept) (ap (λ (l : Line On). l.last) waits.kept) (ap (λ (l : Line On). l.kind) waits.kept))

  waits_run : (old new : Line On) → (waits : LineWaits g old new) → old.lost ≡ false
  waits_run old new (waits_held held gone runs some quiet looks) = runs
  waits_run old new (waits_one runs none one waits) = runs
  waits_run old new (waits_all runs none all waits) = runs
  waits_run old new (waits_nothing runs none nobody waits) = runs

  -- the line is orderly again, and what it gave answers the request
  record Ended (answer : List ℕ) (new : Line On) : Type 0 where
    orderly : new.lost ≡ false → Orderly new
    to_it : IsToIt reply answer

  silent_ended : (answer : List ℕ) (new : Line On) → answer ≡ [] → (new.lost ≡ false → Orderly new) → Ended answer new
  silent_ended answer new none orderly = record { orderly = orderly; to_it = inl (ap frame_of none ∙ no_frame_of_nothing) }

  gave : (old new : Line On) (answer : List ℕ) → Within old → (gives : Gives g old answer new) → GivesNoStray gives → Ended answer new
  gave old new answer (inl is) (gives_up held line some none looks same) so =
      silent_ended answer new none (λ runs. subst Orderly (sym same) (given_up (loud held.request held.many (the_held old held is some) old line some (held_orderly old held is some) looks)))
    where
      given_up : Orderly line → Orderly (record line { held = None })
      given_up orderly = record { standing = orderly.standing; framed = orderly.framed }
  gave old new answer (inr is) (gives_up held line some none looks same) so = absurd (not_out old held is some)
  gave old new answer (inl is) (gives_one none one gives) so = absurd (not_held old is none)
  gave old new answer (inr is) (gives_one none one (two_copies silent gives)) so = silent_ended answer new silent (λ runs. given_up_orderly old new is gives)
  gave old new answer (inr is) (gives_one none one (one_answer gives)) so = record {
    orderly = λ runs. one_orderly old answer new is one gives so.0 so.1;
    to_it = one_to_it old answer new is one gives so.0 so.1 so.1;
  }
  gave old new answer (inl is) (gives_all none all gives) so = absurd (not_held old is none)
  gave old new answer (inr is) (gives_all none all gives) so = absurd (is.kind all)
  gave old new answer (inl is) (gives_nothing none nobody silent gives) so = absurd (not_held old is none)
  gave old new answer (inr is) (gives_nothing none nobody silent gives) so = silent_ended answer new silent (λ runs. reset_orderly old new is gives)

  -- ---- from the request to the answer

  over : (old new : Line On) (answer : List ℕ) → Within old → (given : GivesOver g old answer new) → NoStray given → Ended answer new
  over old new answer within (gives_now gives) so = go new.lost refl
    where
      go : (lost : Bool) → new.lost ≡ lost → Ended answer new
      go true lost = silent_ended answer new (gives.silence lost) (λ runs. absurd (false≢true (sym runs ∙ lost)))
      go false runs = gave old new answer within (gives.given runs) (so runs)
  over old new answer within (gives_then {between = between} waits more) so = over between new answer (waited old between within waits so.0) more so.1

  lost_over : (old new : Line On) (answer : List ℕ) → old.lost ≡ true → GivesOver g old answer new → Ended answer new
  lost_over old new answer lost (gives_now gives) =
      let still : new.lost ≡ true = ap (λ (l : Line On). l.lost) (gives.loss.untouched lost) ∙ lost in
      silent_ended answer new (gives.silence still) (λ runs. absurd (false≢true (sym runs ∙ still)))
  lost_over old new answer lost (gives_then {between = between} waits more) = absurd (false≢true (sym (waits_run old between waits) ∙ lost))

  reopened_orderly : (same : Type 0) (again : Bool) (link : On) (old : Line On) → g.reopens old.wire again link → OrderlyFor same old → OrderlyFor same (reopened again link old)
  reopened_orderly same true link old opened is = record { standing = busy_stands old.last link.way; framed = is.framed }
  reopened_orderly same false link old opened is = record {
    standing = subst (λ (way : Way). Standing same reply old.state old.last way) (sym opened.1) is.standing;
    framed = is.framed;
  }

  sent : (old out : Line On) (request : List ℕ) → (old.lost ≡ false → OrderlyFor (old.hearing.request ≡ request) old) → LineSends g false old request out → out.lost ≡ false → Within out
  sent old out request orderly sends runs = go old.lost refl
    where
      held : (line : Line On) → OrderlyFor (line.hearing.request ≡ request) line → OrderlyFor (line.hearing.request ≡ request) (hold request false line)
      held line is = record { standing = is.standing; framed = is.framed }

      go : (lost : Bool) → old.lost ≡ lost → Within out
      go true lost = absurd (false≢true (sym runs ∙ ap (λ (l : Line On). l.lost) (sends.loss.untouched lost) ∙ lost))
      go false was =
          let s = sends.sent runs in
          let line : Line On = reopened s.0 s.1 old in
          looked request false refl (hold request false line) out refl (held line (reopened_orderly (old.hearing.request ≡ request) s.0 s.1 old s.2 (orderly was))) s.3 s.4

  ended : (old out new : Line On) (request answer : List ℕ) → (old.lost ≡ false → OrderlyFor (old.hearing.request ≡ request) old) → LineSends g false old request out → (given : GivesOver g out answer new) → NoStray given → Ended answer new
  ended old out new request answer orderly sends given so = go out.lost refl
    where
      go : (lost : Bool) → out.lost ≡ lost → Ended answer new
      go true lost = lost_over out new answer lost given
      go false runs = over out new answer (sent old out request orderly sends runs) given so

-- ---- a run

module _ {W : Type 0} (wire : WireGhosts W) where
  new_orderly : (line : Line (OnWay W)) → IsNew line → Orderly wire None line
  new_orderly line is = record {
    standing = state_stands line.state line.last line.wire.way is.busy;
    framed = λ answer e. absurd (let bad : None ≡ Some answer = sym is.last ∙ e in cc);
  }

  -- what was due to the last request is due to its early repeat
  next : (old : Line (OnWay W)) (asked : List ℕ) (due reply : Option (List ℕ)) → IsAlike old asked due reply → Orderly wire due old → OrderlyFor wire reply (old.hearing.request ≡ asked) old
  next old asked due reply alike is = record {
    standing = record {
      quiet = is.standing.quiet;
      answered = is.standing.answered;
      early = λ e same. under_alike old.last due reply old.wire.way (alike e same) (is.standing.early e tt);
    };
    framed = is.framed;
  }

  runs_orderly : (line : Line (OnWay W)) (due : Option (List ℕ)) → Runs wire line due → line.lost ≡ false → Orderly wire due line
  runs_orderly line _ (connects is) runs = new_orderly line is
  runs_orderly new _ (asks {old = old} {request = request} {answer = answer} {reply = reply} {due = due} before alike a) runs =
      (ended wire reply old a.out new request answer (λ was. next old request due reply alike (runs_orderly old due before was)) a.sent a.given a.no_stray).orderly runs

  pub answers_it : (old new : Line (OnWay W)) (request answer : List ℕ) (reply due : Option (List ℕ)) → Runs wire old due → IsAlike old request due reply → Asks wire request reply old answer new → IsToIt reply answer
  answers_it old new request answer reply due before alike a =
      (ended wire reply old a.out new request answer (λ was. next old request due reply alike (runs_orderly old due before was)) a.sent a.given a.no_stray).to_it

-- In a regular world only the session's meter replies: so what is received as sent is its reply, or
-- silence.
use Rattle.std.proofs.Common.{◌≡◌, ℕ, zero, suc, ◌+◌, ◌≤◌, ◌⊎◌, inl, inr, Bool, true, false, List, [], ◌∷◌, Option, Some, None, cond, arith, refl, sym, ◌∙◌, ap, subst}
use Rattle.std.specs.Prelude.{slice_get}
use Rattle.std.specs.List.{cons_option}
use Rattle.dc_linkframe.specs.Control.{selected, reset_to}
use Rattle.dc_linkframe.specs.Frame.{FrameSeen, ack}
use Rattle.dc_address.specs.declared.identity.Identity.{Identity}
use Rattle.dc_address.specs.Mask.{mask_of, matches}
use Rattle.dc_readout.specs.declared.stage.Stage.{Stage}
use Rattle.dc_readout.specs.declared.stage.Stage.TheVariants.{Resets, Selects, Requests, Pending, Ended}
use Rattle.dc_readout.specs.Summary.{link_address, reset_of, selection_of, request_of, asked_at, asked_by}
use Rattle.dc_readout.proofs.Requests.{selection_is_long}
use Rattle.dc_readout.specs.Meter.{Meter, Position, hears_at, is_own, moved_by, answer_to}
use Rattle.dc_readout.specs.declared.world.event.Outcome.TheVariants.{AsSent}
use Rattle.dc_readout.specs.World.{World, Running, all_moved, replies, only_reply, heard_in, AreRegular}
use Rattle.dc_readout.specs.Reply.{bytes_of}
use Rattle.dc_readout.specs.InStep.{HasGoneOn, HasNotGoneOn, IsInStep, IsAlone, Agrees}
use Rattle.dc_readout.proofs.Masks.{masks_are_read}
use Rattle.dc_readout.proofs.Moves.{moved_at, answer_to-request}
use Rattle.dc_readout.proofs.Exchanges.{own_is, not_group, hears_only, alone_at, stays}

-- ---- one that may reply among those that don't

abbrev Silent : FrameSeen → List Meter → List Position → Type 0
Silent frame ms ps = (j : ℕ) (x : Meter) (q : Position) → slice_get ms j ≡ Some x → slice_get ps j ≡ Some q → answer_to frame x q ≡ None

none_reply : (frame : FrameSeen) (ms : List Meter) (ps : List Position) → Silent frame ms ps → replies frame ms ps ≡ []
none_reply frame [] ps silent = refl
none_reply frame (x ∷ ms) [] silent = refl
none_reply frame (x ∷ ms) (q ∷ ps) silent =
    rw (silent zero x q refl refl) (none_reply frame ms ps (λ j. silent (suc j)))

one_replies : (frame : FrameSeen) (ms : List Meter) (ps : List Position) (i : ℕ) (m : Meter) (p : Position) → slice_get ms i ≡ Some m → slice_get ps i ≡ Some p
    → ((j : ℕ) (x : Meter) (q : Position) → slice_get ms j ≡ Some x → slice_get ps j ≡ Some q → (j ≡ i → ⊥) → answer_to frame x q ≡ None)
    → replies frame ms ps ≡ cons_option (answer_to frame m p) []
one_replies frame [] ps i m p at stands others = absurd cc
one_replies frame (x ∷ ms) [] i m p at stands others = absurd cc
one_replies frame (x ∷ ms) (q ∷ ps) zero m p at stands others =
    let c : x ≡ m = cc in
    let d : q ≡ p = cc in
    let rest = none_reply frame ms ps (λ j y r a b. others (suc j) y r a b (λ e. omega arith)) in
    ap (cons_option (answer_to frame x q)) rest ∙ ap (λ y. cons_option (answer_to frame y q) []) c ∙ ap (λ r. cons_option (answer_to frame m r) []) d
one_replies frame (x ∷ ms) (q ∷ ps) (suc i) m p at stands others =
    rw (others zero x q refl refl (λ e. omega arith))
    (one_replies frame ms ps i m p at stands (λ j y r a b not. others (suc j) y r a b (λ e. not (omega arith))))

-- ---- the others are silent

silent_when : (b : Bool) (o : Option FrameSeen) → (b ≡ true → ⊥) → cond b o None ≡ None
silent_when true o never = absurd (never refl)
silent_when false o never = refl

pub answer_to-reset : (address : ℕ) (m : Meter) (p : Position) → answer_to (reset_to address) m p ≡ cond (is_own m.address address) (Some ack) None
unfolding answer_to
answer_to-reset address m p = refl

pub answer_to-selection : (identity : Identity) (m : Meter) (p : Position) → answer_to (selection_of identity) m p ≡ cond (matches (mask_of identity) m.identity) (Some ack) None
unfolding answer_to
answer_to-selection identity m p =
    ap (λ f. answer_to f m p) (selection_is_long identity) ∙ ap (λ b. cond b (Some ack) None) (masks_are_read identity m.identity)

others_silent : (meters : List Meter) (regular : AreRegular meters) (stage : Stage) (identity : Identity) (address : Option ℕ) (n i j : ℕ) (frame : FrameSeen) (one x : Meter) (q : Position) (moved : List Position)
    → identity ≡ one.identity → asked_at stage identity address n ≡ Some frame → slice_get meters i ≡ Some one → one.address ≡ address → IsAlone stage address i moved
    → slice_get meters j ≡ Some x → slice_get moved j ≡ Some q → (j ≡ i → ⊥) → answer_to frame x q ≡ None
others_silent meters regular Resets identity None n i j frame one x q moved who asks at whom alone at' stands not =
    let same : reset_of None ≡ frame = cc in
    ap (λ f. answer_to f x q) (sym same) ∙ answer_to-reset selected x q
    ∙ silent_when _ (Some ack) (λ own. not_group meters regular j selected x at' (own_is x.address selected own) refl)
others_silent meters regular Resets identity (Some a) n i j frame one x q moved who asks at whom alone at' stands not =
    let same : reset_of (Some a) ≡ frame = cc in
    ap (λ f. answer_to f x q) (sym same) ∙ answer_to-reset a x q
    ∙ silent_when _ (Some ack) (λ own. not (regular.addresses j i a x one at' at (own_is x.address a own) whom))
others_silent meters regular Selects identity address n i j frame one x q moved who asks at whom alone at' stands not =
    let same : selection_of identity ≡ frame = cc in
    ap (λ f. answer_to f x q) (sym same) ∙ answer_to-selection identity x q
    ∙ silent_when _ (Some ack) (λ is. not (sym (regular.apart i j one x at at' (ap (λ d. matches (mask_of d) x.identity) (sym who) ∙ is))))
others_silent meters regular Requests identity address n i j frame one x q moved who asks at whom alone at' stands not =
    let same : request_of address n ≡ frame = cc in
    ap (λ f. answer_to f x q) (sym same) ∙ answer_to-request n (link_address address) x q
    ∙ silent_when _ _ (λ hears. not (hears_only meters regular address i j one x q at whom at' (alone_at address i moved alone j q stands) hears))
others_silent meters regular (Pending more) identity address n i j frame one x q moved who asks at whom alone at' stands not = absurd cc
others_silent meters regular Ended identity address n i j frame one x q moved who asks at whom alone at' stands not = absurd cc

one_is : (o : Option FrameSeen) → only_reply (cons_option o []) ≡ bytes_of o
one_is None = refl
one_is (Some reply) = refl

pub heard_as_sent : (meters : List Meter) (regular : AreRegular meters) (w : World) (r : Running) (frame : FrameSeen) (one : Meter) (p : Position)
    → Agrees meters w r → asked_by r.session ≡ Some frame → slice_get meters r.meter ≡ Some one → slice_get w.positions r.meter ≡ Some p
    → heard_in AsSent frame meters w.positions ≡ bytes_of (answer_to frame one (moved_by frame one p))
heard_as_sent meters regular w r frame one p a asks at stands =
    let after = stays AsSent meters r.session.stage r.session.meter r.session.address r.session.settled r.meter frame a.meter a.position w.positions asks a.stands.0 (sym a.whom.1) a.stands.1 a.step a.alone in
    let b = a.stands.0 in
    let same : a.meter ≡ one = cc in
    let moved : List Position = all_moved frame meters w.positions in
    ap only_reply (one_replies frame meters moved r.meter one (moved_by frame one p) at (moved_at frame meters w.positions r.meter one p at stands)
    (λ j x q at' stands' not. others_silent meters regular r.session.stage r.session.meter r.session.address r.session.settled r.meter j frame a.meter x q moved
    a.whom.0 asks a.stands.0 (sym a.whom.1) after.alone at' stands' not))
    ∙ one_is (answer_to frame one (moved_by frame one p))

-- ---- places are small

in_step_place : (n : ℕ) (p : Position) → HasNotGoneOn n p ⊎ HasGoneOn n p → p.place ≤ n + 1
in_step_place n p (inl not_yet) = let e = not_yet.0 in omega arith
in_step_place n p (inr gone) = let e = gone.0 in omega arith

-- a meter that takes the request is at most one past the session's count
pub heard_place : (meters : List Meter) (regular : AreRegular meters) (w : World) (r : Running) (j : ℕ) (x : Meter) (q : Position) → Agrees meters w r → r.session.stage ≡ Requests
    → slice_get meters j ≡ Some x → slice_get w.positions j ≡ Some q → hears_at x.address (link_address r.session.address) q ≡ true → q.place ≤ r.session.settled + 1
heard_place meters regular w r j x q a is at stands hears =
    let alone = subst (λ s. IsAlone s r.session.address r.meter w.positions) is a.alone in
    let own : j ≡ r.meter = hears_only meters regular r.session.address r.meter j a.meter x q a.stands.0 (sym a.whom.1) at (alone_at r.session.address r.meter w.positions alone j q stands) hears in
    let there : slice_get w.positions r.meter ≡ Some q = ap (slice_get w.positions) (sym own) ∙ stands in
    let c = a.stands.1 in
    let same : a.position ≡ q = cc in
    in_step_place r.session.settled q (subst (λ y. IsInStep Requests r.session.settled y) same (subst (λ s. IsInStep s r.session.settled a.position) is a.step))

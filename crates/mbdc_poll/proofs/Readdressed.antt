-- Where no meter is read by its address, all goes out as it is; and how one is read by it.
use Rattle.std.proofs.Common.{◌≡◌, ◌≢◌, ℕ, Bool, true, false, List, [], ◌∷◌, map, refl, sym, subst, ◌∙◌, ap, if◌then◌else◌}
use Rattle.std.specs.Prelude.{Option, None, Some, bytes_eq}
use Rattle.std.specs.Bool.{⊤}
use Rattle.std.specs.List.{find}
use Rattle.std.proofs.lemmas.Bool.{false_from_ne_true}
use Rattle.std.proofs.lemmas.Slice.Eq.{bytes_eq-Decides}
use Rattle.dc_address.proofs.Masks.{mask_wire-mask_of}
use Rattle.dc_address.specs.Identity.{wire_of}
use Rattle.dc_address.specs.Mask.{mask_of, mask_wire}
use Rattle.dc_address.specs.declared.identity.Identity.{Identity}
use Rattle.dc_core.specs.declared.line_heard.LineHeard.{LineHeard}
use Rattle.dc_linkframe.proofs.Spellings.{frame_of-spelling}
use Rattle.dc_linkframe.specs.Control.{request_to, reset_to, selected, selection_by}
use Rattle.dc_linkframe.specs.Frame.{FrameSeen, spelling}
use Rattle.dc_linkframe.specs.Reading.{frame_of}
use Rattle.dc_readout.proofs.Requests.{selection_is_long}
use Rattle.dc_readout.specs.Summary.{selection_of}
use Rattle.dc_records.specs.Telegram.{Parsed}
use Rattle.mbdc_poll.proofs.Through.{Passes, lets_through}
use Rattle.mbdc_poll.specs.Addressing.{AllAreSelected, AreSelected, Asks, Hears, IsFrom, IsReadByAddress, ReaddressesNothing, Recorded, address_for, addressing, asked_in, first_request, noted, noted_by, sender_in, sent_as}
use Rattle.mbdc_poll.specs.Bus.{Bus}
use Rattle.mbdc_poll.specs.Confirming.{telegram_in}
use Rattle.mbdc_poll.specs.Filtered.{goes_out, of_bus}
use Rattle.mbdc_poll.specs.Recounting.{acknowledged, begins_readout}
use Rattle.mbdc_poll.specs.Sparing.{first_question}
use Rattle.mbdc_poll.specs.Talking.{rests, sends_it, takes_it, hears_it}
use Rattle.mbdc_poll.specs.declared.addressing.Addressed.{Addressed}
use Rattle.mbdc_poll.specs.declared.addressing.Addressing.{Addressing}
use Rattle.mbdc_poll.specs.declared.filtered.Filtered.{Filtered}

-- ---- where all are selected

neither : (b : Bool) {x y : Option ℕ} → x ≡ None → y ≡ None → (if b then x else y) ≡ None
neither true e f = e
neither false e f = f

one_of : (b : Bool) (meter : Addressed) (found : Option Addressed) → meter.asked ≡ None → asked_in found ≡ None → asked_in (if b then Some meter else found) ≡ None
one_of true meter found e f = e
one_of false meter found e f = f

none_for : (request : List ℕ) (meters : List Addressed) → AreSelected meters → address_for request meters ≡ None
none_for request [] all = refl
none_for request (meter ∷ others) all =
    one_of (bytes_eq (first_question meter.meter None) request) meter (find (λ it. bytes_eq (first_question it.meter None) request) others) all.0 (none_for request others all.1)

same_asked : (b : Bool) (address : ℕ) (it : Addressed) → it.asked ≡ None → (if b then record it { known = Some address } else it).asked ≡ None
same_asked true address it e = e
same_asked false address it e = e

still_selected : (meter : List ℕ) (address : ℕ) (meters : List Addressed) → AreSelected meters → AreSelected (map (noted_by meter address) meters)
still_selected meter address [] all = tt
still_selected meter address (it ∷ others) all =
    (same_asked (bytes_eq (wire_of it.meter) meter) address it all.0, still_selected meter address others all.1)

noted_selected : (sent : Option Parsed) (sender : Option ℕ) (meters : List Addressed) → AreSelected meters → AreSelected (noted sent sender meters)
noted_selected None sender meters all = all
noted_selected (Some telegram) None meters all = all
noted_selected (Some telegram) (Some address) meters all = still_selected (wire_of telegram.header.identity) address meters all

passes : Passes addressing AllAreSelected (λ a given. ⊤)
passes = record {
  asks = λ old request out new all asks.
      let none : new.address ≡ None = asks.address ∙ neither (begins_readout (frame_of request)) (none_for request old.selected.now all.meters) all.readout in (
        asks.goes_out ∙ ap (λ (address : Option ℕ). Some (sent_as address request (frame_of request))) none,
        record { meters = subst AreSelected (sym asks.meters) all.meters; readout = none },
      );
  hears = λ old given answer new all free heard. (
    heard.same,
    record {
      meters = subst AreSelected (sym heard.meters) (noted_selected (telegram_in (frame_of given)) (sender_in (frame_of given)) old.selected.now all.meters);
      readout = heard.address ∙ all.readout;
    },
  );
}

pub readdresses_nothing : {B : Type 0} (g : Bus B) → ReaddressesNothing g
readdresses_nothing g = lets_through g addressing AllAreSelected (λ a given. ⊤) passes

-- ---- selections

same_bytes : (bytes : List ℕ) → bytes_eq bytes bytes ≡ true
same_bytes bytes = (bytes_eq-Decides bytes bytes).1 refl

other_bytes : (bytes others : List ℕ) → bytes ≢ others → bytes_eq bytes others ≡ false
other_bytes bytes others apart = false_from_ne_true (bytes_eq bytes others) (λ e. apart ((bytes_eq-Decides bytes others).0 e))

same_mask : (one other : List ℕ) → selection_by one ≡ selection_by other → one ≡ other
same_mask one other e = cc

selections_differ : (one other : Identity) → wire_of one ≢ wire_of other → first_question one None ≢ first_question other None
selections_differ one other apart e =
    let same_frame : Some (selection_of one) ≡ Some (selection_of other) =
    sym (frame_of-spelling (selection_of one)) ∙ ap frame_of e ∙ frame_of-spelling (selection_of other) in
    let same : selection_of one ≡ selection_of other = cc in
    apart (sym (mask_wire-mask_of one) ∙ same_mask (mask_wire (mask_of one)) (mask_wire (mask_of other)) (sym (selection_is_long one) ∙ same ∙ selection_is_long other)
    ∙ mask_wire-mask_of other)

-- ---- what goes out in place of a frame

abbrev AsksBy : Option FrameSeen → Addressing → List ℕ → List ℕ → Addressing → Type 0
AsksBy frame old request out new =
    (new.selected.now ≡ old.selected.now)
    × (new.address ≡ (if begins_readout frame then address_for request old.selected.now else old.address))
    × (Some out ≡ Some (sent_as new.address request frame))

asks_by : (frame : FrameSeen) (old : Addressing) (out : List ℕ) (new : Addressing) → AsksBy (Some frame) old (spelling frame) out new → Asks old (spelling frame) (Some out) new
asks_by frame old out new by =
    let so = subst (λ (f : Option FrameSeen). AsksBy f old (spelling frame) out new) (sym (frame_of-spelling frame)) by in
    record { meters = so.0; address = so.1; goes_out = so.2 }

-- ---- one is read by its address

module _ (one other : Identity) (asked known known_other : ℕ) (first second : List ℕ) (answer : LineHeard) (apart : wire_of one ≢ wire_of other)
    (from_one : IsFrom one known first) (from_other : IsFrom other known_other second) where
  abbrev by_address : Option ℕ → Addressed
  by_address its = record { meter = one; known = its; asked = Some asked }

  abbrev selected_only : Option ℕ → Addressed
  selected_only its = record { meter = other; known = its; asked = None }

  abbrev both : Option ℕ → Option ℕ → List Addressed
  both its others = by_address its ∷ selected_only others ∷ []

  abbrev filter : List Addressed → Option ℕ → Addressing
  filter meters address = record { selected = record { ref_ptr = (0, 0); ghost_name = 0; now = meters }; address = address }

  abbrev on : List (List ℕ) → List (List ℕ) → List Addressed → Option ℕ → Filtered Recorded Addressing
  on sent given meters address = record { bus = record { sent = sent; given = given }; filter = filter meters address; withholds = false }

  for_one : (its others : Option ℕ) → address_for (first_question one None) (both its others) ≡ Some asked
  for_one its others =
      ap (λ (b : Bool). asked_in (if b then Some (by_address its) else find (λ it. bytes_eq (first_question it.meter None) (first_question one None)) (selected_only others ∷ []))) (same_bytes (first_question one None))

  for_other : (its others : Option ℕ) → address_for (first_question other None) (both its others) ≡ None
  for_other its others =
      ap (λ (b : Bool). asked_in (if b then Some (by_address its) else find (λ it. bytes_eq (first_question it.meter None) (first_question other None)) (selected_only others ∷ [])))
      (other_bytes (first_question one None) (first_question other None) (selections_differ one other apart))
      ∙ one_of (bytes_eq (first_question other None) (first_question other None)) (selected_only others) None refl refl

  asks_one : Asks (filter (both None None) None) (first_question one None) (Some (spelling (reset_to asked))) (filter (both None None) (Some asked))
  unfolding selection_of
  asks_one = asks_by (selection_of one) (filter (both None None) None) (spelling (reset_to asked)) (filter (both None None) (Some asked)) (refl, sym (for_one None None), refl)

  requests_one : Asks (filter (both None None) (Some asked)) (first_request selected) (Some (first_request asked)) (filter (both None None) (Some asked))
  requests_one = asks_by (request_to true selected) (filter (both None None) (Some asked)) (first_request asked) (filter (both None None) (Some asked)) (refl, refl, refl)

  asks_other : Asks (filter (both (Some known) None) (Some asked)) (first_question other None) (Some (first_question other None)) (filter (both (Some known) None) None)
  unfolding selection_of
  asks_other = asks_by (selection_of other) (filter (both (Some known) None) (Some asked)) (first_question other None) (filter (both (Some known) None) None) (refl, sym (for_other (Some known) None), refl)

  requests_other : Asks (filter (both (Some known) None) None) (first_request selected) (Some (first_request selected)) (filter (both (Some known) None) None)
  requests_other = asks_by (request_to true selected) (filter (both (Some known) None) None) (first_request selected) (filter (both (Some known) None) None) (refl, refl, refl)

  hears_ack : (meters : List Addressed) (address : Option ℕ) → Hears (filter meters address) acknowledged acknowledged (filter meters address)
  unfolding frame_of
  hears_ack meters address = record { same = refl; address = refl; meters = refl }

  -- what is noted of a telegram of a meter with an address
  hears_from : (meter : Identity) (address : ℕ) (telegram : List ℕ) (at : Option ℕ) (old new : List Addressed) → IsFrom meter address telegram → new ≡ map (noted_by (wire_of meter) address) old
      → Hears (filter old at) telegram telegram (filter new at)
  hears_from meter address telegram at old new is_from by =
      let of_meter : new ≡ map (noted_by (wire_of is_from.sent.header.identity) address) old = subst (λ (m : Identity). new ≡ map (noted_by (wire_of m) address) old) (sym is_from.is_its) by in
      let in_frame : new ≡ noted (telegram_in (frame_of telegram)) (Some address) old = subst (λ (t : Option Parsed). new ≡ noted t (Some address) old) (sym is_from.in_frame) of_meter in
      record { same = refl; address = refl; meters = subst (λ (s : Option ℕ). new ≡ noted (telegram_in (frame_of telegram)) s old) (sym is_from.sender) in_frame }

  notes : (b c : Bool) → b ≡ true → c ≡ false → both (Some known) None
      ≡ (if b then by_address (Some known) else by_address None) ∷ (if c then selected_only (Some known) else selected_only None) ∷ []
  notes true false e f = refl
  notes false c e f = absurd cc
  notes true true e f = absurd cc

  notes_other : (b c : Bool) → b ≡ false → c ≡ true → both (Some known) (Some known_other)
      ≡ (if b then by_address (Some known_other) else by_address (Some known)) ∷ (if c then selected_only (Some known_other) else selected_only None) ∷ []
  notes_other false true e f = refl
  notes_other true c e f = absurd cc
  notes_other false false e f = absurd cc

  hears_one : Hears (filter (both None None) (Some asked)) first first (filter (both (Some known) None) (Some asked))
  hears_one = hears_from one known first (Some asked) (both None None) (both (Some known) None) from_one
      (notes (bytes_eq (wire_of one) (wire_of one)) (bytes_eq (wire_of other) (wire_of one)) (same_bytes (wire_of one)) (other_bytes (wire_of other) (wire_of one) (λ e. apart (sym e))))

  hears_other : Hears (filter (both (Some known) None) None) second second (filter (both (Some known) (Some known_other)) None)
  hears_other = hears_from other known_other second None (both (Some known) None) (both (Some known) (Some known_other)) from_other
      (notes_other (bytes_eq (wire_of one) (wire_of other)) (bytes_eq (wire_of other) (wire_of other)) (other_bytes (wire_of one) (wire_of other) apart) (same_bytes (wire_of other)))

  pub is_read_by_address : IsReadByAddress one other asked known known_other first second answer
  is_read_by_address =
      let reset : List (List ℕ) = spelling (reset_to asked) ∷ [] in
      let requested : List (List ℕ) = spelling (reset_to asked) ∷ first_request asked ∷ [] in
      let chosen : List (List ℕ) = spelling (reset_to asked) ∷ first_request asked ∷ first_question other None ∷ [] in
      let all : List (List ℕ) = spelling (reset_to asked) ∷ first_request asked ∷ first_question other None ∷ first_request selected ∷ [] in
      record {
        talk = sends_it {next = on reset (acknowledged ∷ first ∷ acknowledged ∷ second ∷ []) (both None None) (Some asked)} (goes_out (spelling (reset_to asked)) refl asks_one refl refl)
            (takes_it {next = on reset (first ∷ acknowledged ∷ second ∷ []) (both None None) (Some asked)} (of_bus acknowledged refl refl refl (hears_ack (both None None) (Some asked)) refl)
            (hears_it (sends_it {next = on requested (first ∷ acknowledged ∷ second ∷ []) (both None None) (Some asked)} (goes_out (first_request asked) refl requests_one refl refl)
            (takes_it {next = on requested (acknowledged ∷ second ∷ []) (both (Some known) None) (Some asked)} (of_bus first refl refl refl hears_one refl)
            (hears_it (sends_it {next = on chosen (acknowledged ∷ second ∷ []) (both (Some known) None) None} (goes_out (first_question other None) refl asks_other refl refl)
            (takes_it {next = on chosen (second ∷ []) (both (Some known) None) None} (of_bus acknowledged refl refl refl (hears_ack (both (Some known) None) None) refl)
            (hears_it (sends_it {next = on all (second ∷ []) (both (Some known) None) None} (goes_out (first_request selected) refl requests_other refl refl)
            (takes_it {next = on all [] (both (Some known) (Some known_other)) None} (of_bus second refl refl refl hears_other refl) (hears_it rests)))))))))));
      }

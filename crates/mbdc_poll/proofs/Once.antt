-- A meter that is done with isn't started again.
use Rattle.std.proofs.Common.{◌≡◌, ℕ, List, [], ◌∷◌, ◌++◌, refl, sym, subst, ◌∙◌, append-nil, append_assoc}
use Rattle.dc_address.specs.declared.identity.Identity.{Identity}
use Rattle.mbdc_poll.specs.Happening.{Happening, tells}
use Rattle.mbdc_poll.specs.declared.event.Event.{Event as Told}
use Rattle.mbdc_poll.specs.declared.event.Event.TheVariants.{Lost as is_lost}
use Rattle.mbdc_poll.specs.declared.end.End.{End}
use Rattle.mbdc_poll.specs.declared.end.End.TheVariants.{Read, Failed, Refused}
use Rattle.mbdc_poll.specs.declared.phase.Phase.{Phase}
use Rattle.mbdc_poll.specs.declared.phase.Phase.TheVariants.{Free, Busy, Pending, Over}
use Rattle.mbdc_poll.specs.Queue.{Part, part, Goes, IsToldAs, Lacks, AreApart, meter_of, starts_in, stays, passes_on, starts_it, is_refused, asks_it, has_no_request, is_given_up, goes_on, is_accepted, is_put_off, fails_at_last, is_faulty, is_stored, is_unstored, stands_by, is_told, loses_it}

-- ---- what isn't among these

lacks_both : (m : Identity) (xs ys : List Identity) → Lacks m xs → Lacks m ys → Lacks m (xs ++ ys)
lacks_both m [] ys a b = b
lacks_both m (x ∷ xs) ys a b = (a.0, lacks_both m xs ys a.1 b)

lacks_left : (m : Identity) (xs ys : List Identity) → Lacks m (xs ++ ys) → Lacks m xs
lacks_left m [] ys a = tt
lacks_left m (x ∷ xs) ys a = (a.0, lacks_left m xs ys a.1)

lacks_right : (m : Identity) (xs ys : List Identity) → Lacks m (xs ++ ys) → Lacks m ys
lacks_right m [] ys a = a
lacks_right m (x ∷ xs) ys a = lacks_right m xs ys a.1

-- one that is moved is among them as before
lacks_moved : (m x : Identity) (xs ys : List Identity) → Lacks m (x ∷ (xs ++ ys)) → Lacks m (xs ++ (ys ++ x ∷ []))
lacks_moved m x xs ys a = lacks_both m xs (ys ++ x ∷ []) (lacks_left m xs ys a.1) (lacks_both m ys (x ∷ []) (lacks_right m xs ys a.1) (a.0, tt))

apart_last : (x : Identity) (xs : List Identity) → Lacks x xs → AreApart xs → AreApart (xs ++ x ∷ [])
apart_last x [] a b = (tt, tt)
apart_last x (y ∷ xs) a b = (lacks_both y xs (x ∷ []) b.0 ((λ e. a.0 (sym e)), tt), apart_last x xs a.1 b.1)

apart_moved : (x : Identity) (xs ys : List Identity) → AreApart (x ∷ (xs ++ ys)) → AreApart (xs ++ (ys ++ x ∷ []))
apart_moved x xs ys a = subst AreApart (append_assoc xs ys (x ∷ [])) (apart_last x (xs ++ ys) a.0 a.1)

-- ---- a queue's meters

abbrev meters_of : Part → List Identity
meters_of (part left failed pass phase) = left ++ failed

-- the meters that it still has are apart, and the one that ended isn't among them
abbrev IsApartIn : List Identity → Phase → Type 0
IsApartIn meters (Over end) = AreApart meters × Lacks (meter_of end) meters
IsApartIn meters Free = AreApart meters
IsApartIn meters (Busy n) = AreApart meters
IsApartIn meters (Pending n) = AreApart meters

abbrev IsApart : Part → Type 0
IsApart (part left failed pass phase) = IsApartIn (left ++ failed) phase

-- no meter is started that the queue doesn't have
not_started : {tries line : ℕ} {old last : Part} {happened : List Happening} (m : Identity) → Goes tries line old happened last → Lacks m (meters_of old) → Lacks m (starts_in happened)
not_started m stays a = tt
not_started m (passes_on {meter = x} {failed = xs} less goes) a = not_started m goes (subst (Lacks m) (sym (append-nil (x ∷ xs))) a)
not_started m (starts_it few goes) a = (a.0, not_started m goes a)
not_started m (is_refused few goes) a = (a.0, not_started m goes a.1)
not_started m (asks_it goes) a = not_started m goes a
not_started m (has_no_request goes) a = not_started m goes a.1
not_started m (is_given_up goes) a = not_started m goes a.1
not_started m (goes_on on goes) a = not_started m goes a
not_started m (is_accepted goes) a = not_started m goes a
not_started m (is_put_off {meter = x} {left = xs} {failed = ys} less goes) a = not_started m goes (lacks_moved m x xs ys a)
not_started m (fails_at_last most goes) a = not_started m goes a.1
not_started m (is_faulty goes) a = not_started m goes a.1
not_started m (is_stored goes) a = not_started m goes a
not_started m (is_unstored goes) a = not_started m goes a.1
not_started m (stands_by not goes) a = not_started m goes a
not_started m (is_told as_end goes) a = not_started m goes a
not_started m (loses_it goes) a = not_started m goes a

-- ---- what comes after a line of text

same_told : (a b : End) (told : Told) → IsToldAs a told → IsToldAs b told → meter_of a ≡ meter_of b
same_told (Read x) (Read y) told a b = let one = a.3 in let two = b.3 in let both = sym one ∙ two in cc
same_told (Read x) (Failed y why) told a b = absurd (let one = a.3 in let two = b.2 in let both = sym one ∙ two in cc)
same_told (Read x) (Refused y r) told a b = absurd (let one = a.3 in let both = sym one ∙ b in cc)
same_told (Failed x w) (Read y) told a b = absurd (let one = a.2 in let two = b.3 in let both = sym one ∙ two in cc)
same_told (Failed x w) (Failed y why) told a b = let one = a.2 in let two = b.2 in let both = sym one ∙ two in cc
same_told (Failed x w) (Refused y r) told a b = absurd (let one = a.2 in let both = sym one ∙ b in cc)
same_told (Refused x r) (Read y) told a b = absurd (let two = b.3 in let both = sym a ∙ two in cc)
same_told (Refused x r) (Failed y why) told a b = absurd (let two = b.2 in let both = sym a ∙ two in cc)
same_told (Refused x r) (Refused y s) told a b = let both = sym a ∙ b in cc

not_lost : (line : ℕ) (end : End) → IsToldAs end (is_lost line) → ⊥
not_lost line (Read x) a = let one = a.3 in cc
not_lost line (Failed x why) a = let one = a.2 in cc
not_lost line (Refused x r) a = cc

-- the happenings after a front that ends in this line of text
pub not_again : {tries line : ℕ} {old last : Part} {happened : List Happening} (front back : List Happening) (end : End) (told : Told) → Goes tries line old happened last
    → happened ≡ front ++ tells line told ∷ back → IsToldAs end told → IsApart old → Lacks (meter_of end) (starts_in back)
not_again [] back end told stays e says a = absurd cc
not_again (h ∷ front) back end told stays e says a = absurd cc
not_again front back end told (passes_on {meter = x} {failed = xs} less goes) e says a = not_again front back end told goes e says (subst AreApart (sym (append-nil (x ∷ xs))) a)
not_again [] back end told (starts_it few goes) e says a = absurd cc
not_again (h ∷ front) back end told (starts_it few goes) e says a = not_again front back end told goes (cc) says a
not_again [] back end told (is_refused few goes) e says a = absurd cc
not_again (h ∷ front) back end told (is_refused few goes) e says a = not_again front back end told goes (cc) says (a.1, a.0)
not_again [] back end told (asks_it goes) e says a = absurd cc
not_again (h ∷ front) back end told (asks_it goes) e says a = not_again front back end told goes (cc) says a
not_again [] back end told (has_no_request goes) e says a = absurd cc
not_again (h ∷ front) back end told (has_no_request goes) e says a = not_again front back end told goes (cc) says (a.1, a.0)
not_again front back end told (is_given_up goes) e says a = not_again front back end told goes e says (a.1, a.0)
not_again [] back end told (goes_on on goes) e says a = absurd cc
not_again (h ∷ front) back end told (goes_on on goes) e says a = not_again front back end told goes (cc) says a
not_again [] back end told (is_accepted goes) e says a = absurd cc
not_again (h ∷ front) back end told (is_accepted goes) e says a = not_again front back end told goes (cc) says a
not_again [] back end told (is_put_off less goes) e says a = absurd cc
not_again (h ∷ front) back end told (is_put_off {meter = x} {left = xs} {failed = ys} less goes) e says a = not_again front back end told goes (cc) says (apart_moved x xs ys a)
not_again [] back end told (fails_at_last most goes) e says a = absurd cc
not_again (h ∷ front) back end told (fails_at_last most goes) e says a = not_again front back end told goes (cc) says (a.1, a.0)
not_again [] back end told (is_faulty goes) e says a = absurd cc
not_again (h ∷ front) back end told (is_faulty goes) e says a = not_again front back end told goes (cc) says (a.1, a.0)
not_again [] back end told (is_stored goes) e says a = absurd cc
not_again (h ∷ front) back end told (is_stored goes) e says a = not_again front back end told goes (cc) says a
not_again [] back end told (is_unstored goes) e says a = absurd cc
not_again (h ∷ front) back end told (is_unstored goes) e says a = not_again front back end told goes (cc) says (a.1, a.0)
not_again [] back end told (stands_by not goes) e says a = absurd cc
not_again (h ∷ front) back end told (stands_by not goes) e says a = not_again front back end told goes (cc) says a
not_again [] back end told (is_told {left = xs} {failed = ys} {end = other} {told = said} {more = hs} as_end goes) e says a =
    let same : said ≡ told = cc in
    let rest : hs ≡ back = cc in
    subst (λ (ts : List Happening). Lacks (meter_of end) (starts_in ts)) rest
    (not_started (meter_of end) goes (subst (λ (m : Identity). Lacks m (xs ++ ys)) (same_told other end told (subst (IsToldAs other) same as_end) says) a.1))
not_again (h ∷ front) back end told (is_told as_end goes) e says a = not_again front back end told goes (cc) says a.0
not_again {line = l} [] back end told (loses_it goes) e says a = absurd (not_lost l end (subst (IsToldAs end) (cc) says))
not_again (h ∷ front) back end told (loses_it goes) e says a = not_again front back end told goes (cc) says a

pub none_again : (tries line : ℕ) (meters : List Identity) (front back : List Happening) (end : End) (told : Told) (last : Part) → AreApart meters → IsToldAs end told
    → Goes tries line (part meters [] 1 Free) (front ++ tells line told ∷ back) last → Lacks (meter_of end) (starts_in back)
none_again tries line meters front back end told last apart says goes = not_again front back end told goes refl says (subst AreApart (sym (append-nil meters)) apart)

-- The laws of a body: what is read is one, what is one is read, and so with the faults.
use Rattle.std.proofs.Common.{◌≡◌, ℕ, zero, suc, ◌<◌, eqb, List, [], ◌∷◌, ◌++◌, length, Result, Ok, Err, refl, sym, ap, subst, ◌∙◌, append_assoc, arith, inl, inr}
use Rattle.std.specs.List.{flat_map, AllByRecursion}
use Rattle.std.proofs.lemmas.Bool.{eqb-true}
use Rattle.std.proofs.lemmas.List.Concat.{flat_map-cons}
use Rattle.dc_records.specs.declared.fault.BodyFault.{BodyFault}
use Rattle.dc_records.specs.Record.{Entry}
use Rattle.dc_records.specs.Reading.{record_at}
use Rattle.dc_records.specs.Body.{Ending, plain, last, more, Front, ends, skips, gives, front_at, with_record, turns, after, content_at, Item, filler, spelled, IsItem, IsEnd, text_of, records_of, IsContent}
use Rattle.dc_records.specs.Stops.{Fails}
use Rattle.dc_records.proofs.Spellings.Fields.{bind_ok, chosen, ok_is, Taken, record_takes}
use Rattle.dc_records.proofs.Spellings.Turns.{reads_front, reads_fault}
use Rattle.dc_records.proofs.Spellings.Faults.{err_is, front_stops, stops_front, spells_front}

Stands : List ℕ → Front → Type 0
Stands text (ends end) = IsEnd text end
Stands text (skips rest) = text ≡ 0x2F ∷ rest
Stands text (gives e rest) = Taken text e rest

front_takes : (text : List ℕ) (f : Front) → front_at text ≡ Ok f → Stands text f
unfolding Stands front_at
front_takes [] f e = subst (Stands []) (ok_is (ends plain) f e) refl
front_takes (b ∷ rest) f e =
    elim (chosen (eqb b 0x0F) _ _ (Ok f) e) [
      | inl p ↦ subst (Stands (b ∷ rest)) (ok_is (ends (last rest)) f p.1) (ap (λ (v : ℕ). v ∷ rest) (eqb-true _ _ p.0))
      | inr p ↦
          elim (chosen (eqb b 0x1F) _ _ (Ok f) p.1) [
            | inl q ↦ subst (Stands (b ∷ rest)) (ok_is (ends (more rest)) f q.1) (ap (λ (v : ℕ). v ∷ rest) (eqb-true _ _ q.0))
            | inr q ↦
                elim (chosen (eqb b 0x2F) _ _ (Ok f) q.1) [
                  | inl r ↦ subst (Stands (b ∷ rest)) (ok_is (skips rest) f r.1) (ap (λ (v : ℕ). v ∷ rest) (eqb-true _ _ r.0))
                  | inr r ↦
                      let x = bind_ok (record_at (b ∷ rest)) (λ x. Ok (gives x.0 x.1)) f r.1 in
                      subst (Stands (b ∷ rest)) (ok_is (gives x.0.0 x.0.1) f x.2) (record_takes (b ∷ rest) x.0 x.1)
                ]
          ]
    ]

-- ---- what is read

after_filler : (text rest : List ℕ) (es : List Entry) (end : Ending) → text ≡ 0x2F ∷ rest → IsContent rest es end → IsContent text es end
after_filler text rest es end is c = record { items = filler ∷ c.items; tail = c.tail; parts = is ∙ ap (λ (l : List ℕ). 0x2F ∷ l) c.parts ∙ sym (ap (λ (l : List ℕ). l ++ c.tail) (flat_map-cons text_of filler c.items)); each = (tt, c.each); ends = c.ends; records_are = c.records_are }

after_record : (text rest : List ℕ) (e : Entry) (es : List Entry) (end : Ending) → Taken text e rest → IsContent rest es end → IsContent text (e ∷ es) end
after_record text rest e es end t c = record { items = spelled t.text e ∷ c.items; tail = c.tail; parts = t.parts ∙ ap (λ (l : List ℕ). t.text ++ l) c.parts ∙ sym (append_assoc t.text (flat_map text_of c.items) c.tail) ∙ sym (ap (λ (l : List ℕ). l ++ c.tail) (flat_map-cons text_of (spelled t.text e) c.items)); each = (t.spells, c.each); ends = c.ends; records_are = ap (λ (l : List Entry). e ∷ l) c.records_are }

abbrev TakesAll : (List ℕ → Result (List Entry × Ending) BodyFault) → List ℕ → Type 0
TakesAll go text = (x : List Entry × Ending) → go text ≡ Ok x → IsContent text x.0 x.1

with_ok : (e : Entry) (r : Result (List Entry × Ending) BodyFault) (x : List Entry × Ending) → with_record e r ≡ Ok x → (y : List Entry × Ending) × (r ≡ Ok y) × ((e ∷ y.0, y.1) ≡ x)
with_ok e (Ok y) x h = (y, refl, ok_is (e ∷ y.0, y.1) x h)
with_ok e (Err f) x h = absurd cc

take_after : (go : List ℕ → Result (List Entry × Ending) BodyFault) (text : List ℕ) → ((rest : List ℕ) → length rest < length text → TakesAll go rest) → (r : Result Front BodyFault) → front_at text ≡ r → (x : List Entry × Ending) → after go r ≡ Ok x → IsContent text x.0 x.1
unfolding Stands
take_after go text others (Err f) e x h = absurd cc
take_after go text others (Ok (ends end)) e x h =
    subst (λ (y : List Entry × Ending). IsContent text y.0 y.1) (ok_is ([], end) x h) (record { items = []; tail = text; parts = refl; each = tt; ends = front_takes text (ends end) e; records_are = refl })
take_after go text others (Ok (skips rest)) e x h = after_filler text rest x.0 x.1 (front_takes text (skips rest) e) (others rest (reads_front text (skips rest) e).1 x h)
take_after go text others (Ok (gives d rest)) e x h =
    let y = with_ok d (go rest) x h in
    subst (λ (z : List Entry × Ending). IsContent text z.0 z.1) y.2 (after_record text rest d y.0.0 y.0.1 (front_takes text (gives d rest) e) (others rest (reads_front text (gives d rest) e).1 y.0 y.1))

turns_take : (n : ℕ) (text : List ℕ) → length text < n → TakesAll (turns n) text
turns_take zero text h x e = absurd (omega arith)
turns_take (suc n) text h x e = take_after (turns n) text (λ rest s. turns_take n rest (omega arith)) (front_at text) refl x e

pub content_takes : (text : List ℕ) (x : List Entry × Ending) → content_at text ≡ Ok x → IsContent text x.0 x.1
unfolding content_at
content_takes text x e = turns_take (suc (length text)) text (omega arith) x e

-- ---- the fault that is read

fails_filler : (text rest : List ℕ) (f : BodyFault) → text ≡ 0x2F ∷ rest → Fails rest f → Fails text f
fails_filler text rest f is c = record { items = filler ∷ c.items; rest = c.rest; parts = is ∙ ap (λ (l : List ℕ). 0x2F ∷ l) c.parts ∙ sym (ap (λ (l : List ℕ). l ++ c.rest) (flat_map-cons text_of filler c.items)); each = (tt, c.each); stops = c.stops }

fails_record : (text rest : List ℕ) (e : Entry) (f : BodyFault) → Taken text e rest → Fails rest f → Fails text f
fails_record text rest e f t c = record { items = spelled t.text e ∷ c.items; rest = c.rest; parts = t.parts ∙ ap (λ (l : List ℕ). t.text ++ l) c.parts ∙ sym (append_assoc t.text (flat_map text_of c.items) c.rest) ∙ sym (ap (λ (l : List ℕ). l ++ c.rest) (flat_map-cons text_of (spelled t.text e) c.items)); each = (t.spells, c.each); stops = c.stops }

with_err : (e : Entry) (r : Result (List Entry × Ending) BodyFault) (f : BodyFault) → with_record e r ≡ Err f → r ≡ Err f
with_err e (Ok y) f h = absurd cc
with_err e (Err g) f h = cc

fail_after : (go : List ℕ → Result (List Entry × Ending) BodyFault) (text : List ℕ) → ((rest : List ℕ) → length rest < length text → (f : BodyFault) → go rest ≡ Err f → Fails rest f) → (r : Result Front BodyFault) → front_at text ≡ r → (f : BodyFault) → after go r ≡ Err f → Fails text f
unfolding Stands
fail_after go text others (Err g) e f h = record { items = []; rest = text; parts = refl; each = tt; stops = front_stops text f (e ∙ ap (λ (x : BodyFault). Err x) (sym (err_is g f h))) }
fail_after go text others (Ok (ends end)) e f h = absurd cc
fail_after go text others (Ok (skips rest)) e f h = fails_filler text rest f (front_takes text (skips rest) e) (others rest (reads_front text (skips rest) e).1 f h)
fail_after go text others (Ok (gives d rest)) e f h = fails_record text rest d f (front_takes text (gives d rest) e) (others rest (reads_front text (gives d rest) e).1 f (with_err d (go rest) f h))

turns_fail : (n : ℕ) (text : List ℕ) → length text < n → (f : BodyFault) → turns n text ≡ Err f → Fails text f
turns_fail zero text h f e = absurd (omega arith)
turns_fail (suc n) text h f e = fail_after (turns n) text (λ rest s. turns_fail n rest (omega arith)) (front_at text) refl f e

pub content_fails : (text : List ℕ) (f : BodyFault) → content_at text ≡ Err f → Fails text f
unfolding content_at
content_fails text f e = turns_fail (suc (length text)) text (omega arith) f e

-- ---- what is one is read

pub end_front : (tail : List ℕ) (end : Ending) → IsEnd tail end → front_at tail ≡ Ok (ends end)
unfolding front_at
end_front tail plain h = rw h refl
end_front tail (last rest) h = rw h refl
end_front tail (more rest) h = rw h refl

pub filler_front : (rest : List ℕ) → front_at (0x2F ∷ rest) ≡ Ok (skips rest)
unfolding front_at
filler_front rest = refl

-- what stands before a rest that is read
abbrev before_all : List Item → Result (List Entry × Ending) BodyFault → Result (List Entry × Ending) BodyFault
before_all [] r = r
before_all (filler ∷ items) r = before_all items r
before_all (spelled t e ∷ items) r = with_record e (before_all items r)

items_again : (items : List Item) (rest : List ℕ) → AllByRecursion IsItem items → content_at (flat_map text_of items ++ rest) ≡ before_all items (content_at rest)
items_again [] rest h = refl
items_again (filler ∷ items) rest h =
    let x = flat_map text_of items ++ rest in
    let grouped : flat_map text_of (filler ∷ items) ++ rest ≡ 0x2F ∷ x = ap (λ (l : List ℕ). l ++ rest) (flat_map-cons text_of filler items) in
    ap content_at grouped ∙ (reads_front (0x2F ∷ x) (skips x) (filler_front x)).0 ∙ items_again items rest h.1
items_again (spelled t e ∷ items) rest h =
    let x = flat_map text_of items ++ rest in
    let grouped : flat_map text_of (spelled t e ∷ items) ++ rest ≡ t ++ x = ap (λ (l : List ℕ). l ++ rest) (flat_map-cons text_of (spelled t e) items) ∙ append_assoc t (flat_map text_of items) rest in
    ap content_at grouped ∙ (reads_front (t ++ x) (gives e x) (spells_front t x e h.0)).0 ∙ ap (with_record e) (items_again items rest h.1)

before_ok : (items : List Item) (end : Ending) → before_all items (Ok ([], end)) ≡ Ok (records_of items, end)
before_ok [] end = refl
before_ok (filler ∷ items) end = before_ok items end
before_ok (spelled t e ∷ items) end = ap (with_record e) (before_ok items end)

before_err : (items : List Item) (f : BodyFault) → before_all items (Err f) ≡ Err f
before_err [] f = refl
before_err (filler ∷ items) f = before_err items f
before_err (spelled t e ∷ items) f = ap (with_record e) (before_err items f)

pub content_again : (text : List ℕ) (es : List Entry) (end : Ending) → IsContent text es end → content_at text ≡ Ok (es, end)
content_again text es end c =
    ap content_at c.parts ∙ items_again c.items c.tail c.each ∙ ap (before_all c.items) (reads_front c.tail (ends end) (end_front c.tail end c.ends)) ∙ before_ok c.items end ∙ ap (λ (l : List Entry). Ok (l, end)) (sym c.records_are)

pub fails_again : (text : List ℕ) (f : BodyFault) → Fails text f → content_at text ≡ Err f
fails_again text f c =
    ap content_at c.parts ∙ items_again c.items c.rest c.each ∙ ap (before_all c.items) (reads_fault c.rest f (stops_front c.rest f c.stops)) ∙ before_err c.items f

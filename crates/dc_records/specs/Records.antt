-- What came out of an iterator over records: what a caller's generic function over records needs.
use Rattle.std.proofs.Common.{◌≡◌, List, [], ◌∷◌, map, sym, ap, ◌∙◌}
use Rattle.std.specs.Iterator.{YieldsFirstBy, Yields, Drains}
use Rattle.dc_records.specs.declared.record.Record.{Record}
use Rattle.dc_records.specs.Record.{Entry, view}

yielded : (s t : List Entry) (xs : List Record) → Yields (YieldsFirstBy view (λ r. r)) s xs t
    → t ≡ [] → map view xs ≡ s
yielded s t [] h e = sym e ∙ sym h
yielded s t (x ∷ xs) h e = ap (λ (l : List Entry). view x ∷ l) (yielded h.0 t xs h.2 e) ∙ sym h.1

-- the items that a drained iterator gave are the records that it stood for
pub drained : (s : List Entry) (xs : List Record) → Drains (YieldsFirstBy view (λ r. r)) s xs
    → map view xs ≡ s
drained s xs d = yielded s d.1.0 xs d.1.1 d.1.2.0

use Rattle.std.proofs.Common.{◌∷◌, ◌&&◌, [], List, Bool, ℕ, ap, sym, ◌∙◌, refl, map, take, drop, length, ◌-◌, Vec}
use Rattle.mbdc_audit.proofs.Said.{said_by, texts_split}
use Rattle.mbdc_audit.proofs.numbers.is_held.Goals as goal

pub returns-then-is_text : goal.returns-then-is_text
returns-then-is_text g c =
    let split = texts_split (λ (t : Vec ℕ g.row.A.Denot). t.items) c.args.held.now c.text-item.result c.in-len1-up.len_at_least c.text-item.is in
    sym (ap (λ (b : Bool). b && c.are_said-are_beside.result) c.if-is_text.true)
    ∙ said_by c.args.number.now c.beside_count-count.result (record { ref_ptr = (0, 0); now = [] }) c.as_slice.result.now
    (map (λ (t : Vec ℕ g.row.A.Denot). t.items) (take (length c.args.held.now - 1) (drop 1 c.args.held.now)))
    (map (λ (t : Vec ℕ g.row.A.Denot). t.items) c.args.held.now)
    c.is_text_said-is_text.result c.are_said-are_beside.result
    c.beside_count-count.ensures.count refl
    (split ∙ ap (λ (x : List ℕ). x ∷ map (λ (t : Vec ℕ g.row.A.Denot). t.items) (take (length c.args.held.now - 1) (drop 1 c.args.held.now))) (sym c.as_slice.ensures.value))
    c.is_text_said-is_text.ensures c.are_said-are_beside.ensures

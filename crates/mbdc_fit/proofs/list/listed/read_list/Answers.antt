use Rattle.std.proofs.Common.{◌≡◌, ◌++◌, ◌∷◌, inl, inr, Bool, true, false, ℕ, List, [], Option, Some, Ok, Err, Bor, Global, length, map, refl, ap, sym, subst, ◌∙◌, arith, rules}
use Rattle.std.specs.Prelude.{option_map}
use Rattle.csv.specs.Reading.{Reached, builder_config, builder_names_headers, builder_trim, default_config, strip_bom, with_config, with_flexible, with_names_headers, with_trim}
use Rattle.csv.specs.Records.{fields_of, trimmed}
use Rattle.csv.specs.declared.parser.Config.{Config}
use Rattle.csv.specs.declared.reader.ReaderBuilder.{ReaderBuilder}
use Rattle.csv.specs.declared.reader.Trim.TheVariants.{All}
use Rattle.mbdc_change.specs.State.{State}
use Rattle.mbdc_fit.specs.Listed.{HasRecords, IsListOf, begins, text_in}
use Rattle.mbdc_fit.specs.declared.list.listed.Listing.{Listing}
use Rattle.mbdc_fit.proofs.Listings.{ReadsOne, adds_it, has_all, has_most, joined, lacks_all, lacks_first, names_columns, not_none, skips_it}
use Rattle.mbdc_fit.proofs.list.listed.read_list.Goals as goal
use Rattle.mbdc_fit.proofs.list.listed.read_list.Goals.{in-Ok-default, in-Err-Ok, in-Err-Ok-2+in_ok-row_of-in-Err-Ok-2+in_ok-push-in-Err-Ok-2, else-records-test, then-records-test+in-Ok-false, in-Ok, in-Err-columns}

pub records-init : goal.records-init
unfolding Reached
records-init c =
    let made = c.from_reader-reader.ensures in
    let built : c.trim.result.now ≡ with_trim (with_flexible (with_names_headers c.delimiter.result.now false) true) All =
    c.trim.ensures ∙ ap (λ (b : ReaderBuilder). with_trim b All) (c.flexible.ensures ∙ ap (λ (b : ReaderBuilder). with_flexible b true) c.has_headers.ensures) in
    record {
      raw = [];
      stands = record {
        trims = made.trim ∙ ap builder_trim built;
        ready = inr (inr (made.has_headers ∙ ap builder_names_headers built, made.headers));
        config =
            made.config ∙ ap builder_config built ∙ ap builder_config c.delimiter.ensures
            ∙ ap (λ (cfg : Config). record cfg { delimiter = c.separator_of.result }) c.new.ensures.config
            ∙ ap (λ (d : ℕ). record default_config { delimiter = d }) c.separator_of.ensures;
        left = text_in c.args.list.now;
        source = made.source ∙ ap (λ (xs : List ℕ). Some (strip_bom xs)) (c.as_slice.ensures.value ∙ c.in_ok-text.ensures);
        reached = (sym made.state, refl);
      };
      read = rw c.new-rows.ensures.items begins;
      count_is = refl;
    }

pub returns-in-Err-Err : goal.returns-in-Err-Err
returns-in-Err-Err c =
    let fields = fields_of c.read_byte_record.new.row in
    let reads : ReadsOne (λ (s : Bor (List ℕ)). Some s.now) c.records.reader c.read_byte_record.new.self true fields =
    subst (λ (b : Bool). ReadsOne (λ (s : Bor (List ℕ)). Some s.now) c.records.reader c.read_byte_record.new.self b fields) c.in-Ok-true.field-0-test c.in-Ok-true.ensures.trims in
    lacks_first (λ (s : Bor (List ℕ)). Some s.now) c.args.list.now _ c.records.reader c.read_byte_record.new.self c.records.columns c.records.rows.items c.records.counter c.records.invariant fields
    c.in-Err-Err.column c.in-Err-Err.field-0-1 reads (c.in-Ok-true.ensures.reads_on c.in-Ok-true.field-0-test) c.in-Err-Err.is-1 c.in-Err-Err.ensures.missing

pub records-preserved : goal.records-preserved
records-preserved c =
    let rem = λ (s : Bor (List ℕ)). Some s.now in
    let fields = fields_of c.read_byte_record.new.row in
    let reads : ReadsOne rem c.records.reader c.read_byte_record.new.self true fields =
    subst (λ (b : Bool). ReadsOne rem c.records.reader c.read_byte_record.new.self b fields) c.in-Ok-true.field-0-test c.in-Ok-true.ensures.trims in
    let on = c.in-Ok-true.ensures.reads_on c.in-Ok-true.field-0-test in
    elim c.match-places_in.branch [
      | in-Ok-default w ↦ joined rem c.args.list.now _ c.records.reader c.read_byte_record.new.self c.records.columns c.records.rows.items c.records.counter c.records.invariant fields _ _ _ _ w.columns-is (ap (λ v. v.items) w.rows-is)
          (names_columns rem c.args.list.now _ c.records.reader c.read_byte_record.new.self c.records.columns c.records.rows.items c.records.counter c.records.invariant fields w.in-Ok-default.places reads on w.in-Ok-default.ensures.named)
      | in-Err-Ok w ↦ joined rem c.args.list.now _ c.records.reader c.read_byte_record.new.self c.records.columns c.records.rows.items c.records.counter c.records.invariant fields _ _ _ _ w.columns-is (ap (λ v. v.items) w.rows-is)
          (skips_it rem c.args.list.now _ c.records.reader c.read_byte_record.new.self c.records.columns c.records.rows.items c.records.counter c.records.invariant fields w.in-Err-Ok.field-0-1 w.in-Err-Ok.field-0-0 reads on w.in-Err-Ok.is-1
          w.in-Err-Ok.ensures.missing (w.is_blank.ensures.0 w.if-is_blank.true))
      | in-Err-Ok-2+in_ok-row_of-in-Err-Ok-2+in_ok-push-in-Err-Ok-2 w ↦
          let row = w.in_ok-row_of-in-Err-Ok-2.field-0 in
          let items : w.push.new.self.items ≡ c.records.rows.items ++ row ∷ [] = search rules in
          joined rem c.args.list.now _ c.records.reader c.read_byte_record.new.self c.records.columns c.records.rows.items c.records.counter c.records.invariant fields _ _ _ _ w.columns-is (ap (λ v. v.items) w.rows-is ∙ items)
          (adds_it rem c.args.list.now _ c.records.reader c.read_byte_record.new.self c.records.columns c.records.rows.items c.records.counter c.records.invariant fields w.in-Err-Ok.field-0-1 w.in-Err-Ok.field-0-0 row reads on w.in-Err-Ok.is-1
          w.in-Err-Ok.ensures.missing (λ all. absurd (let bad : false ≡ true = sym w.if-is_blank.false ∙ w.is_blank.ensures.1 all in cc)) w.in_ok-row_of-in-Err-Ok-2.ensures)
    ]

pub returns : goal.returns
returns c =
    let rem = λ (s : Bor (List ℕ)). Some s.now in
    elim c.match-columns.branch [
      | in-Ok w ↦
          let has : HasRecords c.args.list.now (map (map trimmed) c.records.invariant.raw) = elim c.records-test.branch [
            | else-records-test t ↦ has_most rem c.args.list.now _ c.records.reader c.records.reader c.records.columns c.records.rows.items c.records.counter c.records.invariant []
                (omega (arith, t.records-test.false, c.len-end.ensures, ap length c.in_ok-text.ensures))
            | then-records-test+in-Ok-false t ↦ has_all rem c.args.list.now _ c.records.reader t.read_byte_record.new.self c.records.columns c.records.rows.items c.records.counter c.records.invariant (fields_of t.read_byte_record.new.row)
                (subst (λ (b : Bool). ReadsOne rem c.records.reader t.read_byte_record.new.self b (fields_of t.read_byte_record.new.row)) t.in-Ok-false.field-0-test t.in-Ok-false.ensures.trims)
          ] in
          subst (IsListOf c.args.list.now _) (sym w.result-is) (_, has, w.in-Ok.field-0, rw w.in-Ok.is at c.records.invariant.read)
      | in-Err-columns w ↦ subst (IsListOf c.args.list.now _) (sym w.result-is) (elim c.records-test.branch [
        | else-records-test t ↦ absurd (not_none rem c.args.list.now _ c.records.reader c.records.reader c.records.columns c.records.rows.items c.records.counter c.records.invariant [] _ w.in-Err-columns.is (omega (arith, t.records-test.false)))
        | then-records-test+in-Ok-false t ↦ lacks_all rem c.args.list.now _ c.records.reader t.read_byte_record.new.self c.records.columns c.records.rows.items c.records.counter c.records.invariant (fields_of t.read_byte_record.new.row) _
            (subst (λ (b : Bool). ReadsOne rem c.records.reader t.read_byte_record.new.self b (fields_of t.read_byte_record.new.row)) t.in-Ok-false.field-0-test t.in-Ok-false.ensures.trims) w.in-Err-columns.is
      ])
    ]

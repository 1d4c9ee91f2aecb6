use Rattle.crn_tab.proofs.Prelude.{◌≡◌, ◌-◌, ◌++◌, ℕ, List, length, set, ap, ◌∙◌, sym, subst, Bool, ℤ, IsFit, IsNewRow, row_at}
use Rattle.crn_tab.proofs.Flat.{row_written, row_other}
use Rattle.crn_tab.proofs.fill.fill_row.Goals as goal

-- a new row that fits or is wide
abbrev Made : ℕ → ℕ → List ℤ → List ℤ → ℤ → List ℤ → Bool → Type 0
Made w c old lead p into result = (z : List ℤ) × IsNewRow (w - 1) c old (set lead (w - 1) p) z × IsFit z into result

made_at : (w c : ℕ) (old row lead : List ℤ) (p : ℤ) (into spare : List ℤ) (result : Bool) → old ≡ row → length row ≡ w → spare ≡ into
    → Made (length old) c old lead p into result → Made w c row lead p spare result
made_at w c old row lead p into spare result e f g h =
    let A : List ℤ → Type 0 = λ o. Made (length o) c o lead p into result in
    let B : ℕ → Type 0 = λ n. Made n c row lead p into result in
    let C : List ℤ → Type 0 = λ s. Made w c row lead p s result in
    subst C (sym g) (subst B f (subst A e h))

pub returns-clause-made : goal.returns-clause-made
returns-clause-made c =
    let w = length c.args.lead.now.entries.now in
    let prefix = c.split_at_mut-rest.result.0.now in
    let back = c.split_at_mut-into.result.1.now in
    made_at w c.args.lead.now.slot c.part-old.result.now (row_at w c.args.rows.now c.args.i) c.args.lead.now.entries.now c.args.lead.now.own.now c.new_row.new.into
    (row_at w (prefix ++ (c.new_row.new.into ++ back)) c.args.i) c.new_row.result
    c.part-old.ensures c.requires.row.long
    (row_written w c.args.i prefix c.new_row.new.into back c.split_at_mut-rest.ensures.front_len (c.new_row.auto.into ∙ c.split_at_mut-into.ensures.front_len))
    c.new_row.ensures

pub returns-clause-others : goal.returns-clause-others
returns-clause-others c = λ j ne.
    let w = length c.args.lead.now.entries.now in
    let prefix = c.split_at_mut-rest.result.0.now in
    let into = c.split_at_mut-into.result.0.now in
    let back = c.split_at_mut-into.result.1.now in
    row_other w c.args.i j prefix into c.new_row.new.into back ne c.split_at_mut-rest.ensures.front_len c.split_at_mut-into.ensures.front_len
    (c.new_row.auto.into ∙ c.split_at_mut-into.ensures.front_len)
    ∙ ap (λ (xs : List ℤ). row_at w xs j) (sym (c.split_at_mut-rest.ensures.value ∙ ap (λ (r : List ℤ). prefix ++ r) c.split_at_mut-into.ensures.value))

use Rattle.crn_tab.proofs.Prelude.{◌++◌, List, length, ap, ◌∙◌, sym, ℤ, row_at}
use Rattle.crn_tab.proofs.Flat.{row_other}
use Rattle.crn_tab.proofs.lead.put_lead.Goals as goal

pub returns-clause-others : goal.returns-clause-others
returns-clause-others c = λ j ne.
    let w = length c.args.lead.now in
    let prefix = c.split_at_mut-rest.result.0.now in
    let into = c.split_at_mut-into.result.0.now in
    let back = c.split_at_mut-into.result.1.now in
    row_other w c.args.r j prefix into c.copy_from_slice.new.self back ne c.split_at_mut-rest.ensures.front_len c.split_at_mut-into.ensures.front_len
    (c.copy_from_slice.auto.self ∙ c.split_at_mut-into.ensures.front_len)
    ∙ ap (λ (xs : List ℤ). row_at w xs j) (sym (c.split_at_mut-rest.ensures.value ∙ ap (λ (r : List ℤ). prefix ++ r) c.split_at_mut-into.ensures.value))

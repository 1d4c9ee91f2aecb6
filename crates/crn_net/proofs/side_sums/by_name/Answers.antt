use Rattle.crn_net.proofs.Prelude.{◌≡◌, rules, nat_cmp, is_lt, slice_cmp, nat_list_cmp_total, always_returns_same, ranks_by, name_in}
use Rattle.crn_net.proofs.Sums.{sum_in_any_order}
use Rattle.crn_net.proofs.side_sums.by_name.Goals as goal

pub returns-clause-by_name : goal.returns-clause-by_name
returns-clause-by_name c =
    let text = c.args.text.now in
    c.sort_unstable_by.ensures.sorted (λ a b. is_lt (slice_cmp nat_cmp (name_in text a) (name_in text b))) (ranks_by nat_list_cmp_total (name_in text))
    (always_returns_same _ (λ a r. is_lt r ≡ is_lt (slice_cmp nat_cmp (name_in text a.0.now) (name_in text a.1.0.now))) _ (λ a r f' k. search rules))

pub returns-clause-sums : goal.returns-clause-sums
returns-clause-sums c = λ name. sum_in_any_order c.args.text.now c.args.shares.items c.sort_unstable_by.new.self.items name c.sort_unstable_by.ensures.permutation

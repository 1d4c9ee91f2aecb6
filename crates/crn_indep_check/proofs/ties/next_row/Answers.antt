use Rattle.crn_indep_check.proofs.Prelude.{◌≤◌, ◌-◌, ◌+◌, ℕ, List, [], length, get_or, sym, ap, subst, ◌∙◌, ◌==◌, list_any, arith, range_with_len, IsIn, outside, all_reactions}
use Rattle.crn_indep_check.proofs.Combs.{out_of}
use Rattle.crn_indep_check.proofs.Outside.{row_is, no_row, combined_in, outside_few, outside_same, outside_more, has_member, lacks_member}
use Rattle.crn_indep_check.proofs.ties.next_row.Goals as goal

pub overflow_add-count : goal.overflow_add-count
overflow_add-count c = omega (arith, c.requires.count, outside_few c.args.proof.now.base.list (c.args.r - 1))

pub returns-then-contains-clause-row : goal.returns-then-contains-clause-row
returns-then-contains-clause-row c q t =
    let base = c.args.proof.now.base.list in
    let i : IsIn c.args.r base = has_member base c.args.r (sym (ap (λ (l : List ℕ). list_any (λ b. b == c.args.r) l) c.as_slice.ensures) ∙ sym c.contains.ensures.value ∙ c.if-contains.true) in
    (out_of base (all_reactions c.args.net.now) c.args.r t.out).1 i

pub returns-then-contains-clause-count : goal.returns-then-contains-clause-count
returns-then-contains-clause-count c =
    let base = c.args.proof.now.base.list in
    let r = c.args.r in
    let i : IsIn r base = has_member base r (sym (ap (λ (l : List ℕ). list_any (λ b. b == r) l) c.as_slice.ensures) ∙ sym c.contains.ensures.value ∙ c.if-contains.true) in
    c.requires.count ∙ sym (outside_same base r c.requires.inside.0 i)

pub returns-then-row-len-clause-row : goal.returns-then-row-len-clause-row
returns-then-row-len-clause-row c =
    let net = c.args.net.now in
    let proof = c.args.proof.now in
    let r = c.args.r in
    let out : IsIn r proof.base.list → ⊥ = lacks_member proof.base.list r (sym (ap (λ (l : List ℕ). list_any (λ b. b == r) l) c.as_slice.ensures) ∙ sym c.contains.ensures.value ∙ c.if-contains.false) in (
      combined_in net proof r c.requires.inside.0 c.requires.inside.1 out,
      omega (arith, c.if-row-len.true, c.len.ensures),
      row_is net proof r c.requires.inside.0 c.requires.inside.1 out ∙ ap (λ (k : ℕ). get_or proof.combs k []) (sym c.requires.count),
    )

pub returns-then-row-len-clause-count : goal.returns-then-row-len-clause-count
returns-then-row-len-clause-count c =
    let base = c.args.proof.now.base.list in
    let r = c.args.r in
    let out : IsIn r base → ⊥ = lacks_member base r (sym (ap (λ (l : List ℕ). list_any (λ b. b == r) l) c.as_slice.ensures) ∙ sym c.contains.ensures.value ∙ c.if-contains.false) in
    ap (λ (k : ℕ). k + 1) c.requires.count ∙ sym (outside_more base r c.requires.inside.0 out)

pub returns-clause-row : goal.returns-clause-row
returns-clause-row c q t =
    let net = c.args.net.now in
    let proof = c.args.proof.now in
    let r = c.args.r in
    let few : length proof.combs ≤ length (outside proof.base.list (range_with_len 1 (r - 1))) = subst (λ (k : ℕ). length proof.combs ≤ k) c.requires.count (omega (arith, c.if-row-len.false, c.len.ensures)) in
    no_row net proof r q c.requires.inside.0 c.requires.inside.1 few t

pub returns-clause-count : goal.returns-clause-count
returns-clause-count c =
    let base = c.args.proof.now.base.list in
    let r = c.args.r in
    let out : IsIn r base → ⊥ = lacks_member base r (sym (ap (λ (l : List ℕ). list_any (λ b. b == r) l) c.as_slice.ensures) ∙ sym c.contains.ensures.value ∙ c.if-contains.false) in
    ap (λ (k : ℕ). k + 1) c.requires.count ∙ sym (outside_more base r c.requires.inside.0 out)

use Rattle.crn_check.proofs.Prelude.{◌≡◌, Result, List, ℕ, subst, Net, CheckFault, Judges, link_tests}
use Rattle.crn_check.proofs.linkage.check_linkage.Goals as goal

-- the tests over equal lists
same_lists : (net : Net) (count : ℕ) (label up depth l u d : List ℕ) (r : Result Unit CheckFault) → l ≡ label → u ≡ up → d ≡ depth → Judges (link_tests net count l u d) r → Judges (link_tests net count label up depth) r
same_lists net count label up depth l u d r p q s h = subst (λ (x : List ℕ). Judges (link_tests net count label up x) r) s (subst (λ (x : List ℕ). Judges (link_tests net count label x d) r) q (subst (λ (x : List ℕ). Judges (link_tests net count x u d) r) p h))

pub returns-in-Classes-Forest : goal.returns-in-Classes-Forest
returns-in-Classes-Forest c =
    rw (c.in-Classes-Forest.is-0, c.in-Classes-Forest.is-1)
    (same_lists c.args.net.now c.in-Classes-Forest.count c.in-Classes-Forest.label.list c.in-Classes-Forest.up.list c.in-Classes-Forest.depth.list _ _ _ c.check_lists.result c.as_slice.ensures c.as_slice-in-Classes-Forest.ensures c.as_slice-in-Classes-Forest-2.ensures c.check_lists.ensures)

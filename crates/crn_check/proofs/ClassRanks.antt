-- The tests of the ranks of the linkage classes, one after another.
use Rattle.crn_check.proofs.Prelude.{◌≡◌, ℕ, suc, ◌+◌, ◌*◌, ◌≤◌, List, [], ◌∷◌, ◌++◌, length, drop, Result, Err, refl, sym, ap, subst, ◌∙◌, arith, slice_get, Some, drop_more, get_or_from_slice_get, slice_get_within, MAX_REACTIONS, Net, RankProof, Earlier, AllHold, FailsFirst, rank_tests, IsRankProof, AreClassProofs, class_places, class_rank_tests, CheckFault, Judges, AreRankProofs}
use Rattle.crn_check.proofs.Judging.{judges_go, judges_stop}

-- if the ranks of the classes from place k on, which counts from 0, are judged so, all are; the base of the first of
-- them is record `part`
pub record AreRanks (net : Net) (earlier : Earlier) (list : List RankProof) (part k : ℕ) : Type 0 where
  pub few : part ≤ 1 + k * 481
  pub formed : AreRankProofs net earlier (k + 1) (drop k list)
  pub judged : (said : Result Unit CheckFault) → Judges (class_rank_tests net earlier part (k + 1) (drop k list)) said → Judges (class_rank_tests net earlier 1 1 list) said

-- the proof at place k and the proofs after it
proofs_from : (list : List RankProof) (k : ℕ) (p : RankProof) → slice_get list k ≡ Some p → drop k list ≡ p ∷ drop (k + 1) list
proofs_from list k p is = drop_more list k p (slice_get_within list k p is) ∙ ap (λ (q : RankProof). q ∷ drop (k + 1) list) (get_or_from_slice_get list k p p is)

pub ranks_formed : (net : Net) (earlier : Earlier) (list : List RankProof) (part k : ℕ) (p : RankProof) → AreRanks net earlier list part k → slice_get list k ≡ Some p → IsRankProof net (class_places net earlier (k + 1)) (length p.base.list) p
ranks_formed net earlier list part k p h is =
    let all : AreRankProofs net earlier (k + 1) (p ∷ drop (k + 1) list) = subst (AreRankProofs net earlier (k + 1)) (proofs_from list k p is) h.formed in
    all.0

-- the tests from class k on
ranks_here : (net : Net) (earlier : Earlier) (list : List RankProof) (part k : ℕ) (p : RankProof) → AreRanks net earlier list part k → slice_get list k ≡ Some p → (said : Result Unit CheckFault)
    → Judges (rank_tests net (class_places net earlier (k + 1)) part p.base.list p.duals p.combs ++ class_rank_tests net earlier (part + 1 + length p.duals + length p.combs) (suc (k + 1)) (drop (k + 1) list)) said → Judges (class_rank_tests net earlier 1 1 list) said
ranks_here net earlier list part k p h is said j = h.judged said (subst (λ (ps : List RankProof). Judges (class_rank_tests net earlier part (k + 1) ps) said) (sym (proofs_from list k p is)) j)

pub ranks_fail : (net : Net) (earlier : Earlier) (list : List RankProof) (part k : ℕ) (p : RankProof) (said : Result Unit CheckFault) (f g : CheckFault) → AreRanks net earlier list part k → slice_get list k ≡ Some p → said ≡ Err f → f ≡ g → FailsFirst (rank_tests net (class_places net earlier (k + 1)) part p.base.list p.duals p.combs) g.part g.code → Judges (class_rank_tests net earlier 1 1 list) said
ranks_fail net earlier list part k p said f g h is e same fails =
    ranks_here net earlier list part k p h is said
    (judges_stop (rank_tests net (class_places net earlier (k + 1)) part p.base.list p.duals p.combs) (class_rank_tests net earlier (part + 1 + length p.duals + length p.combs) (suc (k + 1)) (drop (k + 1) list)) said f g e same fails)

pub ranks_next : (net : Net) (earlier : Earlier) (list : List RankProof) (part k next : ℕ) (p : RankProof) → AreRanks net earlier list part k → slice_get list k ≡ Some p → length p.duals ≤ MAX_REACTIONS → length p.combs ≤ MAX_REACTIONS → next ≡ part + 1 + length p.duals + length p.combs
    → AllHold (rank_tests net (class_places net earlier (k + 1)) part p.base.list p.duals p.combs) → AreRanks net earlier list next (k + 1)
ranks_next net earlier list part k next p h is duals combs e hold = record {
  few = omega (arith, h.few, duals, combs, e);
  formed =
      let all : AreRankProofs net earlier (k + 1) (p ∷ drop (k + 1) list) = subst (AreRankProofs net earlier (k + 1)) (proofs_from list k p is) h.formed in
      let f : suc (k + 1) ≡ k + 1 + 1 = omega arith in
      subst (λ (m : ℕ). AreRankProofs net earlier m (drop (k + 1) list)) f all.1;
  judged = λ said j.
      let f : k + 1 + 1 ≡ suc (k + 1) = omega arith in
      let here : Judges (class_rank_tests net earlier (part + 1 + length p.duals + length p.combs) (suc (k + 1)) (drop (k + 1) list)) said =
      subst (λ (n : ℕ). Judges (class_rank_tests net earlier n (suc (k + 1)) (drop (k + 1) list)) said) e (subst (λ (m : ℕ). Judges (class_rank_tests net earlier next m (drop (k + 1) list)) said) f j) in
      ranks_here net earlier list part k p h is said (judges_go (rank_tests net (class_places net earlier (k + 1)) part p.base.list p.duals p.combs) (class_rank_tests net earlier (part + 1 + length p.duals + length p.combs) (suc (k + 1)) (drop (k + 1) list)) said hold here);
}

-- ---- the form of the proofs

-- the proofs of classes are proofs of ranks, and there are as many as deficiencies
pub proofs_formed : (net : Net) (earlier : Earlier) (k : ℕ) (ds : List ℕ) (ps : List RankProof) → AreClassProofs net earlier k ds ps → AreRankProofs net earlier k ps × (length ps ≡ length ds)
proofs_formed net earlier k [] [] h = (tt, refl)
proofs_formed net earlier k (d ∷ ds) (p ∷ ps) h =
    let f = proofs_formed net earlier (suc k) ds ps h.1 in
    let one = h.0 in
    ((subst (λ (n : ℕ). IsRankProof net (class_places net earlier k) n p) (sym one.long) one, f.0), omega (arith, f.1))
proofs_formed net earlier k ds ps h = absurd h

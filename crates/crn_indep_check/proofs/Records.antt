-- The record of a test that fails is one of the document's.
use Rattle.crn_indep_check.proofs.Prelude.{◌≡◌, ◌≤◌, ◌+◌, ◌++◌, ◌⊎◌, ℕ, suc, List, [], ◌∷◌, length, inl, inr, arith, ℤ, Net, RankProof, dual_tests, comb_tests, vectors_of, outside, Test, FailsFirst, all_reactions, AreEvenLabels, AreLinked, FailsShown, IsShownForm, label_record}

-- each test is of at most this record
abbrev Within : ℕ → List {1} Test → Type 0
Within k [] = Unit {0}
Within k (t ∷ ts) = (t.part ≤ k) × Within k ts

within_both : (k : ℕ) (ts us : List {1} Test) → Within k ts → Within k us → Within k (ts ++ us)
within_both k [] us p q = q
within_both k (t ∷ ts) us p q = (p.0, within_both k ts us p.1 q)

fails_within : (k part code : ℕ) (ts : List {1} Test) → Within k ts → FailsFirst ts part code → part ≤ k
fails_within k part code [] w f = absurd f
fails_within k part code (t ∷ ts) w (inl f) = omega (arith, w.0, f.1)
fails_within k part code (t ∷ ts) w (inr f) = fails_within k part code ts w.1 f.1

duals_within : (k part i : ℕ) (vs duals : List (List ℤ)) → part + length duals ≤ k → Within k (dual_tests vs part i duals)
duals_within k part i vs [] le = tt
duals_within k part i vs (dual ∷ duals) le = (omega (arith, le), duals_within k (suc part) (suc i) vs duals (omega (arith, le)))

combs_within : (net : Net) (k part : ℕ) (vs : List (List ℤ)) (rs : List ℕ) (combs : List (List ℤ)) → part + length combs ≤ k → Within k (comb_tests net vs part rs combs)
combs_within net k part vs [] combs le = tt
combs_within net k part vs (r ∷ rs) [] le = (omega (arith, le), tt)
combs_within net k part vs (r ∷ rs) (comb ∷ combs) le = (omega (arith, le), combs_within net k (suc part) vs rs combs (omega (arith, le)))

pub record_within : (net : Net) (rank : ℕ) (proof : RankProof) (labels up depth : List ℕ) (part code : ℕ) → IsShownForm net rank proof labels up depth → FailsShown net proof labels up depth part code → part ≤ label_record proof + 2
record_within net rank proof labels up depth part code f (inl h) =
    let base = proof.base.list in
    let vs = vectors_of net base in
    let p = f.proof_is in
    let long = p.long in
    let duals = p.duals.long in
    fails_within (label_record proof + 2) part h.0 (dual_tests vs (1 + 1) 0 proof.duals ++ comb_tests net vs (1 + 1 + length base) (outside base (all_reactions net)) proof.combs)
    (within_both (label_record proof + 2) (dual_tests vs (1 + 1) 0 proof.duals) (comb_tests net vs (1 + 1 + length base) (outside base (all_reactions net)) proof.combs)
    (duals_within (label_record proof + 2) (1 + 1) 0 vs proof.duals (omega arith)) (combs_within net (label_record proof + 2) (1 + 1 + length base) vs (outside base (all_reactions net)) proof.combs (omega (arith, long, duals)))) h.2
record_within net rank proof labels up depth part code f (inr h) = by h.link
  where
    by : ((AreEvenLabels net proof labels → ⊥) × (part ≡ label_record proof) × (code ≡ 63))
        ⊎ (AreEvenLabels net proof labels × ((AreLinked net proof labels up depth → ⊥) × (part ≡ label_record proof + 2) × (code ≡ 64)))
        → part ≤ label_record proof + 2
    by (inl l) = omega (arith, l.1)
    by (inr l) = omega (arith, l.1.1)

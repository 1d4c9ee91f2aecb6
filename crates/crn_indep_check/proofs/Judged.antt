-- The tests of a decomposition, judged one part after another.
use Rattle.crn_indep_check.proofs.Prelude.{◌≡◌, ℕ, ◌≤◌, inl, inr, List, length, subst, arith, length-range_with_len, Net, IsNetwork, MAX_REACTIONS, lt_or, RankProof, AreNumbered, all_reactions, AreEvenLabels, IsShownForm, IsGreatest, IsEvenAt}

-- ---- the number of parts

one_most : (labels : List ℕ) (c g : ℕ) → IsGreatest labels g → AreNumbered labels c → c ≡ g
one_most labels c g h n =
    let up : c ≤ g = elim (lt_or 0 c) as (λ _. c ≤ g) [
      | inl some ↦ let f = n.count_is.each c (omega (arith, some)) (omega arith) in let m = h.most f.0 f.1 in omega (arith, m, f.2)
      | inr none ↦ omega (arith, none)
    ] in
    let down : g ≤ c = elim (lt_or 0 g) as (λ _. g ≤ c) [
      | inl some ↦ let f = h.some (omega (arith, some)) in let m = n.count_is.most f.0 f.1 in omega (arith, m, f.2)
      | inr none ↦ omega (arith, none)
    ] in
    omega (arith, up, down)

pub even_not : (net : Net) (proof : RankProof) (labels : List ℕ) (g : ℕ) → IsGreatest labels g → (AreNumbered labels g → ⊥) → AreEvenLabels net proof labels → ⊥
even_not net proof labels g h none e = none (subst (AreNumbered labels) (one_most labels e.count g h e.numbered) e.numbered)

pub even_from : (net : Net) (proof : RankProof) (labels : List ℕ) (g : ℕ) → AreNumbered labels g → ((r : ℕ) → IsEvenAt net proof labels r) → AreEvenLabels net proof labels
even_from net proof labels g n e = record { count = g; numbered = n; even = e }

-- ---- sizes

pub records_few : (net : Net) (rank : ℕ) (proof : RankProof) (labels up depth : List ℕ) → IsNetwork net → IsShownForm net rank proof labels up depth → (length proof.duals ≤ MAX_REACTIONS) × (length proof.combs ≤ MAX_REACTIONS)
records_few net rank proof labels up depth n f =
    let many : length (all_reactions net) ≡ length net.reactions = length-range_with_len 1 (length net.reactions) in (
      omega (arith, f.proof_is.duals.long, f.rank_is.1, n.partial.reactions_limit),
      omega (arith, f.proof_is.combs.long, many, n.partial.reactions_limit),
    )

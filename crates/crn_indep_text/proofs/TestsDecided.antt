-- The tests of a document on the finest independent decomposition are decided, whatever its records hold.
use Rattle.crn_indep_text.proofs.Prelude.{◌≡◌, ◌≢◌, ◌≤◌, ◌<◌, ◌+◌, ◌-◌, ℕ, zero, suc, List, [], ◌∷◌, length, refl, subst, arith, pos, slice_index, AllByRecursion, IsIn, Net, entry, all_in, all_from, RankProof, AreNumbered, IsDecided, both_decided, one_decided, in_decided, not_decided, if_decided, moved, nat_decided, int_decided, all_decided, each_below, some_below, numbered_decided, tree_decided, some_number, label_of, combined, comb_for, DrawsOn, AreTied, AreEvenLabels, HangsByTie, AreLinked}

-- ---- ties

-- what a reaction draws on at a place of the base
abbrev Some : Net → RankProof → ℕ → ℕ → Type 0
Some net proof r place = entry (comb_for (combined net proof) proof.combs r) (suc place) ≢ pos 0

some_decided : (net : Net) (proof : RankProof) (r place : ℕ) → IsDecided (Some net proof r place)
some_decided net proof r place = not_decided (int_decided (entry (comb_for (combined net proof) proof.combs r) (suc place)) (pos 0))

draws_decided : (net : Net) (proof : RankProof) (r q : ℕ) → IsDecided (DrawsOn net proof r q)
draws_decided net proof r q =
    moved {P = IsIn r (combined net proof) × ((place : ℕ) × (place < length proof.base.list) × ((slice_index proof.base.list place ≡ q) × Some net proof r place))}
    (λ h. record { out = h.0; place = h.1.0; inside = h.1.1; member = h.1.2.0; some = h.1.2.1 }) (λ h. (h.out, (h.place, h.inside, (h.member, h.some))))
    (both_decided (in_decided nat_decided r (combined net proof)) (some_below (λ place. (slice_index proof.base.list place ≡ q) × Some net proof r place)
    (λ place. both_decided (nat_decided (slice_index proof.base.list place) q) (some_decided net proof r place)) (length proof.base.list)))

tied_decided : (net : Net) (proof : RankProof) (r q : ℕ) → IsDecided (AreTied net proof r q)
tied_decided net proof r q = one_decided (draws_decided net proof r q) (draws_decided net proof q r)

-- ---- labels

-- all numbers of a list together
abbrev total : List ℕ → ℕ
total [] = 0
total (x ∷ xs) = x + total xs

below_total : (xs : List ℕ) (y : ℕ) → y < length xs → slice_index xs y ≤ total xs
below_total [] y lt = absurd (omega (arith, lt))
below_total (x ∷ xs) zero lt = omega arith
below_total (x ∷ xs) (suc y) lt = omega (arith, below_total xs y (omega (arith, lt)))

-- no more labels than that
few_labels : (labels : List ℕ) (k : ℕ) → suc (total labels) ≤ k → AreNumbered labels k → ⊥
few_labels labels k past n =
    let c = n.count_is in
    let e = c.each in
    let h = e k (omega (arith, past)) (omega arith) in
    omega (arith, past, below_total labels h.0 h.1, h.2)

some_count_decided : (labels : List ℕ) → IsDecided ((count : ℕ) × AreNumbered labels count)
some_count_decided labels = some_number (AreNumbered labels) (numbered_decided labels) (suc (total labels)) (few_labels labels)

-- whatever reaction r draws on has its label
abbrev Even : Net → RankProof → List ℕ → ℕ → Type 0
Even net proof labels r = (place : ℕ) → place < length proof.base.list → Some net proof r place
    → label_of labels r ≡ label_of labels (slice_index proof.base.list place)

even_decided : (net : Net) (proof : RankProof) (labels : List ℕ) (r : ℕ) → IsDecided (Even net proof labels r)
even_decided net proof labels r = each_below (λ place. Some net proof r place → label_of labels r ≡ label_of labels (slice_index proof.base.list place))
    (λ place. if_decided (some_decided net proof r place) (nat_decided (label_of labels r) (label_of labels (slice_index proof.base.list place)))) (length proof.base.list)

pub even_labels_decided : (net : Net) (proof : RankProof) (labels : List ℕ) → IsDecided (AreEvenLabels net proof labels)
even_labels_decided net proof labels =
    moved {P = ((count : ℕ) × AreNumbered labels count) × AllByRecursion (Even net proof labels) (combined net proof)}
    (λ h. record { count = h.0.0; numbered = h.0.1; even = λ r q d. subst (λ x. label_of labels r ≡ label_of labels x) d.member (all_in (Even net proof labels) (combined net proof) r h.1 d.out d.place d.inside d.some) })
    (λ h. ((h.count, h.numbered), all_from (Even net proof labels) (combined net proof) (λ r i place lt s. let e = h.even in e r (slice_index proof.base.list place) (record { out = i; place = place; inside = lt; member = refl; some = s }))))
    (both_decided (some_count_decided labels) (all_decided (Even net proof labels) (even_decided net proof labels) (combined net proof)))

-- ---- links

hangs_decided : (net : Net) (proof : RankProof) (up depth : List ℕ) (j : ℕ) → IsDecided (HangsByTie net proof up depth j)
hangs_decided net proof up depth j =
    moved {P = AreTied net proof (suc j) (slice_index up j) × (slice_index depth j ≡ suc (slice_index depth (slice_index up j - 1)))}
    (λ h. record { tied = h.0; deeper = h.1 }) (λ h. (h.tied, h.deeper))
    (both_decided (tied_decided net proof (suc j) (slice_index up j)) (nat_decided (slice_index depth j) (suc (slice_index depth (slice_index up j - 1)))))

pub linked_decided : (net : Net) (proof : RankProof) (labels up depth : List ℕ) → IsDecided (AreLinked net proof labels up depth)
linked_decided net proof labels up depth = each_below _ (λ j. tree_decided (HangsByTie net proof up depth) labels up depth j (hangs_decided net proof up depth j)) (length net.reactions)

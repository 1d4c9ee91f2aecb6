-- A network is weakly reversible if and only if the two complexes of each reaction have one label of strong classes.
use Rattle.crn_vec.proofs.Prelude.{◌≡◌, ◌≢◌, ℕ, ◌<◌, List, length, get_or, inl, sym, ap, subst, ◌∙◌, arith, IsIn, Net, IsNetwork, AreRightStrongLabels, StaysStrong, IsWeaklyReversible}
use Rattle.crn_vec.proofs.WalkLaws.{class_link, weakly_reversible_by_reactions}
use Rattle.crn_vec.proofs.Reached.{inside_at, place_of, reaction_in}

-- the complexes of reaction r have one label
abbrev pub IsEvenAt : Net → List ℕ → ℕ → Type 0
IsEvenAt net labels r = get_or labels (get_or net.reactions r (0, 0)).0 0 ≡ get_or labels (get_or net.reactions r (0, 0)).1 0

pub even_at : (net : Net) (labels : List ℕ) (r y z : ℕ) → y ≡ (get_or net.reactions r (0, 0)).0 → z ≡ (get_or net.reactions r (0, 0)).1 → get_or labels y 0 ≡ get_or labels z 0 → IsEvenAt net labels r
even_at net labels r y z from to e = ap (λ (c : ℕ). get_or labels c 0) (sym from) ∙ e ∙ ap (λ (c : ℕ). get_or labels c 0) to

pub weak_if_even : (net : Net) (labels : List ℕ) → IsNetwork net → AreRightStrongLabels net.reactions labels → length labels ≡ length net.complexes → ((r : ℕ) → r < length net.reactions → IsEvenAt net labels r) → IsWeaklyReversible net.reactions
weak_if_even net labels n right long even = (weakly_reversible_by_reactions net.reactions).0 stays
  where
    stays : StaysStrong net.reactions
    stays y z i =
        let k = place_of (y, z) net.reactions i in
        let at = inside_at (length net.complexes) net.reactions n.partial.apart y z i in
        right.same y z (omega (arith, at.0, long)) (omega (arith, at.1, long)) (subst (λ (p : ℕ × ℕ). get_or labels p.0 0 ≡ get_or labels p.1 0) k.2 (even k.0 k.1))

pub uneven_not_weak : (net : Net) (labels : List ℕ) (r y z : ℕ) → AreRightStrongLabels net.reactions labels → length labels ≡ length net.complexes → r < length net.reactions → y ≡ (get_or net.reactions r (0, 0)).0 → z ≡ (get_or net.reactions r (0, 0)).1
    → y < length net.complexes → z < length net.complexes → get_or labels y 0 ≢ get_or labels z 0 → IsWeaklyReversible net.reactions → ⊥
uneven_not_weak net labels r y z right long lt from to ly lz ne weak =
    let at : get_or net.reactions r (0, 0) ≡ (y, z) = sym (ap (λ (k : ℕ). (k, z)) from ∙ ap (λ (k : ℕ). ((get_or net.reactions r (0, 0)).0, k)) to) in
    let i : IsIn (y, z) net.reactions = reaction_in net.reactions r (y, z) lt at in
    ne (right.together y z (omega (arith, ly, long)) (omega (arith, lz, long)) (weak y z (class_link net.reactions y z (inl i))))

-- What the form of a proof of a rank gives for its tests.
use Rattle.crn_check.proofs.Prelude.{◌≡◌, ℕ, ◌+◌, ◌≤◌, List, [], ◌∷◌, length, refl, ap, arith, filter, range_with_len, length-range_with_len, MAX_REACTIONS, IsAscending, Net, IsNetwork, all_from, filter_few, filter_from, filter_ascending, RankProof, IsFrom, IsRankProof, outside, range_ascending, range_bounds, Members, All, IsBase, is_member, members_of}
use Rattle.crn_check.proofs.Outside.{outside_long}

members_few : (net : Net) (m : Members) → length (members_of net m) ≤ length net.reactions
members_few net m = let few = filter_few (is_member net m) (range_with_len 1 (length net.reactions)) in omega (arith, few, length-range_with_len 1 (length net.reactions))

members_ascending : (net : Net) (m : Members) → IsAscending (members_of net m)
members_ascending net m = filter_ascending (is_member net m) (range_with_len 1 (length net.reactions)) (range_ascending 1 (length net.reactions))

-- the members outside the base are all but as many as it has
pub base_outside : (net : Net) (m : Members) (rank : ℕ) (proof : RankProof) → IsRankProof net (members_of net m) rank proof → length (outside proof.base.list (members_of net m)) + length proof.base.list ≡ length (members_of net m)
base_outside net m rank proof h = outside_long proof.base.list (members_of net m) h.ascending (members_ascending net m) h.from

pub base_few : (net : Net) (m : Members) (rank : ℕ) (proof : RankProof) → IsNetwork net → IsRankProof net (members_of net m) rank proof → length proof.base.list ≤ MAX_REACTIONS
base_few net m rank proof n h = omega (arith, base_outside net m rank proof h, members_few net m, n.partial.reactions_limit)

-- there are few combinations
pub combs_few : (net : Net) (m : Members) (rank : ℕ) (proof : RankProof) → IsNetwork net → IsRankProof net (members_of net m) rank proof → length proof.combs ≤ MAX_REACTIONS
combs_few net m rank proof n h = omega (arith, h.combs.long, members_few net m, n.partial.reactions_limit)

pub base_is : (net : Net) (m : Members) (rank : ℕ) (proof : RankProof) → IsNetwork net → IsRankProof net (members_of net m) rank proof → IsBase net proof.base.list
base_is net m rank proof n h = record {
  network = n;
  members = all_from (IsFrom 1 (length net.reactions)) proof.base.list (λ r i.
      let b = range_bounds r 1 (length net.reactions) (filter_from (is_member net m) (range_with_len 1 (length net.reactions)) r (h.from r i)).0 in
      (b.0, omega (arith, b.1)));
  count = base_few net m rank proof n h;
}

pub duals_few : (net : Net) (m : Members) (rank : ℕ) (proof : RankProof) → IsNetwork net → IsRankProof net (members_of net m) rank proof → length proof.duals ≤ MAX_REACTIONS
duals_few net m rank proof n h = omega (arith, base_few net m rank proof n h, h.long, h.duals.long)

-- all reactions are members of all
pub all_members : (net : Net) → members_of net All ≡ range_with_len 1 (length net.reactions)
all_members net = go (range_with_len 1 (length net.reactions))
  where
    go : (rs : List ℕ) → filter (is_member net All) rs ≡ rs
    go [] = refl
    go (r ∷ rs) = ap (λ (l : List ℕ). r ∷ l) (go rs)

-- ---- members by their numbers

-- The tests of a document on persistence are decided, whatever its records hold.
use Rattle.crn_siphon_text.proofs.Prelude.{◌≡◌, ◌≢◌, ◌≤◌, ◌<◌, ◌-◌, ℕ, zero, suc, Bool, true, false, List, [], ◌∷◌, length, get_or, inl, inr, arith, ℤ, pos, ◌≤ℤ◌, AllByRecursion, ints, false≢true, Net, Holds, amount_at, entry, dot, combination_at, vectors, all_in, all_from, past_end, lt_or, IsDecided, both_decided, not_decided, if_decided, moved, nat_decided, le_decided, bool_decided, int_decided, int_le_decided, all_decided, each_below, some_below, HasMember, HoldsMember, IsClosed, IsSiphon, IsSemiLaw, IsZeroOutside, Covers, IsOut, IsBad, IsVoid}

-- ---- members

-- a member is a species of the set's length
member_inside : (set : List Bool) (s : ℕ) → HasMember set s → s < length set
member_inside [] s h = absurd (false≢true h)
member_inside (b ∷ set) zero h = omega arith
member_inside (b ∷ set) (suc s) h = omega (arith, member_inside set s h)

-- an amount of at least 1 stands inside
amount_inside : (amounts : List ℤ) (s : ℕ) → pos 1 ≤ℤ entry amounts s → s < length amounts
amount_inside amounts s h = elim (lt_or s (length amounts)) [
  | inl lt ↦ lt
  | inr past ↦ absurd (let none : entry amounts s ≡ pos 0 = past_end amounts s past in omega (arith, ints, none, h))
]

member_decided : (set : List Bool) (s : ℕ) → IsDecided (HasMember set s)
member_decided set s = bool_decided (get_or set s false) true

holds_decided : (net : Net) (c s : ℕ) → IsDecided (Holds net c s)
holds_decided net c s = int_le_decided (pos 1) (amount_at net c s)

holds_member_decided : (net : Net) (set : List Bool) (c : ℕ) → IsDecided (HoldsMember net set c)
holds_member_decided net set c =
    moved {P = (s : ℕ) × (s < length set) × (HasMember set s × Holds net c s)} (λ h. (h.0, h.2.0, h.2.1)) (λ h. (h.0, member_inside set h.0 h.1, (h.1, h.2)))
    (some_below (λ s. HasMember set s × Holds net c s) (λ s. both_decided (member_decided set s) (holds_decided net c s)) (length set))

-- ---- siphons

closed_decided : (net : Net) (set : List Bool) → IsDecided (IsClosed net set)
closed_decided net set =
    moved {P = AllByRecursion (λ (r : ℕ × ℕ). HoldsMember net set r.1 → HoldsMember net set r.0) net.reactions}
    (λ h r i. all_in (λ (r : ℕ × ℕ). HoldsMember net set r.1 → HoldsMember net set r.0) net.reactions r h i)
    (λ h. all_from (λ (r : ℕ × ℕ). HoldsMember net set r.1 → HoldsMember net set r.0) net.reactions h)
    (all_decided (λ (r : ℕ × ℕ). HoldsMember net set r.1 → HoldsMember net set r.0) (λ r. if_decided (holds_member_decided net set r.1) (holds_member_decided net set r.0)) net.reactions)

some_member_decided : (set : List Bool) → IsDecided ((s : ℕ) × HasMember set s)
some_member_decided set =
    moved {P = (s : ℕ) × (s < length set) × HasMember set s} (λ h. (h.0, h.2)) (λ h. (h.0, member_inside set h.0 h.1, h.1))
    (some_below (HasMember set) (member_decided set) (length set))

pub siphon_decided : (net : Net) (set : List Bool) → IsDecided (IsSiphon net set)
siphon_decided net set =
    moved {P = (length set ≡ length net.names) × (((s : ℕ) × HasMember set s) × IsClosed net set)} (λ h. record { long = h.0; some = h.1.0; closed = h.1.1 }) (λ h. (h.long, (h.some, h.closed)))
    (both_decided (nat_decided (length set) (length net.names)) (both_decided (some_member_decided set) (closed_decided net set)))

pub covers_decided : (net : Net) (set : List Bool) (numbers : List ℤ) → IsDecided (Covers net set numbers)
covers_decided net set numbers =
    moved {P = (length numbers ≡ length net.reactions) × ((s : ℕ) → s < length set → HasMember set s → pos 1 ≤ℤ combination_at numbers (vectors net) s)}
    (λ h. record { long = h.0; increases = λ s m. h.1 s (member_inside set s m) m }) (λ h. (h.long, λ s lt m. (let i = h.increases in i s m)))
    (both_decided (nat_decided (length numbers) (length net.reactions))
    (each_below (λ s. HasMember set s → pos 1 ≤ℤ combination_at numbers (vectors net) s) (λ s. if_decided (member_decided set s) (int_le_decided (pos 1) (combination_at numbers (vectors net) s))) (length set)))

-- ---- laws

nonzero_inside : (x : List ℤ) (s : ℕ) → entry x s ≢ pos 0 → s < length x
nonzero_inside x s h = elim (lt_or s (length x)) [ inl lt ↦ lt | inr past ↦ absurd (h (past_end x s past)) ]

some_weight_decided : (x : List ℤ) → IsDecided ((s : ℕ) × (entry x s ≢ pos 0))
some_weight_decided x =
    moved {P = (s : ℕ) × (s < length x) × (entry x s ≢ pos 0)} (λ h. (h.0, h.2)) (λ h. (h.0, nonzero_inside x h.0 h.1, h.1))
    (some_below (λ s. entry x s ≢ pos 0) (λ s. not_decided (int_decided (entry x s) (pos 0))) (length x))

semi_law_decided : (net : Net) (x : List ℤ) → IsDecided (IsSemiLaw net x)
semi_law_decided net x =
    moved {P = (length x ≡ length net.names) × (AllByRecursion (λ w. pos 0 ≤ℤ w) x × (((s : ℕ) × (entry x s ≢ pos 0)) × AllByRecursion (λ v. dot x v ≡ pos 0) (vectors net)))}
    (λ h. record { long = h.0; weights = h.1.0; some = h.1.1.0; conserved = h.1.1.1 }) (λ h. (h.long, (h.weights, (h.some, h.conserved))))
    (both_decided (nat_decided (length x) (length net.names)) (both_decided (all_decided (λ w. pos 0 ≤ℤ w) (λ w. int_le_decided (pos 0) w) x)
    (both_decided (some_weight_decided x) (all_decided (λ v. dot x v ≡ pos 0) (λ v. int_decided (dot x v) (pos 0)) (vectors net)))))

zero_outside_decided : (set : List Bool) (x : List ℤ) → IsDecided (IsZeroOutside set x)
zero_outside_decided set x =
    moved {P = (s : ℕ) → s < length x → (HasMember set s → ⊥) → entry x s ≡ pos 0}
    (λ h s none. elim (lt_or s (length x)) [ inl lt ↦ h s lt none | inr past ↦ past_end x s past ]) (λ h s lt none. h s none)
    (each_below (λ s. (HasMember set s → ⊥) → entry x s ≡ pos 0) (λ s. if_decided (not_decided (member_decided set s)) (int_decided (entry x s) (pos 0))) (length x))

pub law_node_decided : (net : Net) (prefix : List Bool) (x : List ℤ) → IsDecided (IsSemiLaw net x × IsZeroOutside prefix x)
law_node_decided net prefix x = both_decided (semi_law_decided net x) (zero_outside_decided prefix x)

-- ---- other nodes

pub bad_decided : (net : Net) (prefix : List Bool) (r : ℕ) → IsDecided (IsBad net prefix r)
bad_decided net prefix r =
    let ends = get_or net.reactions (r - 1) (0, 0) in
    moved {P = ((1 ≤ r) × (r ≤ length net.reactions)) × (HoldsMember net prefix ends.1 × ((s : ℕ) → s < length (get_or net.complexes ends.0 []) → Holds net ends.0 s → IsOut prefix s))}
    (λ h. record { inside = h.0; product = h.1.0; reactant = λ s held. h.1.1 s (amount_inside (get_or net.complexes ends.0 []) s held) held }) (λ h. (h.inside, (h.product, λ s lt held. (let out = h.reactant in out s held))))
    (both_decided (both_decided (le_decided 1 r) (le_decided r (length net.reactions)))
    (both_decided (holds_member_decided net prefix ends.1)
    (each_below (λ s. Holds net ends.0 s → IsOut prefix s) (λ s. if_decided (holds_decided net ends.0 s) (bool_decided (get_or prefix s true) false)) (length (get_or net.complexes ends.0 [])))))

pub void_decided : (net : Net) (prefix : List Bool) → IsDecided (IsVoid net prefix)
void_decided net prefix =
    moved {P = (length prefix ≡ length net.names) × ((s : ℕ) → s < length prefix → HasMember prefix s → ⊥)}
    (λ h. record { full = h.0; none = λ s m. h.1 s (member_inside prefix s m) m }) (λ h. (h.full, λ s lt m. (let n = h.none in n s m)))
    (both_decided (nat_decided (length prefix) (length net.names)) (each_below (λ s. HasMember prefix s → ⊥) (λ s. not_decided (member_decided prefix s)) (length prefix)))

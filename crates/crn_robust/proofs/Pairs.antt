-- Pairs of complexes that differ at one species alone.
use Rattle.crn_robust.proofs.Prelude.{◌≡◌, ℕ, ◌+◌, ◌<◌, ◌≤◌, inl, inr, List, [], length, get_or, sym, subst, ◌∙◌, arith, ℤ, Net, IsNetwork, MAX_SPECIES, MAX_COMPLEXES, entry, eq_or, lt_or, past_end, vector_long, DifferAt, IsRobustPair, IsLeastPair, IsNoLater, IsDifference, HasNoPartner, HasNoFirst}

-- lists as long as each other agree past their end
agree_past : (one two : List ℤ) (t : ℕ) → length one ≡ length two → length one ≤ t → entry one t ≡ entry two t
agree_past one two t l le = past_end one t le ∙ sym (past_end two t (omega (arith, l, le)))

pub lone_is : (one two : List ℤ) (s t : ℕ) → length one ≡ length two → IsDifference one two 0 s → s < length one → IsDifference one two (s + 1) t → length one ≤ t → DifferAt one two s
lone_is one two s t l first lt rest le = record {
  inside = lt;
  differ = first.differ lt;
  others = λ k ne. elim (lt_or k s) as (λ _. entry one k ≡ entry two k) [
    | inl before ↦ first.same k (omega arith) before
    | inr from ↦ elim (lt_or k (length one)) as (λ _. entry one k ≡ entry two k) [
      | inl inside ↦ rest.same k (omega (arith, from, ne)) (omega (arith, inside, le))
      | inr past ↦ agree_past one two k l past
    ]
  ];
}

-- no place differs, or a second one does
pub none_lone : (one two : List ℤ) (s : ℕ) → IsDifference one two 0 s → length one ≤ s → (k : ℕ) → DifferAt one two k → ⊥
none_lone one two s first le k d = d.differ (first.same k (omega arith) (omega (arith, d.inside, le)))

pub two_lone : (one two : List ℤ) (s t : ℕ) → IsDifference one two 0 s → s < length one → IsDifference one two (s + 1) t → t < length one → (k : ℕ) → DifferAt one two k → ⊥
two_lone one two s t first lt rest less k d = elim (eq_or k s) as (λ _. ⊥) [
  | inl e ↦ rest.differ less (d.others t (λ f. omega (arith, e, f, rest.later)))
  | inr ne ↦ first.differ lt (d.others s (λ f. ne (sym f)))
]

-- ---- pairs in order

pub partner_more : (net : Net) (c d : ℕ) → HasNoPartner net c d → ((s : ℕ) → IsRobustPair net s c d → ⊥) → HasNoPartner net c (d + 1)
partner_more net c d before here s e lt p = elim (eq_or e d) as (λ _. ⊥) [
  | inl same ↦ here s (subst (λ (k : ℕ). IsRobustPair net s c k) same p)
  | inr ne ↦ before s e (omega (arith, lt, ne)) p
]

pub first_more : (net : Net) (c : ℕ) → HasNoFirst net c → ((s d : ℕ) → IsRobustPair net s c d → ⊥) → HasNoFirst net (c + 1)
first_more net c before here s b d lt p = elim (eq_or b c) as (λ _. ⊥) [
  | inl same ↦ here s d (subst (λ (k : ℕ). IsRobustPair net s k d) same p)
  | inr ne ↦ before s b d (omega (arith, lt, ne)) p
]

pub least_by : (net : Net) (s c d : ℕ) → HasNoFirst net c → HasNoPartner net c d → IsRobustPair net s c d → IsLeastPair net s c d
least_by net s c d none few p = record {
  pair = p;
  least = λ t x y q. elim (lt_or x c) as (λ _. IsNoLater c d x y) [
    | inl before ↦ absurd (none t x y before q)
    | inr from ↦ elim (eq_or x c) as (λ _. IsNoLater c d x y) [
      | inr ne ↦ inl (omega (arith, from, ne))
      | inl same ↦ inr (
        sym same,
        elim (lt_or y d) as (λ _. d ≤ y) [
          | inl less ↦ absurd (few t y less (subst (λ (k : ℕ). IsRobustPair net t k y) same q))
          | inr le ↦ le
        ],
      )
    ]
  ];
}

-- ---- sizes

-- the numbers of a pair are small
pub pair_small : (net : Net) (s c d : ℕ) → IsNetwork net → IsRobustPair net s c d → (s < MAX_SPECIES) × (c < MAX_COMPLEXES) × (d < MAX_COMPLEXES)
pair_small net s c d n p =
    let inside : c < length net.complexes = omega (arith, p.before, p.inside) in
    let width : length (get_or net.complexes c []) ≡ length net.names = vector_long (length net.names) net.complexes n.partial.vectors c inside in (
      omega (arith, p.species.inside, width, n.partial.species_limit),
      omega (arith, inside, n.partial.complexes_limit),
      omega (arith, p.inside, n.partial.complexes_limit),
    )

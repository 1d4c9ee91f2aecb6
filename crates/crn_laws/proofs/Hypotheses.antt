-- Terminal classes and cut pairs of weakly reversible networks.
use Rattle.crn_laws.proofs.Prelude.{◌⊎◌, ℕ, ◌<◌, inl, inr, List, [], ◌∷◌, length, refl, sym, subst, along_map, class_link, cut_back, eq_or, free_back, is_between, leads_here, IsIn, IsLinked, SameClass, IsWeaklyReversible, IsTerminal, ReactsTo, IsBetween, IsCutPair, IsFreeStep, IsRegular, WeaklyReversibleHaveOneTerminalEach, WeaklyReversibleAreRegularByCutPairs, WeaklyReversibleAreRegularOrFail}
use Rattle.crn_laws.proofs.Dependence.{weakly_reversible_are_dependent}
use Rattle.crn_laws.proofs.Labelled.{classes_of}

terminal : (rs : List (ℕ × ℕ)) → IsWeaklyReversible rs → (y : ℕ) → IsTerminal rs y
terminal rs weak y z walk = (weak y z (walk.0, along_map (ReactsTo rs) (IsLinked rs) (λ v w i. inl i) y z walk.0 walk.1)).1

pub weakly_reversible_have_one_terminal_each : WeaklyReversibleHaveOneTerminalEach
weakly_reversible_have_one_terminal_each net weak y inside =
    let rs = net.reactions in (
      y ∷ [],
      record {
        members = λ z i. elim i [
          | inl e ↦ subst (λ (w : ℕ). (w < length net.complexes) × SameClass rs y w × IsTerminal rs w) (sym e) (inside, leads_here (IsLinked rs) y, terminal rs weak y)
          | inr j ↦ absurd j
        ];
        apart = (λ z i s. absurd i, tt);
        each = λ z h. (y, inl refl, weak y z h.1);
      },
      refl,
    )

pub weakly_reversible_are_regular_by_cut_pairs : WeaklyReversibleAreRegularByCutPairs
weakly_reversible_are_regular_by_cut_pairs net n weak = (
  λ regular y z link. regular.cut_pairs y z (record { linked = link; within = weak y z (class_link net.reactions y z link); terminal = terminal net.reactions weak y }),
  λ all. record {
    terminal = weakly_reversible_have_one_terminal_each net weak;
    dependent = weakly_reversible_are_dependent net n weak;
    cut_pairs = λ y z pair. all y z pair.linked;
  },
)

-- ---- whether a pair is a cut pair

-- the reactions that are not between a and b
record Others (a b : ℕ) (rs : List (ℕ × ℕ)) : Type 0 where
  rest : List (ℕ × ℕ)
  from : (y z : ℕ) → IsIn (y, z) rest → IsIn (y, z) rs × (IsBetween a b y z → ⊥)
  has : (y z : ℕ) → IsIn (y, z) rs → (IsBetween a b y z → ⊥) → IsIn (y, z) rest

others : (a b : ℕ) (rs : List (ℕ × ℕ)) → Others a b rs
others a b [] = record { rest = []; from = λ y z i. absurd i; has = λ y z i free. i }
others a b (r ∷ rs) =
    let o = others a b rs in
    elim (is_between a b r.0 r.1) as (λ _. Others a b (r ∷ rs)) [
      | inl between ↦ record {
        rest = o.rest;
        from = λ y z i. let f = o.from y z i in (inr f.0, f.1);
        has = λ y z i free. elim i as (λ _. IsIn (y, z) o.rest) [
          | inl e ↦ absurd (free (subst (λ (q : ℕ × ℕ). IsBetween a b q.0 q.1) (sym e) between))
          | inr j ↦ o.has y z j free
        ];
      }
      | inr apart ↦ record {
        rest = r ∷ o.rest;
        from = λ y z i. elim i as (λ _. IsIn (y, z) (r ∷ rs) × (IsBetween a b y z → ⊥)) [
          | inl e ↦ (inl e, λ between. apart (subst (λ (q : ℕ × ℕ). IsBetween a b q.0 q.1) e between))
          | inr j ↦ let f = o.from y z j in (inr f.0, f.1)
        ];
        has = λ y z i free. elim i as (λ _. IsIn (y, z) (r ∷ o.rest)) [ inl e ↦ inl e | inr j ↦ inr (o.has y z j free) ];
      }
    ]

cut_or : (rs : List (ℕ × ℕ)) (a b : ℕ) → IsLinked rs a b → IsCutPair rs a b ⊎ (IsCutPair rs a b → ⊥)
cut_or rs a b link =
    let o = others a b rs in
    let c = classes_of o.rest in
    let F = IsFreeStep rs a b in
    let free : (y z : ℕ) → IsLinked o.rest y z → F y z = λ y z link. elim link as (λ _. F y z) [
      | inl i ↦ let f = o.from y z i in (inl f.0, f.1)
      | inr i ↦ let f = o.from z y i in free_back rs a b z y (inl f.0, f.1)
    ] in
    let back : (y z : ℕ) → F y z → IsLinked o.rest y z = λ y z step. elim step.0 as (λ _. IsLinked o.rest y z) [
      | inl i ↦ inl (o.has y z i step.1)
      | inr i ↦ inr (o.has z y i (free_back rs a b y z step).1)
    ] in
    elim (eq_or (c.of a) (c.of b)) as (λ _. IsCutPair rs a b ⊎ (IsCutPair rs a b → ⊥)) [
      | inl e ↦ let walk = c.same a b e in inr (λ cut. cut.cut (walk.0, along_map (IsLinked o.rest) F free a b walk.0 walk.1))
      | inr ne ↦ inl (record { linked = link; cut = λ walk. ne (c.together a b (walk.0, along_map F (IsLinked o.rest) back a b walk.0 walk.1)) })
    ]

-- all pairs of these reactions are cut pairs, or one is none
all_cut_or : (rs qs : List (ℕ × ℕ)) → ((q : ℕ × ℕ) → IsIn q qs → IsIn q rs) → ((y z : ℕ) → IsIn (y, z) qs → IsCutPair rs y z) ⊎ ((y : ℕ) × (z : ℕ) × IsLinked rs y z × (IsCutPair rs y z → ⊥))
all_cut_or rs [] within = inl (λ y z i. absurd i)
all_cut_or rs (q ∷ qs) within =
    let link : IsLinked rs q.0 q.1 = inl (within q (inl refl)) in
    elim (cut_or rs q.0 q.1 link) as (λ _. ((y z : ℕ) → IsIn (y, z) (q ∷ qs) → IsCutPair rs y z) ⊎ ((y : ℕ) × (z : ℕ) × IsLinked rs y z × (IsCutPair rs y z → ⊥))) [
      | inr none ↦ inr (q.0, q.1, link, none)
      | inl here ↦ elim (all_cut_or rs qs (λ p i. within p (inr i))) as (λ _. ((y z : ℕ) → IsIn (y, z) (q ∷ qs) → IsCutPair rs y z) ⊎ ((y : ℕ) × (z : ℕ) × IsLinked rs y z × (IsCutPair rs y z → ⊥))) [
        | inr one ↦ inr one
        | inl all ↦ inl (λ y z i. elim i as (λ _. IsCutPair rs y z) [ inl e ↦ subst (λ (w : ℕ × ℕ). IsCutPair rs w.0 w.1) (sym e) here | inr j ↦ all y z j ])
      ]
    ]

pub weakly_reversible_are_regular_or_fail : WeaklyReversibleAreRegularOrFail
weakly_reversible_are_regular_or_fail net n weak =
    let rs = net.reactions in
    elim (all_cut_or rs rs (λ q i. i)) as (λ _. IsRegular net ⊎ ((y : ℕ) × (z : ℕ) × IsLinked rs y z × (IsCutPair rs y z → ⊥))) [
      | inr one ↦ inr one
      | inl all ↦ inl ((weakly_reversible_are_regular_by_cut_pairs net n weak).1 (λ y z link. elim link as (λ _. IsCutPair rs y z) [ inl i ↦ all y z i | inr i ↦ cut_back rs z y (all z y i) ]))
    ]
